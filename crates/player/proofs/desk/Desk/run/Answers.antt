-- The advance that was made, and its reply.
use Rattle.std.proofs.Common.{Ok, Err, refl, ap, ◌∙◌}
use Rattle.std.proofs.lemmas.Result.{err_from_is_err_and}
use Rattle.model.specs.Run.{advance}
use Rattle.scheduler.specs.Seen.{core_of}
use Rattle.player.specs.Playing.{blank_spans, blank_events, reply_on}
use Rattle.player.proofs.Progress.{runs_one}
use Rattle.player.proofs.desk.Desk.run.Goals as goal

pub returns-in_err-ran-clause-advances : goal.returns-in_err-ran-clause-advances
returns-in_err-ran-clause-advances g c line rest =
    let told = err_from_is_err_and c.from_residual.result c.from_residual.ensures.1 in
    let e = c.in_err-ran.field-0.0 in (
      advance c.args.ticks blank_spans blank_events (Err e) c.advance.new.spans c.advance.new.finished,
      record {
        ran = Err e;
        spans = c.advance.new.spans;
        events = c.advance.new.finished;
        after = core_of c.advance.new.self;
        advanced = c.in_err-ran.ensures.advanced;
        replied = ap (reply_on line) (told.1 ∙ ap Err told.2);
        called = refl;
        place_after = refl;
      },
    )

pub returns-clause-less : goal.returns-clause-less
returns-clause-less g c =
    runs_one (core_of c.args.self.now.core) c.args.ticks c.in_ok-ran.ran (core_of c.advance.new.self) c.advance.new.spans c.advance.new.finished c.in_ok-ran.ensures.advanced

pub returns-clause-advances : goal.returns-clause-advances
returns-clause-advances g c line rest = (
  advance c.args.ticks blank_spans blank_events (Ok c.in_ok-ran.ran) c.advance.new.spans c.advance.new.finished,
  record {
    ran = Ok c.in_ok-ran.ran;
    spans = c.advance.new.spans;
    events = c.advance.new.finished;
    after = core_of c.advance.new.self;
    advanced = c.in_ok-ran.ensures.advanced;
    replied = refl;
    called = refl;
    place_after = refl;
  },
)
