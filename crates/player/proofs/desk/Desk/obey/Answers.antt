-- Each command by the call that it makes.
use Rattle.std.proofs.Common.{[], ◌∷◌, rules, Ok, Err, refl, ap, ◌∙◌, ◌≡◌}
use Rattle.std.proofs.lemmas.Result.{err_from_is_err_and}
use Rattle.sheet.specs.declared.command.Command.TheVariants.{Raise, Strobe, Advance}
use Rattle.model.specs.Run.{raise, strobe}
use Rattle.scheduler.specs.Seen.{core_of}
use Rattle.player.specs.Playing.{reply_on}
use Rattle.player.proofs.desk.Desk.obey.Goals as goal

pub returns-in_err-answer-in-Raise : goal.returns-in_err-answer-in-Raise
returns-in_err-answer-in-Raise g c line rest =
    let read : c.args.read ≡ Ok (Raise c.in-Raise.line c.in-Raise.tag) = search rules in
    let told = err_from_is_err_and c.from_residual-in_err-answer-in-Raise.result c.from_residual-in_err-answer-in-Raise.ensures.1 in
    let answer = Err c.in_err-answer-in-Raise.field-0.0 in
    let made = raise c.args.self.now.mask.word c.in-Raise.line c.in-Raise.tag answer in
    rw read (
      made ∷ [],
      (
        made,
        record {
          answer = answer;
          after = core_of c.raise.new.self;
          raised = c.in_err-answer-in-Raise.ensures.raised;
          replied = ap (reply_on line) (told.1 ∙ ap Err told.2);
          called = refl;
          place_after = refl;
        },
        refl,
      ),
    )

pub returns-in_ok-answer-in-Raise : goal.returns-in_ok-answer-in-Raise
returns-in_ok-answer-in-Raise g c line rest =
    let read : c.args.read ≡ Ok (Raise c.in-Raise.line c.in-Raise.tag) = search rules in
    let answer = Ok c.in_ok-answer-in-Raise.answer in
    let made = raise c.args.self.now.mask.word c.in-Raise.line c.in-Raise.tag answer in
    rw read (
      made ∷ [],
      (
        made,
        record {
          answer = answer;
          after = core_of c.raise.new.self;
          raised = c.in_ok-answer-in-Raise.ensures.raised;
          replied = c.from.ensures;
          called = refl;
          place_after = refl;
        },
        refl,
      ),
    )

pub returns-in-Strobe : goal.returns-in-Strobe
returns-in-Strobe g c line rest =
    let read : c.args.read ≡ Ok (Strobe c.in-Strobe.word c.in-Strobe.tag) = search rules in
    let made = strobe c.args.self.now.mask.word c.in-Strobe.word c.in-Strobe.tag c.strobe-taken.result in
    rw read (
      made ∷ [],
      (
        made,
        record {
          words = c.strobe-taken.result;
          after = core_of c.strobe-taken.new.self;
          strobed = c.strobe-taken.ensures.strobed;
          replied = refl;
          called = refl;
          place_after = refl;
        },
        refl,
      ),
    )

pub returns-in-Advance : goal.returns-in-Advance
returns-in-Advance g c line rest =
    let read : c.args.read ≡ Ok (Advance c.in-Advance.ticks) = search rules in
    let ran = c.run.ensures.advances line rest in
    rw read (ran.0 ∷ [], (ran.0, ran.1, refl))
