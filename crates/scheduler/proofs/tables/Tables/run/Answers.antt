-- Each turn is one stretch more; it stops where the next tick has no place.
use Rattle.std.proofs.Common.{◌≡◌, ◌+◌, ◌-◌, ◌^◌, ◌<◌, ◌≤◌, true, false, not, leb, length, take, sym, ap, ◌∙◌, subst, arith, rules}
use Rattle.std.proofs.lemmas.Bool.Decides.{nat_tests}
use Rattle.model.specs.declared.run.Span.{Span}
use Rattle.model.specs.Tape.{grown, span}
use Rattle.model.specs.Tick.{State, tick}
use Rattle.model.proofs.TapeTold.{after_instant}
use Rattle.board.specs.Held.{held}
use Rattle.scheduler.specs.Slots.{StaysOn}
use Rattle.scheduler.specs.Stretches.{Stretch, list_of}
use Rattle.scheduler.specs.Strips.{PutThere}
use Rattle.scheduler.specs.View.{board_of, state_of}
use Rattle.scheduler.proofs.Advancing.{going_more, most_all, most_place, most_event, placed, ticks_fit, stays_on, now_owner}
use Rattle.scheduler.proofs.tables.Tables.run.Goals as goal
use Rattle.scheduler.proofs.tables.Tables.run.Goals.{else-loop-run-test, then-loop-run-test+then-not-has_place, then-loop-run-test+else-not-has_place+then-burst-eq0}

pub burst-burst-requires-clause-clock : goal.burst-burst-requires-clause-clock
burst-burst-requires-clause-clock c =
    let clock = ap (λ (x : State). x.instant) c.loop-run.invariant.going.state_after ∙ after_instant (board_of c.args.self.now) (state_of c.args.self.now) c.loop-run.run in
    omega (arith, c.min-limit.ensures, clock, c.loop-run.invariant.within, c.loop-run-test.true)

pub put-requires-clause-has_place : goal.put-requires-clause-has_place
put-requires-clause-has_place c =
    let t = state_of c.loop-run.self in
    let xs = c.loop-run.tape.places.now in
    let has = subst (λ (x : Span). true ≡ leb (length (grown (take c.loop-run.tape.written xs) x)) (length xs)) c.new.ensures c.if-not-has_place.ensures in
    rw c.new-in-loop-run.ensures
    (placed (board_of c.args.self.now) (state_of c.args.self.now) c.args.ticks c.args.spans.now c.args.finished.now c.loop-run.run c.loop-run.tape.written c.loop-run.done.written t xs c.loop-run.done.places.now
    c.loop-run.invariant.going c.burst-burst.result.0 c.row-row.result has)

pub put-requires-clause-few_ticks : goal.put-requires-clause-few_ticks
put-requires-clause-few_ticks c =
    let few : c.loop-run.run + c.burst-burst.result.0 < 2 ^ 32 = omega (arith, c.burst-burst.ensures.stretch.few, c.min-limit.ensures, c.loop-run.invariant.within, c.loop-run-test.true) in
    rw c.new-in-loop-run.ensures
    (ticks_fit (board_of c.args.self.now) (state_of c.args.self.now) c.args.ticks c.args.spans.now c.args.finished.now c.loop-run.run c.loop-run.tape.written c.loop-run.done.written (state_of c.loop-run.self)
    c.loop-run.tape.places.now c.loop-run.done.places.now c.loop-run.invariant.going (span c.loop-run.self.instant c.burst-burst.result.0 c.row-row.result) few)

pub loop-run-preserved : goal.loop-run-preserved
loop-run-preserved c =
    let b = board_of c.args.self.now in
    let s = state_of c.args.self.now in
    let t = state_of c.loop-run.self in
    let g = c.loop-run.invariant.going in
    let xs = c.loop-run.tape.places.now in
    let fs = c.loop-run.done.places.now in
    let w = c.loop-run.tape.written in
    let m = c.burst-burst.result.0 in
    let r = c.row-row.result in
    let here = c.slot_now-slot.ensures c.loop-run.invariant.stays in
    let same : held c.loop-run.self.board ≡ b = ap held c.loop-run.invariant.same_board in
    let own = now_owner (held c.loop-run.self.board) c.loop-run.self.instant c.slot_now-slot.result.owner c.slot_now-slot.result.ticks here in
    let row = subst (λ x. (tick x t).row ≡ r) same (c.row-row.ensures own) in
    let x = subst (λ y. Stretch y t c.min-limit.result (not c.is_full.result) m c.burst-burst.result.1 (state_of c.burst-burst.new.self)) same c.burst-burst.ensures.stretch in
    let has = subst (λ (x : Span). true ≡ leb (length (grown (take w xs) x)) (length xs)) c.new.ensures c.if-not-has_place.ensures in
    let place = placed b s c.args.ticks c.args.spans.now c.args.finished.now c.loop-run.run w c.loop-run.done.written t xs fs g m r has in
    let there = subst (λ (x : Span). PutThere xs w x c.put.new.self.written c.put.new.self.places.now) c.new-in-loop-run.ensures c.put.ensures.put in
    let clock = ap (λ (y : State). y.instant) x.state_after ∙ after_instant b t m in
    let room-left : c.loop-run.done.written + length (list_of c.burst-burst.result.1) ≤ length fs = search rules in
    record {
      going =
          going_more b s c.args.ticks c.args.spans.now c.args.finished.now c.loop-run.run w c.loop-run.done.written t xs fs g c.min-limit.result (not c.is_full.result) m c.put.new.self.written c.note.new.self.written
          c.burst-burst.result.1 (state_of c.burst-burst.new.self) r c.put.new.self.places.now c.note.new.self.places.now (omega (arith, c.if-burst-eq0.false)) (omega (arith, c.min-limit.ensures, c.loop-run-test.true)) row x place there
          room-left c.note.ensures.written c.note.ensures.places;
      same_spans = c.put.ensures.same_reference ∙ c.loop-run.invariant.same_spans;
      same_finished = c.note.ensures.same_reference ∙ c.loop-run.invariant.same_finished;
      same_board = c.burst-burst.ensures.board ∙ c.loop-run.invariant.same_board;
      within = c.loop-run.invariant.within;
      stays =
          subst (λ y. StaysOn (held y) c.burst-burst.new.self.instant c.slot_now-slot.result.owner (c.slot_now-slot.result.ticks - m)) (sym c.burst-burst.ensures.board)
          (stays_on (held c.loop-run.self.board) c.loop-run.self.instant c.burst-burst.new.self.instant c.slot_now-slot.result.owner c.slot_now-slot.result.ticks m here clock);
    }

pub returns-clause-most : goal.returns-clause-most
returns-clause-most c =
    let b = board_of c.args.self.now in
    let s = state_of c.args.self.now in
    let t = state_of c.loop-run.self in
    let g = c.loop-run.invariant.going in
    let xs = c.loop-run.tape.places.now in
    let fs = c.loop-run.done.places.now in
    let w = c.loop-run.tape.written in
    let same : held c.loop-run.self.board ≡ b = ap held c.loop-run.invariant.same_board in
    elim c.loop-run-test.branch [
      | else-loop-run-test u ↦ most_all b s c.args.ticks c.args.spans.now c.args.finished.now c.loop-run.run w c.loop-run.done.written t xs fs g (omega (arith, g.few, u.loop-run-test.false))
      | then-loop-run-test+then-not-has_place u ↦
          let here = u.slot_now-slot.ensures c.loop-run.invariant.stays in
          let own = now_owner (held c.loop-run.self.board) c.loop-run.self.instant u.slot_now-slot.result.owner u.slot_now-slot.result.ticks here in
          let row = subst (λ x. (tick x t).row ≡ u.row-row.result) same (u.row-row.ensures own) in
          let none = subst (λ (x : Span). false ≡ leb (length (grown (take w xs) x)) (length xs)) u.new.ensures u.if-not-has_place.ensures in
          most_place b s c.args.ticks c.args.spans.now c.args.finished.now c.loop-run.run w c.loop-run.done.written t xs fs g u.row-row.result row none
      | then-loop-run-test+else-not-has_place+then-burst-eq0 u ↦
          let here = u.slot_now-slot.ensures c.loop-run.invariant.stays in
          let x = subst (λ y. Stretch y t u.min-limit.result (not u.is_full.result) u.burst-burst.result.0 u.burst-burst.result.1 (state_of u.burst-burst.new.self)) same u.burst-burst.ensures.stretch in
          let stop = x.stops u.if-burst-eq0.true (omega (arith, u.min-limit.ensures, here.lasting, u.loop-run-test.true)) in
          let full : length fs ≤ c.loop-run.done.written = let no-room = stop.0 in let is = u.is_full.ensures in grind (arith, nat_tests) in
          most_event b s c.args.ticks c.args.spans.now c.args.finished.now c.loop-run.run w c.loop-run.done.written t xs fs g full stop.1
    ]
