-- The walk ends in the slot that holds the place.
use Rattle.std.proofs.Common.{arith}
use Rattle.std.proofs.lemmas.Bool.Decides.{nat_tests}
use Rattle.std.proofs.lemmas.List.{at_drop_all}
use Rattle.model.specs.Board.{cycle_of}
use Rattle.board.proofs.SlotWalks.{here_step, cycle_step}
use Rattle.board.proofs.table.slot_in.Goals as goal

pub returns-then-rest-slot : goal.returns-then-rest-slot
returns-then-rest-slot c =
    let here = here_step c.args.slots.now c.loop-slot.slot-index c.loop-slot.rest c.loop-slot-test.true in
    let left = c.loop-slot.invariant.0 in
    let inside = c.if-rest-slot.true in
    grind (arith, nat_tests)

pub loop-slot-preserved : goal.loop-slot-preserved
loop-slot-preserved c =
    let here = here_step c.args.slots.now c.loop-slot.slot-index c.loop-slot.rest c.loop-slot-test.true in
    let left = c.loop-slot.invariant.0 in
    let past = c.if-rest-slot.false in
    (grind (arith, nat_tests), omega (arith, cycle_step c.args.slots.now c.loop-slot.slot-index c.loop-slot-test.true))

pub unreachable-requires : goal.unreachable-requires
unreachable-requires c =
    let none = at_drop_all cycle_of c.args.slots.now c.loop-slot.slot-index c.loop-slot-test.false in
    omega arith
