-- A board that no check refuses has no long cycle.
use Rattle.std.proofs.Common.{sym, ap, ◌∙◌, arith}
use Rattle.model.specs.Board.{cycle_of}
use Rattle.model.proofs.Ranges.{in_range_lem}
use Rattle.model.proofs.Cycle.{cycle_few}
use Rattle.board.specs.Held.{given}
use Rattle.board.proofs.Sums.{cycle_sum}
use Rattle.board.proofs.table.Board.checked.Goals as goal

pub sum_of-requires : goal.sum_of-requires
sum_of-requires c =
    let b = given c.args.layout in
    omega (arith, cycle_few b (in_range_lem b c.requires), cycle_sum c.args.layout.slots.now)

pub invariant_of-result : goal.invariant_of-result
invariant_of-result c =
    let slots = (rw c.unwrap.ensures at c.try_from.ensures).0 in
    let lines = (rw c.unwrap-2.ensures at c.try_from-2.ensures).0 in
    record {
      in_range = rw (slots, lines) c.requires;
      summed = c.sum_of.ensures ∙ (cycle_sum c.args.layout.slots.now ∙ ap cycle_of (sym slots));
    }
