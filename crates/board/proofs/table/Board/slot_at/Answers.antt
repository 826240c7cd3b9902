-- The cycle of a board is not empty, and every place lies in it.
use Rattle.std.proofs.Common.{◌%◌, ◌<◌, ap, arith}
use Rattle.std.proofs.lemmas.Nat.{mod_below}
use Rattle.model.specs.Board.{cycle_of}
use Rattle.model.proofs.Ranges.{in_range_lem}
use Rattle.model.proofs.Cycle.{cycle_some}
use Rattle.board.specs.declared.table.Board.{Board}
use Rattle.board.specs.Held.{held}
use Rattle.board.proofs.SlotWalks.{in_slot_from}
use Rattle.board.proofs.table.Board.slot_at.Goals as goal

some : (b : Board) → 0 < b.cycle
some b = omega (arith, cycle_some (held b) (in_range_lem (held b) b.in_range), b.summed)

pub nonzero_rem-at : goal.nonzero_rem-at
nonzero_rem-at c = omega (arith, some c.args.self.now)

pub slot_in-requires : goal.slot_in-requires
slot_in-requires c =
    let b = c.args.self.now in
    omega (arith, mod_below c.args.at b.cycle (some b), b.summed, ap cycle_of c.deref.ensures.0)

pub returns-clause-in_slot : goal.returns-clause-in_slot
returns-clause-in_slot c =
    let b = c.args.self.now in
    let inside : c.args.at % b.cycle < cycle_of b.slots.items = omega (arith, mod_below c.args.at b.cycle (some b), b.summed) in
    rw (← b.summed, c.slot_in.ensures, c.deref.ensures.0) (in_slot_from b.slots.items (c.args.at % b.cycle) inside)
