-- The place lies in the slots that are left.
use Rattle.std.proofs.Common.{◌≡◌, ◌+◌, drop}
use Rattle.model.specs.Board.{cycle_of}
use Rattle.board.specs.Slots.{slot_from}
use Rattle.board.proofs.table.slot_in.Given as goal

-- the slot of the rest in what is left is that of the place in the whole
abbrev pub invariant-loop-slot : goal.invariant-loop-slot
invariant-loop-slot l =
    (slot_from (drop l.slot-index l.slots) l.rest ≡ slot_from l.slots l.place)
    × (l.place + cycle_of (drop l.slot-index l.slots) ≡ l.rest + cycle_of l.slots)
