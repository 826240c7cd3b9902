-- The sum so far, and that of the slots that are left.
use Rattle.std.proofs.Common.{◌≡◌, ◌+◌, drop}
use Rattle.model.specs.Board.{owned_in}
use Rattle.board.proofs.table.owned_in.Given as goal

-- the sum so far and what is left make the whole
abbrev pub invariant-loop-slot : goal.invariant-loop-slot
invariant-loop-slot l = l.sum + owned_in l.partition (drop l.slot-index l.slots) ≡ owned_in l.partition l.slots
