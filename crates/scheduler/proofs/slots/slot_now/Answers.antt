-- The owner of all places, or of the slot that the place is in.
use Rattle.std.proofs.Common.{sym, ◌∙◌, arith}
use Rattle.model.proofs.Cycle.{cycle_some}
use Rattle.board.specs.Held.{held}
use Rattle.board.proofs.SlotWalks.{owned_by_all}
use Rattle.scheduler.proofs.BoardRanges.{board_ranges}
use Rattle.scheduler.proofs.SlotWalks.{stays_in, stays_ever}
use Rattle.scheduler.proofs.slots.slot_now.Goals as goal

pub returns-then-is_owned_by : goal.returns-then-is_owned_by
returns-then-is_owned_by c _ =
    let b = held c.args.board.now in
    let o = c.slot_at-next.result.owner in
    stays_ever b c.args.at o 4294967295 (cycle_some b (board_ranges c.args.board.now)) (omega arith) (owned_by_all o b.slots (sym c.is_owned_by.ensures ∙ c.if-is_owned_by.true))

pub returns : goal.returns
returns c _ = stays_in (held c.args.board.now) c.args.at c.slot_at-next.result.owner c.slot_at-next.result.ticks c.slot_at-next.ensures.in_slot
