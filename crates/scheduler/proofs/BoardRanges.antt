-- Every board that exists is in range.
use Rattle.model.specs.Board.{InRange}
use Rattle.model.proofs.Ranges.{in_range_lem}
use Rattle.board.specs.declared.table.Board.{Board}
use Rattle.board.specs.Held.{held}

pub board_ranges : (b : Board) → InRange (held b)
board_ranges b = in_range_lem (held b) b.in_range
