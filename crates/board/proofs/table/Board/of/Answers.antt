-- A check that answered found no fault.
use Rattle.std.proofs.Common.{is_some, ap}
use Rattle.model.specs.Board.{fault}
use Rattle.model.proofs.Replacing.{unrefused}
use Rattle.board.specs.Held.{given}
use Rattle.board.proofs.table.Board.of.Goals as goal

pub checked-requires : goal.checked-requires
checked-requires c = ap is_some (unrefused (fault (given c.args.layout)) c.in_ok-check.ensures)
