-- The laws hold for every monitor that keeps its own, on every board that exists.
use Rattle.model.proofs.LawsProved.{laws_proved}
use Rattle.board.specs.Held.{held}
use Rattle.scheduler.proofs.BoardRanges.{board_ranges}
use Rattle.scheduler.proofs.kernel.Core.new.Goals as goal
use Rattle.monitor.specs.Meanings.{meaning}

pub returns-clause-laws : goal.returns-clause-laws
returns-clause-laws g c =
    laws_proved (meaning g.M.Monitor) g.met.M.Monitor.lawful (held c.args.board) (board_ranges c.args.board) c.args.monitor
