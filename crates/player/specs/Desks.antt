-- A desk on a line of the sheet, as a place of the player.
use Rattle.std.specs.Prelude.{ℕ, List, Result}
use Rattle.sheet.specs.declared.command.Command.{Command}
use Rattle.sheet.specs.declared.fault.Fault.{Fault}
use Rattle.scheduler.specs.Seen.{core_of}
use Rattle.monitor.specs.declared.monitor.Monitor.{Ghosts}
use Rattle.player.specs.declared.desk.Desk.{Desk}
use Rattle.player.specs.Playing.{Place, place}

-- the number of the line, and the lines to come
abbrev pub desk_place : {M : Type 0} {g : Ghosts M} → Desk M g → ℕ → List (Result Command Fault) → Place M
desk_place d line rest = place (core_of d.core) d.mask.word line d.owing rest
