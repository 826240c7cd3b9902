-- A player, as its place in the sheet, and how much it has still to do.
use Rattle.std.specs.Prelude.{ℕ, ◌+◌, ◌*◌, ◌^◌}
use Rattle.sheet.specs.Cursor.{left_of, bytes_left}
use Rattle.monitor.specs.declared.monitor.Monitor.{Ghosts}
use Rattle.player.specs.declared.player.Player.{Player}
use Rattle.player.specs.Playing.{Place}
use Rattle.player.specs.Desks.{desk_place}

abbrev pub player_place : {M : Type 0} {g : Ghosts M} → Player M g → Place M
player_place p = desk_place p.desk p.sheet.number (left_of p.sheet)

-- falls with each turn: a line more was read, or ticks were run
abbrev pub effort : {M : Type 0} {g : Ghosts M} → Player M g → ℕ
effort p = 2 ^ 32 * bytes_left p.sheet + p.desk.owing
