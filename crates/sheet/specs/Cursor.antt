-- What is left of a sheet.
use Rattle.std.specs.Prelude.{ℕ, List, map, length, Some, Result}
use Rattle.sheet.specs.declared.command.Command.{Command}
use Rattle.sheet.specs.declared.cursor.Sheet.{Sheet}
use Rattle.sheet.specs.declared.fault.Fault.{Fault}
use Rattle.sheet.specs.Pieces.{part_at, lines_in}
use Rattle.sheet.specs.Reading.{read_line}

-- the readings of the lines that are left
abbrev pub left_of : Sheet → List (Result Command Fault)
left_of s = map read_line (lines_in (Some (part_at s.rest)))

abbrev pub bytes_left : Sheet → ℕ
bytes_left s = length s.rest.bytes.now
