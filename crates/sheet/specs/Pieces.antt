-- A piece of a sheet as a part, and the parts of what is left.
use Rattle.std.specs.Prelude.{List, [], Some, None, Option}
use Rattle.sheet.specs.declared.piece.Piece.{Piece}
use Rattle.sheet.specs.Reading.{Part, part, placed, words_of, lines_of}

abbrev pub part_at : Piece → Part
part_at piece = part piece.place piece.bytes.now

abbrev pub rest_at : Option Piece → Option Part
rest_at None = None
rest_at (Some piece) = Some (part_at piece)

-- the words of what is left of a line; none where nothing is
abbrev pub words_in : Option Part → List Part
words_in None = []
words_in (Some p) = placed p.place (words_of p.bytes)

-- the lines of what is left of a sheet
abbrev pub lines_in : Option Part → List Part
lines_in None = []
lines_in (Some p) = placed p.place (lines_of p.bytes)
