-- The words that are left of a line, and how many of them there must be: what the steps of reading say.
use Rattle.std.specs.Prelude.{ℕ, List, [], ◌∷◌, Some, None, Ok, Err, Option, Result}
use Rattle.sheet.specs.declared.fault.Fault.{Fault}
use Rattle.sheet.specs.declared.fault.Fault.TheVariants.{Form}
use Rattle.sheet.specs.declared.words.Word.{Word}
use Rattle.sheet.specs.declared.words.Word.TheVariants.{Empty, Text}
use Rattle.sheet.specs.declared.words.Words.{Words}
use Rattle.sheet.specs.Pieces.{rest_at, words_in}
use Rattle.sheet.specs.Reading.{Part, part}

abbrev pub part_of : Word → Part
part_of (Empty place) = part place []
part_of (Text place bytes) = part place bytes.now

abbrev pub words_left : Words → List Part
words_left ws = words_in (rest_at ws.left)

-- the byte of a word that has one byte
abbrev pub only_byte : List ℕ → Option ℕ
only_byte [] = None
only_byte (b ∷ []) = Some b
only_byte (b ∷ c ∷ bs) = None

-- a word too many is told at its place
abbrev pub no_more : List Part → Result (Unit {0}) Fault
no_more [] = Ok tt
no_more (extra ∷ ws) = Err (Form extra.place)

-- the next word: a missing word is told at the line's end
abbrev pub required : ℕ → List Part → Result Part Fault
required end [] = Err (Form end)
required end (w ∷ ws) = Ok w

-- exactly one word: a missing word is told at the line's end
abbrev pub exactly_one : ℕ → List Part → Result Part Fault
exactly_one end [] = Err (Form end)
exactly_one end (w ∷ []) = Ok w
exactly_one end (w ∷ extra ∷ ws) = Err (Form extra.place)

-- exactly two
abbrev pub exactly_two : ℕ → List Part → Result (Part × Part) Fault
exactly_two end [] = Err (Form end)
exactly_two end (w ∷ []) = Err (Form end)
exactly_two end (w ∷ v ∷ []) = Ok (w, v)
exactly_two end (w ∷ v ∷ extra ∷ ws) = Err (Form extra.place)

abbrev pub seen_one : Result Word Fault → Result Part Fault
seen_one (Ok w) = Ok (part_of w)
seen_one (Err f) = Err f

abbrev pub seen_two : Result (Word × Word) Fault → Result (Part × Part) Fault
seen_two (Ok ws) = Ok (part_of ws.0, part_of ws.1)
seen_two (Err f) = Err f
