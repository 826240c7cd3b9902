-- Worked lines: what some short sheets are read as.
use Rattle.std.specs.Prelude.{◌≡◌, ℕ, List, [], ◌∷◌, ◌++◌, Ok, Err, codes, Result}
use Rattle.sheet.specs.declared.command.Command.{Command}
use Rattle.sheet.specs.declared.command.Command.TheVariants.{Raise, Strobe, SetMask, Advance}
use Rattle.sheet.specs.declared.fault.Fault.{Fault}
use Rattle.sheet.specs.declared.fault.Fault.TheVariants.{Form, Number}
use Rattle.sheet.specs.Reading.{read_sheet}

abbrev pub line_feed : List ℕ
line_feed = 10 ∷ []

abbrev pub carriage_return : List ℕ
carriage_return = 13 ∷ []

-- the reading of a sheet that has one line
abbrev pub one : Result Command Fault → List (Result Command Fault)
one read = read ∷ []

pub record ReadingCases : Type 0 where
  -- a sheet without bytes has no line
  pub empty : read_sheet [] ≡ []
  -- the last line needs no line feed
  pub two_lines : read_sheet (codes "R 0 7" ++ line_feed ++ codes "A 20") ≡ Ok (Raise 0 7) ∷ Ok (Advance 20) ∷ []
  -- with one it is read the same
  pub last_fed : read_sheet (codes "R 0 7" ++ line_feed ++ codes "A 20" ++ line_feed) ≡ Ok (Raise 0 7) ∷ Ok (Advance 20) ∷ []
  -- the other letters; a number may have leading zeros
  pub strobe_and_mask : read_sheet (codes "W 3 8" ++ line_feed ++ codes "M 0007") ≡ Ok (Strobe 3 8) ∷ Ok (SetMask 7) ∷ []
  -- between two spaces there is an empty word: four words, of which the fourth begins at byte 5
  pub two_spaces : read_sheet (codes "R  0 7") ≡ one (Err (Form 5))
  -- a missing word is told at the line's end
  pub missing_word : read_sheet (codes "R 0") ≡ one (Err (Form 3))
  -- behind a last space there is an empty word, which is no number
  pub empty_word : read_sheet (codes "R 0 ") ≡ one (Err (Number 4))
  -- where one word is wanted, such an empty word is one too many
  pub extra_word : read_sheet (codes "A 5 ") ≡ one (Err (Form 4))
  -- an empty line has no letter
  pub empty_line : read_sheet line_feed ≡ one (Err (Form 0))
  -- before a leading space there is an empty word, which is no letter
  pub leading_space : read_sheet (codes " R 0 7") ≡ one (Err (Form 0))
  -- a letter is a word of one byte
  pub two_letters : read_sheet (codes "RR 0 7") ≡ one (Err (Form 0))
  -- small letters are others
  pub small_letter : read_sheet (codes "r 0 7") ≡ one (Err (Form 0))
  -- the count of words is looked at before the numbers
  pub form_first : read_sheet (codes "R x") ≡ one (Err (Form 3))
  -- of two wrong numbers the first is told
  pub first_number : read_sheet (codes "R x y") ≡ one (Err (Number 2))
  -- the widest count of ticks
  pub widest : read_sheet (codes "A 4294967295") ≡ one (Ok (Advance 4294967295))
  -- one more is too many
  pub too_wide : read_sheet (codes "A 4294967296") ≡ one (Err (Number 2))
  -- the widest mask
  pub widest_mask : read_sheet (codes "M 65535") ≡ one (Ok (SetMask 65535))
  -- one more is too many
  pub too_wide_mask : read_sheet (codes "M 65536") ≡ one (Err (Number 2))
  -- a carriage return is a byte of its word, and no digit
  pub after_carriage_return : read_sheet (codes "R 0 7" ++ carriage_return ++ line_feed) ≡ one (Err (Number 4))
  -- on the second line, too, a byte's place counts from the sheet's start
  pub second_line : read_sheet (codes "A 5" ++ line_feed ++ codes "A x") ≡ Ok (Advance 5) ∷ Err (Number 6) ∷ []
  -- two line feeds are two empty lines
  pub two_feeds : read_sheet (line_feed ++ line_feed) ≡ Err (Form 0) ∷ Err (Form 1) ∷ []
