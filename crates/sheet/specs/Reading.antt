-- How a sheet is read: lines, words with their places, numbers, commands. A byte's place counts from 0 at the sheet's start.
use Rattle.std.specs.Prelude.{ℕ, ◌+◌, ◌-◌, ◌*◌, Bool, true, cond, ◌&&◌, List, [], ◌∷◌, map, length, Some, None, Ok, Err, Option, Result, ◌==◌, nat_le}
use Rattle.sheet.specs.declared.command.Command.{Command}
use Rattle.sheet.specs.declared.command.Command.TheVariants.{Raise, Strobe, SetMask, Advance}
use Rattle.sheet.specs.declared.fault.Fault.{Fault}
use Rattle.sheet.specs.declared.fault.Fault.TheVariants.{Form, Number}

-- a byte in front of the first part
abbrev pub onto : ℕ → List (List ℕ) → List (List ℕ)
onto b [] = (b ∷ []) ∷ []
onto b (w ∷ ws) = (b ∷ w) ∷ ws

-- the parts between the bytes that are `stop`; `end` is what is left at the end
unfoldable pub parts : ℕ → List (List ℕ) → List ℕ → List (List ℕ)
parts stop end [] = end
parts stop end (b ∷ bs) = cond (b == stop) ([] ∷ parts stop end bs) (onto b (parts stop end bs))

-- words are parted by single spaces: a line has one word more than it has spaces
abbrev pub words_of : List ℕ → List (List ℕ)
words_of line = parts 32 ([] ∷ []) line

-- a line ends with a line feed; a last line of one byte or more needs none
abbrev pub lines_of : List ℕ → List (List ℕ)
lines_of bytes = parts 10 [] bytes

-- parts with the places of their first bytes, one byte between two of them
pub record Part : Type 0 where
  pub place : ℕ
  pub bytes : List ℕ

abbrev pub part : ℕ → List ℕ → Part
part at bytes = record { place = at; bytes = bytes }

abbrev pub placed : ℕ → List (List ℕ) → List Part
placed at [] = []
placed at (w ∷ ws) = part at w ∷ placed (at + length w + 1) ws

-- Numbers.

abbrev pub is_digit : ℕ → Bool
is_digit b = nat_le 48 b && nat_le b 57

unfoldable pub all_digits : List ℕ → Bool
all_digits [] = true
all_digits (b ∷ bs) = is_digit b && all_digits bs

-- the value of digits that follow a number n
unfoldable pub value_after : ℕ → List ℕ → ℕ
value_after n [] = n
value_after n (b ∷ bs) = value_after (n * 10 + (b - 48)) bs

-- one or more digits, of a value up to the limit; leading zeros are allowed
abbrev pub decimal_of : ℕ → List ℕ → Option ℕ
decimal_of limit [] = None
decimal_of limit (b ∷ bs) = cond (all_digits (b ∷ bs) && nat_le (value_after 0 (b ∷ bs)) limit) (Some (value_after 0 (b ∷ bs))) None

abbrev pub number_or : ℕ → Option ℕ → Result ℕ Fault
number_or at (Some n) = Ok n
number_or at None = Err (Number at)

abbrev pub number : ℕ → Part → Result ℕ Fault
number limit w = number_or w.place (decimal_of limit w.bytes)

abbrev pub limit16 : ℕ
limit16 = 65535

abbrev pub limit32 : ℕ
limit32 = 4294967295

-- Commands.

-- a command of one number
abbrev pub of_one : (ℕ → Command) → Result ℕ Fault → Result Command Fault
of_one make (Ok n) = Ok (make n)
of_one make (Err f) = Err f

-- a command of two numbers: the first that is wrong is told
abbrev pub of_two : (ℕ → ℕ → Command) → Result ℕ Fault → Result ℕ Fault → Result Command Fault
of_two make (Ok m) second = of_one (make m) second
of_two make (Err f) second = Err f

-- exactly one word behind the letter: a missing word is told at the line's end, one too many at its place
abbrev pub one_word : ℕ → (ℕ → Command) → ℕ → List Part → Result Command Fault
one_word limit make end [] = Err (Form end)
one_word limit make end (w ∷ []) = of_one make (number limit w)
one_word limit make end (w ∷ extra ∷ ws) = Err (Form extra.place)

-- exactly two
abbrev pub two_words : ℕ → ℕ → (ℕ → ℕ → Command) → ℕ → List Part → Result Command Fault
two_words limit limit' make end [] = Err (Form end)
two_words limit limit' make end (w ∷ []) = Err (Form end)
two_words limit limit' make end (w ∷ v ∷ []) = of_two make (number limit w) (number limit' v)
two_words limit limit' make end (w ∷ v ∷ extra ∷ ws) = Err (Form extra.place)

-- the letters R, W, M and A; `at` is the line's start, where a wrong letter is told
abbrev pub by_letter : ℕ → ℕ → ℕ → List Part → Result Command Fault
by_letter letter at end ws =
    cond (letter == 82) (two_words limit32 limit32 (λ line tag. Raise line tag) end ws)
    (cond (letter == 87) (two_words limit16 limit32 (λ word tag. Strobe word tag) end ws)
    (cond (letter == 77) (one_word limit16 (λ word. SetMask word) end ws)
    (cond (letter == 65) (one_word limit32 (λ ticks. Advance ticks) end ws) (Err (Form at)))))

-- the first word is the letter, a word of one byte
abbrev pub by_word : List ℕ → ℕ → ℕ → List Part → Result Command Fault
by_word [] at end ws = Err (Form at)
by_word (letter ∷ []) at end ws = by_letter letter at end ws
by_word (letter ∷ b ∷ bs) at end ws = Err (Form at)

abbrev pub from_words : ℕ → List Part → Result Command Fault
from_words end [] = Err (Form end)
from_words end (w ∷ ws) = by_word w.bytes w.place end ws

-- a line, by its place and its bytes
abbrev pub read_line : Part → Result Command Fault
read_line line = from_words (line.place + length line.bytes) (placed line.place (words_of line.bytes))

-- what is left of a sheet from a place on, line by line
abbrev pub read_from : ℕ → List ℕ → List (Result Command Fault)
read_from at bytes = map read_line (placed at (lines_of bytes))

abbrev pub read_sheet : List ℕ → List (Result Command Fault)
read_sheet bytes = read_from 0 bytes
