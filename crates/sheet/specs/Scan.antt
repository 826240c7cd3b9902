-- A piece cut at a byte.
use Rattle.std.specs.Prelude.{ℕ, ◌+◌, List, take, drop, Some, None, Option, ◌==◌}
use Rattle.std.specs.List.{position}
use Rattle.sheet.specs.Reading.{Part, part}

-- where the first byte is that is `stop`
abbrev pub found : ℕ → List ℕ → Option ℕ
found stop bytes = position (λ b. b == stop) bytes

-- what comes before a byte, or all where there is none
abbrev pub up_to : Part → Option ℕ → Part
up_to p None = p
up_to p (Some n) = part p.place (take n p.bytes)

-- what comes behind it
abbrev pub behind : Part → Option ℕ → Option Part
behind p None = None
behind p (Some n) = Some (part (p.place + n + 1) (drop (n + 1) p.bytes))

-- what comes before the first `stop`, and what comes behind it; all and nothing where there is none
abbrev pub first_part : ℕ → Part → Part
first_part stop p = up_to p (found stop p.bytes)

abbrev pub rest_part : ℕ → Part → Option Part
rest_part stop p = behind p (found stop p.bytes)
