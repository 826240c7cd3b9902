-- A curve of one line.
use Rattle.std.specs.Prelude.{ℕ, min, cond, ◌==◌}
use Rattle.model.specs.Limits.{instants}

-- line 0 follows the rule, a window longer than all instants counting as all of them; any other line is unknown
abbrev pub single : (ℕ → ℕ) → ℕ → ℕ → ℕ
single rule k w = cond (k == 0) (rule (min w instants)) 0
