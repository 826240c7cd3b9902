-- Two curves as one: the lines of the first, then those of the second, up to line 15.
use Rattle.std.specs.Prelude.{ℕ, ◌+◌, ◌-◌, min, cond, nat_lt}

-- the lines of a pair of curves that have n and m
abbrev pub pair_lines : ℕ → ℕ → ℕ
pair_lines n m = min (n + m) 16

-- the most events of line k in a window of w ticks, where the first curve has n lines
abbrev pub pair_most : ℕ → (ℕ → ℕ → ℕ) → (ℕ → ℕ → ℕ) → ℕ → ℕ → ℕ
pair_most n first second k w = cond (nat_lt k n) (first k w) (cond (nat_lt k 16) (second (k - n) w) 0)
