-- Sums, smallest values and tests over the numbers below n, and division rounded up.
use Rattle.std.specs.Prelude.{ℕ, zero, suc, ◌+◌, ◌-◌, ◌/◌, min, Bool, true, ◌&&◌}

-- f 0 + f 1 + … of the first n
unfoldable pub sum_to : ℕ → (ℕ → ℕ) → ℕ
sum_to zero f = 0
sum_to (suc n) f = sum_to n f + f n

-- the smallest of f 0, f 1, … f n
unfoldable pub least : ℕ → (ℕ → ℕ) → ℕ
least zero f = f 0
least (suc n) f = min (least n f) (f (suc n))

-- whether g holds of 0, 1, … of the first n
unfoldable pub all_to : ℕ → (ℕ → Bool) → Bool
all_to zero g = true
all_to (suc n) g = all_to n g && g n

-- x / d, rounded up
abbrev pub up : ℕ → ℕ → ℕ
up x d = (x + (d - 1)) / d
