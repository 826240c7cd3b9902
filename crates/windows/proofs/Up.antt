-- Division, and division rounded up, as the dividend grows.
use Rattle.std.proofs.Common.{◌≡◌, ℕ, ◌+◌, ◌-◌, ◌*◌, ◌/◌, ◌<◌, ◌≤◌, ⊎_elim, le_trans, div-mul-le_self, arith}
use native.Mathlib.Nat.{div-eq_of_lt, add-div_right}
use Rattle.std.proofs.lemmas.Nat.{le-div, div_below, mul-le}
use Rattle.std.proofs.lemmas.Bool.{cases_lt}
use Rattle.model.specs.Counting.{up}

pub div_mono : (x y d : ℕ) → 1 ≤ d → x ≤ y → x / d ≤ y / d
div_mono x y d p h = le-div (x / d) y d p (le_trans (div-mul-le_self x d) h)

pub up_mono : (x y d : ℕ) → 1 ≤ d → x ≤ y → up x d ≤ up y d
up_mono x y d p h = div_mono (x + (d - 1)) (y + (d - 1)) d p (omega arith)

pub up_none : (d : ℕ) → 1 ≤ d → up 0 d ≡ 0
up_none d p = let l : 0 + (d - 1) < d = omega arith in div-eq_of_lt l

pub up_within : (x d : ℕ) → 1 ≤ d → up x d ≤ x
up_within x d p =
    let more : x + (d - 1) < (x + 1) * d = grow x d p in
    let below : up x d < x + 1 = div_below (x + (d - 1)) d (x + 1) p more in omega arith
  where
    grow : (x d : ℕ) → 1 ≤ d → x + (d - 1) < (x + 1) * d
    grow x d p = omega (arith, mul-le x 1 x d (omega arith) p)

-- a length less of a window that holds something is one less
pub up_step : (x d : ℕ) → 1 ≤ d → 1 ≤ x → 1 + up (x - d) d ≤ up x d
up_step x d p some =
    let one_more = add-div_right ((x - d) + (d - 1)) p in
    ⊎_elim
    (λ (l : x < d).
    let none = up_none d p in
    let e : x - d ≡ 0 = omega arith in
    let one : 1 ≤ up x d = le-div 1 (x + (d - 1)) d p (omega arith) in
    rw e (omega arith))
    (λ (l : d ≤ x).
    let e : ((x - d) + (d - 1)) + d ≡ x + (d - 1) = omega arith in
    let same = rw e at one_more in omega arith)
    (cases_lt x d)
