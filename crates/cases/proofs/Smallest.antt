-- A bound found by trying every smaller window.
use Rattle.std.proofs.Common.{◌≡◌, ℕ, zero, suc, ◌≤◌, Bool, true, ◌||◌, eqb, ltb, leb, arith}
use Rattle.std.proofs.lemmas.Bool.Decides.{nat_tests}
use Rattle.model.specs.Counting.{all_to}
use Rattle.model.specs.Limits.{end}
use Rattle.model.specs.Board.{Layout}
use Rattle.model.specs.Demand.{demand, Bound}

-- whether a window is too short for its own demand; one of no ticks counts as too short
abbrev short : (ℕ → ℕ) → ℕ → Bool
short need y = eqb y 0 || ltb y (need y)

-- where every window below x is too short, one that holds its demand is no smaller
no_smaller : (x : ℕ) (need : ℕ → ℕ) → all_to x (short need) ≡ true → (y : ℕ) → 1 ≤ y → need y ≤ y → x ≤ y
unfolding all_to
no_smaller zero need all y some holds = omega arith
no_smaller (suc x) need all y some holds = let front = no_smaller x need (grind (arith, nat_tests)) y some holds in grind (arith, nat_tests)

module _ (b : Layout) (ceiling most : ℕ → ℕ → ℕ) where
  -- x is the bound of partition p: in range, holding its own demand, and every smaller window too short
  pub bound_by_test : (p x : ℕ) → leb 1 x ≡ true → leb x end ≡ true → leb (demand b ceiling most p x) x ≡ true → all_to x (short (demand b ceiling most p)) ≡ true
      → Bound b ceiling most p x
  bound_by_test p x some within meets all =
      record { some = grind (arith, nat_tests); within = grind (arith, nat_tests); meets = grind (arith, nat_tests); least = no_smaller x (demand b ceiling most p) all }
