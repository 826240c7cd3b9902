-- Counting the entries of a history, and sums over the lines.
use Rattle.std.proofs.Common.{◌≡◌, ℕ, zero, suc, ◌+◌, ◌<◌, ◌≤◌, Bool, true, false, eqb, List, [], ◌∷◌, refl, ap, arith}
use Rattle.std.proofs.lemmas.Bool.Decides.{nat_tests}
use Rattle.model.specs.Counting.{sum_to}
use Rattle.model.specs.Seen.{more, count}

pub count_le : {X : Type 0} (f g : X → Bool) → ((x : X) → f x ≡ true → g x ≡ true) → (xs : List X) → count f xs ≤ count g xs
count_le f g h [] = omega arith
count_le f g h (x ∷ xs) = by (f x) (g x) refl refl (count_le f g h xs)
  where
    by : (t u : Bool) → f x ≡ t → g x ≡ u → count f xs ≤ count g xs → more t (count f xs) ≤ more u (count g xs)
    by true true e k l = omega arith
    by true false e k l = absurd (grind (arith, h x e))
    by false true e k l = omega arith
    by false false e k l = l

pub count_more : {X : Type 0} (f : X → Bool) (x : X) (xs : List X) → count f xs ≤ count f (x ∷ xs)
count_more f x xs = by (f x)
  where
    by : (t : Bool) → count f xs ≤ more t (count f xs)
    by true = omega arith
    by false = omega arith

pub sum_le : (n : ℕ) (f g : ℕ → ℕ) → ((k : ℕ) → k < n → f k ≤ g k) → sum_to n f ≤ sum_to n g
unfolding sum_to
sum_le zero f g h = omega arith
sum_le (suc n) f g h =
    let rest = sum_le n f g (λ k l. h k (omega arith)) in
    let last = h n (omega arith) in
    omega arith

-- one term grows by d, the others do not fall
pub sum_bump : (n : ℕ) (f g : ℕ → ℕ) (j d : ℕ) → j < n → ((k : ℕ) → f k ≤ g k) → f j + d ≤ g j → sum_to n f + d ≤ sum_to n g
unfolding sum_to
sum_bump zero f g j d l h e = absurd (omega arith)
sum_bump (suc n) f g j d l h e = by (eqb j n) refl (λ less. sum_bump n f g j d less h e)
  where
    by : (t : Bool) → eqb j n ≡ t → (j < n → sum_to n f + d ≤ sum_to n g) → sum_to n f + f n + d ≤ sum_to n g + g n
    by true is rec =
        let same : j ≡ n = grind (arith, nat_tests) in
        let last = ap f same in
        let last' = ap g same in
        let rest = sum_le n f g (λ k _. h k) in
        omega arith
    by false is rec =
        let less : j < n = grind (arith, nat_tests) in
        let rest = rec less in
        let last = h n in
        omega arith
