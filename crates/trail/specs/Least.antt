-- Sums, smallest values and tests over the numbers below n, one place at a time and place by place.
use Rattle.std.specs.Prelude.{◌≡◌, ℕ, zero, suc, ◌+◌, ◌-◌, ◌*◌, ◌<◌, ◌≤◌, min, Bool, true, false, MatchBool, refl}
use Rattle.std.proofs.Common.{⊎_elim, le_refl, sym, add-one, arith}
use Rattle.std.proofs.lemmas.Bool.{and_parts, and_left, and_right, cases_lt}
use Rattle.std.proofs.lemmas.Bool.Decides.{nat_tests}
use Rattle.model.specs.Counting.{sum_to, least, all_to}

pub least_mono : (n : ℕ) (f g : ℕ → ℕ) → ((i : ℕ) → i ≤ n → f i ≤ g i) → least n f ≤ least n g
unfolding least
least_mono zero f g h = h 0 (omega arith)
least_mono (suc n) f g h = omega (arith, least_mono n f g (λ i l. h i (omega arith)), h (suc n) (omega arith))

-- what is 1 less at each place is 1 less in the smallest
pub least_less : (n : ℕ) (f g : ℕ → ℕ) → ((i : ℕ) → i ≤ n → 1 + f i ≤ g i) → 1 + least n f ≤ least n g
unfolding least
least_less zero f g h = h 0 (omega arith)
least_less (suc n) f g h = omega (arith, least_less n f g (λ i l. h i (omega arith)), h (suc n) (omega arith))

pub least_first : (n : ℕ) (f : ℕ → ℕ) → least n f ≤ f 0
unfolding least
least_first zero f = le_refl (f 0)
least_first (suc n) f = omega (arith, least_first n f)

pub sum_mono : (n : ℕ) (f g : ℕ → ℕ) → ((i : ℕ) → i < n → f i ≤ g i) → sum_to n f ≤ sum_to n g
unfolding sum_to
sum_mono zero f g h = omega arith
sum_mono (suc n) f g h = omega (arith, sum_mono n f g (λ i l. h i (omega arith)), h n (omega arith))

-- n values that are each at most x
pub sum_under : (n : ℕ) (f : ℕ → ℕ) (x : ℕ) → ((i : ℕ) → i < n → f i ≤ x) → sum_to n f ≤ n * x
unfolding sum_to
sum_under zero f x h = omega arith
sum_under (suc n) f x h = omega (arith, sum_under n f x (λ i l. h i (omega arith)), h n (omega arith))

sum_moved : (n : ℕ) (f : ℕ → ℕ) → sum_to (suc n) f ≡ f 0 + sum_to n (λ j. f (suc j))
unfolding sum_to
sum_moved zero f = omega arith
sum_moved (suc n) f = omega (arith, sum_moved n f)

-- a new first value against the last one, and every other one place on
pub sum_turn : (n c : ℕ) (f g : ℕ → ℕ) → c + f 0 ≤ g n → ((j : ℕ) → j < n → f (suc j) ≤ g j) → c + sum_to (suc n) f ≤ sum_to (suc n) g
unfolding sum_to
sum_turn n c f g first others = omega (arith, sum_moved n f, sum_mono n (λ j. f (suc j)) g others)

-- a test that passes everywhere passes at each place
pub all_at : (n : ℕ) (g : ℕ → Bool) → all_to n g ≡ true → (i : ℕ) → i < n → g i ≡ true
unfolding all_to
all_at zero g h i l = absurd (omega arith)
all_at (suc n) g h i l =
    let parts = and_parts (all_to n g) (g n) h in
    ⊎_elim
    (λ (lt : i < n). all_at n g parts.0 i lt)
    (λ (le : n ≤ i). let is : i ≡ n = omega arith in rw is parts.1)
    (cases_lt i n)

-- a test that fails at one place
pub all_fails : (n : ℕ) (g : ℕ → Bool) (i : ℕ) → i < n → g i ≡ false → all_to n g ≡ false
unfolding all_to
all_fails zero g i l h = absurd (omega arith)
all_fails (suc n) g i l h =
    ⊎_elim
    (λ (lt : i < n). and_left (all_to n g) (g n) (all_fails n g i lt h))
    (λ (le : n ≤ i). let is : i ≡ n = omega arith in and_right (all_to n g) (g n) (rw (← is) h))
    (cases_lt i n)

-- one place more
pub all_more : (n : ℕ) (g : ℕ → Bool) → all_to n g ≡ true → g n ≡ true → all_to (n + 1) g ≡ true
unfolding all_to
all_more n g h more = rw (add-one n) (grind (arith, nat_tests))

pub least_more : (n : ℕ) (f : ℕ → ℕ) (x y : ℕ) → 1 ≤ n → x ≡ least (n - 1) f → y ≡ f n → min x y ≡ least ((n + 1) - 1) f
unfolding least
least_more zero f x y some e h = absurd (omega arith)
least_more (suc n) f x y some e h =
    let is : (suc n + 1) - 1 ≡ suc n = omega arith in
    let was : suc n - 1 ≡ n = omega arith in
    let e' = rw was at e in
    rw (is, e', h) refl

-- a test that passes at each place
all_of : (n : ℕ) (g : ℕ → Bool) → ((i : ℕ) → i < n → g i ≡ true) → all_to n g ≡ true
unfolding all_to
all_of zero g h = refl
all_of (suc n) g h = rw (add-one n) at (all_more n g (all_of n g (λ i l. h i (omega arith))) (h n (omega arith)))

-- a test over all places, by what is known of each: it passes everywhere, or it fails at one
pub all_is : (n : ℕ) (g : ℕ → Bool) (r : Bool) → MatchBool r ((i : ℕ) → i < n → g i ≡ true) ((i : ℕ) × (i < n) × (g i ≡ false)) → r ≡ all_to n g
all_is n g true h = sym (all_of n g h)
all_is n g false (i, l, h) = sym (all_fails n g i l h)
