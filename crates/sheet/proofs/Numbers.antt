-- Reading digits, from a place on.
use Rattle.std.proofs.Common.{◌≡◌, ℕ, ◌+◌, ◌-◌, ◌*◌, ◌<◌, ◌≤◌, true, false, cond, ◌&&◌, leb, List, [], ◌∷◌, length, get_or, drop, Some, None, refl, arith}
use Rattle.std.proofs.lemmas.List.{at_drop_more, at_drop_all}
use Rattle.std.proofs.lemmas.Bool.Decides.{nat_tests}
use Rattle.sheet.specs.Reading.{all_digits, value_after, decimal_of, is_digit}

-- digits that follow make a number no smaller
value_grows : (n : ℕ) (bs : List ℕ) → n ≤ value_after n bs
unfolding value_after
value_grows n [] = omega arith
value_grows n (b ∷ bs) = omega (arith, value_grows (n * 10 + (b - 48)) bs)

-- a number by its two tests
decimal_is : (limit : ℕ) (bs : List ℕ) → 0 < length bs →
    decimal_of limit bs ≡ cond (all_digits bs && leb (value_after 0 bs) limit) (Some (value_after 0 bs)) None
decimal_is limit [] h = absurd (omega arith)
decimal_is limit (b ∷ bs) h = refl

-- what is left from a place on tells whether all are digits, and, behind the value n, the value of all
pub record Digits (bs : List ℕ) (i n : ℕ) : Type 0 where
  pub digits : all_digits (drop i bs) ≡ all_digits bs
  pub value : value_after n (drop i bs) ≡ value_after 0 bs

-- one digit on
pub digits_more : (bs : List ℕ) (i n m : ℕ) → i < length bs → is_digit (get_or bs i 0) ≡ true → m ≡ n * 10 + (get_or bs i 0 - 48) →
    Digits bs i n → Digits bs (i + 1) m
unfolding all_digits value_after
digits_more bs i n m l h e d =
    let ds = at_drop_more all_digits bs i 0 l in
    let vs = at_drop_more (value_after n) bs i 0 l in
    record { digits = grind (arith, nat_tests); value = cc }

-- a byte that is no digit
pub no_digit : (limit : ℕ) (bs : List ℕ) (i n : ℕ) → i < length bs → is_digit (get_or bs i 0) ≡ false → Digits bs i n →
    None ≡ decimal_of limit bs
unfolding all_digits
no_digit limit bs i n l h d =
    let ds = at_drop_more all_digits bs i 0 l in
    let none : all_digits bs ≡ false = grind (arith, nat_tests) in
    rw (decimal_is limit bs (omega arith), none) refl

-- a number past the limit
pub too_large : (limit : ℕ) (bs : List ℕ) (i n m : ℕ) → i < length bs → m ≡ n * 10 + (get_or bs i 0 - 48) → limit < m →
    Digits bs i n → None ≡ decimal_of limit bs
unfolding value_after
too_large limit bs i n m l e h d =
    let vs = at_drop_more (value_after n) bs i 0 l in
    let up = value_grows (n * 10 + (get_or bs i 0 - 48)) (drop (i + 1) bs) in
    let is = decimal_is limit bs (omega arith) in
    grind (arith, nat_tests)

-- all bytes read
pub all_read : (limit : ℕ) (bs : List ℕ) (i n : ℕ) → 0 < length bs → length bs ≤ i → n ≤ limit → Digits bs i n →
    Some n ≡ decimal_of limit bs
unfolding all_digits value_after
all_read limit bs i n l end h d =
    let ds = at_drop_all all_digits bs i end in
    let vs = at_drop_all (value_after n) bs i end in
    let is = decimal_is limit bs l in
    grind (arith, nat_tests)
