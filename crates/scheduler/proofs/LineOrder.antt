-- The lines of a word in their order: the lowest bit, the word without it, and the lines passed over.
use Rattle.std.proofs.Common.{◌≡◌, ℕ, zero, suc, ◌+◌, ◌-◌, ◌*◌, ◌/◌, ◌%◌, ◌^◌, ◌<◌, ◌≤◌, true, false, ◌&&◌, eqb, leb, sym, refl, ap, ◌∙◌, ⊎_elim, arith}
use native.Mathlib.Nat.{add-mul-div_right, div-eq_of_lt}
use lib.Count.{count_trailing_zeros, under}
use Rattle.std.proofs.lemmas.Nat.{pow_pos, shr-shr}
use Rattle.std.proofs.lemmas.Bool.{cases_lt}
use Rattle.std.proofs.lemmas.Bool.Decides.{nat_tests}
use Rattle.model.specs.Bits.{is_set}
use Rattle.model.proofs.Words.{below_set}

-- bit j + 1 of a number is bit j of its half
higher : (n j : ℕ) → is_set n (suc j) ≡ is_set (n / 2) j
higher n j =
    let split : 1 + j ≡ suc j = omega arith in
    ap (λ x. eqb (x % 2) 1) (ap (λ e. n / 2 ^ e) (sym split) ∙ sym (shr-shr n 1 j))

lowest_bit : (n : ℕ) → is_set n 0 ≡ eqb (n % 2) 1
lowest_bit n = let whole : n / 1 ≡ n = omega arith in ap (λ x. eqb (x % 2) 1) whole

pub record Lowest (k n z : ℕ) : Type 0 where
  pub inside : z < k
  pub set_there : is_set n z ≡ true
  pub none_below : (j : ℕ) → j < z → is_set n j ≡ false

pub lowest : (k n : ℕ) → 0 < n → n < 2 ^ k → Lowest k n (count_trailing_zeros k n)
unfolding count_trailing_zeros
lowest zero n some few = absurd (omega arith)
lowest (suc k) n some few = by (n % 2) refl (λ half. lowest k (n / 2) half (omega arith))
  where
    by : (d : ℕ) → n % 2 ≡ d → (0 < n / 2 → Lowest k (n / 2) (count_trailing_zeros k (n / 2))) → Lowest (suc k) n (under d (count_trailing_zeros k (n / 2)))
    by zero is rec =
        let at = rec (omega arith) in
        record {
          inside = omega (arith, at.inside);
          set_there = higher n (count_trailing_zeros k (n / 2)) ∙ at.set_there;
          none_below = below at;
        }
      where
        below : Lowest k (n / 2) (count_trailing_zeros k (n / 2)) → (j : ℕ) → j < suc (count_trailing_zeros k (n / 2)) → is_set n j ≡ false
        below at zero l = lowest_bit n ∙ ap (λ x. eqb x 1) is
        below at (suc j) l = higher n j ∙ at.none_below j (omega arith)
    by (suc d) is rec =
        let odd : n % 2 ≡ 1 = omega arith in
        record { inside = omega arith; set_there = lowest_bit n ∙ ap (λ x. eqb x 1) odd; none_below = λ j l. absurd (omega arith) }

pub set_le : (n z : ℕ) → is_set n z ≡ true → 2 ^ z ≤ n
set_le n z is =
    ⊎_elim (λ (less : n < 2 ^ z). absurd (never less)) (λ (fine : 2 ^ z ≤ n). fine) (cases_lt n (2 ^ z))
  where
    never : n < 2 ^ z → ⊥
    never less = let zero-there = ap (λ x. eqb (x % 2) 1) (div-eq_of_lt less) in let z : true ≡ false = sym is ∙ zero-there in grind arith

-- the word without one of its bits
module _ (t z : ℕ) (is : is_set (t + 2 ^ z) z ≡ true) where
  quotient : (t + 2 ^ z) / 2 ^ z ≡ t / 2 ^ z + 1
  quotient = let one : 2 ^ z ≡ 1 * 2 ^ z = omega arith in ap (λ x. (t + x) / 2 ^ z) one ∙ add-mul-div_right t 1 (pow_pos z)

  even : t / 2 ^ z % 2 ≡ 0
  even =
      let odd : (t / 2 ^ z + 1) % 2 ≡ 1 = let e = sym (ap (λ x. eqb (x % 2) 1) quotient) ∙ is in grind (arith, nat_tests) in
      omega arith

  pub cleared_there : is_set t z ≡ false
  cleared_there = ap (λ x. eqb x 1) even

  pub cleared_above : (d : ℕ) → is_set t (z + suc d) ≡ is_set (t + 2 ^ z) (z + suc d)
  cleared_above d =
      let half : (t / 2 ^ z + 1) / 2 ≡ t / 2 ^ z / 2 = omega (arith, even) in
      let next : 1 + d ≡ suc d = omega arith in
      ap (λ x. eqb (x % 2) 1)
      (sym (shr-shr t z (suc d))
      ∙ (ap (λ e. t / 2 ^ z / 2 ^ e) (sym next)
      ∙ (sym (shr-shr (t / 2 ^ z) 1 d)
      ∙ (ap (λ x. x / 2 ^ d) (sym half)
      ∙ (shr-shr (t / 2 ^ z + 1) 1 d
      ∙ (ap (λ e. (t / 2 ^ z + 1) / 2 ^ e) next ∙ (ap (λ x. x / 2 ^ suc d) (sym quotient) ∙ shr-shr (t + 2 ^ z) z (suc d))))))))

-- what is left of a word from line n on
abbrev pub LeftOf : ℕ → ℕ → ℕ → Type 0
LeftOf n word rest = (j : ℕ) → is_set rest j ≡ (leb n j && is_set word j)

pub left_start : (word : ℕ) → LeftOf 0 word word
left_start word j = grind (arith, nat_tests)

module _ (n word rest z : ℕ) (left : LeftOf n word rest) (low : Lowest 16 rest z) where
  pub from : n ≤ z
  from = let e = sym (left z) ∙ low.set_there in grind (arith, nat_tests)

  pub word_set : is_set word z ≡ true
  word_set = let e = sym (left z) ∙ low.set_there in grind (arith, nat_tests)

  pub passed : (j : ℕ) → n ≤ j → j < z → is_set word j ≡ false
  passed j l less = let e = sym (left j) ∙ low.none_below j less in grind (arith, nat_tests)

  whole : rest - 2 ^ z + 2 ^ z ≡ rest
  whole = omega (arith, set_le rest z low.set_there)

  pub left_next : LeftOf (suc z) word (rest - 2 ^ z)
  left_next j = ⊎_elim below (λ (l : z ≤ j). ⊎_elim (λ (m : z < j). above m) (λ (m : j ≤ z). here (omega arith)) (cases_lt z j)) (cases_lt j z)
    where
      bit : is_set (rest - 2 ^ z + 2 ^ z) z ≡ true
      bit = ap (λ x. is_set x z) whole ∙ low.set_there

      below : j < z → is_set (rest - 2 ^ z) j ≡ (leb (suc z) j && is_set word j)
      below l =
          let same = sym (below_set (rest - 2 ^ z) j z l) ∙ (ap (λ x. is_set x j) whole ∙ low.none_below j l) in
          grind (arith, nat_tests)

      here : j ≡ z → is_set (rest - 2 ^ z) j ≡ (leb (suc z) j && is_set word j)
      here e = let same = ap (is_set (rest - 2 ^ z)) e ∙ cleared_there (rest - 2 ^ z) z bit in grind (arith, nat_tests)

      above : z < j → is_set (rest - 2 ^ z) j ≡ (leb (suc z) j && is_set word j)
      above l =
          let apart : j ≡ z + suc (j - suc z) = omega arith in
          let same = ap (is_set (rest - 2 ^ z)) apart ∙ (cleared_above (rest - 2 ^ z) z bit (j - suc z) ∙ (ap (is_set (rest - 2 ^ z + 2 ^ z)) (sym apart) ∙ (ap (λ x. is_set x j) whole ∙ left j))) in
          let start = from in
          grind (arith, nat_tests)

-- a word with nothing left names no line from there on
pub left_none : (n word : ℕ) → LeftOf n word 0 → (j : ℕ) → n ≤ j → is_set word j ≡ false
left_none n word left j l =
    let none : is_set 0 j ≡ false = ap (λ x. eqb (x % 2) 1) (div-eq_of_lt (pow_pos j)) in
    let e = sym (left j) ∙ none in
    grind (arith, nat_tests)
