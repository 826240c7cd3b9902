-- Bits of a word: adding a weight above all bits sets that bit and no other.
use Rattle.std.proofs.Common.{◌≡◌, ℕ, suc, ◌+◌, ◌-◌, ◌*◌, ◌/◌, ◌%◌, ◌^◌, ◌<◌, true, false, eqb, ap, ◌∙◌, arith}
use native.Mathlib.Nat.{add-mul-div_right, div-eq_of_lt, add-mul-mod_self_right}
use Rattle.std.proofs.lemmas.Nat.{pow_pos, pow-add}
use Rattle.model.specs.Bits.{is_set}

pub unset_above : (t k : ℕ) → t < 2 ^ k → is_set t k ≡ false
unset_above t k l = ap (λ x. eqb (x % 2) 1) (div-eq_of_lt l)

pub set_above : (t k : ℕ) → t < 2 ^ k → is_set (t + 2 ^ k) k ≡ true
set_above t k l =
    let one : 2 ^ k ≡ 1 * 2 ^ k = omega arith in
    let q : (t + 2 ^ k) / 2 ^ k ≡ 1 = ap (λ x. (t + x) / 2 ^ k) one ∙ (add-mul-div_right t 1 (pow_pos k) ∙ ap (λ x. x + 1) (div-eq_of_lt l)) in
    ap (λ x. eqb (x % 2) 1) q

pub same_below : (t j d : ℕ) → is_set (t + 2 ^ (j + suc d)) j ≡ is_set t j
same_below t j d =
    let weight : 2 ^ (j + suc d) ≡ 2 ^ suc d * 2 ^ j = pow-add 2 j (suc d) ∙ omega arith in
    let twice : 2 ^ suc d ≡ 2 ^ d * 2 = omega arith in
    let q : (t + 2 ^ (j + suc d)) / 2 ^ j ≡ t / 2 ^ j + 2 ^ suc d = ap (λ x. (t + x) / 2 ^ j) weight ∙ add-mul-div_right t (2 ^ suc d) (pow_pos j) in
    ap (λ x. eqb (x % 2) 1) q ∙ (ap (λ x. eqb ((t / 2 ^ j + x) % 2) 1) twice ∙ ap (λ x. eqb x 1) (add-mul-mod_self_right (t / 2 ^ j) (2 ^ d) 2))

-- a weight above bit j leaves bit j
pub below_set : (t j k : ℕ) → j < k → is_set (t + 2 ^ k) j ≡ is_set t j
below_set t j k l =
    let apart : k ≡ j + suc (k - suc j) = omega arith in
    ap (λ x. is_set (t + 2 ^ x) j) apart ∙ same_below t j (k - suc j)

pub sum_fits : (t k : ℕ) → t < 2 ^ k → t + 2 ^ k < 2 ^ suc k
sum_fits t k l = omega arith
