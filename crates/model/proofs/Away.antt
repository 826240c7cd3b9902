-- Over any x instants, those whose slot is not p's are at most as many as ⌈x / cycle⌉ whole cycles have.
use Rattle.std.proofs.Common.{◌≡◌, ℕ, zero, suc, ◌+◌, ◌-◌, ◌*◌, ◌%◌, ◌<◌, ◌≤◌, Bool, true, false, cond, eqb, ltb, List, [], ◌∷◌, sym, refl, ap, ◌∙◌, add-zero, add_assoc, add-suc, mod-eq_of_lt, suc-add, zero-add, arith}
use native.Mathlib.Nat.{add-mod_right}
use Rattle.std.proofs.lemmas.Nat.{div-add-mod', mod_below}
use Rattle.std.proofs.lemmas.Bool.Decides.{nat_tests}
use Rattle.model.specs.declared.board.Slot.{Slot}
use Rattle.model.specs.Counting.{up}
use Rattle.model.specs.Board.{Layout, cycle, cycle_of, owner_in, serves, own, owned_in}
use Rattle.model.specs.Demand.{away_most}

-- one for an instant that does not serve
abbrev pub missed : Bool → ℕ
missed true = 0
missed false = 1

-- how many of the n instants from a do not serve p
unfoldable pub away : Layout → ℕ → ℕ → ℕ → ℕ
away b p a zero = 0
away b p a (suc n) = away b p a n + missed (serves b p (a + n))

-- the same of places within a list of slots
unfoldable away_in : List Slot → ℕ → ℕ → ℕ
away_in ss p zero = 0
away_in ss p (suc n) = away_in ss p n + missed (eqb (owner_in ss n) p)

-- the places past the first slot are those of the rest
past_first : (s : Slot) (ss : List Slot) (p n : ℕ) → away_in (s ∷ ss) p (s.ticks + n) ≡ away_in (s ∷ ss) p s.ticks + away_in ss p n
unfolding away_in
past_first s ss p zero = ap (away_in (s ∷ ss) p) (add-zero s.ticks) ∙ sym (add-zero (away_in (s ∷ ss) p s.ticks))
past_first s ss p (suc n) =
    let rest = past_first s ss p n in
    let place : owner_in (s ∷ ss) (s.ticks + n) ≡ owner_in ss n = there in
    let next = ap (λ o. missed (eqb o p)) place in
    ap (away_in (s ∷ ss) p) (add-suc s.ticks n) ∙ omega arith
  where
    there : cond (ltb (s.ticks + n) s.ticks) s.owner (owner_in ss (s.ticks + n - s.ticks)) ≡ owner_in ss n
    there = let back : s.ticks + n - s.ticks ≡ n = omega arith in let same = ap (owner_in ss) back in grind (arith, nat_tests)

first_slot : (s : Slot) (ss : List Slot) (p n : ℕ) → n ≤ s.ticks → away_in (s ∷ ss) p n ≡ cond (eqb s.owner p) 0 n
unfolding away_in
first_slot s ss p zero l = grind (arith, nat_tests)
first_slot s ss p (suc n) l =
    let rest = first_slot s ss p n (omega arith) in
    let owner : owner_in (s ∷ ss) n ≡ s.owner = grind (arith, nat_tests) in
    let here = ap (λ o. missed (eqb o p)) owner in
    grind (arith, nat_tests)

whole_cycle : (ss : List Slot) (p : ℕ) → away_in ss p (cycle_of ss) + owned_in p ss ≡ cycle_of ss
unfolding away_in
whole_cycle [] p = refl
whole_cycle (s ∷ ss) p =
    let rest = whole_cycle ss p in
    let parts = past_first s ss p (cycle_of ss) in
    let first = first_slot s ss p s.ticks (omega arith) in
    grind (arith, nat_tests)

-- from the cycle's start, and then from any instant: a window moved by one loses and gains the same owner
from_start : (b : Layout) (p n : ℕ) → n ≤ cycle b → away b p 0 n ≡ away_in b.slots p n
unfolding away away_in
from_start b p zero l = refl
from_start b p (suc n) l =
    let rest = from_start b p n (omega arith) in
    let place : (0 + n) % cycle b ≡ n = ap (λ x. x % cycle b) (zero-add n) ∙ mod-eq_of_lt l in
    let owner = ap (λ x. missed (eqb (owner_in b.slots x) p)) place in
    omega arith

front : (b : Layout) (p a n : ℕ) → away b p a (suc n) ≡ missed (serves b p a) + away b p (suc a) n
unfolding away
front b p a zero = let same = ap (λ x. missed (serves b p x)) (add-zero a) in omega arith
front b p a (suc n) =
    let rest = front b p a n in
    let same = ap (λ x. missed (serves b p x)) (add-suc a n ∙ sym (suc-add a n)) in
    omega arith

repeats : (b : Layout) (p t : ℕ) → missed (serves b p (t + cycle b)) ≡ missed (serves b p t)
repeats b p t = ap (λ x. missed (eqb (owner_in b.slots x) p)) (add-mod_right t (cycle b))

slides : (b : Layout) (p a : ℕ) → away b p (suc a) (cycle b) ≡ away b p a (cycle b)
unfolding away
slides b p a =
    let one = front b p a (cycle b) in
    let same = repeats b p a in
    omega arith

pub any_cycle : (b : Layout) (p a : ℕ) → away b p a (cycle b) ≡ cycle b - own b p
any_cycle b p zero =
    let start = from_start b p (cycle b) (omega arith) in
    let whole = whole_cycle b.slots p in
    omega arith
any_cycle b p (suc a) = slides b p a ∙ any_cycle b p a

later : (b : Layout) (p a m n : ℕ) → away b p a (m + n) ≡ away b p a m + away b p (a + m) n
unfolding away
later b p a m zero = ap (away b p a) (add-zero m) ∙ sym (add-zero (away b p a m))
later b p a m (suc n) =
    let rest = later b p a m n in
    let same = ap (λ x. missed (serves b p x)) (sym (add_assoc a m n)) in
    ap (away b p a) (add-suc m n) ∙ omega arith

cycles : (b : Layout) (p a q : ℕ) → away b p a (q * cycle b) ≡ q * (cycle b - own b p)
unfolding away
cycles b p a zero = let none : 0 * cycle b ≡ 0 = omega arith in ap (away b p a) none ∙ omega arith
cycles b p a (suc q) =
    let rest = cycles b p a q in
    let one = any_cycle b p (a + q * cycle b) in
    let split : suc q * cycle b ≡ q * cycle b + cycle b = omega arith in
    ap (away b p a) split ∙ (later b p a (q * cycle b) (cycle b) ∙ omega arith)

pub up_covers : (x d : ℕ) → 0 < d → x ≤ up x d * d
up_covers x d h = omega (arith, div-add-mod' (x + (d - 1)) d, mod_below (x + (d - 1)) d h)

pub away_most_lem : (b : Layout) (p a x : ℕ) → 0 < cycle b → away b p a x ≤ away_most b p x
away_most_lem b p a x some =
    let q = up x (cycle b) in
    let enough = up_covers x (cycle b) some in
    let split : q * cycle b ≡ x + (q * cycle b - x) = omega arith in
    let whole = cycles b p a q in
    let parts = ap (away b p a) split ∙ later b p a x (q * cycle b - x) in
    omega arith
