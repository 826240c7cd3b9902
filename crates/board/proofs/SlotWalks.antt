-- Walking over slots: what is left of them and the whole.
use Rattle.std.proofs.Common.{◌≡◌, ℕ, ◌+◌, ◌-◌, ◌<◌, ◌≤◌, true, false, cond, ltb, eqb, Bool, List, [], ◌∷◌, length, get_or, drop, refl, ap, ◌∙◌, arith}
use Rattle.std.specs.List.{list_all}
use Rattle.std.proofs.lemmas.List.{at_drop_more}
use Rattle.std.proofs.lemmas.Bool.Decides.{nat_tests}
use Rattle.model.specs.declared.board.Slot.{Slot}
use Rattle.model.specs.Board.{cycle_of, owner_in, no_slot}
use Rattle.board.specs.Slots.{OwnedBy, InSlot, slot_from}

-- where every slot is one partition's, so is every place
pub owned_by_all : (o : ℕ) (ss : List Slot) → list_all (λ s. eqb s.owner o) ss ≡ true → OwnedBy o ss
owned_by_all o [] all place l = absurd (omega arith)
owned_by_all o (s ∷ ss) all place l = by (owned_by_all o ss) (ltb place s.ticks) refl
  where
    by : (list_all (λ x. eqb x.owner o) ss ≡ true → OwnedBy o ss) → (t : Bool) → ltb place s.ticks ≡ t → cond t s.owner (owner_in ss (place - s.ticks)) ≡ o
    by rest true e = grind (arith, nat_tests)
    by rest false e = rest (grind (arith, nat_tests)) (place - s.ticks) (grind (arith, nat_tests))

in_later : (s : Slot) (ss : List Slot) (x o n : ℕ) → s.ticks ≤ x → InSlot ss (x - s.ticks) o n → InSlot (s ∷ ss) x o n
in_later s ss x o n past r = record {
  some = r.some;
  stays = λ i l.
      let place : x + i - s.ticks ≡ x - s.ticks + i = omega arith in
      let same = ap (owner_in ss) place ∙ r.stays i l in
      grind (arith, nat_tests);
  inside = omega (arith, r.inside);
}

in_first : (s : Slot) (ss : List Slot) (x : ℕ) → x < s.ticks → InSlot (s ∷ ss) x s.owner (s.ticks - x)
in_first s ss x l = record { some = omega arith; stays = λ i k. grind (arith, nat_tests); inside = omega arith }

-- the slot that holds a place of the cycle stays for what is left of it
pub in_slot_from : (ss : List Slot) (x : ℕ) → x < cycle_of ss → InSlot ss x (slot_from ss x).owner (slot_from ss x).ticks
in_slot_from [] x l = absurd (omega arith)
in_slot_from (s ∷ ss) x l = by (in_slot_from ss (x - s.ticks)) (ltb x s.ticks) refl
  where
    by : (x - s.ticks < cycle_of ss → InSlot ss (x - s.ticks) (slot_from ss (x - s.ticks)).owner (slot_from ss (x - s.ticks)).ticks)
        → (t : Bool) → ltb x s.ticks ≡ t → InSlot (s ∷ ss) x (slot_from (s ∷ ss) x).owner (slot_from (s ∷ ss) x).ticks
    by rest true e = rw e (in_first s ss x (grind (arith, nat_tests)))
    by rest false e = rw e (in_later s ss x _ _ (grind (arith, nat_tests)) (rest (grind (arith, nat_tests))))

pub here_step : (ss : List Slot) (i x : ℕ) → i < length ss → slot_from (drop i ss) x ≡ slot_from (get_or ss i no_slot ∷ drop (i + 1) ss) x
here_step ss i x l = at_drop_more (λ (y : List Slot). slot_from y x) ss i no_slot l

pub cycle_step : (ss : List Slot) (i : ℕ) → i < length ss → cycle_of (drop i ss) ≡ (get_or ss i no_slot).ticks + cycle_of (drop (i + 1) ss)
cycle_step ss i l = at_drop_more cycle_of ss i no_slot l
