-- The owner of a place within the cycle is that of each instant at it.
use Rattle.std.proofs.Common.{◌≡◌, ℕ, ◌+◌, ◌*◌, ◌/◌, ◌%◌, ◌<◌, ap, ◌∙◌, mod-eq_of_lt, arith}
use native.Mathlib.Nat.{add-mul-mod_self_right}
use Rattle.std.proofs.lemmas.Nat.{div-add-mod', mod_below}
use Rattle.model.specs.Board.{Layout, cycle, owner_in}
use Rattle.board.specs.Slots.{OwnedBy, InSlot}
use Rattle.scheduler.specs.Slots.{Stays}

-- within a cycle the place moves with the instant
place_moves : (at i c : ℕ) → at % c + i < c → (at + i) % c ≡ at % c + i
place_moves at i c inside =
    let split : at + i ≡ (at % c + i) + at / c * c = omega (arith, div-add-mod' at c) in
    ap (λ x. x % c) split ∙ (add-mul-mod_self_right (at % c + i) (at / c) c ∙ mod-eq_of_lt inside)

pub stays_in : (b : Layout) (at o n : ℕ) → InSlot b.slots (at % cycle b) o n → Stays b at o n
stays_in b at o n r = record {
  lasting = r.some;
  owned = λ i l. ap (owner_in b.slots) (place_moves at i (cycle b) (omega (arith, r.inside))) ∙ r.stays i l;
}

pub stays_ever : (b : Layout) (at o n : ℕ) → 0 < cycle b → 0 < n → OwnedBy o b.slots → Stays b at o n
stays_ever b at o n some long all = record { lasting = long; owned = λ i l. all ((at + i) % cycle b) (mod_below (at + i) (cycle b) some) }
