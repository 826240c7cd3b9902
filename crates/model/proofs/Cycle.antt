-- The cycle of a board in range is neither empty nor long, and holds what each partition owns.
use Rattle.std.proofs.Common.{ℕ, zero, suc, ◌*◌, ◌<◌, ◌≤◌, List, [], ◌∷◌, length, get_or, arith}
use Rattle.std.proofs.lemmas.Bool.Decides.{nat_tests}
use Rattle.model.specs.declared.board.Slot.{Slot}
use Rattle.model.specs.Board.{Layout, cycle_of, cycle, owned_in, own, SlotInRange, InRange, no_slot}

each_few : (n : ℕ) (ss : List Slot) → ((i : ℕ) → i < length ss → SlotInRange n (get_or ss i no_slot)) → cycle_of ss ≤ 1000000 * length ss
each_few n [] h = omega arith
each_few n (s ∷ ss) h =
    let first = h zero (omega arith) in
    let rest = each_few n ss (λ i l. h (suc i) (omega arith)) in
    omega arith

pub cycle_few : (b : Layout) → InRange b → cycle b ≤ 16000000
cycle_few b r = omega (arith, each_few b.partitions b.slots r.each_slot)

first_some : (n : ℕ) (ss : List Slot) → 1 ≤ length ss → ((i : ℕ) → i < length ss → SlotInRange n (get_or ss i no_slot)) → 0 < cycle_of ss
first_some n [] l h = absurd (omega arith)
first_some n (s ∷ ss) l h = let first = h zero (omega arith) in omega arith

pub cycle_some : (b : Layout) → InRange b → 0 < cycle b
cycle_some b r = first_some b.partitions b.slots r.slots_some r.each_slot

owned_few : (p : ℕ) (ss : List Slot) → owned_in p ss ≤ cycle_of ss
owned_few p [] = omega arith
owned_few p (s ∷ ss) = let more = owned_few p ss in grind (arith, nat_tests)

pub own_few : (b : Layout) (p : ℕ) → own b p ≤ cycle b
own_few b p = owned_few p b.slots
