-- The slot at a place, and for how long its owner stays.
use Rattle.std.specs.Prelude.{◌≡◌, ℕ, ◌+◌, ◌-◌, ◌<◌, ◌≤◌, cond, List, [], ◌∷◌, nat_lt}
use Rattle.model.specs.declared.board.Slot.{Slot}
use Rattle.model.specs.Board.{cycle_of, owner_in, no_slot}

-- the slot that holds a place, with the ticks that are left of it from there
abbrev pub slot_from : List Slot → ℕ → Slot
slot_from [] place = no_slot
slot_from (s ∷ ss) place = cond (nat_lt place s.ticks) (record { owner = s.owner; ticks = s.ticks - place }) (slot_from ss (place - s.ticks))

-- one partition owns every place
abbrev pub OwnedBy : ℕ → List Slot → Type 0
OwnedBy o ss = (place : ℕ) → place < cycle_of ss → owner_in ss place ≡ o

-- a place within the cycle: its owner, who stays for n ticks, all within the cycle
pub record InSlot (ss : List Slot) (place o n : ℕ) : Type 0 where
  pub some : 0 < n
  pub stays : (i : ℕ) → i < n → owner_in ss (place + i) ≡ o
  pub inside : place + n ≤ cycle_of ss
