-- The slot at an instant, and for how long its owner stays.
use Rattle.std.specs.Prelude.{◌≡◌, ℕ, ◌+◌, ◌<◌}
use Rattle.model.specs.Board.{Layout, owner_at}

-- an instant: the owner of its slot, who stays for n ticks
pub record Stays (b : Layout) (at o n : ℕ) : Type 0 where
  pub lasting : 0 < n
  pub owned : (i : ℕ) → i < n → owner_at b (at + i) ≡ o

-- the same where n may be 0: then nothing is said of the owner
abbrev pub StaysOn : Layout → ℕ → ℕ → ℕ → Type 0
StaysOn b at o n = 0 < n → Stays b at o n
