-- What an arrival curve means: the most events that a line can raise in a window of w ticks.
use Rattle.std.specs.Prelude.{◌≡◌, ℕ, ◌<◌, ◌≤◌}
use Rattle.model.specs.Limits.{instants, largest}

-- The laws of one curve, by its number of lines and the most events of line k in a window of w ticks.
pub record CurveLaws (lines : ℕ) (most : ℕ → ℕ → ℕ) : Type 0 where
  pub few : lines ≤ 16
  pub starts : (k : ℕ) → most k 0 ≡ 0
  pub grows : (k v w : ℕ) → v ≤ w → most k v ≤ most k w
  pub bounded : (k w : ℕ) → most k w ≤ largest
  pub unknown : (k w : ℕ) → lines ≤ k → most k w ≡ 0
  pub long : (k w : ℕ) → instants < w → most k w ≡ most k instants
