-- Sporadic curves: events at least a distance apart.
use Rattle.std.specs.Prelude.{ℕ, Option}
use Rattle.model.specs.declared.refusal.Refusal.{Refusal}
use Rattle.model.specs.declared.refusal.Refusal.TheVariants.{Setting}
use Rattle.model.specs.Limits.{in_range, longest_setting}
use Rattle.model.specs.Counting.{up}
use Rattle.model.specs.Board.{unless}
use Rattle.curve.specs.declared.sporadic.Sporadic.{Sporadic}

pub record SporadicState : Type 0 where
  pub distance : ℕ

-- events d ticks apart
abbrev pub spaced : ℕ → SporadicState
spaced d = record { distance = d }

-- what a sporadic curve holds
abbrev pub sporadic_of : Sporadic → SporadicState
sporadic_of c = spaced c.distance

-- what a new one holds
abbrev pub sporadic_new : SporadicState
sporadic_new = spaced longest_setting

-- the first number of the setting that is out of range
abbrev pub sporadic_fault : SporadicState → Option Refusal
sporadic_fault s = unless (in_range 1 longest_setting s.distance) (Setting 0)

-- the most events in a window of w ticks
abbrev pub sporadic_most : SporadicState → ℕ → ℕ
sporadic_most s w = up w s.distance
