-- A distance: permits of one line at least so many ticks apart.
use Rattle.std.specs.Prelude.{ℕ, ◌+◌, ◌-◌, max, Bool, Some, None, Option, nat_le}
use Rattle.model.specs.declared.refusal.Refusal.{Refusal}
use Rattle.model.specs.declared.refusal.Refusal.TheVariants.{Setting}
use Rattle.model.specs.Board.{unless}
use Rattle.model.specs.Counting.{up}
use Rattle.model.specs.Limits.{in_range, longest_setting}
use Rattle.monitor.specs.OneLine.{one_ready, one_ceiling, one_left}

pub record DistanceState : Type 0 where
  pub distance : ℕ
  pub latest : Option ℕ

-- the first instant that lies at least d after a permit, if there was one
abbrev pub free : Option ℕ → ℕ → ℕ
free None d = 0
free (Some p) d = p + d

-- the most permits at instants from a up to, not including, e, at least d apart and at least d after the permit p
abbrev pub thread : ℕ → Option ℕ → ℕ → ℕ → ℕ
thread d p a e = up (e - max a (free p d)) d

abbrev pub distance_rule : DistanceState → ℕ → Bool
distance_rule s = nat_le (free s.latest s.distance)

abbrev pub distance_most : DistanceState → ℕ → ℕ
distance_most s w = up w s.distance

abbrev pub distance_rest : DistanceState → ℕ → ℕ → ℕ
distance_rest s = thread s.distance s.latest

abbrev pub distance_ready : DistanceState → ℕ → ℕ → Bool
distance_ready s = one_ready (distance_rule s)

abbrev pub distance_ceiling : DistanceState → ℕ → ℕ → ℕ
distance_ceiling s = one_ceiling (distance_most s)

abbrev pub distance_left : DistanceState → ℕ → ℕ → ℕ → ℕ
distance_left s = one_left (distance_rest s)

-- after a permit at t
abbrev pub distance_after : DistanceState → ℕ → DistanceState
distance_after s t = record { distance = s.distance; latest = Some t }

-- newly set: no permits yet
abbrev pub distance_new : ℕ → DistanceState
distance_new d = record { distance = d; latest = None }

abbrev pub distance_fault : ℕ → Option Refusal
distance_fault d = unless (in_range 1 longest_setting d) (Setting 0)
