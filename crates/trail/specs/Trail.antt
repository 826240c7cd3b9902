-- A trail: a distance for the latest permit, one for the latest but one, and so on, up to five.
use Rattle.std.specs.Prelude.{ℕ, suc, ◌+◌, ◌-◌, ◌*◌, Bool, List, [], ◌∷◌, length, take, replicate, Some, None, Option, nat_le, slice_index, slice_index_or}
use Rattle.model.specs.declared.refusal.Refusal.{Refusal}
use Rattle.model.specs.declared.refusal.Refusal.TheVariants.{Setting}
use Rattle.model.specs.Board.{or_else, unless}
use Rattle.model.specs.Counting.{sum_to, least, all_to, up}
use Rattle.model.specs.Limits.{in_range, longest_setting}
use Rattle.monitor.specs.OneLine.{one_ready, one_ceiling, one_left}
use Rattle.distance.specs.Distance.{free, thread}

-- the permits are the latest ones, the latest first
pub record TrailState : Type 0 where
  pub distances : List ℕ
  pub permits : List (Option ℕ)

abbrev pub distance_at : TrailState → ℕ → ℕ
distance_at s i = slice_index s.distances i

abbrev pub permit_at : TrailState → ℕ → Option ℕ
permit_at s i = slice_index_or s.permits i None

-- whether the permit at place i, if any, lies at least its distance before t
abbrev pub far : TrailState → ℕ → ℕ → Bool
far s t i = nat_le (free (permit_at s i) (distance_at s i)) t

-- the most permits that the distance at place i lets into a window: each of i + 1 interleaved threads keeps it
abbrev pub scaled : TrailState → ℕ → ℕ → ℕ
scaled s w i = suc i * up w (distance_at s i)

-- the most permits from a up to, not including, e, by the distance at place i: a thread after each of the latest i + 1 permits
abbrev pub woven : TrailState → ℕ → ℕ → ℕ → ℕ
woven s a e i = sum_to (suc i) (λ j. thread (distance_at s i) (permit_at s j) a e)

abbrev pub trail_rule : TrailState → ℕ → Bool
trail_rule s t = all_to (length s.distances) (far s t)

abbrev pub trail_most : TrailState → ℕ → ℕ
trail_most s w = least (length s.distances - 1) (scaled s w)

abbrev pub trail_rest : TrailState → ℕ → ℕ → ℕ
trail_rest s a e = least (length s.distances - 1) (woven s a e)

abbrev pub trail_ready : TrailState → ℕ → ℕ → Bool
trail_ready s = one_ready (trail_rule s)

abbrev pub trail_ceiling : TrailState → ℕ → ℕ → ℕ
trail_ceiling s = one_ceiling (trail_most s)

abbrev pub trail_left : TrailState → ℕ → ℕ → ℕ → ℕ
trail_left s = one_left (trail_rest s)

-- after a permit at t: the five latest are kept
abbrev pub trail_after : TrailState → ℕ → TrailState
trail_after s t = record { distances = s.distances; permits = Some t ∷ take 4 s.permits }

-- newly set: no permits yet
abbrev pub trail_new : List ℕ → TrailState
trail_new ds = record { distances = ds; permits = replicate 5 None }

-- the first distance, counted from i, that is out of range or below the one before
abbrev pub step_fault : ℕ → ℕ → List ℕ → Option Refusal
step_fault i before [] = None
step_fault i before (d ∷ ds) = or_else (unless (in_range before longest_setting d) (Setting i)) (step_fault (i + 1) d ds)

abbrev pub trail_fault : List ℕ → Option Refusal
trail_fault ds = or_else (unless (in_range 1 5 (length ds)) (Setting 0)) (step_fault 1 1 ds)
