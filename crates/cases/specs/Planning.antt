-- The worked cases of planning: board K with its monitors and curves, and single monitors and curves asked by hand.
use Rattle.std.specs.Prelude.{◌≡◌, ℕ, Bool, true, false, cond, List, [], ◌∷◌, None}
use Rattle.model.specs.Board.{fault, cycle, own, full_cost}
use Rattle.model.specs.Demand.{Bound}
use Rattle.monitor.specs.Pair.{joined_ceiling}
use Rattle.distance.specs.Distance.{distance_new, distance_ceiling}
use Rattle.trail.specs.Trail.{trail_new, trail_ready, trail_after, trail_ceiling}
use Rattle.budget.specs.Budget.{budget_new, budget_ready, budget_after, budget_ceiling}
use Rattle.curve.specs.Single.{single}
use Rattle.curve.specs.Sporadic.{spaced, sporadic_most}
use Rattle.curve.specs.Jitter.{periodic, jitter_most}
use Rattle.curve.specs.Pair.{pair_most}
use Rattle.cases.specs.ExampleBoard.{board_k}

-- its monitors: a distance of 100 for line 0, one of 200 for line 1
abbrev pub ceiling_k : ℕ → ℕ → ℕ
ceiling_k = joined_ceiling 1 (distance_ceiling (distance_new 100)) (distance_ceiling (distance_new 200))

-- its curves: the events of line 0 come 100 ticks apart, those of line 1 come 200 apart
abbrev pub most_k : ℕ → ℕ → ℕ
most_k = pair_most 1 (single (sporadic_most (spaced 100))) (single (sporadic_most (spaced 200)))

module _ {S : Type 0} (ready : S → ℕ → ℕ → Bool) (after : S → ℕ → S) where
  -- what a monitor of one line answers when it is asked at these instants, one after the other
  abbrev pub answers : S → List ℕ → List Bool
  answers s [] = []
  answers s (t ∷ ts) = ready s 0 t ∷ answers (cond (ready s 0 t) (after s t) s) ts

pub record PlanningCases : Type 0 where
  -- no check refuses board K
  pub in_range : fault board_k ≡ None
  -- its slots take 16 ticks together
  pub cycle_of_16 : cycle board_k ≡ 16
  -- partition 0 has 10 ticks of them
  pub own_of_0 : own board_k 0 ≡ 10
  -- partition 1 has 6 ticks of them
  pub own_of_1 : own board_k 1 ≡ 6
  -- a grant of line 0 takes 3 + 1 + 2 · 2 ticks
  pub cost_of_0 : full_cost board_k 0 ≡ 8
  -- a grant of line 1 takes 4 + 1 + 2 · 2 ticks
  pub cost_of_1 : full_cost board_k 1 ≡ 9
  -- 40 ticks hold the demand on partition 0, and no fewer do
  pub bound_of_0 : Bound board_k ceiling_k most_k 0 40
  -- 62 ticks hold the demand on partition 1, and no fewer do
  pub bound_of_1 : Bound board_k ceiling_k most_k 1 62
  -- a budget of one permit in 50 ticks: instants 50 and 99 share a period
  pub budget_asked : answers budget_ready budget_after (budget_new 1 50) (49 ∷ 50 ∷ 99 ∷ []) ≡ true ∷ true ∷ false ∷ []
  -- one tick lies in one period
  pub budget_at_1 : budget_ceiling (budget_new 1 50) 0 1 ≡ 1
  -- two ticks can lie in two
  pub budget_at_2 : budget_ceiling (budget_new 1 50) 0 2 ≡ 2
  -- a trail of 10 and 40: instant 39 lies less than 40 after the permit at 0
  pub trail_asked : answers trail_ready trail_after (trail_new (10 ∷ 40 ∷ [])) (0 ∷ 10 ∷ 39 ∷ 40 ∷ []) ≡ true ∷ true ∷ false ∷ true ∷ []
  -- its second distance lets two permits into 40 ticks, where the first alone would let in four
  pub trail_at_40 : trail_ceiling (trail_new (10 ∷ 40 ∷ [])) 0 40 ≡ 2
  -- a period of 50, late by 10: one event in 40 ticks
  pub jitter_at_40 : single (jitter_most (periodic 50 10)) 0 40 ≡ 1
  -- and two in one tick more
  pub jitter_at_41 : single (jitter_most (periodic 50 10)) 0 41 ≡ 2
