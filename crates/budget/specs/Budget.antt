-- A budget: so many permits of one line in each period; periods start at multiples of their length.
use Rattle.std.specs.Prelude.{ℕ, ◌+◌, ◌-◌, ◌*◌, ◌/◌, max, Bool, cond, ◌&&◌, Option, ◌==◌, nat_le, nat_lt}
use Rattle.model.specs.declared.refusal.Refusal.{Refusal}
use Rattle.model.specs.declared.refusal.Refusal.TheVariants.{Setting}
use Rattle.model.specs.Board.{or_else, unless}
use Rattle.model.specs.Counting.{up}
use Rattle.model.specs.Limits.{in_range, longest_setting}
use Rattle.monitor.specs.OneLine.{one_ready, one_ceiling, one_left}

-- used counts the permits in the period of the latest; before the first permit both are 0
pub record BudgetState : Type 0 where
  pub permits : ℕ
  pub period : ℕ
  pub latest : ℕ
  pub used : ℕ

-- the permits that fell in period x, which is not before that of the latest permit
abbrev pub used_in : BudgetState → ℕ → ℕ
used_in s x = cond (x == s.latest / s.period) s.used 0

-- the permits left from period x to period z
abbrev pub spare : BudgetState → ℕ → ℕ → ℕ
spare s x z = s.permits * (z - x + 1) - used_in s x

abbrev pub budget_rule : BudgetState → ℕ → Bool
budget_rule s t = nat_le s.latest t && nat_lt (used_in s (t / s.period)) s.permits

abbrev pub budget_most : BudgetState → ℕ → ℕ
budget_most s w = cond (w == 0) 0 (s.permits * (up (w - 1) s.period + 1))

-- the permits left at instants from a up to, not including, e, where a is not before the latest permit
abbrev pub remaining : BudgetState → ℕ → ℕ → ℕ
remaining s a e = cond (nat_lt a e) (spare s (a / s.period) ((e - 1) / s.period)) 0

abbrev pub budget_rest : BudgetState → ℕ → ℕ → ℕ
budget_rest s a e = remaining s (max a s.latest) e

abbrev pub budget_ready : BudgetState → ℕ → ℕ → Bool
budget_ready s = one_ready (budget_rule s)

abbrev pub budget_ceiling : BudgetState → ℕ → ℕ → ℕ
budget_ceiling s = one_ceiling (budget_most s)

abbrev pub budget_left : BudgetState → ℕ → ℕ → ℕ → ℕ
budget_left s = one_left (budget_rest s)

-- after a permit at t
abbrev pub budget_after : BudgetState → ℕ → BudgetState
budget_after s t = record { permits = s.permits; period = s.period; latest = t; used = used_in s (t / s.period) + 1 }

-- newly set: no permits yet
abbrev pub budget_new : ℕ → ℕ → BudgetState
budget_new n p = record { permits = n; period = p; latest = 0; used = 0 }

abbrev pub budget_fault : ℕ → ℕ → Option Refusal
budget_fault n p = or_else (unless (in_range 1 64 n) (Setting 0)) (unless (in_range 1 longest_setting p) (Setting 1))
