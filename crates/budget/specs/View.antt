-- What a budget holds, as its plain state.
use Rattle.budget.specs.Budget.{BudgetState}
use Rattle.budget.specs.declared.budget.Budget.{Budget}

abbrev pub budget_state : Budget → BudgetState
budget_state m = record { permits = m.permits; period = m.period; latest = m.latest; used = m.used }
