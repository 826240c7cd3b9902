-- A yes of a budget is a permit.
use Rattle.std.proofs.Common.{◌≡◌, ◌+◌}
use Rattle.budget.specs.Budget.{BudgetState, budget_rule, budget_most, budget_rest, budget_after}
use Rattle.budget.specs.View.{budget_state}
use Rattle.monitor.proofs.OneLine.{one_asked}
use Rattle.budget.specs.Budgets.{budget_spent}
use Rattle.budget.proofs.budget.calls.BudgetMonitor.ask.Goals as goal

pub returns-clause-asked : goal.returns-clause-asked
returns-clause-asked c =
    let m = c.args.self.now in
    let s = budget_state m in
    let after : ◌≡◌ {A = BudgetState} (record { permits = m.permits; period = m.period; latest = c.args.at; used = c.used_at.result + 1 }) (budget_after s c.args.at) = cc in
    one_asked budget_rule budget_most budget_rest budget_state m c.args.line c.args.at _ (budget_after s c.args.at) after c.if-not-ready.ensures
    (budget_spent s c.args.at (record { few = m.few; long = m.long; within = m.within }))
