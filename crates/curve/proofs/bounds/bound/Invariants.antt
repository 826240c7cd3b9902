-- The search: what every window tried keeps, and why it ends.
use Rattle.std.proofs.Common.{ℕ, ◌-◌, ◌≤◌}
use Rattle.model.specs.Limits.{instants}
use Rattle.model.specs.Demand.{demand}
use Rattle.board.specs.Held.{held}
use Rattle.curve.proofs.bounds.bound.Given as goal

-- every window that holds its own demand is this long at least
abbrev pub invariant-loop-window : goal.invariant-loop-window
invariant-loop-window g l =
    (1 ≤ l.window)
    × ((y : ℕ) → 1 ≤ y → demand (held l.board) (g.M.Monitor.ceiling l.monitor) (g.C.Curve.most l.curve) l.partition y ≤ y → l.window ≤ y)

abbrev pub decreases-loop-window : goal.decreases-loop-window
decreases-loop-window g l = instants - l.window
