-- The demand so far, line by line.
use Rattle.std.proofs.Common.{◌≡◌, ◌*◌, ◌≤◌}
use Rattle.model.specs.Counting.{sum_to}
use Rattle.model.specs.Limits.{largest}
use Rattle.board.specs.Held.{held}
use Rattle.curve.proofs.Demands.{share_in}
use Rattle.curve.proofs.load.Load.demand.Given as goal

-- the shares of the lines so far
abbrev pub invariant-loop-k : goal.invariant-loop-k
invariant-loop-k g l =
    (l.total ≡ sum_to l.k (share_in (held l.self.board.now) (g.M.Monitor.ceiling l.self.monitor.now) (g.C.Curve.most l.self.curve.now) l.self.partition l.window))
    × (l.total ≤ largest * 39000 * l.k)
