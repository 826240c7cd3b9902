-- Each turn adds one line's share.
use Rattle.std.proofs.Common.{refl, arith}
use Rattle.model.specs.Counting.{sum_to}
use Rattle.board.specs.Held.{held}
use Rattle.curve.proofs.Demands.{share_in, sum_more}
use Rattle.curve.proofs.load.Load.demand.Goals as goal

pub loop-k-init : goal.loop-k-init
unfolding sum_to
loop-k-init g c = (refl, omega arith)

pub loop-k-preserved : goal.loop-k-preserved
loop-k-preserved g c =
    let load = c.args.self.now in
    let more = sum_more c.loop-k.k (share_in (held load.board.now) (g.M.Monitor.ceiling load.monitor.now) (g.C.Curve.most load.curve.now) load.partition c.args.window) in
    grind arith
