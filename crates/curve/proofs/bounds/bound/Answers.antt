-- The demand grows with the window, so no window below the demand of one that is too short holds its own.
use Rattle.std.proofs.Common.{arith}
use Rattle.std.proofs.lemmas.Bool.Decides.{nat_tests}
use Rattle.model.proofs.Ranges.{in_range_lem}
use Rattle.model.proofs.Cycle.{cycle_some, own_few}
use Rattle.board.specs.Held.{held}
use Rattle.curve.proofs.Demands.{demand_grows}
use Rattle.curve.proofs.bounds.bound.Goals as goal

pub overflow_sub-load : goal.overflow_sub-load
overflow_sub-load g c =
    let few = own_few (held c.args.board.now) c.args.partition in
    let was = c.in_ok-own.was in
    grind (arith, nat_tests)

pub loop-window-preserved : goal.loop-window-preserved
loop-window-preserved g c =
    let b = held c.args.board.now in
    let grows = demand_grows b (g.M.Monitor.ceiling c.args.monitor.now) (g.C.Curve.most c.args.curve.now)
    (cycle_some b (in_range_lem b c.args.board.now.in_range))
    (g.met.M.Monitor.lawful c.args.monitor.now).grows (g.met.C.Curve.lawful c.args.curve.now).grows c.args.partition in
    (omega arith, λ y some holds. let more = grows c.loop-window.window y (c.loop-window.invariant.1 y some holds) in omega arith)
