-- A yes of a distance is a permit.
use Rattle.std.proofs.Common.{refl}
use Rattle.distance.specs.Distance.{distance_rule, distance_most, distance_rest, distance_after}
use Rattle.distance.specs.View.{distance_state}
use Rattle.monitor.proofs.OneLine.{one_asked}
use Rattle.distance.specs.Distances.{distance_spent}
use Rattle.distance.proofs.distance.calls.DistanceMonitor.ask.Goals as goal

pub returns-clause-asked : goal.returns-clause-asked
returns-clause-asked c =
    let m = c.args.self.now in
    one_asked distance_rule distance_most distance_rest distance_state m c.args.line c.args.at _
    (distance_after (distance_state m) c.args.at) refl c.if-not-ready.ensures (distance_spent (distance_state m) c.args.at m.some)
