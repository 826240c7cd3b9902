-- A trail is ready when every permit is far enough, and not where one is not.
use Rattle.std.proofs.Common.{length, rules, arith}
use Rattle.std.proofs.iter.runs.Made.{chains}
use Rattle.std.proofs.lemmas.Bool.Decides.{nat_tests}
use Rattle.trail.specs.Trail.{far}
use Rattle.trail.specs.View.{trail_state}
use Rattle.trail.specs.Least.{all_is}
use Rattle.trail.proofs.trail.calls.TrailMonitor.ready.Goals as goal

pub returns-then-at-le-END : goal.returns-then-at-le-END
returns-then-at-le-END c =
    let s = trail_state c.args.self.now in
    let all = all_is (length s.distances) (far s c.args.at) c.all.result (search (rules, chains)) in
    grind (arith, nat_tests)
