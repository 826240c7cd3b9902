-- What is left to check answers for all.
use Rattle.std.proofs.Common.{◌≡◌, ◌+◌, drop}
use Rattle.trail.specs.Trail.{step_fault}
use Rattle.trail.proofs.trail.checks.check_distances.Given as goal

abbrev pub invariant-loop-i : goal.invariant-loop-i
invariant-loop-i l = step_fault (l.i + 1) l.before (drop l.i l.distances.items) ≡ step_fault 1 1 l.distances.items
