-- Eight queues hold 256 events at most.
use Rattle.std.proofs.Common.{arith}
use Rattle.parts.proofs.Places.{held_few}
use Rattle.parts.proofs.queues.Queues.held.Goals as goal

pub returns-clause-bound : goal.returns-clause-bound
returns-clause-bound c = omega (arith, c.sum_of.ensures, held_few c.args.self.now (omega arith))
