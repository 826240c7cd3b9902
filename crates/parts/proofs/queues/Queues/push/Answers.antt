-- The event joins the partition's queue, and the others stay.
use Rattle.std.proofs.Common.{◌<◌, length, set, sym, arith}
use Rattle.std.proofs.lemmas.List.{length-set}
use Rattle.std.proofs.lemmas.Bool.{ltb-true}
use Rattle.parts.proofs.Places.{held_few, held_by_few, joined}
use Rattle.parts.proofs.queues.Queues.push.Goals as goal

pub returns-then-not-has_queue-clause-bound : goal.returns-then-not-has_queue-clause-bound
returns-then-not-has_queue-clause-bound c = held_few c.args.self.now (omega arith)

pub returns-clause-after : goal.returns-clause-after
returns-clause-after c =
    let all = c.args.self.now.all in
    let i = c.from.result in
    let p = c.args.partition in
    let is = c.from.ensures in
    let below : p < length all = ltb-true _ _ (sym c.if-not-has_queue.ensures) in
    joined all i p is (omega arith) c.index-self-from.result c.push.new.self c.args.event c.push.result c.push.ensures.after c.push.ensures.full

pub returns-clause-bound : goal.returns-clause-bound
returns-clause-bound c = held_by_few (set c.args.self.now.all c.from.result c.push.new.self) (omega (arith, length-set c.args.self.now.all c.from.result c.push.new.self))
