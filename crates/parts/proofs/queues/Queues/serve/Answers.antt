-- The partition's queue is served, and the others stay.
use Rattle.std.proofs.Common.{◌<◌, length, sym, arith}
use Rattle.std.proofs.lemmas.Bool.{ltb-true}
use Rattle.parts.proofs.Places.{after, replaced}
use Rattle.parts.proofs.queues.Queues.serve.Goals as goal

pub returns-clause-others : goal.returns-clause-others
returns-clause-others c =
    let all = c.args.self.now.all in
    let i = c.from.result in
    let p = c.args.partition in
    let d = c.index-self-from.result in
    let q = c.serve.new.self in
    let is = c.from.ensures in
    let below : p < length all = ltb-true _ _ (sym c.if-not-has_queue.ensures) in
    let known : i < length all = omega arith in
    λ j. rw (after all i p is known d q) (replaced all i p is known d q j)
