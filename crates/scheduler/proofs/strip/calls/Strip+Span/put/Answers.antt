-- It lengthens the last span, or takes the next place.
use Rattle.std.proofs.Common.{sym, refl, arith}
use Rattle.scheduler.proofs.Fronts.{put_appends, put_lengthens, some_last, last_few, next_place}
use Rattle.scheduler.proofs.strip.calls.Strip+Span.put.Goals as goal

pub overflow_add-self : goal.overflow_add-self
overflow_add-self c =
    let spans = c.args.self.now in
    let some = some_last spans.places.now spans.written c.args.next (sym c.if-lengthens_last.ensures) in
    let few = last_few spans.places.now spans.written some spans.inside in
    omega (arith, c.requires.few_ticks)

pub push-requires : goal.push-requires
push-requires c =
    let spans = c.args.self.now in
    next_place spans.places.now spans.written c.args.next spans.inside (sym c.if-lengthens_last.ensures) c.requires.has_place

pub returns-then-lengthens_last-clause-put : goal.returns-then-lengthens_last-clause-put
returns-then-lengthens_last-clause-put c =
    let spans = c.args.self.now in
    let is = sym c.if-lengthens_last.ensures in
    put_lengthens spans.places.now spans.written c.args.next _ _ (some_last spans.places.now spans.written c.args.next is) spans.inside is refl refl

pub returns-else-lengthens_last-clause-put : goal.returns-else-lengthens_last-clause-put
returns-else-lengthens_last-clause-put c =
    let spans = c.args.self.now in
    let is = sym c.if-lengthens_last.ensures in
    put_appends spans.places.now spans.written c.args.next _ _ (next_place spans.places.now spans.written c.args.next spans.inside is c.requires.has_place) is c.push.ensures.written c.push.ensures.places
