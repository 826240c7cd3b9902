-- There is a place left, or the last span grows.
use Rattle.std.proofs.Common.{◌≡◌, ℕ, suc, ◌<◌, Bool, true, false, cond, leb, ltb, take, ◌∙◌, arith}
use Rattle.std.proofs.lemmas.List.{length-take-le}
use Rattle.std.proofs.lemmas.Bool.Decides.{nat_tests}
use Rattle.scheduler.specs.Strips.{lengthens_last}
use Rattle.scheduler.proofs.Fronts.{length_grown}
use Rattle.scheduler.proofs.strip.calls.Strip+Span.has_place.Goals as goal

some_left : (g n m w : ℕ) (t : Bool) → g ≡ cond t n (suc n) → n ≡ w → w < m → ltb w m ≡ leb g m
some_left g n m w true e f l = grind (arith, nat_tests)
some_left g n m w false e f l = grind (arith, nat_tests)

full : (g n m w : ℕ) (t : Bool) → g ≡ cond t n (suc n) → n ≡ w → w ≡ m → t ≡ leb g m
full g n m w true e f l = grind (arith, nat_tests)
full g n m w false e f l = grind (arith, nat_tests)

pub returns-then-self : goal.returns-then-self
returns-then-self c =
    let spans = c.args.self.now in
    some_left _ _ _ spans.written (lengthens_last (take spans.written spans.places.now) c.args.next)
    (length_grown (take spans.written spans.places.now) c.args.next) (length-take-le spans.written spans.places.now spans.inside) c.if-self.true

pub returns-else-self : goal.returns-else-self
returns-else-self c =
    let spans = c.args.self.now in
    let inside = spans.inside in
    c.lengthens_last.ensures
    ∙ full _ _ _ spans.written (lengthens_last (take spans.written spans.places.now) c.args.next)
    (length_grown (take spans.written spans.places.now) c.args.next) (length-take-le spans.written spans.places.now inside) (omega arith)
