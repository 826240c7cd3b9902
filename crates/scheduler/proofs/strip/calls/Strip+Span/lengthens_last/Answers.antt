-- The last of the first spans is the one before the next place.
use Rattle.std.proofs.Common.{◌≡◌, ◌-◌, ◌&&◌, eqb, get_or, sym, refl, ap, ◌∙◌, arith}
use denote.Enum.Bare.{sameb}
use Rattle.model.specs.contracts.run.Kind.{the_type}
use Rattle.model.specs.declared.run.Kind.{Kind}
use Rattle.model.specs.declared.run.Kind.TheVariants.{Top, Switch, Interposed, Bottom, Application}
use Rattle.model.specs.declared.run.Row.{Row}
use Rattle.model.specs.declared.run.Span.{Span}
use Rattle.model.specs.Seen.{row_of}
use Rattle.model.specs.Tape.{alike, kind_place}
use Rattle.scheduler.specs.Strips.{no_span}
use Rattle.scheduler.proofs.Fronts.{last_alike}
use Rattle.scheduler.proofs.strip.calls.Strip+Span.lengthens_last.Goals as goal

-- equal kinds have one place
same_kind : (a b : Kind) → sameb the_type a b ≡ eqb (kind_place a) (kind_place b)
same_kind Top b = elim b as (λ k. sameb the_type Top k ≡ eqb (kind_place Top) (kind_place k)) [ Top ↦ refl | Switch ↦ refl | Interposed ↦ refl | Bottom ↦ refl | Application ↦ refl ]
same_kind Switch b = elim b as (λ k. sameb the_type Switch k ≡ eqb (kind_place Switch) (kind_place k)) [ Top ↦ refl | Switch ↦ refl | Interposed ↦ refl | Bottom ↦ refl | Application ↦ refl ]
same_kind Interposed b = elim b as (λ k. sameb the_type Interposed k ≡ eqb (kind_place Interposed) (kind_place k)) [ Top ↦ refl | Switch ↦ refl | Interposed ↦ refl | Bottom ↦ refl | Application ↦ refl ]
same_kind Bottom b = elim b as (λ k. sameb the_type Bottom k ≡ eqb (kind_place Bottom) (kind_place k)) [ Top ↦ refl | Switch ↦ refl | Interposed ↦ refl | Bottom ↦ refl | Application ↦ refl ]
same_kind Application b = elim b as (λ k. sameb the_type Application k ≡ eqb (kind_place Application) (kind_place k)) [ Top ↦ refl | Switch ↦ refl | Interposed ↦ refl | Bottom ↦ refl | Application ↦ refl ]

-- spans are alike if their rows are equal
same_row : (x y : Span) (q r : Row) → q ≡ row_of x → r ≡ row_of y
    → (sameb the_type q.kind r.kind && (eqb q.who r.who && eqb q.owner r.owner)) ≡ alike x y
same_row x y q r q-is r-is = rw (q-is, r-is) (ap (λ t. t && (eqb x.who y.who && eqb x.owner y.owner)) (same_kind x.kind y.kind))

pub returns : goal.returns
returns c =
    c.eq.ensures
    ∙ (same_row (get_or c.args.self.now.places.now (c.args.self.now.written - 1) no_span) c.args.next _ _ c.row.ensures c.row-2.ensures
    ∙ sym (last_alike c.args.self.now.places.now c.args.self.now.written c.args.next (omega arith) c.args.self.now.inside))
