-- The tape: ticks grouped into spans.
use Rattle.std.specs.Prelude.{ℕ, zero, suc, ◌+◌, Bool, cond, ◌&&◌, List, [], ◌∷◌, ◌==◌}
use Rattle.model.specs.declared.run.Kind.{Kind}
use Rattle.model.specs.declared.run.Kind.TheVariants.{Top, Switch, Interposed, Bottom, Application}
use Rattle.model.specs.declared.run.Span.{Span}
use Rattle.model.specs.Board.{Layout}
use Rattle.model.specs.Tick.{State, tick, after}
use Rattle.model.specs.declared.run.Row.{Row}

abbrev pub kind_place : Kind → ℕ
kind_place Top = 0
kind_place Switch = 1
kind_place Interposed = 2
kind_place Bottom = 3
kind_place Application = 4

-- alike in kind, who and slot owner
abbrev pub alike : Span → Span → Bool
alike x y = kind_place x.kind == kind_place y.kind && (x.who == y.who && x.owner == y.owner)

abbrev pub longer : Span → ℕ → Span
longer x n = record { first = x.first; ticks = x.ticks + n; kind = x.kind; who = x.who; owner = x.owner }

-- one span more: it lengthens the last if alike, else it stands behind it
abbrev pub grown : List Span → Span → List Span
grown [] x = x ∷ []
grown (y ∷ []) x = cond (alike y x) (longer y x.ticks ∷ []) (y ∷ x ∷ [])
grown (z ∷ y ∷ ys) x = z ∷ grown (y ∷ ys) x

abbrev pub span : ℕ → ℕ → Row → Span
span t n r = record { first = t; ticks = n; kind = r.kind; who = r.who; owner = r.owner }

-- the spans of the first n ticks from a state, in their order
abbrev pub tape : Layout → State → ℕ → List Span
tape b s zero = []
tape b s (suc n) = grown (tape b s n) (span (after b s n).instant 1 (tick b (after b s n)).row)
