-- Lines of text: of a span, of a finished event, and of each element of a list.
use Rattle.std.specs.Prelude.{ℕ, List, [], ◌∷◌, ◌++◌, Option, option_map, flat_map}
use Rattle.model.specs.declared.run.Span.{Span}
use Rattle.model.specs.declared.run.Finished.{Finished}
use Rattle.model.specs.Texts.{span_shown, finished_shown}

abbrev pub line_feed : List ℕ
line_feed = 10 ∷ []

-- a line of its own
abbrev pub line_text : Option (List ℕ) → Option (List ℕ)
line_text shown = option_map (λ text. text ++ line_feed) shown

-- S first ticks kind who owner
abbrev pub span_text : Span → List ℕ
span_text s = span_shown s ++ line_feed

-- D tag line raised finished
abbrev pub finished_text : Finished → List ℕ
finished_text e = finished_shown e ++ line_feed

-- lines of text, one for each element
abbrev pub lines_text : {X : Type 0} → (X → List ℕ) → List X → List ℕ
lines_text line xs = flat_map line xs
