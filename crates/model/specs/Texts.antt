-- The text of a kind of tick, a span, a finished event and a refusal: a letter or words, and numbers in decimal, parted by single spaces.
use Rattle.std.specs.Prelude.{ℕ, List, [], ◌∷◌, ◌++◌, decimal, codes}
use Rattle.model.specs.declared.refusal.Refusal.{Refusal}
use Rattle.model.specs.declared.run.Kind.{Kind}
use Rattle.model.specs.declared.run.Kind.TheVariants.{Top, Switch, Interposed, Bottom, Application}
use Rattle.model.specs.declared.run.Span.{Span}
use Rattle.model.specs.declared.run.Finished.{Finished}
use Rattle.model.specs.Refusals.{number_of, place_of}

-- a space before a word
abbrev pub spaced : List ℕ → List ℕ
spaced word = 32 ∷ word

-- T, X, I, B, A
abbrev pub letter_text : Kind → List ℕ
letter_text Top = 84 ∷ []
letter_text Switch = 88 ∷ []
letter_text Interposed = 73 ∷ []
letter_text Bottom = 66 ∷ []
letter_text Application = 65 ∷ []

-- S first ticks kind who owner
abbrev pub span_shown : Span → List ℕ
span_shown s =
    83 ∷ spaced (decimal s.first
    ++ spaced (decimal s.ticks ++ spaced (letter_text s.kind ++ spaced (decimal s.who ++ spaced (decimal s.owner)))))

-- D tag line raised finished
abbrev pub finished_shown : Finished → List ℕ
finished_shown e =
    68 ∷ spaced (decimal e.tag ++ spaced (decimal e.line ++ spaced (decimal e.raised ++ spaced (decimal e.at))))

-- number 2, place 1
abbrev pub refusal_text : Refusal → List ℕ
refusal_text r = codes "number " ++ decimal (number_of r) ++ codes ", place " ++ decimal (place_of r)
