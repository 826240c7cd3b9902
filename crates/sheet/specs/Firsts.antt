-- The first of a list, if it has one, and what comes behind it.
use Rattle.std.specs.Prelude.{List, [], ◌∷◌, Some, None, Option}

abbrev pub first_of : {A : Type 0} → List A → Option A
first_of [] = None
first_of (x ∷ xs) = Some x

abbrev pub later_of : {A : Type 0} → List A → List A
later_of [] = []
later_of (x ∷ xs) = xs
