-- The first element that does not fit stands where the first that fails its test does.
use Rattle.std.proofs.Common.{◌≡◌, ℕ, ◌+◌, Bool, true, false, cond, not, List, [], ◌∷◌, Some, Option, refl, sym, ap, ◌∙◌}
use Rattle.std.specs.List.{position, position_from}
use Rattle.std.specs.Option.{option_map}
use Rattle.std.proofs.lemmas.Iterator.Adapters.{position_from-zero}
use Rattle.model.specs.declared.refusal.Refusal.{Refusal}
use Rattle.model.specs.Board.{or_else, unless, first_fault}

module _ {X : Type 0} (fits : X → Bool) (named : ℕ → Refusal) where
  abbrev unfit : X → Bool
  unfit x = not (fits x)

  first_fault_from : (i : ℕ) (xs : List X) → first_fault fits named i xs ≡ option_map named (position_from unfit i xs)
  first_fault_from i [] = refl
  first_fault_from i (x ∷ xs) =
      elim (fits x) as (λ t. or_else (unless t (named i)) (first_fault fits named (i + 1) xs) ≡ option_map named (cond (not t) (Some i) (position_from unfit (i + 1) xs))) [
        | true ↦ first_fault_from (i + 1) xs
        | false ↦ refl
      ]

  pub first_fault_at : (xs : List X) (at found : Option ℕ) → found ≡ at → found ≡ position unfit xs → option_map named at ≡ first_fault fits named 0 xs
  first_fault_at xs at found is e = ap (option_map named) (sym is ∙ (e ∙ position_from-zero unfit xs)) ∙ sym (first_fault_from 0 xs)
