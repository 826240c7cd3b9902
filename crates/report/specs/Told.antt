-- The text of a program's trouble.
use Rattle.std.specs.Prelude.{ℕ, List, ◌++◌, Option, None, option_map, codes}
use Rattle.report.specs.declared.trouble.Trouble.{Trouble}
use Rattle.report.specs.declared.trouble.Trouble.TheVariants.{Refused, Output}

-- a refusal has its own text behind two words; what io::Error prints, std leaves open
abbrev pub told : {E : Type 0} → (E → Option (List ℕ)) → Trouble E → Option (List ℕ)
told text (Refused e) = option_map (λ t. codes "refused: " ++ t) (text e)
told text (Output e) = None
