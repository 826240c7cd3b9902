-- What a call that replaces a value, or refuses, answers and leaves.
use Rattle.std.specs.Prelude.{◌≡◌, Some, None, Ok, Err, Option, Result}
use Rattle.model.specs.declared.refusal.Refusal.{Refusal}

-- a check's answer: nothing, or its refusal
abbrev pub answer : Option Refusal → Result (Unit {0}) Refusal
answer None = Ok tt
answer (Some f) = Err f

module _ {M S : Type 0} (view : M → S) where
  -- The value before becomes one that holds what is new, where no check fails; else it is as before, and the refusal is the first
  -- check's that fails.
  abbrev pub Replaced : Option Refusal → S → M → Result (Unit {0}) Refusal → M → Type 0
  Replaced None new before r after = (r ≡ Ok tt) × (view after ≡ new)
  Replaced (Some f) new before r after = (r ≡ Err f) × (after ≡ before)

  -- two outcomes of one such call are alike in the answer and in all that they hold
  abbrev pub ReplacedOnce : Type 0
  ReplacedOnce =
      (f : Option Refusal) (new : S) (before : M) (r s : Result (Unit {0}) Refusal) (m n : M)
      → Replaced f new before r m → Replaced f new before s n → (r ≡ s) × (view m ≡ view n)
