-- A run: any list of raise, strobe and advance on one core that starts new, refused calls included, each with any mask.
use Rattle.std.specs.Prelude.{ℕ, List, [], ◌∷◌, Result}
use Rattle.model.specs.declared.refusal.Refusal.{Refusal}
use Rattle.model.specs.declared.run.Answer.{Answer}
use Rattle.model.specs.declared.run.Span.{Span}
use Rattle.model.specs.declared.run.Finished.{Finished}
use Rattle.model.specs.declared.run.Ran.{Ran}
use Rattle.model.specs.Core.{Core, Raised, Strobed, Advanced}
use Rattle.model.specs.Monitor.{Meaning}

-- a call: what was given and what was answered; of an advance also the buffers before and after
pub data Call : Type 0 where
  raise : (mask line tag : ℕ) → Result Answer Refusal → Call
  strobe : (mask word tag : ℕ) → ℕ × ℕ → Call
  advance : (n : ℕ) → List Span → List Finished → Result Ran Refusal → List Span → List Finished → Call

module _ {S : Type 0} (means : Meaning S) where
  -- a call takes the core x to the core y: the very relations that the calls' contracts state
  abbrev pub Called : Core S → Call → Core S → Type 0
  Called x (raise mask line tag r) y = Raised means x mask line tag r y
  Called x (strobe mask word tag w) y = Strobed means x mask word tag w y
  Called x (advance n spans events r spans' events') y = Advanced x n spans events r y spans' events'

  -- the calls, newest first, take the core x to the core y, each from the core that its predecessor left
  pub data Run (x : Core S) : List Call → Core S → Type 0 where
    start : Run x [] x
    call : {calls : List Call} {y : Core S} {c : Call} {z : Core S} → Run x calls y → Called y c z → Run x (c ∷ calls) z
