-- One answer: two outcomes of one call from the same core with the same arguments are equal in all that the rules fix.
use Rattle.std.specs.Prelude.{◌≡◌, ℕ, false, List, Result}
use Rattle.model.specs.declared.refusal.Refusal.{Refusal}
use Rattle.model.specs.declared.run.Answer.{Answer}
use Rattle.model.specs.declared.run.Span.{Span}
use Rattle.model.specs.declared.run.Finished.{Finished}
use Rattle.model.specs.declared.run.Ran.{Ran}
use Rattle.model.specs.Core.{Core, permits, Raised, Strobed, Advanced}
use Rattle.model.specs.Monitor.{Meaning}

module _ (S : Type 0) where
  -- an advance: the answer, the core, and every place of both buffers
  abbrev pub AdvancedOnce : Type 0
  AdvancedOnce =
      (x : Core S) (n : ℕ) (spans : List Span) (events : List Finished) (q r : Result Ran Refusal) (y z : Core S) (ys zs : List Span) (fs gs : List Finished)
      → Advanced x n spans events q y ys fs → Advanced x n spans events r z zs gs → (q ≡ r) × (y ≡ z) × (ys ≡ zs) × (fs ≡ gs)

  module _ (means : Meaning S) where
    -- a raise: the answer, the board, the state, and the monitor unless it said yes
    abbrev pub RaisedOnce : Type 0
    RaisedOnce =
        (x : Core S) (mask k tag : ℕ) (q r : Result Answer Refusal) (y z : Core S)
        → Raised means x mask k tag q y → Raised means x mask k tag r z
        → (q ≡ r) × (y.board ≡ z.board) × (y.state ≡ z.state) × (permits means x k ≡ false → y.monitor ≡ z.monitor)

    -- a strobe: both words, the board, the state, and the monitor unless a line was permitted
    abbrev pub StrobedOnce : Type 0
    StrobedOnce =
        (x : Core S) (mask word tag : ℕ) (v w : ℕ × ℕ) (y z : Core S)
        → Strobed means x mask word tag v y → Strobed means x mask word tag w z
        → (v ≡ w) × (y.board ≡ z.board) × (y.state ≡ z.state) × (v.1 ≡ 0 → y.monitor ≡ z.monitor)

    pub record CallsOnce : Type 0 where
      pub raised : RaisedOnce
      pub strobed : StrobedOnce
      pub advanced : AdvancedOnce

abbrev pub OneAnswer : Type 0 → Type 0
OneAnswer S =
    (means : Meaning S) → CallsOnce S means
