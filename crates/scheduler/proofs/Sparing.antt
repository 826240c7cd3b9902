-- A strobe spends one permit at most: once a line is permitted a grant is open, and no monitor is asked.
use Rattle.std.proofs.Common.{◌≡◌, ℕ, ◌+◌, ◌^◌, Bool, true, false, not, ◌&&◌, ◌⊎◌, is_some, Some, None, Ok, Option, Result, sym, refl, ap, ◌∙◌, subst, inl, inr, zero-add, arith}
use Rattle.model.specs.declared.refusal.Refusal.{Refusal}
use Rattle.model.specs.declared.run.Answer.{Answer}
use Rattle.model.specs.declared.run.Answer.TheVariants.{Permitted}
use Rattle.model.specs.Tick.{State}
use Rattle.model.specs.Core.{Core, raise_fault, in_foreign_slot, permits, raised_state, told, Becomes, RaisedBy, Raised}
use Rattle.scheduler.specs.Spending.{SpentOnce}
use Rattle.scheduler.specs.Words.{noting}
use Rattle.model.specs.Monitor.{Meaning}

-- who asks finds no grant open
asks_closed : (foreign opened ready : Bool) → (foreign && not opened) && ready ≡ true → opened ≡ false
asks_closed true false ready h = refl
asks_closed true true ready h = let z : ◌≡◌ {A = ℕ} 0 1 = cc in absurd (omega arith)
asks_closed false opened ready h = let z : ◌≡◌ {A = ℕ} 0 1 = cc in absurd (omega arith)

module _ {S : Type 0} (means : Meaning S)
    (spent : S → ℕ → ℕ → S → Type 0) (m : S) (t : ℕ) where
  -- the strobe so far, from the monitor m at instant t: the word of lines permitted, and the core
  pub record Sparing (w : ℕ) (y : Core S) : Type 0 where
    pub still : y.state.instant ≡ t
    pub so_far : ((w ≡ 0) × (y.monitor ≡ m)) ⊎ ((k : ℕ) × (w ≡ 2 ^ k) × spent m k t y.monitor × (is_some y.state.granted ≡ true))

  pub spent_once : (w : ℕ) (y : Core S) → Sparing w y → SpentOnce spent m w t y.monitor
  spent_once w y s = elim s.so_far [ inl none ↦ inl none | inr some ↦ inr (some.0, some.1, some.2) ]

  -- a line that was not permitted leaves all as it was
  spares_all : (w : ℕ) (y z : Core S) → z.state.instant ≡ y.state.instant → z.monitor ≡ y.monitor → z.state.granted ≡ y.state.granted → Sparing w y → Sparing w z
  spares_all w y z e f g s = record {
    still = e ∙ s.still;
    so_far = elim s.so_far [
      | inl none ↦ inl (none.0, f ∙ none.1)
      | inr some ↦ inr (some.0, some.1, subst (λ (n : S). spent m some.0 t n) (sym f) some.2, ap is_some g ∙ some.3)
    ];
  }

  module _ (y z : Core S) (k tag : ℕ) (v : ℕ × ℕ) (s : Sparing v.1 y) where
    taken_by : (b : Bool) (r : Result Answer Refusal) → permits means y k ≡ b → r ≡ Ok (told b) → z.state ≡ raised_state y.board y.state k tag b
        → Becomes means b y.monitor k y.state.instant z.monitor → (r ≡ Ok Permitted → spent y.monitor k y.state.instant z.monitor)
        → Sparing (noting k r v).1 z
    taken_by true r may e f becomes once =
        subst (λ (q : Result Answer Refusal). Sparing (noting k q v).1 z) (sym e)
        (record {
          still = ap (λ (x : State). x.instant) f ∙ s.still;
          so_far = elim s.so_far [
            | inl none ↦ inr (
              k,
              ap (λ (w : ℕ). w + 2 ^ k) none.0 ∙ zero-add (2 ^ k),
              subst (λ (n : S). spent n k t z.monitor) none.1 (subst (λ (u : ℕ). spent y.monitor k u z.monitor) s.still (once e)),
              ap (λ (x : State). is_some x.granted) f,
            )
            | inr some ↦ absurd (grind (arith, asks_closed (in_foreign_slot y.board y.state k) (is_some y.state.granted) (means.ready y.monitor k y.state.instant) may, some.3))
          ];
        })
    taken_by false r may e f becomes once =
        subst (λ (q : Result Answer Refusal). Sparing (noting k q v).1 z) (sym e)
        (spares_all v.1 y z (ap (λ (x : State). x.instant) f) becomes (ap (λ (x : State). x.granted) f) s)

    raised_by : (f : Option Refusal) (r : Result Answer Refusal) → RaisedBy means f y k tag r z
        → (r ≡ Ok Permitted → spent y.monitor k y.state.instant z.monitor) → Sparing (noting k r v).1 z
    raised_by (Some f) r h once =
        subst (λ (q : Result Answer Refusal). Sparing (noting k q v).1 z) (sym h.0) (subst (λ (x : Core S). Sparing v.1 x) (sym h.1) s)
    raised_by None r h once = taken_by (permits means y k) r refl h.answered h.state_after h.monitor_after once

    -- a line more is raised
    pub sparing_more : (mask : ℕ) (r : Result Answer Refusal) → Raised means y mask k tag r z
        → (r ≡ Ok Permitted → spent y.monitor k y.state.instant z.monitor) → Sparing (noting k r v).1 z
    sparing_more mask r h once = raised_by (raise_fault y.board y.state mask k) r h once
