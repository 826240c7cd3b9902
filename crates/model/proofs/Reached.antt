-- Every point that elementary steps reach keeps the invariants.
use Rattle.std.proofs.Common.{◌≡◌, ℕ, suc, ◌≤◌, Bool, true, false, not, ◌&&◌, ◌∷◌, is_some, Some, None, Option, sym, refl, ap, ◌∙◌, subst, le_trans, arith}
use Rattle.model.specs.Board.{Layout, InRange}
use Rattle.model.specs.Monitor.{Meaning, Lawful}
use Rattle.model.specs.Demand.{demand}
use Rattle.model.specs.Tick.{State, Grant, fresh, tick}
use Rattle.model.specs.Core.{asks, in_foreign_slot}
use Rattle.model.specs.Seen.{History, unseen, accepted, of_line}
use Rattle.model.specs.Laws.{KeepsCurve}
use Rattle.model.proofs.Counts.{count_more}
use Rattle.model.proofs.Steps.{Steps, none, event, ticked}
use Rattle.model.proofs.Kept.{Kept, kept_fresh, kept_event, kept_tick, rule_of}
use Rattle.model.proofs.Fifo.{Fifo, fifo_fresh, fifo_event, fifo_tick}
use Rattle.model.proofs.Permits.{PermitsBounded, permits_fresh, permits_event, permits_tick}
use Rattle.model.proofs.Loss.{Losing, losing_fresh, losing_event, losing_tick}
use Rattle.model.proofs.Response.{Busy, busy_fresh, busy_event, busy_tick}
use Rattle.model.proofs.Opened.{AllBefore, before_later, OpenSeen, opened_event, opened_tick}
use Rattle.model.proofs.Promptness.{Prompted, way_event, way_tick}

-- a permit is given only while no grant is open
pub only_closed : (b : Layout) (s : State) (k : ℕ) (permit r : Bool) → permit ≡ (asks b s k && r) → permit ≡ true → s.granted ≡ None
only_closed b s k permit r is told = by s.granted refl
  where
    never : (x y : Bool) → ((x && not true) && y) ≡ false
    never true y = refl
    never false y = refl

    by : (g : Option Grant) → s.granted ≡ g → s.granted ≡ None
    by None e = e
    by (Some g) e =
        let no-ask = ap (λ v. (in_foreign_slot b s k && not (is_some v)) && r) e ∙ never (in_foreign_slot b s k) r in
        let z : true ≡ false = sym told ∙ (is ∙ no-ask) in
        absurd (grind arith)

module _ {S : Type 0} (means : Meaning S)
    (laws : Lawful means) (b : Layout) (ranges : InRange b) (m₀ : S) where
  -- what holds at every point from a new core on
  pub record Reached (h : History) (m : S) (s : State) : Type 0 where
    pub kept : Kept b s
    pub fifo : Fifo b h s
    pub permits : PermitsBounded means laws m₀ h.events m s.instant
    pub opened : OpenSeen b h s.granted
    pub past : AllBefore h.clock h.ticks

  pub reached : {h : History} {m : S} {s : State} → Steps means b unseen m₀ fresh h m s → Reached h m s
  reached none =
      record {
        kept = kept_fresh b;
        fifo = fifo_fresh b;
        permits = permits_fresh means laws m₀;
        opened = tt;
        past = tt;
      }
  reached (event {h} {m} {s} k tag permit {n} steps known is becomes) =
      let at = reached steps in
      record {
        kept = kept_event b ranges s k tag permit known at.kept;
        fifo = fifo_event b h s k tag permit at.fifo;
        permits =
            subst (λ t. PermitsBounded means laws m₀ (accepted k tag t permit ∷ h.events) n s.instant) (sym at.fifo.on_time)
            (permits_event means laws m₀ h.events m n s.instant k tag permit becomes at.permits);
        opened = opened_event b h s k tag permit at.past at.opened;
        past = at.past;
      }
  reached (ticked {h} {m} {s} steps) =
      let at = reached steps in
      let rule = rule_of b s at.kept in
      record {
        kept = kept_tick b s rule at.kept;
        fifo = fifo_tick b h s rule at.kept at.fifo;
        permits = later_permits h m s at.permits (fifo_tick b h s rule at.kept at.fifo).on_time at.fifo.on_time;
        opened = opened_tick b h s rule at.opened;
        past = (omega arith, before_later h.clock (suc h.clock) h.ticks (omega arith) at.past);
      }
    where
      later_permits : (h : History) (m : S) (s : State) → PermitsBounded means laws m₀ h.events m s.instant → suc h.clock ≡ (tick b s).next.instant
          → h.clock ≡ s.instant → PermitsBounded means laws m₀ h.events m (tick b s).next.instant
      later_permits h m s p next now =
          subst (PermitsBounded means laws m₀ h.events m) (sym (ap suc now) ∙ next) (permits_tick means laws m₀ h.events m s.instant p)

  pub losses : (p u w : ℕ) {h : History} {m : S} {s : State} → Steps means b unseen m₀ fresh h m s → Losing b p u w h s
  losses p u w none = losing_fresh b p u w
  losses p u w (event {h} {m} {s} k tag permit steps known is becomes) =
      losing_event b p u w h s k tag permit known (only_closed b s k permit (means.ready m k s.instant) is) (losses p u w steps)
  losses p u w (ticked {h} {m} {s} steps) = losing_tick b p u w h s (rule_of b s (reached steps).kept) (losses p u w steps)

  pub busy : (most : ℕ → ℕ → ℕ) (p x : ℕ) (some : 1 ≤ x) (meets : demand b (means.ceiling m₀) most p x ≤ x) {h : History} {m : S} {s : State}
      → Steps means b unseen m₀ fresh h m s → KeepsCurve most h → Busy b ranges (means.ceiling m₀) most p x some meets h s
  busy most p x some meets none kept = busy_fresh b ranges (means.ceiling m₀) most p x some meets
  busy most p x some meets (event {h} {m} {s} k tag permit steps known is becomes) kept =
      busy_event b ranges (means.ceiling m₀) most p x some meets h s k tag permit known (only_closed b s k permit (means.ready m k s.instant) is) (reached steps).fifo.on_time
      (busy most p x some meets steps (λ j a w. le_trans (count_more (of_line j a w) (accepted k tag h.clock permit) h.events) (kept j a w)))
  busy most p x some meets (ticked {h} {m} {s} steps) kept =
      let at = reached steps in
      let rule = rule_of b s at.kept in
      busy_tick b ranges (means.ceiling m₀) most p x some meets h s rule (kept_tick b s rule at.kept) at.fifo.on_time (λ k since. kept k since x)
      (λ k since. omega (arith, at.permits k since x)) (busy most p x some meets steps kept)

  pub onward : (k r n : ℕ) {h₁ : History} {m₁ : S} {s₁ : State} {h : History} {m : S} {s : State} → Steps means b h₁ m₁ s₁ h m s
      → Kept b s₁ → Prompted b k r n h₁ s₁ → Kept b s × Prompted b k r n h s
  onward k r n none keeps way = (keeps, way)
  onward k r n (event {h} {m} {s} j tag permit steps known is becomes) keeps way =
      let at = onward k r n steps keeps way in
      (kept_event b ranges s j tag permit known at.0, way_event b k r n h s j tag permit (only_closed b s j permit (means.ready m j s.instant) is) at.1)
  onward k r n (ticked {h} {m} {s} steps) keeps way =
      let at = onward k r n steps keeps way in
      let rule = rule_of b s at.0 in
      (kept_tick b s rule at.0, way_tick b k r n h s rule at.0 at.1)
