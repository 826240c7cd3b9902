-- Each rule, run at once: ticks of one row that follow one another by a formula.
use Rattle.std.proofs.Common.{◌≡◌, ℕ, zero, suc, ◌+◌, ◌-◌, ◌<◌, ◌≤◌, Bool, true, false, cond, eqb, ltb, List, [], ◌∷◌, ◌++◌, Some, None, Option, sym, refl, ap, ◌∙◌, subst, add-zero, add-suc, arith}
use native.Mathlib.Nat.{sub-zero}
use Rattle.std.proofs.lemmas.Bool.Decides.{nat_tests}
use Rattle.model.specs.declared.run.Event.{Event}
use Rattle.model.specs.declared.run.Finished.{Finished}
use Rattle.model.specs.declared.run.Kind.{Kind}
use Rattle.model.specs.declared.run.Kind.TheVariants.{Top, Switch, Application}
use Rattle.model.specs.Board.{Layout, owner_at}
use Rattle.model.specs.Tick.{State, Grant, grant, Ticked, plain, closing, tick, by_rules, in_grant, in_slot, after, ended_in}
use Rattle.model.specs.declared.run.Row.{Row}
use Rattle.scheduler.specs.Stretches.{Stretch}

-- a tick that ends no event
abbrev pub quiet : Row → State → Ticked
quiet r t = record { row = r; ended = []; next = t }

-- a run of m quiet ticks of one row, by a formula for the states between
quiet_run : (b : Layout) (r : Row) (f : ℕ → State) (m : ℕ) → ((i : ℕ) → i < m → tick b (f i) ≡ quiet r (f (suc i)))
    → (after b (f 0) m ≡ f m) × (ended_in b (f 0) m ≡ [])
quiet_run b r f zero h = (refl, refl)
quiet_run b r f (suc m) h =
    let before = quiet_run b r f m (λ i l. h i (omega arith)) in
    let last = ap (tick b) before.0 ∙ h m (omega arith) in (
      ap (λ (t : Ticked). t.next) last,
      ap (λ l. l ++ (tick b (after b (f 0) m)).ended) before.1 ∙ ap (λ (t : Ticked). t.ended) last,
    )

module _ (b : Layout) (r : Row) (f : ℕ → State) (m : ℕ) (each : (i : ℕ) → i < m → tick b (f i) ≡ quiet r (f (suc i))) where
  at_step : (i : ℕ) → i < m → after b (f 0) i ≡ f i
  at_step i l = (quiet_run b r f i (λ j k. each j (omega arith))).0

  row_at : (i : ℕ) → i < m → (tick b (after b (f 0) i)).row ≡ r
  row_at i l = ap (λ t. (tick b t).row) (at_step i l) ∙ ap (λ (t : Ticked). t.row) (each i l)

  -- a stretch of quiet ticks
  pub quiet_stretch : (limit : ℕ) (room : Bool) → 1 ≤ m → m ≤ limit → Stretch b (f 0) limit room m None (f m)
  quiet_stretch limit room some few =
      record {
        few = few;
        state_after = sym (quiet_run b r f m each).0;
        alike = λ i l. row_at i l ∙ sym (row_at 0 some);
        ended = (quiet_run b r f m each).1;
        placed = λ _. refl;
        stops = λ none positive. absurd (omega arith);
      }

  -- and then one that ends an event
  pub ending_stretch : (limit : ℕ) (e : Finished) (t : State) → suc m ≤ limit → tick b (f m) ≡ record { row = r; ended = e ∷ []; next = t }
      → Stretch b (f 0) limit true (suc m) (Some e) t
  ending_stretch limit e t few last =
      let there = quiet_run b r f m each in
      let final = ap (tick b) there.0 ∙ last in
      record {
        few = few;
        state_after = sym (ap (λ (x : Ticked). x.next) final);
        alike = λ i l. rows i l ∙ sym (rows 0 (omega arith));
        ended = ap (λ l. l ++ (tick b (after b (f 0) m)).ended) there.1 ∙ ap (λ (x : Ticked). x.ended) final;
        placed = λ no_room. absurd (grind arith);
        stops = λ none positive. absurd (omega arith);
      }
    where
      rows : (i : ℕ) → i < suc m → (tick b (after b (f 0) i)).row ≡ r
      rows i l = by (ltb i m) refl
        where
          by : (v : Bool) → ltb i m ≡ v → (tick b (after b (f 0) i)).row ≡ r
          by true is = row_at i (grind (arith, nat_tests))
          by false is =
              let same : i ≡ m = grind (arith, nat_tests) in
              ap (λ j. (tick b (after b (f 0) j)).row) same ∙ ap (λ (x : Ticked). x.row) (ap (tick b) (quiet_run b r f m each).0 ∙ last)

-- The state i ticks on, with other work, grant and queues.
abbrev pub moved : State → ℕ → ℕ → Option Grant → (ℕ → List Event) → State
moved s i o g q = record { instant = s.instant + i; owed = o; granted = g; queue = q }

pub state_path : (t u : ℕ) (o p : ℕ) (g h : Option Grant) (q r : ℕ → List Event) → t ≡ u → o ≡ p → g ≡ h → q ≡ r
    → ◌≡◌ {A = State} (record { instant = t; owed = o; granted = g; queue = q }) (record { instant = u; owed = p; granted = h; queue = r })
state_path t u o p g h q r a c d e = λ i. record { instant = a i; owed = c i; granted = d i; queue = e i }

-- the slot's owner stays the same for the ticks to come
abbrev pub Holds : Layout → State → ℕ → ℕ → Type 0
Holds b s limit o = (i : ℕ) → i < limit → owner_at b (s.instant + i) ≡ o

-- a tick with no event served, from a moved state
pub plain_moved : (b : Layout) (s : State) (i o : ℕ) (g : Option Grant) (q : ℕ → List Event) (kind : Kind) (who o' : ℕ) (g' : Option Grant) (owner : ℕ)
    → owner_at b (s.instant + i) ≡ owner
    → plain b (moved s i o g q) kind who o' g' ≡ quiet (record { kind = kind; who = who; owner = owner }) (moved s (suc i) o' g' q)
plain_moved b s i o g q kind who o' g' owner holds =
    λ j. record {
      row = record { kind = kind; who = who; owner = holds j };
      ended = [];
      next = record { instant = sym (add-suc s.instant i) j; owed = o'; granted = g'; queue = q };
    }

-- a stretch from the state itself
from_here : (b : Layout) (s t : State) (limit : ℕ) (room : Bool) (m : ℕ) (e : Option Finished) (u : State) → t ≡ s → Stretch b t limit room m e u → Stretch b s limit room m e u
from_here b s t limit room m e u same stretch = subst (λ x. Stretch b x limit room m e u) same stretch

-- Work owed: m ticks take m from it.
pub top_stretch : (b : Layout) (s : State) (limit m owner : ℕ) (room : Bool) → 1 ≤ m → m ≤ limit → m ≤ s.owed → Holds b s limit owner
    → Stretch b s limit room m None (moved s m (s.owed - m) s.granted s.queue)
top_stretch b s limit m owner room some few enough holds =
    from_here b s (f 0) limit room m None (f m) (state_path _ _ _ _ _ _ _ _ (add-zero s.instant) (omega arith) refl refl)
    (quiet_stretch b (record { kind = Top; who = 255; owner = owner }) f m each limit room some few)
  where
    f : ℕ → State
    f i = moved s i (s.owed - i) s.granted s.queue

    each : (i : ℕ) → i < m → tick b (f i) ≡ quiet (record { kind = Top; who = 255; owner = owner }) (f (suc i))
    each i l =
        let next : s.owed - i ≡ suc (s.owed - suc i) = omega arith in
        ap (λ o. by_rules b (f i) o s.granted) next ∙ plain_moved b s i (s.owed - i) s.granted s.queue Top 255 (s.owed - suc i) s.granted owner (holds i (omega arith))

-- Nothing to do: m ticks of the application.
pub idle_stretch : (b : Layout) (s : State) (limit owner : ℕ) (room : Bool) → 1 ≤ limit → s.owed ≡ 0 → s.granted ≡ None → s.queue owner ≡ [] → Holds b s limit owner
    → Stretch b s limit room limit None (moved s limit 0 None s.queue)
idle_stretch b s limit owner room some none closed empty holds =
    from_here b s (f 0) limit room limit None (f limit) (state_path _ _ _ _ _ _ _ _ (add-zero s.instant) (sym none) (sym closed) refl)
    (quiet_stretch b (record { kind = Application; who = owner; owner = owner }) f limit each limit room some (omega arith))
  where
    f : ℕ → State
    f i = moved s i 0 None s.queue

    each : (i : ℕ) → i < limit → tick b (f i) ≡ quiet (record { kind = Application; who = owner; owner = owner }) (f (suc i))
    each i l =
        ap (λ o. in_slot b (f i) (s.queue o)) (holds i l)
        ∙ (ap (in_slot b (f i)) empty
        ∙ (ap (λ o. plain b (f i) Application o 0 None) (holds i l) ∙ plain_moved b s i 0 None s.queue Application owner 0 None owner (holds i l)))

-- The grant's switches: the lead, and the trail.
pub still_open : (k l w t : ℕ) → 1 ≤ l + w + t → closing (grant k l w t) ≡ Some (grant k l w t)
still_open k l w t some = let some_left : eqb (l + w + t) 0 ≡ false = grind (arith, nat_tests) in ap (λ z. cond z None (Some (grant k l w t))) some_left

pub lead_stretch : (b : Layout) (s : State) (limit m owner k l w t : ℕ) (room : Bool) → 1 ≤ m → m ≤ limit → m ≤ l → s.owed ≡ 0 → s.granted ≡ Some (grant k l w t) → Holds b s limit owner
    → Stretch b s limit room m None (moved s m 0 (closing (grant k (l - m) w t)) s.queue)
lead_stretch b s limit m owner k l w t room some few enough none open_grant holds =
    from_here b s (f 0) limit room m None (f m)
    (state_path _ _ _ _ _ _ _ _ (add-zero s.instant) (sym none) (still_open k (l - 0) w t (omega arith) ∙ (ap (λ x. Some (grant k x w t)) (sub-zero l) ∙ sym open_grant)) refl)
    (quiet_stretch b (record { kind = Switch; who = k; owner = owner }) f m each limit room some few)
  where
    f : ℕ → State
    f i = moved s i 0 (closing (grant k (l - i) w t)) s.queue

    each : (i : ℕ) → i < m → tick b (f i) ≡ quiet (record { kind = Switch; who = k; owner = owner }) (f (suc i))
    each i less =
        let next : l - i ≡ suc (l - suc i) = omega arith in
        ap (by_rules b (f i) 0) (still_open k (l - i) w t (omega arith))
        ∙ (ap (λ x. in_grant b (f i) k x w t) next
        ∙ plain_moved b s i 0 (closing (grant k (l - i) w t)) s.queue Switch k 0 (closing (grant k (l - suc i) w t)) owner (holds i (omega arith)))

pub trail_stretch : (b : Layout) (s : State) (limit m owner k t : ℕ) (room : Bool) → 1 ≤ m → m ≤ limit → m ≤ t → s.owed ≡ 0 → s.granted ≡ Some (grant k 0 0 t) → Holds b s limit owner
    → Stretch b s limit room m None (moved s m 0 (closing (grant k 0 0 (t - m))) s.queue)
trail_stretch b s limit m owner k t room some few enough none open_grant holds =
    from_here b s (f 0) limit room m None (f m)
    (state_path _ _ _ _ _ _ _ _ (add-zero s.instant) (sym none) (still_open k 0 0 (t - 0) (omega arith) ∙ (ap (λ x. Some (grant k 0 0 x)) (sub-zero t) ∙ sym open_grant)) refl)
    (quiet_stretch b (record { kind = Switch; who = k; owner = owner }) f m each limit room some few)
  where
    f : ℕ → State
    f i = moved s i 0 (closing (grant k 0 0 (t - i))) s.queue

    each : (i : ℕ) → i < m → tick b (f i) ≡ quiet (record { kind = Switch; who = k; owner = owner }) (f (suc i))
    each i less =
        let next : t - i ≡ suc (t - suc i) = omega arith in
        ap (by_rules b (f i) 0) (still_open k 0 0 (t - i) (omega arith))
        ∙ (ap (λ x. in_grant b (f i) k 0 0 x) next
        ∙ plain_moved b s i 0 (closing (grant k 0 0 (t - i))) s.queue Switch k 0 (closing (grant k 0 0 (t - suc i))) owner (holds i (omega arith)))
