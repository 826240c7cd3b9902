-- The four rules at once, by the step of the grant.
use Rattle.std.proofs.Common.{◌≡◌, ℕ, suc, ◌+◌, ◌-◌, ◌<◌, ◌≤◌, min, Bool, List, [], ◌∷◌, Some, None, Option, sym, refl, ap, ◌∙◌, subst, arith}
use native.Mathlib.Nat.{sub-zero}
use Rattle.std.proofs.lemmas.Bool.Decides.{nat_tests}
use Rattle.model.specs.declared.run.Event.{Event}
use Rattle.model.specs.declared.run.Finished.{Finished}
use Rattle.model.specs.declared.run.Kind.TheVariants.{Interposed, Bottom}
use Rattle.model.specs.Board.{Layout, line_at}
use Rattle.model.specs.Tick.{State, Grant as OpenGrant, grant, put, closing, tick, by_rules, in_grant, in_slot, serving}
use Rattle.parts.specs.declared.grant.Grant.{Grant}
use Rattle.parts.specs.declared.phase.Phase.TheVariants.{Lead, Work, Trail, Closed}
use Rattle.parts.specs.Phases.{open_in, settled, phase_stepped}
use Rattle.parts.specs.Grants.{opened, stepped}
use Rattle.parts.specs.Service.{serve}
use Rattle.scheduler.specs.Stretches.{Stretch, finished_of}
use Rattle.scheduler.proofs.Bursts.{moved, Holds, lead_stretch, trail_stretch, idle_stretch, still_open}
use Rattle.scheduler.proofs.Serving.{served_by, unserved, put_here, put_self}

-- a stretch up to fewer ticks is one up to more
pub wider : (b : Layout) (s : State) (n limit : ℕ) (room : Bool) (m : ℕ) (e : Option Finished) (t : State) → n ≤ limit → 1 ≤ n → Stretch b s n room m e t → Stretch b s limit room m e t
wider b s n limit room m e t few some x =
    record {
      few = omega (arith, x.few);
      state_after = x.state_after;
      alike = x.alike;
      ended = x.ended;
      placed = x.placed;
      stops = λ none positive. x.stops none some;
    }

module _ (b : Layout) (s : State) (g : Grant) (limit owner : ℕ) (room : Bool) (some : 0 < limit) (holds : Holds b s limit owner) (none : s.owed ≡ 0) (open_grant : s.granted ≡ opened g) where
  pub lead_case : (l w t m : ℕ) → g.phase ≡ Lead l w t → m ≡ min l limit
      → Stretch b s limit room m None (moved s m s.owed (stepped m g) s.queue)
  lead_case l w t m is m-is =
      let long : 1 ≤ l = let sound = sym (ap settled is) ∙ g.sound in grind (arith, nat_tests) in
      let steps = ap (phase_stepped m g.line) is in
      subst (λ o. Stretch b s limit room m None (moved s m o (stepped m g) s.queue)) (sym none)
      (subst (λ x. Stretch b s limit room m None (moved s m 0 x s.queue)) (sym steps)
      (lead_stretch b s limit m owner g.line l w t room (omega arith) (omega arith) (omega arith) none (open_grant ∙ ap (open_in g.line) is) holds))

  pub trail_case : (t m : ℕ) → g.phase ≡ Trail t → m ≡ min t limit → Stretch b s limit room m None (moved s m s.owed (stepped m g) s.queue)
  trail_case t m is m-is =
      let long : 1 ≤ t = let sound = sym (ap settled is) ∙ g.sound in grind (arith, nat_tests) in
      let steps = ap (phase_stepped m g.line) is in
      subst (λ o. Stretch b s limit room m None (moved s m o (stepped m g) s.queue)) (sym none)
      (subst (λ x. Stretch b s limit room m None (moved s m 0 x s.queue)) (sym steps)
      (trail_stretch b s limit m owner g.line t room (omega arith) (omega arith) (omega arith) none (open_grant ∙ ap (open_in g.line) is) holds))

  -- what serving queue p for up to n ticks comes to, with the grant after m of them
  abbrev Served : ℕ → ℕ → (ℕ → Option OpenGrant) → Type 0
  Served p n after-grant =
      Stretch b s limit room (serve n room (s.queue p)).ticks (finished_of (s.instant + (serve n room (s.queue p)).ticks) (serve n room (s.queue p)).ended)
      (moved s (serve n room (s.queue p)).ticks 0 (after-grant (serve n room (s.queue p)).ticks) (put s.queue p (serve n room (s.queue p)).rest))

  pub work_case : (w t : ℕ) → g.phase ≡ Work w t → Served (line_at b g.line).owner (min w limit) (λ m. stepped m g)
  work_case w t is = by (s.queue (line_at b g.line).owner) refl
    where
      long : 1 ≤ w
      long = let sound = sym (ap settled is) ∙ g.sound in grind (arith, nat_tests)

      begins : closing (grant g.line 0 (w - 0) t) ≡ s.granted
      begins =
          let all = sub-zero w in
          let some-work = long in
          still_open g.line 0 (w - 0) t (omega arith) ∙ (ap (λ x. Some (grant g.line 0 x t)) all ∙ sym (open_grant ∙ ap (open_in g.line) is))

      rule : (i : ℕ) → i < min w limit → (x : List Event)
          → tick b (moved s i 0 (closing (grant g.line 0 (w - i) t)) (put s.queue (line_at b g.line).owner x))
          ≡ serving b (moved s i 0 (closing (grant g.line 0 (w - i) t)) (put s.queue (line_at b g.line).owner x)) Interposed g.line (line_at b g.line).owner (closing (grant g.line 0 (w - suc i) t))
      rule i l x =
          let here = moved s i 0 (closing (grant g.line 0 (w - i) t)) (put s.queue (line_at b g.line).owner x) in
          let next : w - i ≡ suc (w - suc i) = omega arith in
          ap (by_rules b here 0) (still_open g.line 0 (w - i) t (omega arith)) ∙ ap (λ y. in_grant b here g.line 0 y t) next

      same : (m : ℕ) → closing (grant g.line 0 (w - m) t) ≡ stepped m g
      same m = sym (ap (phase_stepped m g.line) is)

      Result : List Event → Type 0
      Result q =
          Stretch b s limit room (serve (min w limit) room q).ticks (finished_of (s.instant + (serve (min w limit) room q).ticks) (serve (min w limit) room q).ended)
          (moved s (serve (min w limit) room q).ticks 0 (stepped (serve (min w limit) room q).ticks g) (put s.queue (line_at b g.line).owner (serve (min w limit) room q).rest))

      by : (q : List Event) → s.queue (line_at b g.line).owner ≡ q → Served (line_at b g.line).owner (min w limit) (λ m. stepped m g)
      by [] head =
          let some-work = long in
          subst (λ q. Result q) (sym head)
          (subst (λ x. Stretch b s limit room (min w limit) None (moved s (min w limit) 0 x (put s.queue (line_at b g.line).owner []))) (same (min w limit))
          (wider b s (min w limit) limit room (min w limit) None _ (omega arith) (omega arith)
          (unserved b s (min w limit) owner (line_at b g.line).owner Interposed g.line (λ i. closing (grant g.line 0 (w - i) t)) room (λ i l. holds i (omega arith)) none begins
          (λ i l. rule i l []) head (omega arith))))
      by (e ∷ es) head =
          let some-work = long in
          let m = (serve (min w limit) room (e ∷ es)).ticks in
          subst (λ q. Result q) (sym head)
          (subst (λ x. Stretch b s limit room m (finished_of (s.instant + m) (serve (min w limit) room (e ∷ es)).ended) (moved s m 0 x (put s.queue (line_at b g.line).owner (serve (min w limit) room (e ∷ es)).rest))) (same m)
          (wider b s (min w limit) limit room m _ _ (omega arith) (omega arith)
          (served_by b s (min w limit) owner (line_at b g.line).owner Interposed g.line (λ i. closing (grant g.line 0 (w - i) t)) (λ i l. holds i (omega arith)) none begins
          (λ i l x xs. rule i l (x ∷ xs)) e es head room (omega arith))))

  pub slot_case : g.phase ≡ Closed → Served owner limit (λ m. opened g)
  slot_case is = by (s.queue owner) refl
    where
      closed : s.granted ≡ None
      closed = open_grant ∙ ap (open_in g.line) is

      Result : List Event → Type 0
      Result q =
          Stretch b s limit room (serve limit room q).ticks (finished_of (s.instant + (serve limit room q).ticks) (serve limit room q).ended)
          (moved s (serve limit room q).ticks 0 (opened g) (put s.queue owner (serve limit room q).rest))

      rule : (i : ℕ) → i < limit → (e : Event) (es : List Event)
          → tick b (moved s i 0 None (put s.queue owner (e ∷ es))) ≡ serving b (moved s i 0 None (put s.queue owner (e ∷ es))) Bottom owner owner None
      rule i l e es =
          let here = moved s i 0 None (put s.queue owner (e ∷ es)) in
          ap (λ o. in_slot b here (put s.queue owner (e ∷ es) o)) (holds i l)
          ∙ (ap (in_slot b here) (put_here s.queue owner (e ∷ es)) ∙ ap (λ o. serving b here Bottom o o None) (holds i l))

      by : (q : List Event) → s.queue owner ≡ q → Served owner limit (λ m. opened g)
      by [] head =
          subst (λ q. Result q) (sym head)
          (subst (λ x. Stretch b s limit room limit None (moved s limit 0 x (put s.queue owner []))) (sym closed ∙ open_grant)
          (subst (λ x. Stretch b s limit room limit None (moved s limit 0 None x)) (sym (put_self s.queue owner [] head))
          (idle_stretch b s limit owner room some none closed head holds)))
      by (e ∷ es) head =
          let m = (serve limit room (e ∷ es)).ticks in
          subst (λ q. Result q) (sym head)
          (subst (λ x. Stretch b s limit room m (finished_of (s.instant + m) (serve limit room (e ∷ es)).ended) (moved s m 0 x (put s.queue owner (serve limit room (e ∷ es)).rest))) (sym closed ∙ open_grant)
          (served_by b s limit owner owner Bottom owner (λ i. None) holds none (sym closed) rule e es head room some))

-- a stretch by the numbers that a call answered
pub as_answered : (b : Layout) (s : State) (limit : ℕ) (room : Bool) (k m : ℕ) (ended : Option Event) (e : Option Finished) (after-grant : ℕ → Option OpenGrant) (q : ℕ → List Event) (u : State)
    → Stretch b s limit room k (finished_of (s.instant + k) ended) (moved s k 0 (after-grant k) q) → m ≡ k → e ≡ finished_of (s.instant + m) ended → u ≡ moved s m 0 (after-grant m) q
    → Stretch b s limit room m e u
as_answered b s limit room k m ended e after-grant q u x same e-is u-is =
    subst (Stretch b s limit room m e) (sym u-is)
    (subst (λ v. Stretch b s limit room m v (moved s m 0 (after-grant m) q)) (sym e-is)
    (subst (λ n. Stretch b s limit room n (finished_of (s.instant + n) ended) (moved s n 0 (after-grant n) q)) (sym same) x))
