-- What every reachable state keeps: queued events are sound, and an open grant is backed by its partition's queue.
use Rattle.std.proofs.Common.{◌≡◌, ℕ, zero, suc, ◌+◌, ◌-◌, ◌<◌, ◌≤◌, Bool, true, false, cond, eqb, leb, List, [], ◌∷◌, ◌++◌, length, Some, None, Option, refl, ap, subst, arith}
use Rattle.std.proofs.lemmas.Bool.Decides.{nat_tests}
use Rattle.model.specs.declared.run.Event.{Event}
use Rattle.model.specs.declared.run.Kind.TheVariants.{Top}
use Rattle.model.specs.Board.{Layout, InRange, line_at, owner_at}
use Rattle.model.specs.Tick.{State, Grant, grant, fresh, put, Ticked, plain, worn, closing, tick, by_rules, in_grant, in_slot}
use Rattle.model.specs.Core.{raised_state, fresh_grant, new_event}
use Rattle.model.proofs.Steps.{Rule, top, lead, work, trail, bottom, idle}

-- the handler ticks left in a queue
abbrev pub work_in : List Event → ℕ
work_in [] = 0
work_in (e ∷ es) = e.left + work_in es

abbrev pub rest_of : Grant → ℕ
rest_of g = g.lead + g.work + g.trail

module _ (b : Layout) where
  -- an event in the queue of p: some ticks left, of a line of p
  pub record Sound (p : ℕ) (e : Event) : Type 0 where
    pub some : 1 ≤ e.left
    pub known : e.line < length b.lines
    pub home : (line_at b e.line).owner ≡ p

  abbrev pub EachSound : ℕ → List Event → Type 0
  EachSound p [] = Unit {0}
  EachSound p (e ∷ es) = Sound p e × EachSound p es

  -- an open grant: of a known line, no step longer than at its start, not yet at its end, its work still queued
  pub record Backed (queue : ℕ → List Event) (g : Grant) : Type 0 where
    pub known : g.line < length b.lines
    pub lead_few : g.lead ≤ b.overheads.reschedule + b.overheads.switch
    pub work_few : g.work ≤ (line_at b g.line).handler
    pub trail_few : g.trail ≤ b.overheads.switch
    pub some : 1 ≤ rest_of g
    pub backed : g.work ≤ work_in (queue (line_at b g.line).owner)

  abbrev pub GrantBacked : (ℕ → List Event) → Option Grant → Type 0
  GrantBacked queue None = Unit {0}
  GrantBacked queue (Some g) = Backed queue g

  pub record Kept (s : State) : Type 0 where
    pub sound : (p : ℕ) → EachSound p (s.queue p)
    pub grants : GrantBacked s.queue s.granted

  pub kept_fresh : Kept fresh
  kept_fresh = record { sound = λ p. tt; grants = tt }

  -- Queues: one event more, one tick less.

  each_push : (p : ℕ) (q : List Event) (e : Event) → EachSound p q → Sound p e → EachSound p (q ++ e ∷ [])
  each_push p [] e h k = (k, tt)
  each_push p (x ∷ q) e h k = (h.0, each_push p q e h.1 k)

  pub work_push : (q : List Event) (e : Event) → work_in (q ++ e ∷ []) ≡ work_in q + e.left
  work_push [] e = omega arith
  work_push (x ∷ q) e = let more = work_push q e in omega arith

  worn_each : (p : ℕ) (q : List Event) → EachSound p q → EachSound p (worn q)
  worn_each p [] h = tt
  worn_each p (e ∷ es) h = by (leb e.left 1) refl
    where
      by : (t : Bool) → leb e.left 1 ≡ t → EachSound p (cond t es (record { tag = e.tag; line = e.line; raised = e.raised; left = e.left - 1 } ∷ es))
      by true is = h.1
      by false is = (record { some = grind (arith, nat_tests); known = h.0.known; home = h.0.home }, h.1)

  pub worn_work : (e : Event) (es : List Event) → 1 ≤ e.left → suc (work_in (worn (e ∷ es))) ≡ work_in (e ∷ es)
  worn_work e es h = by (leb e.left 1) refl
    where
      by : (t : Bool) → leb e.left 1 ≡ t
          → suc (work_in (cond t es (record { tag = e.tag; line = e.line; raised = e.raised; left = e.left - 1 } ∷ es))) ≡ work_in (e ∷ es)
      by true is = grind (arith, nat_tests)
      by false is = grind (arith, nat_tests)

  put_each : (queue : ℕ → List Event) (p : ℕ) (q : List Event) → ((j : ℕ) → EachSound j (queue j)) → EachSound p q → (j : ℕ) → EachSound j (put queue p q j)
  put_each queue p q h k j = by (eqb j p) refl
    where
      by : (t : Bool) → eqb j p ≡ t → EachSound j (cond t q (queue j))
      by true is = let same : p ≡ j = grind (arith, nat_tests) in subst (λ n. EachSound n q) same k
      by false is = h j

  pub put_same : (queue : ℕ → List Event) (p : ℕ) (q : List Event) → put queue p q p ≡ q
  put_same queue p q = grind (arith, nat_tests)

  -- The two steps.

  closing_backed : (queue : ℕ → List Event) (g : Grant) → (1 ≤ rest_of g → Backed queue g) → GrantBacked queue (closing g)
  closing_backed queue g h = by (eqb (rest_of g) 0) refl
    where
      by : (t : Bool) → eqb (rest_of g) 0 ≡ t → GrantBacked queue (cond t None (Some g))
      by true is = tt
      by false is = h (grind (arith, nat_tests))

  -- more in a queue, and less by one tick of its own work, leaves a grant backed
  more_backed : (queue : ℕ → List Event) (o : ℕ) (e : Event) (g : Option Grant) → GrantBacked queue g → GrantBacked (put queue o (queue o ++ e ∷ [])) g
  more_backed queue o e None h = tt
  more_backed queue o e (Some g) h =
      let more = work_push (queue o) e in
      record {
        known = h.known;
        lead_few = h.lead_few;
        work_few = h.work_few;
        trail_few = h.trail_few;
        some = h.some;
        backed = by (eqb (line_at b g.line).owner o) refl;
      }
    where
      by : (t : Bool) → eqb (line_at b g.line).owner o ≡ t → g.work ≤ work_in (cond t (queue o ++ e ∷ []) (queue (line_at b g.line).owner))
      by true is =
          let same : (line_at b g.line).owner ≡ o = grind (arith, nat_tests) in
          let there = ap (λ n. work_in (queue n)) same in
          omega (arith, h.backed, work_push (queue o) e)
      by false is = h.backed

  module _ (ranges : InRange b) where
    fresh_backed : (queue : ℕ → List Event) (k : ℕ) (e : Event) → e.left ≡ (line_at b k).handler → k < length b.lines
        → Backed (put queue (line_at b k).owner (queue (line_at b k).owner ++ e ∷ [])) (fresh_grant b k)
    fresh_backed queue k e is known =
        let o = (line_at b k).owner in
        let there = ap work_in (put_same queue o (queue o ++ e ∷ [])) in
        let more = work_push (queue o) e in
        let line = ranges.each_line k known in
        record {
          known = known;
          lead_few = omega arith;
          work_few = omega arith;
          trail_few = omega arith;
          some = omega arith;
          backed = omega arith;
        }

    pub kept_event : (s : State) (k tag : ℕ) (permit : Bool) → k < length b.lines → Kept s → Kept (raised_state b s k tag permit)
    kept_event s k tag permit known h =
        let o = (line_at b k).owner in
        let e = new_event b s k tag in
        let line = ranges.each_line k known in
        let new : Sound o e = record { some = line.handler_some; known = known; home = refl } in
        record {
          sound = put_each s.queue o (s.queue o ++ e ∷ []) h.sound (each_push o (s.queue o) e (h.sound o) new);
          grants = by permit;
        }
      where
        by : (t : Bool) → GrantBacked (put s.queue (line_at b k).owner (s.queue (line_at b k).owner ++ new_event b s k tag ∷ [])) (cond t (Some (fresh_grant b k)) s.granted)
        by true = fresh_backed s.queue k (new_event b s k tag) refl known
        by false = more_backed s.queue (line_at b k).owner (new_event b s k tag) s.granted h.grants

  -- the rule that a tick follows
  pub rule_of : (s : State) → Kept s → Rule b s (tick b s)
  rule_of s h = by s.owed s.granted refl refl h.grants
    where
      slot : (q : List Event) → s.owed ≡ 0 → s.granted ≡ None → s.queue (owner_at b s.instant) ≡ q → EachSound (owner_at b s.instant) q → Rule b s (in_slot b s q)
      slot [] o g is each = idle o g is
      slot (e ∷ es) o g is each = bottom e es o g is each.0.some

      working : (k w t : ℕ) (q : List Event) → s.owed ≡ 0 → s.granted ≡ Some (grant k 0 (suc w) t) → s.queue (line_at b k).owner ≡ q
          → EachSound (line_at b k).owner q → suc w ≤ work_in q → Rule b s (in_grant b s k 0 (suc w) t)
      working k w t [] o g is each l = absurd (omega arith)
      working k w t (e ∷ es) o g is each l = work k w t e es o g is each.0.some

      phase : (k l w t : ℕ) → s.owed ≡ 0 → s.granted ≡ Some (grant k l w t) → Backed s.queue (grant k l w t) → Rule b s (in_grant b s k l w t)
      phase k (suc l) w t o g back = lead k l w t o g
      phase k zero (suc w) t o g back = working k w t (s.queue (line_at b k).owner) o g refl (h.sound (line_at b k).owner) back.backed
      phase k zero zero (suc t) o g back = trail k t o g
      phase k zero zero zero o g back = let z = back.some in absurd (omega arith)

      by : (o : ℕ) (g : Option Grant) → s.owed ≡ o → s.granted ≡ g → GrantBacked s.queue g → Rule b s (by_rules b s o g)
      by (suc n) g is was back = subst (λ x. Rule b s (plain b s Top 255 n x)) was (top n is)
      by zero (Some g) is was back = phase g.line g.lead g.work g.trail is was back
      by zero None is was back = slot (s.queue (owner_at b s.instant)) is was refl (h.sound (owner_at b s.instant))

  pub kept_tick : (s : State) {t : Ticked} → Rule b s t → Kept s → Kept t.next
  kept_tick s (top n o) h = record { sound = h.sound; grants = h.grants }
  kept_tick s (lead k l w t o g) h =
      let back : Backed s.queue (grant k (suc l) w t) = subst (GrantBacked s.queue) g h.grants in
      record {
        sound = h.sound;
        grants =
            closing_backed s.queue (grant k l w t)
            (λ some. record {
              known = back.known;
              lead_few = omega (arith, back.lead_few);
              work_few = back.work_few;
              trail_few = back.trail_few;
              some = some;
              backed = back.backed;
            });
      }
  kept_tick s (trail k t o g) h =
      let back : Backed s.queue (grant k 0 0 (suc t)) = subst (GrantBacked s.queue) g h.grants in
      record {
        sound = h.sound;
        grants =
            closing_backed s.queue (grant k 0 0 t)
            (λ some. record {
              known = back.known;
              lead_few = back.lead_few;
              work_few = back.work_few;
              trail_few = omega (arith, back.trail_few);
              some = some;
              backed = back.backed;
            });
      }
  kept_tick s (work k w t e es o g q left) h =
      let p = (line_at b k).owner in
      let back : Backed s.queue (grant k 0 (suc w) t) = subst (GrantBacked s.queue) g h.grants in
      let there = ap work_in (put_same s.queue p (worn (s.queue p))) in
      let less = ap (λ (l : List Event). work_in (worn l)) q in
      let whole = ap work_in q in
      let one = worn_work e es left in
      record {
        sound = put_each s.queue p (worn (s.queue p)) h.sound (worn_each p (s.queue p) (h.sound p));
        grants =
            closing_backed (put s.queue p (worn (s.queue p))) (grant k 0 w t)
            (λ some. record {
              known = back.known;
              lead_few = back.lead_few;
              work_few = omega (arith, back.work_few);
              trail_few = back.trail_few;
              some = some;
              backed = omega (arith, back.backed);
            });
      }
  kept_tick s (bottom e es o g q left) h =
      let p = owner_at b s.instant in
      record { sound = put_each s.queue p (worn (s.queue p)) h.sound (worn_each p (s.queue p) (h.sound p)); grants = tt }
  kept_tick s (idle o g q) h = record { sound = h.sound; grants = tt }
