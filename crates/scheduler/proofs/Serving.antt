-- Serving a queue at once: ticks of the head event's handler, up to the one that ends it.
use Rattle.std.proofs.Common.{◌≡◌, ℕ, zero, suc, ◌+◌, ◌-◌, ◌<◌, ◌≤◌, Bool, true, false, cond, eqb, ltb, leb, List, [], ◌∷◌, length, Some, None, Option, sym, refl, ap, ◌∙◌, subst, add-zero, add-suc, arith}
use mathlib.Core.Path.{fun_ext}
use native.Mathlib.Nat.{sub-zero}
use Rattle.std.proofs.lemmas.Bool.Decides.{nat_tests}
use Rattle.model.specs.declared.run.Event.{Event}
use Rattle.model.specs.declared.run.Finished.{Finished}
use Rattle.model.specs.declared.run.Kind.{Kind}
use Rattle.model.specs.Board.{Layout}
use Rattle.model.specs.Tick.{State, Grant, Ticked, put, serving, worn, ends_at, tick}
use Rattle.model.specs.declared.run.Row.{Row}
use Rattle.parts.specs.Service.{Service, serve, less, ends_in}
use Rattle.scheduler.specs.Stretches.{Stretch, finished_of}
use Rattle.scheduler.proofs.Bursts.{moved, Holds, quiet, quiet_stretch, ending_stretch, state_path}

pub put_here : (q : ℕ → List Event) (p : ℕ) (x : List Event) → put q p x p ≡ x
put_here q p x = grind (arith, nat_tests)

put_put : (q : ℕ → List Event) (p : ℕ) (x y : List Event) → put (put q p x) p y ≡ put q p y
put_put q p x y = fun_ext (λ j. by j (eqb j p))
  where
    by : (j : ℕ) (t : Bool) → cond t y (cond t x (q j)) ≡ cond t y (q j)
    by j true = refl
    by j false = refl

pub put_self : (q : ℕ → List Event) (p : ℕ) (x : List Event) → q p ≡ x → put q p x ≡ q
put_self q p x is = fun_ext (λ j. by j (eqb j p) refl)
  where
    by : (j : ℕ) (t : Bool) → eqb j p ≡ t → cond t x (q j) ≡ q j
    by j true e = let same : j ≡ p = grind (arith, nat_tests) in sym (ap q same ∙ is)
    by j false e = refl

module _ (b : Layout) (s : State) (limit owner p : ℕ) (kind : Kind) (who : ℕ) (g : ℕ → Option Grant) (holds : Holds b s limit owner) (none : s.owed ≡ 0) (begins : g 0 ≡ s.granted)
    (rule : (i : ℕ) → i < limit → (e : Event) (es : List Event)
    → tick b (moved s i 0 (g i) (put s.queue p (e ∷ es))) ≡ serving b (moved s i 0 (g i) (put s.queue p (e ∷ es))) kind who p (g (suc i))) where
  row : Row
  row = record { kind = kind; who = who; owner = owner }

  -- what a tick makes of the queue, and of its head
  tick_moved : (i : ℕ) → i < limit → (e : Event) (es rest : List Event) (done : List Finished) → worn (e ∷ es) ≡ rest → ends_at (suc (s.instant + i)) (e ∷ es) ≡ done
      → tick b (moved s i 0 (g i) (put s.queue p (e ∷ es)))
      ≡ record { row = record { kind = kind; who = who; owner = owner }; ended = done; next = moved s (suc i) 0 (g (suc i)) (put s.queue p rest) }
  tick_moved i l e es rest done after ends =
      rule i l e es
      ∙ λ j. record {
        row = record { kind = kind; who = who; owner = holds i l j };
        ended = (ap (ends_at (suc (s.instant + i))) (put_here s.queue p (e ∷ es)) ∙ ends) j;
        next =
            record {
              instant = sym (add-suc s.instant i) j;
              owed = 0;
              granted = g (suc i);
              queue = (put_put s.queue p (e ∷ es) (worn (put s.queue p (e ∷ es) p)) ∙ ap (λ x. put s.queue p (worn x)) (put_here s.queue p (e ∷ es)) ∙ ap (put s.queue p) after) j;
            };
      }

  module _ (e : Event) (es : List Event) (head : s.queue p ≡ e ∷ es) where
    f : ℕ → State
    f i = moved s i 0 (g i) (put s.queue p (less e i ∷ es))

    less_none : less e 0 ≡ e
    less_none = λ i. record { tag = e.tag; line = e.line; raised = e.raised; left = sub-zero e.left i }

    start : f 0 ≡ s
    unfolding f
    start =
        state_path _ _ _ _ _ _ _ _ (add-zero s.instant) (sym none) begins
        (ap (λ x. put s.queue p (x ∷ es)) less_none ∙ put_self s.queue p (e ∷ es) head)

    -- before its last tick the head only wears
    wears : (i : ℕ) → i < limit → suc i < ends_in e → tick b (f i) ≡ quiet (record { kind = kind; who = who; owner = owner }) (f (suc i))
    unfolding f
    wears i l more =
        tick_moved i l (less e i) es (less e (suc i) ∷ es) []
        (ap (λ v. cond v es (less (less e i) 1 ∷ es)) long ∙ ap (λ x. x ∷ es) (λ j. record { tag = e.tag; line = e.line; raised = e.raised; left = one j }))
        (ap (λ v. cond v (record { tag = e.tag; line = e.line; raised = e.raised; at = suc (s.instant + i) } ∷ []) []) long)
      where
        long : leb (e.left - i) 1 ≡ false
        long = grind (arith, nat_tests)

        one : e.left - i - 1 ≡ e.left - suc i
        one = omega arith

    last : (i : ℕ) → i < limit → suc i ≡ ends_in e
        → tick b (f i)
        ≡ record {
          row = record { kind = kind; who = who; owner = owner };
          ended = record { tag = e.tag; line = e.line; raised = e.raised; at = suc (s.instant + i) } ∷ [];
          next = moved s (suc i) 0 (g (suc i)) (put s.queue p es);
        }
    unfolding f
    last i l is =
        tick_moved i l (less e i) es es _ (ap (λ v. cond v es (less (less e i) 1 ∷ es)) short)
        (ap (λ v. cond v (record { tag = e.tag; line = e.line; raised = e.raised; at = suc (s.instant + i) } ∷ []) []) short)
      where
        short : leb (e.left - i) 1 ≡ true
        short = grind (arith, nat_tests)

    part : (room : Bool) (m : ℕ) → 1 ≤ m → m ≤ limit → m < ends_in e → Stretch b s limit room m None (moved s m 0 (g m) (put s.queue p (less e m ∷ es)))
    unfolding f
    part room m some few before =
        subst (λ x. Stretch b x limit room m None (f m)) start
        (quiet_stretch b (record { kind = kind; who = who; owner = owner }) f m (λ i l. wears i (omega arith) (omega arith)) limit room some few)

    whole : ends_in e ≤ limit
        → Stretch b s limit true (ends_in e) (Some (record { tag = e.tag; line = e.line; raised = e.raised; at = s.instant + ends_in e }))
        (moved s (ends_in e) 0 (g (ends_in e)) (put s.queue p es))
    unfolding f
    whole fits =
        let n = ends_in e - 1 in
        let next : suc n ≡ ends_in e = omega arith in
        subst (λ x. Stretch b x limit true (ends_in e) (Some (record { tag = e.tag; line = e.line; raised = e.raised; at = s.instant + ends_in e }))
        (moved s (ends_in e) 0 (g (ends_in e)) (put s.queue p es))) start
        (subst (λ k. Stretch b (f 0) limit true k (Some (record { tag = e.tag; line = e.line; raised = e.raised; at = s.instant + k })) (moved s k 0 (g k) (put s.queue p es))) next
        (ending_stretch b (record { kind = kind; who = who; owner = owner }) f n (λ i l. wears i (omega arith) (omega arith)) limit
        (record { tag = e.tag; line = e.line; raised = e.raised; at = s.instant + suc n }) (moved s (suc n) 0 (g (suc n)) (put s.queue p es)) (omega arith)
        (last n (omega arith) next ∙ ap (λ t. record { row = record { kind = kind; who = who; owner = owner }; ended = record { tag = e.tag; line = e.line; raised = e.raised; at = t } ∷ []; next = moved s (suc n) 0 (g (suc n)) (put s.queue p es) })
        (sym (add-suc s.instant n)))))

    -- no room for the event that the very next tick ends
    halted : 0 < limit → ends_in e ≡ 1 → Stretch b s limit false 0 None (moved s 0 0 (g 0) (put s.queue p (less e 0 ∷ es)))
    unfolding f
    halted positive one =
        record {
          few = omega arith;
          state_after = start;
          alike = λ i l. absurd (omega arith);
          ended = refl;
          placed = λ _. refl;
          stops = λ _ _. (refl, ap (λ x. length (tick b x).ended) (sym start) ∙ ap (λ (x : Ticked). length x.ended) (last 0 positive (sym one)));
        }

    pub served_by : (room : Bool) → 1 ≤ limit
        → Stretch b s limit room (serve limit room (e ∷ es)).ticks (finished_of (s.instant + (serve limit room (e ∷ es)).ticks) (serve limit room (e ∷ es)).ended)
        (moved s (serve limit room (e ∷ es)).ticks 0 (g (serve limit room (e ∷ es)).ticks) (put s.queue p (serve limit room (e ∷ es)).rest))
    served_by room some = by (ltb limit (ends_in e)) room refl
      where
        abbrev_of : Service → Bool → Type 0
        abbrev_of v r =
            Stretch b s limit r v.ticks (finished_of (s.instant + v.ticks) v.ended) (moved s v.ticks 0 (g v.ticks) (put s.queue p v.rest))

        by : (t r : Bool) → ltb limit (ends_in e) ≡ t
            → abbrev_of
            (cond t (record { ticks = limit; ended = None; rest = less e limit ∷ es })
            (cond r (record { ticks = ends_in e; ended = Some e; rest = es }) (record { ticks = ends_in e - 1; ended = None; rest = less e (ends_in e - 1) ∷ es }))) r
        by true r is = part r limit some (omega arith) (grind (arith, nat_tests))
        by false true is = whole (grind (arith, nat_tests))
        by false false is = no_room (ends_in e - 1) refl (grind (arith, nat_tests))
          where
            no_room : (n : ℕ) → ends_in e - 1 ≡ n → ends_in e ≤ limit
                → Stretch b s limit false n None (moved s n 0 (g n) (put s.queue p (less e n ∷ es)))
            no_room zero is fits = halted some (omega arith)
            no_room (suc n) is fits = part false (suc n) (omega arith) (omega arith) (omega arith)

-- A queue with nothing in it: the ticks run, and nothing is served.
pub unserved : (b : Layout) (s : State) (n owner p : ℕ) (kind : Kind) (who : ℕ) (g : ℕ → Option Grant) (room : Bool) → Holds b s n owner → s.owed ≡ 0 → g 0 ≡ s.granted
    → ((i : ℕ) → i < n → tick b (moved s i 0 (g i) (put s.queue p [])) ≡ serving b (moved s i 0 (g i) (put s.queue p [])) kind who p (g (suc i)))
    → s.queue p ≡ [] → 1 ≤ n → Stretch b s n room n None (moved s n 0 (g n) (put s.queue p []))
unserved b s n owner p kind who g room holds none begins rule empty some =
    subst (λ x. Stretch b x n room n None (f n)) (state_path _ _ _ _ _ _ _ _ (add-zero s.instant) (sym none) begins (put_self s.queue p [] empty))
    (quiet_stretch b (record { kind = kind; who = who; owner = owner }) f n each n room some (omega arith))
  where
    f : ℕ → State
    f i = moved s i 0 (g i) (put s.queue p [])

    each : (i : ℕ) → i < n → tick b (f i) ≡ quiet (record { kind = kind; who = who; owner = owner }) (f (suc i))
    each i l =
        rule i l
        ∙ λ j. record {
          row = record { kind = kind; who = who; owner = holds i l j };
          ended = ap (ends_at (suc (s.instant + i))) (put_here s.queue p []) j;
          next =
              record {
                instant = sym (add-suc s.instant i) j;
                owed = 0;
                granted = g (suc i);
                queue = (put_put s.queue p [] (worn (put s.queue p [] p)) ∙ ap (λ x. put s.queue p (worn x)) (put_here s.queue p [])) j;
              };
        }
