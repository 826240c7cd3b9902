-- Every call is a list of elementary steps, and what the caller sees of it is what the steps show.
use Rattle.std.proofs.Common.{◌≡◌, ℕ, zero, suc, ◌+◌, ◌-◌, ◌^◌, ◌<◌, Bool, true, false, cond, ltb, leb, List, ◌∷◌, ◌++◌, length, Some, None, Ok, Err, Option, Result, sym, refl, ap, ◌∙◌, subst, subst₂, arith}
use Rattle.std.proofs.lemmas.Bool.Decides.{nat_tests}
use Rattle.model.specs.declared.refusal.Refusal.{Refusal}
use Rattle.model.specs.declared.refusal.Refusal.TheVariants.{NoSuch, Masked, QueueFull}
use Rattle.model.specs.declared.run.Answer.{Answer}
use Rattle.model.specs.declared.run.Answer.TheVariants.{Permitted as says_permitted, Queued as says_queued}
use Rattle.model.specs.declared.run.Span.{Span}
use Rattle.model.specs.declared.run.Finished.{Finished}
use Rattle.model.specs.declared.run.Ran.{Ran}
use Rattle.model.specs.Limits.{end}
use Rattle.model.specs.Bits.{is_set}
use Rattle.model.specs.Board.{Layout, line_at}
use Rattle.model.specs.Tick.{State, after}
use Rattle.model.specs.Core.{Core, raise_fault, permits, told, RaisedBy, Raised, Taken, noted, Offered, StrobedBelow, AdvancedBy, Advanced, Runs}
use Rattle.model.specs.Run.{Call, raise, strobe, advance, Called, Run, start, call}
use Rattle.model.specs.Seen.{History, Accepted, accepted, seen, showing, with_events, on_if, strobed_onto, is_permit, spans_onto, done_onto}
use Rattle.model.proofs.Steps.{Steps, none, event, ticked, note_event}
use Rattle.model.proofs.TapeTold.{next_instant, note_ticks, tape_told}
use Rattle.model.proofs.Words.{unset_above, set_above, below_set, sum_fits}
use Rattle.model.specs.Monitor.{Meaning}

module _ {S : Type 0} (means : Meaning S) where
  -- steps on from a point where others ended
  pub join : {b : Layout} {h₀ : History} {m₀ : S} {s₀ : State} {h : History} {m : S} {s : State} {h' : History} {m' : S} {s' : State}
      → Steps means b h₀ m₀ s₀ h m s → Steps means b h m s h' m' s' → Steps means b h₀ m₀ s₀ h' m' s'
  join first none = first
  join first (event k tag permit steps known is becomes) = event k tag permit (join first steps) known is becomes
  join first (ticked steps) = ticked (join first steps)

  pub on_time : {b : Layout} {h₀ : History} {m₀ : S} {s₀ : State} {h : History} {m : S} {s : State}
      → Steps means b h₀ m₀ s₀ h m s → h₀.clock ≡ s₀.instant → h.clock ≡ s.instant
  on_time none e = e
  on_time (event k tag permit steps known is becomes) e = on_time steps e
  on_time {b} (ticked {h} {m} {s} steps) e = ap suc (on_time steps e) ∙ sym (next_instant b s)

  -- a call takes one point to another on the same board
  pub record Stepped (x : Core S) (h h' : History) (y : Core S) : Type 0 where
    pub same_board : y.board ≡ x.board
    pub steps : Steps means x.board h x.monitor x.state h' y.monitor y.state

  stay : (x y : Core S) (h : History) → y ≡ x → Stepped x h h y
  stay x y h e = subst (λ z. Stepped x h h z) (sym e) (record { same_board = refl; steps = none })

  -- Raising.

  known_line : (b : Layout) (s : State) (mask k : ℕ) → raise_fault b s mask k ≡ None → k < length b.lines
  known_line b s mask k h = by (ltb k (length b.lines)) refl h
    where
      by : (t : Bool) → ltb k (length b.lines) ≡ t
          → cond t (cond (is_set mask k) (Some (Masked k)) (cond (ltb (length (s.queue (line_at b k).owner)) 32) None (Some (QueueFull (line_at b k).owner)))) (Some (NoSuch k)) ≡ None
          → k < length b.lines
      by true is e = grind (arith, nat_tests)
      by false is e = let z : ◌≡◌ {A = ℕ} 0 1 = cc in absurd (omega arith)

  told_back : (t : Bool) → is_permit (told t) ≡ t
  told_back true = refl
  told_back false = refl

  taken_steps : (x y : Core S) (mask k tag : ℕ) (r : Result Answer Refusal) (h : History) → raise_fault x.board x.state mask k ≡ None
      → Taken means x k tag r y → Stepped x h (showing (raise mask k tag r) h) y
  taken_steps x y mask k tag r h open_line t =
      record {
        same_board = t.same_board;
        steps =
            subst₂ (λ h' s'. Steps means x.board h x.monitor x.state h' y.monitor s')
            (sym (ap (λ v. showing (raise mask k tag v) h) t.answered ∙ ap (λ v. note_event h k tag v) (told_back (permits means x k))))
            (sym t.state_after)
            (event k tag (permits means x k) none (known_line x.board x.state mask k open_line) refl t.monitor_after);
      }

  pub raise_steps : (x y : Core S) (mask k tag : ℕ) (r : Result Answer Refusal) (h : History)
      → Raised means x mask k tag r y → Stepped x h (showing (raise mask k tag r) h) y
  raise_steps x y mask k tag r h raised = by (raise_fault x.board x.state mask k) refl raised
    where
      by : (f : Option Refusal) → raise_fault x.board x.state mask k ≡ f → RaisedBy means f x k tag r y → Stepped x h (showing (raise mask k tag r) h) y
      by None is t = taken_steps x y mask k tag r h is t
      by (Some f) is t = subst (λ v. Stepped x h (showing (raise mask k tag v) h) y) (sym t.0) (stay x y h t.1)

  -- Strobing.

  -- words that agree below n show the same lines there
  agree : (n tag t : ℕ) (w v : ℕ × ℕ) (es : List Accepted) → ((j : ℕ) → j < n → (is_set w.0 j ≡ is_set v.0 j) × (is_set w.1 j ≡ is_set v.1 j))
      → strobed_onto n tag w t es ≡ strobed_onto n tag v t es
  unfolding strobed_onto
  agree zero tag t w v es h = refl
  agree (suc k) tag t w v es h =
      let here = h k (omega arith) in
      ap (λ z. on_if z (accepted k tag t (is_set w.1 k)) (strobed_onto k tag w t es)) here.0
      ∙ (ap (λ z. on_if (is_set v.0 k) (accepted k tag t z) (strobed_onto k tag w t es)) here.1
      ∙ ap (λ z. on_if (is_set v.0 k) (accepted k tag t (is_set v.1 k)) z) (agree k tag t w v es (λ j l. h j (omega arith))))

  -- the two words hold lines below n only
  abbrev Small : ℕ → ℕ × ℕ → Type 0
  Small n w = (w.0 < 2 ^ n) × (w.1 < 2 ^ n)

  -- a line above all others in the words: whether it is set, and what stands below it
  shows : (k tag t : ℕ) (w v : ℕ × ℕ) (es : List Accepted) (taken permit : Bool) → is_set w.0 k ≡ taken → is_set w.1 k ≡ permit
      → ((j : ℕ) → j < k → (is_set w.0 j ≡ is_set v.0 j) × (is_set w.1 j ≡ is_set v.1 j))
      → strobed_onto (suc k) tag w t es ≡ on_if taken (accepted k tag t permit) (strobed_onto k tag v t es)
  unfolding strobed_onto
  shows k tag t w v es taken permit e f low =
      ap (λ z. on_if z (accepted k tag t (is_set w.1 k)) (strobed_onto k tag w t es)) e
      ∙ (ap (λ z. on_if taken (accepted k tag t z) (strobed_onto k tag w t es)) f ∙ ap (on_if taken (accepted k tag t permit)) (agree k tag t w v es low))

  passed_shows : (k tag : ℕ) (v : ℕ × ℕ) (h : History) → Small k v
      → with_events h (strobed_onto (suc k) tag v h.clock h.events) ≡ with_events h (strobed_onto k tag v h.clock h.events)
  passed_shows k tag v h small =
      ap (with_events h) (shows k tag h.clock v v h.events false false (unset_above v.0 k small.0) (unset_above v.1 k small.1) (λ j l. (refl, refl)))

  -- what noting line k shows: the line, if it was taken, onto what the words showed before
  noted_shows : (mask k tag : ℕ) (r : Result Answer Refusal) (v : ℕ × ℕ) (h : History) → Small k v
      → with_events h (strobed_onto (suc k) tag (noted means k r v) h.clock h.events)
      ≡ showing (raise mask k tag r) (with_events h (strobed_onto k tag v h.clock h.events))
  noted_shows mask k tag (Ok says_permitted) v h small =
      ap (with_events h)
      (shows k tag h.clock (v.0 + 2 ^ k, v.1 + 2 ^ k) v h.events true true (set_above v.0 k small.0) (set_above v.1 k small.1)
      (λ j l. (below_set v.0 j k l, below_set v.1 j k l)))
  noted_shows mask k tag (Ok says_queued) v h small =
      ap (with_events h)
      (shows k tag h.clock (v.0 + 2 ^ k, v.1) v h.events true false (set_above v.0 k small.0) (unset_above v.1 k small.1) (λ j l. (below_set v.0 j k l, refl)))
  noted_shows mask k tag (Err e) v h small = passed_shows k tag v h small

  noted_small : (k : ℕ) (r : Result Answer Refusal) (v : ℕ × ℕ) → Small k v → Small (suc k) (noted means k r v)
  noted_small k (Ok says_permitted) v small = (sum_fits v.0 k small.0, sum_fits v.1 k small.1)
  noted_small k (Ok says_queued) v small = (sum_fits v.0 k small.0, omega (arith, small.1))
  noted_small k (Err e) v small = (omega (arith, small.0), omega (arith, small.1))

  -- one call's steps after another's
  after_steps : (x y z : Core S) (h h' h'' : History) → Stepped x h h' y → Stepped y h' h'' z → Stepped x h h'' z
  after_steps x y z h h' h'' first second =
      record {
        same_board = second.same_board ∙ first.same_board;
        steps =
            join first.steps
            (subst (λ b. Steps means b h' y.monitor y.state h'' z.monitor z.state) first.same_board second.steps);
      }

  offered_steps : (set : Bool) (mask word tag k : ℕ) (y z : Core S) (v w : ℕ × ℕ) (h : History) → Small k v
      → Offered means set mask tag k y v w z
      → Stepped y (with_events h (strobed_onto k tag v h.clock h.events)) (with_events h (strobed_onto (suc k) tag w h.clock h.events)) z × Small (suc k) w
  offered_steps true mask word tag k y z v w h small o = (
    subst (λ x. Stepped y (with_events h (strobed_onto k tag v h.clock h.events)) x z)
        (sym (ap (λ x. with_events h (strobed_onto (suc k) tag x h.clock h.events)) o.2 ∙ noted_shows mask k tag o.0 v h small))
        (raise_steps y z mask k tag o.0 (with_events h (strobed_onto k tag v h.clock h.events)) o.1),
    subst (Small (suc k)) (sym o.2) (noted_small k o.0 v small),
  )
  offered_steps false mask word tag k y z v w h small o = (
    subst (λ x. Stepped y (with_events h (strobed_onto k tag v h.clock h.events)) x z)
        (sym (ap (λ x. with_events h (strobed_onto (suc k) tag x h.clock h.events)) o.0 ∙ passed_shows k tag v h small))
        (stay y z (with_events h (strobed_onto k tag v h.clock h.events)) o.1),
    subst (Small (suc k)) (sym o.0) (omega (arith, small.0), omega (arith, small.1)),
  )

  strobe_below : (n mask word tag : ℕ) (x y : Core S) (w : ℕ × ℕ) (h : History) → StrobedBelow means n mask word tag x w y
      → Stepped x h (with_events h (strobed_onto n tag w h.clock h.events)) y × Small n w
  unfolding StrobedBelow strobed_onto
  strobe_below zero mask word tag x y w h s = (stay x y h s.1, subst (Small 0) (sym s.0) (omega arith, omega arith))
  strobe_below (suc k) mask word tag x z w h s =
      let first = strobe_below k mask word tag x s.0 s.1 h s.2 in
      let second = offered_steps (is_set word k) mask word tag k s.0 z s.1 w h first.1 s.3 in
      (after_steps x s.0 z h _ _ first.0 second.0, second.1)

  -- Advancing.

  ticks_steps : (b : Layout) (s : State) (m : S) (h : History) (n : ℕ) → Steps means b h m s (note_ticks b s n h) m (after b s n)
  ticks_steps b s m h zero = none
  ticks_steps b s m h (suc n) = ticked (ticks_steps b s m h n)

  runs_steps : (x y : Core S) (n : ℕ) (spans : List Span) (events : List Finished) (ran : Ran) (spans' : List Span) (events' : List Finished) (h : History)
      → h.clock ≡ x.state.instant → Runs x n spans events ran y spans' events' → Stepped x h (showing (advance n spans events (Ok ran) spans' events') h) y
  runs_steps x y n spans events ran spans' events' h time runs =
      subst₂ (λ z h'. Stepped x h h' z) (sym runs.core_after) shown
      (record { same_board = refl; steps = ticks_steps x.board x.state x.monitor h ran.ticks })
    where
      shown : note_ticks x.board x.state ran.ticks h ≡ showing (advance n spans events (Ok ran) spans' events') h
      shown =
          tape_told x.board x.state ran.ticks h time
          ∙ λ i. record {
            clock = h.clock + ran.ticks;
            events = h.events;
            ticks = spans_onto (sym runs.spans_written.front i) h.ticks;
            done = done_onto (sym runs.events_written.front i) h.done;
          }

  advance_steps : (x y : Core S) (n : ℕ) (spans : List Span) (events : List Finished) (r : Result Ran Refusal) (spans' : List Span) (events' : List Finished) (h : History)
      → h.clock ≡ x.state.instant → Advanced x n spans events r y spans' events' → Stepped x h (showing (advance n spans events r spans' events') h) y
  advance_steps x y n spans events r spans' events' h time a = by (leb n (end - x.state.instant)) r a
    where
      by : (t : Bool) (v : Result Ran Refusal) → AdvancedBy t x n spans events v y spans' events' → Stepped x h (showing (advance n spans events v spans' events') h) y
      by true (Ok ran) a = runs_steps x y n spans events ran spans' events' h time a
      by true (Err e) a = absurd a
      by false v a = subst (λ z. Stepped x h (showing (advance n spans events z spans' events') h) y) (sym a.0) (stay x y h a.1)

  pub call_steps : (c : Call) (x y : Core S) (h : History) → h.clock ≡ x.state.instant → Called means x c y → Stepped x h (showing c h) y
  call_steps (raise mask k tag r) x y h time c = raise_steps x y mask k tag r h c
  call_steps (strobe mask word tag w) x y h time c = (strobe_below 16 mask word tag x y w h c).0
  call_steps (advance n spans events r spans' events') x y h time c = advance_steps x y n spans events r spans' events' h time c

  -- A whole run, from a point that others led to.
  pub run_steps : (pre : List Call) (x : Core S) → (seen pre).clock ≡ x.state.instant → {calls : List Call} {y : Core S} → Run means x calls y
      → Stepped x (seen pre) (seen (calls ++ pre)) y
  run_steps pre x time start = stay x x (seen pre) refl
  run_steps pre x time (call {calls} {y} {c} {z} run called) =
      let before = run_steps pre x time run in
      after_steps x y z (seen pre) (seen (calls ++ pre)) (seen ((c ∷ calls) ++ pre)) before
      (call_steps c y z (seen (calls ++ pre)) (on_time before.steps time) called)
