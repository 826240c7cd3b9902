-- Each call has one answer.
use Rattle.std.proofs.Common.{◌≡◌, ℕ, zero, suc, ◌+◌, ◌-◌, ◌^◌, Bool, true, false, not, ◌&&◌, leb, List, ◌++◌, length, drop, is_some, Some, None, Ok, Err, Option, Result, sym, refl, ap, ◌∙◌, subst, arith}
use Rattle.std.proofs.lemmas.Nat.{pow_pos}
use Rattle.std.proofs.lemmas.List.{take-append-drop}
use Rattle.model.specs.declared.refusal.Refusal.{Refusal}
use Rattle.model.specs.declared.run.Answer.{Answer}
use Rattle.model.specs.declared.run.Answer.TheVariants.{Permitted as says_permitted, Queued as says_queued}
use Rattle.model.specs.declared.run.Span.{Span}
use Rattle.model.specs.declared.run.Finished.{Finished}
use Rattle.model.specs.declared.run.Ran.{Ran}
use Rattle.model.specs.Limits.{end}
use Rattle.model.specs.Bits.{is_set}
use Rattle.model.specs.Tick.{State, Grant, after, ended_in}
use Rattle.model.specs.Tape.{tape}
use Rattle.model.specs.Core.{Core, core, raise_fault, in_foreign_slot, asks, permits, told, raised_state, Becomes, Taken, RaisedBy, Raised, noted, Offered, StrobedBelow, Written, Runs, AdvancedBy}
use Rattle.model.specs.Once.{AdvancedOnce, RaisedOnce, StrobedOnce, CallsOnce}
use Rattle.model.specs.Monitor.{Meaning}

-- Advancing.

-- a buffer is the items written and then its old places
whole : {X : Type 0} (c : ℕ) (items before behind : List X) → Written c items before behind → behind ≡ items ++ drop (length items) before
whole c items before behind w =
    sym (take-append-drop c behind)
    ∙ (ap (λ l. l ++ drop c behind) w.front ∙ (ap (λ l. items ++ l) w.rest ∙ ap (λ n. items ++ drop n before) w.counted))

module _ {S : Type 0} where
  runs_once : (x : Core S) (n : ℕ) (spans : List Span) (events : List Finished) (q r : Ran) (y z : Core S) (ys zs : List Span) (fs gs : List Finished)
      → Runs x n spans events q y ys fs → Runs x n spans events r z zs gs → (q ≡ r) × (y ≡ z) × (ys ≡ zs) × (fs ≡ gs)
  runs_once x n spans events q r y z ys zs fs gs a c =
      let ticks : q.ticks ≡ r.ticks = omega (arith, a.most r.ticks c.few c.fits, c.most q.ticks a.few a.fits) in
      let written : q.spans ≡ r.spans = a.spans_written.counted ∙ (ap (λ t. length (tape x.board x.state t)) ticks ∙ sym c.spans_written.counted) in
      let ended : q.finished ≡ r.finished = a.events_written.counted ∙ (ap (λ t. length (ended_in x.board x.state t)) ticks ∙ sym c.events_written.counted) in (
        λ i. record { ticks = ticks i; spans = written i; finished = ended i },
        a.core_after ∙ (ap (λ t. core x.board x.monitor (after x.board x.state t)) ticks ∙ sym c.core_after),
        whole q.spans (tape x.board x.state q.ticks) spans ys a.spans_written
            ∙ (ap (λ t. tape x.board x.state t ++ drop (length (tape x.board x.state t)) spans) ticks
            ∙ sym (whole r.spans (tape x.board x.state r.ticks) spans zs c.spans_written)),
        whole q.finished (ended_in x.board x.state q.ticks) events fs a.events_written
            ∙ (ap (λ t. ended_in x.board x.state t ++ drop (length (ended_in x.board x.state t)) events) ticks
            ∙ sym (whole r.finished (ended_in x.board x.state r.ticks) events gs c.events_written)),
      )

  advanced_once : AdvancedOnce S
  advanced_once x n spans events q r y z ys zs fs gs a c = by (leb n (end - x.state.instant)) q r a c
    where
      by : (t : Bool) (u v : Result Ran Refusal) → AdvancedBy t x n spans events u y ys fs → AdvancedBy t x n spans events v z zs gs → (u ≡ v) × (y ≡ z) × (ys ≡ zs) × (fs ≡ gs)
      by true (Ok u) (Ok v) a c = let same = runs_once x n spans events u v y z ys zs fs gs a c in (ap Ok same.0, same.1, same.2, same.3)
      by true (Ok u) (Err e) a c = absurd c
      by true (Err e) v a c = absurd a
      by false u v a c = (a.0 ∙ sym c.0, a.1 ∙ sym c.1, a.2 ∙ sym c.2, a.3 ∙ sym c.3)

-- Raising, from cores that differ at most in a monitor that cannot be asked.

module _ {S : Type 0} (means : Meaning S) where
  pub record Alike (x y : Core S) : Type 0 where
    pub boards : x.board ≡ y.board
    pub states : x.state ≡ y.state
    pub monitors : x.state.granted ≡ None → x.monitor ≡ y.monitor

  alike_permits : (x y : Core S) (k : ℕ) → Alike x y → permits means x k ≡ permits means y k
  alike_permits x y k a =
      ap (λ c. asks c x.state k && means.ready x.monitor k x.state.instant) a.boards
      ∙ (ap (λ s. asks y.board s k && means.ready x.monitor k s.instant) a.states
      ∙ by y.state.granted refl (λ none. a.monitors (ap (λ (s : State). s.granted) a.states ∙ none)))
    where
      never : (u v : Bool) → ((u && not true) && v) ≡ false
      never true v = refl
      never false v = refl

      by : (g : Option Grant) → y.state.granted ≡ g → (y.state.granted ≡ None → x.monitor ≡ y.monitor)
          → (asks y.board y.state k && means.ready x.monitor k y.state.instant) ≡ (asks y.board y.state k && means.ready y.monitor k y.state.instant)
      by None is same = ap (λ m. asks y.board y.state k && means.ready m k y.state.instant) (same is)
      by (Some g) is same =
          let u = in_foreign_slot y.board y.state k in
          let v = means.ready x.monitor k y.state.instant in
          let w = means.ready y.monitor k y.state.instant in
          ap (λ o. (u && not (is_some o)) && v) is ∙ (never u v ∙ sym (ap (λ o. (u && not (is_some o)) && w) is ∙ never u w))

  -- what two raises of one line from alike cores come to
  data Outcome (x y : Core S) (k : ℕ) (q r : Result Answer Refusal) (z w : Core S) : Type 0 where
    refused : (f : Refusal) → q ≡ Err f → r ≡ Err f → z ≡ x → w ≡ y → Outcome x y k q r z w
    waits : q ≡ Ok says_queued → r ≡ Ok says_queued → z.board ≡ w.board → z.state ≡ w.state → z.state.granted ≡ x.state.granted
        → z.monitor ≡ x.monitor → w.monitor ≡ y.monitor → Outcome x y k q r z w
    granted : (g : Grant) → q ≡ Ok says_permitted → r ≡ Ok says_permitted → z.board ≡ w.board → z.state ≡ w.state → z.state.granted ≡ Some g
        → permits means x k ≡ true → Outcome x y k q r z w

  taken_outcome : (x y : Core S) (k tag : ℕ) (q r : Result Answer Refusal) (z w : Core S) → Alike x y → (permit : Bool) → permits means x k ≡ permit
      → Taken means x k tag q z → Taken means y k tag r w → Outcome x y k q r z w
  taken_outcome x y k tag q r z w a permit is t u = by permit is (sym (alike_permits x y k a) ∙ is)
    where
      boards : z.board ≡ w.board
      boards = t.same_board ∙ (a.boards ∙ sym u.same_board)

      states : z.state ≡ w.state
      states =
          t.state_after
          ∙ (ap (λ p. raised_state x.board x.state k tag p) (alike_permits x y k a)
          ∙ (ap (λ c. raised_state c x.state k tag (permits means y k)) a.boards
          ∙ (ap (λ s. raised_state y.board s k tag (permits means y k)) a.states ∙ sym u.state_after)))

      by : (p : Bool) → permits means x k ≡ p → permits means y k ≡ p → Outcome x y k q r z w
      by true px py =
          granted _ (t.answered ∙ ap (λ p. Ok (told p)) px) (u.answered ∙ ap (λ p. Ok (told p)) py) boards states
          (ap (λ (s : State). s.granted) t.state_after ∙ ap (λ p. (raised_state x.board x.state k tag p).granted) px) px
      by false px py =
          waits (t.answered ∙ ap (λ p. Ok (told p)) px) (u.answered ∙ ap (λ p. Ok (told p)) py) boards states
          (ap (λ (s : State). s.granted) t.state_after ∙ ap (λ p. (raised_state x.board x.state k tag p).granted) px)
          (subst (λ p. Becomes means p x.monitor k x.state.instant z.monitor) px t.monitor_after)
          (subst (λ p. Becomes means p y.monitor k y.state.instant w.monitor) py u.monitor_after)

  raise_outcome : (x y : Core S) (mask k tag : ℕ) (q r : Result Answer Refusal) (z w : Core S) → Alike x y
      → Raised means x mask k tag q z → Raised means y mask k tag r w → Outcome x y k q r z w
  raise_outcome x y mask k tag q r z w a t u =
      by (raise_fault x.board x.state mask k) t
      (subst (λ f. RaisedBy means f y k tag r w)
      (ap (λ c. raise_fault c y.state mask k) (sym a.boards) ∙ ap (λ s. raise_fault x.board s mask k) (sym a.states)) u)
    where
      by : (f : Option Refusal) → RaisedBy means f x k tag q z → RaisedBy means f y k tag r w → Outcome x y k q r z w
      by (Some f) t u = refused f t.0 u.0 t.1 u.1
      by None t u = taken_outcome x y k tag q r z w a (permits means x k) refl t u

  same_core : (x : Core S) → Alike x x
  same_core x = record { boards = refl; states = refl; monitors = λ _. refl }

  raised_once : RaisedOnce S means
  raised_once x mask k tag q r y z t u = by (raise_outcome x x mask k tag q r y z (same_core x) t u)
    where
      by : Outcome x x k q r y z → (q ≡ r) × (y.board ≡ z.board) × (y.state ≡ z.state) × (permits means x k ≡ false → y.monitor ≡ z.monitor)
      by (refused f e e' i j) =
          let same = i ∙ sym j in
          (e ∙ sym e', ap (λ (c : Core S). c.board) same, ap (λ (c : Core S). c.state) same, λ _. ap (λ (c : Core S). c.monitor) same)
      by (waits e e' bs ss g i j) = (e ∙ sym e', bs, ss, λ _. i ∙ sym j)
      by (granted g e e' bs ss o p) = (e ∙ sym e', bs, ss, λ no-permit. let z : true ≡ false = sym p ∙ no-permit in absurd (grind arith))

  -- Strobing: two strobes so far.
  pub record SameStrobe (v w : ℕ × ℕ) (y z : Core S) : Type 0 where
    pub words : v ≡ w
    pub alike : Alike y z
    pub unpermitted : v.1 ≡ 0 → y.monitor ≡ z.monitor

  same_offer : (set : Bool) (mask tag k : ℕ) (v w v' w' : ℕ × ℕ) (y z y' z' : Core S) → SameStrobe v w y z
      → Offered means set mask tag k y v v' y' → Offered means set mask tag k z w w' z' → SameStrobe v' w' y' z'
  same_offer false mask tag k v w v' w' y z y' z' s o p =
      let ys = o.1 in
      let zs = p.1 in
      subst (λ c. SameStrobe v' w' c z') (sym ys) (subst (λ c. SameStrobe v' w' y c) (sym zs)
      (subst (λ x. SameStrobe x w' y z) (sym o.0) (subst (λ x. SameStrobe v x y z) (sym p.0) s)))
  same_offer true mask tag k v w v' w' y z y' z' s o p = by (raise_outcome y z mask k tag o.0 p.0 y' z' s.alike o.1 p.1)
    where
      noted_as : (a : Result Answer Refusal) → o.0 ≡ a → p.0 ≡ a → v' ≡ w'
      noted_as a e f =
          o.2 ∙ (ap (λ x. noted means k x v) e ∙ (ap (noted means k a) s.words ∙ sym (p.2 ∙ ap (λ x. noted means k x w) f)))

      by : Outcome y z k o.0 p.0 y' z' → SameStrobe v' w' y' z'
      by (refused f e e' i j) =
          let kept : v' ≡ v = o.2 ∙ ap (λ x. noted means k x v) e in
          record {
            words = noted_as (Err f) e e';
            alike = subst (λ c. Alike c z') (sym i) (subst (Alike y) (sym j) s.alike);
            unpermitted =
                λ none. ap (λ (c : Core S). c.monitor) i ∙ (s.unpermitted (ap (λ (x : ℕ × ℕ). x.1) (sym kept) ∙ none) ∙ sym (ap (λ (c : Core S). c.monitor) j));
          }
      by (waits e e' bs ss g i j) =
          let kept : v' ≡ (v.0 + 2 ^ k, v.1) = o.2 ∙ ap (λ x. noted means k x v) e in
          record {
            words = noted_as (Ok says_queued) e e';
            alike = record { boards = bs; states = ss; monitors = λ none. i ∙ (s.alike.monitors (sym g ∙ none) ∙ sym j) };
            unpermitted = λ none. i ∙ (s.unpermitted (ap (λ (x : ℕ × ℕ). x.1) (sym kept) ∙ none) ∙ sym j);
          }
      by (granted g e e' bs ss o' q) =
          let kept : v' ≡ (v.0 + 2 ^ k, v.1 + 2 ^ k) = o.2 ∙ ap (λ x. noted means k x v) e in
          record {
            words = noted_as (Ok says_permitted) e e';
            alike = record { boards = bs; states = ss; monitors = λ none. let z : ◌≡◌ {A = ℕ} 0 1 = cc (o', none) in absurd (omega arith) };
            unpermitted = λ none. let weight = ap (λ (x : ℕ × ℕ). x.1) (sym kept) ∙ none in absurd (omega (arith, pow_pos k));
          }

  strobed_below : (n mask word tag : ℕ) (x : Core S) (v w : ℕ × ℕ) (y z : Core S)
      → StrobedBelow means n mask word tag x v y → StrobedBelow means n mask word tag x w z → SameStrobe v w y z
  unfolding StrobedBelow
  strobed_below zero mask word tag x v w y z s t =
      let same = s.1 ∙ sym t.1 in
      record {
        words = s.0 ∙ sym t.0;
        alike = subst (Alike y) same (same_core y);
        unpermitted = λ _. ap (λ (c : Core S). c.monitor) same;
      }
  strobed_below (suc k) mask word tag x v w y z s t =
      same_offer (is_set word k) mask tag k s.1 t.1 v w s.0 t.0 y z (strobed_below k mask word tag x s.1 t.1 s.0 t.0 s.2 t.2) s.3 t.3

  strobed_once : StrobedOnce S means
  strobed_once x mask word tag v w y z s t =
      let same = strobed_below 16 mask word tag x v w y z s t in
      (same.words, same.alike.boards, same.alike.states, same.unpermitted)

  pub calls_once : CallsOnce S means
  calls_once = record { raised = raised_once; strobed = strobed_once; advanced = advanced_once }
