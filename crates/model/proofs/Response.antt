-- Response: while a partition has work pending, all of it is covered by the demand of the events since it was last idle.
use Rattle.std.proofs.Common.{◌≡◌, ℕ, zero, suc, ◌+◌, ◌-◌, ◌*◌, ◌<◌, ◌≤◌, min, Bool, true, false, cond, not, ◌&&◌, eqb, leb, List, [], ◌∷◌, ◌++◌, length, Some, None, Option, refl, ap, ◌∙◌, subst, ⊎_elim, arith}
use Rattle.std.proofs.lemmas.Nat.{mul-le}
use Rattle.std.proofs.lemmas.Bool.{cases_lt}
use Rattle.std.proofs.lemmas.Bool.Decides.{nat_tests}
use Rattle.model.specs.declared.run.Event.{Event}
use Rattle.model.specs.Counting.{sum_to}
use Rattle.model.specs.Board.{Layout, InRange, line_at, owner_at, serves, foreign, full_cost, grant_cost}
use Rattle.model.specs.Demand.{share, grants, demand}
use Rattle.model.specs.Tick.{State, Grant, grant, fresh, put, Ticked, worn, closing}
use Rattle.model.specs.Core.{raised_state, fresh_grant, new_event, in_foreign_slot}
use Rattle.model.specs.Seen.{History, Accepted, unseen, accepted, more, count, of_line, permit_of}
use Rattle.model.proofs.Cycle.{cycle_some}
use Rattle.model.proofs.Steps.{Rule, top, lead, work, trail, bottom, idle, note_event, note_tick}
use Rattle.model.proofs.Kept.{work_in, work_push, worn_work, rest_of, EachSound, Kept, put_same}
use Rattle.model.proofs.Fifo.{put_other}
use Rattle.model.proofs.Counts.{count_le, count_more, sum_le, sum_bump}
use Rattle.model.proofs.Away.{away, missed, away_most_lem}

share_mono : (b : Layout) (p k n g n' g' : ℕ) → n ≤ n' → g ≤ g' → share b p k n g ≤ share b p k n' g'
share_mono b p k n g n' g' h i =
    let tops = mul-le n ((line_at b k).top + b.overheads.check) n' ((line_at b k).top + b.overheads.check) h (omega arith) in
    let rest = by (foreign b p k) in
    omega arith
  where
    by : (t : Bool) → cond t (g * full_cost b k) (n * (line_at b k).handler + g * grant_cost b.overheads) ≤ cond t (g' * full_cost b k) (n' * (line_at b k).handler + g' * grant_cost b.overheads)
    by true = mul-le g (full_cost b k) g' (full_cost b k) i (omega arith)
    by false =
        omega (arith, mul-le n (line_at b k).handler n' (line_at b k).handler h (omega arith), mul-le g (grant_cost b.overheads) g' (grant_cost b.overheads) i (omega arith))

module _ (b : Layout) (p : ℕ) where
  -- what of an open grant delays p: all of a foreign line's, the switches of an own line's (its work waits in the queue)
  abbrev pub grant_part : Option Grant → ℕ
  grant_part None = 0
  grant_part (Some g) = cond (foreign b p g.line) (rest_of g) (g.lead + g.trail)

  closing_part : (g : Grant) → grant_part (closing g) ≡ cond (foreign b p g.line) (rest_of g) (g.lead + g.trail)
  closing_part g = by (eqb (rest_of g) 0) refl
    where
      by : (t : Bool) → eqb (rest_of g) 0 ≡ t → grant_part (cond t None (Some g)) ≡ cond (foreign b p g.line) (rest_of g) (g.lead + g.trail)
      by true is = grind (arith, nat_tests)
      by false is = refl

  -- the work that stands before an event of p raised now
  abbrev pub pending : State → ℕ
  pending s = s.owed + grant_part s.granted + work_in (s.queue p)

  -- A tick takes one from what is pending, or lies in a slot of another partition, or leaves nothing pending.
  data Moves (s : State) (t : State) : Type 0 where
    falls : pending s ≡ suc (pending t) → Moves s t
    elsewhere : serves b p s.instant ≡ false → pending t ≤ pending s → Moves s t
    clear : pending t ≡ 0 → Moves s t

  queue_falls : (queue : ℕ → List Event) (o : ℕ) (e : Event) (es : List Event) → queue o ≡ e ∷ es → 1 ≤ e.left → p ≡ o
      → work_in (queue p) ≡ suc (work_in (put queue o (worn (queue o)) p))
  queue_falls queue o e es is some same =
      let there = ap work_in (put_same b queue o (worn (queue o))) in
      let at-o = ap (λ n. work_in (put queue o (worn (queue o)) n)) same in
      let less = ap (λ (l : List Event). work_in (worn l)) is in
      let whole = ap work_in is in
      let mine = ap (λ n. work_in (queue n)) same in
      omega (arith, worn_work b e es some)

  switched : (s : State) (k l w t l' t' : ℕ) → s.owed ≡ 0 → s.granted ≡ Some (grant k l w t) → l + t ≡ suc (l' + t')
      → pending s ≡ suc (0 + grant_part (closing (grant k l' w t')) + work_in (s.queue p))
  switched s k l w t l' t' o g one = by (foreign b p k) refl (ap grant_part g) (closing_part (grant k l' w t'))
    where
      by : (f : Bool) → foreign b p k ≡ f → grant_part s.granted ≡ cond (foreign b p k) (l + w + t) (l + t)
          → grant_part (closing (grant k l' w t')) ≡ cond (foreign b p k) (l' + w + t') (l' + t')
          → pending s ≡ suc (0 + grant_part (closing (grant k l' w t')) + work_in (s.queue p))
      by true f was is = let x = ap (λ v. cond v (l + w + t) (l + t)) f in let y = ap (λ v. cond v (l' + w + t') (l' + t')) f in omega arith
      by false f was is = let x = ap (λ v. cond v (l + w + t) (l + t)) f in let y = ap (λ v. cond v (l' + w + t') (l' + t')) f in omega arith

  worked : (s : State) (k w t : ℕ) (e : Event) (es : List Event) → s.owed ≡ 0 → s.granted ≡ Some (grant k 0 (suc w) t)
      → s.queue (line_at b k).owner ≡ e ∷ es → 1 ≤ e.left
      → pending s ≡ suc (0 + grant_part (closing (grant k 0 w t)) + work_in (put s.queue (line_at b k).owner (worn (s.queue (line_at b k).owner)) p))
  worked s k w t e es o g q some = by (eqb (line_at b k).owner p) refl (ap grant_part g) (closing_part (grant k 0 w t))
    where
      by : (f : Bool) → eqb (line_at b k).owner p ≡ f → grant_part s.granted ≡ cond (not (eqb (line_at b k).owner p)) (0 + suc w + t) (0 + t)
          → grant_part (closing (grant k 0 w t)) ≡ cond (not (eqb (line_at b k).owner p)) (0 + w + t) (0 + t)
          → pending s ≡ suc (0 + grant_part (closing (grant k 0 w t)) + work_in (put s.queue (line_at b k).owner (worn (s.queue (line_at b k).owner)) p))
      by true f was is =
          let x = ap (λ v. cond (not v) (0 + suc w + t) (0 + t)) f in
          let y = ap (λ v. cond (not v) (0 + w + t) (0 + t)) f in
          let same : p ≡ (line_at b k).owner = grind (arith, nat_tests) in
          omega (arith, queue_falls s.queue (line_at b k).owner e es q some same)
      by false f was is =
          let x = ap (λ v. cond (not v) (0 + suc w + t) (0 + t)) f in
          let y = ap (λ v. cond (not v) (0 + w + t) (0 + t)) f in
          let apart : p ≡ (line_at b k).owner → ⊥ = grind (arith, nat_tests) in
          omega (arith, ap work_in (put_other s.queue (line_at b k).owner p (worn (s.queue (line_at b k).owner)) apart))

  in_own_slot : (s : State) (e : Event) (es : List Event) → s.owed ≡ 0 → s.granted ≡ None → s.queue (owner_at b s.instant) ≡ e ∷ es → 1 ≤ e.left
      → (mine : Bool) → eqb (owner_at b s.instant) p ≡ mine
      → Moves s (record { instant = suc s.instant; owed = 0; granted = None; queue = put s.queue (owner_at b s.instant) (worn (s.queue (owner_at b s.instant))) })
  in_own_slot s e es o g q some true is =
      let was = ap grant_part g in
      let same : p ≡ owner_at b s.instant = grind (arith, nat_tests) in
      falls (omega (arith, queue_falls s.queue (owner_at b s.instant) e es q some same))
  in_own_slot s e es o g q some false is =
      let was = ap grant_part g in
      let apart : p ≡ owner_at b s.instant → ⊥ = grind (arith, nat_tests) in
      elsewhere is (omega (arith, ap work_in (put_other s.queue (owner_at b s.instant) p (worn (s.queue (owner_at b s.instant))) apart)))

  unused : (s : State) → s.owed ≡ 0 → s.granted ≡ None → s.queue (owner_at b s.instant) ≡ [] → (mine : Bool) → eqb (owner_at b s.instant) p ≡ mine
      → Moves s (record { instant = suc s.instant; owed = 0; granted = None; queue = s.queue })
  unused s o g q true is =
      let same : p ≡ owner_at b s.instant = grind (arith, nat_tests) in
      let none = ap (λ n. work_in (s.queue n)) same ∙ ap work_in q in
      clear (omega arith)
  unused s o g q false is = elsewhere is (omega arith)

  moves : (s : State) {t : Ticked} → Rule b s t → Moves s t.next
  moves s (top n o) = falls (omega arith)
  moves s (lead k l w t o g) = falls (switched s k (suc l) w t l t o g (omega arith))
  moves s (trail k t o g) = falls (switched s k 0 0 (suc t) 0 t o g (omega arith))
  moves s (work k w t e es o g q some) = falls (worked s k w t e es o g q some)
  moves s (bottom e es o g q some) = in_own_slot s e es o g q some (eqb (owner_at b s.instant) p) refl
  moves s (idle o g q) = unused s o g q (eqb (owner_at b s.instant) p) refl

  -- each event of a queue was raised at or after an instant
  abbrev pub EachSince : ℕ → List Event → Type 0
  EachSince since [] = Unit {0}
  EachSince since (e ∷ es) = (since ≤ e.raised) × EachSince since es

  since_push : (since : ℕ) (q : List Event) (e : Event) → EachSince since q → since ≤ e.raised → EachSince since (q ++ e ∷ [])
  since_push since [] e h k = (k, tt)
  since_push since (x ∷ q) e h k = (h.0, since_push since q e h.1 k)

  since_worn : (since : ℕ) (q : List Event) → EachSince since q → EachSince since (worn q)
  since_worn since [] h = tt
  since_worn since (e ∷ es) h = by (leb e.left 1)
    where
      by : (t : Bool) → EachSince since (cond t es (record { tag = e.tag; line = e.line; raised = e.raised; left = e.left - 1 } ∷ es))
      by true = h.1
      by false = h

  since_put : (since : ℕ) (queue : ℕ → List Event) (o : ℕ) (q : List Event) → EachSince since (queue p) → (p ≡ o → EachSince since q) → EachSince since (put queue o q p)
  since_put since queue o q h k = by (eqb p o) refl
    where
      by : (t : Bool) → eqb p o ≡ t → EachSince since (cond t q (queue p))
      by true is = k (grind (arith, nat_tests))
      by false is = h

  since_none : (since : ℕ) (q : List Event) → EachSound b p q → work_in q ≡ 0 → EachSince since q
  since_none since [] each h = tt
  since_none since (e ∷ es) each h = absurd (omega (arith, each.0.some))

  since_tick : (since : ℕ) (s : State) {t : Ticked} → Rule b s t → EachSince since (s.queue p) → EachSince since (t.next.queue p)
  since_tick since s (top n o) h = h
  since_tick since s (lead k l w t o g) h = h
  since_tick since s (trail k t o g) h = h
  since_tick since s (work k w t e es o g q some) h =
      since_put since s.queue (line_at b k).owner (worn (s.queue (line_at b k).owner)) h
      (λ same. subst (λ n. EachSince since (worn (s.queue n))) same (since_worn since (s.queue p) h))
  since_tick since s (bottom e es o g q some) h =
      since_put since s.queue (owner_at b s.instant) (worn (s.queue (owner_at b s.instant))) h
      (λ same. subst (λ n. EachSince since (worn (s.queue n))) same (since_worn since (s.queue p) h))
  since_tick since s (idle o g q) h = h

module _ (b : Layout) (ranges : InRange b) (ceiling most : ℕ → ℕ → ℕ) (p x : ℕ) (some : 1 ≤ x) (meets : demand b ceiling most p x ≤ x) where
  -- the demand of the events accepted and permitted in the x instants from since
  abbrev pub cost : ℕ → List Accepted → ℕ
  cost since es = sum_to (length b.lines) (λ k. share b p k (count (of_line k since x) es) (count (permit_of k since x) es))

  -- since p was last idle, what is pending and the ticks gone by are covered by what came and by the slots of others
  pub record Busy (h : History) (s : State) : Type 0 where
    pub since : ℕ
    pub gone : ℕ
    pub so_far : since + gone ≡ h.clock
    pub short : gone < x
    pub covered : pending b p s + gone ≤ cost since h.events + away b p since gone
    pub recent : EachSince b p since (s.queue p)

  pub busy_fresh : Busy unseen fresh
  unfolding away
  busy_fresh = record { since = 0; gone = 0; so_far = refl; short = some; covered = omega arith; recent = tt }

  -- Events.

  more_share : (k j tag t since : ℕ) (permit : Bool) (es : List Accepted)
      → share b p k (count (of_line k since x) es) (count (permit_of k since x) es)
      ≤ share b p k (count (of_line k since x) (accepted j tag t permit ∷ es)) (count (permit_of k since x) (accepted j tag t permit ∷ es))
  more_share k j tag t since permit es =
      share_mono b p k _ _ _ _ (count_more (of_line k since x) (accepted j tag t permit) es) (count_more (permit_of k since x) (accepted j tag t permit) es)

  -- what one event of line k, permitted or not, adds to the demand
  abbrev added : ℕ → Bool → ℕ
  added k permit =
      (line_at b k).top + b.overheads.check
      + cond (foreign b p k) (cond permit (full_cost b k) 0) ((line_at b k).handler + cond permit (grant_cost b.overheads) 0)

  one_share : (k n g : ℕ) (permit : Bool) → share b p k n g + added k permit ≤ share b p k (suc n) (more permit g)
  one_share k n g true = by (foreign b p k)
    where
      by : (f : Bool) → n * ((line_at b k).top + b.overheads.check) + cond f (g * full_cost b k) (n * (line_at b k).handler + g * grant_cost b.overheads)
          + ((line_at b k).top + b.overheads.check + cond f (full_cost b k) ((line_at b k).handler + grant_cost b.overheads))
          ≤ suc n * ((line_at b k).top + b.overheads.check) + cond f (suc g * full_cost b k) (suc n * (line_at b k).handler + suc g * grant_cost b.overheads)
      by true = omega arith
      by false = omega arith
  one_share k n g false = by (foreign b p k)
    where
      by : (f : Bool) → n * ((line_at b k).top + b.overheads.check) + cond f (g * full_cost b k) (n * (line_at b k).handler + g * grant_cost b.overheads)
          + ((line_at b k).top + b.overheads.check + cond f 0 ((line_at b k).handler + 0))
          ≤ suc n * ((line_at b k).top + b.overheads.check) + cond f (g * full_cost b k) (suc n * (line_at b k).handler + g * grant_cost b.overheads)
      by true = omega arith
      by false = omega arith

  cost_event : (k tag t since : ℕ) (permit : Bool) (es : List Accepted) → k < length b.lines → since ≤ t → t < since + x
      → cost since es + added k permit ≤ cost since (accepted k tag t permit ∷ es)
  cost_event k tag t since permit es known from to =
      sum_bump (length b.lines) _ _ k (added k permit) known (λ j. more_share j k tag t since permit es)
      (here permit (of_line k since x (accepted k tag t permit)) (grind (arith, nat_tests)))
    where
      here : (q v : Bool) → v ≡ true
          → share b p k (count (of_line k since x) es) (count (permit_of k since x) es) + added k q
          ≤ share b p k (more v (count (of_line k since x) es)) (more (q && v) (count (permit_of k since x) es))
      here true true e = one_share k (count (of_line k since x) es) (count (permit_of k since x) es) true
      here false true e = one_share k (count (of_line k since x) es) (count (permit_of k since x) es) false
      here q false e = absurd (grind arith)

  -- what an event adds to what is pending
  pending_event : (s : State) (k tag : ℕ) (permit : Bool) → (permit ≡ true → s.granted ≡ None)
      → pending b p (raised_state b s k tag permit) ≤ pending b p s + added k permit
  pending_event s k tag permit closed = by permit (in_foreign_slot b s k) (eqb (line_at b k).owner p) refl closed
    where
      queued : (mine : Bool) → eqb (line_at b k).owner p ≡ mine
          → work_in (put s.queue (line_at b k).owner (s.queue (line_at b k).owner ++ new_event b s k tag ∷ []) p) ≡ work_in (s.queue p) + cond mine (line_at b k).handler 0
      queued true is =
          let same : p ≡ (line_at b k).owner = grind (arith, nat_tests) in
          let there = ap work_in (put_same b s.queue (line_at b k).owner (s.queue (line_at b k).owner ++ new_event b s k tag ∷ [])) in
          let at-o = ap (λ n. work_in (put s.queue (line_at b k).owner (s.queue (line_at b k).owner ++ new_event b s k tag ∷ []) n)) same in
          let mine = ap (λ n. work_in (s.queue n)) same in
          omega (arith, work_push b (s.queue (line_at b k).owner) (new_event b s k tag))
      queued false is =
          let apart : p ≡ (line_at b k).owner → ⊥ = grind (arith, nat_tests) in
          omega (arith, ap work_in (put_other s.queue (line_at b k).owner p (s.queue (line_at b k).owner ++ new_event b s k tag ∷ []) apart))

      check_few : (v : Bool) → cond v b.overheads.check 0 ≤ b.overheads.check
      check_few true = omega arith
      check_few false = omega arith

      granting : (v mine : Bool) → eqb (line_at b k).owner p ≡ mine → grant_part b p s.granted ≡ 0
          → work_in (put s.queue (line_at b k).owner (s.queue (line_at b k).owner ++ new_event b s k tag ∷ []) p) ≡ work_in (s.queue p) + cond mine (line_at b k).handler 0
          → cond v b.overheads.check 0 ≤ b.overheads.check
          → s.owed + (line_at b k).top + cond v b.overheads.check 0 + grant_part b p (Some (fresh_grant b k))
          + work_in (put s.queue (line_at b k).owner (s.queue (line_at b k).owner ++ new_event b s k tag ∷ []) p)
          ≤ pending b p s + added k true
      granting v true is none worked-up few =
          let part = ap (λ z. cond (not z) (rest_of (fresh_grant b k)) ((fresh_grant b k).lead + (fresh_grant b k).trail)) is in
          let more = ap (λ z. cond (not z) (full_cost b k) ((line_at b k).handler + grant_cost b.overheads)) is in
          omega arith
      granting v false is none worked-up few =
          let part = ap (λ z. cond (not z) (rest_of (fresh_grant b k)) ((fresh_grant b k).lead + (fresh_grant b k).trail)) is in
          let more = ap (λ z. cond (not z) (full_cost b k) ((line_at b k).handler + grant_cost b.overheads)) is in
          omega arith

      queueing : (v mine : Bool) → eqb (line_at b k).owner p ≡ mine
          → work_in (put s.queue (line_at b k).owner (s.queue (line_at b k).owner ++ new_event b s k tag ∷ []) p) ≡ work_in (s.queue p) + cond mine (line_at b k).handler 0
          → cond v b.overheads.check 0 ≤ b.overheads.check
          → s.owed + (line_at b k).top + cond v b.overheads.check 0 + grant_part b p s.granted
          + work_in (put s.queue (line_at b k).owner (s.queue (line_at b k).owner ++ new_event b s k tag ∷ []) p)
          ≤ pending b p s + added k false
      queueing v true is worked-up few = let more : cond (foreign b p k) 0 ((line_at b k).handler + 0) ≡ (line_at b k).handler + 0 = ap (λ z. cond (not z) 0 ((line_at b k).handler + 0)) is in omega arith
      queueing v false is worked-up few = let more : cond (foreign b p k) 0 ((line_at b k).handler + 0) ≡ 0 = ap (λ z. cond (not z) 0 ((line_at b k).handler + 0)) is in omega arith

      by : (q away-slot mine : Bool) → eqb (line_at b k).owner p ≡ mine → (q ≡ true → s.granted ≡ None)
          → s.owed + (line_at b k).top + cond away-slot b.overheads.check 0 + grant_part b p (cond q (Some (fresh_grant b k)) s.granted)
          + work_in (put s.queue (line_at b k).owner (s.queue (line_at b k).owner ++ new_event b s k tag ∷ []) p)
          ≤ pending b p s + added k q
      by true v mine is none = granting v mine is (ap (grant_part b p) (none refl)) (queued mine is) (check_few v)
      by false v mine is none = queueing v mine is (queued mine is) (check_few v)

  pub busy_event : (h : History) (s : State) (k tag : ℕ) (permit : Bool) → k < length b.lines → (permit ≡ true → s.granted ≡ None) → h.clock ≡ s.instant
      → Busy h s → Busy (note_event h k tag permit) (raised_state b s k tag permit)
  busy_event h s k tag permit known closed time busy =
      record {
        since = busy.since;
        gone = busy.gone;
        so_far = busy.so_far;
        short = busy.short;
        covered = omega (arith, busy.covered, grown, arrived);
        recent =
            since_put b p busy.since s.queue (line_at b k).owner (s.queue (line_at b k).owner ++ new_event b s k tag ∷ []) busy.recent
            (λ same. since_push b p busy.since (s.queue (line_at b k).owner) (new_event b s k tag)
            (subst (λ n. EachSince b p busy.since (s.queue n)) same busy.recent) (omega (arith, busy.so_far)));
      }
    where
      grown : pending b p (raised_state b s k tag permit) ≤ pending b p s + added k permit
      grown = pending_event s k tag permit closed

      arrived : cost busy.since h.events + added k permit ≤ cost busy.since (accepted k tag h.clock permit ∷ h.events)
      arrived = cost_event k tag h.clock busy.since permit h.events known (omega (arith, busy.so_far)) (omega (arith, busy.so_far, busy.short))

  -- Ticks.

  -- the events since then are within the curve and the ceilings
  within_demand : (since : ℕ) (es : List Accepted) → ((k : ℕ) → count (of_line k since x) es ≤ most k x) → ((k : ℕ) → count (permit_of k since x) es ≤ ceiling k x)
      → cost since es + away b p since x ≤ x
  within_demand since es kept permitted =
      let away_few = away_most_lem b p since x (cycle_some b ranges) in
      let shares =
      sum_le (length b.lines) (λ k. share b p k (count (of_line k since x) es) (count (permit_of k since x) es))
      (λ k. share b p k (most k x) (grants b ceiling most k x))
      (λ k _. share_mono b p k (count (of_line k since x) es) (count (permit_of k since x) es) (most k x) (grants b ceiling most k x) (kept k) (granted k)) in
      omega arith
    where
      granted : (k : ℕ) → count (permit_of k since x) es ≤ min (most k x) (ceiling k x)
      granted k =
          let all = count_le (permit_of k since x) (of_line k since x) (λ e is. grind (arith, nat_tests)) es in
          omega (arith, kept k, permitted k)

  pub busy_tick : (h : History) (s : State) {t : Ticked} → Rule b s t → Kept b t.next → h.clock ≡ s.instant
      → ((k since : ℕ) → count (of_line k since x) h.events ≤ most k x) → ((k since : ℕ) → count (permit_of k since x) h.events ≤ ceiling k x)
      → Busy h s → Busy (note_tick h t) t.next
  unfolding away
  busy_tick h s {t} rule keeps time kept permitted busy = by (pending b p t.next) refl (moves b p s rule)
    where
      idle_now : pending b p t.next ≡ 0 → Busy (note_tick h t) t.next
      idle_now none =
          record {
            since = suc h.clock;
            gone = 0;
            so_far = omega arith;
            short = some;
            covered = omega arith;
            recent = since_none b p (suc h.clock) (t.next.queue p) (keeps.sound p) (omega arith);
          }

      on : pending b p t.next + suc busy.gone ≤ cost busy.since h.events + away b p busy.since (suc busy.gone)
          → 1 ≤ pending b p t.next → Busy (note_tick h t) t.next
      on covers left_over =
          record {
            since = busy.since;
            gone = suc busy.gone;
            so_far = omega (arith, busy.so_far);
            short = ⊎_elim (λ (less : suc busy.gone < x). less) (λ (full : x ≤ suc busy.gone). absurd (never full)) (cases_lt (suc busy.gone) x);
            covered = covers;
            recent = since_tick b p busy.since s rule busy.recent;
          }
        where
          never : x ≤ suc busy.gone → ⊥
          never full =
              let all : suc busy.gone ≡ x = omega (arith, busy.short) in
              let same = ap (away b p busy.since) all in
              omega (arith, within_demand busy.since h.events (λ k. kept k busy.since) (λ k. permitted k busy.since))

      by : (n : ℕ) → pending b p t.next ≡ n → Moves b p s t.next → Busy (note_tick h t) t.next
      by zero is move = idle_now is
      by (suc n) is (falls less) = on (omega (arith, busy.covered)) (omega arith)
      by (suc n) is (elsewhere apart less) =
          let there : busy.since + busy.gone ≡ s.instant = busy.so_far ∙ time in
          let lost = ap (λ i. missed (serves b p i)) there ∙ ap missed apart in
          on (omega (arith, busy.covered)) (omega arith)
      by (suc n) is (clear none) = absurd (omega arith)
