-- Loss: what grants of foreign lines take from a partition in a window.
use Rattle.std.proofs.Common.{◌≡◌, ℕ, zero, suc, ◌+◌, ◌*◌, ◌<◌, ◌≤◌, max, Bool, true, false, cond, eqb, List, ◌∷◌, length, Some, None, Option, refl, ap, ◌∙◌, ⊎_elim, mul-le-mul_left, zero-add, arith}
use Rattle.std.proofs.lemmas.Bool.{cases_lt}
use Rattle.std.proofs.lemmas.Bool.Decides.{nat_tests}
use Rattle.model.specs.Counting.{sum_to}
use Rattle.model.specs.Board.{Layout, foreign, full_cost}
use Rattle.model.specs.Tick.{State, Grant, grant, fresh, Ticked, closing}
use Rattle.model.specs.Core.{raised_state, fresh_grant}
use Rattle.model.specs.Seen.{History, Accepted, unseen, accepted, tape_tick, more, count, of_line, permit_of}
use Rattle.model.specs.Laws.{longest, longest_below, takes_from}
use Rattle.model.proofs.Steps.{Rule, top, lead, work, trail, bottom, idle, note_event, note_tick}
use Rattle.model.proofs.Kept.{rest_of}
use Rattle.model.proofs.Counts.{count_more, sum_le, sum_bump}

longest_below_lem : (b : Layout) (p n k : ℕ) → k < n → foreign b p k ≡ true → full_cost b k ≤ longest_below n b p
unfolding longest_below
longest_below_lem b p zero k l f = absurd (omega arith)
longest_below_lem b p (suc n) k l f = by (eqb k n) refl (λ less. longest_below_lem b p n k less f)
  where
    by : (t : Bool) → eqb k n ≡ t → (k < n → full_cost b k ≤ longest_below n b p) → full_cost b k ≤ max (longest_below n b p) (cond (foreign b p n) (full_cost b n) 0)
    by true is rec =
        let same : k ≡ n = grind (arith, nat_tests) in
        let cost = ap (λ x. cond (foreign b p x) (full_cost b x) 0) same in
        let mine = ap (λ t. cond t (full_cost b k) 0) f in
        omega arith
    by false is rec = let less : k < n = grind (arith, nat_tests) in omega (arith, rec less)

module _ (b : Layout) (p u w : ℕ) where
  -- the ticks left of an open grant, if its line is foreign to p
  abbrev pub foreign_rest : Option Grant → ℕ
  foreign_rest None = 0
  foreign_rest (Some g) = cond (foreign b p g.line) (rest_of g) 0

  closing_rest : (g : Grant) → foreign_rest (closing g) ≡ cond (foreign b p g.line) (rest_of g) 0
  closing_rest g = by (eqb (rest_of g) 0) refl
    where
      by : (t : Bool) → eqb (rest_of g) 0 ≡ t → foreign_rest (cond t None (Some g)) ≡ cond (foreign b p g.line) (rest_of g) 0
      by true is = grind (arith, nat_tests)
      by false is = refl

  -- the full costs of the permits in the window
  abbrev pub granted_cost : List Accepted → ℕ
  granted_cost es = sum_to (length b.lines) (λ k. cond (foreign b p k) (full_cost b k * count (permit_of k u w) es) 0)

  abbrev taken : History → ℕ
  taken h = count (takes_from b p u w) h.ticks

  pub record Losing (h : History) (s : State) : Type 0 where
    -- nothing is counted before the window
    pub before : h.clock ≤ u → taken h ≡ 0
    pub rest_few : foreign_rest s.granted ≤ longest b p
    pub inside : u ≤ h.clock → h.clock < u + w → taken h + foreign_rest s.granted ≤ granted_cost h.events + longest b p
    pub always : taken h ≤ granted_cost h.events + longest b p

  pub losing_fresh : Losing unseen fresh
  losing_fresh = record { before = λ _. refl; rest_few = omega arith; inside = λ _ _. omega arith; always = omega arith }

  cost_more : (e : Accepted) (es : List Accepted) → granted_cost es ≤ granted_cost (e ∷ es)
  cost_more e es =
      sum_le (length b.lines) _ _ (λ k _. by k (foreign b p k))
    where
      by : (k : ℕ) (t : Bool) → cond t (full_cost b k * count (permit_of k u w) es) 0 ≤ cond t (full_cost b k * count (permit_of k u w) (e ∷ es)) 0
      by k true = mul-le-mul_left (full_cost b k) (count_more (permit_of k u w) e es)
      by k false = omega arith

  cost_bump : (k tag t : ℕ) (es : List Accepted) → k < length b.lines → foreign b p k ≡ true → u ≤ t → t < u + w
      → granted_cost es + full_cost b k ≤ granted_cost (accepted k tag t true ∷ es)
  cost_bump k tag t es known f from to =
      sum_bump (length b.lines) _ _ k (full_cost b k) known (λ j. each j (foreign b p j))
      (here (foreign b p k) (of_line k u w (accepted k tag t true)) (full_cost b k) (count (permit_of k u w) es) f (grind (arith, nat_tests)))
    where
      each : (j : ℕ) (v : Bool) → cond v (full_cost b j * count (permit_of j u w) es) 0 ≤ cond v (full_cost b j * count (permit_of j u w) (accepted k tag t true ∷ es)) 0
      each j true = mul-le-mul_left (full_cost b j) (count_more (permit_of j u w) (accepted k tag t true) es)
      each j false = omega arith

      here : (v z : Bool) (c n : ℕ) → v ≡ true → z ≡ true → cond v (c * n) 0 + c ≤ cond v (c * more z n) 0
      here true true c n e i = omega arith
      here true false c n e i = absurd (grind arith)
      here false z c n e i = absurd (grind arith)

  pub losing_event : (h : History) (s : State) (k tag : ℕ) (permit : Bool) → k < length b.lines → (permit ≡ true → s.granted ≡ None)
      → Losing h s → Losing (note_event h k tag permit) (raised_state b s k tag permit)
  losing_event h s k tag false known closed l = record { before = l.before; rest_few = l.rest_few; inside = l.inside; always = l.always }
  losing_event h s k tag true known closed l = by (foreign b p k) refl
    where
      was : foreign_rest s.granted ≡ 0
      was = ap foreign_rest (closed refl)

      more_cost : granted_cost h.events ≤ granted_cost (accepted k tag h.clock true ∷ h.events)
      more_cost = cost_more (accepted k tag h.clock true) h.events

      by : (f : Bool) → foreign b p k ≡ f → Losing (note_event h k tag true) (raised_state b s k tag true)
      by true is =
          let now : foreign_rest (Some (fresh_grant b k)) ≡ rest_of (fresh_grant b k) = ap (λ t. cond t (rest_of (fresh_grant b k)) 0) is in
          let long = longest_below_lem b p (length b.lines) k known is in
          record {
            before = l.before;
            rest_few = omega arith;
            inside = λ from to. omega (arith, l.inside from to, cost_bump k tag h.clock h.events known is from to);
            always = omega (arith, l.always, more_cost);
          }
      by false is =
          let now : foreign_rest (Some (fresh_grant b k)) ≡ 0 = ap (λ t. cond t (rest_of (fresh_grant b k)) 0) is in
          record {
            before = l.before;
            rest_few = omega arith;
            inside = λ from to. omega (arith, l.inside from to, more_cost);
            always = omega (arith, l.always, more_cost);
          }

  -- a tick that counts lies in the window and takes from the open grant; any other leaves the grant no longer than it was
  step : (h : History) (s : State) (t : Ticked) (counts : Bool) → takes_from b p u w (tape_tick h.clock t.row) ≡ counts
      → foreign_rest t.next.granted ≤ foreign_rest s.granted
      → (counts ≡ true → (suc (foreign_rest t.next.granted) ≤ foreign_rest s.granted) × (u ≤ h.clock) × (h.clock < u + w))
      → Losing h s → Losing (note_tick h t) t.next
  step h s t false is less why l =
      let same = ap (λ v. more v (taken h)) is in
      record {
        before = λ early. omega (arith, l.before);
        rest_few = omega (arith, l.rest_few);
        inside =
            λ from to. ⊎_elim (λ (early : h.clock < u). omega (arith, l.before, l.rest_few)) (λ (late : u ≤ h.clock). omega (arith, l.inside))
            (cases_lt h.clock u);
        always = omega (arith, l.always);
      }
  step h s t true is less why l =
      let same = ap (λ v. more v (taken h)) is in
      let fact = why refl in
      let was = l.inside fact.1 fact.2 in
      record {
        before = λ early. absurd (omega arith);
        rest_few = omega (arith, l.rest_few);
        inside = λ from to. omega arith;
        always = omega arith;
      }

  -- a tick of an open grant of line k
  grant_step : (h : History) (s : State) (t : Ticked) (k r : ℕ) (g : Grant) → t.row.who ≡ k → g.line ≡ k → rest_of g ≡ suc r
      → s.granted ≡ Some g → foreign_rest t.next.granted ≡ cond (foreign b p k) r 0 → Losing h s → Losing (note_tick h t) t.next
  grant_step h s t k r g who line rest open_grant after l =
      let was = ap foreign_rest open_grant in
      let mine = ap (foreign b p) line in
      let whose = ap (foreign b p) who in
      step h s t (takes_from b p u w (tape_tick h.clock t.row)) refl (grind (arith, nat_tests)) (λ counts. (grind (arith, nat_tests), grind (arith, nat_tests), grind (arith, nat_tests))) l

  shorter : (k n t : ℕ) → foreign_rest (closing (grant k 0 n t)) ≡ cond (foreign b p k) (n + t) 0
  shorter k n t = let same : 0 + n + t ≡ n + t = omega arith in closing_rest (grant k 0 n t) ∙ ap (λ x. cond (foreign b p k) x 0) same

  pub losing_tick : (h : History) (s : State) {t : Ticked} → Rule b s t → Losing h s → Losing (note_tick h t) t.next
  losing_tick h s {t} (top n o) l = step h s t false refl (omega arith) (λ e. absurd (grind arith)) l
  losing_tick h s {t} (lead k r w' t' o g) l = grant_step h s t k (r + w' + t') (grant k (suc r) w' t') refl refl (omega arith) g (closing_rest (grant k r w' t')) l
  losing_tick h s {t} (work k w' t' e es o g q left) l = grant_step h s t k (w' + t') (grant k 0 (suc w') t') refl refl (omega arith) g (shorter k w' t') l
  losing_tick h s {t} (trail k t' o g) l = grant_step h s t k t' (grant k 0 0 (suc t')) refl refl (omega arith) g (shorter k 0 t' ∙ ap (λ n. cond (foreign b p k) n 0) (zero-add t')) l
  losing_tick h s {t} (bottom e es o g q left) l = step h s t false refl (omega arith) (λ e. absurd (grind arith)) l
  losing_tick h s {t} (idle o g q) l = step h s t false refl (omega arith) (λ e. absurd (grind arith)) l
