-- Promptness: an event whose grant opened with its queue empty goes through the grant's steps to its end, whatever comes behind it.
use Rattle.std.proofs.Common.{◌≡◌, ℕ, zero, suc, ◌+◌, ◌-◌, ◌<◌, ◌≤◌, Bool, true, false, cond, eqb, leb, ◌⊎◌, List, [], ◌∷◌, ◌++◌, length, Some, None, Option, sym, refl, ap, ◌∙◌, subst, inl, inr, arith, length-append}
use Rattle.std.proofs.lemmas.Bool.Decides.{nat_tests}
use Rattle.model.specs.declared.run.Event.{Event}
use Rattle.model.specs.declared.run.Finished.{Finished}
use Rattle.model.specs.declared.run.Kind.TheVariants.{Top, Switch, Interposed}
use Rattle.model.specs.Board.{Layout, line_at, full_cost}
use Rattle.model.specs.Tick.{State, Grant, grant, put, Ticked, plain, serving, worn, ends_at, closing}
use Rattle.model.specs.Core.{raised_state, new_event}
use Rattle.model.specs.Seen.{History, Mark, mark, more, count, tape_tick, is_top, done_onto, finished_for, last_if}
use Rattle.model.specs.Laws.{other_tick_since}
use Rattle.model.proofs.Steps.{Rule, top, lead, work, trail, bottom, idle, note_event, note_tick}
use Rattle.model.proofs.Kept.{EachSound, Kept, put_same}
use Rattle.model.proofs.Fifo.{put_other}

module _ (b : Layout) (o : ℕ) where
  finished_if : (t : Bool) (m : Mark) (ms : List Mark) → length ms ≤ length (last_if t m ms)
  finished_if true m ms = omega (arith, length-append ms (m ∷ []))
  finished_if false m ms = omega (arith, length-append ms (cond false (m ∷ []) []))

  -- what is finished stays so
  pub finished_more : (fs ds : List Finished) → length (finished_for b o ds) ≤ length (finished_for b o (done_onto fs ds))
  finished_more [] ds = omega arith
  finished_more (f ∷ fs) ds =
      let one = finished_if (eqb (line_at b f.line).owner o) (mark f.tag f.line f.raised) (finished_for b o ds) in
      omega (arith, finished_more fs (f ∷ ds))

  -- the last tick of a queue's head finishes it
  last_tick : (at : ℕ) (ds : List Finished) (q : List Event) (e : Event) (es : List Event) → q ≡ e ∷ es → e.left ≤ 1 → EachSound b o q
      → suc (length (finished_for b o ds)) ≤ length (finished_for b o (done_onto (ends_at at q) ds))
  last_tick at ds q e es is last each =
      let home : (line_at b e.line).owner ≡ o = (subst (EachSound b o) is each).0.home in
      let ends : leb e.left 1 ≡ true = grind (arith, nat_tests) in
      let owned : eqb (line_at b e.line).owner o ≡ true = grind (arith, nat_tests) in
      let m = mark e.tag e.line e.raised in
      let whole =
      ap (λ (l : List Event). length (finished_for b o (done_onto (ends_at at l) ds))) is
      ∙ (ap (λ v. length (finished_for b o (done_onto (cond v (record { tag = e.tag; line = e.line; raised = e.raised; at = at } ∷ []) []) ds))) ends
      ∙ (ap (λ v. length (last_if v m (finished_for b o ds))) owned ∙ length-append (finished_for b o ds) (m ∷ []))) in
      omega arith

  -- any other leaves it at the head, with one tick less
  not_last : (q : List Event) (e : Event) (es : List Event) → q ≡ e ∷ es → 2 ≤ e.left
      → worn q ≡ record { tag = e.tag; line = e.line; raised = e.raised; left = e.left - 1 } ∷ es
  not_last q e es is more_left =
      let stays : leb e.left 1 ≡ false = grind (arith, nat_tests) in
      ap worn is ∙ ap (λ v. cond v es (record { tag = e.tag; line = e.line; raised = e.raised; left = e.left - 1 } ∷ es)) stays

-- Line k of partition o; raised at r, with n events of its partition finished by then.
module _ (b : Layout) (k r n : ℕ) where
  -- on its way: the lead switch runs, or the work; the event heads its queue with all the work that the grant has left
  pub record OnTheWay (h : History) (s : State) : Type 0 where
    pub l : ℕ
    pub w : ℕ
    pub head : Event
    pub rest : List Event
    pub open_grant : s.granted ≡ Some (grant k l w b.overheads.switch)
    pub some : 1 ≤ w
    pub queued : s.queue (line_at b k).owner ≡ head ∷ rest
    pub work_left : head.left ≡ w
    pub ticks_left : count (other_tick_since r) h.ticks + l + w ≡ b.overheads.reschedule + b.overheads.switch + (line_at b k).handler
    pub started : r ≤ h.clock
    pub finished_so_far : n ≤ length (finished_for b (line_at b k).owner h.done)

  abbrev pub Prompted : History → State → Type 0
  Prompted h s = OnTheWay h s ⊎ (n < length (finished_for b (line_at b k).owner h.done))

  -- Events behind it change nothing: no permit is given while the grant is open.
  pub way_event : (h : History) (s : State) (j tag : ℕ) (permit : Bool) → (permit ≡ true → s.granted ≡ None) → Prompted h s
      → Prompted (note_event h j tag permit) (raised_state b s j tag permit)
  way_event h s j tag permit closed (inr done) = inr done
  way_event h s j tag true closed (inl way) = let z : ◌≡◌ {A = ℕ} 0 1 = cc (closed refl, way.open_grant) in absurd (omega arith)
  way_event h s j tag false closed (inl way) = inl (by (eqb (line_at b k).owner (line_at b j).owner) refl)
    where
      by : (t : Bool) → eqb (line_at b k).owner (line_at b j).owner ≡ t → OnTheWay (note_event h j tag false) (raised_state b s j tag false)
      by true is =
          let same : (line_at b k).owner ≡ (line_at b j).owner = grind (arith, nat_tests) in
          record {
            l = way.l;
            w = way.w;
            head = way.head;
            rest = way.rest ++ new_event b s j tag ∷ [];
            open_grant = way.open_grant;
            some = way.some;
            queued =
                ap (put s.queue (line_at b j).owner (s.queue (line_at b j).owner ++ new_event b s j tag ∷ [])) same
                ∙ (put_same b s.queue (line_at b j).owner (s.queue (line_at b j).owner ++ new_event b s j tag ∷ [])
                ∙ ap (λ q. q ++ new_event b s j tag ∷ []) (ap s.queue (sym same) ∙ way.queued));
            work_left = way.work_left;
            ticks_left = way.ticks_left;
            started = way.started;
            finished_so_far = way.finished_so_far;
          }
      by false is =
          let apart : (line_at b k).owner ≡ (line_at b j).owner → ⊥ = grind (arith, nat_tests) in
          record {
            l = way.l;
            w = way.w;
            head = way.head;
            rest = way.rest;
            open_grant = way.open_grant;
            some = way.some;
            queued = put_other s.queue (line_at b j).owner (line_at b k).owner (s.queue (line_at b j).owner ++ new_event b s j tag ∷ []) apart ∙ way.queued;
            work_left = way.work_left;
            ticks_left = way.ticks_left;
            started = way.started;
            finished_so_far = way.finished_so_far;
          }

  -- Ticks.

  counted : (h : History) (t : Ticked) → r ≤ h.clock → is_top t.row.kind ≡ false → other_tick_since r (tape_tick h.clock t.row) ≡ true
  counted h t l is = grind (arith, nat_tests)

  -- a grant with ticks left stays open
  stays : (j l w t : ℕ) → 1 ≤ w → closing (grant j l w t) ≡ Some (grant j l w t)
  stays j l w t some = let some_left : eqb (l + w + t) 0 ≡ false = grind (arith, nat_tests) in ap (λ z. cond z None (Some (grant j l w t))) some_left

  same_grant : (x : Option Grant) (g g' : Grant) → x ≡ Some g → x ≡ Some g' → g ≡ g'
  same_grant x g g' e e' = cc

  lead_tick : (h : History) (s : State) (j l w t : ℕ) → s.granted ≡ Some (grant j (suc l) w t) → OnTheWay h s
      → OnTheWay (note_tick h (plain b s Switch j 0 (closing (grant j l w t)))) (plain b s Switch j 0 (closing (grant j l w t))).next
  lead_tick h s j l w t g way =
      let same = same_grant s.granted (grant j (suc l) w t) (grant k way.l way.w b.overheads.switch) g way.open_grant in
      let line : j ≡ k = ap (λ (x : Grant). x.line) same in
      let leads : suc l ≡ way.l = ap (λ (x : Grant). x.lead) same in
      let works : w ≡ way.w = ap (λ (x : Grant). x.work) same in
      let trails : t ≡ b.overheads.switch = ap (λ (x : Grant). x.trail) same in
      let one = ap (λ v. more v (count (other_tick_since r) h.ticks)) (counted h (plain b s Switch j 0 (closing (grant j l w t))) way.started refl) in
      record {
        l = l;
        w = w;
        head = way.head;
        rest = way.rest;
        open_grant = stays j l w t (omega (arith, way.some)) ∙ (ap (λ x. Some (grant x l w t)) line ∙ ap (λ x. Some (grant k l w x)) trails);
        some = omega (arith, way.some);
        queued = way.queued;
        work_left = way.work_left ∙ sym works;
        ticks_left = omega (arith, way.ticks_left);
        started = omega (arith, way.started);
        finished_so_far = way.finished_so_far;
      }

  -- the tick of work: the event's last, or one more still to come
  work_step : (h : History) (s : State) (w t : ℕ) → s.granted ≡ Some (grant k 0 (suc w) t) → Kept b s → OnTheWay h s
      → Prompted (note_tick h (serving b s Interposed k (line_at b k).owner (closing (grant k 0 w t)))) (serving b s Interposed k (line_at b k).owner (closing (grant k 0 w t))).next
  work_step h s w t g keeps way = by w refl
    where
      same : grant k 0 (suc w) t ≡ grant k way.l way.w b.overheads.switch
      same = same_grant s.granted (grant k 0 (suc w) t) (grant k way.l way.w b.overheads.switch) g way.open_grant

      leads : 0 ≡ way.l
      leads = ap (λ (x : Grant). x.lead) same

      works : suc w ≡ way.w
      works = ap (λ (x : Grant). x.work) same

      trails : t ≡ b.overheads.switch
      trails = ap (λ (x : Grant). x.trail) same

      one : more (other_tick_since r (tape_tick h.clock (serving b s Interposed k (line_at b k).owner (closing (grant k 0 w t))).row)) (count (other_tick_since r) h.ticks)
          ≡ suc (count (other_tick_since r) h.ticks)
      one =
          ap (λ v. more v (count (other_tick_since r) h.ticks))
          (counted h (serving b s Interposed k (line_at b k).owner (closing (grant k 0 w t))) way.started refl)

      by : (x : ℕ) → w ≡ x
          → Prompted (note_tick h (serving b s Interposed k (line_at b k).owner (closing (grant k 0 w t)))) (serving b s Interposed k (line_at b k).owner (closing (grant k 0 w t))).next
      by zero is =
          inr (omega (
            arith,
            way.finished_so_far,
            last_tick b (line_at b k).owner (suc s.instant) h.done (s.queue (line_at b k).owner) way.head way.rest way.queued
                (omega (arith, way.work_left, works)) (keeps.sound (line_at b k).owner),
          ))
      by (suc x) is =
          inl (record {
            l = 0;
            w = w;
            head = record { tag = way.head.tag; line = way.head.line; raised = way.head.raised; left = way.head.left - 1 };
            rest = way.rest;
            open_grant = stays k 0 w t (omega arith) ∙ ap (λ z. Some (grant k 0 w z)) trails;
            some = omega arith;
            queued =
                put_same b s.queue (line_at b k).owner (worn (s.queue (line_at b k).owner))
                ∙ not_last b (line_at b k).owner (s.queue (line_at b k).owner) way.head way.rest way.queued (omega (arith, way.work_left, works));
            work_left = omega (arith, way.work_left, works);
            ticks_left = omega (arith, way.ticks_left, works, leads, one);
            started = omega (arith, way.started);
            finished_so_far =
                omega (arith, way.finished_so_far, finished_more b (line_at b k).owner (ends_at (suc s.instant) (s.queue (line_at b k).owner)) h.done);
          })

  top_tick : (h : History) (s : State) (m : ℕ) → OnTheWay h s → OnTheWay (note_tick h (plain b s Top 255 m s.granted)) (plain b s Top 255 m s.granted).next
  top_tick h s m way =
      record {
        l = way.l;
        w = way.w;
        head = way.head;
        rest = way.rest;
        open_grant = way.open_grant;
        some = way.some;
        queued = way.queued;
        work_left = way.work_left;
        ticks_left = way.ticks_left;
        started = omega (arith, way.started);
        finished_so_far = way.finished_so_far;
      }

  no_grant : (h : History) (s : State) → s.granted ≡ None → OnTheWay h s → ⊥
  no_grant h s none way = let z : ◌≡◌ {A = ℕ} 0 1 = cc (none, way.open_grant) in omega arith

  on_the_way : (h : History) (s : State) {t : Ticked} → Rule b s t → Kept b s → OnTheWay h s → Prompted (note_tick h t) t.next
  on_the_way h s (top m o) keeps way = inl (top_tick h s m way)
  on_the_way h s (lead j l w t o g) keeps way = inl (lead_tick h s j l w t g way)
  on_the_way h s (work j w t e es o g q some) keeps way =
      let line : k ≡ j = sym (ap (λ (x : Grant). x.line) (same_grant s.granted (grant j 0 (suc w) t) (grant k way.l way.w b.overheads.switch) g way.open_grant)) in
      let mine : s.granted ≡ Some (grant k 0 (suc w) t) = g ∙ ap (λ x. Some (grant x 0 (suc w) t)) (sym line) in
      subst (λ x. Prompted (note_tick h (serving b s Interposed x (line_at b x).owner (closing (grant x 0 w t)))) (serving b s Interposed x (line_at b x).owner (closing (grant x 0 w t))).next)
      line (work_step h s w t mine keeps way)
  on_the_way h s (trail j t o g) keeps way =
      let works : 0 ≡ way.w = ap (λ (x : Grant). x.work) (same_grant s.granted (grant j 0 0 (suc t)) (grant k way.l way.w b.overheads.switch) g way.open_grant) in
      absurd (omega (arith, way.some))
  on_the_way h s (bottom e es o g q some) keeps way = absurd (no_grant h s g way)
  on_the_way h s (idle o g q) keeps way = absurd (no_grant h s g way)

  pub way_tick : (h : History) (s : State) {t : Ticked} → Rule b s t → Kept b s → Prompted h s → Prompted (note_tick h t) t.next
  way_tick h s rule keeps (inl way) = on_the_way h s rule keeps way
  way_tick h s {t} rule keeps (inr done) = inr (omega (arith, finished_more b (line_at b k).owner t.ended h.done))

  -- once the full cost has run in other ticks, the event is finished
  pub prompt_end : (h : History) (s : State) → full_cost b k ≤ count (other_tick_since r) h.ticks → Prompted h s → n < length (finished_for b (line_at b k).owner h.done)
  prompt_end h s enough (inl way) = absurd (omega (arith, way.ticks_left, way.some))
  prompt_end h s enough (inr done) = done
