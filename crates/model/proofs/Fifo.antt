-- What was accepted for a partition is what was finished and then what waits, in order; and the clock seen is the core's.
use Rattle.std.proofs.Common.{◌≡◌, ℕ, suc, ◌-◌, Bool, true, false, cond, eqb, leb, List, [], ◌∷◌, ◌++◌, sym, refl, ap, ◌∙◌, subst, append_assoc, arith}
use Rattle.std.proofs.lemmas.List.{append-nil}
use Rattle.std.proofs.lemmas.Bool.Decides.{nat_tests}
use Rattle.model.specs.declared.run.Event.{Event}
use Rattle.model.specs.declared.run.Finished.{Finished}
use Rattle.model.specs.Board.{Layout, line_at, owner_at}
use Rattle.model.specs.Tick.{State, fresh, put, Ticked, worn, ends_at}
use Rattle.model.specs.Core.{raised_state, new_event}
use Rattle.model.specs.Seen.{History, Mark, mark, unseen, accepted_for, finished_for, done_onto, last_if}
use Rattle.model.proofs.Steps.{Rule, top, lead, work, trail, bottom, idle, note_event, note_tick}
use Rattle.model.proofs.Kept.{EachSound, Kept, put_same}

-- the events of a queue, by their marks
abbrev pub waiting : List Event → List Mark
waiting [] = []
waiting (e ∷ es) = mark e.tag e.line e.raised ∷ waiting es

waiting_push : (q : List Event) (e : Event) → waiting (q ++ e ∷ []) ≡ waiting q ++ mark e.tag e.line e.raised ∷ []
waiting_push [] e = refl
waiting_push (x ∷ q) e = ap (λ l. mark x.tag x.line x.raised ∷ l) (waiting_push q e)

pub put_other : (queue : ℕ → List Event) (o p : ℕ) (q : List Event) → (p ≡ o → ⊥) → put queue o q p ≡ queue p
put_other queue o p q ne = grind (arith, nat_tests)

module _ (b : Layout) where
  pub record Fifo (h : History) (s : State) : Type 0 where
    pub on_time : h.clock ≡ s.instant
    pub in_order : (p : ℕ) → accepted_for b p h.events ≡ finished_for b p h.done ++ waiting (s.queue p)

  pub fifo_fresh : Fifo unseen fresh
  fifo_fresh = record { on_time = refl; in_order = λ p. refl }

  pub fifo_event : (h : History) (s : State) (k tag : ℕ) (permit : Bool) → Fifo h s → Fifo (note_event h k tag permit) (raised_state b s k tag permit)
  fifo_event h s k tag permit f = record { on_time = f.on_time; in_order = λ p. by p (eqb (line_at b k).owner p) refl }
    where
      here : (p : ℕ)
          → accepted_for b p h.events ++ mark tag k h.clock ∷ []
          ≡ finished_for b p h.done ++ waiting (put s.queue p (s.queue p ++ new_event b s k tag ∷ []) p)
      here p =
          ap (λ l. l ++ mark tag k h.clock ∷ []) (f.in_order p)
          ∙ (append_assoc (finished_for b p h.done) (waiting (s.queue p)) (mark tag k h.clock ∷ [])
          ∙ (ap (λ t. finished_for b p h.done ++ (waiting (s.queue p) ++ mark tag k t ∷ [])) f.on_time
          ∙ ap (λ l. finished_for b p h.done ++ l)
          (sym (waiting_push (s.queue p) (new_event b s k tag)) ∙ ap waiting (sym (put_same b s.queue p (s.queue p ++ new_event b s k tag ∷ []))))))

      by : (p : ℕ) (t : Bool) → eqb (line_at b k).owner p ≡ t
          → accepted_for b p h.events ++ cond t (mark tag k h.clock ∷ []) []
          ≡ finished_for b p h.done ++ waiting (put s.queue (line_at b k).owner (s.queue (line_at b k).owner ++ new_event b s k tag ∷ []) p)
      by p true is =
          let same : p ≡ (line_at b k).owner = grind (arith, nat_tests) in
          subst (λ n. accepted_for b p h.events ++ mark tag k h.clock ∷ []
          ≡ finished_for b p h.done ++ waiting (put s.queue n (s.queue n ++ new_event b s k tag ∷ []) p)) same (here p)
      by p false is =
          let apart : p ≡ (line_at b k).owner → ⊥ = grind (arith, nat_tests) in
          append-nil (accepted_for b p h.events)
          ∙ (f.in_order p
          ∙ ap (λ l. finished_for b p h.done ++ waiting l)
          (sym (put_other s.queue (line_at b k).owner p (s.queue (line_at b k).owner ++ new_event b s k tag ∷ []) apart)))

  -- a tick of the head of queue o moves at most that event, from what waits to what is finished
  served : (done : List Finished) (queue : ℕ → List Event) (o at p : ℕ) (q : List Event) → queue o ≡ q → EachSound b o q
      → finished_for b p (done_onto (ends_at at q) done) ++ waiting (put queue o (worn q) p) ≡ finished_for b p done ++ waiting (queue p)
  served done queue o at p [] is each = ap (λ l. finished_for b p done ++ waiting l) (same (eqb p o) refl)
    where
      same : (t : Bool) → eqb p o ≡ t → cond t [] (queue p) ≡ queue p
      same true e = let eq : p ≡ o = grind (arith, nat_tests) in sym (ap queue eq ∙ is)
      same false e = refl
  served done queue o at p (e ∷ es) is each = by (leb e.left 1) (eqb p o) refl
    where
      home : (line_at b e.line).owner ≡ o
      home = each.0.home

      all : eqb p o ≡ true → queue p ≡ e ∷ es
      all u = let eq : p ≡ o = grind (arith, nat_tests) in ap queue eq ∙ is

      by : (t u : Bool) → eqb p o ≡ u
          → finished_for b p (done_onto (cond t (record { tag = e.tag; line = e.line; raised = e.raised; at = at } ∷ []) []) done)
          ++ waiting (cond u (cond t es (record { tag = e.tag; line = e.line; raised = e.raised; left = e.left - 1 } ∷ es)) (queue p))
          ≡ finished_for b p done ++ waiting (queue p)
      by true true u =
          let owned : eqb (line_at b e.line).owner p ≡ true = grind (arith, nat_tests) in
          ap (λ v. last_if v (mark e.tag e.line e.raised) (finished_for b p done) ++ waiting es) owned
          ∙ (append_assoc (finished_for b p done) (mark e.tag e.line e.raised ∷ []) (waiting es) ∙ ap (λ l. finished_for b p done ++ waiting l) (sym (all u)))
      by true false u =
          let owned : eqb (line_at b e.line).owner p ≡ false = grind (arith, nat_tests) in
          ap (λ v. last_if v (mark e.tag e.line e.raised) (finished_for b p done) ++ waiting (queue p)) owned
          ∙ ap (λ l. l ++ waiting (queue p)) (append-nil (finished_for b p done))
      by false true u = ap (λ l. finished_for b p done ++ waiting l) (sym (all u))
      by false false u = refl

  -- a served queue keeps the order
  fifo_served : (h : History) (s : State) (o : ℕ) → Kept b s → Fifo h s → (p : ℕ)
      → accepted_for b p h.events
      ≡ finished_for b p (done_onto (ends_at (suc s.instant) (s.queue o)) h.done) ++ waiting (put s.queue o (worn (s.queue o)) p)
  fifo_served h s o k f p = f.in_order p ∙ sym (served h.done s.queue o (suc s.instant) p (s.queue o) refl (k.sound o))

  pub fifo_tick : (h : History) (s : State) {t : Ticked} → Rule b s t → Kept b s → Fifo h s → Fifo (note_tick h t) t.next
  fifo_tick h s (top n o) k f = record { on_time = ap suc f.on_time; in_order = f.in_order }
  fifo_tick h s (lead j l w t o g) k f = record { on_time = ap suc f.on_time; in_order = f.in_order }
  fifo_tick h s (trail j t o g) k f = record { on_time = ap suc f.on_time; in_order = f.in_order }
  fifo_tick h s (work j w t e es o g q left) k f = record { on_time = ap suc f.on_time; in_order = fifo_served h s (line_at b j).owner k f }
  fifo_tick h s (bottom e es o g q left) k f = record { on_time = ap suc f.on_time; in_order = fifo_served h s (owner_at b s.instant) k f }
  fifo_tick h s (idle o g q) k f = record { on_time = ap suc f.on_time; in_order = f.in_order }
