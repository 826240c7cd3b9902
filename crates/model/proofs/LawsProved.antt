-- The three laws over runs, from the invariants of the steps that the calls are made of.
use Rattle.std.proofs.Common.{◌≡◌, ℕ, zero, suc, ◌+◌, ◌-◌, ◌*◌, ◌<◌, ◌≤◌, Bool, true, false, cond, not, ◌&&◌, eqb, List, [], ◌∷◌, ◌++◌, length, get_or, is_some, None, Ok, Err, sym, refl, ap, ◌∙◌, subst, inl, ⊎_elim, append_assoc, add-zero, mul-le-mul_left, arith, length-append}
use Rattle.std.proofs.lemmas.List.{append-nil, get_or_append_left, get_or-append_right, get_or_at}
use Rattle.std.proofs.lemmas.Bool.{cases_lt}
use Rattle.std.proofs.lemmas.Bool.Decides.{nat_tests}
use Rattle.model.specs.declared.run.Event.{Event}
use Rattle.model.specs.Board.{Layout, InRange, line_at, foreign, full_cost, serves}
use Rattle.model.specs.Monitor.{Meaning, Lawful}
use Rattle.model.specs.Tick.{State, fresh}
use Rattle.model.specs.Core.{Core, new_core, raised_state, new_event, asks, Becomes}
use Rattle.model.specs.Run.{Call, raise, strobe, advance, Run}
use Rattle.model.specs.Seen.{History, Accepted, accepted, Mark, mark, seen, showing, unseen, count, permit_of, last_if, accepted_for, finished_for, IsFinished}
use Rattle.model.specs.Laws.{LossBounded, Responsive, Prompt, Laws, NoneOpen, AllFinished, up_to, grant_tick_since, other_tick_since}
use Rattle.model.proofs.Counts.{sum_le}
use Rattle.model.proofs.Steps.{Steps, none, event, ticked, note_event}
use Rattle.model.proofs.Kept.{kept_event, put_same}
use Rattle.model.proofs.Fifo.{Fifo, waiting}
use Rattle.model.proofs.Response.{EachSince}
use Rattle.model.proofs.Opened.{AllBefore, none_since, none_open}
use Rattle.model.proofs.Promptness.{OnTheWay, prompt_end}
use Rattle.model.proofs.Reached.{reached, losses, busy, onward}
use Rattle.model.proofs.CallsTold.{join, Stepped, call_steps, run_steps, on_time}

-- an event that waits was raised since then
since_waiting : (b : Layout) (p since : ℕ) (q : List Event) → EachSince b p since q → (i : ℕ) → i < length (waiting q) → since ≤ (get_or (waiting q) i (mark 0 0 0)).raised
since_waiting b p since [] h i l = absurd (omega arith)
since_waiting b p since (e ∷ es) h zero l = h.0
since_waiting b p since (e ∷ es) h (suc i) l = since_waiting b p since es h.1 i (omega arith)

-- the n-th event accepted, if so many are finished, is the n-th finished
among_finished : (b : Layout) (p : ℕ) (h : History) (s : State) → Fifo b h s → (n : ℕ) (e : Mark) → get_or (accepted_for b p h.events) n (mark 0 0 0) ≡ e
    → n < length (finished_for b p h.done) → IsFinished b p h n e
among_finished b p h s fifo n e is less =
    record {
      stands = less;
      itself =
          sym (get_or_append_left (finished_for b p h.done) (waiting (s.queue p)) (mark 0 0 0) n less)
          ∙ (ap (λ l. get_or l n (mark 0 0 0)) (sym (fifo.in_order p)) ∙ is);
    }

module _ {S : Type 0} (means : Meaning S)
    (laws : Lawful means) (b : Layout) (ranges : InRange b) (m₀ : S) where
  -- the steps of a run from a new core
  from_new : (calls : List Call) (x : Core S) → Run means (new_core b m₀) calls x → Stepped means (new_core b m₀) unseen (seen calls) x
  from_new calls x run =
      subst (λ l. Stepped means (new_core b m₀) unseen (seen l) x) (append-nil calls) (run_steps means [] (new_core b m₀) refl run)

  loss_stands : (calls : List Call) (x : Core S) → Run means (new_core b m₀) calls x → LossBounded b (means.ceiling m₀) (seen calls)
  loss_stands calls x run p u w =
      let steps = (from_new calls x run).steps in
      let lost = (losses means laws b ranges m₀ p u w steps).always in
      let permitted = (reached means laws b ranges m₀ steps).permits in
      let sums =
      sum_le (length b.lines) (λ k. cond (foreign b p k) (full_cost b k * count (permit_of k u w) (seen calls).events) 0)
      (λ k. cond (foreign b p k) (full_cost b k * means.ceiling m₀ k w) 0) (λ k _. each (foreign b p k) k (omega (arith, permitted k u w))) in
      omega arith
    where
      each : (f : Bool) (k : ℕ) → count (permit_of k u w) (seen calls).events ≤ means.ceiling m₀ k w
          → cond f (full_cost b k * count (permit_of k u w) (seen calls).events) 0 ≤ cond f (full_cost b k * means.ceiling m₀ k w) 0
      each true k h = mul-le-mul_left (full_cost b k) h
      each false k h = omega arith

  response_stands : (calls : List Call) (x : Core S) → Run means (new_core b m₀) calls x → Responsive b (means.ceiling m₀) (seen calls)
  response_stands calls x run known most curve kept p bound has n e less is long =
      let steps = (from_new calls x run).steps in
      let at = reached means laws b ranges m₀ steps in
      let now = busy means laws b ranges m₀ most p bound has.some has.meets steps kept in
      among_finished b p (seen calls) x.state at.fifo n e is
      (⊎_elim (λ (l : n < length (finished_for b p (seen calls).done)). l)
      (λ (l : length (finished_for b p (seen calls).done) ≤ n). absurd (waits now.since at.fifo now.recent (omega (arith, now.so_far, now.short)) l))
      (cases_lt n (length (finished_for b p (seen calls).done))))
    where
      -- an event that still waits was raised too lately
      waits : (since : ℕ) → Fifo b (seen calls) x.state → EachSince b p since (x.state.queue p) → (seen calls).clock < since + bound
          → length (finished_for b p (seen calls).done) ≤ n → ⊥
      waits since fifo recent short l =
          let done = finished_for b p (seen calls).done in
          let queued = waiting (x.state.queue p) in
          let all = ap length (fifo.in_order p) ∙ length-append done queued in
          let there = ap (λ (ms : List Mark). get_or ms n (mark 0 0 0)) (fifo.in_order p) ∙ get_or-append_right done queued (length done) n (mark 0 0 0) refl l in
          let late = since_waiting b p since (x.state.queue p) recent (n - length done) (omega arith) in
          let raised = ap (λ (m : Mark). m.raised) (sym is ∙ there) in
          omega arith

  -- Steps, taken apart at one of the events that they show.

  pub record Split (h₀ : History) (n₀ : S) (s₀ : State) (h : History) (n : S) (s : State) (e : Accepted) (earlier : List Accepted) : Type 0 where
    pub hist : History
    pub monitor : S
    pub state : State
    pub then : S
    pub permit : Bool
    pub reaches : Steps means b h₀ n₀ s₀ hist monitor state
    pub shown_before : hist.events ≡ earlier ++ h₀.events
    pub is_event : e ≡ accepted e.line e.tag hist.clock permit
    pub known : e.line < length b.lines
    pub answered : permit ≡ (asks b state e.line && means.ready monitor e.line state.instant)
    pub becomes : Becomes means permit monitor e.line state.instant then
    pub goes_on : Steps means b (note_event hist e.line e.tag permit) then (raised_state b state e.line e.tag permit) h n s

  split : {h₀ : History} {n₀ : S} {s₀ : State} {h : History} {n : S} {s : State} → Steps means b h₀ n₀ s₀ h n s
      → (later earlier : List Accepted) (e : Accepted) → h.events ≡ later ++ e ∷ (earlier ++ h₀.events) → Split h₀ n₀ s₀ h n s e earlier
  split {h₀} none later earlier e is =
      let long = ap length is ∙ (length-append later (e ∷ (earlier ++ h₀.events)) ∙ ap (λ n. length later + suc n) (length-append earlier h₀.events)) in
      absurd (omega arith)
  split {h₀} {n₀} {s₀} (event {h} {m} {s} k tag permit {n} steps known is becomes) [] earlier e shows =
      let same : accepted k tag h.clock permit ≡ e = cc in
      let rest : h.events ≡ earlier ++ h₀.events = cc in
      subst (λ x. Split h₀ n₀ s₀ (note_event h k tag permit) n (raised_state b s k tag permit) x earlier) same
      (record {
        hist = h;
        monitor = m;
        state = s;
        then = n;
        permit = permit;
        reaches = steps;
        shown_before = rest;
        is_event = refl;
        known = known;
        answered = is;
        becomes = becomes;
        goes_on = none;
      })
  split (event {h} {m} {s} k tag permit {n} steps known is becomes) (x ∷ later) earlier e shows =
      let rest : h.events ≡ later ++ e ∷ (earlier ++ _) = cc in
      let at = split steps later earlier e rest in
      record {
        hist = at.hist;
        monitor = at.monitor;
        state = at.state;
        then = at.then;
        permit = at.permit;
        reaches = at.reaches;
        shown_before = at.shown_before;
        is_event = at.is_event;
        known = at.known;
        answered = at.answered;
        becomes = at.becomes;
        goes_on = event k tag permit at.goes_on known is becomes;
      }
  split (ticked steps) later earlier e shows =
      let at = split steps later earlier e shows in
      record {
        hist = at.hist;
        monitor = at.monitor;
        state = at.state;
        then = at.then;
        permit = at.permit;
        reaches = at.reaches;
        shown_before = at.shown_before;
        is_event = at.is_event;
        known = at.known;
        answered = at.answered;
        becomes = at.becomes;
        goes_on = ticked at.goes_on;
      }

  -- the clock does not run back; where it has not moved, no tick was run
  no_later : {h₀ : History} {n₀ : S} {s₀ : State} {h : History} {n : S} {s : State} → Steps means b h₀ n₀ s₀ h n s → h₀.clock ≤ h.clock
  no_later none = omega arith
  no_later (event k tag permit steps known is becomes) = no_later steps
  no_later (ticked steps) = omega (arith, no_later steps)

  still : {h₀ : History} {n₀ : S} {s₀ : State} {h : History} {n : S} {s : State} → Steps means b h₀ n₀ s₀ h n s → h.clock ≤ h₀.clock
      → h ≡ up_to h₀ h.events
  still none l = refl
  still {h₀} (event {h} k tag permit steps known is becomes) l =
      ap (λ x. note_event x k tag permit) (still steps l)
      ∙ ap (λ t. up_to h₀ (accepted k tag t permit ∷ h.events)) (sym (ap (λ (x : History). x.clock) (still steps l)))
  still (ticked steps) l = absurd (omega (arith, no_later steps))

  -- the monitor is as it was found while no grant is open as seen: a permit of the same instant would be an open one
  same_monitor : {h₀ : History} {n₀ : S} {s₀ : State} {h : History} {n : S} {s : State} → Steps means b h₀ n₀ s₀ h n s → h.clock ≤ h₀.clock
      → AllBefore h₀.clock h₀.ticks → NoneOpen b (up_to h₀ h.events) → n ≡ n₀
  same_monitor none l past closed = refl
  same_monitor {h₀} (event {h} {m} {s} k tag true {n} steps known is becomes) l past closed =
      let time = ap (λ (x : History). x.clock) (still steps l) in
      let needed = closed [] h.events (accepted k tag h.clock true) refl refl in
      let shown = ap (λ t. count (grant_tick_since k t) h₀.ticks) time ∙ none_since (grant_tick_since k) (λ a r out. grind (arith, nat_tests)) h₀.clock h₀.ticks past in
      absurd (omega (arith, (ranges.each_line k known).handler_some))
  same_monitor (event {h} {m} {s} k tag false {n} steps known is becomes) l past closed =
      becomes ∙ same_monitor steps l past (λ later earlier e split_at. closed (accepted k tag h.clock false ∷ later) earlier e (ap (λ es. accepted k tag h.clock false ∷ es) split_at))
  same_monitor (ticked steps) l past closed = absurd (omega (arith, no_later steps))

  -- a call that shows an event runs no tick
  shows_still : (c : Call) (h : History) (later earlier : List Accepted) (e : Accepted) → (showing c h).events ≡ later ++ e ∷ (earlier ++ h.events) → (showing c h).clock ≤ h.clock
  shows_still (raise mask k tag (Ok a)) h later earlier e is = omega arith
  shows_still (raise mask k tag (Err f)) h later earlier e is = omega arith
  shows_still (strobe mask word tag w) h later earlier e is = omega arith
  shows_still (advance n spans events (Ok ran) spans' events') h later earlier e is =
      let long = ap length is ∙ (length-append later (e ∷ (earlier ++ h.events)) ∙ ap (λ n. length later + suc n) (length-append earlier h.events)) in
      absurd (omega arith)
  shows_still (advance n spans events (Err f) spans' events') h later earlier e is = omega arith

  -- no event waits where all are finished
  none_waits : (p : ℕ) (h : History) (s : State) → Fifo b h s → AllFinished b p h → s.queue p ≡ []
  none_waits p h s fifo all = by (s.queue p) refl
    where
      by : (q : List Event) → s.queue p ≡ q → s.queue p ≡ []
      by [] is = is
      by (e ∷ es) is =
          let done = finished_for b p h.done in
          let whole = ap length (fifo.in_order p) ∙ (length-append done (waiting (s.queue p)) ∙ ap (λ (q : List Event). length done + length (waiting q)) is) in
          absurd (omega (arith, (all (length done) (get_or (accepted_for b p h.events) (length done) (mark 0 0 0)) (omega arith) refl).stands))

  -- later events come behind
  prefix : (p : ℕ) (later es : List Accepted) → (rest : List Mark) × (accepted_for b p (later ++ es) ≡ accepted_for b p es ++ rest)
  prefix p [] es = ([], sym (append-nil (accepted_for b p es)))
  prefix p (x ∷ later) es =
      let more = prefix p later es in
      let last = cond (eqb (line_at b x.line).owner p) (mark x.tag x.line x.at ∷ []) [] in
      (more.0 ++ last, ap (λ l. l ++ last) more.1 ∙ append_assoc (accepted_for b p es) more.0 last)

  nth_is : (later earlier : List Accepted) (e : Accepted) → let p = (line_at b e.line).owner in
      get_or (accepted_for b p (later ++ e ∷ earlier)) (length (accepted_for b p earlier)) (mark 0 0 0) ≡ mark e.tag e.line e.at
  nth_is later earlier e =
      let p = (line_at b e.line).owner in
      let m = mark e.tag e.line e.at in
      let mine : eqb p p ≡ true = grind (arith, nat_tests) in
      let after = prefix p later (e ∷ earlier) in
      let first = ap (λ t. last_if t m (accepted_for b p earlier)) mine in
      ap (λ l. get_or l (length (accepted_for b p earlier)) (mark 0 0 0))
      (after.1 ∙ (ap (λ l. l ++ after.0) first ∙ append_assoc (accepted_for b p earlier) (m ∷ []) after.0))
      ∙ get_or_at (accepted_for b p earlier) m after.0 (mark 0 0 0) (length (accepted_for b p earlier)) refl

  -- the grant that opens at once: its event is alone in its queue
  sets_out : (h : History) (s : State) (k tag : ℕ) → k < length b.lines → AllBefore h.clock h.ticks → s.queue (line_at b k).owner ≡ []
      → OnTheWay b k h.clock (length (finished_for b (line_at b k).owner h.done)) (note_event h k tag true) (raised_state b s k tag true)
  sets_out h s k tag known past empty =
      let o = (line_at b k).owner in
      let e = new_event b s k tag in
      record {
        l = b.overheads.reschedule + b.overheads.switch;
        w = (line_at b k).handler;
        head = e;
        rest = [];
        open_grant = refl;
        some = (ranges.each_line k known).handler_some;
        queued = put_same b s.queue o (s.queue o ++ e ∷ []) ∙ ap (λ (q : List Event). q ++ e ∷ []) empty;
        work_left = refl;
        ticks_left = omega (arith, none_since other_tick_since (λ a r out. grind (arith, nat_tests)) h.clock h.ticks past);
        started = omega arith;
        finished_so_far = omega arith;
      }

  permitted_here : (s : State) (m : S) (k : ℕ) (permit : Bool) → s.granted ≡ None → serves b (line_at b k).owner s.instant ≡ false → means.ready m k s.instant ≡ true
      → permit ≡ (asks b s k && means.ready m k s.instant) → permit ≡ true
  permitted_here s m k permit closed apart yes-now is =
      is
      ∙ (ap (λ t. (not t && not (is_some s.granted)) && means.ready m k s.instant) apart
      ∙ (ap (λ g. not (is_some g) && means.ready m k s.instant) closed ∙ yes-now))

  -- steps only add events
  more_events : {h₀ : History} {n₀ : S} {s₀ : State} {h : History} {n : S} {s : State} → Steps means b h₀ n₀ s₀ h n s
      → (new : List Accepted) × (h.events ≡ new ++ h₀.events)
  more_events none = ([], refl)
  more_events (event {h} k tag permit steps known is becomes) =
      let more = more_events steps in
      (accepted k tag h.clock permit ∷ more.0, ap (λ es. accepted k tag h.clock permit ∷ es) more.1)
  more_events (ticked steps) = more_events steps

  prompt_stands : Prompt means b m₀
  prompt_stands before x run c y called calls z onwards later earlier e shows apart ready-then closed all_done long =
      let o = (line_at b e.line).owner in
      let first = from_new before x run in
      let time = on_time means first.steps refl in
      let on-board : x.board ≡ b = first.same_board in
      let stepped = call_steps means c x y (seen before) time called in
      let second =
      subst (λ v. Steps means v (seen before) x.monitor x.state (seen (c ∷ before)) y.monitor y.state) on-board stepped.steps in
      let third =
      subst (λ v. Steps means v (seen (c ∷ before)) y.monitor y.state (seen (calls ++ c ∷ before)) z.monitor z.state)
      (stepped.same_board ∙ on-board) (run_steps means (c ∷ before) y (on_time means second time) onwards).steps in
      let at = split second later earlier e shows in
      finish at (join means first.steps at.reaches) third
    where
      finish : (at : Split (seen before) x.monitor x.state (seen (c ∷ before)) y.monitor y.state e earlier)
          → Steps means b unseen m₀ fresh at.hist at.monitor at.state
          → Steps means b (seen (c ∷ before)) y.monitor y.state (seen (calls ++ c ∷ before)) z.monitor z.state
          → IsFinished b (line_at b e.line).owner (seen (calls ++ c ∷ before))
          (length (accepted_for b (line_at b e.line).owner (earlier ++ (seen before).events))) (mark e.tag e.line e.at)
      finish at reaches onward-steps =
          let o = (line_at b e.line).owner in
          let es = earlier ++ (seen before).events in
          let quiet : at.hist.clock ≤ (seen before).clock = omega (arith, no_later at.goes_on, shows_still c (seen before) later earlier e shows) in
          let point : at.hist ≡ up_to (seen before) es = still at.reaches quiet ∙ ap (up_to (seen before)) at.shown_before in
          let here = reached means laws b ranges m₀ reaches in
          let closed-here : NoneOpen b at.hist = subst (NoneOpen b) (sym point) closed in
          let no_grant : at.state.granted ≡ None = none_open b at.hist at.state here.kept here.opened closed-here in
          let past-then : AllBefore (seen before).clock (seen before).ticks = subst (λ (h : History). AllBefore h.clock h.ticks) point here.past in
          let monitor-same : at.monitor ≡ x.monitor =
          same_monitor at.reaches quiet past-then (subst (λ l. NoneOpen b (up_to (seen before) l)) (sym at.shown_before) closed) in
          let at-clock : e.at ≡ at.hist.clock = ap (λ (a : Accepted). a.at) at.is_event in
          let at-instant : e.at ≡ at.state.instant = at-clock ∙ here.fifo.on_time in
          let ready-now : means.ready at.monitor e.line at.state.instant ≡ true =
          ap (λ m. means.ready m e.line at.state.instant) monitor-same ∙ (ap (means.ready x.monitor e.line) (sym at-instant) ∙ ready-then) in
          let apart-now : serves b o at.state.instant ≡ false = ap (serves b o) (sym at-instant) ∙ apart in
          let permit-given = permitted_here at.state at.monitor e.line at.permit no_grant apart-now ready-now at.answered in
          let empty = none_waits o at.hist at.state here.fifo (subst (AllFinished b o) (sym point) all_done) in
          let way = sets_out at.hist at.state e.line e.tag at.known here.past empty in
          let steps_on =
          join means
          (subst (λ v. Steps means b (note_event at.hist e.line e.tag v) at.then (raised_state b at.state e.line e.tag v)
          (seen (c ∷ before)) y.monitor y.state) permit-given at.goes_on) onward-steps in
          let n = length (finished_for b o at.hist.done) in
          let ending = (onward means laws b ranges m₀ e.line at.hist.clock n steps_on
          (kept_event b ranges at.state e.line e.tag true at.known here.kept) (inl way)).1 in
          let enough = subst (λ t. full_cost b e.line ≤ count (other_tick_since t) (seen (calls ++ c ∷ before)).ticks) at-clock long in
          let less = prompt_end b e.line at.hist.clock n (seen (calls ++ c ∷ before)) z.state enough ending in
          let same_count : length (accepted_for b o es) ≡ n =
          ap (λ l. length (accepted_for b o l)) (sym at.shown_before)
          ∙ (ap length (here.fifo.in_order o)
          ∙ (length-append (finished_for b o at.hist.done) (waiting (at.state.queue o)) ∙ (ap (λ (q : List Event). n + length (waiting q)) empty ∙ add-zero n))) in
          let whole =
          join means
          (join means (event e.line e.tag at.permit reaches at.known at.answered at.becomes) at.goes_on) onward-steps in
          let more = more_events onward-steps in
          let listed : (seen (calls ++ c ∷ before)).events ≡ (more.0 ++ later) ++ e ∷ es =
          more.1 ∙ (ap (λ l. more.0 ++ l) shows ∙ sym (append_assoc more.0 later (e ∷ es))) in
          among_finished b o (seen (calls ++ c ∷ before)) z.state (reached means laws b ranges m₀ whole).fifo (length (accepted_for b o es)) (mark e.tag e.line e.at)
          (ap (λ l. get_or (accepted_for b o l) (length (accepted_for b o es)) (mark 0 0 0)) listed ∙ nth_is (more.0 ++ later) es e) (omega arith)

  pub laws_proved : Laws means b m₀
  laws_proved = record { loss = loss_stands; response = response_stands; promptness = prompt_stands }
