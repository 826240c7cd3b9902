-- The calls of a core, as relations between the core before, what is given, what is answered, and the core after.
use Rattle.std.specs.Prelude.{◌≡◌, ℕ, zero, suc, ◌+◌, ◌-◌, ◌^◌, ◌≤◌, Bool, true, false, cond, not, ◌&&◌, List, [], ◌∷◌, ◌++◌, length, take, drop, is_some, Some, None, Ok, Err, Option, Result, nat_le, nat_lt}
use Rattle.model.specs.declared.refusal.Refusal.{Refusal}
use Rattle.model.specs.declared.refusal.Refusal.TheVariants.{NoSuch, Masked, QueueFull, PastEnd}
use Rattle.model.specs.declared.run.Answer.{Answer}
use Rattle.model.specs.declared.run.Answer.TheVariants.{Permitted as says_permitted, Queued as says_queued}
use Rattle.model.specs.declared.run.Event.{Event}
use Rattle.model.specs.declared.run.Span.{Span}
use Rattle.model.specs.declared.run.Finished.{Finished}
use Rattle.model.specs.declared.run.Ran.{Ran}
use Rattle.model.specs.Limits.{end}
use Rattle.model.specs.Board.{Layout, line_at, serves}
use Rattle.model.specs.Bits.{is_set}
use Rattle.model.specs.Monitor.{Permitted, Meaning}
use Rattle.model.specs.Tick.{State, Grant, grant, fresh, put, after, ended_in}
use Rattle.model.specs.Tape.{tape}

-- a core: its board, its monitor, and what changes as it runs
pub record Core (S : Type 0) : Type 0 where
  pub board : Layout
  pub monitor : S
  pub state : State

abbrev pub core : {S : Type 0} → Layout → S → State → Core S
core b m s = record { board = b; monitor = m; state = s }

abbrev pub new_core : {S : Type 0} → Layout → S → Core S
new_core b m = core b m fresh

-- how many events a queue can hold
abbrev pub capacity : ℕ
capacity = 32

-- Raising.

-- why an event of a line cannot be raised: the first check that fails
abbrev pub raise_fault : Layout → State → ℕ → ℕ → Option Refusal
raise_fault b s mask k =
    cond (nat_lt k (length b.lines))
    (cond (is_set mask k) (Some (Masked k))
    (cond (nat_lt (length (s.queue (line_at b k).owner)) capacity) None (Some (QueueFull (line_at b k).owner))))
    (Some (NoSuch k))

-- whether the slot is another partition's than the line's
abbrev pub in_foreign_slot : Layout → State → ℕ → Bool
in_foreign_slot b s k = not (serves b (line_at b k).owner s.instant)

-- the monitor is asked in a foreign slot while no grant is open
abbrev pub asks : Layout → State → ℕ → Bool
asks b s k = in_foreign_slot b s k && not (is_some s.granted)

-- a grant as it opens
abbrev pub fresh_grant : Layout → ℕ → Grant
fresh_grant b k =
    grant k (b.overheads.reschedule + b.overheads.switch) (line_at b k).handler b.overheads.switch

abbrev pub new_event : Layout → State → ℕ → ℕ → Event
new_event b s k tag = record { tag = tag; line = k; raised = s.instant; left = (line_at b k).handler }

-- the state after an event was taken: queued last, its top cost owed, the check's too in a foreign slot; a permit opens a grant
abbrev pub raised_state : Layout → State → ℕ → ℕ → Bool → State
raised_state b s k tag permitted =
    record {
      instant = s.instant;
      owed = s.owed + (line_at b k).top + cond (in_foreign_slot b s k) b.overheads.check 0;
      granted = cond permitted (Some (fresh_grant b k)) s.granted;
      queue = put s.queue (line_at b k).owner (s.queue (line_at b k).owner ++ new_event b s k tag ∷ []);
    }

abbrev pub told : Bool → Answer
told permitted = cond permitted says_permitted says_queued

-- Advancing.

-- the first n ticks' output fits the places of the two buffers
pub record Fits (b : Layout) (s : State) (places events n : ℕ) : Type 0 where
  pub spans_fit : length (tape b s n) ≤ places
  pub events_fit : length (ended_in b s n) ≤ events

-- a buffer after its first places were written: those, and every other place as before
pub record Written {X : Type 0} (count : ℕ) (items before behind : List X) : Type 0 where
  pub counted : count ≡ length items
  pub front : take count behind ≡ items
  pub rest : drop count behind ≡ drop count before

-- n ticks were asked for: as many are run as the output fits, never fewer
pub record Runs {S : Type 0} (x : Core S) (n : ℕ) (spans : List Span) (events : List Finished) (ran : Ran) (y : Core S)
    (spans' : List Span) (events' : List Finished) : Type 0 where
  pub few : ran.ticks ≤ n
  pub fits : Fits x.board x.state (length spans) (length events) ran.ticks
  pub most : (j : ℕ) → j ≤ n → Fits x.board x.state (length spans) (length events) j → j ≤ ran.ticks
  pub core_after : y ≡ core x.board x.monitor (after x.board x.state ran.ticks)
  pub spans_written : Written ran.spans (tape x.board x.state ran.ticks) spans spans'
  pub events_written : Written ran.finished (ended_in x.board x.state ran.ticks) events events'

abbrev pub Advances : {S : Type 0} → Core S → ℕ → List Span → List Finished → Result Ran Refusal → Core S → List Span → List Finished → Type 0
Advances x n spans events (Ok ran) y spans' events' = Runs x n spans events ran y spans' events'
Advances x n spans events (Err e) y spans' events' = ⊥

-- an advance of n ticks: refused exactly if they pass the clock's end, with all as before
abbrev pub AdvancedBy : {S : Type 0} → Bool → Core S → ℕ → List Span → List Finished → Result Ran Refusal → Core S → List Span → List Finished → Type 0
AdvancedBy true x n spans events r y spans' events' = Advances x n spans events r y spans' events'
AdvancedBy false x n spans events r y spans' events' =
    (r ≡ Err (PastEnd (end - x.state.instant))) × (y ≡ x) × (spans' ≡ spans) × (events' ≡ events)

abbrev pub Advanced : {S : Type 0} → Core S → ℕ → List Span → List Finished → Result Ran Refusal → Core S → List Span → List Finished → Type 0
Advanced x n spans events r y spans' events' = AdvancedBy (nat_le n (end - x.state.instant)) x n spans events r y spans' events'

module _ {S : Type 0} (means : Meaning S) where
  -- whether raising line k is permitted: the monitor is asked, and is ready
  abbrev pub permits : Core S → ℕ → Bool
  permits x k = asks x.board x.state k && means.ready x.monitor k x.state.instant

  -- What the rules leave open: the monitor n that m becomes. After a yes, all that is known of any monitor's yes; else n is m.
  abbrev pub Becomes : Bool → S → ℕ → ℕ → S → Type 0
  Becomes true m k t n = Permitted means m k t n
  Becomes false m k t n = n ≡ m

  -- an event of line k that no check refuses
  pub record Taken (x : Core S) (k tag : ℕ) (r : Result Answer Refusal) (y : Core S) : Type 0 where
    pub answered : r ≡ Ok (told (permits x k))
    pub same_board : y.board ≡ x.board
    pub state_after : y.state ≡ raised_state x.board x.state k tag (permits x k)
    pub monitor_after : Becomes (permits x k) x.monitor k x.state.instant y.monitor

  abbrev pub RaisedBy : Option Refusal → Core S → ℕ → ℕ → Result Answer Refusal → Core S → Type 0
  RaisedBy (Some f) x k tag r y = (r ≡ Err f) × (y ≡ x)
  RaisedBy None x k tag r y = Taken x k tag r y

  -- raising line k under a mask
  abbrev pub Raised : Core S → ℕ → ℕ → ℕ → Result Answer Refusal → Core S → Type 0
  Raised x mask k tag r y = RaisedBy (raise_fault x.board x.state mask k) x k tag r y

  -- Strobing: the lines of a word, lowest first; two words answer, the lines taken and the lines permitted.

  -- the two words with line k noted by what raising it answered; a refused line is in neither
  abbrev pub noted : ℕ → Result Answer Refusal → ℕ × ℕ → ℕ × ℕ
  noted k (Ok says_permitted) w = (w.0 + 2 ^ k, w.1 + 2 ^ k)
  noted k (Ok says_queued) w = (w.0 + 2 ^ k, w.1)
  noted k (Err e) w = w

  -- line k in its turn: raised if its bit is set, else passed over
  abbrev pub Offered : Bool → ℕ → ℕ → ℕ → Core S → ℕ × ℕ → ℕ × ℕ → Core S → Type 0
  Offered true mask tag k y v w z = (r : Result Answer Refusal) × Raised y mask k tag r z × (w ≡ noted k r v)
  Offered false mask tag k y v w z = (w ≡ v) × (z ≡ y)

  -- the lines below n, one after the other
  unfoldable pub StrobedBelow : ℕ → ℕ → ℕ → ℕ → Core S → ℕ × ℕ → Core S → Type 0
  StrobedBelow zero mask word tag x w y = (w ≡ (0, 0)) × (y ≡ x)
  StrobedBelow (suc k) mask word tag x w z =
      (y : Core S) × (v : ℕ × ℕ) × StrobedBelow k mask word tag x v y × Offered (is_set word k) mask tag k y v w z

  abbrev pub Strobed : Core S → ℕ → ℕ → ℕ → ℕ × ℕ → Core S → Type 0
  Strobed x mask word tag w y = StrobedBelow 16 mask word tag x w y
