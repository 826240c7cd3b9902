-- Ticks run into a caller's buffers: as many as their output fits.
use Rattle.std.specs.Prelude.{◌≡◌, ℕ, ◌≤◌, List, length, Ok, Err, Result}
use Rattle.model.specs.declared.refusal.Refusal.{Refusal}
use Rattle.model.specs.declared.run.Span.{Span}
use Rattle.model.specs.declared.run.Finished.{Finished}
use Rattle.model.specs.declared.run.Ran.{Ran}
use Rattle.model.specs.Board.{Layout}
use Rattle.model.specs.Tick.{State, after, ended_in}
use Rattle.model.specs.Tape.{tape}
use Rattle.model.specs.Core.{Fits, Written}

-- so far: the ticks run from s, what they wrote, and where the state stands
pub record Going (b : Layout) (s : State) (n : ℕ) (spans : List Span) (events : List Finished) (ran : Ran) (t : State) (spans' : List Span) (events' : List Finished) : Type 0 where
  pub few : ran.ticks ≤ n
  pub fits : Fits b s (length spans) (length events) ran.ticks
  pub state_after : t ≡ after b s ran.ticks
  pub spans_written : Written ran.spans (tape b s ran.ticks) spans spans'
  pub events_written : Written ran.finished (ended_in b s ran.ticks) events events'
  pub same_spans : length spans' ≡ length spans
  pub same_events : length events' ≡ length events

-- no more ticks fit
abbrev pub Most : Layout → State → ℕ → ℕ → ℕ → ℕ → Type 0
Most b s n places sheets m = (j : ℕ) → j ≤ n → Fits b s places sheets j → j ≤ m

-- an advance of the tables: refused exactly if the ticks pass the clock's end
abbrev pub RunBy : Layout → State → ℕ → List Span → List Finished → Result Ran Refusal → State → List Span → List Finished → Type 0
RunBy b s n spans events (Ok ran) t spans' events' = Going b s n spans events ran t spans' events' × Most b s n (length spans) (length events) ran.ticks
RunBy b s n spans events (Err e) t spans' events' = ⊥
