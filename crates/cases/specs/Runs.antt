-- Worked cases of runs on the example board.
use Rattle.std.specs.Prelude.{◌≡◌, ℕ, zero, suc, true, false, List, [], ◌∷◌, replicate, Some, Ok, Err}
use Rattle.model.specs.declared.refusal.Refusal.TheVariants.{QueueFull, Masked}
use Rattle.model.specs.declared.run.Answer.TheVariants.{Permitted as says_permitted}
use Rattle.model.specs.declared.run.Finished.{Finished}
use Rattle.model.specs.declared.run.Kind.{Kind}
use Rattle.model.specs.declared.run.Kind.TheVariants.{Top, Switch, Interposed, Application}
use Rattle.model.specs.declared.run.Span.{Span}
use Rattle.model.specs.Refusals.{number_of, place_of}
use Rattle.model.specs.Monitor.{Meaning, meant}
use Rattle.model.specs.Tick.{State, tick, fresh, after, ended_in}
use Rattle.model.specs.declared.run.Row.{Row}
use Rattle.model.specs.Tape.{tape}
use Rattle.model.specs.Core.{Core, core, permits, raised_state, raise_fault, Strobed}
use Rattle.model.specs.Run.{Call, raise, advance, Run}
use Rattle.monitor.specs.declared.pair.Pair.{Pair}
use Rattle.monitor.specs.Pair.{pair_lines, pair_ready, pair_ceiling, pair_left}
use Rattle.distance.specs.Distance.{DistanceState, distance_ready, distance_ceiling, distance_left}
use Rattle.cases.specs.ExampleBoard.{board_k, monitors_k, core_k}

-- what a pair of distances means
abbrev pub one : DistanceState → ℕ
one s = 1

abbrev pub means : Meaning (Pair DistanceState DistanceState)
means =
    meant (pair_lines one one) (pair_ready one distance_ready distance_ready)
    (pair_ceiling one distance_ceiling distance_ceiling) (pair_left one distance_left distance_left)

abbrev pub span : ℕ → ℕ → Kind → ℕ → ℕ → Span
span t n kind who owner = record { first = t; ticks = n; kind = kind; who = who; owner = owner }

abbrev pub finished : ℕ → ℕ → ℕ → ℕ → Finished
finished tag k raised at = record { tag = tag; line = k; raised = raised; at = at }

-- the rows of the first n ticks from a state, newest first
abbrev pub rows : State → ℕ → List Row
rows s zero = []
rows s (suc n) = (tick board_k (after board_k s n)).row ∷ rows s n

abbrev pub row : Kind → ℕ → ℕ → Row
row kind who owner = record { kind = kind; who = who; owner = owner }

-- line 0 raised at instant 0 with tag 7: it is permitted
abbrev pub once_raised : State
once_raised = raised_state board_k fresh 0 7 true

-- and raised again, with tag 8: it is queued, since a grant is open
abbrev pub twice_raised : State
twice_raised = raised_state board_k once_raised 0 8 false

-- line 0 raised at instant 10, in its own partition's slot
abbrev pub raised_at_ten : State
raised_at_ten = raised_state board_k (after board_k fresh 10) 0 7 false

-- line 0 raised n times at instant 0 after its grant was opened
abbrev pub raised_more : ℕ → State
raised_more zero = once_raised
raised_more (suc n) = raised_state board_k (raised_more n) 0 9 false

-- the spans of twenty ticks after line 0 was raised and permitted
abbrev pub example_tape : List Span
example_tape =
    span 0 3 Top 255 0 ∷ span 3 3 Switch 0 0 ∷ span 6 3 Interposed 0 0 ∷ span 9 1 Switch 0 0 ∷ span 10 1 Switch 0 1
    ∷ span 11 5 Application 1 1 ∷ span 16 4 Application 0 0 ∷ []

-- buffers of eight and of two places
abbrev pub blank_spans : List Span
blank_spans = replicate 8 (span 0 0 Application 0 0)

abbrev pub blank_events : List Finished
blank_events = replicate 2 (finished 0 0 0 0)

-- the whole run: raised, a line that the mask closes refused, and twenty ticks, written to the front of both buffers
abbrev pub example_calls : List Call
example_calls =
    advance 20 blank_spans blank_events (Ok (record { ticks = 20; spans = 7; finished = 1 }))
    (span 0 3 Top 255 0 ∷ span 3 3 Switch 0 0 ∷ span 6 3 Interposed 0 0 ∷ span 9 1 Switch 0 0 ∷ span 10 1 Switch 0 1
    ∷ span 11 5 Application 1 1 ∷ span 16 4 Application 0 0 ∷ span 0 0 Application 0 0 ∷ [])
    (finished 7 0 0 9 ∷ finished 0 0 0 0 ∷ [])
    ∷ raise 2 1 5 (Err (Masked 1))
    ∷ raise 0 0 7 (Ok says_permitted)
    ∷ []

pub record RunCases : Type 0 where
  -- a first raise is permitted, one while a grant is open is not asked about, nor one in the line's own slot
  pub first_permitted : permits means core_k 0 ≡ true
  pub second_queued : (m : Pair DistanceState DistanceState) → permits means (core board_k m once_raised) 0 ≡ false
  pub own_slot_queued : permits means (core board_k monitors_k (after board_k fresh 10)) 0 ≡ false
  -- the example's twenty rows, its spans, and the event that it finishes
  pub example_rows :
      rows once_raised 20
      ≡ row Application 0 0 ∷ row Application 0 0 ∷ row Application 0 0 ∷ row Application 0 0
      ∷ row Application 1 1 ∷ row Application 1 1 ∷ row Application 1 1 ∷ row Application 1 1 ∷ row Application 1 1
      ∷ row Switch 0 1 ∷ row Switch 0 0 ∷ row Interposed 0 0 ∷ row Interposed 0 0 ∷ row Interposed 0 0
      ∷ row Switch 0 0 ∷ row Switch 0 0 ∷ row Switch 0 0 ∷ row Top 255 0 ∷ row Top 255 0 ∷ row Top 255 0 ∷ []
  pub example_spans : tape board_k once_raised 20 ≡ example_tape
  pub example_finished : ended_in board_k once_raised 20 ≡ finished 7 0 0 9 ∷ []
  -- raised twice at 0: finished at 12 and at 27
  pub twice_finished : ended_in board_k twice_raised 27 ≡ finished 7 0 0 12 ∷ finished 8 0 0 27 ∷ []
  -- raised at 10: finished at 15
  pub ten_finished : ended_in board_k raised_at_ten 5 ≡ finished 7 0 10 15 ∷ []
  -- the 33rd raise of line 0 at 0 is refused, number 8, place 1
  pub full_refused : raise_fault board_k (raised_more 31) 0 0 ≡ Some (QueueFull 1)
  pub full_number : number_of (QueueFull 1) ≡ 8
  pub full_place : place_of (QueueFull 1) ≡ 1
  -- strobe 3 at 0: taken 3, permitted 1, four ticks owed
  pub strobed : (y : Core (Pair DistanceState DistanceState)) × Strobed means core_k 0 3 7 (3, 1) y × (y.state.owed ≡ 4)
  -- the example as a run
  pub example_run : (y : Core (Pair DistanceState DistanceState)) × Run means core_k example_calls y × (y.state.instant ≡ 20)
