-- A stretch: the longest run of ticks alike that one rule gives at once.
use Rattle.std.specs.Prelude.{◌≡◌, ℕ, ◌<◌, ◌≤◌, Bool, false, List, [], ◌∷◌, length, Some, None, Option}
use Rattle.model.specs.declared.run.Event.{Event}
use Rattle.model.specs.declared.run.Finished.{Finished}
use Rattle.model.specs.Board.{Layout}
use Rattle.model.specs.Tick.{State, tick, after, ended_in}

abbrev pub list_of : Option Finished → List Finished
list_of None = []
list_of (Some f) = f ∷ []

-- the event that a served queue ended, finished at an instant
abbrev pub finished_of : ℕ → Option Event → Option Finished
finished_of at None = None
finished_of at (Some e) = Some (record { tag = e.tag; line = e.line; raised = e.raised; at = at })

-- m ticks from s, at most limit, that end at most one event, and none where there is no room for it
pub record Stretch (b : Layout) (s : State) (limit : ℕ) (room : Bool) (m : ℕ) (e : Option Finished) (t : State) : Type 0 where
  pub few : m ≤ limit
  pub state_after : t ≡ after b s m
  pub alike : (i : ℕ) → i < m → (tick b (after b s i)).row ≡ (tick b s).row
  pub ended : ended_in b s m ≡ list_of e
  pub placed : room ≡ false → e ≡ None
  -- it is empty only where there is no room for the event that the next tick ends
  pub stops : m ≡ 0 → 0 < limit → (room ≡ false) × (length (tick b s).ended ≡ 1)
