-- Elementary steps of a core: one event taken, or one tick. Every call is a list of these.
use Rattle.std.proofs.Common.{◌≡◌, ℕ, suc, ◌<◌, ◌≤◌, Bool, ◌&&◌, List, [], ◌∷◌, length, Some, None}
use Rattle.model.specs.declared.run.Event.{Event}
use Rattle.model.specs.declared.run.Kind.TheVariants.{Top, Switch, Interposed, Bottom, Application}
use Rattle.model.specs.Board.{Layout, line_at, owner_at}
use Rattle.model.specs.Tick.{State, grant, Ticked, plain, serving, closing, tick}
use Rattle.model.specs.Core.{asks, raised_state, Becomes}
use Rattle.model.specs.Seen.{History, accepted, tape_tick, with_events, done_onto}
use Rattle.model.specs.Monitor.{Meaning}

-- what is seen of an accepted event, and of a tick
abbrev pub note_event : History → ℕ → ℕ → Bool → History
note_event h k tag permit = with_events h (accepted k tag h.clock permit ∷ h.events)

abbrev pub note_tick : History → Ticked → History
note_tick h t =
    record {
      clock = suc h.clock;
      events = h.events;
      ticks = tape_tick h.clock t.row ∷ h.ticks;
      done = done_onto t.ended h.done;
    }

module _ {S : Type 0} (means : Meaning S) (b : Layout) where
  -- the steps from one point, what was seen, the monitor and the state, to another
  pub data Steps (h₀ : History) (m₀ : S) (s₀ : State) : History → S → State → Type 0 where
    none : Steps h₀ m₀ s₀ h₀ m₀ s₀
    event : {h : History} {m : S} {s : State} (k tag : ℕ) (permit : Bool) {n : S} → Steps h₀ m₀ s₀ h m s
        → k < length b.lines → permit ≡ (asks b s k && means.ready m k s.instant) → Becomes means permit m k s.instant n
        → Steps h₀ m₀ s₀ (note_event h k tag permit) n (raised_state b s k tag permit)
    ticked : {h : History} {m : S} {s : State} → Steps h₀ m₀ s₀ h m s → Steps h₀ m₀ s₀ (note_tick h (tick b s)) m (tick b s).next

-- The rule that a tick follows, with what holds where it applies.
pub data Rule (b : Layout) (s : State) : Ticked → Type 0 where
  top : (n : ℕ) → s.owed ≡ suc n → Rule b s (plain b s Top 255 n s.granted)
  lead : (k l w t : ℕ) → s.owed ≡ 0 → s.granted ≡ Some (grant k (suc l) w t) → Rule b s (plain b s Switch k 0 (closing (grant k l w t)))
  work : (k w t : ℕ) (e : Event) (es : List Event) → s.owed ≡ 0 → s.granted ≡ Some (grant k 0 (suc w) t)
      → s.queue (line_at b k).owner ≡ e ∷ es → 1 ≤ e.left
      → Rule b s (serving b s Interposed k (line_at b k).owner (closing (grant k 0 w t)))
  trail : (k t : ℕ) → s.owed ≡ 0 → s.granted ≡ Some (grant k 0 0 (suc t)) → Rule b s (plain b s Switch k 0 (closing (grant k 0 0 t)))
  bottom : (e : Event) (es : List Event) → s.owed ≡ 0 → s.granted ≡ None → s.queue (owner_at b s.instant) ≡ e ∷ es → 1 ≤ e.left
      → Rule b s (serving b s Bottom (owner_at b s.instant) (owner_at b s.instant) None)
  idle : s.owed ≡ 0 → s.granted ≡ None → s.queue (owner_at b s.instant) ≡ [] → Rule b s (plain b s Application (owner_at b s.instant) 0 None)
