-- The tick rules: what one tick is spent on, the event that it finishes, and the state after it.
use Rattle.std.specs.Prelude.{ℕ, zero, suc, ◌+◌, ◌-◌, cond, List, [], ◌∷◌, ◌++◌, Some, None, Option, ◌==◌, nat_le}
use Rattle.model.specs.declared.run.Event.{Event}
use Rattle.model.specs.declared.run.Finished.{Finished}
use Rattle.model.specs.declared.run.Kind.{Kind}
use Rattle.model.specs.declared.run.Row.{Row}
use Rattle.model.specs.declared.run.Kind.TheVariants.{Top, Switch, Interposed, Bottom, Application}
use Rattle.model.specs.Board.{Layout, line_at, owner_at}

-- an open grant: its line, and the ticks left of its lead switch, its work and its trail switch
pub record Grant : Type 0 where
  pub line : ℕ
  pub lead : ℕ
  pub work : ℕ
  pub trail : ℕ

abbrev pub grant : ℕ → ℕ → ℕ → ℕ → Grant
grant k l w t = record { line = k; lead = l; work = w; trail = t }

-- what changes as a core runs, but for its monitor: a queue for each partition, oldest event first
pub record State : Type 0 where
  pub instant : ℕ
  pub owed : ℕ
  pub granted : Option Grant
  pub queue : ℕ → List Event

-- a new core is at instant 0, owes nothing, has no grant and empty queues
abbrev pub fresh : State
fresh = record { instant = 0; owed = 0; granted = None; queue = λ p. [] }

-- the queues with that of partition p replaced
abbrev pub put : (ℕ → List Event) → ℕ → List Event → ℕ → List Event
put queue p q j = cond (j == p) q (queue j)

-- what a tick does: its row, the event that it finishes, if any, and the state after it
pub record Ticked : Type 0 where
  pub row : Row
  pub ended : List Finished
  pub next : State

-- the head of a queue after one tick of its handler: an event with no ticks left leaves
abbrev pub worn : List Event → List Event
worn [] = []
worn (e ∷ es) = cond (nat_le e.left 1) es (record { tag = e.tag; line = e.line; raised = e.raised; left = e.left - 1 } ∷ es)

-- the event that such a tick finishes, if any; it is finished at the instant after the tick
abbrev pub ends_at : ℕ → List Event → List Finished
ends_at at [] = []
ends_at at (e ∷ es) = cond (nat_le e.left 1) (record { tag = e.tag; line = e.line; raised = e.raised; at = at } ∷ []) []

-- a grant closes after its last tick
abbrev pub closing : Grant → Option Grant
closing g = cond (g.lead + g.work + g.trail == 0) None (Some g)

module _ (b : Layout) (s : State) where
  -- a tick that serves no event
  abbrev pub plain : Kind → ℕ → ℕ → Option Grant → Ticked
  plain kind who owed open_grant =
      record {
        row = record { kind = kind; who = who; owner = owner_at b s.instant };
        ended = [];
        next = record { instant = suc s.instant; owed = owed; granted = open_grant; queue = s.queue };
      }

  -- a tick that serves the head event of partition p
  abbrev pub serving : Kind → ℕ → ℕ → Option Grant → Ticked
  serving kind who p open_grant =
      record {
        row = record { kind = kind; who = who; owner = owner_at b s.instant };
        ended = ends_at (suc s.instant) (s.queue p);
        next = record { instant = suc s.instant; owed = 0; granted = open_grant; queue = put s.queue p (worn (s.queue p)) };
      }

  -- the slot's own rules: the owner's queue, else its application
  abbrev pub in_slot : List Event → Ticked
  in_slot [] = plain Application (owner_at b s.instant) 0 None
  in_slot (e ∷ es) = serving Bottom (owner_at b s.instant) (owner_at b s.instant) None

  -- the grant's rule: lead switch, then work, then trail switch; steps of no ticks are skipped
  abbrev pub in_grant : ℕ → ℕ → ℕ → ℕ → Ticked
  in_grant k (suc l) w t = plain Switch k 0 (closing (grant k l w t))
  in_grant k zero (suc w) t = serving Interposed k (line_at b k).owner (closing (grant k 0 w t))
  in_grant k zero zero (suc t) = plain Switch k 0 (closing (grant k 0 0 t))
  in_grant k zero zero zero = in_slot (s.queue (owner_at b s.instant))

  -- the first rule that applies: work owed, an open grant, the slot
  abbrev pub by_rules : ℕ → Option Grant → Ticked
  by_rules (suc n) open_grant = plain Top 255 n open_grant
  by_rules zero (Some g) = in_grant g.line g.lead g.work g.trail
  by_rules zero None = in_slot (s.queue (owner_at b s.instant))

  abbrev pub tick : Ticked
  tick = by_rules s.owed s.granted

-- the state after n ticks
abbrev pub after : Layout → State → ℕ → State
after b s zero = s
after b s (suc n) = (tick b (after b s n)).next

-- the events that n ticks finish, in their order
abbrev pub ended_in : Layout → State → ℕ → List Finished
ended_in b s zero = []
ended_in b s (suc n) = ended_in b s n ++ (tick b (after b s n)).ended
