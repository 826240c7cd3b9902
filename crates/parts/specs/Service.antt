-- Serving a queue: some ticks of its head event's handler.
use Rattle.std.specs.Prelude.{ℕ, ◌-◌, max, Bool, cond, List, [], ◌∷◌, Some, None, Option, nat_lt}
use Rattle.model.specs.declared.run.Event.{Event}

-- what serving comes to: the ticks run, the event whose handler ended, as it stood before, and the queue after
pub record Service : Type 0 where
  pub ticks : ℕ
  pub ended : Option Event
  pub rest : List Event

-- the event with n ticks less left
abbrev pub less : Event → ℕ → Event
less e n = record { tag = e.tag; line = e.line; raised = e.raised; left = e.left - n }

-- the tick that ends an event's handler: one of no ticks takes one all the same
abbrev pub ends_in : Event → ℕ
ends_in e = max e.left 1

-- up to n ticks of the head event's handler, stopping when it ends, or just before where there is no room for its event
abbrev pub serve : ℕ → Bool → List Event → Service
serve n room [] = record { ticks = n; ended = None; rest = [] }
serve n room (e ∷ es) =
    cond (nat_lt n (ends_in e)) (record { ticks = n; ended = None; rest = less e n ∷ es })
    (cond room (record { ticks = ends_in e; ended = Some e; rest = es })
    (record { ticks = ends_in e - 1; ended = None; rest = less e (ends_in e - 1) ∷ es }))
