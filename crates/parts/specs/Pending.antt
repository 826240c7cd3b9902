-- The events that wait in a queue, and in several.
use Rattle.std.specs.Prelude.{ℕ, List, length, take, sum_by}
use Rattle.model.specs.declared.run.Event.{Event}
use Rattle.parts.specs.declared.queue.Queue.{Queue}

-- the events of a queue, oldest first
abbrev pub pending : Queue → List Event
pending q = take q.len q.events

-- the events of some queues together
abbrev pub held_by : List Queue → ℕ
held_by qs = sum_by (λ q. length (pending q)) qs
