-- The events that wait in the queues of all partitions.
use Rattle.std.specs.Prelude.{ℕ, List, [], map, slice_index_or}
use Rattle.model.specs.declared.run.Event.{Event}
use Rattle.parts.specs.declared.queues.Queues.{Queues}
use Rattle.parts.specs.Pending.{pending, held_by}

-- the events of a partition's queue; a partition with no queue has none
abbrev pub queue_of : Queues → ℕ → List Event
queue_of qs p = slice_index_or (map pending qs.all) p []

-- the events of all queues together
abbrev pub held_in : Queues → ℕ
held_in qs = held_by qs.all
