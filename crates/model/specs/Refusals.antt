-- The number and the place of every refusal: all that a caller is told of why.
use Rattle.std.specs.Prelude.{ℕ}
use Rattle.model.specs.declared.refusal.Refusal.{Refusal}
use Rattle.model.specs.declared.refusal.Refusal.TheVariants.{Count, SlotRange, LineRange, OverheadRange, Setting, NoSuch, Masked, QueueFull, PastEnd, NoBound}
use Rattle.model.specs.declared.refusal.Counted.{Counted}
use Rattle.model.specs.declared.refusal.Counted.TheVariants.{Partitions, Slots, Lines}
use Rattle.model.specs.declared.refusal.Overhead.{Overhead}
use Rattle.model.specs.declared.refusal.Overhead.TheVariants.{Check, Reschedule, Switch}

abbrev pub number_of : Refusal → ℕ
number_of (Count c) = 1
number_of (SlotRange i) = 2
number_of (LineRange k) = 3
number_of (OverheadRange o) = 4
number_of (Setting i) = 5
number_of (NoSuch n) = 6
number_of (Masked k) = 7
number_of (QueueFull p) = 8
number_of (PastEnd n) = 9
number_of (NoBound p) = 10

abbrev pub count_place : Counted → ℕ
count_place Partitions = 0
count_place Slots = 1
count_place Lines = 2

abbrev pub overhead_place : Overhead → ℕ
overhead_place Check = 0
overhead_place Reschedule = 1
overhead_place Switch = 2

abbrev pub place_of : Refusal → ℕ
place_of (Count c) = count_place c
place_of (SlotRange i) = i
place_of (LineRange k) = k
place_of (OverheadRange o) = overhead_place o
place_of (Setting i) = i
place_of (NoSuch n) = n
place_of (Masked k) = k
place_of (QueueFull p) = p
place_of (PastEnd n) = n
place_of (NoBound p) = p
