-- A board: its slots, lines and overheads, who owns each instant, what a line costs, and which boards are in range.
use Rattle.std.specs.Prelude.{◌≡◌, ℕ, ◌+◌, ◌-◌, ◌*◌, ◌%◌, ◌<◌, ◌≤◌, Bool, false, cond, not, ◌&&◌, List, [], ◌∷◌, length, is_some, Some, None, Option, ◌==◌, nat_le, nat_lt, slice_index_or}
use Rattle.model.specs.declared.board.Slot.{Slot}
use Rattle.model.specs.declared.board.Line.{Line}
use Rattle.model.specs.declared.board.Overheads.{Overheads}
use Rattle.model.specs.declared.refusal.Refusal.{Refusal}
use Rattle.model.specs.declared.refusal.Refusal.TheVariants.{Count, SlotRange, LineRange, OverheadRange}
use Rattle.model.specs.declared.refusal.Counted.TheVariants.{Partitions, Slots, Lines}
use Rattle.model.specs.declared.refusal.Overhead.TheVariants.{Check, Reschedule, Switch}
use Rattle.model.specs.Limits.{in_range}

pub record Layout : Type 0 where
  pub partitions : ℕ
  pub slots : List Slot
  pub lines : List Line
  pub overheads : Overheads

abbrev pub layout : ℕ → List Slot → List Line → Overheads → Layout
layout n ss ls o = record { partitions = n; slots = ss; lines = ls; overheads = o }

-- the cycle: the slots' lengths together
abbrev pub cycle_of : List Slot → ℕ
cycle_of [] = 0
cycle_of (s ∷ ss) = s.ticks + cycle_of ss

abbrev pub cycle : Layout → ℕ
cycle b = cycle_of b.slots

-- the owner of a place within the cycle: the slots follow one another in their order
abbrev pub owner_in : List Slot → ℕ → ℕ
owner_in [] place = 0
owner_in (s ∷ ss) place = cond (nat_lt place s.ticks) s.owner (owner_in ss (place - s.ticks))

-- the owner of the slot at instant t: the cycle repeats from instant 0
abbrev pub owner_at : Layout → ℕ → ℕ
owner_at b t = owner_in b.slots (t % cycle b)

-- whether the slot at instant t serves partition p
abbrev pub serves : Layout → ℕ → ℕ → Bool
serves b p t = owner_at b t == p

-- own(p): the ticks of each cycle that are p's
abbrev pub owned_in : ℕ → List Slot → ℕ
owned_in p [] = 0
owned_in p (s ∷ ss) = cond (s.owner == p) s.ticks 0 + owned_in p ss

abbrev pub own : Layout → ℕ → ℕ
own b p = owned_in p b.slots

-- what stands for a slot and for a line past the last
abbrev pub no_slot : Slot
no_slot = record { owner = 0; ticks = 0 }

abbrev pub slot_of : Layout → ℕ → Slot
slot_of b i = slice_index_or b.slots i no_slot

abbrev pub no_line : Line
no_line = record { owner = 0; top = 0; handler = 0 }

abbrev pub line_at : Layout → ℕ → Line
line_at b k = slice_index_or b.lines k no_line

-- a line is foreign to every partition but its owner
abbrev pub foreign : Layout → ℕ → ℕ → Bool
foreign b p k = not ((line_at b k).owner == p)

-- what a grant costs besides its handler: rescheduling, and a switch there and back
abbrev pub grant_cost : Overheads → ℕ
grant_cost o = o.reschedule + 2 * o.switch

-- the full cost of a line: all that a grant of it takes
abbrev pub full_cost : Layout → ℕ → ℕ
full_cost b k = (line_at b k).handler + grant_cost b.overheads

-- The ranges, as tests, in the order in which they are checked.

abbrev pub slot_fits : ℕ → Slot → Bool
slot_fits n s = nat_lt s.owner n && in_range 1 1000000 s.ticks

abbrev pub line_fits : ℕ → Line → Bool
line_fits n l = nat_lt l.owner n && (in_range 1 1000 l.top && in_range 1 10000 l.handler)

-- the first of two answers that is one
abbrev pub or_else : Option Refusal → Option Refusal → Option Refusal
or_else (Some r) other = Some r
or_else None other = other

-- the refusal, unless the test passes
abbrev pub unless : Bool → Refusal → Option Refusal
unless test r = cond test None (Some r)

abbrev pub count_fault : ℕ → ℕ → ℕ → Option Refusal
count_fault n slots lines =
    or_else (unless (in_range 1 8 n) (Count Partitions))
    (or_else (unless (in_range 1 16 slots) (Count Slots)) (unless (nat_le lines 16) (Count Lines)))

-- the first of a list's elements that does not fit, by its place, counted from i
module _ {X : Type 0} (fits : X → Bool) (named : ℕ → Refusal) where
  abbrev pub first_fault : ℕ → List X → Option Refusal
  first_fault i [] = None
  first_fault i (x ∷ xs) = or_else (unless (fits x) (named i)) (first_fault (i + 1) xs)

abbrev pub slot_fault : ℕ → List Slot → Option Refusal
slot_fault n ss = first_fault (slot_fits n) SlotRange 0 ss

abbrev pub line_fault : ℕ → List Line → Option Refusal
line_fault n ls = first_fault (line_fits n) LineRange 0 ls

abbrev pub overhead_fault : Overheads → Option Refusal
overhead_fault o =
    or_else (unless (nat_le o.check 1000) (OverheadRange Check))
    (or_else (unless (nat_le o.reschedule 1000) (OverheadRange Reschedule)) (unless (nat_le o.switch 1000) (OverheadRange Switch)))

-- the first failing check of a board: counts, then slots, then lines, then overheads
abbrev pub fault : Layout → Option Refusal
fault b =
    or_else (count_fault b.partitions (length b.slots) (length b.lines))
    (or_else (slot_fault b.partitions b.slots)
    (or_else (line_fault b.partitions b.lines) (overhead_fault b.overheads)))

-- a slot and a line whose numbers are in range, on a board of n partitions
pub record SlotInRange (n : ℕ) (s : Slot) : Type 0 where
  pub owned : s.owner < n
  pub some : 1 ≤ s.ticks
  pub few : s.ticks ≤ 1000000

pub record LineInRange (n : ℕ) (l : Line) : Type 0 where
  pub owned : l.owner < n
  pub top_some : 1 ≤ l.top
  pub top_few : l.top ≤ 1000
  pub handler_some : 1 ≤ l.handler
  pub handler_few : l.handler ≤ 10000

-- a board whose every number is in range: the boards that no check refuses
pub record InRange (b : Layout) : Type 0 where
  pub partitions_some : 1 ≤ b.partitions
  pub partitions_few : b.partitions ≤ 8
  pub slots_some : 1 ≤ length b.slots
  pub slots_few : length b.slots ≤ 16
  pub lines_few : length b.lines ≤ 16
  pub each_slot : (i : ℕ) → i < length b.slots → SlotInRange b.partitions (slot_of b i)
  pub each_line : (k : ℕ) → k < length b.lines → LineInRange b.partitions (line_at b k)
  pub check_few : b.overheads.check ≤ 1000
  pub reschedule_few : b.overheads.reschedule ≤ 1000
  pub switch_few : b.overheads.switch ≤ 1000

-- the boards that are in range are those that no check refuses
abbrev pub RangesChecked : Type 0
RangesChecked = (b : Layout) → (is_some (fault b) ≡ false → InRange b) × (InRange b → is_some (fault b) ≡ false)
