-- A board that no check refuses is in range, and the other way round.
use Rattle.std.proofs.Common.{◌≡◌, ℕ, zero, suc, ◌+◌, ◌<◌, ◌≤◌, Bool, true, false, List, [], ◌∷◌, length, get_or, is_some, Some, None, Option, sym, refl, arith}
use Rattle.std.proofs.lemmas.Bool.Decides.{nat_tests}
use Rattle.model.specs.declared.board.Slot.{Slot}
use Rattle.model.specs.declared.board.Line.{Line}
use Rattle.model.specs.declared.board.Overheads.{Overheads}
use Rattle.model.specs.declared.refusal.Refusal.{Refusal}
use Rattle.model.specs.declared.refusal.Refusal.TheVariants.{SlotRange, LineRange}
use Rattle.model.specs.Board.{Layout, or_else, unless, first_fault, count_fault, slot_fault, line_fault, overhead_fault, fault, slot_fits, line_fits, SlotInRange, LineInRange, InRange, no_slot, no_line, slot_of, line_at}

-- neither of two checks refuses
neither : (x y : Option Refusal) → is_some (or_else x y) ≡ false → (is_some x ≡ false) × (is_some y ≡ false)
neither None y h = (refl, h)
neither (Some r) y h = (h, grind arith)

both : (x y : Option Refusal) → is_some x ≡ false → is_some y ≡ false → is_some (or_else x y) ≡ false
both None y g h = h
both (Some r) y g h = g

passed : (t : Bool) (r : Refusal) → is_some (unless t r) ≡ false → t ≡ true
passed true r h = refl
passed false r h = sym h

passes : (t : Bool) (r : Refusal) → t ≡ true → is_some (unless t r) ≡ false
passes true r h = refl
passes false r h = sym h

module _ {X : Type 0} (fits : X → Bool) (named : ℕ → Refusal) (none : X) where
  all_fit : (i : ℕ) (xs : List X) → is_some (first_fault fits named i xs) ≡ false → (k : ℕ) → k < length xs → fits (get_or xs k none) ≡ true
  all_fit i [] h k l = absurd (omega arith)
  all_fit i (x ∷ xs) h zero l =
      passed (fits x) (named i) (neither (unless (fits x) (named i)) (first_fault fits named (i + 1) xs) h).0
  all_fit i (x ∷ xs) h (suc k) l =
      all_fit (i + 1) xs (neither (unless (fits x) (named i)) (first_fault fits named (i + 1) xs) h).1 k (omega arith)

  no_fault : (i : ℕ) (xs : List X) → ((k : ℕ) → k < length xs → fits (get_or xs k none) ≡ true) → is_some (first_fault fits named i xs) ≡ false
  no_fault i [] h = refl
  no_fault i (x ∷ xs) h =
      both (unless (fits x) (named i)) (first_fault fits named (i + 1) xs) (passes (fits x) (named i) (h zero (omega arith)))
      (no_fault (i + 1) xs (λ k l. h (suc k) (omega arith)))

slot_in_range : (n : ℕ) (s : Slot) → slot_fits n s ≡ true → SlotInRange n s
slot_in_range n s h = record { owned = grind (arith, nat_tests); some = grind (arith, nat_tests); few = grind (arith, nat_tests) }

line_in_range : (n : ℕ) (l : Line) → line_fits n l ≡ true → LineInRange n l
line_in_range n l h =
    record {
      owned = grind (arith, nat_tests);
      top_some = grind (arith, nat_tests);
      top_few = grind (arith, nat_tests);
      handler_some = grind (arith, nat_tests);
      handler_few = grind (arith, nat_tests);
    }

slot_fits_lem : (n : ℕ) (s : Slot) → SlotInRange n s → slot_fits n s ≡ true
slot_fits_lem n s r = grind (arith, nat_tests)

line_fits_lem : (n : ℕ) (l : Line) → LineInRange n l → line_fits n l ≡ true
line_fits_lem n l r = grind (arith, nat_tests)

-- no check of counts, of overheads
pub record CountsInRange (n slots lines : ℕ) : Type 0 where
  pub partitions_some : 1 ≤ n
  pub partitions_few : n ≤ 8
  pub slots_some : 1 ≤ slots
  pub slots_few : slots ≤ 16
  pub lines_few : lines ≤ 16

counts_in_range : (n slots lines : ℕ) → is_some (count_fault n slots lines) ≡ false → CountsInRange n slots lines
counts_in_range n slots lines h =
    record {
      partitions_some = grind (arith, nat_tests);
      partitions_few = grind (arith, nat_tests);
      slots_some = grind (arith, nat_tests);
      slots_few = grind (arith, nat_tests);
      lines_few = grind (arith, nat_tests);
    }

counts_pass : (n slots lines : ℕ) → CountsInRange n slots lines → is_some (count_fault n slots lines) ≡ false
counts_pass n slots lines r = grind (arith, nat_tests)

overheads_in_range : (o : Overheads) → is_some (overhead_fault o) ≡ false → (o.check ≤ 1000) × (o.reschedule ≤ 1000) × (o.switch ≤ 1000)
overheads_in_range o h = (grind (arith, nat_tests), grind (arith, nat_tests), grind (arith, nat_tests))

overheads_pass : (o : Overheads) → o.check ≤ 1000 → o.reschedule ≤ 1000 → o.switch ≤ 1000 → is_some (overhead_fault o) ≡ false
overheads_pass o c r s = grind (arith, nat_tests)

pub in_range_lem : (b : Layout) → is_some (fault b) ≡ false → InRange b
in_range_lem b h =
    let n = b.partitions in
    let first = neither (count_fault n (length b.slots) (length b.lines)) _ h in
    let second = neither (slot_fault n b.slots) _ first.1 in
    let third = neither (line_fault n b.lines) (overhead_fault b.overheads) second.1 in
    let counts = counts_in_range n (length b.slots) (length b.lines) first.0 in
    let overheads = overheads_in_range b.overheads third.1 in
    record {
      partitions_some = counts.partitions_some;
      partitions_few = counts.partitions_few;
      slots_some = counts.slots_some;
      slots_few = counts.slots_few;
      lines_few = counts.lines_few;
      each_slot = λ i l. slot_in_range n (slot_of b i) (all_fit (slot_fits n) SlotRange no_slot 0 b.slots second.0 i l);
      each_line = λ k l. line_in_range n (line_at b k) (all_fit (line_fits n) LineRange no_line 0 b.lines third.0 k l);
      check_few = overheads.0;
      reschedule_few = overheads.1;
      switch_few = overheads.2;
    }

pub none_refused : (b : Layout) → InRange b → is_some (fault b) ≡ false
none_refused b r =
    let n = b.partitions in
    let counts : CountsInRange n (length b.slots) (length b.lines) =
    record {
      partitions_some = r.partitions_some;
      partitions_few = r.partitions_few;
      slots_some = r.slots_some;
      slots_few = r.slots_few;
      lines_few = r.lines_few;
    } in
    both (count_fault n (length b.slots) (length b.lines)) _ (counts_pass n (length b.slots) (length b.lines) counts)
    (both (slot_fault n b.slots) _
    (no_fault (slot_fits n) SlotRange no_slot 0 b.slots (λ i l. slot_fits_lem n (slot_of b i) (r.each_slot i l)))
    (both (line_fault n b.lines) (overhead_fault b.overheads)
    (no_fault (line_fits n) LineRange no_line 0 b.lines (λ k l. line_fits_lem n (line_at b k) (r.each_line k l)))
    (overheads_pass b.overheads r.check_few r.reschedule_few r.switch_few)))
