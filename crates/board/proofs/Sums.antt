-- The cycle of slots as the sum of a chain of iterators.
use Rattle.std.proofs.Common.{◌≡◌, ℕ, ◌+◌, List, [], ◌∷◌, sum_by, refl, ap, ◌∙◌}
use Rattle.std.proofs.lemmas.List.Sums.{sum_by-cons}
use Rattle.model.specs.declared.board.Slot.{Slot}
use Rattle.model.specs.Board.{cycle_of}

abbrev ticks_of : Slot → ℕ
ticks_of s = s.ticks

pub cycle_sum : (ss : List Slot) → sum_by ticks_of ss ≡ cycle_of ss
cycle_sum [] = refl
cycle_sum (s ∷ ss) = sum_by-cons ticks_of s ss ∙ ap (λ n. s.ticks + n) (cycle_sum ss)
