-- An advance of some ticks with 64 places of each runs one at least.
use Rattle.std.proofs.Common.{◌≡◌, ℕ, zero, suc, ◌-◌, ◌<◌, ◌≤◌, Bool, true, false, cond, leb, List, [], ◌∷◌, length, Some, None, Ok, Option, arith}
use Rattle.model.specs.declared.run.Event.{Event}
use Rattle.model.specs.declared.run.Span.{Span}
use Rattle.model.specs.declared.run.Finished.{Finished}
use Rattle.model.specs.declared.run.Ran.{Ran}
use Rattle.model.specs.Limits.{end}
use Rattle.model.specs.Board.{Layout, line_at, owner_at}
use Rattle.model.specs.Tick.{State, Grant, ends_at, in_slot, in_grant, by_rules}
use Rattle.model.specs.Core.{Core, Fits, AdvancedBy, Advanced}
use Rattle.player.specs.Playing.{blank_spans, blank_events}

one_ends : (t : Bool) (f : Finished) → length (cond t (f ∷ []) []) ≤ 1
one_ends true f = omega arith
one_ends false f = omega arith

few_end : (at : ℕ) (q : List Event) → length (ends_at at q) ≤ 1
few_end at [] = omega arith
few_end at (e ∷ es) = one_ends (leb e.left 1) _

module _ (b : Layout) (s : State) where
  few_in_slot : (q : List Event) → length (in_slot b s q).ended ≤ 1
  few_in_slot [] = omega arith
  few_in_slot (e ∷ es) = few_end (suc s.instant) (s.queue (owner_at b s.instant))

  few_in_grant : (k l w t : ℕ) → length (in_grant b s k l w t).ended ≤ 1
  few_in_grant k (suc l) w t = omega arith
  few_in_grant k zero (suc w) t = few_end (suc s.instant) (s.queue (line_at b k).owner)
  few_in_grant k zero zero (suc t) = omega arith
  few_in_grant k zero zero zero = few_in_slot (s.queue (owner_at b s.instant))

  -- a tick ends one event at most
  few_ended : (n : ℕ) (g : Option Grant) → length (by_rules b s n g).ended ≤ 1
  few_ended (suc n) g = omega arith
  few_ended zero (Some g) = few_in_grant g.line g.lead g.work g.trail
  few_ended zero None = few_in_slot (s.queue (owner_at b s.instant))

  fits_one : Fits b s 64 64 1
  fits_one = record { spans_fit = omega arith; events_fit = let few = few_ended s.owed s.granted in omega arith }

module _ {S : Type 0} (x : Core S) (n : ℕ) (ran : Ran) (y : Core S) (spans : List Span) (events : List Finished) where
  runs_by : (t : Bool) → AdvancedBy t x n blank_spans blank_events (Ok ran) y spans events → 0 < n → 1 ≤ ran.ticks
  runs_by true a h = a.most 1 h (fits_one x.board x.state)
  runs_by false a h = let z : ◌≡◌ {A = ℕ} 0 1 = cc a.0 in absurd (omega arith)

  -- the ticks left are fewer
  pub runs_one : Advanced x n blank_spans blank_events (Ok ran) y spans events → 0 < n → n - ran.ticks < n
  runs_one a h = let some = runs_by (leb n (end - x.state.instant)) a h in omega arith
