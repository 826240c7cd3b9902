-- Jitter curves: an event in each period, late by a jitter at most.
use Rattle.std.specs.Prelude.{ℕ, ◌+◌, cond, Option, ◌==◌, nat_le}
use Rattle.model.specs.declared.refusal.Refusal.{Refusal}
use Rattle.model.specs.declared.refusal.Refusal.TheVariants.{Setting}
use Rattle.model.specs.Limits.{in_range, longest_setting}
use Rattle.model.specs.Counting.{up}
use Rattle.model.specs.Board.{unless, or_else}
use Rattle.curve.specs.declared.jitter.Jitter.{Jitter}

pub record JitterState : Type 0 where
  pub period : ℕ
  pub jitter : ℕ

-- an event in each p ticks, late by j at most
abbrev pub periodic : ℕ → ℕ → JitterState
periodic p j = record { period = p; jitter = j }

-- what a jitter curve holds
abbrev pub jitter_of : Jitter → JitterState
jitter_of c = periodic c.period c.jitter

-- what a new one holds
abbrev pub jitter_new : JitterState
jitter_new = periodic longest_setting 0

-- the first number of the setting that is out of range
abbrev pub jitter_fault : JitterState → Option Refusal
jitter_fault s = or_else (unless (in_range 1 longest_setting s.period) (Setting 0)) (unless (nat_le s.jitter longest_setting) (Setting 1))

-- the most events in a window of w ticks
abbrev pub jitter_most : JitterState → ℕ → ℕ
jitter_most s w = cond (w == 0) 0 (up (w + s.jitter) s.period)
