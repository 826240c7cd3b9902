-- A monitor of one line: line 0 answers by its kind's rule, and every other line is unknown.
use Rattle.std.specs.Prelude.{ℕ, min, Bool, false, cond, ◌==◌, nat_le}
use Rattle.model.specs.Limits.{end, instants}

-- ready by the rule, up to the clock's last instant
abbrev pub one_ready : (ℕ → Bool) → ℕ → ℕ → Bool
one_ready rule k t = cond (k == 0) (cond (nat_le t end) (rule t) false) false

-- the most permits in a window; one longer than all instants counts as all of them
abbrev pub one_ceiling : (ℕ → ℕ) → ℕ → ℕ → ℕ
one_ceiling most k w = cond (k == 0) (most (min w instants)) 0

-- the permits that can still come from a up to, not including, b: none past the clock's end
abbrev pub one_left : (ℕ → ℕ → ℕ) → ℕ → ℕ → ℕ → ℕ
one_left rest k a b = cond (k == 0) (rest a (min b instants)) 0
