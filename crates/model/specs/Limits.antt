-- The numbers that bound every board and every call.
use Rattle.std.specs.Prelude.{ℕ, Bool, ◌&&◌, nat_le}

-- the clock's last instant; it runs from instant 0
abbrev pub end : ℕ
end = 4000000000

-- how many instants there are
abbrev pub instants : ℕ
instants = 4000000001

-- the most permits or arrivals that any window may be said to hold
abbrev pub largest : ℕ
largest = 1000000000000

-- the longest distance, period and jitter that can be set
abbrev pub longest_setting : ℕ
longest_setting = 1000000000

abbrev pub in_range : ℕ → ℕ → ℕ → Bool
in_range low high n = nat_le low n && nat_le n high
