-- What a strobe spends of its monitor: nothing, or one permit.
use Rattle.std.specs.Prelude.{◌≡◌, ℕ, ◌^◌, ◌⊎◌}

-- no line was permitted, and the monitor is as before; or one line was, and one permit of it is spent
abbrev pub SpentOnce : {S : Type 0} → (S → ℕ → ℕ → S → Type 0) → S → ℕ → ℕ → S → Type 0
SpentOnce spent m permitted t n = ((permitted ≡ 0) × (n ≡ m)) ⊎ ((k : ℕ) × (permitted ≡ 2 ^ k) × spent m k t n)
