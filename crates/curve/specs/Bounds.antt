-- What the search for a response-time bound answers.
use Rattle.std.specs.Prelude.{◌≡◌, ℕ, Err, MatchBool, Result, MatchResult, nat_lt}
use Rattle.model.specs.declared.refusal.Refusal.{Refusal}
use Rattle.model.specs.declared.refusal.Refusal.TheVariants.{NoSuch, NoBound}
use Rattle.model.specs.Board.{Layout}
use Rattle.model.specs.Demand.{Bound, Boundless}

module _ (b : Layout) (ceiling most : ℕ → ℕ → ℕ) where
  -- the bound of partition p, or that it has none; a partition that the board lacks is refused
  abbrev pub BoundFound : ℕ → Result ℕ Refusal → Type 0
  BoundFound p r =
      MatchBool (nat_lt p b.partitions)
      (MatchResult r (λ x. Bound b ceiling most p x) (λ e. (e ≡ NoBound p) × Boundless b ceiling most p))
      (r ≡ Err (NoSuch p))

-- no two answers for one partition differ
abbrev pub BoundFoundOnce : Type 0
BoundFoundOnce =
    (b : Layout) (ceiling most : ℕ → ℕ → ℕ) (p : ℕ) (r s : Result ℕ Refusal)
    → BoundFound b ceiling most p r → BoundFound b ceiling most p s → r ≡ s
