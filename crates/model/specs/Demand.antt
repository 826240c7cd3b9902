-- The demand on a partition in a window, and its response-time bound: the least window that holds its own demand.
use Rattle.std.specs.Prelude.{ℕ, ◌+◌, ◌-◌, ◌*◌, ◌<◌, ◌≤◌, min, cond, length}
use Rattle.model.specs.Counting.{sum_to, up}
use Rattle.model.specs.Limits.{end}
use Rattle.model.specs.Board.{Layout, cycle, own, line_at, foreign, full_cost, grant_cost}

-- the ticks of a window of x that slots of other partitions can take: whole cycles, each less p's own ticks
abbrev pub away_most : Layout → ℕ → ℕ → ℕ
away_most b p x = up x (cycle b) * (cycle b - own b p)

-- what n events of line k, g of them granted, cost partition p: top handling and check for each; the handlers and the granted
-- switches of its own lines; the whole grants of foreign lines
abbrev pub share : Layout → ℕ → ℕ → ℕ → ℕ → ℕ
share b p k n g =
    n * ((line_at b k).top + b.overheads.check)
    + cond (foreign b p k) (g * full_cost b k) (n * (line_at b k).handler + g * grant_cost b.overheads)

module _ (b : Layout) (ceiling most : ℕ → ℕ → ℕ) where
  -- the grants of line k in a window of x: no more than its events, and no more than its ceiling
  abbrev pub grants : ℕ → ℕ → ℕ
  grants k x = min (most k x) (ceiling k x)

  -- the demand on partition p in a window of x ticks
  abbrev pub demand : ℕ → ℕ → ℕ
  demand p x = sum_to (length b.lines) (λ k. share b p k (most k x) (grants k x)) + away_most b p x

  -- x is the bound of partition p: the least window from one tick to the whole clock that holds its own demand
  pub record Bound (p x : ℕ) : Type 0 where
    pub some : 1 ≤ x
    pub within : x ≤ end
    pub meets : demand p x ≤ x
    pub least : (y : ℕ) → 1 ≤ y → demand p y ≤ y → x ≤ y

  -- partition p has no bound
  abbrev pub Boundless : ℕ → Type 0
  Boundless p = (y : ℕ) → 1 ≤ y → y ≤ end → y < demand p y
