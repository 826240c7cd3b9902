-- The demand: it grows with the window, and fits its figures.
use Rattle.std.proofs.Common.{◌≡◌, ℕ, zero, suc, ◌+◌, ◌-◌, ◌<◌, ◌≤◌, Bool, true, false, cond, length, refl, add-one, arith}
use Rattle.std.proofs.lemmas.Nat.{mul-le}
use Rattle.model.specs.declared.board.Line.{Line}
use Rattle.model.specs.declared.board.Overheads.{Overheads}
use Rattle.board.specs.declared.table.Board.{Board}
use Rattle.board.specs.Held.{held}
use Rattle.model.proofs.Ranges.{in_range_lem}
use Rattle.model.specs.Counting.{sum_to, up}
use Rattle.model.specs.Board.{Layout, cycle, own, line_at, foreign, full_cost, grant_cost}
use Rattle.model.specs.Demand.{share, grants, demand}
use Rattle.model.specs.Curve.{CurveLaws}
use Rattle.model.specs.Limits.{largest}
use Rattle.windows.proofs.Up.{up_mono}

-- a sum of larger terms is larger
sum_le : (n : ℕ) (f g : ℕ → ℕ) → ((k : ℕ) → f k ≤ g k) → sum_to n f ≤ sum_to n g
unfolding sum_to
sum_le zero f g each = omega arith
sum_le (suc n) f g each = let front = sum_le n f g each in let last = each n in omega arith

-- more events and more grants cost more
share_grows : (b : Layout) (p k n m g h : ℕ) → n ≤ m → g ≤ h → share b p k n g ≤ share b p k m h
share_grows b p k n m g h events granted =
    handled (foreign b p k) (mul-le n t m t events (omega arith)) (mul-le g full h full granted (omega arith))
    (mul-le n own m own events (omega arith)) (mul-le g grant h grant granted (omega arith))
  where
    t : ℕ
    t = (line_at b k).top + b.overheads.check

    full : ℕ
    full = full_cost b k

    own : ℕ
    own = (line_at b k).handler

    grant : ℕ
    grant = grant_cost b.overheads

    handled : (f : Bool) {a c d e i j r s : ℕ} → a ≤ c → d ≤ e → i ≤ j → r ≤ s → a + cond f d (i + r) ≤ c + cond f e (j + s)
    handled true q u v w = omega arith
    handled false q u v w = omega arith

-- one term more of a sum
pub sum_more : (n : ℕ) (f : ℕ → ℕ) → sum_to (n + 1) f ≡ sum_to n f + f n
unfolding sum_to
sum_more n f = rw (add-one n) refl

-- the events of a line in a window, and the costs of the line and of the board's overheads
pub record Figures (events : ℕ) (l : Line) (o : Overheads) : Type 0 where
  pub counted : events ≤ largest
  pub top : l.top ≤ 1000
  pub handler : l.handler ≤ 10000
  pub check : o.check ≤ 1000
  pub reschedule : o.reschedule ≤ 1000
  pub switch : o.switch ≤ 1000

pub figures : (b : Board) {lines : ℕ} {most : ℕ → ℕ → ℕ} → CurveLaws lines most → (k x : ℕ) {events : ℕ} {l : Line} {o : Overheads}
    → events ≡ most k x → k < length (held b).lines → l ≡ line_at (held b) k → o ≡ (held b).overheads → Figures events l o
figures b laws k x counted known read over =
    let r = in_range_lem (held b) b.in_range in
    let line = r.each_line k known in
    rw (counted, read, over) (record {
      counted = laws.bounded k x;
      top = line.top_few;
      handler = line.handler_few;
      check = r.check_few;
      reschedule = r.reschedule_few;
      switch = r.switch_few;
    })

module _ (b : Layout) (ceiling most : ℕ → ℕ → ℕ) where
  -- what line k takes from a window of x
  abbrev pub share_in : ℕ → ℕ → ℕ → ℕ
  share_in p x k = share b p k (most k x) (grants b ceiling most k x)

  module _ (some : 1 ≤ cycle b) (ceilings : (k v w : ℕ) → v ≤ w → ceiling k v ≤ ceiling k w) (events : (k v w : ℕ) → v ≤ w → most k v ≤ most k w) where
    -- a longer window has no smaller demand
    pub demand_grows : (p x y : ℕ) → x ≤ y → demand b ceiling most p x ≤ demand b ceiling most p y
    demand_grows p x y le =
        let shares = sum_le (length b.lines) (share_in p x) (share_in p y) (λ k.
        let more = events k x y le in
        let room = ceilings k x y le in
        share_grows b p k (most k x) (most k y) (grants b ceiling most k x) (grants b ceiling most k y) more (omega arith)) in
        let away = mul-le (up x (cycle b)) (cycle b - own b p) (up y (cycle b)) (cycle b - own b p) (up_mono x y (cycle b) some le) (omega arith) in
        omega arith
