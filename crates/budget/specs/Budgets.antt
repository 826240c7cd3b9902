-- A budget is lawful, and a permit of it spends one of what is left.
use Rattle.std.specs.Prelude.{◌≡◌, ℕ, ◌+◌, ◌-◌, ◌*◌, ◌/◌, ◌<◌, ◌≤◌, max, true, cond, ◌==◌, nat_lt, refl}
use Rattle.std.proofs.Common.{⊎_elim, le_trans, le_refl, arith}
use Rattle.std.proofs.Math.Nat.{lt-div-mul-add}
use Rattle.std.proofs.lemmas.Nat.{mul-le, div_below}
use Rattle.std.proofs.lemmas.Bool.{cases_lt}
use Rattle.std.proofs.lemmas.Bool.Decides.{nat_tests}
use Rattle.model.specs.Counting.{up}
use Rattle.model.specs.Limits.{instants, largest}
use Rattle.model.specs.Monitor.{MonitorLaws}
use Rattle.budget.specs.Budget.{BudgetState, used_in, spare, remaining, budget_rule, budget_most, budget_rest, budget_ready, budget_ceiling, budget_left, budget_after}
use Rattle.windows.proofs.Up.{div_mono, up_mono, up_within}
use Rattle.monitor.proofs.OneLine.{LineLaws, Spent, one_laws}

-- what every budget keeps
pub record Kept (s : BudgetState) : Type 0 where
  pub few : s.permits ≤ 64
  pub long : 1 ≤ s.period
  pub within : s.used ≤ s.permits

-- from one instant to another there are no more periods than their distance takes, and one
periods_between : (a f d : ℕ) → 1 ≤ d → a ≤ f → f / d ≤ a / d + up (f - a) d
periods_between a f d some h =
    let start = lt-div-mul-add {a = a} {b = d} some in
    let width = lt-div-mul-add {a = (f - a) + (d - 1)} {b = d} some in
    let all : f < (a / d + up (f - a) d + 1) * d = spread a f d (a / d) (up (f - a) d) some h start width in
    let below : f / d < a / d + up (f - a) d + 1 = div_below f d (a / d + up (f - a) d + 1) some all in omega arith
  where
    spread : (a f d q r : ℕ) → 1 ≤ d → a ≤ f → a < q * d + d → (f - a) + (d - 1) < r * d + d → f < (q + r + 1) * d
    spread a f d q r some h start width = omega arith

-- fewer periods hold fewer permits, whatever was used of them
eased : (n v u x y f g : ℕ) → u ≤ n → v ≤ x → x ≤ y → f ≤ g → (x < y → f + n ≤ g) → f - cond (y == v) u 0 ≤ g - cond (x == v) u 0
eased n v u x y f g few l h same more =
    ⊎_elim
    (λ (k : x < y). let less = more k in grind (arith, nat_tests))
    (λ (k : y ≤ x). let is : x ≡ y = omega arith in rw is (omega arith))
    (cases_lt x y)

spare_eases : (s : BudgetState) (x y z : ℕ) → Kept s → s.latest / s.period ≤ x → x ≤ y → y ≤ z → spare s y z ≤ spare s x z
spare_eases s x y z k l h le =
    eased s.permits (s.latest / s.period) s.used x y (s.permits * (z - y + 1)) (s.permits * (z - x + 1)) k.within l h
    (mul-le s.permits (z - y + 1) s.permits (z - x + 1) (omega arith) (omega arith))
    (λ lt. wider s.permits (z - y + 1) (z - x + 1) (omega arith))
  where
    wider : (n a b : ℕ) → a < b → n * a + n ≤ n * b
    wider n a b h = omega (arith, mul-le n (a + 1) n b (omega arith) (omega arith))

-- what holds of the permits left in a window that is not empty holds of any window
windowed : (a b e f g : ℕ) → a ≤ b → (b < e → f ≤ g) → cond (nat_lt b e) f 0 ≤ cond (nat_lt a e) g 0
windowed a b e f g h under =
    ⊎_elim (λ (l : b < e). let x = under l in grind (arith, nat_tests)) (λ (l : e ≤ b). grind (arith, nat_tests)) (cases_lt b e)

remaining_eases : (s : BudgetState) (a b e : ℕ) → Kept s → s.latest ≤ a → a ≤ b → remaining s b e ≤ remaining s a e
remaining_eases s a b e k l h =
    windowed a b e (spare s (b / s.period) ((e - 1) / s.period)) (spare s (a / s.period) ((e - 1) / s.period)) h
    (λ lt.
    spare_eases s (a / s.period) (b / s.period) ((e - 1) / s.period) k
    (div_mono s.latest a s.period k.long l) (div_mono a b s.period k.long h) (div_mono b (e - 1) s.period k.long (omega arith)))

budget_within : (s : BudgetState) (a e : ℕ) → Kept s → remaining s a e ≤ budget_most s (e - a)
budget_within s a e k =
    ⊎_elim
    (λ (l : a < e).
    let between = periods_between a (e - 1) s.period k.long (omega arith) in
    let same : (e - a) - 1 ≡ (e - 1) - a = omega arith in
    let more =
    mul-le s.permits ((e - 1) / s.period - a / s.period + 1) s.permits (up ((e - a) - 1) s.period + 1)
    (le_refl s.permits) (rw same (omega arith)) in
    under a e (s.permits * ((e - 1) / s.period - a / s.period + 1)) (used_in s (a / s.period)) _ l more)
    (λ (l : e ≤ a). grind (arith, nat_tests))
    (cases_lt a e)
  where
    under : (a e f u g : ℕ) → a < e → f ≤ g → cond (nat_lt a e) (f - u) 0 ≤ cond (e - a == 0) 0 g
    under a e f u g l h = grind (arith, nat_tests)

budget_grows : (s : BudgetState) (v w : ℕ) → Kept s → v ≤ w → budget_most s v ≤ budget_most s w
budget_grows s v w k h =
    stepped v w (s.permits * (up (v - 1) s.period + 1)) (s.permits * (up (w - 1) s.period + 1)) h
    (mul-le s.permits (up (v - 1) s.period + 1) s.permits (up (w - 1) s.period + 1) (le_refl s.permits)
    (omega (arith, up_mono (v - 1) (w - 1) s.period k.long (omega arith))))
  where
    stepped : (v w f g : ℕ) → v ≤ w → f ≤ g → cond (v == 0) 0 f ≤ cond (w == 0) 0 g
    stepped v w f g h l = grind (arith, nat_tests)

budget_bounded : (s : BudgetState) (w : ℕ) → Kept s → w ≤ instants → budget_most s w ≤ largest
budget_bounded s w k h =
    capped w (s.permits * (up (w - 1) s.period + 1))
    (le_trans
    (mul-le s.permits (up (w - 1) s.period + 1) 64 4000000002 k.few (omega (arith, up_within (w - 1) s.period k.long)))
    (omega arith))
  where
    capped : (w f : ℕ) → f ≤ largest → cond (w == 0) 0 f ≤ largest
    capped w f h = grind (arith, nat_tests)

budget_line : (s : BudgetState) → Kept s → LineLaws (budget_most s) (budget_rest s)
budget_line s k = record {
  within = λ a e. le_trans (budget_within s (max a s.latest) e k) (budget_grows s (e - max a s.latest) (e - a) k (omega arith));
  eases = λ a c e h. remaining_eases s (max a s.latest) (max c s.latest) e k (omega arith) (omega arith);
  starts = refl;
  grows = λ v w h. budget_grows s v w k h;
  bounded = λ w h. budget_bounded s w k h;
}

pub budget_laws : (s : BudgetState) → Kept s → MonitorLaws 1 (budget_ready s) (budget_ceiling s) (budget_left s)
budget_laws s k = one_laws (budget_rule s) (budget_most s) (budget_rest s) (budget_line s k)

-- after a permit in period x no period from there on has more left
spare_falls : (s : BudgetState) (t y z : ℕ) → s.latest / s.period ≤ t / s.period → t / s.period ≤ y → spare (budget_after s t) y z ≤ spare s y z
spare_falls s t y z l h = fewer (s.permits * (z - y + 1)) (s.latest / s.period) (t / s.period) y s.used l h
  where
    fewer : (f v x y u : ℕ) → v ≤ x → x ≤ y → f - cond (y == x) (cond (x == v) u 0 + 1) 0 ≤ f - cond (y == v) u 0
    fewer f v x y u l h = grind (arith, nat_tests)

-- and its own has one less
spare_spends : (s : BudgetState) (t z : ℕ) → used_in s (t / s.period) < s.permits → 1 + spare (budget_after s t) (t / s.period) z ≤ spare s (t / s.period) z
spare_spends s t z h =
    less s.permits (s.permits * (z - t / s.period + 1)) (t / s.period) (used_in s (t / s.period)) h
    (le_trans (omega arith) (mul-le s.permits 1 s.permits (z - t / s.period + 1) (le_refl s.permits) (omega arith)))
  where
    less : (n f x u : ℕ) → u < n → n ≤ f → 1 + (f - cond (x == x) (u + 1) 0) ≤ f - u
    less n f x u h l = grind (arith, nat_tests)

remaining_spends :
    (s : BudgetState) (t e : ℕ) → used_in s (t / s.period) < s.permits → t < e → 1 + budget_rest (budget_after s t) t e ≤ remaining s t e
remaining_spends s t e fewer l =
    let same : max t t ≡ t = omega arith in
    rw same (one_less t e (spare (budget_after s t) (t / s.period) ((e - 1) / s.period)) (spare s (t / s.period) ((e - 1) / s.period)) l (spare_spends s t ((e - 1) / s.period) fewer))
  where
    one_less : (t e f g : ℕ) → t < e → 1 + f ≤ g → 1 + cond (nat_lt t e) f 0 ≤ cond (nat_lt t e) g 0
    one_less t e f g l h = grind (arith, nat_tests)

pub budget_spent : (s : BudgetState) (t : ℕ) → Kept s → budget_rule s t ≡ true → Spent budget_rule budget_most budget_rest s t (budget_after s t)
budget_spent s t k ready =
    let late : s.latest ≤ t = grind (arith, nat_tests) in
    let fewer : used_in s (t / s.period) < s.permits = grind (arith, nat_tests) in
    let since = div_mono s.latest t s.period k.long late in
    record {
      same = λ w. refl;
      not_before = λ u h. grind (arith, nat_tests);
      falls = λ a e.
          le_trans
          (windowed (max a t) (max a t) e
          (spare (budget_after s t) (max a t / s.period) ((e - 1) / s.period)) (spare s (max a t / s.period) ((e - 1) / s.period)) (le_refl (max a t))
          (λ l. spare_falls s t (max a t / s.period) ((e - 1) / s.period) since (div_mono t (max a t) s.period k.long (omega arith))))
          (remaining_eases s (max a s.latest) (max a t) e k (omega arith) (omega arith));
      spends = λ a e h l.
          le_trans (remaining_spends s t e fewer l) (remaining_eases s (max a s.latest) t e k (omega arith) (omega arith));
    }
