-- What a monitor means: which lines may be permitted when, how often in a window, and what an answer changes.
use Rattle.std.specs.Prelude.{◌≡◌, ℕ, ◌+◌, ◌-◌, ◌<◌, ◌≤◌, Bool, true, false}
use Rattle.model.specs.Limits.{end, instants, largest}

-- The laws of one monitor, by its number of lines, whether line k is ready at instant t, the ceiling of line k on the permits in a
-- window of w ticks, and the permits that line k can still get at instants from a up to, not including, b.
pub record MonitorLaws (lines : ℕ) (ready : ℕ → ℕ → Bool) (ceiling : ℕ → ℕ → ℕ) (left : ℕ → ℕ → ℕ → ℕ) : Type 0 where
  pub few : lines ≤ 16
  -- what is left fits the ceiling of the window
  pub within : (k a b : ℕ) → left k a b ≤ ceiling k (b - a)
  -- what is left does not grow as the window starts later
  pub eases : (k a c b : ℕ) → a ≤ c → left k c b ≤ left k a b
  -- a ceiling is 0 for no ticks, never falls as the window grows, and is bounded
  pub starts : (k : ℕ) → ceiling k 0 ≡ 0
  pub grows : (k v w : ℕ) → v ≤ w → ceiling k v ≤ ceiling k w
  pub bounded : (k w : ℕ) → ceiling k w ≤ largest
  -- an unknown line is never ready and has ceiling 0
  pub unready : (k t : ℕ) → lines ≤ k → ready k t ≡ false
  pub unknown : (k w : ℕ) → lines ≤ k → ceiling k w ≡ 0
  -- no instant past the end is ready, and a window longer than all instants counts as all of them
  pub past : (k t : ℕ) → end < t → ready k t ≡ false
  pub long : (k w : ℕ) → instants < w → ceiling k w ≡ ceiling k instants

-- what the monitors of a type mean: how many lines one has, and of line k whether it is ready at instant t, the ceiling in a window of w
-- ticks, and the permits that it can still get at instants from a up to, not including, b
pub record Meaning (M : Type 0) : Type 0 where
  pub lines : M → ℕ
  pub ready : M → ℕ → ℕ → Bool
  pub ceiling : M → ℕ → ℕ → ℕ
  pub left : M → ℕ → ℕ → ℕ → ℕ

-- the meaning with these four parts
abbrev pub meant : {M : Type 0} → (M → ℕ) → (M → ℕ → ℕ → Bool) → (M → ℕ → ℕ → ℕ) → (M → ℕ → ℕ → ℕ → ℕ) → Meaning M
meant lines ready ceiling left = record { lines = lines; ready = ready; ceiling = ceiling; left = left }

-- every monitor of a type has the laws
abbrev pub Lawful : {M : Type 0} → Meaning M → Type 0
Lawful {M = M} means = (m : M) → MonitorLaws (means.lines m) (means.ready m) (means.ceiling m) (means.left m)

module _ {M : Type 0} (means : Meaning M) where
  -- all that is known of the monitor n that m becomes by permitting line k at instant t; each kind says more of its own
  pub record Permitted (m : M) (k t : ℕ) (n : M) : Type 0 where
    pub same_lines : means.lines n ≡ means.lines m
    pub same_ceilings : (j w : ℕ) → means.ceiling n j w ≡ means.ceiling m j w
    pub not_before : (s : ℕ) → s < t → means.ready n k s ≡ false
    pub falls : (j a b : ℕ) → means.left n j a b ≤ means.left m j a b
    pub spends : (a b : ℕ) → a ≤ t → t < b → 1 + means.left n k t b ≤ means.left m k a b

  -- asked for line k at instant t, the monitor m answers r and becomes n
  pub record Asked (m : M) (k t : ℕ) (r : Bool) (n : M) : Type 0 where
    pub answer : r ≡ means.ready m k t
    pub on_no : r ≡ false → n ≡ m
    pub on_yes : r ≡ true → Permitted m k t n
