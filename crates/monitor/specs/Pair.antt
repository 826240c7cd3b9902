-- A pair: the lines of the first, then those of the second, up to line 15.
use Rattle.std.specs.Prelude.{◌≡◌, ℕ, ◌+◌, ◌-◌, ◌<◌, ◌≤◌, min, Bool, true, false, cond, nat_lt}
use Rattle.model.specs.Monitor.{Asked, Meaning}
use Rattle.monitor.specs.declared.pair.Pair.{Pair}

-- lines below n answer by f, the lines after them up to line 15 by g, and no other line has an answer
abbrev pub joined : {X : Type 0} → ℕ → (ℕ → X) → (ℕ → X) → X → ℕ → X
joined n f g none k = cond (nat_lt k n) (f k) (cond (nat_lt k 16) (g (k - n)) none)

abbrev pub joined_lines : ℕ → ℕ → ℕ
joined_lines m n = min (m + n) 16

abbrev pub joined_ready : ℕ → (ℕ → ℕ → Bool) → (ℕ → ℕ → Bool) → ℕ → ℕ → Bool
joined_ready n f g k t = joined n (λ j. f j t) (λ j. g j t) false k

abbrev pub joined_ceiling : ℕ → (ℕ → ℕ → ℕ) → (ℕ → ℕ → ℕ) → ℕ → ℕ → ℕ
joined_ceiling n f g k w = joined n (λ j. f j w) (λ j. g j w) 0 k

abbrev pub joined_left : ℕ → (ℕ → ℕ → ℕ → ℕ) → (ℕ → ℕ → ℕ → ℕ) → ℕ → ℕ → ℕ → ℕ
joined_left n f g k a b = joined n (λ j. f j a b) (λ j. g j a b) 0 k

module _ {A B : Type 0} (first : A → ℕ) where
  abbrev pub pair_lines : (B → ℕ) → Pair A B → ℕ
  pair_lines second m = joined_lines (first m.first) (second m.second)

  abbrev pub pair_ready : (A → ℕ → ℕ → Bool) → (B → ℕ → ℕ → Bool) → Pair A B → ℕ → ℕ → Bool
  pair_ready f g m = joined_ready (first m.first) (f m.first) (g m.second)

  abbrev pub pair_ceiling : (A → ℕ → ℕ → ℕ) → (B → ℕ → ℕ → ℕ) → Pair A B → ℕ → ℕ → ℕ
  pair_ceiling f g m = joined_ceiling (first m.first) (f m.first) (g m.second)

  -- one permit of a line spent: by the part that has the line, and the other is as before
  abbrev pub spent_in : Bool → (A → ℕ → ℕ → A → Type 0) → (B → ℕ → ℕ → B → Type 0) → Pair A B → ℕ → ℕ → Pair A B → Type 0
  spent_in true f g m k t n = f m.first k t n.first × (n.second ≡ m.second)
  spent_in false f g m k t n = g m.second (k - first m.first) t n.second × (n.first ≡ m.first)

  abbrev pub pair_spent : (A → ℕ → ℕ → A → Type 0) → (B → ℕ → ℕ → B → Type 0) → Pair A B → ℕ → ℕ → Pair A B → Type 0
  pair_spent f g m k t n = spent_in (nat_lt k (first m.first)) f g m k t n

  abbrev pub pair_left : (A → ℕ → ℕ → ℕ → ℕ) → (B → ℕ → ℕ → ℕ → ℕ) → Pair A B → ℕ → ℕ → ℕ → ℕ
  pair_left f g m = joined_left (first m.first) (f m.first) (g m.second)

module _ {A B : Type 0} (means : Meaning A) (means' : Meaning B) where
  -- the part that has the line was asked, and the other is as before
  pub record PartAsked (m : Pair A B) (k t : ℕ) (r : Bool) (n : Pair A B) : Type 0 where
    pub in_first : k < means.lines m.first → Asked means m.first k t r n.first × (n.second ≡ m.second)
    pub in_second :
        means.lines m.first ≤ k → k < 16
        → Asked means' m.second (k - means.lines m.first) t r n.second × (n.first ≡ m.first)
