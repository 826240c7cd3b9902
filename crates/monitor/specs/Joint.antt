-- A joint: the first monitor as it is, limited by line 0 of the second.
use Rattle.std.specs.Prelude.{◌≡◌, ℕ, min, Bool, true, ◌&&◌}
use Rattle.model.specs.Monitor.{Asked, Meaning}
use Rattle.monitor.specs.declared.joint.Joint.{Joint}

abbrev pub limited_ready : (ℕ → ℕ → Bool) → (ℕ → ℕ → Bool) → ℕ → ℕ → Bool
limited_ready f g k t = f k t && g 0 t

abbrev pub limited_ceiling : (ℕ → ℕ → ℕ) → (ℕ → ℕ → ℕ) → ℕ → ℕ → ℕ
limited_ceiling f g k w = min (f k w) (g 0 w)

abbrev pub limited_left : (ℕ → ℕ → ℕ → ℕ) → (ℕ → ℕ → ℕ → ℕ) → ℕ → ℕ → ℕ → ℕ
limited_left f g k a b = min (f k a b) (g 0 a b)

module _ {A B : Type 0} where
  abbrev pub joint_lines : (A → ℕ) → Joint A B → ℕ
  joint_lines f m = f m.first

  abbrev pub joint_ready : (A → ℕ → ℕ → Bool) → (B → ℕ → ℕ → Bool) → Joint A B → ℕ → ℕ → Bool
  joint_ready f g m = limited_ready (f m.first) (g m.second)

  abbrev pub joint_ceiling : (A → ℕ → ℕ → ℕ) → (B → ℕ → ℕ → ℕ) → Joint A B → ℕ → ℕ → ℕ
  joint_ceiling f g m = limited_ceiling (f m.first) (g m.second)

  -- one permit of a line spent by the first, and one of line 0 by the second
  abbrev pub joint_spent : (A → ℕ → ℕ → A → Type 0) → (B → ℕ → ℕ → B → Type 0) → Joint A B → ℕ → ℕ → Joint A B → Type 0
  joint_spent f g m k t n = f m.first k t n.first × g m.second 0 t n.second

  abbrev pub joint_left : (A → ℕ → ℕ → ℕ → ℕ) → (B → ℕ → ℕ → ℕ → ℕ) → Joint A B → ℕ → ℕ → ℕ → ℕ
  joint_left f g m = limited_left (f m.first) (g m.second)

module _ {A B : Type 0} (means : Meaning A) (means' : Meaning B) where
  -- on a yes both were asked, the second on line 0, and both said yes
  abbrev pub BothAsked : Joint A B → ℕ → ℕ → Bool → Joint A B → Type 0
  BothAsked m k t r n =
      r ≡ true → Asked means m.first k t true n.first × Asked means' m.second 0 t true n.second
