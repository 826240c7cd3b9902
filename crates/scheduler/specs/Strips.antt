-- Spans and events written to the front of a caller's buffers.
use Rattle.std.specs.Prelude.{◌≡◌, ℕ, ◌+◌, Bool, false, List, [], ◌∷◌, length, take, drop}
use Rattle.model.specs.declared.run.Kind.TheVariants.{Top}
use Rattle.model.specs.declared.run.Span.{Span}
use Rattle.model.specs.Tape.{alike, grown}

-- the first items of a buffer of a given length are now these, and every other place is as before
pub record Fronted {X : Type 0} (items before behind : List X) : Type 0 where
  pub front : take (length items) behind ≡ items
  pub rest : drop (length items) behind ≡ drop (length items) before
  pub same_length : length behind ≡ length before

-- whether one span more lengthens the last of a list
abbrev pub lengthens_last : List Span → Span → Bool
lengthens_last [] x = false
lengthens_last (y ∷ []) x = alike y x
lengthens_last (z ∷ y ∷ ys) x = lengthens_last (y ∷ ys) x

-- what stands for a span past the last
abbrev pub no_span : Span
no_span = record { first = 0; ticks = 0; kind = Top; who = 0; owner = 0 }

-- the ticks of all spans together
abbrev pub ticks_of : List Span → ℕ
ticks_of [] = 0
ticks_of (x ∷ xs) = x.ticks + ticks_of xs

-- what one span more comes to: how many are written then, and the buffer
pub record PutThere (spans : List Span) (written : ℕ) (next : Span) (count : ℕ) (after : List Span) : Type 0 where
  pub counted : count ≡ length (grown (take written spans) next)
  pub fronted : Fronted (grown (take written spans) next) spans after
