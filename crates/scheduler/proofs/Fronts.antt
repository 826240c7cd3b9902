-- Spans at the front of a buffer: one more lengthens the last or takes the next place.
use Rattle.std.proofs.Common.{◌≡◌, ℕ, zero, suc, ◌+◌, ◌-◌, ◌<◌, ◌≤◌, Bool, true, false, cond, List, [], ◌∷◌, ◌++◌, length, get_or, take, drop, set, sym, refl, ap, ◌∙◌, subst, arith, length-append}
use Rattle.std.proofs.lemmas.List.{take_more, take_more_set, drop-set-lt, length-set, length-take-le, get_or-take}
use Rattle.model.specs.declared.run.Span.{Span}
use Rattle.model.specs.Tape.{alike, longer, grown}
use Rattle.scheduler.specs.Strips.{Fronted, ticks_of, lengthens_last, no_span, PutThere}
use Rattle.scheduler.proofs.Growing.{behind}

grown_push : (ys : List Span) (y x : Span) → grown (ys ++ y ∷ []) x ≡ cond (alike y x) (ys ++ longer y x.ticks ∷ []) (ys ++ y ∷ x ∷ [])
grown_push [] y x = refl
grown_push (z ∷ ys) y x =
    behind z (ys ++ y ∷ []) x (omega (arith, length-append ys (y ∷ []))) ∙ (ap (λ l. z ∷ l) (grown_push ys y x) ∙ by (alike y x))
  where
    by : (t : Bool) → z ∷ cond t (ys ++ longer y x.ticks ∷ []) (ys ++ y ∷ x ∷ []) ≡ cond t (z ∷ (ys ++ longer y x.ticks ∷ [])) (z ∷ (ys ++ y ∷ x ∷ []))
    by true = refl
    by false = refl

last_is : (ys : List Span) (y x : Span) → lengthens_last (ys ++ y ∷ []) x ≡ alike y x
last_is [] y x = refl
last_is (z ∷ []) y x = refl
last_is (z ∷ v ∷ ys) y x = last_is (v ∷ ys) y x

pub length_grown : (xs : List Span) (x : Span) → length (grown xs x) ≡ cond (lengthens_last xs x) (length xs) (suc (length xs))
length_grown [] x = refl
length_grown (y ∷ []) x = by (alike y x)
  where
    by : (v : Bool) → length (cond v (longer y x.ticks ∷ []) (y ∷ x ∷ [])) ≡ cond v 1 2
    by true = refl
    by false = refl
length_grown (z ∷ y ∷ ys) x = ap suc (length_grown (y ∷ ys) x) ∙ by (lengthens_last (y ∷ ys) x)
  where
    by : (v : Bool) → suc (cond v (length (y ∷ ys)) (suc (length (y ∷ ys)))) ≡ cond v (suc (length (y ∷ ys))) (suc (suc (length (y ∷ ys))))
    by true = refl
    by false = refl

pub appended : (xs : List Span) (x : Span) → lengthens_last xs x ≡ false → grown xs x ≡ xs ++ x ∷ []
appended [] x h = refl
appended (y ∷ []) x h = ap (λ v. cond v (longer y x.ticks ∷ []) (y ∷ x ∷ [])) h
appended (z ∷ y ∷ ys) x h = ap (λ l. z ∷ l) (appended (y ∷ ys) x h)

module _ (xs : List Span) (w : ℕ) (x : Span) (some : 0 < w) (inside : w ≤ length xs) where
  front_is : take w xs ≡ take (w - 1) xs ++ get_or xs (w - 1) no_span ∷ []
  front_is = let next : w - 1 + 1 ≡ w = omega arith in ap (λ n. take n xs) (sym next) ∙ take_more xs (w - 1) no_span (omega arith)

  pub last_alike : lengthens_last (take w xs) x ≡ alike (get_or xs (w - 1) no_span) x
  last_alike = ap (λ l. lengthens_last l x) front_is ∙ last_is (take (w - 1) xs) (get_or xs (w - 1) no_span) x

  pub lengthened : lengthens_last (take w xs) x ≡ true → grown (take w xs) x ≡ take w (set xs (w - 1) (longer (get_or xs (w - 1) no_span) x.ticks))
  lengthened is =
      let next : w - 1 + 1 ≡ w = omega arith in
      let y = longer (get_or xs (w - 1) no_span) x.ticks in
      ap (λ l. grown l x) front_is
      ∙ (grown_push (take (w - 1) xs) (get_or xs (w - 1) no_span) x
      ∙ (ap (λ t. cond t (take (w - 1) xs ++ y ∷ []) (take (w - 1) xs ++ get_or xs (w - 1) no_span ∷ x ∷ [])) (sym last_alike ∙ is)
      ∙ (sym (take_more_set xs (w - 1) y (omega arith)) ∙ ap (λ n. take n (set xs (w - 1) y)) next)))

-- one item more, put into the next place
pub append_fronted : {X : Type 0} (xs : List X) (w : ℕ) (x : X) → w < length xs → Fronted (take w xs ++ x ∷ []) xs (set xs w x)
append_fronted xs w x l =
    let long : length (take w xs ++ x ∷ []) ≡ w + 1 = length-append (take w xs) (x ∷ []) ∙ ap (λ n. n + 1) (length-take-le w xs (omega arith)) in
    record {
      front = ap (λ n. take n (set xs w x)) long ∙ take_more_set xs w x l;
      rest = ap (λ n. drop n (set xs w x)) long ∙ (drop-set-lt (w + 1) xs w x (omega arith) ∙ ap (λ n. drop n xs) (sym long));
      same_length = length-set xs w x;
    }

pub put_appends : (xs : List Span) (w : ℕ) (x : Span) (r : ℕ) (after : List Span) → w < length xs → lengthens_last (take w xs) x ≡ false → r ≡ w + 1 → after ≡ set xs w x
    → PutThere xs w x r after
put_appends xs w x r after l is count after_is =
    let all = appended (take w xs) x is in
    let long : length (grown (take w xs) x) ≡ w + 1 = ap length all ∙ (length-append (take w xs) (x ∷ []) ∙ ap (λ n. n + 1) (length-take-le w xs (omega arith))) in
    record {
      counted = count ∙ sym long;
      fronted = subst (λ g. Fronted g xs after) (sym all) (subst (Fronted (take w xs ++ x ∷ []) xs) (sym after_is) (append_fronted xs w x l));
    }

pub put_lengthens : (xs : List Span) (w : ℕ) (x : Span) (r : ℕ) (after : List Span) → 0 < w → w ≤ length xs → lengthens_last (take w xs) x ≡ true → r ≡ w
    → after ≡ set xs (w - 1) (longer (get_or xs (w - 1) no_span) x.ticks) → PutThere xs w x r after
put_lengthens xs w x r after some inside is count after_is =
    let y = longer (get_or xs (w - 1) no_span) x.ticks in
    let all = lengthened xs w x some inside is in
    let long : length (grown (take w xs) x) ≡ w = ap length all ∙ length-take-le w (set xs (w - 1) y) (omega (arith, length-set xs (w - 1) y)) in
    record {
      counted = count ∙ sym long;
      fronted =
          record {
            front = ap (λ n. take n after) long ∙ (ap (take w) after_is ∙ sym all);
            rest = ap (λ n. drop n after) long ∙ (ap (drop w) after_is ∙ (drop-set-lt w xs (w - 1) y (omega arith) ∙ ap (λ n. drop n xs) (sym long)));
            same_length = ap length after_is ∙ length-set xs (w - 1) y;
          };
    }

-- a list that has no last lengthens nothing
pub some_last : (xs : List Span) (w : ℕ) (x : Span) → lengthens_last (take w xs) x ≡ true → 0 < w
some_last xs zero x is = absurd (grind arith)
some_last xs (suc w) x is = omega arith

-- the last span's ticks are among those of all
last_ticks : (xs : List Span) (i : ℕ) → i < length xs → (get_or xs i no_span).ticks ≤ ticks_of xs
last_ticks [] i l = absurd (omega arith)
last_ticks (x ∷ xs) zero l = omega arith
last_ticks (x ∷ xs) (suc i) l = omega (arith, last_ticks xs i (omega arith))

pub last_few : (xs : List Span) (w : ℕ) → 0 < w → w ≤ length xs → (get_or xs (w - 1) no_span).ticks ≤ ticks_of (take w xs)
last_few xs w some inside =
    let there = ap (λ (y : Span). y.ticks) (get_or-take w xs (w - 1) no_span (omega arith)) in
    omega (arith, last_ticks (take w xs) (w - 1) (omega (arith, length-take-le w xs inside)))

-- a span that has a place and lengthens nothing takes the next place
pub next_place : (xs : List Span) (w : ℕ) (x : Span) → w ≤ length xs → lengthens_last (take w xs) x ≡ false → length (grown (take w xs) x) ≤ length xs → w < length xs
next_place xs w x inside is fits =
    let long = length_grown (take w xs) x ∙ ap (λ t. cond t (length (take w xs)) (suc (length (take w xs)))) is in
    omega (arith, length-take-le w xs inside)
