-- How ticks add up: the state, the events ended and the tape of m ticks after k.
use Rattle.std.proofs.Common.{◌≡◌, ℕ, zero, suc, ◌+◌, ◌-◌, ◌<◌, ◌≤◌, Bool, true, false, cond, List, [], ◌∷◌, ◌++◌, length, sym, refl, ap, ◌∙◌, append_assoc, add-zero, add_assoc, add-suc, add-one, arith, length-append}
use Rattle.std.proofs.lemmas.List.{append-nil}
use Rattle.std.proofs.lemmas.Bool.Decides.{nat_tests}
use Rattle.model.specs.declared.run.Span.{Span}
use Rattle.model.specs.Board.{Layout}
use Rattle.model.specs.Tick.{State, tick, after, ended_in}
use Rattle.model.specs.declared.run.Row.{Row}
use Rattle.model.specs.Tape.{alike, longer, grown, span, tape}
use Rattle.model.proofs.TapeTold.{grown_some}

pub after_add : (b : Layout) (s : State) (k m : ℕ) → after b s (k + m) ≡ after b (after b s k) m
after_add b s k zero = ap (after b s) (add-zero k)
after_add b s k (suc m) = ap (after b s) (add-suc k m) ∙ ap (λ t. (tick b t).next) (after_add b s k m)

pub ended_add : (b : Layout) (s : State) (k m : ℕ) → ended_in b s (k + m) ≡ ended_in b s k ++ ended_in b (after b s k) m
ended_add b s k zero = ap (ended_in b s) (add-zero k) ∙ sym (append-nil (ended_in b s k))
ended_add b s k (suc m) =
    ap (ended_in b s) (add-suc k m)
    ∙ (ap (λ l. l ++ (tick b (after b s (k + m))).ended) (ended_add b s k m)
    ∙ (ap (λ t. (ended_in b s k ++ ended_in b (after b s k) m) ++ (tick b t).ended) (after_add b s k m)
    ∙ append_assoc (ended_in b s k) (ended_in b (after b s k) m) (tick b (after b (after b s k) m)).ended))

-- spans of one row are alike
alike_self : (t n u m : ℕ) (r : Row) → alike (span t n r) (span u m r) ≡ true
alike_self t n u m r = grind (arith, nat_tests)

longer_longer : (x : Span) (m n : ℕ) → longer (longer x m) n ≡ longer x (m + n)
longer_longer x m n = λ i. record { first = x.first; ticks = add_assoc x.ticks m n i; kind = x.kind; who = x.who; owner = x.owner }

pub behind : (z : Span) (l : List Span) (x : Span) → 1 ≤ length l → grown (z ∷ l) x ≡ z ∷ grown l x
behind z [] x some = absurd (omega arith)
behind z (y ∷ ys) x some = refl

-- a span put on, and then one tick more of the same row, is the span one tick longer put on
grown_more : (xs : List Span) (t n u : ℕ) (r : Row) → grown (grown xs (span t n r)) (span u 1 r) ≡ grown xs (span t (n + 1) r)
grown_more [] t n u r = ap (λ v. cond v (longer (span t n r) 1 ∷ []) (span t n r ∷ span u 1 r ∷ [])) (alike_self t n u 1 r)
grown_more (y ∷ []) t n u r = by (alike y (span t n r)) refl
  where
    by : (v : Bool) → alike y (span t n r) ≡ v
        → grown (cond v (longer y n ∷ []) (y ∷ span t n r ∷ [])) (span u 1 r) ≡ cond (alike y (span t (n + 1) r)) (longer y (n + 1) ∷ []) (y ∷ span t (n + 1) r ∷ [])
    by true is =
        ap (λ v. cond v (longer (longer y n) 1 ∷ []) (longer y n ∷ span u 1 r ∷ [])) is
        ∙ (ap (λ z. z ∷ []) (longer_longer y n 1) ∙ sym (ap (λ v. cond v (longer y (n + 1) ∷ []) (y ∷ span t (n + 1) r ∷ [])) is))
    by false is =
        ap (λ v. y ∷ cond v (longer (span t n r) 1 ∷ []) (span t n r ∷ span u 1 r ∷ [])) (alike_self t n u 1 r)
        ∙ sym (ap (λ v. cond v (longer y (n + 1) ∷ []) (y ∷ span t (n + 1) r ∷ [])) is)
grown_more (z ∷ y ∷ ys) t n u r =
    behind z (grown (y ∷ ys) (span t n r)) (span u 1 r) (grown_some (y ∷ ys) (span t n r)) ∙ ap (λ l. z ∷ l) (grown_more (y ∷ ys) t n u r)

-- m ticks of one row are one span of m ticks
pub tape_add : (b : Layout) (s : State) (k m : ℕ) (r : Row) → ((i : ℕ) → i < suc m → (tick b (after b (after b s k) i)).row ≡ r)
    → tape b s (k + suc m) ≡ grown (tape b s k) (span (after b s k).instant (suc m) r)
tape_add b s k zero r rows =
    ap (tape b s) (add-one k) ∙ ap (λ x. grown (tape b s k) (span (after b s k).instant 1 x)) (rows 0 (omega arith))
tape_add b s k (suc m) r rows =
    ap (tape b s) (add-suc k (suc m))
    ∙ (ap (λ x. grown (tape b s (k + suc m)) (span (after b s (k + suc m)).instant 1 x)) row
    ∙ (ap (λ l. grown l (span (after b s (k + suc m)).instant 1 r)) (tape_add b s k m r (λ i l. rows i (omega arith)))
    ∙ (grown_more (tape b s k) (after b s k).instant (suc m) (after b s (k + suc m)).instant r
    ∙ ap (λ n. grown (tape b s k) (span (after b s k).instant n r)) (add-one (suc m)))))
  where
    row : (tick b (after b s (k + suc m))).row ≡ r
    row = ap (λ t. (tick b t).row) (after_add b s k (suc m)) ∙ rows (suc m) (omega arith)

-- lengths only grow
pub grown_longer : (xs : List Span) (x : Span) → length xs ≤ length (grown xs x)
grown_longer [] x = omega arith
grown_longer (y ∷ []) x = grown_some (y ∷ []) x
grown_longer (z ∷ y ∷ ys) x = omega (arith, grown_longer (y ∷ ys) x)

tape_later : (b : Layout) (s : State) (k d : ℕ) → length (tape b s k) ≤ length (tape b s (k + d))
tape_later b s k zero = omega (arith, ap (λ n. length (tape b s n)) (add-zero k))
tape_later b s k (suc d) =
    let same = ap (λ n. length (tape b s n)) (add-suc k d) in
    let one = grown_longer (tape b s (k + d)) (span (after b s (k + d)).instant 1 (tick b (after b s (k + d))).row) in
    omega (arith, tape_later b s k d)

pub tape_longer : (b : Layout) (s : State) (j k : ℕ) → j ≤ k → length (tape b s j) ≤ length (tape b s k)
tape_longer b s j k l =
    let apart : j + (k - j) ≡ k = omega arith in
    let same = ap (λ n. length (tape b s n)) apart in
    omega (arith, tape_later b s j (k - j))

pub ended_longer : (b : Layout) (s : State) (j k : ℕ) → j ≤ k → length (ended_in b s j) ≤ length (ended_in b s k)
ended_longer b s j k l =
    let apart : j + (k - j) ≡ k = omega arith in
    let same = ap (λ n. length (ended_in b s n)) apart in
    let parts = ap length (ended_add b s j (k - j)) ∙ length-append (ended_in b s j) (ended_in b (after b s j) (k - j)) in
    omega arith
