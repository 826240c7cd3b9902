-- The tape tells every tick: spans expanded are the ticks that were run, one by one.
use Rattle.std.proofs.Common.{◌≡◌, ℕ, zero, suc, ◌+◌, ◌≤◌, Bool, true, false, cond, List, [], ◌∷◌, ◌++◌, length, Some, None, Option, sym, refl, ap, ◌∙◌, subst, add-zero, add-suc, suc-add, add-one, arith}
use Rattle.std.proofs.lemmas.Bool.Decides.{nat_tests}
use Rattle.model.specs.declared.run.Event.{Event}
use Rattle.model.specs.declared.run.Finished.{Finished}
use Rattle.model.specs.declared.run.Kind.{Kind}
use Rattle.model.specs.declared.run.Kind.TheVariants.{Top, Switch, Interposed, Bottom, Application}
use Rattle.model.specs.declared.run.Span.{Span}
use Rattle.model.specs.Board.{Layout, owner_at}
use Rattle.model.specs.Tick.{State, Grant, tick, by_rules, in_grant, in_slot, after, ended_in}
use Rattle.model.specs.declared.run.Row.{Row}
use Rattle.model.specs.Tape.{kind_place, alike, longer, grown, span, tape}
use Rattle.model.specs.Seen.{History, TapeTick, tape_tick, ticks_onto, row_of, spans_onto, done_onto}
use Rattle.model.proofs.Steps.{note_tick}

-- one tick moves the clock by one
pub next_instant : (b : Layout) (s : State) → (tick b s).next.instant ≡ suc s.instant
next_instant b s = by s.owed s.granted
  where
    slot : (q : List Event) → (in_slot b s q).next.instant ≡ suc s.instant
    slot [] = refl
    slot (e ∷ es) = refl

    granted : (k l w t : ℕ) → (in_grant b s k l w t).next.instant ≡ suc s.instant
    granted k (suc l) w t = refl
    granted k zero (suc w) t = refl
    granted k zero zero (suc t) = refl
    granted k zero zero zero = slot (s.queue (owner_at b s.instant))

    by : (o : ℕ) (g : Option Grant) → (by_rules b s o g).next.instant ≡ suc s.instant
    by (suc n) g = refl
    by zero (Some g) = granted g.line g.lead g.work g.trail
    by zero None = slot (s.queue (owner_at b s.instant))

pub after_instant : (b : Layout) (s : State) (n : ℕ) → (after b s n).instant ≡ s.instant + n
after_instant b s zero = sym (add-zero s.instant)
after_instant b s (suc n) = next_instant b (after b s n) ∙ (ap suc (after_instant b s n) ∙ sym (add-suc s.instant n))

-- Kinds are told apart by their places.
kind_at : ℕ → Kind
kind_at zero = Top
kind_at (suc zero) = Switch
kind_at (suc (suc zero)) = Interposed
kind_at (suc (suc (suc zero))) = Bottom
kind_at (suc (suc (suc (suc n)))) = Application

kind_back : (k : Kind) → kind_at (kind_place k) ≡ k
unfolding kind_at
kind_back Top = refl
kind_back Switch = refl
kind_back Interposed = refl
kind_back Bottom = refl
kind_back Application = refl

alike_row : (x y : Span) → alike x y ≡ true → row_of x ≡ row_of y
alike_row x y h =
    let place : kind_place x.kind ≡ kind_place y.kind = grind (arith, nat_tests) in
    let who : x.who ≡ y.who = grind (arith, nat_tests) in
    let owner : x.owner ≡ y.owner = grind (arith, nat_tests) in
    let kind : x.kind ≡ y.kind = sym (kind_back x.kind) ∙ (ap kind_at place ∙ kind_back y.kind) in
    λ i. record { kind = kind i; who = who i; owner = owner i }

-- a span of one tick more tells one tick more
ticks_more : (t n : ℕ) (r : Row) (ts : List TapeTick) → ticks_onto t (suc n) r ts ≡ tape_tick (t + n) r ∷ ticks_onto t n r ts
unfolding ticks_onto
ticks_more t zero r ts = ap (λ x. tape_tick x r ∷ ts) (sym (add-zero t))
ticks_more t (suc n) r ts =
    ticks_more (suc t) n r (tape_tick t r ∷ ts) ∙ ap (λ x. tape_tick x r ∷ ticks_onto (suc t) n r (tape_tick t r ∷ ts)) (suc-add t n ∙ sym (add-suc t n))

-- the last span ends at an instant
abbrev EndsAt : ℕ → List Span → Type 0
EndsAt t [] = Unit {0}
EndsAt t (x ∷ []) = x.first + x.ticks ≡ t
EndsAt t (x ∷ y ∷ ys) = EndsAt t (y ∷ ys)

pub grown_some : (xs : List Span) (x : Span) → 1 ≤ length (grown xs x)
grown_some [] x = omega arith
grown_some (y ∷ []) x = by (alike y x)
  where
    by : (v : Bool) → 1 ≤ length (cond v (longer y x.ticks ∷ []) (y ∷ x ∷ []))
    by true = omega arith
    by false = omega arith
grown_some (z ∷ y ∷ ys) x = omega arith

grown_ends : (t : ℕ) (r : Row) (xs : List Span) → EndsAt t xs → EndsAt (suc t) (grown xs (span t 1 r))
grown_ends t r [] h = add-one t
grown_ends t r (y ∷ []) h = by (alike y (span t 1 r))
  where
    by : (v : Bool) → EndsAt (suc t) (cond v (longer y 1 ∷ []) (y ∷ span t 1 r ∷ []))
    by true = omega arith
    by false = add-one t
grown_ends t r (z ∷ y ∷ ys) h = tail (grown (y ∷ ys) (span t 1 r)) (grown_ends t r (y ∷ ys) h) (grown_some (y ∷ ys) (span t 1 r))
  where
    tail : (xs : List Span) → EndsAt (suc t) xs → 1 ≤ length xs → EndsAt (suc t) (z ∷ xs)
    tail [] h some = absurd (omega arith)
    tail (x ∷ xs) h some = h

tape_ends : (b : Layout) (s : State) (n : ℕ) → EndsAt (after b s n).instant (tape b s n)
tape_ends b s zero = tt
tape_ends b s (suc n) =
    subst (λ t. EndsAt t (tape b s (suc n))) (sym (next_instant b (after b s n)))
    (grown_ends (after b s n).instant (tick b (after b s n)).row (tape b s n) (tape_ends b s n))

grown_told : (t : ℕ) (r : Row) (xs : List Span) (ts : List TapeTick) → EndsAt t xs → spans_onto (grown xs (span t 1 r)) ts ≡ tape_tick t r ∷ spans_onto xs ts
unfolding ticks_onto
grown_told t r [] ts h = refl
grown_told t r (y ∷ []) ts h = by (alike y (span t 1 r)) refl
  where
    by : (v : Bool) → alike y (span t 1 r) ≡ v
        → spans_onto (cond v (longer y 1 ∷ []) (y ∷ span t 1 r ∷ [])) ts ≡ tape_tick t r ∷ ticks_onto y.first y.ticks (row_of y) ts
    by true is =
        ap (λ n. ticks_onto y.first n (row_of y) ts) (add-one y.ticks)
        ∙ (ticks_more y.first y.ticks (row_of y) ts
        ∙ (ap (λ x. tape_tick x (row_of y) ∷ ticks_onto y.first y.ticks (row_of y) ts) h
        ∙ ap (λ x. tape_tick t x ∷ ticks_onto y.first y.ticks (row_of y) ts) (alike_row y (span t 1 r) is)))
    by false is = refl
grown_told t r (z ∷ y ∷ ys) ts h = grown_told t r (y ∷ ys) (ticks_onto z.first z.ticks (row_of z) ts) h

done_append : (xs ys ds : List Finished) → done_onto (xs ++ ys) ds ≡ done_onto ys (done_onto xs ds)
done_append [] ys ds = refl
done_append (x ∷ xs) ys ds = done_append xs ys (x ∷ ds)

-- what was seen after n ticks, tick by tick
abbrev pub note_ticks : Layout → State → ℕ → History → History
note_ticks b s zero h = h
note_ticks b s (suc n) h = note_tick (note_ticks b s n h) (tick b (after b s n))

-- what the tape and the finished events of n ticks tell
abbrev pub note_tape : Layout → State → ℕ → History → History
note_tape b s n h =
    record { clock = h.clock + n; events = h.events; ticks = spans_onto (tape b s n) h.ticks; done = done_onto (ended_in b s n) h.done }

-- they are the same
pub tape_told : (b : Layout) (s : State) (n : ℕ) (h : History) → h.clock ≡ s.instant → note_ticks b s n h ≡ note_tape b s n h
tape_told b s zero h time = λ i. record { clock = sym (add-zero h.clock) i; events = h.events; ticks = h.ticks; done = h.done }
tape_told b s (suc n) h time = ap (λ x. note_tick x (tick b (after b s n))) (tape_told b s n h time) ∙ one
  where
    clock_is : h.clock + n ≡ (after b s n).instant
    clock_is = ap (λ t. t + n) time ∙ sym (after_instant b s n)

    ticks_are : tape_tick (h.clock + n) (tick b (after b s n)).row ∷ spans_onto (tape b s n) h.ticks ≡ spans_onto (tape b s (suc n)) h.ticks
    ticks_are =
        ap (λ t. tape_tick t (tick b (after b s n)).row ∷ spans_onto (tape b s n) h.ticks) clock_is
        ∙ sym (grown_told (after b s n).instant (tick b (after b s n)).row (tape b s n) h.ticks (tape_ends b s n))

    one : note_tick (note_tape b s n h) (tick b (after b s n)) ≡ note_tape b s (suc n) h
    one =
        λ i. record {
          clock = sym (add-suc h.clock n) i;
          events = h.events;
          ticks = ticks_are i;
          done = sym (done_append (ended_in b s n) (tick b (after b s n)).ended h.done) i;
        }
