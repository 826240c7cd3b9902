-- The advance's loop: one stretch more, and why it stops.
use Rattle.std.proofs.Common.{◌≡◌, ℕ, zero, suc, ◌+◌, ◌-◌, ◌^◌, ◌<◌, ◌≤◌, Bool, true, false, cond, leb, List, [], ◌∷◌, ◌++◌, length, take, drop, Option, sym, refl, ap, ◌∙◌, subst, ⊎_elim, add-zero, add-one, arith, length-append}
use Rattle.std.proofs.lemmas.List.{length-take-le, drop-drop}
use Rattle.std.proofs.lemmas.Bool.{cases_lt}
use Rattle.std.proofs.lemmas.Bool.Decides.{nat_tests}
use Rattle.model.specs.declared.run.Span.{Span}
use Rattle.model.specs.declared.run.Finished.{Finished}
use Rattle.model.specs.Board.{Layout, owner_at}
use Rattle.model.specs.Tick.{State, tick, after, ended_in}
use Rattle.model.specs.declared.run.Row.{Row}
use Rattle.model.specs.Tape.{alike, longer, grown, span, tape}
use Rattle.model.specs.Core.{Written}
use Rattle.scheduler.specs.Slots.{Stays, StaysOn}
use Rattle.scheduler.specs.Stretches.{Stretch, list_of}
use Rattle.scheduler.specs.Strips.{Fronted, ticks_of, lengthens_last, PutThere}
use Rattle.scheduler.specs.Ticking.{Going, Most}
use Rattle.scheduler.proofs.Growing.{after_add, ended_add, tape_add, tape_longer, ended_longer}
use Rattle.scheduler.proofs.Fronts.{length_grown}

-- a span's length is no matter to the room that it takes
lengthens_alike : (xs : List Span) (t n u m : ℕ) (r : Row) → lengthens_last xs (span t n r) ≡ lengthens_last xs (span u m r)
lengthens_alike [] t n u m r = refl
lengthens_alike (y ∷ []) t n u m r = refl
lengthens_alike (z ∷ y ∷ ys) t n u m r = lengthens_alike (y ∷ ys) t n u m r

pub room_alike : (xs : List Span) (t n u m : ℕ) (r : Row) → length (grown xs (span t n r)) ≡ length (grown xs (span u m r))
room_alike xs t n u m r =
    length_grown xs (span t n r) ∙ (ap (λ v. cond v (length xs) (suc (length xs))) (lengthens_alike xs t n u m r) ∙ sym (length_grown xs (span u m r)))

-- the ticks of the tape are those that were run
grown_ticks : (xs : List Span) (x : Span) → ticks_of (grown xs x) ≡ ticks_of xs + x.ticks
grown_ticks [] x = omega arith
grown_ticks (y ∷ []) x = by (alike y x)
  where
    by : (v : Bool) → ticks_of (cond v (longer y x.ticks ∷ []) (y ∷ x ∷ [])) ≡ y.ticks + 0 + x.ticks
    by true = omega arith
    by false = omega arith
grown_ticks (z ∷ y ∷ ys) x = omega (arith, grown_ticks (y ∷ ys) x)

pub tape_ticks : (b : Layout) (s : State) (n : ℕ) → ticks_of (tape b s n) ≡ n
tape_ticks b s zero = refl
tape_ticks b s (suc n) = omega (arith, grown_ticks (tape b s n) (span (after b s n).instant 1 (tick b (after b s n)).row), tape_ticks b s n)

module _ (b : Layout) (s : State) (n : ℕ) (spans : List Span) (events : List Finished) where
  -- a buffer written on: more at the front, the rest as at the start
  further : {X : Type 0} (c d : ℕ) (items more before now after : List X) → Written c items before now → length items ≤ length more → d ≡ length more → Fronted more now after → Written d more before after
  further c d items more before now after w longer-now d-is f =
      record {
        counted = d-is;
        front = ap (λ k. take k after) d-is ∙ f.front;
        rest = ap (λ k. drop k after) d-is ∙ (f.rest ∙ (deeper c items more before now w longer-now ∙ ap (λ k. drop k before) (sym d-is)));
      }
    where
      deeper : {X : Type 0} (c : ℕ) (items more before now : List X) → Written c items before now → length items ≤ length more → drop (length more) now ≡ drop (length more) before
      deeper c items more before now w l =
          let split : length more ≡ c + (length more - c) = omega (arith, w.counted) in
          ap (λ k. drop k now) split ∙ (sym (drop-drop (length more - c) c now) ∙ (ap (drop (length more - c)) w.rest ∙ (drop-drop (length more - c) c before ∙ ap (λ k. drop k before) (sym split))))

  module _ (k w c : ℕ) (t : State) (xs : List Span) (fs : List Finished) (g : Going b s n spans events (record { ticks = k; spans = w; finished = c }) t xs fs) where
    -- the events written lie within their buffer
    pub events_inside : c ≤ length fs
    events_inside = omega (arith, g.events_written.counted, g.fits.events_fit, g.same_events)

    -- one span more fits the width of its ticks
    pub ticks_fit : (x : Span) → k + x.ticks < 2 ^ 32 → ticks_of (take w xs) + x.ticks < 2 ^ 32
    ticks_fit x h = let same = ap ticks_of g.spans_written.front ∙ tape_ticks b s k in omega arith

    -- a stretch whose row has a place has one, however long
    pub placed : (m : ℕ) (r : Row) → true ≡ leb (length (grown (take w xs) (span t.instant 0 r))) (length xs) → length (grown (take w xs) (span t.instant m r)) ≤ length xs
    placed m r has =
        let same = room_alike (take w xs) t.instant m t.instant 0 r in
        let fits-now : length (grown (take w xs) (span t.instant 0 r)) ≤ length xs = grind (arith, nat_tests) in
        omega arith

    next_tape : (m : ℕ) (r : Row) → 1 ≤ m → ((i : ℕ) → i < m → (tick b (after b t i)).row ≡ r) → tape b s (k + m) ≡ grown (take w xs) (span t.instant m r)
    next_tape m r some rows =
        let next : suc (m - 1) ≡ m = omega arith in
        ap (λ x. tape b s (k + x)) (sym next)
        ∙ (tape_add b s k (m - 1) r (λ i l. ap (λ x. (tick b (after b x i)).row) (sym g.state_after) ∙ rows i (omega arith))
        ∙ (ap (λ x. grown (tape b s k) (span x.instant (suc (m - 1)) r)) (sym g.state_after)
        ∙ (ap (λ l. grown l (span t.instant (suc (m - 1)) r)) (sym g.spans_written.front) ∙ ap (λ x. grown (take w xs) (span t.instant x r)) next)))

    -- one stretch more
    pub going_more : (limit : ℕ) (room : Bool) (m w' c' : ℕ) (e : Option Finished) (t' : State) (r : Row) (xs' : List Span) (fs' : List Finished)
        → 1 ≤ m → k + limit ≤ n → (tick b t).row ≡ r → Stretch b t limit room m e t'
        → length (grown (take w xs) (span t.instant m r)) ≤ length xs → PutThere xs w (span t.instant m r) w' xs'
        → c + length (list_of e) ≤ length fs → c' ≡ c + length (list_of e) → Fronted (take c fs ++ list_of e) fs fs'
        → Going b s n spans events (record { ticks = k + m; spans = w'; finished = c' }) t' xs' fs'
    going_more limit room m w' c' e t' r xs' fs' some within row x place put-there room-left c-is noted =
        let tape-is = next_tape m r some (λ i l. x.alike i l ∙ row) in
        let ended_is : ended_in b s (k + m) ≡ take c fs ++ list_of e =
        ended_add b s k m ∙ (ap (λ y. ended_in b s k ++ ended_in b y m) (sym g.state_after) ∙ (ap (λ l. ended_in b s k ++ l) x.ended ∙ ap (λ l. l ++ list_of e) (sym g.events_written.front))) in
        let tape-long = ap length tape-is in
        let ended-long = ap length ended_is ∙ (length-append (take c fs) (list_of e) ∙ ap (λ z. z + length (list_of e)) (length-take-le c fs events_inside)) in
        let w-is : w' ≡ length (grown (take w xs) (span t.instant m r)) = put-there.counted in
        record {
          few = omega (arith, x.few);
          fits = record { spans_fit = omega (arith, g.same_spans); events_fit = omega (arith, g.same_events) };
          state_after = x.state_after ∙ (ap (λ y. after b y m) g.state_after ∙ sym (after_add b s k m));
          spans_written =
              further w w' (tape b s k) (tape b s (k + m)) spans xs xs' g.spans_written (tape_longer b s k (k + m) (omega arith)) (w-is ∙ sym tape-long)
              (subst (λ l. Fronted l xs xs') (sym tape-is) put-there.fronted);
          events_written =
              further c c' (ended_in b s k) (ended_in b s (k + m)) events fs fs' g.events_written (ended_longer b s k (k + m) (omega arith)) (c-is ∙ sym ended-long)
              (subst (λ l. Fronted l fs fs') (sym ended_is) noted);
          same_spans = put-there.fronted.same_length ∙ g.same_spans;
          same_events = noted.same_length ∙ g.same_events;
        }

    -- all ticks were run
    pub most_all : k ≡ n → Most b s n (length spans) (length events) k
    most_all is j l fits = omega arith

    -- the next row has no place
    pub most_place : (r : Row) → (tick b t).row ≡ r → false ≡ leb (length (grown (take w xs) (span t.instant 0 r))) (length xs) → Most b s n (length spans) (length events) k
    most_place r row full j l fits =
        ⊎_elim (λ (more : k < j). absurd (never more)) (λ (fine : j ≤ k). fine) (cases_lt k j)
      where
        never : k < j → ⊥
        never more =
            let one = ap length (ap (tape b s) (sym (add-one k)) ∙ next_tape 1 r (omega arith) (λ i x. only i x)) in
            let same = room_alike (take w xs) t.instant 0 t.instant 1 r in
            let long = tape_longer b s (suc k) j more in
            let over : length xs < length (grown (take w xs) (span t.instant 0 r)) = grind (arith, nat_tests) in
            omega (arith, fits.spans_fit, g.same_spans)
          where
            only : (i : ℕ) → i < 1 → (tick b (after b t i)).row ≡ r
            only zero x = row
            only (suc i) x = absurd (omega arith)

    -- the next tick ends an event for which there is no place
    pub most_event : length fs ≤ c → length (tick b t).ended ≡ 1 → Most b s n (length spans) (length events) k
    most_event full ends j l fits =
        ⊎_elim (λ (more : k < j). absurd (never more)) (λ (fine : j ≤ k). fine) (cases_lt k j)
      where
        never : k < j → ⊥
        never more =
            let one = length-append (ended_in b s k) (tick b (after b s k)).ended in
            let same = ap (λ y. length (tick b y).ended) g.state_after in
            let long = ended_longer b s (suc k) j more in
            omega (arith, fits.events_fit, g.same_events, g.events_written.counted)

-- after some of its ticks the slot lasts for the others
pub stays_on : (b : Layout) (at later o n m : ℕ) → Stays b at o n → later ≡ at + m → StaysOn b later o (n - m)
stays_on b at later o n m x is some = record {
  lasting = some;
  owned = λ i l. let same : later + i ≡ at + (m + i) = omega arith in ap (owner_at b) same ∙ x.owned (m + i) (omega arith);
}

pub now_owner : (b : Layout) (at o n : ℕ) → Stays b at o n → owner_at b at ≡ o
now_owner b at o n x = ap (owner_at b) (sym (add-zero at)) ∙ x.owned 0 x.lasting
