-- What a caller saw of a run, from the calls' arguments, answers and buffers alone.
use Rattle.std.specs.Prelude.{◌≡◌, ℕ, zero, suc, ◌+◌, ◌<◌, Bool, true, false, cond, ◌&&◌, List, [], ◌∷◌, ◌++◌, length, take, Ok, Err, ◌==◌, nat_le, nat_lt, slice_index_or}
use Rattle.model.specs.declared.run.Answer.{Answer}
use Rattle.model.specs.declared.run.Answer.TheVariants.{Permitted as says_permitted, Queued as says_queued}
use Rattle.model.specs.declared.run.Kind.{Kind}
use Rattle.model.specs.declared.run.Kind.TheVariants.{Top, Switch, Interposed, Bottom, Application}
use Rattle.model.specs.declared.run.Span.{Span}
use Rattle.model.specs.declared.run.Finished.{Finished}
use Rattle.model.specs.Bits.{is_set}
use Rattle.model.specs.Board.{Layout, line_at}
use Rattle.model.specs.declared.run.Row.{Row}
use Rattle.model.specs.Run.{Call, raise, strobe, advance}

-- an accepted event: its line, tag, the instant at which it was raised, and whether a permit was told
pub record Accepted : Type 0 where
  pub line : ℕ
  pub tag : ℕ
  pub at : ℕ
  pub permitted : Bool

abbrev pub accepted : ℕ → ℕ → ℕ → Bool → Accepted
accepted k tag at permitted = record { line = k; tag = tag; at = at; permitted = permitted }

-- a tick of the tape with its instant
pub record TapeTick : Type 0 where
  pub at : ℕ
  pub kind : Kind
  pub who : ℕ
  pub owner : ℕ

abbrev pub tape_tick : ℕ → Row → TapeTick
tape_tick t r = record { at = t; kind = r.kind; who = r.who; owner = r.owner }

-- what was seen so far, newest first: the instant reached, events accepted, ticks of the tape, events finished
pub record History : Type 0 where
  pub clock : ℕ
  pub events : List Accepted
  pub ticks : List TapeTick
  pub done : List Finished

abbrev pub unseen : History
unseen = record { clock = 0; events = []; ticks = []; done = [] }

abbrev pub with_events : History → List Accepted → History
with_events h es = record { clock = h.clock; events = es; ticks = h.ticks; done = h.done }

-- onto a list if the test passes
abbrev pub on_if : {X : Type 0} → Bool → X → List X → List X
on_if t x xs = cond t (x ∷ xs) xs

-- the lines below n of a strobe's two words, onto the events before
unfoldable pub strobed_onto : ℕ → ℕ → ℕ × ℕ → ℕ → List Accepted → List Accepted
strobed_onto zero tag w t es = es
strobed_onto (suc k) tag w t es = on_if (is_set w.0 k) (accepted k tag t (is_set w.1 k)) (strobed_onto k tag w t es)

-- n ticks of one span from instant t, onto the ticks before
unfoldable pub ticks_onto : ℕ → ℕ → Row → List TapeTick → List TapeTick
ticks_onto t zero r ts = ts
ticks_onto t (suc n) r ts = ticks_onto (suc t) n r (tape_tick t r ∷ ts)

abbrev pub row_of : Span → Row
row_of x = record { kind = x.kind; who = x.who; owner = x.owner }

-- spans in their order, expanded to ticks
abbrev pub spans_onto : List Span → List TapeTick → List TapeTick
spans_onto [] ts = ts
spans_onto (x ∷ xs) ts = spans_onto xs (ticks_onto x.first x.ticks (row_of x) ts)

abbrev pub done_onto : List Finished → List Finished → List Finished
done_onto [] ds = ds
done_onto (f ∷ fs) ds = done_onto fs (f ∷ ds)

abbrev pub is_permit : Answer → Bool
is_permit says_permitted = true
is_permit says_queued = false

-- one call more; a refused call shows nothing
abbrev pub showing : Call → History → History
showing (raise mask k tag (Ok a)) h = with_events h (accepted k tag h.clock (is_permit a) ∷ h.events)
showing (raise mask k tag (Err e)) h = h
showing (strobe mask word tag w) h = with_events h (strobed_onto 16 tag w h.clock h.events)
showing (advance n spans events (Ok ran) spans' events') h =
    record {
      clock = h.clock + ran.ticks;
      events = h.events;
      ticks = spans_onto (take ran.spans spans') h.ticks;
      done = done_onto (take ran.finished events') h.done;
    }
showing (advance n spans events (Err e) spans' events') h = h

abbrev pub seen : List Call → History
seen [] = unseen
seen (c ∷ calls) = showing c (seen calls)

-- how many of a list pass a test
abbrev pub more : Bool → ℕ → ℕ
more true n = suc n
more false n = n

abbrev pub count : {X : Type 0} → (X → Bool) → List X → ℕ
count test [] = 0
count test (x ∷ xs) = more (test x) (count test xs)

-- instant t lies in the window of w ticks from a
abbrev pub within : ℕ → ℕ → ℕ → Bool
within a w t = nat_le a t && nat_lt t (a + w)

-- an accepted event of line k, one that was permitted, raised in a window
abbrev pub of_line : ℕ → ℕ → ℕ → Accepted → Bool
of_line k a w e = e.line == k && within a w e.at

abbrev pub permit_of : ℕ → ℕ → ℕ → Accepted → Bool
permit_of k a w e = e.permitted && of_line k a w e

-- a tick of a grant: a switch or an interposed handler
abbrev pub of_grant : Kind → Bool
of_grant Top = false
of_grant Switch = true
of_grant Interposed = true
of_grant Bottom = false
of_grant Application = false

abbrev pub is_top : Kind → Bool
is_top Top = true
is_top Switch = false
is_top Interposed = false
is_top Bottom = false
is_top Application = false

-- what an accepted and a finished event are known by
pub record Mark : Type 0 where
  pub tag : ℕ
  pub line : ℕ
  pub raised : ℕ

abbrev pub mark : ℕ → ℕ → ℕ → Mark
mark tag k t = record { tag = tag; line = k; raised = t }

-- onto the end of a list if the test passes
abbrev pub last_if : {X : Type 0} → Bool → X → List X → List X
last_if t x xs = xs ++ cond t (x ∷ []) []

module _ (b : Layout) (p : ℕ) where
  -- the events accepted for partition p, and those finished of its lines, oldest first
  abbrev pub accepted_for : List Accepted → List Mark
  accepted_for [] = []
  accepted_for (e ∷ es) = last_if ((line_at b e.line).owner == p) (mark e.tag e.line e.at) (accepted_for es)

  abbrev pub finished_for : List Finished → List Mark
  finished_for [] = []
  finished_for (f ∷ fs) = last_if ((line_at b f.line).owner == p) (mark f.tag f.line f.raised) (finished_for fs)

-- the n-th event of a partition is finished: it stands as the n-th finished event, by its own tag, line and instant raised
pub record IsFinished (b : Layout) (p : ℕ) (h : History) (n : ℕ) (e : Mark) : Type 0 where
  pub stands : n < length (finished_for b p h.done)
  pub itself : slice_index_or (finished_for b p h.done) n (mark 0 0 0) ≡ e
