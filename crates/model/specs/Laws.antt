-- The three laws that hold after every run, of what the caller saw.
use Rattle.std.specs.Prelude.{◌≡◌, ℕ, zero, suc, ◌+◌, ◌*◌, ◌<◌, ◌≤◌, max, Bool, true, false, cond, not, ◌&&◌, List, ◌∷◌, ◌++◌, length, ◌==◌, nat_le, slice_index_or}
use Rattle.model.specs.Counting.{sum_to}
use Rattle.model.specs.Board.{Layout, InRange, foreign, full_cost, line_at, serves}
use Rattle.model.specs.Monitor.{Meaning, Lawful}
use Rattle.model.specs.Curve.{CurveLaws}
use Rattle.model.specs.Demand.{Bound}
use Rattle.model.specs.Core.{Core, new_core}
use Rattle.model.specs.Run.{Call, Run, Called}
use Rattle.model.specs.Seen.{History, Accepted, TapeTick, Mark, mark, seen, showing, count, within, of_line, of_grant, is_top, accepted_for, IsFinished}

-- the longest full cost of the first n lines that are foreign to p, 0 of none
unfoldable pub longest_below : ℕ → Layout → ℕ → ℕ
longest_below zero b p = 0
longest_below (suc k) b p = max (longest_below k b p) (cond (foreign b p k) (full_cost b k) 0)

abbrev pub longest : Layout → ℕ → ℕ
longest b p = longest_below (length b.lines) b p

-- a tick that a grant of a foreign line takes from a slot of p, in the window of w ticks from u
abbrev pub takes_from : Layout → ℕ → ℕ → ℕ → TapeTick → Bool
takes_from b p u w r = of_grant r.kind && (r.owner == p && (foreign b p r.who && within u w r.at))

-- Loss: in any window grants of foreign lines take at most each line's full cost times its ceiling, and the longest cost once
abbrev pub LossBounded : Layout → (ℕ → ℕ → ℕ) → History → Type 0
LossBounded b ceiling h =
    (p u w : ℕ) → count (takes_from b p u w) h.ticks
    ≤ sum_to (length b.lines) (λ k. cond (foreign b p k) (full_cost b k * ceiling k w) 0) + longest b p

-- the run keeps a curve: no line has more accepted events in a window of instants than the curve says
abbrev pub KeepsCurve : (ℕ → ℕ → ℕ) → History → Type 0
KeepsCurve most h = (k a w : ℕ) → count (of_line k a w) h.events ≤ most k w

-- Response: with a bound x of p by curves that the run keeps, each event accepted for p is finished once x ticks have run since
abbrev pub Responsive : Layout → (ℕ → ℕ → ℕ) → History → Type 0
Responsive b ceiling h =
    (known : ℕ) (most : ℕ → ℕ → ℕ) → CurveLaws known most → KeepsCurve most h
    → (p x : ℕ) → Bound b ceiling most p x
    → (n : ℕ) (e : Mark) → n < length (accepted_for b p h.events) → slice_index_or (accepted_for b p h.events) n (mark 0 0 0) ≡ e
    → e.raised + x ≤ h.clock → IsFinished b p h n e

-- a tick of a grant of line k at or after instant a, and a tick other than top handling at or after it
abbrev pub grant_tick_since : ℕ → ℕ → TapeTick → Bool
grant_tick_since k a r = of_grant r.kind && (r.who == k && nat_le a r.at)

abbrev pub other_tick_since : ℕ → TapeTick → Bool
other_tick_since a r = not (is_top r.kind) && nat_le a r.at

-- no grant is open: since each permit the tape shows its line's full cost in ticks of grants of the line
abbrev pub NoneOpen : Layout → History → Type 0
NoneOpen b h =
    (later earlier : List Accepted) (e : Accepted) → h.events ≡ later ++ e ∷ earlier → e.permitted ≡ true
    → full_cost b e.line ≤ count (grant_tick_since e.line e.at) h.ticks

-- every event accepted for p is finished
abbrev pub AllFinished : Layout → ℕ → History → Type 0
AllFinished b p h =
    (n : ℕ) (e : Mark) → n < length (accepted_for b p h.events) → slice_index_or (accepted_for b p h.events) n (mark 0 0 0) ≡ e → IsFinished b p h n e

-- what was seen just before an event was accepted: what the calls before it showed, and the events before it in its own call
abbrev pub up_to : History → List Accepted → History
up_to h es = record { clock = h.clock; events = es; ticks = h.ticks; done = h.done }

module _ {S : Type 0} (means : Meaning S) where
  -- Promptness: an event that a call accepts in a foreign slot, its monitor ready as the calls before left it, no grant open and
  -- every earlier event of its partition finished, is finished once its full cost in ticks other than top handling has run since
  abbrev pub Prompt : Layout → S → Type 0
  Prompt b m =
      (before : List Call) (x : Core S) → Run means (new_core b m) before x
      → (c : Call) (y : Core S) → Called means x c y
      → (calls : List Call) (z : Core S) → Run means y calls z
      → (later earlier : List Accepted) (e : Accepted)
      → (showing c (seen before)).events ≡ later ++ e ∷ (earlier ++ (seen before).events)
      → serves b (line_at b e.line).owner e.at ≡ false
      → means.ready x.monitor e.line e.at ≡ true
      → NoneOpen b (up_to (seen before) (earlier ++ (seen before).events))
      → AllFinished b (line_at b e.line).owner (up_to (seen before) (earlier ++ (seen before).events))
      → full_cost b e.line ≤ count (other_tick_since e.at) (seen (calls ++ c ∷ before)).ticks
      → IsFinished b (line_at b e.line).owner (seen (calls ++ c ∷ before))
      (length (accepted_for b (line_at b e.line).owner (earlier ++ (seen before).events))) (mark e.tag e.line e.at)

  -- the three laws, over every run from a new core with board b and monitor m
  pub record Laws (b : Layout) (m : S) : Type 0 where
    pub loss : (calls : List Call) (x : Core S) → Run means (new_core b m) calls x → LossBounded b (means.ceiling m) (seen calls)
    pub response : (calls : List Call) (x : Core S) → Run means (new_core b m) calls x → Responsive b (means.ceiling m) (seen calls)
    pub promptness : Prompt b m

-- for every monitor of a type, known by its four members and their laws alone, and every board in range
abbrev pub LawsStand : Type 0 → Type 0
LawsStand S =
    (means : Meaning S) → Lawful means → (b : Layout) → InRange b → (m : S) → Laws means b m
