-- An open grant is open as seen: its permit was told, and the tape lacks as many of its ticks as the grant has left.
use Rattle.std.proofs.Common.{◌≡◌, ℕ, suc, ◌+◌, ◌<◌, ◌≤◌, Bool, true, false, cond, ◌&&◌, eqb, leb, List, [], ◌∷◌, ◌++◌, Some, None, Option, sym, refl, ap, ◌∙◌, subst, arith}
use Rattle.std.proofs.lemmas.Bool.Decides.{nat_tests}
use Rattle.model.specs.Board.{Layout, full_cost}
use Rattle.model.specs.Tick.{State, Grant, grant, Ticked, closing}
use Rattle.model.specs.Core.{raised_state}
use Rattle.model.specs.Seen.{History, Accepted, TapeTick, accepted, more, count, of_grant}
use Rattle.model.specs.Laws.{grant_tick_since, NoneOpen}
use Rattle.model.proofs.Steps.{Rule, top, lead, work, trail, bottom, idle, note_event, note_tick}
use Rattle.model.proofs.Kept.{rest_of, GrantBacked, Kept}

-- every tick seen lies before the clock
abbrev pub AllBefore : ℕ → List TapeTick → Type 0
AllBefore c [] = Unit {0}
AllBefore c (r ∷ rs) = (r.at < c) × AllBefore c rs

pub before_later : (c d : ℕ) (rs : List TapeTick) → c ≤ d → AllBefore c rs → AllBefore d rs
before_later c d [] l h = tt
before_later c d (r ∷ rs) l h = (omega (arith, h.0), before_later c d rs l h.1)

-- so none of them lies at or after it
pub none_since : (f : ℕ → TapeTick → Bool) → ((a : ℕ) (r : TapeTick) → r.at < a → f a r ≡ false) → (c : ℕ) (rs : List TapeTick) → AllBefore c rs → count (f c) rs ≡ 0
none_since f out c [] h = refl
none_since f out c (r ∷ rs) h = ap (λ t. more t (count (f c) rs)) (out c r h.0) ∙ none_since f out c rs h.1

module _ (b : Layout) where
  -- what was seen of an open grant
  pub record SeenOpen (h : History) (g : Grant) : Type 0 where
    pub later : List Accepted
    pub earlier : List Accepted
    pub permit : Accepted
    pub told : h.events ≡ later ++ permit ∷ earlier
    pub permitted : permit.permitted ≡ true
    pub same_line : permit.line ≡ g.line
    pub early : permit.at ≤ h.clock
    pub lacks : count (grant_tick_since permit.line permit.at) h.ticks + rest_of g ≡ full_cost b permit.line

  abbrev pub OpenSeen : History → Option Grant → Type 0
  OpenSeen h None = Unit {0}
  OpenSeen h (Some g) = SeenOpen h g

  closing_seen : (h : History) (g : Grant) → SeenOpen h g → OpenSeen h (closing g)
  closing_seen h g seen = by (eqb (rest_of g) 0)
    where
      by : (t : Bool) → OpenSeen h (cond t None (Some g))
      by true = tt
      by false = seen

  -- a new event comes before the others
  still_seen : (h : History) (k tag : ℕ) (permit : Bool) (g : Option Grant) → OpenSeen h g → OpenSeen (note_event h k tag permit) g
  still_seen h k tag permit None o = tt
  still_seen h k tag permit (Some g) o =
      record {
        later = accepted k tag h.clock permit ∷ o.later;
        earlier = o.earlier;
        permit = o.permit;
        told = ap (λ es. accepted k tag h.clock permit ∷ es) o.told;
        permitted = o.permitted;
        same_line = o.same_line;
        early = o.early;
        lacks = o.lacks;
      }

  pub opened_event : (h : History) (s : State) (k tag : ℕ) (permit : Bool) → AllBefore h.clock h.ticks → OpenSeen h s.granted
      → OpenSeen (note_event h k tag permit) (raised_state b s k tag permit).granted
  opened_event h s k tag false past o = still_seen h k tag false s.granted o
  opened_event h s k tag true past o =
      record {
        later = [];
        earlier = h.events;
        permit = accepted k tag h.clock true;
        told = refl;
        permitted = refl;
        same_line = refl;
        early = omega arith;
        lacks = omega (arith, none_since (grant_tick_since k) (λ a r out. grind (arith, nat_tests)) h.clock h.ticks past);
      }

  -- a tick that is no grant's leaves what was seen of the grant; a tick of the grant shows one more
  unmoved : (h : History) (t : Ticked) (g : Option Grant) → of_grant t.row.kind ≡ false → OpenSeen h g → OpenSeen (note_tick h t) g
  unmoved h t None other o = tt
  unmoved h t (Some g) other o =
      record {
        later = o.later;
        earlier = o.earlier;
        permit = o.permit;
        told = o.told;
        permitted = o.permitted;
        same_line = o.same_line;
        early = omega (arith, o.early);
        lacks =
            ap (λ v. more (v && (eqb t.row.who o.permit.line && leb o.permit.at h.clock)) (count (grant_tick_since o.permit.line o.permit.at) h.ticks) + rest_of g) other
            ∙ o.lacks;
      }

  shown : (h : History) (t : Ticked) (g g' : Grant) → of_grant t.row.kind ≡ true → t.row.who ≡ g.line → g'.line ≡ g.line → rest_of g ≡ suc (rest_of g')
      → SeenOpen h g → SeenOpen (note_tick h t) g'
  shown h t g g' kind who line less o =
      record {
        later = o.later;
        earlier = o.earlier;
        permit = o.permit;
        told = o.told;
        permitted = o.permitted;
        same_line = o.same_line ∙ sym line;
        early = omega (arith, o.early);
        lacks = one;
      }
    where
      counts : (of_grant t.row.kind && (eqb t.row.who o.permit.line && leb o.permit.at h.clock)) ≡ true
      counts = let same : t.row.who ≡ o.permit.line = who ∙ sym o.same_line in let early = o.early in grind (arith, nat_tests)

      one : more (of_grant t.row.kind && (eqb t.row.who o.permit.line && leb o.permit.at h.clock)) (count (grant_tick_since o.permit.line o.permit.at) h.ticks) + rest_of g'
          ≡ full_cost b o.permit.line
      one = let more-is = ap (λ v. more v (count (grant_tick_since o.permit.line o.permit.at) h.ticks)) counts in omega (arith, o.lacks)

  pub opened_tick : (h : History) (s : State) {t : Ticked} → Rule b s t → OpenSeen h s.granted → OpenSeen (note_tick h t) t.next.granted
  opened_tick h s {t} (top n o) seen = unmoved h t s.granted refl seen
  opened_tick h s {t} (lead k l w t' o g) seen =
      closing_seen (note_tick h t) (grant k l w t') (shown h t (grant k (suc l) w t') (grant k l w t') refl refl refl (omega arith) (subst (OpenSeen h) g seen))
  opened_tick h s {t} (work k w t' e es o g q some) seen =
      closing_seen (note_tick h t) (grant k 0 w t') (shown h t (grant k 0 (suc w) t') (grant k 0 w t') refl refl refl (omega arith) (subst (OpenSeen h) g seen))
  opened_tick h s {t} (trail k t' o g) seen =
      closing_seen (note_tick h t) (grant k 0 0 t') (shown h t (grant k 0 0 (suc t')) (grant k 0 0 t') refl refl refl (omega arith) (subst (OpenSeen h) g seen))
  opened_tick h s (bottom e es o g q some) seen = tt
  opened_tick h s (idle o g q) seen = tt

  -- where no grant is open as seen, none is open
  pub none_open : (h : History) (s : State) → Kept b s → OpenSeen h s.granted → NoneOpen b h → s.granted ≡ None
  none_open h s keeps seen closed = by s.granted refl seen keeps.grants
    where
      by : (g : Option Grant) → s.granted ≡ g → OpenSeen h g → GrantBacked b s.queue g → s.granted ≡ None
      by None is o back = is
      by (Some g) is o back =
          absurd (omega (arith, closed o.later o.earlier o.permit o.told o.permitted, o.lacks, back.some))
