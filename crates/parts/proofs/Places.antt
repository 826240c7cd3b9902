-- The queues of all partitions, when one of them changes.
use Rattle.std.proofs.Common.{◌≡◌, ℕ, ◌<◌, ◌≤◌, Bool, true, false, cond, eqb, List, [], ◌∷◌, ◌++◌, map, length, get_or, set, sym, refl, ap, ◌∙◌, arith}
use Rattle.std.specs.List.{AllByRecursion as All}
use Rattle.std.proofs.lemmas.List.{get_or-map, get_or-set_same, get_or-set_other, set-get_or, length-set, length-take, map-set}
use Rattle.std.proofs.ByRecursion.{sum_by_le}
use Rattle.std.proofs.lemmas.Bool.{eqb-true, eqb-false, eq-eqb}
use Rattle.model.specs.declared.run.Event.{Event}
use Rattle.parts.specs.declared.queue.Queue.{Queue}
use Rattle.parts.specs.declared.queues.Queues.{Queues}
use Rattle.parts.specs.Pending.{pending, held_by}
use Rattle.parts.specs.Waiting.{held_in}

-- a queue holds at most 32 events
pub queue_few : (q : Queue) → length (pending q) ≤ 32
queue_few q = let few = q.few in omega (arith, length-take q.len q.events)

all_few : (qs : List Queue) → All (λ q. length (pending q) ≤ 32) qs
all_few [] = tt
all_few (q ∷ qs) = (queue_few q, all_few qs)

-- eight queues together hold at most 256
pub held_by_few : (qs : List Queue) → length qs ≤ 8 → held_by qs ≤ 256
held_by_few qs eight = omega (arith, sum_by_le (λ q. length (pending q)) 32 qs (all_few qs))

pub held_few : (qs : Queues) → length qs.all ≡ 8 → held_in qs ≤ 256
held_few qs eight = held_by_few qs.all (omega arith)

-- the queue at a place, or none past the last
abbrev at : List Queue → ℕ → List Event
at all p = get_or (map pending all) p []

-- one queue is replaced, at the place of partition p
module _ (all : List Queue) (i p : ℕ) (is : i ≡ p) (known : i < length all) (d : Queue) where
  pub before : at all p ≡ pending (get_or all i d)
  before = ap (at all) (sym is) ∙ get_or-map pending all i d [] known

  by_test : (q : Queue) (j : ℕ) (t : Bool) → eqb j p ≡ t → at (set all i q) j ≡ cond t (pending q) (at all j)
  by_test q j true e =
      let here : j ≡ i = eqb-true j p e ∙ sym is in
      ap (at (set all i q)) here
      ∙ (get_or-map pending (set all i q) i d [] (omega (arith, length-set all i q)) ∙ ap pending (get_or-set_same all i q d known))
  by_test q j false e =
      ap (λ ls. get_or ls j []) (map-set pending all i q)
      ∙ get_or-set_other (map pending all) i j (pending q) [] (λ here. eqb-false j p e (here ∙ is))

  -- it is the new one at that place, and the others stay
  pub replaced : (q : Queue) (j : ℕ) → at (set all i q) j ≡ cond (eqb j p) (pending q) (at all j)
  replaced q j = by_test q j (eqb j p) refl

  pub after : (q : Queue) → at (set all i q) p ≡ pending q
  after q = by_test q p true (eq-eqb p p refl)

  pub same : (q : Queue) → q ≡ get_or all i d → set all i q ≡ all
  same q e = ap (set all i) e ∙ set-get_or all i d

  -- an event is put behind the others of that queue, or none is
  module _ (q : Queue) (e : Event) where
    pub joined : (r : Bool) → pending q ≡ cond r (pending (get_or all i d) ++ e ∷ []) (pending (get_or all i d)) → (r ≡ false → q ≡ get_or all i d)
        → (j : ℕ) → at (set all i q) j ≡ cond r (cond (eqb j p) (at all p ++ e ∷ []) (at all j)) (at all j)
    joined true did full j = replaced q j ∙ ap (λ l. cond (eqb j p) l (at all j)) (did ∙ ap (λ l. l ++ e ∷ []) (sym before))
    joined false did full j = ap (λ qs. at qs j) (same q (full refl))
