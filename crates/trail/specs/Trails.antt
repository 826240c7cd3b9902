-- A trail is lawful, and a permit of it spends one of what is left.
use Rattle.std.specs.Prelude.{◌≡◌, ℕ, zero, suc, ◌+◌, ◌-◌, ◌<◌, ◌≤◌, Bool, true, false, List, [], ◌∷◌, length, is_some, Some, None, Option, slice_index, refl}
use Rattle.std.proofs.Common.{le_refl, arith}
use Rattle.std.proofs.lemmas.Nat.{mul-le}
use Rattle.std.proofs.lemmas.List.{get_or-take}
use Rattle.std.proofs.lemmas.Bool.{true≢false}
use Rattle.std.proofs.lemmas.Bool.Decides.{nat_tests}
use Rattle.model.specs.declared.refusal.Refusal.{Refusal}
use Rattle.model.specs.declared.refusal.Refusal.TheVariants.{Setting}
use Rattle.model.specs.Board.{or_else, unless}
use Rattle.model.specs.Counting.{up}
use Rattle.model.specs.Limits.{in_range, longest_setting}
use Rattle.model.specs.Monitor.{MonitorLaws}
use Rattle.distance.specs.Distance.{free, thread}
use Rattle.trail.specs.Trail.{TrailState, distance_at, permit_at, far, scaled, woven, trail_rule, trail_most, trail_rest, trail_ready, trail_ceiling, trail_left, trail_after, trail_fault, step_fault}
use Rattle.windows.proofs.Up.{up_mono, up_none, up_within}
use Rattle.trail.specs.Least.{least_mono, least_less, least_first, sum_mono, sum_under, sum_turn, all_at, all_fails}
use Rattle.monitor.proofs.OneLine.{LineLaws, Spent, one_laws}
use Rattle.distance.specs.Distances.{thread_within, thread_eases, thread_falls, thread_spends}

-- what every trail keeps
pub record Kept (ds : List ℕ) : Type 0 where
  pub some : 1 ≤ length ds
  pub few : length ds ≤ 5
  pub each : (i : ℕ) → i < length ds → 1 ≤ slice_index ds i

-- a check that does not fail passes its test, and so does what comes after it
passes : (test : Bool) (r : Refusal) (after : Option Refusal) → is_some (or_else (unless test r) after) ≡ false → (test ≡ true) × (is_some after ≡ false)
passes true r after fine = (refl, fine)
passes false r after fine = absurd (true≢false fine)

-- distances without a fault, from one that is not 0, are not 0
steps_some : (j before : ℕ) (ds : List ℕ) → 1 ≤ before → is_some (step_fault j before ds) ≡ false → (i : ℕ) → i < length ds → 1 ≤ slice_index ds i
steps_some j before [] some fine i l = absurd (omega arith)
steps_some j before (d ∷ ds) some fine zero l =
    let first = (passes (in_range before longest_setting d) (Setting j) (step_fault (j + 1) d ds) fine).0 in grind (arith, nat_tests)
steps_some j before (d ∷ ds) some fine (suc i) l =
    let both = passes (in_range before longest_setting d) (Setting j) (step_fault (j + 1) d ds) fine in
    let test = both.0 in
    let more : 1 ≤ d = grind (arith, nat_tests) in
    steps_some (j + 1) d ds more both.1 i (omega arith)

pub trail_kept : (ds : List ℕ) → is_some (trail_fault ds) ≡ false → Kept ds
trail_kept ds fine =
    let both = passes (in_range 1 5 (length ds)) (Setting 0) (step_fault 1 1 ds) fine in
    let test = both.0 in
    record { some = grind (arith, nat_tests); few = grind (arith, nat_tests); each = steps_some 1 1 ds (omega arith) both.1 }

-- each place of a trail has a distance
placed : (s : TrailState) → Kept s.distances → (i : ℕ) → i ≤ length s.distances - 1 → 1 ≤ distance_at s i
placed s k i h = k.each i (omega (arith, k.some))

trail_grows : (s : TrailState) (v w : ℕ) → Kept s.distances → v ≤ w → trail_most s v ≤ trail_most s w
trail_grows s v w k h =
    least_mono (length s.distances - 1) (scaled s v) (scaled s w)
    (λ i l. mul-le (suc i) (up v (distance_at s i)) (suc i) (up w (distance_at s i)) (le_refl (suc i)) (up_mono v w (distance_at s i) (placed s k i l) h))

trail_line : (s : TrailState) → Kept s.distances → LineLaws (trail_most s) (trail_rest s)
trail_line s k = record {
  within = λ a e.
      least_mono (length s.distances - 1) (woven s a e) (scaled s (e - a))
      (λ i l. sum_under (suc i) (λ j. thread (distance_at s i) (permit_at s j) a e) (up (e - a) (distance_at s i))
      (λ j m. thread_within (distance_at s i) (permit_at s j) a e (placed s k i l)));
  eases = λ a c e h.
      least_mono (length s.distances - 1) (woven s c e) (woven s a e)
      (λ i l. sum_mono (suc i) (λ j. thread (distance_at s i) (permit_at s j) c e) (λ j. thread (distance_at s i) (permit_at s j) a e)
      (λ j m. thread_eases (distance_at s i) (permit_at s j) a c e (placed s k i l) h));
  starts = omega (arith, least_first (length s.distances - 1) (scaled s 0), up_none (distance_at s 0) (placed s k 0 (omega arith)));
  grows = λ v w h. trail_grows s v w k h;
  bounded = λ w h. omega (arith, least_first (length s.distances - 1) (scaled s w), up_within w (distance_at s 0) (placed s k 0 (omega arith)));
}

pub trail_laws : (s : TrailState) → Kept s.distances → MonitorLaws 1 (trail_ready s) (trail_ceiling s) (trail_left s)
trail_laws s k = one_laws (trail_rule s) (trail_most s) (trail_rest s) (trail_line s k)

-- the permits before it stand one place on
moved_on : (s : TrailState) (t j : ℕ) → j < 4 → permit_at (trail_after s t) (suc j) ≡ permit_at s j
moved_on s t j h = get_or-take 4 s.permits j None h

-- by the distance at place i, which the permit at place i keeps to t
woven_turn : (s : TrailState) (t a b e c i : ℕ) → Kept s.distances → i ≤ length s.distances - 1
    → c + thread (distance_at s i) (Some t) b e ≤ thread (distance_at s i) (permit_at s i) a e → a ≤ b
    → c + woven (trail_after s t) b e i ≤ woven s a e i
woven_turn s t a b e c i k l first h =
    sum_turn i c (λ j. thread (distance_at s i) (permit_at (trail_after s t) j) b e) (λ j. thread (distance_at s i) (permit_at s j) a e) first
    (λ j m. rw (moved_on s t j (omega (arith, k.few))) (thread_eases (distance_at s i) (permit_at s j) a b e (placed s k i l) h))

pub trail_spent : (s : TrailState) (t : ℕ) → Kept s.distances → trail_rule s t ≡ true → Spent trail_rule trail_most trail_rest s t (trail_after s t)
trail_spent s t k ready =
    record {
      same = λ w. refl;
      not_before = λ u h. all_fails (length s.distances) (far (trail_after s t) u) 0 k.some (grind (arith, nat_tests));
      falls = λ a e.
          least_mono (length s.distances - 1) (woven (trail_after s t) a e) (woven s a e)
          (λ i l. omega (
            arith,
            woven_turn s t a a e 0 i k l
                (omega (arith, thread_falls (distance_at s i) (permit_at s i) t a e (placed s k i l) (passed s t k ready i l))) (le_refl a),
          ));
      spends = λ a e h l.
          least_less (length s.distances - 1) (woven (trail_after s t) t e) (woven s a e)
          (λ i m. woven_turn s t a t e 1 i k m
          (thread_spends (distance_at s i) (permit_at s i) t a e (placed s k i m) (passed s t k ready i m) h l) h);
    }
  where
    passed : (s : TrailState) (t : ℕ) → Kept s.distances → trail_rule s t ≡ true → (i : ℕ) → i ≤ length s.distances - 1 → free (permit_at s i) (distance_at s i) ≤ t
    passed s t k ready i l =
        let at = all_at (length s.distances) (far s t) ready i (omega (arith, k.some)) in grind (arith, nat_tests)
