-- A distance is lawful, and a permit of it spends one of what is left.
use Rattle.std.specs.Prelude.{◌≡◌, ℕ, ◌+◌, ◌-◌, ◌<◌, ◌≤◌, max, true, Some, Option, refl}
use Rattle.std.proofs.Common.{le_trans, arith}
use Rattle.std.proofs.lemmas.Bool.Decides.{nat_tests}
use Rattle.model.specs.Counting.{up}
use Rattle.model.specs.Monitor.{MonitorLaws}
use Rattle.distance.specs.Distance.{DistanceState, free, thread, distance_rule, distance_most, distance_rest, distance_ready, distance_ceiling, distance_left, distance_after}
use Rattle.windows.proofs.Up.{up_mono, up_none, up_within, up_step}
use Rattle.monitor.proofs.OneLine.{LineLaws, Spent, one_laws}

pub thread_within : (d : ℕ) (p : Option ℕ) (a e : ℕ) → 1 ≤ d → thread d p a e ≤ up (e - a) d
thread_within d p a e some = up_mono (e - max a (free p d)) (e - a) d some (omega arith)

pub thread_eases : (d : ℕ) (p : Option ℕ) (a c e : ℕ) → 1 ≤ d → a ≤ c → thread d p c e ≤ thread d p a e
thread_eases d p a c e some h = up_mono (e - max c (free p d)) (e - max a (free p d)) d some (omega arith)

pub thread_falls : (d : ℕ) (p : Option ℕ) (t a e : ℕ) → 1 ≤ d → free p d ≤ t → thread d (Some t) a e ≤ thread d p a e
thread_falls d p t a e some h = up_mono (e - max a (t + d)) (e - max a (free p d)) d some (omega arith)

pub thread_spends : (d : ℕ) (p : Option ℕ) (t a e : ℕ) → 1 ≤ d → free p d ≤ t → a ≤ t → t < e → 1 + thread d (Some t) t e ≤ thread d p a e
thread_spends d p t a e some h l r =
    let i : e - max t (t + d) ≡ (e - t) - d = omega arith in
    rw i (le_trans (up_step (e - t) d some (omega arith)) (up_mono (e - t) (e - max a (free p d)) d some (omega arith)))

distance_line : (s : DistanceState) → 1 ≤ s.distance → LineLaws (distance_most s) (distance_rest s)
distance_line s some = record {
  within = λ a e. thread_within s.distance s.latest a e some;
  eases = λ a c e h. thread_eases s.distance s.latest a c e some h;
  starts = up_none s.distance some;
  grows = λ v w h. up_mono v w s.distance some h;
  bounded = λ w h. omega (arith, up_within w s.distance some);
}

pub distance_laws : (s : DistanceState) → 1 ≤ s.distance → MonitorLaws 1 (distance_ready s) (distance_ceiling s) (distance_left s)
distance_laws s some = one_laws (distance_rule s) (distance_most s) (distance_rest s) (distance_line s some)

pub distance_spent :
    (s : DistanceState) (t : ℕ) → 1 ≤ s.distance → distance_rule s t ≡ true → Spent distance_rule distance_most distance_rest s t (distance_after s t)
distance_spent s t some ready =
    let far : free s.latest s.distance ≤ t = grind (arith, nat_tests) in
    record {
      same = λ w. refl;
      not_before = λ u h. grind (arith, nat_tests);
      falls = λ a e. thread_falls s.distance s.latest t a e some far;
      spends = λ a e h l. thread_spends s.distance s.latest t a e some far h l;
    }
