-- Monitors side by side, and one limited by another, are lawful if both are.
use Rattle.std.specs.Prelude.{ℕ, ◌-◌, Bool}
use Rattle.std.proofs.Common.{arith}
use Rattle.std.proofs.lemmas.Bool.Decides.{nat_tests}
use Rattle.model.specs.Monitor.{MonitorLaws}
use Rattle.monitor.specs.Pair.{joined_lines, joined_ready, joined_ceiling, joined_left}
use Rattle.monitor.specs.Joint.{limited_ready, limited_ceiling, limited_left}

module _
    {m n : ℕ} {f g : ℕ → ℕ → Bool} {c d : ℕ → ℕ → ℕ} {l r : ℕ → ℕ → ℕ → ℕ}
    (one : MonitorLaws m f c l) (two : MonitorLaws n g d r) where
  pub joined_laws : MonitorLaws (joined_lines m n) (joined_ready m f g) (joined_ceiling m c d) (joined_left m l r)
  joined_laws = record {
    few = omega arith;
    within = λ k a b. let x = one.within k a b in let y = two.within (k - m) a b in grind (arith, nat_tests);
    eases = λ k a e b h. let x = one.eases k a e b h in let y = two.eases (k - m) a e b h in grind (arith, nat_tests);
    starts = λ k. let x = one.starts k in let y = two.starts (k - m) in grind (arith, nat_tests);
    grows = λ k v w h. let x = one.grows k v w h in let y = two.grows (k - m) v w h in grind (arith, nat_tests);
    bounded = λ k w. let x = one.bounded k w in let y = two.bounded (k - m) w in grind (arith, nat_tests);
    unready = λ k t h. let y = two.unready (k - m) t in grind (arith, nat_tests);
    unknown = λ k w h. let y = two.unknown (k - m) w in grind (arith, nat_tests);
    past = λ k t h. let x = one.past k t h in let y = two.past (k - m) t h in grind (arith, nat_tests);
    long = λ k w h. let x = one.long k w h in let y = two.long (k - m) w h in grind (arith, nat_tests);
  }

  pub limited_laws : MonitorLaws m (limited_ready f g) (limited_ceiling c d) (limited_left l r)
  limited_laws = record {
    few = one.few;
    within = λ k a b. omega (arith, one.within k a b, two.within 0 a b);
    eases = λ k a e b h. omega (arith, one.eases k a e b h, two.eases 0 a e b h);
    starts = λ k. omega (arith, one.starts k);
    grows = λ k v w h. omega (arith, one.grows k v w h, two.grows 0 v w h);
    bounded = λ k w. omega (arith, one.bounded k w);
    unready = λ k t h. let x = one.unready k t h in grind (arith, nat_tests);
    unknown = λ k w h. omega (arith, one.unknown k w h);
    past = λ k t h. let x = one.past k t h in grind (arith, nat_tests);
    long = λ k w h. let x = one.long k w h in let y = two.long 0 w h in cc;
  }
