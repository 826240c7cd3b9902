-- The curves' laws: those of one line, by its rule, and those of a pair, by its parts.
use Rattle.std.specs.Prelude.{◌≡◌, ℕ, ◌+◌, ◌-◌, ◌≤◌, min, refl}
use Rattle.std.proofs.Common.{arith}
use Rattle.std.proofs.lemmas.Bool.Decides.{nat_tests}
use Rattle.model.specs.Limits.{instants, largest}
use Rattle.model.specs.Curve.{CurveLaws}
use Rattle.windows.proofs.Up.{up_mono, up_none, up_within}
use Rattle.curve.specs.Single.{single}
use Rattle.curve.specs.Sporadic.{SporadicState, sporadic_most}
use Rattle.curve.specs.Jitter.{JitterState, jitter_most}
use Rattle.curve.specs.Pair.{pair_lines, pair_most}

-- a rule that starts at 0, never falls and is bounded makes a curve of one line
pub single_laws : (f : ℕ → ℕ) → f 0 ≡ 0 → ((v w : ℕ) → v ≤ w → f v ≤ f w) → f instants ≤ largest → CurveLaws 1 (single f)
single_laws f none grows few =
    record {
      few = omega arith;
      starts = λ k. grind (arith, nat_tests);
      grows = λ k v w le. let h = grows (min v instants) (min w instants) (omega arith) in grind (arith, nat_tests);
      bounded = λ k w. let h = grows (min w instants) instants (omega arith) in grind (arith, nat_tests);
      unknown = λ k w far. grind (arith, nat_tests);
      long = λ k w far. let same : min w instants ≡ instants = omega arith in rw same;
    }

-- a sporadic curve's rule is a quotient rounded up
pub sporadic_laws : (s : SporadicState) → 1 ≤ s.distance → CurveLaws 1 (single (sporadic_most s))
sporadic_laws s some =
    single_laws (sporadic_most s) (up_none s.distance some) (λ v w. up_mono v w s.distance some)
    (let h = up_within instants s.distance some in omega arith)

-- a jitter curve's rule is 0 at first, then a quotient rounded up
pub jitter_laws : (s : JitterState) → 1 ≤ s.period → s.jitter ≤ 1000000000 → CurveLaws 1 (single (jitter_most s))
jitter_laws s some few =
    single_laws (jitter_most s) refl
    (λ v w le. let h = up_mono (v + s.jitter) (w + s.jitter) s.period some (omega arith) in grind (arith, nat_tests))
    (let h = up_within (instants + s.jitter) s.period some in omega arith)

-- two lawful curves make a lawful pair
pub pair_laws : {n m : ℕ} {f g : ℕ → ℕ → ℕ} → CurveLaws n f → CurveLaws m g → CurveLaws (pair_lines n m) (pair_most n f g)
pair_laws {n} {m} {f} {g} a b =
    record {
      few = omega arith;
      starts = λ k. let h = a.starts k in let i = b.starts (k - n) in grind (arith, nat_tests);
      grows = λ k v w le. let h = a.grows k v w le in let i = b.grows (k - n) v w le in grind (arith, nat_tests);
      bounded = λ k w. let h = a.bounded k w in let i = b.bounded (k - n) w in grind (arith, nat_tests);
      unknown = λ k w far. let i = b.unknown (k - n) w in grind (arith, nat_tests);
      long = λ k w far. let h = a.long k w far in let i = b.long (k - n) w far in grind (arith, nat_tests);
    }
