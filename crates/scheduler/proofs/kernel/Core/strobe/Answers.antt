-- Each turn passes over the lines below the lowest bit, raises its line, and goes on above it.
use Rattle.std.proofs.Common.{◌≡◌, ℕ, suc, ◌+◌, ◌-◌, ◌^◌, ◌<◌, ◌≤◌, sym, refl, subst, inl, arith, pow_mono}
use lib.Count.{count_trailing_zeros}
use Rattle.std.proofs.lemmas.Nat.{one_shl}
use Rattle.model.specs.Core.{StrobedBelow}
use Rattle.scheduler.specs.Seen.{core_of}
use Rattle.scheduler.specs.Words.{noting}
use Rattle.scheduler.proofs.LineOrder.{LeftOf, Lowest, lowest, set_le, left_start, from, word_set, passed, left_next, left_none}
use Rattle.scheduler.proofs.Sparing.{Sparing, spent_once, sparing_more}
use Rattle.scheduler.proofs.Strobes.{strobe_start, strobe_pass, strobe_line, noted_few}
use Rattle.scheduler.proofs.kernel.Core.strobe.Goals as goal
use Rattle.monitor.specs.Meanings.{meaning}

pub loop-rest-init : goal.loop-rest-init
loop-rest-init g c = (
  c.ranges.word.fits,
  (
    0,
    omega arith,
    left_start c.args.word,
    omega arith,
    omega arith,
    strobe_start (meaning g.M.Monitor) c.args.mask.now.word c.args.word c.args.tag (core_of c.args.self.now),
  ),
  record { still = refl; so_far = inl (refl, refl) },
)

pub overflow_sub-rest : goal.overflow_sub-rest
overflow_sub-rest g c =
    let low = lowest 16 c.loop-rest.rest (omega (arith, c.loop-rest-test.true)) c.loop-rest.invariant.0 in
    let bit = one_shl (count_trailing_zeros 16 c.loop-rest.rest) 16 low.inside in
    let fits = set_le c.loop-rest.rest (count_trailing_zeros 16 c.loop-rest.rest) low.set_there in
    subst (λ x. x ≤ c.loop-rest.rest) (sym bit) fits

pub loop-rest-preserved : goal.loop-rest-preserved
loop-rest-preserved g c =
    subst (λ b. (c.loop-rest.rest - b < 2 ^ 16) × ((n : ℕ) × (n ≤ 16) × LeftOf n c.args.word (c.loop-rest.rest - b) × (c.noted-words.result.0 < 2 ^ n) × (c.noted-words.result.1 < 2 ^ n)
    × StrobedBelow (meaning g.M.Monitor) n c.args.mask.now.word c.args.word c.args.tag (core_of c.args.self.now) c.noted-words.result (core_of c.raise-answer.new.self))
    × Sparing (meaning g.M.Monitor) g.M.Monitor.spent c.args.self.now.monitor (core_of c.args.self.now).state.instant c.noted-words.result.1 (core_of c.raise-answer.new.self))
    (sym (one_shl (count_trailing_zeros 16 c.loop-rest.rest) 16 low.inside)) (
      omega (arith, c.loop-rest.invariant.0),
      (
        suc (count_trailing_zeros 16 c.loop-rest.rest),
        low.inside,
        left_next n c.args.word c.loop-rest.rest (count_trailing_zeros 16 c.loop-rest.rest) left low,
        subst (λ w. w.0 < 2 ^ suc (count_trailing_zeros 16 c.loop-rest.rest)) (sym same) few.0,
        subst (λ w. w.1 < 2 ^ suc (count_trailing_zeros 16 c.loop-rest.rest)) (sym same) few.1,
        subst (λ w. StrobedBelow (meaning g.M.Monitor) (suc (count_trailing_zeros 16 c.loop-rest.rest)) c.args.mask.now.word c.args.word c.args.tag (core_of c.args.self.now) w (core_of c.raise-answer.new.self))
            (sym same)
            (strobe_line (meaning g.M.Monitor) c.args.mask.now.word c.args.word c.args.tag (core_of c.args.self.now)
            (count_trailing_zeros 16 c.loop-rest.rest) c.loop-rest.words (core_of c.loop-rest.self) (core_of c.raise-answer.new.self) c.raise-answer.result
            (word_set n c.args.word c.loop-rest.rest (count_trailing_zeros 16 c.loop-rest.rest) left low) at c.raise-answer.ensures.raised),
      ),
      subst (λ w. Sparing (meaning g.M.Monitor) g.M.Monitor.spent c.args.self.now.monitor (core_of c.args.self.now).state.instant w.1 (core_of c.raise-answer.new.self))
          (sym same)
          (sparing_more (meaning g.M.Monitor) g.M.Monitor.spent c.args.self.now.monitor (core_of c.args.self.now).state.instant
          (core_of c.loop-rest.self) (core_of c.raise-answer.new.self) (count_trailing_zeros 16 c.loop-rest.rest) c.args.tag c.loop-rest.words c.loop-rest.invariant.2
          c.args.mask.now.word c.raise-answer.result c.raise-answer.ensures.raised c.raise-answer.ensures.once),
    )
  where
    low : Lowest 16 c.loop-rest.rest (count_trailing_zeros 16 c.loop-rest.rest)
    low = lowest 16 c.loop-rest.rest (omega (arith, c.loop-rest-test.true)) c.loop-rest.invariant.0

    n : ℕ
    n = c.loop-rest.invariant.1.0

    left : LeftOf n c.args.word c.loop-rest.rest
    left = c.loop-rest.invariant.1.2

    start : n ≤ count_trailing_zeros 16 c.loop-rest.rest
    start = from n c.args.word c.loop-rest.rest (count_trailing_zeros 16 c.loop-rest.rest) left low

    few0 : c.loop-rest.words.0 < 2 ^ count_trailing_zeros 16 c.loop-rest.rest
    few0 = omega (arith, pow_mono start, c.loop-rest.invariant.1.3)

    few1 : c.loop-rest.words.1 < 2 ^ count_trailing_zeros 16 c.loop-rest.rest
    few1 = omega (arith, pow_mono start, c.loop-rest.invariant.1.4)

    same : c.noted-words.result ≡ noting (count_trailing_zeros 16 c.loop-rest.rest) c.raise-answer.result c.loop-rest.words
    same = c.noted-words.ensures few0 few1

    few : ((noting (count_trailing_zeros 16 c.loop-rest.rest) c.raise-answer.result c.loop-rest.words).0 < 2 ^ suc (count_trailing_zeros 16 c.loop-rest.rest))
        × ((noting (count_trailing_zeros 16 c.loop-rest.rest) c.raise-answer.result c.loop-rest.words).1 < 2 ^ suc (count_trailing_zeros 16 c.loop-rest.rest))
    few = noted_few (count_trailing_zeros 16 c.loop-rest.rest) c.raise-answer.result c.loop-rest.words few0 few1

    reach : n + (count_trailing_zeros 16 c.loop-rest.rest - n) ≡ count_trailing_zeros 16 c.loop-rest.rest
    reach = omega (arith, start)

    at : StrobedBelow (meaning g.M.Monitor) (count_trailing_zeros 16 c.loop-rest.rest) c.args.mask.now.word c.args.word c.args.tag (core_of c.args.self.now) c.loop-rest.words (core_of c.loop-rest.self)
    at =
        subst (λ k. StrobedBelow (meaning g.M.Monitor) k c.args.mask.now.word c.args.word c.args.tag (core_of c.args.self.now) c.loop-rest.words (core_of c.loop-rest.self))
        reach
        (strobe_pass (meaning g.M.Monitor) c.args.mask.now.word c.args.word c.args.tag (core_of c.args.self.now)
        n (count_trailing_zeros 16 c.loop-rest.rest - n) c.loop-rest.words (core_of c.loop-rest.self)
        (λ j l m. passed n c.args.word c.loop-rest.rest (count_trailing_zeros 16 c.loop-rest.rest) left low j l (omega (arith, reach)))
        c.loop-rest.invariant.1.5)

pub returns : goal.returns
returns g c = record {
  strobed =
      subst (λ k. StrobedBelow (meaning g.M.Monitor) k c.args.mask.now.word c.args.word c.args.tag (core_of c.args.self.now) c.loop-rest.words (core_of c.loop-rest.self))
      reach
      (strobe_pass (meaning g.M.Monitor) c.args.mask.now.word c.args.word c.args.tag (core_of c.args.self.now)
      n (16 - n) c.loop-rest.words (core_of c.loop-rest.self)
      (λ j l m. left_none n c.args.word none j l)
      c.loop-rest.invariant.1.5);
  once = spent_once (meaning g.M.Monitor) g.M.Monitor.spent c.args.self.now.monitor (core_of c.args.self.now).state.instant c.loop-rest.words.1 (core_of c.loop-rest.self) c.loop-rest.invariant.2;
}
  where
    n : ℕ
    n = c.loop-rest.invariant.1.0

    reach : n + (16 - n) ≡ 16
    reach = omega (arith, c.loop-rest.invariant.1.1)

    none : LeftOf n c.args.word 0
    none = subst (LeftOf n c.args.word) c.loop-rest-test.false c.loop-rest.invariant.1.2
