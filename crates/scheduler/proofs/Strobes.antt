-- A strobe by turns: lines passed over, a line raised, and all sixteen done.
use Rattle.std.proofs.Common.{◌≡◌, ℕ, zero, suc, ◌+◌, ◌^◌, ◌<◌, ◌≤◌, true, false, Ok, Err, Result, sym, refl, subst, add-zero, add-suc, arith}
use Rattle.model.specs.declared.refusal.Refusal.{Refusal}
use Rattle.model.specs.declared.run.Answer.{Answer}
use Rattle.model.specs.declared.run.Answer.TheVariants.{Permitted, Queued}
use Rattle.model.specs.Bits.{is_set}
use Rattle.model.specs.Core.{Core, Raised, noted, Offered, StrobedBelow}
use Rattle.model.proofs.Words.{sum_fits}
use Rattle.scheduler.specs.Words.{noting}
use Rattle.model.specs.Monitor.{Meaning}

module _ {S : Type 0} (means : Meaning S) (mask word tag : ℕ) (x : Core S) where
  same_noted : (k : ℕ) (r : Result Answer Refusal) (w : ℕ × ℕ) → noting k r w ≡ noted means k r w
  same_noted k (Ok Permitted) w = refl
  same_noted k (Ok Queued) w = refl
  same_noted k (Err e) w = refl

  pub strobe_start : StrobedBelow means 0 mask word tag x (0, 0) x
  unfolding StrobedBelow
  strobe_start = (refl, refl)

  -- lines whose bits are not set are passed over
  pub strobe_pass : (n d : ℕ) (w : ℕ × ℕ) (y : Core S) → ((j : ℕ) → n ≤ j → j < n + d → is_set word j ≡ false)
      → StrobedBelow means n mask word tag x w y → StrobedBelow means (n + d) mask word tag x w y
  unfolding StrobedBelow
  strobe_pass n zero w y unset s = subst (λ k. StrobedBelow means k mask word tag x w y) (sym (add-zero n)) s
  strobe_pass n (suc d) w y unset s =
      subst (λ k. StrobedBelow means k mask word tag x w y) (sym (add-suc n d))
      (y, w, strobe_pass n d w y (λ j l m. unset j l (omega arith)) s, subst (λ t. Offered means t mask tag (n + d) y w w y) (sym (unset (n + d) (omega arith) (omega arith))) (refl, refl))

  -- a line whose bit is set is raised and noted
  pub strobe_line : (k : ℕ) (v : ℕ × ℕ) (y z : Core S) (r : Result Answer Refusal) → is_set word k ≡ true → StrobedBelow means k mask word tag x v y
      → Raised means y mask k tag r z → StrobedBelow means (suc k) mask word tag x (noting k r v) z
  unfolding StrobedBelow
  strobe_line k v y z r is s raised =
      (y, v, s, subst (λ t. Offered means t mask tag k y v (noting k r v) z) (sym is) (r, raised, same_noted k r v))

pub noted_few : (k : ℕ) (r : Result Answer Refusal) (w : ℕ × ℕ) → w.0 < 2 ^ k → w.1 < 2 ^ k → ((noting k r w).0 < 2 ^ suc k) × ((noting k r w).1 < 2 ^ suc k)
noted_few k (Ok Permitted) w a b = (sum_fits w.0 k a, sum_fits w.1 k b)
noted_few k (Ok Queued) w a b = (sum_fits w.0 k a, omega arith)
noted_few k (Err e) w a b = (omega arith, omega arith)
