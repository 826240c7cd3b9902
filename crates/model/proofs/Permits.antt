-- The permits of a line in any window, with those that its monitor can still give there, never pass the window's ceiling.
use Rattle.std.proofs.Common.{◌≡◌, ℕ, suc, ◌+◌, ◌-◌, ◌<◌, ◌≤◌, max, Bool, true, false, ◌&&◌, eqb, List, [], ◌∷◌, sym, refl, ap, subst, arith}
use Rattle.std.proofs.lemmas.Bool.Decides.{nat_tests}
use Rattle.model.specs.Monitor.{Meaning, Lawful}
use Rattle.model.specs.Core.{Becomes}
use Rattle.model.specs.Seen.{Accepted, accepted, more, count, within, permit_of}

module _ {S : Type 0} (means : Meaning S)
    (laws : Lawful means) (m₀ : S) where
  -- permits so far, and those that can still come, of every line and window, at instant t
  abbrev pub PermitsBounded : List Accepted → S → ℕ → Type 0
  PermitsBounded es m t = (k a w : ℕ) → count (permit_of k a w) es + means.left m k (max a t) (a + w) ≤ means.ceiling m₀ k w

  pub permits_fresh : PermitsBounded [] m₀ 0
  permits_fresh k a w =
      let whole : a + w - max a 0 ≡ w = omega arith in
      let fits = (laws m₀).within k (max a 0) (a + w) in
      let same = ap (means.ceiling m₀ k) whole in
      omega arith

  pub permits_tick : (es : List Accepted) (m : S) (t : ℕ) → PermitsBounded es m t → PermitsBounded es m (suc t)
  permits_tick es m t h k a w =
      let less = (laws m).eases k (max a t) (max a (suc t)) (a + w) (omega arith) in
      omega (arith, h k a w)

  pub permits_event : (es : List Accepted) (m n : S) (t j tag : ℕ) (permit : Bool) → Becomes means permit m j t n
      → PermitsBounded es m t → PermitsBounded (accepted j tag t permit ∷ es) n t
  permits_event es m n t j tag false same h k a w = subst (λ x. count (permit_of k a w) es + means.left x k (max a t) (a + w) ≤ means.ceiling m₀ k w) (sym same) (h k a w)
  permits_event es m n t j tag true after h k a w = by (eqb j k && within a w t) refl
    where
      by : (u : Bool) → (eqb j k && within a w t) ≡ u → more u (count (permit_of k a w) es) + means.left n k (max a t) (a + w) ≤ means.ceiling m₀ k w
      by false is = let less = after.falls k (max a t) (a + w) in omega (arith, h k a w)
      by true is =
          let line : j ≡ k = grind (arith, nat_tests) in
          let from : a ≤ t = grind (arith, nat_tests) in
          let to : t < a + w = grind (arith, nat_tests) in
          let here : max a t ≡ t = omega arith in
          let spent = after.spends (max a t) (a + w) (omega arith) to in
          let now = ap (λ x. means.left n j x (a + w)) here in
          let mine = ap (λ x. means.left n x (max a t) (a + w)) line in
          let mine' = ap (λ x. means.left m x (max a t) (a + w)) line in
          omega (arith, h k a w)
