-- A monitor of one line is lawful, and its permits are as every monitor's, if its rule is: once for all kinds.
use Rattle.std.proofs.Common.{◌≡◌, ℕ, ◌+◌, ◌-◌, ◌<◌, ◌≤◌, min, Bool, true, false, sym, refl, arith}
use Rattle.std.proofs.lemmas.Bool.Decides.{nat_tests}
use Rattle.model.specs.Limits.{instants, largest}
use Rattle.model.specs.Monitor.{MonitorLaws, Meaning, meant, Permitted, Asked}
use Rattle.monitor.specs.OneLine.{one_ready, one_ceiling, one_left}

-- the laws of one line, by its ceiling and what is left of it
pub record LineLaws (most : ℕ → ℕ) (rest : ℕ → ℕ → ℕ) : Type 0 where
  pub within : (a e : ℕ) → rest a e ≤ most (e - a)
  pub eases : (a c e : ℕ) → a ≤ c → rest c e ≤ rest a e
  pub starts : most 0 ≡ 0
  pub grows : (v w : ℕ) → v ≤ w → most v ≤ most w
  pub bounded : (w : ℕ) → w ≤ instants → most w ≤ largest

pub one_laws : (rule : ℕ → Bool) (most : ℕ → ℕ) (rest : ℕ → ℕ → ℕ) → LineLaws most rest → MonitorLaws 1 (one_ready rule) (one_ceiling most) (one_left rest)
one_laws rule most rest l = record {
  few = omega arith;
  within = λ k a b.
      let inside = l.within a (min b instants) in
      let wider = l.grows (min b instants - a) (min (b - a) instants) (omega arith) in
      grind (arith, nat_tests);
  eases = λ k a c b h. let later = l.eases a c (min b instants) h in grind (arith, nat_tests);
  starts = λ k. let none = l.starts in grind (arith, nat_tests);
  grows = λ k v w h. let more = l.grows (min v instants) (min w instants) (omega arith) in grind (arith, nat_tests);
  bounded = λ k w. let most-few = l.bounded (min w instants) (omega arith) in grind (arith, nat_tests);
  unready = λ k t h. grind (arith, nat_tests);
  unknown = λ k w h. grind (arith, nat_tests);
  past = λ k t h. grind (arith, nat_tests);
  long = λ k w h. let e : min w instants ≡ instants = omega arith in rw e;
}

module _ {S : Type 0} (rule : S → ℕ → Bool) (most : S → ℕ → ℕ) (rest : S → ℕ → ℕ → ℕ) where
  -- what a permit at t makes of the line
  pub record Spent (s : S) (t : ℕ) (n : S) : Type 0 where
    pub same : (w : ℕ) → most n w ≡ most s w
    pub not_before : (u : ℕ) → u < t → rule n u ≡ false
    pub falls : (a e : ℕ) → rest n a e ≤ rest s a e
    pub spends : (a e : ℕ) → a ≤ t → t < e → 1 + rest n t e ≤ rest s a e

  module _ {M : Type 0} (view : M → S) where
    -- what monitors of one line mean that hold such a state
    abbrev pub line_meaning : Meaning M
    line_meaning = meant (λ m. 1) (λ m. one_ready (rule (view m))) (λ m. one_ceiling (most (view m))) (λ m. one_left (rest (view m)))

    abbrev pub LinePermitted : M → ℕ → ℕ → M → Type 0
    LinePermitted = Permitted line_meaning

    abbrev pub LineAsked : M → ℕ → ℕ → Bool → M → Type 0
    LineAsked = Asked line_meaning

    one_permitted :
        (m : M) (k t : ℕ) (n : M) → one_ready (rule (view m)) k t ≡ true → Spent (view m) t (view n) → LinePermitted m k t n
    one_permitted m k t n ready spent = record {
      same_lines = refl;
      same_ceilings = λ j w. let e = spent.same (min w instants) in grind (arith, nat_tests);
      not_before = λ s h. let e = spent.not_before s h in grind (arith, nat_tests);
      falls = λ j a b. let fewer = spent.falls a (min b instants) in grind (arith, nat_tests);
      spends = λ a b h l.
          let inside : t < min b instants = grind (arith, nat_tests) in
          let less = spent.spends a (min b instants) h inside in
          grind (arith, nat_tests);
    }

    -- a yes is a permit, for a monitor that holds such a state
    pub one_asked :
        (m : M) (k t : ℕ) (n : M) (after : S) → view n ≡ after → true ≡ one_ready (rule (view m)) k t
        → (rule (view m) t ≡ true → Spent (view m) t after) → LineAsked m k t true n
    one_asked m k t n after is ready spent =
        let keeps : rule (view m) t ≡ true = grind (arith, nat_tests) in
        let spent_n : Spent (view m) t (view n) = rw is (spent keeps) in
        record { answer = ready; on_no = λ e. grind (arith, nat_tests); on_yes = λ e. one_permitted m k t n (sym ready) spent_n }
