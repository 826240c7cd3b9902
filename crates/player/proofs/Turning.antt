-- A turn by what it did, and that turns are a run of the model.
use Rattle.std.proofs.Common.{◌≡◌, ℕ, zero, suc, ◌<◌, List, [], ◌∷◌, ◌++◌, Some, Ok, Err, Result, sym, refl, ap, subst, arith}
use Rattle.model.specs.Core.{Core}
use Rattle.model.specs.Run.{Call, Called, Run, start, call}
use Rattle.sheet.specs.declared.command.Command.{Command}
use Rattle.sheet.specs.declared.command.Command.TheVariants.{Raise, Strobe, SetMask, Advance}
use Rattle.sheet.specs.declared.fault.Fault.{Fault}
use Rattle.sheet.specs.Firsts.{first_of, later_of}
use Rattle.replies.specs.declared.reply.Reply.{Reply}
use Rattle.player.specs.Playing.{Place, on_line, Advances, Obeyed, TurnedBy, Turns, start as no-turn, turn}
use Rattle.model.specs.Monitor.{Meaning}

module _ {S : Type 0} (means : Meaning S) where
  -- a run of x that goes on by one call, given by what it is equal to
  goes_on : (x : Core S) (before : List Call) (y : Core S) (c d : Call) (calls : List Call) (z w : Core S)
      → Run means x before y → Called means y d w → c ≡ d → z ≡ w → calls ≡ c ∷ []
      → Run means x (calls ++ before) z
  goes_on x before y c d calls z w ran made e f g =
      subst (λ (l : List Call). Run means x (l ++ before) z) (sym g)
      (subst (λ (v : Core S). Run means x (c ∷ before) v) (sym f)
      (subst (λ (k : Call). Run means x (k ∷ before) w) (sym e) (call ran made)))

  -- a run that does not go on
  stays : (x : Core S) (before : List Call) (y : Core S) (calls : List Call) (z : Core S)
      → Run means x before y → calls ≡ [] → z ≡ y → Run means x (calls ++ before) z
  stays x before y calls z ran g f =
      subst (λ (l : List Call). Run means x (l ++ before) z) (sym g)
      (subst (λ (v : Core S). Run means x before v) (sym f) ran)

  module _ (x : Core S) (before : List Call) where
    advanced_run : (p : Place S) (n : ℕ) (a : Reply) (c : Call) (calls : List Call) (q : Place S)
        → Run means x before p.core → Advances p n a c q → calls ≡ c ∷ [] → Run means x (calls ++ before) q.core
    advanced_run p n a c calls q ran t g = goes_on x before p.core c _ calls q.core t.after ran t.advanced t.called (ap (λ (s : Place S). s.core) t.place_after) g

    obeyed_run : (line : Result Command Fault) (p : Place S) (a : Reply) (calls : List Call) (q : Place S)
        → Run means x before p.core → Obeyed means line p a calls q → Run means x (calls ++ before) q.core
    obeyed_run (Err f) p a calls q ran t = stays x before p.core calls q.core ran t.1 (ap (λ (s : Place S). s.core) t.2)
    obeyed_run (Ok (Raise k tag)) p a calls q ran t =
        goes_on x before p.core t.0 _ calls q.core t.1.after ran t.1.raised t.1.called (ap (λ (s : Place S). s.core) t.1.place_after) t.2
    obeyed_run (Ok (Strobe word tag)) p a calls q ran t =
        goes_on x before p.core t.0 _ calls q.core t.1.after ran t.1.strobed t.1.called (ap (λ (s : Place S). s.core) t.1.place_after) t.2
    obeyed_run (Ok (SetMask word)) p a calls q ran t = stays x before p.core calls q.core ran t.1 (ap (λ (s : Place S). s.core) t.2)
    obeyed_run (Ok (Advance n)) p a calls q ran t = advanced_run p n a t.0 calls q ran t.1 t.2

    turned_run : (n : ℕ) (rest : List (Result Command Fault)) (p : Place S) (a : Reply) (calls : List Call) (q : Place S)
        → Run means x before p.core → TurnedBy means n rest p (Some a) calls q
        → Run means x (calls ++ before) q.core
    turned_run (suc n) rest p a calls q ran t = advanced_run p (suc n) a t.0 calls q ran t.1 t.2
    turned_run zero [] p a calls q ran t = stays x before p.core calls q.core ran t.1 (ap (λ (s : Place S). s.core) t.2)
    turned_run zero (line ∷ rest) p a calls q ran t = obeyed_run line (on_line p rest) a calls q ran t

  pub turns_run : (p : Place S) (text : List ℕ) (calls : List Call) (q : Place S) → Turns means p text calls q
      → Run means p.core calls q.core
  turns_run p text calls q no-turn = start
  turns_run p text calls q (turn {before = before} {q = s} ts a more r t) =
      turned_run p.core before s.owing s.rest s a more r (turns_run p _ before s ts) t

  -- ticks that are still to run are run on
  pub run_on : (n m : ℕ) → n ≡ m → 0 < n → (rest : List (Result Command Fault)) (p : Place S) (a : Reply) (c : Call) (q : Place S)
      → Advances p n a c q → TurnedBy means m rest p (Some a) (c ∷ []) q
  run_on n zero e h rest p a c q t = absurd (omega arith)
  run_on n (suc m) e h rest p a c q t = (c, subst (λ (k : ℕ). Advances p k a c q) e t, refl)

  -- the next line is played
  pub line_on : (n : ℕ) → n ≡ 0 → (rest : List (Result Command Fault)) (line : Result Command Fault) → Some line ≡ first_of rest
      → (p d : Place S) → d ≡ on_line p (later_of rest) → (a : Reply) (calls : List Call) (q : Place S)
      → Obeyed means line d a calls q → TurnedBy means n rest p (Some a) calls q
  line_on (suc n) e rest line f p d s a calls q t = absurd (omega arith)
  line_on zero e [] line f p d s a calls q t = let z : ◌≡◌ {A = ℕ} 0 1 = cc f in absurd (omega arith)
  line_on zero e (l ∷ ls) line f p d s a calls q t =
      subst (λ (x : Place S). Obeyed means l x a calls q) s
      (let same : line ≡ l = cc f in subst (λ (x : Result Command Fault). Obeyed means x d a calls q) same t)
