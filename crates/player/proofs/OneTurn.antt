-- A turn's relation fixes its outcome, since each call's does.
use Rattle.std.proofs.Common.{◌≡◌, ℕ, zero, suc, List, [], ◌∷◌, Some, None, Ok, Err, Option, Result, sym, ap, ◌∙◌}
use Rattle.model.specs.Core.{Core}
use Rattle.model.specs.Run.{Call, raise, strobe, advance}
use Rattle.model.proofs.OneAnswer.{calls_once}
use Rattle.sheet.specs.declared.command.Command.{Command}
use Rattle.sheet.specs.declared.command.Command.TheVariants.{Raise, Strobe, SetMask, Advance}
use Rattle.sheet.specs.declared.fault.Fault.{Fault}
use Rattle.replies.specs.declared.reply.Reply.{Reply}
use Rattle.player.specs.Playing.{Place, place, on_line, with_core, blank_spans, blank_events, raised_reply, strobed_reply, advanced_reply, owing_after, Advances, Obeyed, TurnedBy}
use Rattle.player.specs.Once.{SamePlace, OneTurn}
use Rattle.model.specs.Monitor.{Meaning}

same_place : {S : Type 0} (q r : Place S) → q ≡ r → SamePlace q r
same_place q r e = record {
  boards = ap (λ s. s.core.board) e;
  states = ap (λ s. s.core.state) e;
  masks = ap (λ s. s.mask) e;
  numbers = ap (λ s. s.line) e;
  ticks = ap (λ s. s.owing) e;
  rests = ap (λ s. s.rest) e;
}

-- the same place but for the core, with cores that are alike
with_core_lem : {S : Type 0} (p : Place S) (x y : Core S) (q r : Place S) → x.board ≡ y.board → x.state ≡ y.state → q ≡ with_core p x → r ≡ with_core p y → SamePlace q r
with_core_lem p x y q r b s e f = record {
  boards = ap (λ v. v.core.board) e ∙ (b ∙ sym (ap (λ v. v.core.board) f));
  states = ap (λ v. v.core.state) e ∙ (s ∙ sym (ap (λ v. v.core.state) f));
  masks = ap (λ v. v.mask) e ∙ sym (ap (λ v. v.mask) f);
  numbers = ap (λ v. v.line) e ∙ sym (ap (λ v. v.line) f);
  ticks = ap (λ v. v.owing) e ∙ sym (ap (λ v. v.owing) f);
  rests = ap (λ v. v.rest) e ∙ sym (ap (λ v. v.rest) f);
}

-- the one call that was made
one_call : (c d : Call) (calls more : List Call) → c ≡ d → calls ≡ c ∷ [] → more ≡ d ∷ [] → calls ≡ more
one_call c d calls more e f g = f ∙ (ap (λ (x : Call). x ∷ []) e ∙ sym g)

module _ {S : Type 0} (means : Meaning S) where
  module _ (a b : Reply) (calls more : List Call) (q r : Place S) where
    advances_once : (p : Place S) (n : ℕ) (c d : Call) → Advances p n a c q → Advances p n b d r → calls ≡ c ∷ [] → more ≡ d ∷ [] → (a ≡ b) × (calls ≡ more) × SamePlace q r
    advances_once p n c d t u f g =
        let same = (calls_once means).advanced p.core n blank_spans blank_events t.ran u.ran t.after u.after t.spans u.spans t.events u.events
        t.advanced u.advanced in (
          t.replied ∙ ((λ i. advanced_reply p.line (same.0 i) (same.2 i) (same.3 i)) ∙ sym u.replied),
          one_call c d calls more (t.called ∙ ((λ i. advance n blank_spans blank_events (same.0 i) (same.2 i) (same.3 i)) ∙ sym u.called)) f g,
          same_place q r (t.place_after ∙ ((λ i. place (same.1 i) p.mask p.line (owing_after n (same.0 i)) p.rest) ∙ sym u.place_after)),
        )

    obeyed_once : (line : Result Command Fault) (p : Place S) → Obeyed means line p a calls q → Obeyed means line p b more r
        → (a ≡ b) × (calls ≡ more) × SamePlace q r
    obeyed_once (Err f) p t u = (t.0 ∙ sym u.0, t.1 ∙ sym u.1, same_place q r (t.2 ∙ sym u.2))
    obeyed_once (Ok (SetMask word)) p t u = (t.0 ∙ sym u.0, t.1 ∙ sym u.1, same_place q r (t.2 ∙ sym u.2))
    obeyed_once (Ok (Raise k tag)) p t u =
        let x = t.1 in
        let y = u.1 in
        let same = (calls_once means).raised p.core p.mask k tag x.answer y.answer x.after y.after x.raised y.raised in (
          x.replied ∙ (ap (raised_reply p.line) same.0 ∙ sym y.replied),
          one_call t.0 u.0 calls more (x.called ∙ ((λ i. raise p.mask k tag (same.0 i)) ∙ sym y.called)) t.2 u.2,
          with_core_lem p x.after y.after q r same.1 same.2 x.place_after y.place_after,
        )
    obeyed_once (Ok (Strobe word tag)) p t u =
        let x = t.1 in
        let y = u.1 in
        let same = (calls_once means).strobed p.core p.mask word tag x.words y.words x.after y.after x.strobed y.strobed in (
          x.replied ∙ (ap strobed_reply same.0 ∙ sym y.replied),
          one_call t.0 u.0 calls more (x.called ∙ ((λ i. strobe p.mask word tag (same.0 i)) ∙ sym y.called)) t.2 u.2,
          with_core_lem p x.after y.after q r same.1 same.2 x.place_after y.place_after,
        )
    obeyed_once (Ok (Advance n)) p t u = advances_once p n t.0 u.0 t.1 u.1 t.2 u.2

  some_once : (a b : Reply) (calls more : List Call) (q r : Place S) → (a ≡ b) × (calls ≡ more) × SamePlace q r
      → (◌≡◌ {A = Option Reply} (Some a) (Some b)) × (calls ≡ more) × SamePlace q r
  some_once a b calls more q r t = (ap (λ (x : Reply). Some x) t.0, t.1, t.2)

  pub turned_once : (n : ℕ) (rest : List (Result Command Fault)) (p : Place S) (a b : Option Reply) (calls more : List Call) (q r : Place S)
      → TurnedBy means n rest p a calls q → TurnedBy means n rest p b more r → (a ≡ b) × (calls ≡ more) × SamePlace q r
  turned_once zero [] p a b calls more q r t u = (t.0 ∙ sym u.0, t.1 ∙ sym u.1, same_place q r (t.2 ∙ sym u.2))
  turned_once zero (line ∷ rest) p (Some a) (Some b) calls more q r t u = some_once a b calls more q r (obeyed_once a b calls more q r line (on_line p rest) t u)
  turned_once zero (line ∷ rest) p (Some a) None calls more q r t u = absurd u
  turned_once zero (line ∷ rest) p None b calls more q r t u = absurd t
  turned_once (suc n) rest p (Some a) (Some b) calls more q r t u = some_once a b calls more q r (advances_once a b calls more q r p (suc n) t.0 u.0 t.1 u.1 t.2 u.2)
  turned_once (suc n) rest p (Some a) None calls more q r t u = absurd u
  turned_once (suc n) rest p None b calls more q r t u = absurd t

pub one_turn : {S : Type 0} → OneTurn S
one_turn means p a b calls more q r = turned_once means p.owing p.rest p a b calls more q r
