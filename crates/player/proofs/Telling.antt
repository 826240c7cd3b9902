-- The loop of a player: what was told so far, one turn more, and the end.
use Rattle.std.proofs.Common.{◌≡◌, ℕ, zero, suc, Bool, true, false, List, [], ◌∷◌, ◌++◌, Some, None, Result, sym, refl, subst, arith}
use Rattle.std.specs.Fmt.{WritesInCalls}
use Rattle.std.proofs.Output.{writes_in_calls_nil, writes_in_calls_single, writes_in_calls_append}
use Rattle.model.specs.Run.{Call}
use Rattle.sheet.specs.declared.command.Command.{Command}
use Rattle.sheet.specs.declared.fault.Fault.{Fault}
use Rattle.replies.specs.declared.reply.Reply.{Reply}
use Rattle.replies.specs.Replies.{reply_text}
use Rattle.player.specs.Playing.{Place, Turned, TurnedBy, Turns, start, turn}
use Rattle.player.specs.Sessions.{Played}
use Rattle.player.proofs.Turning.{turns_run}
use Rattle.model.specs.Monitor.{Meaning}

module _ {S : Type 0} (means : Meaning S)
    {O : Type 0} (took : O → List ℕ → O → Type 0) (failed : O → Bool) where
  -- turns from p to q were made, and their text was told
  pub record Told (p : Place S) (o : O) (q : Place S) (v : O) : Type 0 where
    pub text : List ℕ
    pub calls : List Call
    pub turns : Turns means p text calls q
    pub written : WritesInCalls took o text v

  pub told_none : (p : Place S) (o : O) → Told p o p o
  told_none p o = record { text = []; calls = []; turns = start; written = writes_in_calls_nil took o }

  module _ (p : Place S) (o : O) (q : Place S) (v : O) (so_far : Told p o q v) where
    pub told_more : (a : Reply) (calls : List Call) (r : Place S) (w : O) → Turned means q (Some a) calls r → took v (reply_text a) w → Told p o r w
    told_more a calls r w t k = record {
      text = so_far.text ++ reply_text a;
      calls = calls ++ so_far.calls;
      turns = turn so_far.turns a calls r t;
      written = writes_in_calls_append took o so_far.text v (reply_text a) w so_far.written (writes_in_calls_single took v (reply_text a) w k);
    }

    -- the output failed at one turn more
    pub cut_short : (a : Reply) (calls : List Call) (r : Place S) (w : O) → Turned means q (Some a) calls r → failed w ≡ true
        → Played means took failed p o false r w
    cut_short a calls r w t f =
        let turns = turn so_far.turns a calls r t in
        record {
          text = so_far.text ++ reply_text a;
          calls = calls ++ so_far.calls;
          turns = turns;
          run = turns_run means p _ _ r turns;
          done = λ e. let z : ◌≡◌ {A = ℕ} 0 1 = cc e in absurd (omega arith);
          written = λ e. let z : ◌≡◌ {A = ℕ} 0 1 = cc e in absurd (omega arith);
          stopped = λ e. f;
        }

    nothing_left : (n : ℕ) (rest : List (Result Command Fault)) (calls : List Call) (r : Place S) → TurnedBy means n rest q None calls r
        → (n ≡ 0) × (rest ≡ []) × (r ≡ q)
    nothing_left zero [] calls r t = (refl, refl, t.2)
    nothing_left zero (l ∷ ls) calls r t = absurd t
    nothing_left (suc n) rest calls r t = absurd t

    -- no turn is left
    pub all_told : (calls : List Call) (r : Place S) → Turned means q None calls r → Played means took failed p o true r v
    all_told calls r t =
        let end = nothing_left q.owing q.rest calls r t in
        let over : Played means took failed p o true q v = record {
          text = so_far.text;
          calls = so_far.calls;
          turns = so_far.turns;
          run = turns_run means p _ _ q so_far.turns;
          done = λ e. record { none_owing = end.0; no_line = end.1 };
          written = λ e. so_far.written;
          stopped = λ e. let z : ◌≡◌ {A = ℕ} 0 1 = cc e in absurd (omega arith);
        } in
        subst (λ (s : Place S). Played means took failed p o true s v) (sym end.2) over
