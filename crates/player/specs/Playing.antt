-- Playing a sheet, turn by turn: each turn has one reply, and makes one call of the core or none.
use Rattle.std.specs.Prelude.{◌≡◌, ℕ, zero, suc, ◌-◌, List, [], ◌∷◌, ◌++◌, replicate, Some, None, Ok, Err, Option, Result}
use Rattle.model.specs.declared.refusal.Refusal.{Refusal}
use Rattle.model.specs.declared.run.Answer.{Answer}
use Rattle.model.specs.declared.run.Kind.TheVariants.{Application}
use Rattle.model.specs.declared.run.Span.{Span}
use Rattle.model.specs.declared.run.Finished.{Finished}
use Rattle.model.specs.declared.run.Ran.{Ran}
use Rattle.model.specs.Core.{Core, Raised, Strobed, Advanced}
use Rattle.model.specs.Run.{Call, raise, strobe, advance}
use Rattle.sheet.specs.declared.command.Command.{Command}
use Rattle.sheet.specs.declared.command.Command.TheVariants.{Raise, Strobe, SetMask, Advance}
use Rattle.sheet.specs.declared.fault.Fault.{Fault}
use Rattle.sheet.specs.declared.fault.Fault.TheVariants.{Declined}
use Rattle.replies.specs.declared.reply.Reply.{Reply}
use Rattle.replies.specs.declared.reply.Reply.TheVariants.{Strobed as Struck, Masked, Advanced as Ticked, Refused}
use Rattle.replies.specs.Replies.{answer_reply, reply_text}
use Rattle.model.specs.Monitor.{Meaning}

-- where a player stands: the core, the mask's word, the number of the line read last, the ticks of its A that are still to run,
-- and the lines to come, as they read
pub record Place (S : Type 0) : Type 0 where
  pub core : Core S
  pub mask : ℕ
  pub line : ℕ
  pub owing : ℕ
  pub rest : List (Result Command Fault)

abbrev pub place : {S : Type 0} → Core S → ℕ → ℕ → ℕ → List (Result Command Fault) → Place S
place x mask line owing rest = record { core = x; mask = mask; line = line; owing = owing; rest = rest }

-- before the first line, the mask new
abbrev pub at_start : {S : Type 0} → Core S → List (Result Command Fault) → Place S
at_start x rest = place x 0 0 0 rest

-- the next line was read
abbrev pub on_line : {S : Type 0} → Place S → List (Result Command Fault) → Place S
on_line p rest = place p.core p.mask (suc p.line) p.owing rest

-- the same place with another core
abbrev pub with_core : {S : Type 0} → Place S → Core S → Place S
with_core p x = place x p.mask p.line p.owing p.rest

-- every line was played to its end
pub record Done {S : Type 0} (p : Place S) : Type 0 where
  pub none_owing : p.owing ≡ 0
  pub no_line : p.rest ≡ []

-- an advance has 64 places of each, all blank before
abbrev pub blank_spans : List Span
blank_spans = replicate 64 (record { first = 0; ticks = 0; kind = Application; who = 0; owner = 0 })

abbrev pub blank_events : List Finished
blank_events = replicate 64 (record { tag = 0; line = 0; raised = 0; at = 0 })

-- the reply on a line of the sheet: what was done, or why the line was refused
abbrev pub reply_on : ℕ → Result Reply Fault → Reply
reply_on line (Ok a) = a
reply_on line (Err f) = Refused line f

-- the reply to a raise, on a line of the sheet
abbrev pub raised_reply : ℕ → Result Answer Refusal → Reply
raised_reply line (Ok a) = answer_reply a
raised_reply line (Err e) = Refused line (Declined e)

abbrev pub strobed_reply : ℕ × ℕ → Reply
strobed_reply w = Struck w.0 w.1

abbrev pub advanced_reply : ℕ → Result Ran Refusal → List Span → List Finished → Reply
advanced_reply line (Ok ran) spans events = Ticked (record { spans = spans; finished = events; ran = ran })
advanced_reply line (Err e) spans events = Refused line (Declined e)

-- the ticks still to run after an advance of n; none after a refusal
abbrev pub owing_after : ℕ → Result Ran Refusal → ℕ
owing_after n (Ok ran) = n - ran.ticks
owing_after n (Err e) = 0

-- one advance of n ticks from p, told by the reply a, by the call c, leads to q
pub record Advances {S : Type 0} (p : Place S) (n : ℕ) (a : Reply) (c : Call) (q : Place S) : Type 0 where
  pub ran : Result Ran Refusal
  pub spans : List Span
  pub events : List Finished
  pub after : Core S
  pub advanced : Advanced p.core n blank_spans blank_events ran after spans events
  pub replied : a ≡ advanced_reply p.line ran spans events
  pub called : c ≡ advance n blank_spans blank_events ran spans events
  pub place_after : q ≡ place after p.mask p.line (owing_after n ran) p.rest

module _ {S : Type 0} (means : Meaning S) where
  -- one raise
  pub record Raises (p : Place S) (k tag : ℕ) (a : Reply) (c : Call) (q : Place S) : Type 0 where
    pub answer : Result Answer Refusal
    pub after : Core S
    pub raised : Raised means p.core p.mask k tag answer after
    pub replied : a ≡ raised_reply p.line answer
    pub called : c ≡ raise p.mask k tag answer
    pub place_after : q ≡ with_core p after

  -- one strobe
  pub record Strobes (p : Place S) (word tag : ℕ) (a : Reply) (c : Call) (q : Place S) : Type 0 where
    pub words : ℕ × ℕ
    pub after : Core S
    pub strobed : Strobed means p.core p.mask word tag words after
    pub replied : a ≡ strobed_reply words
    pub called : c ≡ strobe p.mask word tag words
    pub place_after : q ≡ with_core p after

  -- a call's turn: the calls made are that one
  abbrev pub ByCall : (Call → Type 0) → List Call → Type 0
  ByCall made calls = (c : Call) × made c × (calls ≡ c ∷ [])

  -- the line just read is played: what it reads as, the place, the reply, the calls made, the place after. A line that is
  -- refused changes nothing.
  abbrev pub Obeyed : Result Command Fault → Place S → Reply → List Call → Place S → Type 0
  Obeyed (Err f) p a calls q = (a ≡ Refused p.line f) × (calls ≡ []) × (q ≡ p)
  Obeyed (Ok (Raise k tag)) p a calls q = ByCall (λ c. Raises p k tag a c q) calls
  Obeyed (Ok (Strobe word tag)) p a calls q = ByCall (λ c. Strobes p word tag a c q) calls
  Obeyed (Ok (SetMask word)) p a calls q =
      (a ≡ Masked) × (calls ≡ []) × (q ≡ place p.core word p.line p.owing p.rest)
  Obeyed (Ok (Advance n)) p a calls q = ByCall (λ c. Advances p n a c q) calls

  -- a turn: ticks that are still to run are run on; else the next line is played; no reply where there is none
  abbrev pub TurnedBy : ℕ → List (Result Command Fault) → Place S → Option Reply → List Call → Place S → Type 0
  TurnedBy (suc n) rest p (Some a) calls q = ByCall (λ c. Advances p (suc n) a c q) calls
  TurnedBy (suc n) rest p None calls q = ⊥
  TurnedBy zero [] p a calls q = (a ≡ None) × (calls ≡ []) × (q ≡ p)
  TurnedBy zero (line ∷ rest) p (Some a) calls q = Obeyed line (on_line p rest) a calls q
  TurnedBy zero (line ∷ rest) p None calls q = ⊥

  abbrev pub Turned : Place S → Option Reply → List Call → Place S → Type 0
  Turned p a calls q = TurnedBy p.owing p.rest p a calls q

  -- turns, one after the other: the text of their replies, and the calls made, newest first
  pub data Turns (p : Place S) : List ℕ → List Call → Place S → Type 0 where
    start : Turns p [] [] p
    turn : {text : List ℕ} {before : List Call} {q : Place S} → Turns p text before q
        → (a : Reply) (calls : List Call) (r : Place S) → Turned q (Some a) calls r → Turns p (text ++ reply_text a) (calls ++ before) r
