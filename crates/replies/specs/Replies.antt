-- The text of a reply.
use Rattle.std.specs.Prelude.{ℕ, List, ◌∷◌, ◌++◌, take, decimal}
use Rattle.sheet.specs.Faults.{fault_number, fault_place}
use Rattle.sheet.specs.declared.fault.Fault.{Fault}
use Rattle.replies.specs.declared.reply.Reply.{Reply}
use Rattle.replies.specs.declared.reply.Reply.TheVariants.{Permitted, Queued, Strobed, Masked, Advanced, Refused}
use Rattle.replies.specs.declared.reply.Strips.{Strips}
use Rattle.model.specs.declared.run.Answer.{Answer}
use Rattle.model.specs.declared.run.Answer.TheVariants.{Permitted as says_permitted, Queued as says_queued}
use Rattle.model.specs.Texts.{spaced}
use Rattle.replies.specs.Texts.{line_feed, span_text, finished_text, lines_text}

-- the reply to a raise that is not refused
abbrev pub answer_reply : Answer → Reply
answer_reply says_permitted = Permitted
answer_reply says_queued = Queued

-- the spans that an advance wrote, then the finished events
abbrev pub strips_text : Strips → List ℕ
strips_text s = lines_text span_text (take s.ran.spans s.spans) ++ lines_text finished_text (take s.ran.finished s.finished)

-- F line number place
abbrev pub refused_text : ℕ → Fault → List ℕ
refused_text line f = 70 ∷ spaced (decimal line ++ spaced (decimal (fault_number f) ++ spaced (decimal (fault_place f) ++ line_feed)))

-- P, Q, W taken permitted, M, what an advance wrote, F line number place
abbrev pub reply_text : Reply → List ℕ
reply_text Permitted = 80 ∷ line_feed
reply_text Queued = 81 ∷ line_feed
reply_text (Strobed taken permitted) = 87 ∷ spaced (decimal taken ++ spaced (decimal permitted ++ line_feed))
reply_text Masked = 77 ∷ line_feed
reply_text (Advanced s) = strips_text s
reply_text (Refused line f) = refused_text line f
