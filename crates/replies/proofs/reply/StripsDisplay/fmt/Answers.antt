-- The spans' text, then the events'.
use Rattle.std.proofs.Common.{true, refl, ap}
use Rattle.std.proofs.Output.{has_written_append, has_written_of_eq}
use Rattle.replies.specs.Texts.{span_text, finished_text, lines_text}
use Rattle.replies.proofs.reply.StripsDisplay.fmt.Goals as goal

pub returns-clause-writes : goal.returns-clause-writes
returns-clause-writes g c plain ok =
    let spans = c.in_ok-write_lines.ensures span_text (λ s. refl) plain (refl {a = true}) in
    let events = c.write_lines-2.ensures finished_text (λ e. refl) spans.plain ok in
    has_written_append _ _ _ _ _ _ (has_written_of_eq _ _ _ _ _ (ap (lines_text span_text) c.front.ensures) spans)
    (has_written_of_eq _ _ _ _ _ (ap (lines_text finished_text) c.front-2.ensures) events)
