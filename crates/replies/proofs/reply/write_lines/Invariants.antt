-- What was written so far: the lines of the first elements.
use Rattle.std.proofs.Common.{◌≡◌, ℕ, List, Some, take}
use Rattle.std.specs.Fmt.{IsPlainFormatter, HasWritten}
use Rattle.replies.specs.Texts.{line_text, lines_text}
use Rattle.replies.proofs.reply.write_lines.Given as goal

abbrev pub invariant-loop-element : goal.invariant-loop-element
invariant-loop-element g l =
    (line : g.row.T.Denot → List ℕ) → ((x : g.row.T.Denot) → line_text (g.T.Display.output x) ≡ Some (line x)) → IsPlainFormatter l.initial.f →
    HasWritten g.W.Write.write_str_gives l.initial.f (lines_text line (take l.element-index l.elements)) l.f
