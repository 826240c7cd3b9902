-- The costs of a line and the overheads are small.
use Rattle.std.proofs.Common.{◌<◌, List, length, get_or, ap, ◌∙◌, arith}
use Rattle.model.specs.declared.board.Line.{Line}
use Rattle.model.specs.Board.{no_line}
use Rattle.model.proofs.Ranges.{in_range_lem}
use Rattle.board.specs.Held.{held}
use Rattle.board.proofs.table.Board.full_cost.Goals as goal

pub overflow_add-result : goal.overflow_add-result
overflow_add-result c =
    let b = held c.args.self.now in
    let ranges = in_range_lem b c.args.self.now.in_range in
    let found = rw c.in_ok-granted.ensures.ok_part at c.get.ensures.lookup in
    let known : c.args.line < length b.lines = omega (arith, found.3.0, ap length c.deref.ensures.0) in
    let line = ranges.each_line c.args.line known in
    let same = ap (λ (l : Line). l.handler) (found.3.1 no_line ∙ ap (λ (ls : List Line). get_or ls c.args.line no_line) c.deref.ensures.0) in
    record { fits = omega arith }
