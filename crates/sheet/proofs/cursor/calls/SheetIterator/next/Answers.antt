-- No byte is left; or the first line, and those behind it.
use Rattle.std.proofs.Common.{◌≡◌, ◌<◌, [], length, map, Some, sym, ap, ◌∙◌, arith}
use Rattle.std.proofs.lemmas.Bool.Decides.{nat_tests}
use Rattle.sheet.specs.Cursor.{left_of}
use Rattle.sheet.specs.Firsts.{first_of, later_of}
use Rattle.sheet.specs.Pieces.{part_at, lines_in}
use Rattle.sheet.specs.Reading.{Part, read_line}
use Rattle.sheet.proofs.Cutting.{lines_cut, lines_none, lines_or, one_taken}
use Rattle.sheet.proofs.cursor.calls.SheetIterator.next.Goals as goal

pub returns-then-is_empty-clause-steps : goal.returns-then-is_empty-clause-steps
returns-then-is_empty-clause-steps c =
    let none : left_of c.args.self.now ≡ [] = ap (map read_line) (lines_none (part_at c.args.self.now.rest) (grind (arith, nat_tests))) in
    (none, none)

pub returns-then-is_empty-clause-line : goal.returns-then-is_empty-clause-line
returns-then-is_empty-clause-line c = sym (ap first_of (returns-then-is_empty-clause-steps c).0)

pub returns-then-is_empty-clause-left : goal.returns-then-is_empty-clause-left
returns-then-is_empty-clause-left c = let none = (returns-then-is_empty-clause-steps c).0 in none ∙ sym (ap later_of none)

pub returns-clause-steps : goal.returns-clause-steps
returns-clause-steps c =
    let some : 0 < length c.args.self.now.rest.bytes.now = grind (arith, nat_tests) in
    let line = c.read_line.ensures ∙ ap read_line c.cut.ensures.first in
    let behind = lines_or c.cut.result.1 c.end.result (ap (λ (p : Part). length p.bytes) c.end.ensures) in
    let rest = ap (λ p. lines_in (Some (part_at p))) c.unwrap_or.ensures ∙ behind ∙ ap lines_in c.cut.ensures.rest in
    rw (line, rest) (ap (map read_line) (lines_cut (part_at c.args.self.now.rest) some))

pub returns-clause-goes : goal.returns-clause-goes
returns-clause-goes c = one_taken left_of c.args.self.now _ _ _ (returns-clause-steps c)

pub returns-clause-line : goal.returns-clause-line
returns-clause-line c = sym (ap first_of (returns-clause-steps c))

pub returns-clause-left : goal.returns-clause-left
returns-clause-left c = sym (ap later_of (returns-clause-steps c))
