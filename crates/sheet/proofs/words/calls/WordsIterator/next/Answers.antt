-- The first word, and those behind it.
use Rattle.std.proofs.Common.{◌≡◌, rules, Some}
use Rattle.sheet.specs.Pieces.{part_at}
use Rattle.sheet.specs.Words.{words_left}
use Rattle.sheet.proofs.Cutting.{words_cut, one_taken}
use Rattle.sheet.proofs.words.calls.WordsIterator.next.Goals as goal

pub returns-clause-steps : goal.returns-clause-steps
returns-clause-steps c =
    let left : c.args.self.now.left ≡ Some c.in_ok-self.field-0 = search rules in
    rw (left, c.from.ensures, c.cut.ensures.first, c.cut.ensures.rest) (words_cut (part_at c.in_ok-self.field-0))

pub returns-clause-goes : goal.returns-clause-goes
returns-clause-goes c = one_taken words_left c.args.self.now _ _ _ (returns-clause-steps c)
