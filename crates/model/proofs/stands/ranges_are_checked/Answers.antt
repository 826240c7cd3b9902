-- Both ways are lemmas on the checks.
use Rattle.model.proofs.Ranges.{in_range_lem, none_refused}
use Rattle.model.proofs.stands.ranges_are_checked.Goals as goal

pub returns-clause-stands : goal.returns-clause-stands
returns-clause-stands c = λ b. (in_range_lem b, none_refused b)
