-- Each case of planning by computation; a bound is the least by trying every smaller window.
use Rattle.std.proofs.Common.{refl}
use Rattle.model.specs.Counting.{sum_to, least, all_to}
use Rattle.cases.specs.ExampleBoard.{board_k}
use Rattle.cases.specs.Planning.{ceiling_k, most_k, PlanningCases}
use Rattle.cases.proofs.RunsWorked.{runs_worked}
use Rattle.cases.proofs.Smallest.{bound_by_test}
use Rattle.cases.proofs.stands.worked_cases_stand.Goals as goal

planning : PlanningCases
unfolding sum_to least all_to
planning =
    record {
      in_range = refl;
      cycle_of_16 = refl;
      own_of_0 = refl;
      own_of_1 = refl;
      cost_of_0 = refl;
      cost_of_1 = refl;
      bound_of_0 = bound_by_test board_k ceiling_k most_k 0 40 refl refl refl refl;
      bound_of_1 = bound_by_test board_k ceiling_k most_k 1 62 refl refl refl refl;
      budget_asked = refl;
      budget_at_1 = refl;
      budget_at_2 = refl;
      trail_asked = refl;
      trail_at_40 = refl;
      jitter_at_40 = refl;
      jitter_at_41 = refl;
    }

pub returns : goal.returns
returns c = record { value = refl; stands = record { planning = planning; runs = runs_worked } }
