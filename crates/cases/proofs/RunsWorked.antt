-- The worked runs: by computing, and the permit of a pair of distances by its parts.
use Rattle.std.proofs.Common.{◌≡◌, ℕ, suc, false, Ok, sym, refl, subst, arith}
use Rattle.std.proofs.lemmas.Bool.Decides.{nat_tests}
use Rattle.model.specs.declared.run.Answer.TheVariants.{Permitted as says_permitted, Queued as says_queued}
use Rattle.model.specs.Bits.{is_set}
use Rattle.model.specs.Monitor.{Permitted}
use Rattle.model.specs.Core.{Core, core, raised_state, Taken, Offered, StrobedBelow}
use Rattle.model.specs.Run.{start, call}
use Rattle.model.specs.Tick.{after}
use Rattle.monitor.specs.declared.pair.Pair.{Pair}
use Rattle.monitor.proofs.OneLine.{one_asked, LinePermitted}
use Rattle.distance.specs.Distance.{DistanceState, distance_new, distance_after, distance_rule, distance_most, distance_rest}
use Rattle.distance.specs.Distances.{distance_spent}
use Rattle.cases.specs.ExampleBoard.{board_k, monitors_k, core_k}
use Rattle.cases.specs.Runs.{means, RunCases, once_raised}

-- the monitors after line 0 was permitted at 0
abbrev permitted_k : Pair DistanceState DistanceState
permitted_k = record { first = distance_after (distance_new 100) 0; second = distance_new 200 }

first_part : LinePermitted distance_rule distance_most distance_rest (λ (s : DistanceState). s) (distance_new 100) 0 0 (distance_after (distance_new 100) 0)
first_part =
    (one_asked distance_rule distance_most distance_rest (λ (s : DistanceState). s) (distance_new 100) 0 0 (distance_after (distance_new 100) 0) (distance_after (distance_new 100) 0) refl refl
    (λ ready-now. distance_spent (distance_new 100) 0 (omega arith) ready-now)).on_yes refl

permitted : Permitted means monitors_k 0 0 permitted_k
permitted =
    record {
      same_lines = refl;
      same_ceilings = λ j w. refl;
      not_before = λ s l. absurd (omega arith);
      falls = λ j a b. let part = first_part.falls j a b in grind (arith, nat_tests);
      spends = λ a b l h. first_part.spends a b l h;
    }

-- after line 0 was raised at 0, and then line 1
abbrev core_once : Core (Pair DistanceState DistanceState)
core_once = core board_k permitted_k once_raised

abbrev core_both : Core (Pair DistanceState DistanceState)
core_both = core board_k permitted_k (raised_state board_k once_raised 1 7 false)

line_0 : Taken means core_k 0 7 (Ok says_permitted) core_once
line_0 = record { answered = refl; same_board = refl; state_after = refl; monitor_after = permitted }

line_1 : Taken means core_once 1 7 (Ok says_queued) core_both
line_1 = record { answered = refl; same_board = refl; state_after = refl; monitor_after = refl }

two_lines : StrobedBelow means 2 0 3 7 core_k (3, 1) core_both
unfolding StrobedBelow
two_lines = (core_once, (1, 1), (core_k, (0, 0), (refl, refl), (Ok says_permitted, line_0, refl)), (Ok says_queued, line_1, refl))

-- a line whose bit is not set is passed over
pass : (k : ℕ) → is_set 3 k ≡ false → StrobedBelow means k 0 3 7 core_k (3, 1) core_both → StrobedBelow means (suc k) 0 3 7 core_k (3, 1) core_both
unfolding StrobedBelow
pass k unset s = (core_both, (3, 1), s, subst (λ t. Offered means t 0 7 k core_both (3, 1) (3, 1) core_both) (sym unset) (refl, refl))

all_lines : StrobedBelow means 16 0 3 7 core_k (3, 1) core_both
all_lines =
    pass 15 refl (pass 14 refl (pass 13 refl (pass 12 refl (pass 11 refl (pass 10 refl (pass 9 refl (pass 8 refl (pass 7 refl
    (pass 6 refl (pass 5 refl (pass 4 refl (pass 3 refl (pass 2 refl two_lines)))))))))))))

pub runs_worked : RunCases
runs_worked =
    record {
      first_permitted = refl;
      second_queued = λ m. refl;
      own_slot_queued = refl;
      example_rows = refl;
      example_spans = refl;
      example_finished = refl;
      twice_finished = refl;
      ten_finished = refl;
      full_refused = refl;
      full_number = refl;
      full_place = refl;
      strobed = (core_both, all_lines, refl);
      example_run = (
        core board_k permitted_k (after board_k once_raised 20),
        call {y = core_once} (call {y = core_once} (call start line_0) (refl, refl))
            (record {
              few = omega arith;
              fits = record { spans_fit = omega arith; events_fit = omega arith };
              most = λ j l fits. l;
              core_after = refl;
              spans_written = record { counted = refl; front = refl; rest = refl };
              events_written = record { counted = refl; front = refl; rest = refl };
            }),
        refl,
      );
    }
