-- The worked cases: those of planning and those of runs.
use Rattle.cases.specs.Planning.{PlanningCases}
use Rattle.cases.specs.Runs.{RunCases}

pub record WorkedCases : Type 0 where
  -- bounds, monitors and curves
  pub planning : PlanningCases
  -- raises, strobes and ticks
  pub runs : RunCases
