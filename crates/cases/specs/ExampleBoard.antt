-- The example board K, with a pair of distances as its monitor.
use Rattle.model.specs.Core.{Core, new_core}
use Rattle.monitor.specs.declared.pair.Pair.{Pair}
use Rattle.distance.specs.Distance.{DistanceState, distance_new}
pub use Rattle.example.specs.BoardK.{board_k}

-- the monitors of its lines: distances 100 and 200
abbrev pub monitors_k : Pair DistanceState DistanceState
monitors_k = record { first = distance_new 100; second = distance_new 200 }

-- a new core of it
abbrev pub core_k : Core (Pair DistanceState DistanceState)
core_k = new_core board_k monitors_k
