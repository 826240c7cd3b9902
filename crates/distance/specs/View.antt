-- What a distance holds, as its plain state.
use Rattle.distance.specs.Distance.{DistanceState}
use Rattle.distance.specs.declared.distance.Distance.{Distance}

abbrev pub distance_state : Distance → DistanceState
distance_state m = record { distance = m.distance; latest = m.latest }
