-- What a trail holds, as its plain state.
use Rattle.trail.specs.Trail.{TrailState}
use Rattle.trail.specs.declared.trail.Trail.{Trail}

abbrev pub trail_state : Trail → TrailState
trail_state m = record { distances = m.distances.items; permits = m.permits }
