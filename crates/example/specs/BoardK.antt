-- The example board K.
use Rattle.std.specs.Prelude.{[], ◌∷◌}
use Rattle.model.specs.Board.{Layout, layout}

-- two partitions, a slot of 10 ticks and one of 6, a line of each partition
abbrev pub board_k : Layout
board_k =
    layout 2 (record { owner = 0; ticks = 10 } ∷ record { owner = 1; ticks = 6 } ∷ [])
    (record { owner = 1; top = 2; handler = 3 } ∷ record { owner = 0; top = 1; handler = 4 } ∷ [])
    (record { check = 1; reschedule = 1; switch = 2 })
