-- What the tables hold, as the model's state.
use Rattle.model.specs.Board.{Layout}
use Rattle.model.specs.Tick.{State}
use Rattle.board.specs.Held.{held}
use Rattle.parts.specs.Grants.{opened}
use Rattle.parts.specs.Waiting.{queue_of}
use Rattle.scheduler.specs.declared.tables.Tables.{Tables}

abbrev pub board_of : Tables → Layout
board_of t = held t.board

abbrev pub state_of : Tables → State
state_of t = record { instant = t.instant; owed = t.owed; granted = opened t.grant; queue = queue_of t.queues }
