-- What a board holds, and what a caller lays out, as the model's board.
use Rattle.model.specs.Board.{Layout, layout}
use Rattle.board.specs.declared.layout.Layout.{Layout as Given}
use Rattle.board.specs.declared.table.Board.{Board}

abbrev pub held : Board → Layout
held b = layout b.partitions b.slots.items b.lines.items b.overheads

abbrev pub given : Given → Layout
given l = layout l.partitions l.slots.now l.lines.now l.overheads
