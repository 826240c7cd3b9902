-- What was run so far, and what is left of the slot.
use Rattle.std.proofs.Common.{◌≡◌, ◌+◌, ◌-◌, ◌≤◌}
use Rattle.scheduler.specs.Slots.{StaysOn}
use Rattle.scheduler.specs.Ticking.{Going}
use Rattle.scheduler.specs.View.{board_of, state_of}
use Rattle.scheduler.proofs.tables.Tables.run.Given as goal

-- what was run and written so far, into the caller's buffers; the board stays, the ticks asked for end by the clock's end, and the slot at hand
-- lasts for what is left of it
abbrev pub invariant-loop-run : goal.invariant-loop-run
invariant-loop-run l = record {
  going :
      Going (board_of l.fn.self) (state_of l.fn.self) l.ticks l.fn.spans l.fn.finished (record { ticks = l.run; spans = l.tape.written; finished = l.done.written }) (state_of l.self)
      l.tape.places.now l.done.places.now;
  same_spans : l.tape.places.ghost_name ≡ l.initial.tape.places.ghost_name;
  same_finished : l.done.places.ghost_name ≡ l.initial.done.places.ghost_name;
  same_board : l.self.board ≡ l.fn.self.board;
  within : l.fn.self.instant + l.ticks ≤ 4000000000;
  stays : StaysOn (board_of l.self) l.self.instant l.slot.owner l.slot.ticks;
}

abbrev pub decreases-loop-run : goal.decreases-loop-run
decreases-loop-run l = l.ticks - l.run
