-- How far a strobe has come, and that it spent one permit at most.
use Rattle.std.proofs.Common.{ℕ, ◌^◌, ◌<◌, ◌≤◌}
use Rattle.model.specs.Core.{StrobedBelow}
use Rattle.scheduler.specs.Seen.{core_of}
use Rattle.scheduler.proofs.LineOrder.{LeftOf}
use Rattle.scheduler.proofs.Sparing.{Sparing}
use Rattle.scheduler.proofs.kernel.Core.strobe.Given as goal
use Rattle.monitor.specs.Meanings.{meaning}

-- the lines below n are done, and the rest of the word is to come
abbrev pub invariant-loop-rest : goal.invariant-loop-rest
invariant-loop-rest g l =
    (l.rest < 2 ^ 16)
    × ((n : ℕ) × (n ≤ 16) × LeftOf n l.word l.rest × (l.words.0 < 2 ^ n) × (l.words.1 < 2 ^ n)
    × StrobedBelow (meaning g.M.Monitor) n l.mask.word l.word l.tag (core_of l.initial.self) l.words (core_of l.self))
    × Sparing (meaning g.M.Monitor) g.M.Monitor.spent l.initial.self.monitor (core_of l.initial.self).state.instant l.words.1 (core_of l.self)

abbrev pub decreases-loop-rest : goal.decreases-loop-rest
decreases-loop-rest g l = l.rest
