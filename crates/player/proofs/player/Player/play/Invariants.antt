-- What was told so far is the text of the turns made; each turn leaves less to do.
use Rattle.player.specs.Players.{player_place, effort}
use Rattle.player.proofs.Telling.{Told}
use Rattle.player.proofs.player.Player.play.Given as goal
use Rattle.monitor.specs.Meanings.{meaning}

abbrev pub invariant-loop-reply : goal.invariant-loop-reply
invariant-loop-reply g l =
    Told (meaning g.M.Monitor) g.O.Output.took g.O.Output.failed
    (player_place l.initial.self) l.initial.out (player_place l.self) l.out

abbrev pub decreases-loop-reply : goal.decreases-loop-reply
decreases-loop-reply g l = effort l.self
