-- The laws of the new core, at what was played.
use Rattle.std.proofs.Common.{is_ok}
use Rattle.board.specs.Held.{held}
use Rattle.player.specs.Players.{player_place}
use Rattle.player.proofs.Sessions.{session_of}
use Rattle.player.proofs.session.play_sheet.Goals as goal
use Rattle.monitor.specs.Meanings.{meaning}

pub returns : goal.returns
returns g c =
    let played = c.play.ensures in
    session_of (meaning g.M.Monitor) g.O.Output.took g.O.Output.failed
    (held c.args.board) c.args.monitor c.args.sheet.now c.args.out.now (is_ok c.play.result) c.play.new.out (player_place c.play.new.self)
    (rw (c.new-player.ensures, c.new.ensures.fresh) at played) c.new.ensures.laws
