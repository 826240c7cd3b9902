-- One turn more is told; at the end all is, or the output failed.
use Rattle.std.proofs.Common.{true, false, refl}
use Rattle.std.proofs.lemmas.Result.{err_from_is_err_and}
use Rattle.player.specs.Players.{player_place}
use Rattle.player.proofs.Telling.{told_none, told_more, cut_short, all_told}
use Rattle.player.proofs.player.Player.play.Goals as goal
use Rattle.monitor.specs.Meanings.{meaning}

pub loop-reply-init : goal.loop-reply-init
loop-reply-init g c =
    told_none (meaning g.M.Monitor) g.O.Output.took g.O.Output.failed
    (player_place c.args.self.now) c.args.out.now

pub loop-reply-preserved : goal.loop-reply-preserved
loop-reply-preserved g c =
    let made = c.in-Some.ensures.turned in
    told_more (meaning g.M.Monitor) g.O.Output.took g.O.Output.failed
    (player_place c.args.self.now) c.args.out.now (player_place c.loop-reply.self) c.loop-reply.out c.loop-reply.invariant
    c.in-Some.reply made.0 (player_place c.turn.new.self) c.tell.new.self made.1 (c.in_ok-tell.ensures.told (refl {a = true}))

pub returns-in_err-tell : goal.returns-in_err-tell
returns-in_err-tell g c =
    let made = c.in-Some.ensures.turned in
    let p = err_from_is_err_and c.from_residual.result c.from_residual.ensures.1 in
    rw p.1
    (cut_short (meaning g.M.Monitor) g.O.Output.took g.O.Output.failed
    (player_place c.args.self.now) c.args.out.now (player_place c.loop-reply.self) c.loop-reply.out c.loop-reply.invariant
    c.in-Some.reply made.0 (player_place c.turn.new.self) c.tell.new.self made.1 (c.in_err-tell.ensures.stopped (refl {a = false})))

pub returns : goal.returns
returns g c =
    let made = c.in_default.ensures.turned in
    all_told (meaning g.M.Monitor) g.O.Output.took g.O.Output.failed
    (player_place c.args.self.now) c.args.out.now (player_place c.loop-reply.self) c.loop-reply.out c.loop-reply.invariant
    made.0 (player_place c.turn.new.self) made.1
