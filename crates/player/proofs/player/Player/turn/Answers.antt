-- The next line was played, or ticks were run on.
use Rattle.std.proofs.Common.{◌≡◌, suc, [], ◌∷◌, arith}
use Rattle.sheet.specs.Cursor.{left_of}
use Rattle.scheduler.specs.Seen.{core_of}
use Rattle.player.specs.Playing.{place}
use Rattle.player.specs.Players.{player_place}
use Rattle.player.proofs.Turning.{run_on, line_on}
use Rattle.player.proofs.player.Player.turn.Goals.{in-0+in_ok-next-in-0, in_default}
use Rattle.player.proofs.player.Player.turn.Goals as goal
use Rattle.monitor.specs.Meanings.{meaning}

pub returns-clause-turned : goal.returns-clause-turned
returns-clause-turned g c =
    let desk = c.args.self.now.desk in
    let sheet = c.args.self.now.sheet in
    elim c.match-owing.branch [
      | in-0+in_ok-next-in-0 w ↦
          let after = w.next.new.self in
          let number : after.number ≡ suc sheet.number = omega (arith, w.in_ok-next-in-0.ensures.number) in
          let at = w.obey-done.ensures after.number (left_of after) in
          rw (c.on_line.ensures, c.number.ensures, w.done-is, w.self-is) (
            at.0,
            line_on (meaning g.M.Monitor) desk.owing (omega (arith, c.owing.ensures, w.in-0.is)) (left_of sheet) w.in_ok-next-in-0.field-0 w.in_ok-next-in-0.ensures.line
                (player_place c.args.self.now) _ (λ i. place (core_of desk.core) desk.mask.word (number i) desk.owing (w.in_ok-next-in-0.ensures.left i)) _ at.0 _ at.1,
          )
      | in_default w ↦
          let at = w.run-done.ensures.advances sheet.number (left_of sheet) in
          rw (c.on_line.ensures, c.number.ensures, w.done-is, w.self-is) (
            at.0 ∷ [],
            run_on (meaning g.M.Monitor) c.owing.result desk.owing c.owing.ensures (omega (arith, w.in_default)) (left_of sheet) (player_place c.args.self.now) _ at.0 _ at.1,
          )
    ]
