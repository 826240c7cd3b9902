-- One answer: two outcomes of one turn from the same place are equal in all that the rules fix.
use Rattle.std.specs.Prelude.{◌≡◌, List, Option}
use Rattle.model.specs.Run.{Call}
use Rattle.replies.specs.declared.reply.Reply.{Reply}
use Rattle.player.specs.Playing.{Place, Turned}
use Rattle.model.specs.Monitor.{Meaning}

-- all but the monitor
pub record SamePlace {S : Type 0} (q r : Place S) : Type 0 where
  pub boards : q.core.board ≡ r.core.board
  pub states : q.core.state ≡ r.core.state
  pub masks : q.mask ≡ r.mask
  pub numbers : q.line ≡ r.line
  pub ticks : q.owing ≡ r.owing
  pub rests : q.rest ≡ r.rest

-- the reply, the calls made with their answers, and the place after, but for the monitor
abbrev pub OneTurn : Type 0 → Type 0
OneTurn S =
    (means : Meaning S)
    (p : Place S) (a b : Option Reply) (calls more : List Call) (q r : Place S)
    → Turned means p a calls q → Turned means p b more r → (a ≡ b) × (calls ≡ more) × SamePlace q r
