-- Serving a partition's queue for some ticks, as it changes the tables.
use Rattle.std.specs.Prelude.{◌≡◌, ℕ, ◌+◌, Bool, Option}
use Rattle.model.specs.declared.run.Finished.{Finished}
use Rattle.model.specs.Tick.{Grant as OpenGrant, put}
use Rattle.parts.specs.Service.{serve}
use Rattle.parts.specs.Waiting.{queue_of}
use Rattle.scheduler.specs.declared.tables.Tables.{Tables}
use Rattle.scheduler.specs.Stretches.{finished_of}
use Rattle.scheduler.specs.View.{state_of}

-- up to n ticks of the head of queue p: m are run, an event may end, the grant becomes g
pub record Works (t : Tables) (p n : ℕ) (room : Bool) (m : ℕ) (e : Option Finished) (g : Option OpenGrant) (u : Tables) : Type 0 where
  pub ran : m ≡ (serve n room (queue_of t.queues p)).ticks
  pub ended : e ≡ finished_of (t.instant + m) (serve n room (queue_of t.queues p)).ended
  pub state_after :
      state_of u
      ≡ record {
        instant = t.instant + m;
        owed = 0;
        granted = g;
        queue = put (queue_of t.queues) p (serve n room (queue_of t.queues p)).rest;
      }
  pub same_board : u.board ≡ t.board
