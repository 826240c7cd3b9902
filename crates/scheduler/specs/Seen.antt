-- A core, as the model's core, and what asking its monitor comes to.
use Rattle.std.specs.Prelude.{◌≡◌, ℕ, Bool}
use Rattle.model.specs.Core.{Core as ModelCore, permits, Becomes}
use Rattle.scheduler.specs.declared.kernel.Core.{Core}
use Rattle.scheduler.specs.View.{board_of, state_of}
use Rattle.model.specs.Monitor.{Meaning}

abbrev pub core_of : {M : Type 0} → Core M → ModelCore M
core_of c = record { board = board_of c.tables; monitor = c.monitor; state = state_of c.tables }

module _ {S : Type 0} (means : Meaning S) where
  -- line k is permitted or not, and the monitor becomes n
  pub record Asking (x : ModelCore S) (k : ℕ) (r : Bool) (n : S) : Type 0 where
    pub answered : r ≡ permits means x k
    pub becomes : Becomes means r x.monitor k x.state.instant n
