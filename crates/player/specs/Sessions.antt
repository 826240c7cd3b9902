-- A whole sheet played from a place: what was done is a run of the model, and what was told is its text.
use Rattle.std.specs.Prelude.{◌≡◌, ℕ, Bool, true, false, List}
use Rattle.std.specs.Fmt.{WritesInCalls}
use Rattle.model.specs.Board.{Layout}
use Rattle.model.specs.Core.{new_core}
use Rattle.model.specs.Run.{Call, Run}
use Rattle.model.specs.Seen.{seen}
use Rattle.model.specs.Laws.{LossBounded, Responsive, Prompt}
use Rattle.sheet.specs.Reading.{read_sheet}
use Rattle.player.specs.Playing.{Place, at_start, Done, Turns}
use Rattle.model.specs.Monitor.{Meaning}

module _ {S : Type 0} (means : Meaning S)
    {O : Type 0} (took : O → List ℕ → O → Type 0) (failed : O → Bool) where
  -- from p to q, told to an output that was o and is v: all was played and told, or the output failed
  pub record Played (p : Place S) (o : O) (told : Bool) (q : Place S) (v : O) : Type 0 where
    pub text : List ℕ
    pub calls : List Call
    pub turns : Turns means p text calls q
    pub run : Run means p.core calls q.core
    pub done : told ≡ true → Done q
    pub written : told ≡ true → WritesInCalls took o text v
    pub stopped : told ≡ false → failed v ≡ true

  -- a sheet played on a new core: the three laws hold of what was done
  pub record Session (b : Layout) (m : S) (sheet : List ℕ) (o : O) (told : Bool) (v : O) : Type 0 where
    pub after : Place S
    pub played : Played (at_start (new_core b m) (read_sheet sheet)) o told after v
    pub loss : LossBounded b (means.ceiling m) (seen played.calls)
    pub response : Responsive b (means.ceiling m) (seen played.calls)
    pub promptness : Prompt means b m
