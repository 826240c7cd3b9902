-- What was played from a new core, with the laws of that core.
use Rattle.std.proofs.Common.{ℕ, Bool, List}
use Rattle.model.specs.Board.{Layout}
use Rattle.model.specs.Core.{new_core}
use Rattle.model.specs.Laws.{Laws}
use Rattle.sheet.specs.Reading.{read_sheet}
use Rattle.player.specs.Playing.{Place, at_start}
use Rattle.player.specs.Sessions.{Played, Session}
use Rattle.model.specs.Monitor.{Meaning}

module _ {S : Type 0} (means : Meaning S)
    {O : Type 0} (took : O → List ℕ → O → Type 0) (failed : O → Bool) where
  pub session_of : (b : Layout) (m : S) (sheet : List ℕ) (o : O) (told : Bool) (v : O) (q : Place S)
      → Played means took failed (at_start (new_core b m) (read_sheet sheet)) o told q v → Laws means b m
      → Session means took failed b m sheet o told v
  session_of b m sheet o told v q played laws = record {
    after = q;
    played = played;
    loss = laws.loss played.calls q.core played.run;
    response = laws.response played.calls q.core played.run;
    promptness = laws.promptness;
  }
