-- A turn's relation fixes its outcome.
use Rattle.std.proofs.Common.{refl}
use Rattle.player.proofs.OneTurn.{one_turn}
use Rattle.player.proofs.stands.turns_have_one_answer.Goals as goal

pub returns : goal.returns
returns g c = record { value = refl; stands = one_turn }
