-- The laws are proved for every monitor and board.
use Rattle.model.proofs.LawsProved.{laws_proved}
use Rattle.model.proofs.stands.laws_stand.Goals as goal

pub returns-clause-stands : goal.returns-clause-stands
returns-clause-stands g c = λ means laws b ranges m. laws_proved means laws b ranges m
