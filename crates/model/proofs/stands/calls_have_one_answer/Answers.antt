-- Each call's relation fixes its outcome.
use Rattle.model.proofs.OneAnswer.{calls_once}
use Rattle.model.proofs.stands.calls_have_one_answer.Goals as goal

pub returns-clause-stands : goal.returns-clause-stands
returns-clause-stands g c = λ means. calls_once means
