use Rattle.plans_laws.proofs.SpelledHistories.{histories_spelled, opens_spelled}
use Rattle.plans_laws.proofs.SpelledSteps.{replies_spelled, steps_spelled}
use Rattle.plans_laws.proofs.laws.replies_spelled.Goals as goal

pub returns : goal.returns
returns c = record { opens = opens_spelled; steps = steps_spelled; replies = replies_spelled; histories = histories_spelled }
