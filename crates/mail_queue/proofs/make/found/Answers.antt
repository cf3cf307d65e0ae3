use Rattle.mail_queue.proofs.Keeps.{founds}
use Rattle.mail_queue.proofs.make.found.Goals as goal

pub another-rest-requires-clause-rule : goal.another-rest-requires-clause-rule
another-rest-requires-clause-rule g c = founds _ _ _ _ c.requires.first.1 c.requires.first.2
