use Rattle.std.proofs.Common.{ℕ, ◌++◌, ◌∷◌, [], List, ap, ◌∙◌}
use Rattle.step_world.proofs.processes.DiskProcess.post_one.Goals as goal

pub returns-clause-mail : goal.returns-clause-mail
returns-clause-mail c = c.in_ok-push_back.ensures.items ∙ ap (λ (m : List ℕ). c.args.self.now.mail ++ m ∷ []) c.in_ok-message.ensures
