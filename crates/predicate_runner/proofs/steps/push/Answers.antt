use Rattle.std.proofs.Common.{rules, ◌≡◌, ◌++◌, ◌∷◌, [], ap, ◌∙◌}
use Rattle.std.specs.Prelude.{option_map}
use Rattle.predicate_runner.specs.Outlines.{operand_in}
use Rattle.predicate_runner.specs.Stepping.{seen}
use Rattle.predicate_runner.proofs.Stacks.{seen-push}
use Rattle.predicate_runner.proofs.steps.push.Goals as goal

pub returns-clause-ok : goal.returns-clause-ok
returns-clause-ok c =
    let pushed : c.push.new.self.items ≡ c.args.stack.now.items ++ c.in-Some.operand ∷ [] = search rules in
    (operand_in c.in-Some.operand, ap (option_map operand_in) c.in-Some.is, ap seen pushed ∙ seen-push c.args.stack.now.items c.in-Some.operand)
