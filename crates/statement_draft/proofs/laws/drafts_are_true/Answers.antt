use Rattle.statement_draft.proofs.Clean.{limit_kept}
use Rattle.statement_draft.proofs.Summaries.{binary_describes, name_describes, negation_describes, negative_describes, number_describes, text_describes}
use Rattle.statement_draft.proofs.Wholes.{operands_kept, whole_is_predicate}
use Rattle.statement_draft.proofs.laws.drafts_are_true.Goals as goal

pub returns-clause-operators : goal.returns-clause-operators
returns-clause-operators c = binary_describes

pub returns-clause-negations : goal.returns-clause-negations
returns-clause-negations c = negation_describes

pub returns-clause-limits : goal.returns-clause-limits
returns-clause-limits c = limit_kept

pub returns-clause-leaves : goal.returns-clause-leaves
returns-clause-leaves c = λ table. record {
  number = number_describes table;
  negative = negative_describes table;
  text = text_describes table;
  name = name_describes table;
}

pub returns-clause-operands : goal.returns-clause-operands
returns-clause-operands c = operands_kept

pub returns-clause-wholes : goal.returns-clause-wholes
returns-clause-wholes c = whole_is_predicate
