use Rattle.statement_grammar.proofs.Completed.{goes_on, stops}
use Rattle.statement_grammar.proofs.laws.unexpected_begins_no_script.Goals as goal

pub returns-clause-go_on : goal.returns-clause-go_on
returns-clause-go_on c = goes_on

pub returns-clause-stop : goal.returns-clause-stop
returns-clause-stop c = stops
