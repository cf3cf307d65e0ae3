use Rattle.statement_round_trip.proofs.ExpressionsRead.{expressions_read_back}
use Rattle.statement_round_trip.proofs.Summaries.{summaries_tell}
use Rattle.statement_round_trip.proofs.Wholes.{wholes_read_back}
use Rattle.statement_round_trip.proofs.Naming.{columns_named}
use Rattle.statement_round_trip.proofs.Typed.{typed_for_reader}
use Rattle.statement_round_trip.proofs.Ends.{expressions_end, filter_read_back, filters_end, typed_read_back}
use Rattle.statement_round_trip.proofs.laws.printed_expressions_are_read.Goals as goal

pub returns-clause-operand : goal.returns-clause-operand
returns-clause-operand c = expressions_read_back

pub returns-clause-tree : goal.returns-clause-tree
returns-clause-tree c = summaries_tell

pub returns-clause-whole : goal.returns-clause-whole
returns-clause-whole c = wholes_read_back

pub returns-clause-named : goal.returns-clause-named
returns-clause-named c = columns_named

pub returns-clause-typed : goal.returns-clause-typed
returns-clause-typed c = typed_for_reader

pub returns-clause-of_table : goal.returns-clause-of_table
returns-clause-of_table c = typed_read_back

pub returns-clause-filter : goal.returns-clause-filter
returns-clause-filter c = filters_end

pub returns-clause-behind : goal.returns-clause-behind
returns-clause-behind c = expressions_end

pub returns-clause-wheres : goal.returns-clause-wheres
returns-clause-wheres c = filter_read_back
