use Rattle.statement_round_trip.proofs.CountedScripts.{printed_again, read_may_be_read}
use Rattle.statement_round_trip.proofs.ScriptsRead.{printed_is_spelled}
use Rattle.statement_round_trip.proofs.laws.printed_scripts_are_read.Goals as goal

pub returns-clause-may : goal.returns-clause-may
returns-clause-may c = read_may_be_read

pub returns-clause-spelled : goal.returns-clause-spelled
returns-clause-spelled c = printed_is_spelled

pub returns-clause-again : goal.returns-clause-again
returns-clause-again c = printed_again
