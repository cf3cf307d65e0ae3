use Rattle.statement_round_trip.proofs.Spelling.{words_read_back}
use Rattle.statement_round_trip.proofs.laws.printed_words_are_read.Goals as goal

pub returns : goal.returns
returns c = words_read_back
