use Rattle.statement_round_trip.proofs.Padding.{padded_back}
use Rattle.statement_round_trip.proofs.laws.printed_texts_are_padded.Goals as goal

pub returns : goal.returns
returns c = padded_back
