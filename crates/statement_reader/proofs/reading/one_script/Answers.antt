use Rattle.statement_reader.proofs.Refusals.{spelled_once}
use Rattle.statement_reader.proofs.reading.one_script.Goals as goal

pub returns : goal.returns
returns c = spelled_once
