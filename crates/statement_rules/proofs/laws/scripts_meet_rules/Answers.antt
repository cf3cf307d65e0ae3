use Rattle.statement_rules.proofs.AllParts.{clean_is_script}
use Rattle.statement_rules.proofs.laws.scripts_meet_rules.Goals as goal

pub returns : goal.returns
returns c = clean_is_script
