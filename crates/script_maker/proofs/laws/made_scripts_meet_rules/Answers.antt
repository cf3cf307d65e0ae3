use Rattle.script_maker.proofs.Rules.{made_is_script}
use Rattle.script_maker.proofs.laws.made_scripts_meet_rules.Goals as goal

pub returns : goal.returns
returns c = made_is_script
