use Rattle.std.proofs.Common.{rules}
use Rattle.std.proofs.lemmas.List.Elements.{same_from_all_zip}
use Rattle.partition_core.proofs.notes.copy_of_ask.Goals as goal

pub returns-in_ok-clone-in_default : goal.returns-in_ok-clone-in_default
returns-in_ok-clone-in_default c = record { copy = search (rules, same_from_all_zip); closing = tt }
