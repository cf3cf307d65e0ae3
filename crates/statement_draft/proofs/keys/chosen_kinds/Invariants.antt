use Rattle.std.proofs.Common.{◌≡◌, ◌++◌, drop}
use Rattle.sql_base.specs.Rows.{chosen}
use Rattle.statement_draft.proofs.keys.chosen_kinds.Given as goal

abbrev pub invariant-loop-place : goal.invariant-loop-place
invariant-loop-place l = l.found ++ chosen (drop l.place-index l.places) l.kinds ≡ chosen l.places l.kinds
