use Rattle.std.proofs.Common.{◌≡◌, drop}
use Rattle.std.specs.Prelude.{nat_eq}
use Rattle.std.specs.List.{list_any}
use Rattle.statement_draft.proofs.rows.is_table_loaded.Given as goal

abbrev pub invariant-loop-load : goal.invariant-loop-load
invariant-loop-load l = list_any (λ load. nat_eq l.place load.table) (drop l.load-index l.loads) ≡ list_any (λ load. nat_eq l.place load.table) l.loads
