use Rattle.std.proofs.Common.{sym, ◌∙◌}
use Rattle.std.proofs.lemmas.List.{length-map}
use Rattle.sql_base.specs.Rows.{kinds}
use Rattle.sql_base.specs.declared.tables.Column.{Column}
use Rattle.sql_base.proofs.FaultsOfKeys.{have_kinds-length}
use Rattle.sql_base.proofs.keys.encode_key.Goals as goal

pub key_fault_at-requires-clause-row : goal.key_fault_at-requires-clause-row
key_fault_at-requires-clause-row c = sym (have_kinds-length (kinds c.args.table.now) c.args.row.now c.requires.row) ∙ length-map c.args.table.now.columns (λ (k : Column). k.kind)

pub key_of_values-requires-clause-row : goal.key_of_values-requires-clause-row
key_of_values-requires-clause-row c = sym (have_kinds-length (kinds c.args.table.now) c.args.row.now c.requires.row) ∙ length-map c.args.table.now.columns (λ (k : Column). k.kind)
