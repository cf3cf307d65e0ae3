use Rattle.std.proofs.Common.{◌≡◌, ◌<◌, ℕ, List, length, sym, ◌∙◌, subst}
use Rattle.std.specs.Prelude.{All}
use Rattle.std.proofs.lemmas.List.{length-map}
use Rattle.sql_base.specs.Rows.{kinds}
use Rattle.sql_base.specs.declared.tables.Column.{Column}
use Rattle.sql_base.proofs.KeyColumns.{are_of_kinds-length}
use Rattle.quantum_runner.specs.Scaffold.Works.{IsDoing, doing_in}
use Rattle.quantum_runner.proofs.works.effect.Goals as goal

pub give-requires : goal.give-requires
give-requires c =
    let table = c.args.table.now in
    let row = c.args.row.now in
    let count : length table.columns ≡ length row = sym (length-map table.columns (λ (column : Column). column.kind)) ∙ are_of_kinds-length (kinds table) row c.requires.row in
    let doing : All (λ n. n < length table.columns) c.in-Read.columns = subst (λ task. IsDoing table (doing_in task)) c.in-Read.is c.requires.doing in
    subst (λ (xs : List ℕ). All (λ n. n < length row) xs) (sym c.items.ensures) (subst (λ m. All (λ n. n < m) c.in-Read.columns) count doing)
