use Rattle.std.proofs.Common.{◌&&◌, length, ap, ◌∙◌}
use Rattle.std.specs.Prelude.{nat_eq, nat_lt}
use Rattle.std.specs.List.{list_all}
use Rattle.sql_base.specs.Tables.{all_differ}
use Rattle.sql_base.specs.declared.tables.TableDef.{TableDef}
use Rattle.partition_core.proofs.contents.Contents.are_columns_here.Goals as goal

pub returns : goal.returns
returns c =
    let columns = c.args.columns.now in
    c.are_columns.ensures ∙ ap (λ (table : TableDef). nat_lt 0 (length columns) && (list_all (λ n. nat_lt n (length table.columns)) columns && all_differ nat_eq columns)) c.table.ensures.same
