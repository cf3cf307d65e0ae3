use Rattle.std.proofs.lemmas.List.Elements.{All-from_recursion}
use Rattle.sql_base.specs.Kinds.{OfTruth, IsExpr}
use Rattle.predicate_runner.specs.Outlines.{Checked}
use Rattle.std.proofs.Common.{subst, sym}
use Rattle.sql_base.specs.Rows.{IsRow}
use Rattle.sql_base.specs.declared.tables.TableDef.{TableDef}
use Rattle.quantum_runner.proofs.Checking.{checks-typed}
use Rattle.quantum_runner.proofs.tables.CheckedTable.first_failing.Goals as goal

pub first_failing-requires-clause-checks : goal.first_failing-requires-clause-checks
first_failing-requires-clause-checks c =
    let table = c.self.inside.table in
    let checks = c.self.inside.checks in
    let typed = checks-typed table checks c.self.invariant.0.checks c.self.invariant.1 in (
      table,
      subst (λ (x : TableDef). IsRow x c.args.row.now) (sym c.self.view_is) c.requires,
      All-from_recursion (λ (check : Checked). IsExpr table OfTruth check.tree) checks typed,
    )
