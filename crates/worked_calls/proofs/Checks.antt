-- The CHECKs of a table, compiled.
use Rattle.std.proofs.Common.{◌≡◌, ◌<◌, ◌^◌, List, length, ap, sym, ◌∙◌, arith}
use Rattle.std.specs.Prelude.{All}
use Rattle.std.proofs.lemmas.List.{length-map}
use Rattle.std.proofs.lemmas.List.Elements.{All-from_recursion}
use Rattle.sql_base.specs.Kinds.{IsExpr, OfTruth}
use Rattle.sql_base.specs.Rows.{IsRow}
use Rattle.sql_base.specs.Tables.{IsTable}
use Rattle.sql_base.specs.declared.tables.TableDef.{TableDef}
use Rattle.sql_base.specs.declared.values.Value.{Value}
use Rattle.predicate_runner.specs.Outlines.{Checked}
use Rattle.constraint_checks.specs.Judging.{AreChecks, tree_of}
use Rattle.quantum_runner.proofs.Checking.{checks-typed}

pub few_checks : (table : TableDef) (checks : List Checked) → IsTable table → AreChecks table checks → length checks < 2 ^ 32
few_checks table checks is are =
    let same : length checks ≡ length table.checks = sym (length-map checks tree_of) ∙ ap length are.trees in
    omega (arith, same, is.few_checks)

-- the CHECKs may be run on a row of their table
pub checks_hold : (table : TableDef) (checks : List Checked) (row : List Value) → IsTable table → AreChecks table checks → IsRow table row
    → (t : TableDef) × IsRow t row × All (λ check. IsExpr t OfTruth check.tree) checks
checks_hold table checks row is are suits =
    (table, suits, All-from_recursion (λ (check : Checked). IsExpr table OfTruth check.tree) checks (checks-typed table checks is.checks are))
