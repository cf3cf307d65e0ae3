-- The CHECKs of a table, and rows that stay rows.
use Rattle.std.proofs.Common.{List, [], ◌∷◌, map, sym, subst}
use Rattle.std.specs.List.{AllByRecursion}
use Rattle.sql_base.specs.Kinds.{OfTruth, IsExpr}
use Rattle.sql_base.specs.declared.expressions.Expr.{Expr}
use Rattle.sql_base.specs.declared.tables.TableDef.{TableDef}
use Rattle.predicate_runner.specs.Outlines.{Checked}
use Rattle.constraint_checks.specs.Judging.{AreChecks, tree_of}

unmapped : (P : Expr → Type 0) (checks : List Checked) → AllByRecursion P (map tree_of checks) → AllByRecursion (λ check. P (tree_of check)) checks
unmapped P [] h = tt
unmapped P (check ∷ checks) h = (h.0, unmapped P checks h.1)

-- the verified codes of a table's CHECKs are truth values of the table
pub checks-typed : (table : TableDef) (checks : List Checked) → AllByRecursion (IsExpr table OfTruth) table.checks → AreChecks table checks → AllByRecursion (λ check. IsExpr table OfTruth check.tree) checks
checks-typed table checks typed are = unmapped (IsExpr table OfTruth) checks (subst (AllByRecursion (IsExpr table OfTruth)) (sym are.trees) typed)
