-- Which codes are those of a table's CHECKs.
use Rattle.std.specs.Prelude.{◌≡◌, List, map}
use Rattle.std.specs.List.{AllByRecursion}
use Rattle.sql_base.specs.Kinds.{OfTruth}
use Rattle.sql_base.specs.declared.expressions.Expr.{Expr}
use Rattle.sql_base.specs.declared.tables.TableDef.{TableDef}
use Rattle.predicate_runner.specs.Outlines.{Checked}

abbrev pub tree_of : Checked → Expr
tree_of check = check.tree

-- the verified code of a CHECK
abbrev pub IsCheck : TableDef → Expr → Checked → Type 0
IsCheck table check verified = (verified.tree ≡ check) × (verified.kind ≡ OfTruth)

-- the verified codes of the table's CHECKs, in their order, each a truth value
pub record AreChecks (table : TableDef) (checks : List Checked) : Type 0 where
  pub trees : map tree_of checks ≡ table.checks
  pub kinds : AllByRecursion (λ (check : Checked). check.kind ≡ OfTruth) checks
