-- SET lists of numbers.
use Rattle.std.proofs.Common.{◌≡◌, ◌≤◌, ◌<◌, ℕ, ◌+◌, pos, List, [], ◌∷◌, ◌++◌, length, Some, refl, ap, ◌∙◌, subst, sym, arith}
use Rattle.sql_base.specs.Codes.{code_of, code_step, counted, sets_code}
use Rattle.sql_base.specs.Kinds.{Kind, OfNumber, IsExpr, depth_of, depth_step, kind_of, kind_step}
use Rattle.sql_base.specs.declared.expressions.Expr.{Expr}
use Rattle.sql_base.specs.declared.expressions.Expr.TheVariants as expr
use Rattle.sql_base.specs.declared.statements.Assign.{Assign}
use Rattle.sql_base.specs.declared.tables.TableDef.{TableDef}
use Rattle.sql_base.proofs.Trees.{fold-Number}
use Rattle.update_expressions.specs.Refusing.{AreTyped}

one_typed : (table : TableDef) → IsExpr table OfNumber (expr.Number (pos 1))
one_typed table = record {
  typed = fold-Number _ (kind_step table) (pos 1);
  depth = subst (λ n. n ≤ 32) (sym (fold-Number _ depth_step (pos 1))) (omega arith);
  code = subst (λ (code : List ℕ). length code ≤ 8192) (sym (fold-Number _ code_step (pos 1))) (omega arith);
}

-- two columns that are set to 1
pub both_typed : (table : TableDef) (a b : ℕ) → AreTyped table (record { column = a; value = expr.Number (pos 1) } ∷ record { column = b; value = expr.Number (pos 1) } ∷ [])
both_typed table a b = record {
  some = omega arith;
  each = ((OfNumber, one_typed table), ((OfNumber, one_typed table), tt));
  code = subst (λ (code : List ℕ). length (2 ∷ ((a ∷ counted code) ++ ((b ∷ counted code) ++ []))) ≤ 8192) (sym (fold-Number _ code_step (pos 1))) (omega arith);
}
