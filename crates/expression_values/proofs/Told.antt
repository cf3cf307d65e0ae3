-- What is told of an operator from what is told of its operands.
use Rattle.std.proofs.Common.{◌≡◌, List, ap, sym, ◌∙◌, subst}
use Rattle.sql_base.proofs.Trees.{fold-Arith}
use Rattle.sql_base.specs.Val.{both, computed, val, val_step, Outcome}
use Rattle.sql_base.specs.declared.expressions.ArithOp.{ArithOp}
use Rattle.sql_base.specs.declared.expressions.Expr.{Expr}
use Rattle.sql_base.specs.declared.expressions.Expr.TheVariants as expr
use Rattle.sql_base.specs.declared.values.Value.{Value}
use Rattle.expression_values.specs.Truths.{TellsNumber}
use Rattle.expression_values.specs.declared.truths.Number.{Number}

pub made_told : (op : ArithOp) (a b x y e : Expr) (row : List Value) (left right made : Number) → e ≡ expr.Arith op a b → x ≡ a → y ≡ b → TellsNumber left (val x row) → TellsNumber right (val y row)
    → ((p q : Outcome) → TellsNumber left p → TellsNumber right q → TellsNumber made (both (computed op) p q)) → TellsNumber made (val e row)
made_told op a b x y e row left right made is xa yb l r tells =
    subst (TellsNumber made) (sym (ap (λ t. val t row) is ∙ fold-Arith Outcome (val_step row) op a b))
    (tells (val a row) (val b row) (subst (λ t. TellsNumber left (val t row)) xa l) (subst (λ t. TellsNumber right (val t row)) yb r))
