-- What a fold gives at each variant of an expression.
use Rattle.std.proofs.Common.{◌≡◌, ℕ, ℤ, List, ap, sym, ◌∙◌}
use Rattle.sql_base.specs.declared.expressions.ArithOp.{ArithOp}
use Rattle.sql_base.specs.declared.expressions.CompareOp.{CompareOp}
use Rattle.sql_base.specs.declared.expressions.Expr.{Expr, fold-Expr, fold-roll-Expr}
use Rattle.sql_base.specs.declared.expressions.Expr.TheVariants as expr
use Rattle.sql_base.specs.declared.expressions.Expr.TheVariants.{rolls-Number, rolls-Text, rolls-Column, rolls-Arith, rolls-Compare, rolls-And, rolls-Or, rolls-Not}
use Rattle.sql_base.specs.declared.expressions.Expr.TheOpen.{Expr-F, Number, Text, Column, Arith, Compare, And, Or, Not}

module _ (A : Type 0) (step : Expr-F A → A) where
  pub fold-Number : (n : ℤ) → fold-Expr A step (expr.Number n) ≡ step (Number n)
  fold-Number n = ap (fold-Expr A step) (sym (rolls-Number n)) ∙ fold-roll-Expr A step (Number n)

  pub fold-Text : (text : List ℕ) → fold-Expr A step (expr.Text text) ≡ step (Text text)
  fold-Text text = ap (fold-Expr A step) (sym (rolls-Text text)) ∙ fold-roll-Expr A step (Text text)

  pub fold-Column : (c : ℕ) → fold-Expr A step (expr.Column c) ≡ step (Column c)
  fold-Column c = ap (fold-Expr A step) (sym (rolls-Column c)) ∙ fold-roll-Expr A step (Column c)

  pub fold-Arith : (op : ArithOp) (a b : Expr) → fold-Expr A step (expr.Arith op a b) ≡ step (Arith op (fold-Expr A step a) (fold-Expr A step b))
  fold-Arith op a b = ap (fold-Expr A step) (sym (rolls-Arith op a b)) ∙ fold-roll-Expr A step (Arith op a b)

  pub fold-Compare : (op : CompareOp) (a b : Expr) → fold-Expr A step (expr.Compare op a b) ≡ step (Compare op (fold-Expr A step a) (fold-Expr A step b))
  fold-Compare op a b = ap (fold-Expr A step) (sym (rolls-Compare op a b)) ∙ fold-roll-Expr A step (Compare op a b)

  pub fold-And : (a b : Expr) → fold-Expr A step (expr.And a b) ≡ step (And (fold-Expr A step a) (fold-Expr A step b))
  fold-And a b = ap (fold-Expr A step) (sym (rolls-And a b)) ∙ fold-roll-Expr A step (And a b)

  pub fold-Or : (a b : Expr) → fold-Expr A step (expr.Or a b) ≡ step (Or (fold-Expr A step a) (fold-Expr A step b))
  fold-Or a b = ap (fold-Expr A step) (sym (rolls-Or a b)) ∙ fold-roll-Expr A step (Or a b)

  pub fold-Not : (a : Expr) → fold-Expr A step (expr.Not a) ≡ step (Not (fold-Expr A step a))
  fold-Not a = ap (fold-Expr A step) (sym (rolls-Not a)) ∙ fold-roll-Expr A step (Not a)
