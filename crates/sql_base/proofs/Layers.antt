-- What holds of an expression by what holds of its operands.
use Rattle.std.proofs.Common.{subst}
use Rattle.sql_base.specs.declared.expressions.Expr.{Expr, ind-Expr, map-Expr, roll-Expr}
use Rattle.sql_base.specs.declared.expressions.Expr.TheOpen.{And, Arith, Column, Compare, Expr-F, Not, Number, Or, Text}

-- P holds of each operand
abbrev pub Each : {A : Type 0} → (A → Type 0) → Expr-F A → Type 0
Each P (Number n) = Unit {0}
Each P (Text text) = Unit {0}
Each P (Column c) = Unit {0}
Each P (Arith op a b) = P a × P b
Each P (Compare op a b) = P a × P b
Each P (And a b) = P a × P b
Each P (Or a b) = P a × P b
Each P (Not a) = P a

module _ (P : Expr → Type 0) where
  each_beside : (y : Expr-F ((e : Expr) × P e)) → Each P (map-Expr ((e : Expr) × P e) Expr (λ e. e.0) y)
  each_beside (Number n) = tt
  each_beside (Text text) = tt
  each_beside (Column c) = tt
  each_beside (Arith op a b) = (a.1, b.1)
  each_beside (Compare op a b) = (a.1, b.1)
  each_beside (And a b) = (a.1, b.1)
  each_beside (Or a b) = (a.1, b.1)
  each_beside (Not a) = a.1

  -- what holds of an operator once it holds of its operands holds of every expression
  pub by_layers : ((x : Expr-F Expr) → Each P x → P (roll-Expr x)) → (e : Expr) → P e
  by_layers step = ind-Expr P (λ x y is. step x (subst (Each P) is (each_beside y)))
