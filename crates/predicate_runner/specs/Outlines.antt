-- Operands and verified expressions, as contracts see them.
use Rattle.sql_base.specs.Kinds.{Kind, OfNumber, OfText, OfTruth}
use Rattle.sql_base.specs.declared.expressions.Expr.{Expr}
use Rattle.predicate_codes.specs.Decoding.{Operand}
use Rattle.predicate_runner.specs.declared.kinds.ExprKind.{ExprKind}
use Rattle.predicate_runner.specs.declared.kinds.ExprKind.TheVariants as kind
use Rattle.predicate_runner.specs.declared.kinds.Operand.{Operand as Held}

abbrev pub kind_in : ExprKind → Kind
kind_in kind.Number = OfNumber
kind_in (kind.Text width) = OfText width
kind_in kind.Truth = OfTruth

abbrev pub operand_in : Held → Operand
operand_in o = record { tree = o.tree; kind = kind_in o.kind; depth = o.depth }

-- a verified expression
pub record Checked : Type 0 where
  pub tree : Expr
  pub kind : Kind
