-- Which expressions are well typed over a table, and within the limits.
use Rattle.std.specs.Prelude.{◌≡◌, ◌≤◌, ℕ, ◌+◌, max, nat_le, length, Option, Some, None, slice_get, ◌&&◌, if◌then◌else◌}
use Rattle.sql_base.specs.Rows.{kinds, in_i64, is_printable}
use Rattle.sql_base.specs.Codes.{code_of}
use Rattle.sql_base.specs.declared.expressions.Expr.{Expr, fold-Expr}
use Rattle.sql_base.specs.declared.expressions.Expr.TheOpen.{Expr-F, Number, Text, Column, Arith, Compare, And, Or, Not}
use Rattle.sql_base.specs.declared.tables.ColumnKind.{ColumnKind}
use Rattle.sql_base.specs.declared.tables.ColumnKind.TheVariants.{Int, Char}
use Rattle.sql_base.specs.declared.tables.TableDef.{TableDef}

-- the kind of an expression; a text has the width of its literal or column
pub data Kind : Type 0 where
  OfNumber : Kind
  OfText : ℕ → Kind
  OfTruth : Kind

abbrev pub kind_of_column : Option ColumnKind → Option Kind
kind_of_column (Some Int) = Some OfNumber
kind_of_column (Some (Char n)) = Some (OfText n)
kind_of_column None = None

-- arithmetic takes two numbers
abbrev pub of_arith : Option Kind → Option Kind → Option Kind
of_arith (Some OfNumber) (Some OfNumber) = Some OfNumber
of_arith a b = None

-- a comparison takes two numbers or two texts
abbrev pub of_compare : Option Kind → Option Kind → Option Kind
of_compare (Some OfNumber) (Some OfNumber) = Some OfTruth
of_compare (Some (OfText m)) (Some (OfText n)) = Some OfTruth
of_compare a b = None

abbrev pub of_truths : Option Kind → Option Kind → Option Kind
of_truths (Some OfTruth) (Some OfTruth) = Some OfTruth
of_truths a b = None

abbrev pub kind_step : TableDef → Expr-F (Option Kind) → Option Kind
kind_step table (Number n) = if in_i64 n then Some OfNumber else None
kind_step table (Text text) = if nat_le (length text) 255 && is_printable text then Some (OfText (length text)) else None
kind_step table (Column c) = kind_of_column (slice_get (kinds table) c)
kind_step table (Arith op a b) = of_arith a b
kind_step table (Compare op a b) = of_compare a b
kind_step table (And a b) = of_truths a b
kind_step table (Or a b) = of_truths a b
kind_step table (Not a) = of_truths a a

-- the kind of an expression over the table, or none where it isn't well typed
abbrev pub kind_of : TableDef → Expr → Option Kind
kind_of table e = fold-Expr (Option Kind) (kind_step table) e

abbrev pub depth_step : Expr-F ℕ → ℕ
depth_step (Number n) = 1
depth_step (Text text) = 1
depth_step (Column c) = 1
depth_step (Arith op a b) = max a b + 1
depth_step (Compare op a b) = max a b + 1
depth_step (And a b) = max a b + 1
depth_step (Or a b) = max a b + 1
depth_step (Not a) = a + 1

abbrev pub depth_of : Expr → ℕ
depth_of e = fold-Expr ℕ depth_step e

-- a well-typed expression of the kind, within the limits on depth and code
pub record IsExpr (table : TableDef) (kind : Kind) (e : Expr) : Type 0 where
  pub typed : kind_of table e ≡ Some kind
  pub depth : depth_of e ≤ 32
  pub code : length (code_of e) ≤ 8192
