-- The bounds of a predicate as the code has them.
use Rattle.std.specs.Prelude.{Option, Some, None, ℕ}
use Rattle.sql_base.specs.declared.expressions.Expr.{Expr, fold-Expr}
use Rattle.sql_base.specs.declared.values.Value.{Value}
use Rattle.range_finder.specs.Range.{Bound, Shape, AColumn, ALiteral, Bounds, shape_step}
use Rattle.key_ranges.specs.declared.bounds.ColumnBound.{ColumnBound}

abbrev pub shape : Expr → Shape
shape e = fold-Expr Shape shape_step e

abbrev pub bound_of : ColumnBound → Bound
bound_of b = record { column = b.column; op = b.op; literal = b.literal }

-- the column, or the literal, that an expression is
abbrev pub column_in : Shape → Option ℕ
column_in (AColumn c) = Some c
column_in (ALiteral v) = None
column_in (Bounds bounds) = None

abbrev pub literal_in : Shape → Option Value
literal_in (AColumn c) = None
literal_in (ALiteral v) = Some v
literal_in (Bounds bounds) = None
