-- Worked rows of ranges.
use Rattle.std.proofs.Common.{◌≡◌, ℤ, ℕ, pos, List, [], ◌∷◌, ◌++◌, Some, None, refl}
use Rattle.std.specs.Prelude.{codes}
use Rattle.sql_base.proofs.Trees.{fold-Number, fold-Text, fold-Column, fold-Compare, fold-And}
use Rattle.sql_base.specs.Keys.{common_prefix}
use Rattle.range_finder.specs.Range.{Shape, Bounds, AColumn, ALiteral, shape_step, shape_of_compare, bounds_in, range}
use Rattle.sql_base.specs.declared.expressions.CompareOp.{CompareOp}
use Rattle.sql_base.specs.declared.expressions.CompareOp.TheVariants.{Eq, Lt, Gt, Ge}
use Rattle.sql_base.specs.declared.expressions.Expr.{Expr, fold-Expr}
use Rattle.sql_base.specs.declared.expressions.Expr.TheVariants as expr
use Rattle.sql_base.specs.declared.tables.ColumnKind.{ColumnKind}
use Rattle.sql_base.specs.declared.tables.ColumnKind.TheVariants.{Int, Char}
use Rattle.sql_base.specs.declared.tables.TableDef.{TableDef}
use Rattle.sql_base.specs.declared.values.Value.TheVariants as value

abbrev shape : Expr → Shape
shape e = fold-Expr Shape shape_step e

shape-Number : (n : ℤ) → shape (expr.Number n) ≡ ALiteral (value.Int n)
shape-Number n = fold-Number Shape shape_step n

shape-Text : (text : List ℕ) → shape (expr.Text text) ≡ ALiteral (value.Text text)
shape-Text text = fold-Text Shape shape_step text

shape-Column : (c : ℕ) → shape (expr.Column c) ≡ AColumn c
shape-Column c = fold-Column Shape shape_step c

shape-Compare : (op : CompareOp) (a b : Expr) → shape (expr.Compare op a b) ≡ shape_of_compare op (shape a) (shape b)
shape-Compare op a b = fold-Compare Shape shape_step op a b

shape-And : (a b : Expr) → shape (expr.And a b) ≡ Bounds (bounds_in (shape a) ++ bounds_in (shape b))
shape-And a b = fold-And Shape shape_step a b

abbrev table : List ColumnKind → List ℕ → TableDef
table (a ∷ b ∷ []) key = record { name = []; columns = record { name = codes "a"; kind = a } ∷ record { name = codes "k"; kind = b } ∷ []; key = key; checks = []; firsts = [] }
table kinds key = record { name = []; columns = []; key = key; checks = []; firsts = [] }

abbrev all_high : List ℕ
all_high = 0xFF ∷ 0xFF ∷ 0xFF ∷ 0xFF ∷ 0xFF ∷ 0xFF ∷ 0xFF ∷ 0xFF ∷ []

-- k >= 999, over the key (k INT)
from_999 : range (table (Int ∷ Int ∷ []) (0 ∷ [])) (Some (expr.Compare Ge (expr.Column 0) (expr.Number (pos 999)))) ≡ Some (record { low = 0x80 ∷ 0 ∷ 0 ∷ 0 ∷ 0 ∷ 0 ∷ 0x03 ∷ 0xE7 ∷ []; high = all_high })
from_999 = simp (shape-Compare, shape-Column, shape-Number)

-- own = 'AA' AND k > 5, over the key (own CHAR(2), k INT)
abbrev own_and_above : Expr
own_and_above = expr.And (expr.Compare Eq (expr.Column 0) (expr.Text (codes "AA"))) (expr.Compare Gt (expr.Column 1) (expr.Number (pos 5)))

two_columns : range (table (Char 2 ∷ Int ∷ []) (0 ∷ 1 ∷ [])) (Some own_and_above) ≡ Some (record { low = 0x41 ∷ 0x41 ∷ 0x80 ∷ 0 ∷ 0 ∷ 0 ∷ 0 ∷ 0 ∷ 0 ∷ 6 ∷ []; high = 0x41 ∷ 0x41 ∷ all_high })
two_columns = simp (shape-And, shape-Compare, shape-Column, shape-Number, shape-Text)

their_common_prefix : common_prefix (0x41 ∷ 0x41 ∷ 0x80 ∷ 0 ∷ 0 ∷ 0 ∷ 0 ∷ 0 ∷ 0 ∷ 6 ∷ []) (0x41 ∷ 0x41 ∷ all_high) ≡ 0x41 ∷ 0x41 ∷ []
their_common_prefix = refl

-- k > 9 AND k < 3
none_left : range (table (Int ∷ Int ∷ []) (0 ∷ [])) (Some (expr.And (expr.Compare Gt (expr.Column 0) (expr.Number (pos 9))) (expr.Compare Lt (expr.Column 0) (expr.Number (pos 3))))) ≡ None
none_left = simp (shape-And, shape-Compare, shape-Column, shape-Number)

-- a literal on the left turns the comparison round: 5 < k
literal_first : range (table (Int ∷ Int ∷ []) (0 ∷ [])) (Some (expr.Compare Lt (expr.Number (pos 5)) (expr.Column 0))) ≡ Some (record { low = 0x80 ∷ 0 ∷ 0 ∷ 0 ∷ 0 ∷ 0 ∷ 0 ∷ 6 ∷ []; high = all_high })
literal_first = simp (shape-Compare, shape-Column, shape-Number)

without_predicate : range (table (Char 2 ∷ Int ∷ []) (0 ∷ 1 ∷ [])) None ≡ Some (record { low = 0 ∷ 0 ∷ 0 ∷ 0 ∷ 0 ∷ 0 ∷ 0 ∷ 0 ∷ 0 ∷ 0 ∷ []; high = 0xFF ∷ 0xFF ∷ all_high })
without_predicate = refl
