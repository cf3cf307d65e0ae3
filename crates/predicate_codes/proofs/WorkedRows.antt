-- Worked rows of the codes: bytes that are read, and bytes that are none.
use Rattle.std.proofs.Common.{◌≡◌, ℕ, pos, List, [], ◌∷◌, Some, None, refl}
use Rattle.sql_base.specs.declared.expressions.CompareOp.TheVariants.{Lt}
use Rattle.sql_base.specs.declared.expressions.Expr.{roll-Expr}
use Rattle.sql_base.specs.declared.expressions.Expr.TheOpen.{Number, Column, Compare, And}
use Rattle.sql_base.specs.declared.tables.ColumnKind.TheVariants.{Int}
use Rattle.sql_base.specs.declared.tables.TableDef.{TableDef}
use Rattle.predicate_codes.specs.Decoding.{expr_of, filter_of, predicate_in, read_code}
use Rattle.predicate_codes.specs.SetLists.{sets_of}

-- t (k INT, v INT, PRIMARY KEY (k))
abbrev two_numbers : TableDef
two_numbers = record {
  name = 116 ∷ [];
  columns = record { name = 107 ∷ []; kind = Int } ∷ record { name = 118 ∷ []; kind = Int } ∷ [];
  key = 0 ∷ [];
  checks = [];
  firsts = [];
}

abbrev seven : List ℕ
seven = 1 ∷ 0 ∷ 0 ∷ 0 ∷ 0 ∷ 0 ∷ 0 ∷ 0 ∷ 7 ∷ []

-- k < 7
abbrev below_seven : List ℕ
below_seven = 3 ∷ 0 ∷ 1 ∷ 0 ∷ 0 ∷ 0 ∷ 0 ∷ 0 ∷ 0 ∷ 0 ∷ 7 ∷ 0x22 ∷ []

below_seven_is : filter_of two_numbers (Some below_seven) ≡ Some (Some (roll-Expr (Compare Lt (roll-Expr (Column 0)) (roll-Expr (Number (pos 7))))))
unfolding read_code
below_seven_is = refl

-- one byte more, no byte, a number where a truth value is asked for, a column too many
longer : predicate_in two_numbers (3 ∷ 0 ∷ 3 ∷ 1 ∷ 0x22 ∷ 0 ∷ []) ≡ None
unfolding read_code
longer = refl

empty : expr_of two_numbers [] ≡ None
unfolding read_code
empty = refl

no_truth : predicate_in two_numbers seven ≡ None
unfolding read_code
no_truth = refl

no_column : expr_of two_numbers (3 ∷ 2 ∷ []) ≡ None
unfolding read_code
no_column = refl

-- k < v AND v < k, and with a length that is one too short
both_ways : predicate_in two_numbers (3 ∷ 0 ∷ 3 ∷ 1 ∷ 0x22 ∷ 0x30 ∷ 0 ∷ 5 ∷ 3 ∷ 1 ∷ 3 ∷ 0 ∷ 0x22 ∷ []) ≡ Some (roll-Expr (And (roll-Expr (Compare Lt (roll-Expr (Column 0)) (roll-Expr (Column 1)))) (roll-Expr (Compare Lt (roll-Expr (Column 1)) (roll-Expr (Column 0))))))
unfolding read_code
both_ways = refl

cut_short : predicate_in two_numbers (3 ∷ 0 ∷ 3 ∷ 1 ∷ 0x22 ∷ 0x30 ∷ 0 ∷ 4 ∷ 3 ∷ 1 ∷ 3 ∷ 0 ∷ 0x22 ∷ []) ≡ None
unfolding read_code
cut_short = refl

-- SET v = k; SET k = v is refused, since k is a key column; so is v twice
set_v : sets_of two_numbers (1 ∷ 1 ∷ 0 ∷ 2 ∷ 3 ∷ 0 ∷ []) ≡ Some (record { column = 1; value = roll-Expr (Column 0) } ∷ [])
unfolding read_code
set_v = refl

set_key : sets_of two_numbers (1 ∷ 0 ∷ 0 ∷ 2 ∷ 3 ∷ 1 ∷ []) ≡ None
unfolding read_code
set_key = refl

set_twice : sets_of two_numbers (2 ∷ 1 ∷ 0 ∷ 2 ∷ 3 ∷ 0 ∷ 1 ∷ 0 ∷ 2 ∷ 3 ∷ 0 ∷ []) ≡ None
unfolding read_code
set_twice = refl
