-- Worked rows of values, keys, codes and locks: each definition gives the row's answer.
use Rattle.std.proofs.Common.{◌≡◌, ℤ, ℕ, pos, negsuc, List, [], ◌∷◌, true, false, Some, None, Ok, Err, refl}
use Rattle.std.specs.Prelude.{codes, slice_get}
use Rattle.sql_base.specs.Kinds.{kind_step}
use Rattle.sql_base.specs.Locks.{first_conflict, granted}
use Rattle.sql_base.specs.Names.{IsName, is_keyword}
use Rattle.sql_base.specs.Rows.{key_value, packed, unpacked}
use Rattle.sql_base.specs.Val.{Outcome, val, val_step, IsNumber, IsText, IsTruth, both, computed, compared, unless_left_is, column_item}
use Rattle.sql_base.proofs.Trees.{fold-Number, fold-Text, fold-Column, fold-Arith, fold-Compare, fold-And}
use Rattle.sql_base.specs.declared.expressions.ArithOp.{ArithOp}
use Rattle.sql_base.specs.declared.expressions.ArithOp.TheVariants.{Sub, Div}
use Rattle.sql_base.specs.declared.expressions.CompareOp.{CompareOp}
use Rattle.sql_base.specs.declared.expressions.CompareOp.TheVariants.{Eq, Lt}
use Rattle.sql_base.specs.declared.expressions.Expr.{Expr}
use Rattle.sql_base.specs.declared.expressions.Expr.TheVariants as expr
use Rattle.sql_base.specs.declared.expressions.Expr.TheOpen as layer
use Rattle.sql_base.specs.declared.tables.TableDef.{TableDef}
use Rattle.sql_base.specs.declared.faults.EvalFault.TheVariants.{Overflow, ZeroDivide}
use Rattle.sql_base.specs.declared.lock_names.Lock.{Lock}
use Rattle.sql_base.specs.declared.lock_names.Mode.{Mode}
use Rattle.sql_base.specs.declared.lock_names.Mode.TheVariants.{S, X}
use Rattle.sql_base.specs.declared.lock_names.TxnName.{TxnName}
use Rattle.sql_base.specs.declared.tables.ColumnKind.TheVariants.{Int, Char}
use Rattle.sql_base.specs.declared.values.Value.{Value}
use Rattle.sql_base.specs.declared.values.Value.TheVariants as value

-- the value of an expression at each variant that the rows have
val-Number : (n : ℤ) (row : List Value) → val (expr.Number n) row ≡ Ok (IsNumber n)
val-Number n row = fold-Number Outcome (val_step row) n

val-Text : (text : List ℕ) (row : List Value) → val (expr.Text text) row ≡ Ok (IsText text)
val-Text text row = fold-Text Outcome (val_step row) text

val-Column : (c : ℕ) (row : List Value) → val (expr.Column c) row ≡ column_item (slice_get row c)
val-Column c row = fold-Column Outcome (val_step row) c

val-Arith : (op : ArithOp) (a b : Expr) (row : List Value) → val (expr.Arith op a b) row ≡ both (computed op) (val a row) (val b row)
val-Arith op a b row = fold-Arith Outcome (val_step row) op a b

val-Compare : (op : CompareOp) (a b : Expr) (row : List Value) → val (expr.Compare op a b) row ≡ both (compared op) (val a row) (val b row)
val-Compare op a b row = fold-Compare Outcome (val_step row) op a b

val-And : (a b : Expr) (row : List Value) → val (expr.And a b) row ≡ unless_left_is false (val a row) (val b row)
val-And a b row = fold-And Outcome (val_step row) a b

-- a row whose only column k is this number
abbrev k_is : ℤ → List Value
k_is n = value.Int n ∷ []

-- -7 / 2 is -3
divides_toward_zero : val (expr.Arith Div (expr.Column 0) (expr.Number (pos 2))) (k_is (negsuc 6)) ≡ Ok (IsNumber (negsuc 2))
divides_toward_zero = simp (val-Arith, val-Column, val-Number)

-- the least number divided by -1
overflows : val (expr.Arith Div (expr.Column 0) (expr.Number (negsuc 0))) (k_is (negsuc 9223372036854775807)) ≡ Err Overflow
overflows = simp (val-Arith, val-Column, val-Number)

-- 1 / (k - k) = 1
abbrev divides_by_zero : Expr
divides_by_zero = expr.Compare Eq (expr.Arith Div (expr.Number (pos 1)) (expr.Arith Sub (expr.Column 0) (expr.Column 0))) (expr.Number (pos 1))

abbrev below_zero : Expr
below_zero = expr.Compare Lt (expr.Column 0) (expr.Number (pos 0))

and_stops : val (expr.And below_zero divides_by_zero) (k_is (pos 5)) ≡ Ok (IsTruth false)
and_stops = simp (val-And, val-Compare, val-Arith, val-Column, val-Number)

and_goes_from_the_left : val (expr.And divides_by_zero below_zero) (k_is (pos 5)) ≡ Err ZeroDivide
and_goes_from_the_left = simp (val-And, val-Compare, val-Arith, val-Column, val-Number)

-- 'AB' against a CHAR(4)
shorter_text_is_padded : val (expr.Compare Eq (expr.Column 0) (expr.Text (codes "AB"))) (value.Text (codes "AB  ") ∷ []) ≡ Ok (IsTruth true)
shorter_text_is_padded = simp (val-Compare, val-Column, val-Text)

-- keys: the sign bit is inverted, a text padded
key_of_two : key_value Int (value.Int (pos 2)) ≡ 0x80 ∷ 0 ∷ 0 ∷ 0 ∷ 0 ∷ 0 ∷ 0 ∷ 2 ∷ []
key_of_two = refl

key_of_least : key_value Int (value.Int (negsuc 9223372036854775807)) ≡ 0 ∷ 0 ∷ 0 ∷ 0 ∷ 0 ∷ 0 ∷ 0 ∷ 0 ∷ []
key_of_least = refl

key_of_text : key_value (Char 4) (value.Text (codes "AB")) ≡ codes "AB  "
key_of_text = refl

-- packed rows are read back, and nothing else is
packed_back : unpacked (Int ∷ Char 2 ∷ []) (packed (0 ∷ 1 ∷ []) (value.Int (negsuc 0) ∷ value.Text (codes "AB") ∷ [])) ≡ Some (value.Int (negsuc 0) ∷ value.Text (codes "AB") ∷ [])
packed_back = refl

one_byte_more : unpacked (Int ∷ []) (0 ∷ 0 ∷ 0 ∷ 0 ∷ 0 ∷ 0 ∷ 0 ∷ 1 ∷ 0 ∷ []) ≡ None
one_byte_more = refl

-- in table order a prefix comes before its extension, so the lock of the wider granule is the first in conflict
abbrev first : TxnName
first = record { session = 1; ordinal = 1 }

abbrev second : TxnName
second = record { session = 2; ordinal = 1 }

abbrev lock : TxnName → List ℕ → Mode → Lock
lock t prefix mode = record { holder = t; prefix = prefix; mode = mode }

prefix_comes_first : first_conflict (granted (lock first (65 ∷ []) X) (granted (lock first (65 ∷ 66 ∷ []) X) [])) second (65 ∷ 66 ∷ 67 ∷ []) S ≡ Some (lock first (65 ∷ []) X)
prefix_comes_first = refl

own_lock_is_no_conflict : first_conflict (granted (lock first [] X) []) first (65 ∷ []) X ≡ None
own_lock_is_no_conflict = refl

covered_grant_adds_nothing : granted (lock first (65 ∷ 66 ∷ []) S) (granted (lock first (65 ∷ []) X) []) ≡ lock first (65 ∷ []) X ∷ []
covered_grant_adds_nothing = refl

-- a number of more than 64 bits has no kind
wide_number_is_untyped : (table : TableDef) → kind_step table (layer.Number (pos 9223372036854775808)) ≡ None
wide_number_is_untyped table = refl

-- names: letters, digits and `_` behind a letter; a keyword names nothing, the same word in lower case does
name_with_digit : IsName (codes "k_1")
name_with_digit = record { letter = refl; bytes = refl; free = refl }

lower_case_names : IsName (codes "select")
lower_case_names = record { letter = refl; bytes = refl; free = refl }

keyword_is_no_name : is_keyword (codes "SELECT") ≡ true
keyword_is_no_name = refl
