-- The value of an expression on a row.
use Rattle.std.specs.Prelude.{ℤ, ℕ, ◌+ℤ◌, ◌-ℤ◌, ◌*ℤ◌, pos, negsuc, zero, suc, int_div, max, length, List, Option, Some, None, slice_get, Bool, true, false, not, Result, Ok, Err, if◌then◌else◌}
use Rattle.std.specs.declared.cmp.Ordering.{Ordering}
use Rattle.std.specs.Ordering.{is_eq, is_ne, is_lt, is_le, is_gt, is_ge, nat_cmp, int_cmp}
use Rattle.std.specs.Cmp.Lexicographic.{slice_cmp}
use Rattle.sql_base.specs.Rows.{padded, in_i64}
use Rattle.sql_base.specs.declared.expressions.Expr.{Expr, fold-Expr}
use Rattle.sql_base.specs.declared.expressions.Expr.TheOpen.{Expr-F, Number, Text, Column, Arith, Compare, And, Or, Not}
use Rattle.sql_base.specs.declared.expressions.ArithOp.{ArithOp}
use Rattle.sql_base.specs.declared.expressions.ArithOp.TheVariants.{Add, Sub, Mul, Div}
use Rattle.sql_base.specs.declared.expressions.CompareOp.{CompareOp}
use Rattle.sql_base.specs.declared.expressions.CompareOp.TheVariants.{Eq, Ne, Lt, Le, Gt, Ge}
use Rattle.sql_base.specs.declared.faults.EvalFault.{EvalFault}
use Rattle.sql_base.specs.declared.faults.EvalFault.TheVariants.{Overflow, ZeroDivide}
use Rattle.sql_base.specs.declared.values.Value.{Value}
use Rattle.sql_base.specs.declared.values.Value.TheVariants as value

-- what an expression gives
pub data Item : Type 0 where
  IsNumber : ℤ → Item
  IsText : List ℕ → Item
  IsTruth : Bool → Item
  -- never of a well-typed expression
  IsNothing : Item

abbrev pub Outcome : Type 0
Outcome = Result Item EvalFault

-- a result outside the 64 bit numbers is a fault
abbrev pub number : ℤ → Outcome
number z = if in_i64 z then Ok (IsNumber z) else Err Overflow

-- a number of the code, or its fault
abbrev pub number_in : Result ℤ EvalFault → Outcome
number_in (Ok n) = Ok (IsNumber n)
number_in (Err fault) = Err fault

abbrev pub or_overflow : Option ℤ → Result ℤ EvalFault
or_overflow (Some n) = Ok n
or_overflow None = Err Overflow

-- division goes toward zero
abbrev pub quotient : ℤ → ℤ → Outcome
quotient x (pos zero) = Err ZeroDivide
quotient x (pos (suc n)) = number (int_div x (pos (suc n)))
quotient x (negsuc n) = number (int_div x (negsuc n))

abbrev pub arith : ArithOp → ℤ → ℤ → Outcome
arith Add x y = number (x +ℤ y)
arith Sub x y = number (x -ℤ y)
arith Mul x y = number (x *ℤ y)
arith Div x y = quotient x y

abbrev pub holds : CompareOp → Ordering → Bool
holds Eq o = is_eq o
holds Ne o = is_ne o
holds Lt o = is_lt o
holds Le o = is_le o
holds Gt o = is_gt o
holds Ge o = is_ge o

-- the shorter of two texts counts as padded with blanks
abbrev pub text_cmp : List ℕ → List ℕ → Ordering
text_cmp a b = let n = max (length a) (length b) in slice_cmp nat_cmp (padded n a) (padded n b)

abbrev pub computed : ArithOp → Item → Item → Outcome
computed op (IsNumber x) (IsNumber y) = arith op x y
computed op a b = Ok IsNothing

abbrev pub compared : CompareOp → Item → Item → Outcome
compared op (IsNumber x) (IsNumber y) = Ok (IsTruth (holds op (int_cmp x y)))
compared op (IsText a) (IsText b) = Ok (IsTruth (holds op (text_cmp a b)))
compared op a b = Ok IsNothing

-- the left side's fault, else the right side's, else what f makes of both
abbrev pub both : (Item → Item → Outcome) → Outcome → Outcome → Outcome
both f (Err fault) b = Err fault
both f (Ok x) (Err fault) = Err fault
both f (Ok x) (Ok y) = f x y

-- stops at a left side of this truth value; else it is what the right side is
abbrev pub unless_left_is : Bool → Outcome → Outcome → Outcome
unless_left_is stop (Err fault) b = Err fault
unless_left_is false (Ok (IsTruth false)) b = Ok (IsTruth false)
unless_left_is false (Ok (IsTruth true)) b = b
unless_left_is true (Ok (IsTruth true)) b = Ok (IsTruth true)
unless_left_is true (Ok (IsTruth false)) b = b
unless_left_is stop (Ok x) b = Ok IsNothing

abbrev pub turned : Outcome → Outcome
turned (Ok (IsTruth b)) = Ok (IsTruth (not b))
turned (Ok x) = Ok IsNothing
turned (Err fault) = Err fault

abbrev pub column_item : Option Value → Outcome
column_item (Some (value.Int n)) = Ok (IsNumber n)
column_item (Some (value.Text text)) = Ok (IsText text)
column_item None = Ok IsNothing

-- one operator over what its operands give
abbrev pub val_step : List Value → Expr-F Outcome → Outcome
val_step row (Number n) = Ok (IsNumber n)
val_step row (Text text) = Ok (IsText text)
val_step row (Column c) = column_item (slice_get row c)
val_step row (Arith op a b) = both (computed op) a b
val_step row (Compare op a b) = both (compared op) a b
val_step row (And a b) = unless_left_is false a b
val_step row (Or a b) = unless_left_is true a b
val_step row (Not a) = turned a

-- the value of an expression on a row
abbrev pub val : Expr → List Value → Outcome
val e row = fold-Expr Outcome (val_step row) e

-- an absent filter is true
abbrev pub filter_val : Option Expr → List Value → Outcome
filter_val None row = Ok (IsTruth true)
filter_val (Some e) row = val e row
