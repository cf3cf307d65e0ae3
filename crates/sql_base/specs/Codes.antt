-- The codes of expressions and SET lists.
use Rattle.std.specs.Prelude.{ℕ, List, [], ◌∷◌, ◌++◌, length, flat_map}
use Rattle.std.specs.Int.{w16, w64, cast_unsigned, to_be_bytes}
use Rattle.sql_base.specs.declared.expressions.Expr.{Expr, fold-Expr}
use Rattle.sql_base.specs.declared.expressions.Expr.TheOpen.{Expr-F, Number, Text, Column, Arith, Compare, And, Or, Not}
use Rattle.sql_base.specs.declared.expressions.ArithOp.{ArithOp}
use Rattle.sql_base.specs.declared.expressions.ArithOp.TheVariants.{Add, Sub, Mul, Div}
use Rattle.sql_base.specs.declared.expressions.CompareOp.{CompareOp}
use Rattle.sql_base.specs.declared.expressions.CompareOp.TheVariants.{Eq, Ne, Lt, Le, Gt, Ge}
use Rattle.sql_base.specs.declared.statements.Assign.{Assign}

abbrev pub arith_code : ArithOp → ℕ
arith_code Add = 0x10
arith_code Sub = 0x11
arith_code Mul = 0x12
arith_code Div = 0x13

abbrev pub compare_code : CompareOp → ℕ
compare_code Eq = 0x20
compare_code Ne = 0x21
compare_code Lt = 0x22
compare_code Le = 0x23
compare_code Gt = 0x24
compare_code Ge = 0x25

-- a code with its length in 2 bytes before it
abbrev pub counted : List ℕ → List ℕ
counted code = to_be_bytes w16 (length code) ++ code

-- one operator behind the codes of its operands; AND and OR stand before the right one
abbrev pub code_step : Expr-F (List ℕ) → List ℕ
code_step (Number n) = 0x01 ∷ to_be_bytes w64 (cast_unsigned w64 n)
code_step (Text text) = 0x02 ∷ length text ∷ text
code_step (Column c) = 0x03 ∷ c ∷ []
code_step (Arith op a b) = a ++ b ++ arith_code op ∷ []
code_step (Compare op a b) = a ++ b ++ compare_code op ∷ []
code_step (And a b) = a ++ 0x30 ∷ counted b
code_step (Or a b) = a ++ 0x31 ∷ counted b
code_step (Not a) = a ++ 0x32 ∷ []

-- the code of an expression
abbrev pub code_of : Expr → List ℕ
code_of e = fold-Expr (List ℕ) code_step e

-- the code of a SET list: their number, then each column with its counted code
abbrev pub sets_code : List Assign → List ℕ
sets_code sets = length sets ∷ flat_map (λ set. set.column ∷ counted (code_of set.value)) sets
