-- What is known of an operand is so of its tree.
use Rattle.std.specs.Prelude.{◌≡◌, ℕ, min, nat_le, nat_lt, ◌||◌, true, false, List, length, Option, Some, None, option_map}
use Rattle.sql_base.specs.Codes.{code_of}
use Rattle.sql_base.specs.Kinds.{OfNumber, OfText, OfTruth, IsExpr, kind_of, depth_of}
use Rattle.sql_base.specs.Kinds as base
use Rattle.sql_base.specs.declared.expressions.Expr.{Expr}
use Rattle.sql_base.specs.declared.tables.TableDef.{TableDef}
use Rattle.sql_base.specs.Rows.{is_printable}
use Rattle.sql_base.specs.Scripts.{AreLimits}
use Rattle.statement_grammar.specs.declared.symbols.Limit.{Limit}
use Rattle.statement_draft.specs.Expressions.{applied, binary, negation, number_operand, negative_operand, text_operand, name_operand}
use Rattle.statement_draft.specs.TableEvents.{limit_came}
use Rattle.statement_draft.specs.declared.draft.Draft.{Draft}
use Rattle.statement_draft.specs.declared.draft.NewExpression.{NewExpression}
use Rattle.statement_draft.specs.declared.kinds.Operator.{Operator}
use Rattle.std.specs.List.{AllByRecursion}
use Rattle.statement_draft.specs.declared.kinds.Op.{Op}
use Rattle.statement_draft.specs.declared.kinds.Kind.{Kind}
use Rattle.statement_draft.specs.declared.kinds.Kind.TheVariants as kind
use Rattle.statement_draft.specs.declared.kinds.Operand.{Operand}

-- a kind, as the rules of scripts name it
abbrev pub meant : Kind → base.Kind
meant kind.Number = OfNumber
meant (kind.Text n) = OfText n
meant kind.Truth = OfTruth

-- kind, depth and code of the tree, the last two as far as they are counted
pub record Describes (table : TableDef) (x : Operand) (e : Expr) : Type 0 where
  pub typed : kind_of table e ≡ option_map meant x.kind
  pub depth : x.depth ≡ min 33 (depth_of e)
  pub code : x.code ≡ min 8193 (length (code_of e))

-- the operand's tree, if it has one, is as it says
abbrev pub DescribesItsTree : TableDef → Operand → Type 0
DescribesItsTree table x = (e : Expr) → x.tree ≡ Some e → Describes table x e

-- an operator over operands that describe their trees gives one
abbrev pub OperatorsDescribe : Type 0
OperatorsDescribe = (table : TableDef) (o : Op) (a b : Operand) → DescribesItsTree table a → DescribesItsTree table b → DescribesItsTree table (binary o a b)

abbrev pub NotDescribes : Type 0
NotDescribes = (table : TableDef) (a : Operand) → DescribesItsTree table a → DescribesItsTree table (negation a)

-- so do numbers, printable texts of at most 255 bytes, and the names of a table's columns
pub record LeavesDescribe (table : TableDef) : Type 0 where
  pub number : (n : ℕ) → DescribesItsTree table (number_operand n)
  pub negative : (n : ℕ) → DescribesItsTree table (negative_operand n)
  pub text : (text : List ℕ) → nat_le (length text) 255 ≡ true → is_printable text ≡ true → DescribesItsTree table (text_operand text)
  pub name : (place : Option ℕ) → DescribesItsTree table (name_operand table.columns place)

-- an operator keeps what is known of the operands of an expression
abbrev pub OperandsKept : Type 0
OperandsKept =
    (table : TableDef) (o : Operator) (e : NewExpression) → AllByRecursion (DescribesItsTree table) e.operands
    → AllByRecursion (DescribesItsTree table) (applied o e).operands

-- a truth value that is neither too deep nor too long is a predicate of the table
abbrev pub WholeIsPredicate : Type 0
WholeIsPredicate =
    (table : TableDef) (x : Operand) (e : Expr) → DescribesItsTree table x → x.tree ≡ Some e → x.kind ≡ Some kind.Truth
    → nat_lt 32 x.depth || nat_lt 8192 x.code ≡ false → IsExpr table OfTruth e

-- a limit that is noted without fault keeps the limits in their ranges
abbrev pub LimitsKept : Type 0
LimitsKept = (l : Limit) (n at : ℕ) (d : Draft) → (limit_came l n at d).first ≡ None → AreLimits d.limits → AreLimits (limit_came l n at d).limits
