-- What the reader makes of the words of a printed expression.
use Rattle.std.specs.Prelude.{◌≡◌, ◌≤◌, ℕ, ◌+◌, nat_lt, ℤ, pos, negsuc, suc, List, ◌∷◌, ◌++◌, length, take, map, slice_get, Bool, true, false, ◌&&◌, ◌||◌, is_some, Option, Some, None, option_map}
use Rattle.sql_base.specs.Kinds.{OfTruth, depth_of, kind_of, IsExpr}
use Rattle.sql_base.specs.Kinds as base
use Rattle.statement_draft.specs.Describing.{meant}
use Rattle.sql_base.specs.Rows.{padded, in_i64}
use Rattle.sql_base.specs.Tables.{IsTable}
use Rattle.sql_base.specs.declared.tables.TableDef.{TableDef}
use Rattle.sql_base.specs.declared.expressions.Expr.{Expr, fold-Expr}
use Rattle.sql_base.specs.declared.expressions.Expr.TheOpen as expr
use Rattle.sql_base.specs.declared.expressions.Expr.TheOpen.{Expr-F}
use Rattle.sql_base.specs.declared.tables.Column.{Column}
use Rattle.statement_words.specs.declared.tokens.Token.{Token}
use Rattle.statement_words.specs.declared.tokens.Word.{Word}
use Rattle.statement_grammar.specs.Grammar.{behind}
use Rattle.statement_grammar.specs.declared.symbols.Part.TheVariants as parts
use Rattle.statement_grammar.specs.declared.symbols.Symbol.{Symbol}
use Rattle.statement_grammar.specs.declared.symbols.Symbol.TheVariants as symbols
use Rattle.statement_draft.specs.Names.{is_long, column_named}
use Rattle.statement_draft.specs.Expressions.{binary, negation, number_operand, negative_operand, text_operand, name_operand, columns_in, expression_begins, no_expression, with_operand}
use Rattle.statement_draft.specs.Judging.{ended, read_from}
use Rattle.statement_draft.specs.declared.kinds.Kind.TheVariants as kind
use Rattle.statement_grammar.specs.declared.symbols.End.TheVariants as ends
use Rattle.statement_draft.specs.declared.kinds.Op.TheVariants as op
use Rattle.statement_draft.specs.declared.kinds.Operand.{Operand}
use Rattle.statement_draft.specs.declared.draft.Draft.{Draft}
use Rattle.statement_printer.specs.Printing.{expr_words, filter_words, key, length_unblanked, sign}
use Rattle.statement_draft.specs.StatementEvents.{where_came}
use Rattle.statement_words.specs.declared.keywords.Keyword.TheVariants as keys
use Rattle.statement_words.specs.declared.tokens.Sign.TheVariants as signs

abbrev pub int_operand : ℤ → Operand
int_operand (pos n) = number_operand n
int_operand (negsuc n) = negative_operand (suc n)

-- what is known of an expression when it has been read
abbrev pub summary_step : List Column → Expr-F Operand → Operand
summary_step columns (expr.Number n) = int_operand n
summary_step columns (expr.Text text) = text_operand text
summary_step columns (expr.Column c) = name_operand columns (Some c)
summary_step columns (expr.Arith o a b) = binary (op.Arith o) a b
summary_step columns (expr.Compare o a b) = binary (op.Compare o) a b
summary_step columns (expr.And a b) = binary op.And a b
summary_step columns (expr.Or a b) = binary op.Or a b
summary_step columns (expr.Not a) = negation a

abbrev pub summary : List Column → Expr → Operand
summary columns e = fold-Expr Operand (summary_step columns) e

-- its numbers have 64 bits, and its columns are there
abbrev pub leaves_step : List Column → Expr-F Bool → Bool
leaves_step columns (expr.Number n) = in_i64 n
leaves_step columns (expr.Text text) = true
leaves_step columns (expr.Column c) = is_some (slice_get columns c)
leaves_step columns (expr.Arith o a b) = a && b
leaves_step columns (expr.Compare o a b) = a && b
leaves_step columns (expr.And a b) = a && b
leaves_step columns (expr.Or a b) = a && b
leaves_step columns (expr.Not a) = a

abbrev pub has_leaves : List Column → Expr → Bool
has_leaves columns e = fold-Expr Bool (leaves_step columns) e

-- each column is found by its name
abbrev pub AreNamed : List Column → Type 0
AreNamed columns =
    (c : ℕ) (column : Column) → slice_get columns c ≡ Some column → (column_named columns column.name ≡ Some c) × (is_long column.name ≡ false)

-- no expression goes on with this word
pub record EndsExpression (w : Word) : Type 0 where
  pub product : behind parts.ProductRest w ≡ None
  pub sum : behind parts.SumRest w ≡ None
  pub compare : behind parts.CompareRest w ≡ None
  pub both : behind parts.AndRest w ≡ None
  pub either : behind parts.OrRest w ≡ None

abbrev pub words_in : List Token → List Word
words_in tokens = map (λ t. t.word) tokens

abbrev pub whole_stack : List Symbol → List Symbol
whole_stack s = symbols.Part parts.Condition ∷ symbols.Part parts.AndRest ∷ symbols.Part parts.OrRest ∷ s

-- tokens of these words leave the operand, where the word behind them ends the expression
abbrev pub ReadAs : List Column → List Word → ℕ → Operand → Type 0
ReadAs columns words depth x =
    (s : List Symbol) (d : Draft) (tokens : List Token) (t : Token) (ts : List Token) (at : ℕ) → columns_in d.scope d ≡ Some columns
    → EndsExpression t.word → d.expression.inside + depth ≤ 64 → words_in tokens ≡ words
    → read_from (whole_stack s) d (tokens ++ t ∷ ts) at ≡ read_from s (with_operand x d) (t ∷ ts) at

-- a well-typed expression that is printed is read back, at any places
abbrev pub ExpressionsReadBack : Type 0
ExpressionsReadBack =
    (columns : List Column) → AreNamed columns → (e : Expr) → has_leaves columns e ≡ true → is_some (summary columns e).kind ≡ true
    → ReadAs columns (expr_words columns e) (depth_of e) (summary columns e)

-- and its tree is the expression that was printed
abbrev pub SummariesTell : Type 0
SummariesTell = (columns : List Column) (e : Expr) → has_leaves columns e ≡ true → depth_of e ≤ 32 → (summary columns e).tree ≡ Some e

-- a predicate or value that is printed is read back where a whole expression begins
abbrev pub WholesReadBack : Type 0
WholesReadBack =
    (columns : List Column) → AreNamed columns → (e : Expr) → has_leaves columns e ≡ true → is_some (summary columns e).kind ≡ true → depth_of e ≤ 64
    → (s : List Symbol) (d : Draft) (tokens : List Token) (t : Token) (ts : List Token) (at : ℕ) → columns_in d.scope d ≡ Some columns
    → EndsExpression t.word → words_in tokens ≡ expr_words columns e
    → (place : ℕ) × (read_from (symbols.Part parts.Expression ∷ symbols.Part parts.AndRest ∷ symbols.Part parts.OrRest ∷ s) d (tokens ++ t ∷ ts) at
    ≡ read_from s (with_operand (summary columns e) (expression_begins place d)) (t ∷ ts) at)

-- a text that is printed without its last blanks is padded to itself
abbrev pub PaddedBack : Type 0
PaddedBack = (text : List ℕ) → padded (length text) (take (length_unblanked text) text) ≡ text

-- a table that may be declared has its columns found by their names
abbrev pub ColumnsNamed : Type 0
ColumnsNamed = (table : TableDef) → IsTable table → AreNamed table.columns

-- an expression of a kind is of that kind for the reader
abbrev pub TypedForReader : Type 0
TypedForReader = (table : TableDef) (e : Expr) (k : base.Kind) → kind_of table e ≡ Some k → option_map meant (summary table.columns e).kind ≡ Some k

-- a WHERE ends with its tree as the filter, and with no new fault
abbrev pub filtered : Option Expr → Draft → Draft
filtered tree d = record d { statement = record d.statement { filter = tree }; expression = no_expression 0 }

abbrev pub FiltersEnd : Type 0
FiltersEnd =
    (x : Operand) (place : ℕ) (d : Draft) → x.kind ≡ Some kind.Truth → nat_lt 32 x.depth || nat_lt 8192 x.code ≡ false
    → ended ends.Filter (with_operand x (expression_begins place d)) ≡ filtered x.tree d

-- a well-typed expression of a table that may be declared
abbrev pub TypedReadBack : Type 0
TypedReadBack =
    (table : TableDef) → IsTable table → (k : base.Kind) (e : Expr) → IsExpr table k e
    → (s : List Symbol) (d : Draft) (tokens : List Token) (t : Token) (ts : List Token) (at : ℕ) → columns_in d.scope d ≡ Some table.columns
    → EndsExpression t.word → words_in tokens ≡ expr_words table.columns e
    → (x : Operand) × (place : ℕ) × (x.tree ≡ Some e) × (option_map meant x.kind ≡ Some k) × (nat_lt 32 x.depth || nat_lt 8192 x.code ≡ false)
    × (read_from (symbols.Part parts.Expression ∷ symbols.Part parts.AndRest ∷ symbols.Part parts.OrRest ∷ s) d (tokens ++ t ∷ ts) at
    ≡ read_from s (with_operand x (expression_begins place d)) (t ∷ ts) at)

-- the words behind a printed expression
pub record ExpressionsEnd : Type 0 where
  pub close : EndsExpression (sign signs.Close)
  pub comma : EndsExpression (sign signs.Comma)
  pub access : EndsExpression (key keys.For)
  pub filter : EndsExpression (key keys.Where)

-- a WHERE that is printed is read back as its filter, with no new fault
abbrev pub FilterReadBack : Type 0
FilterReadBack =
    (table : TableDef) → IsTable table → (e : Expr) → IsExpr table OfTruth e
    → (s : List Symbol) (d : Draft) (tokens : List Token) (t : Token) (ts : List Token) (at : ℕ) → columns_in d.scope d ≡ Some table.columns
    → EndsExpression t.word → words_in tokens ≡ filter_words table.columns (Some e)
    → (place : ℕ) × (read_from (symbols.Part parts.Where ∷ s) d (tokens ++ t ∷ ts) at ≡ read_from s (filtered (Some e) (where_came place d)) (t ∷ ts) at)
