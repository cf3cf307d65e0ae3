-- The words of a script as it is printed.
use Rattle.std.specs.Prelude.{ℕ, ℤ, pos, int_lt, unsigned_abs, ◌+◌, ◌==◌, List, [], ◌∷◌, ◌++◌, take, flat_map, slice_get, Bool, true, false, ◌&&◌, Option, Some, None, if◌then◌else◌}
use Rattle.sql_base.specs.declared.expressions.ArithOp.{ArithOp}
use Rattle.sql_base.specs.declared.expressions.ArithOp.TheVariants.{Add, Sub, Mul, Div}
use Rattle.sql_base.specs.declared.expressions.CompareOp.{CompareOp}
use Rattle.sql_base.specs.declared.expressions.CompareOp.TheVariants.{Eq, Ne, Lt, Le, Gt, Ge}
use Rattle.sql_base.specs.declared.expressions.Expr.{Expr, fold-Expr}
use Rattle.sql_base.specs.declared.expressions.Expr.TheOpen as expr
use Rattle.sql_base.specs.declared.expressions.Expr.TheOpen.{Expr-F}
use Rattle.sql_base.specs.declared.lock_names.Access.{Access}
use Rattle.sql_base.specs.declared.lock_names.Access.TheVariants as access
use Rattle.sql_base.specs.declared.lock_names.Mode.{Mode}
use Rattle.sql_base.specs.declared.lock_names.Mode.TheVariants.{S, X}
use Rattle.sql_base.specs.declared.scripts.Limits.{Limits}
use Rattle.sql_base.specs.declared.scripts.Load.{Load}
use Rattle.sql_base.specs.declared.scripts.Script.{Script}
use Rattle.sql_base.specs.declared.scripts.Work.{Work}
use Rattle.sql_base.specs.declared.statements.Assign.{Assign}
use Rattle.sql_base.specs.declared.statements.Statement.{Statement}
use Rattle.sql_base.specs.declared.statements.Statement.TheVariants as statement
use Rattle.sql_base.specs.declared.tables.Column.{Column}
use Rattle.sql_base.specs.declared.tables.ColumnKind.{ColumnKind}
use Rattle.sql_base.specs.declared.tables.ColumnKind.TheVariants as kinds
use Rattle.sql_base.specs.declared.tables.TableDef.{TableDef}
use Rattle.sql_base.specs.Tables.{table_of}
use Rattle.sql_base.specs.declared.values.Value.{Value}
use Rattle.sql_base.specs.declared.values.Value.TheVariants as value
use Rattle.statement_words.specs.declared.keywords.Keyword.{Keyword}
use Rattle.statement_words.specs.declared.keywords.Keyword.TheVariants as keys
use Rattle.statement_words.specs.declared.tokens.Sign.{Sign}
use Rattle.statement_words.specs.declared.tokens.Sign.TheVariants as signs
use Rattle.statement_words.specs.declared.tokens.Word.{Word}
use Rattle.statement_words.specs.declared.tokens.Word.TheVariants as word
use Rattle.statement_printer.specs.Bytes.{bytes_of}

abbrev pub key : Keyword → Word
key k = word.Keyword k

abbrev pub sign : Sign → Word
sign s = word.Sign s

abbrev pub name : List ℕ → Word
name bytes = word.Name bytes

-- one or more, with commas between
abbrev pub with_commas : {A : Type 0} → (A → List Word) → List A → List Word
with_commas words [] = []
with_commas words (x ∷ xs) = words x ++ flat_map (λ y. sign signs.Comma ∷ words y) xs

-- ( .. )
abbrev pub in_parentheses : List Word → List Word
in_parentheses words = sign signs.Open ∷ (words ++ sign signs.Close ∷ [])

-- ---- names and values

-- the name of a column; a place without one has no bytes
abbrev pub name_word : Option Column → Word
name_word (Some column) = name column.name
name_word None = name []

abbrev pub column_words : List Column → ℕ → List Word
column_words columns place = name_word (slice_get columns place) ∷ []

abbrev pub table_name : Option TableDef → Word
table_name (Some table) = name table.name
table_name None = name []

abbrev pub columns_of : Option TableDef → List Column
columns_of (Some table) = table.columns
columns_of None = []

-- a negative number is `-` and the number
abbrev pub int_words : ℤ → List Word
int_words n = if int_lt n (pos 0) then sign signs.Minus ∷ word.Number (unsigned_abs n) ∷ [] else word.Number (unsigned_abs n) ∷ []

-- a literal of a first key
abbrev pub literal_words : Value → List Word
literal_words (value.Int n) = int_words n
literal_words (value.Text text) = word.Text text ∷ []

-- how many bytes stand up to the last one that is no blank
abbrev pub length_unblanked : List ℕ → ℕ
length_unblanked [] = 0
length_unblanked (b ∷ bs) = if b == 32 && length_unblanked bs == 0 then 0 else length_unblanked bs + 1

-- a value of a record; a text stands without its last blanks
abbrev pub value_words : Value → List Word
value_words (value.Int n) = int_words n
value_words (value.Text text) = word.Text (take (length_unblanked text) text) ∷ []

unfoldable pub first_words : List Value → List Word
first_words row = in_parentheses (with_commas literal_words row)

unfoldable pub row_words : List Value → List Word
row_words row = in_parentheses (with_commas value_words row)

-- ---- expressions

-- its words, and whether it is an operator
pub record Printed : Type 0 where
  pub words : List Word
  pub is_operator : Bool

abbrev pub leaf : List Word → Printed
leaf words = record { words = words; is_operator = false }

-- an operand that is itself an operator stands in parentheses
abbrev pub operand_words : Printed → List Word
operand_words p = if p.is_operator then in_parentheses p.words else p.words

abbrev pub between : Word → Printed → Printed → Printed
between op a b = record { words = operand_words a ++ op ∷ operand_words b; is_operator = true }

abbrev pub arith_sign : ArithOp → Sign
arith_sign Add = signs.Plus
arith_sign Sub = signs.Minus
arith_sign Mul = signs.Times
arith_sign Div = signs.Over

abbrev pub compare_sign : CompareOp → Sign
compare_sign Eq = signs.Equal
compare_sign Ne = signs.Unequal
compare_sign Lt = signs.Less
compare_sign Le = signs.AtMost
compare_sign Gt = signs.Greater
compare_sign Ge = signs.AtLeast

abbrev pub print_step : List Column → Expr-F Printed → Printed
print_step columns (expr.Number n) = leaf (int_words n)
print_step columns (expr.Text text) = leaf (word.Text text ∷ [])
print_step columns (expr.Column c) = leaf (column_words columns c)
print_step columns (expr.Arith op a b) = between (sign (arith_sign op)) a b
print_step columns (expr.Compare op a b) = between (sign (compare_sign op)) a b
print_step columns (expr.And a b) = between (key keys.And) a b
print_step columns (expr.Or a b) = between (key keys.Or) a b
print_step columns (expr.Not a) = record { words = key keys.Not ∷ operand_words a; is_operator = true }

abbrev pub printed_expr : List Column → Expr → Printed
printed_expr columns e = fold-Expr Printed (print_step columns) e

abbrev pub expr_words : List Column → Expr → List Word
expr_words columns e = (printed_expr columns e).words

-- ---- limits, tables and loads

unfoldable pub limit_words : Keyword → ℕ → List Word
limit_words k n = key k ∷ word.Number n ∷ sign signs.Semicolon ∷ []

-- RESTART stands only where it isn't 0
abbrev pub restart_words : ℕ → List Word
restart_words n = if n == 0 then [] else limit_words keys.Restart n

abbrev pub limits_words : Limits → List Word
limits_words limits =
    limit_words keys.Quantum limits.quantum ++ (limit_words keys.Buffer limits.buffer ++ (limit_words keys.Patience limits.patience
    ++ (limit_words keys.Servers limits.servers ++ restart_words limits.restart)))

abbrev pub kind_words : ColumnKind → List Word
kind_words kinds.Int = key keys.Int ∷ []
kind_words (kinds.Char n) = key keys.Char ∷ in_parentheses (word.Number n ∷ [])

-- a column with the comma behind it
abbrev pub declared_words : Column → List Word
declared_words column = name column.name ∷ (kind_words column.kind ++ sign signs.Comma ∷ [])

-- ( k , .. )
unfoldable pub place_words : List Column → List ℕ → List Word
place_words columns places = in_parentheses (with_commas (column_words columns) places)

unfoldable pub key_words : List Column → List ℕ → List Word
key_words columns places = key keys.Primary ∷ key keys.Key ∷ place_words columns places

-- a CHECK with the comma before it
abbrev pub check_words : List Column → Expr → List Word
check_words columns e = sign signs.Comma ∷ key keys.Check ∷ in_parentheses (expr_words columns e)

-- FIRST KEY stands only where there are first keys
abbrev pub firsts_words : List (List Value) → List Word
firsts_words [] = []
firsts_words (first ∷ firsts) = key keys.First ∷ key keys.Key ∷ with_commas first_words (first ∷ firsts)

abbrev pub declaration : TableDef → List Word
declaration table = flat_map declared_words table.columns ++ (key_words table.columns table.key ++ flat_map (check_words table.columns) table.checks)

abbrev pub table_words : TableDef → List Word
table_words table = key keys.Table ∷ name table.name ∷ (in_parentheses (declaration table) ++ (firsts_words table.firsts ++ sign signs.Semicolon ∷ []))

abbrev pub load_words : List TableDef → Load → List Word
load_words tables load = key keys.Load ∷ table_name (slice_get tables load.table) ∷ (with_commas row_words load.rows ++ sign signs.Semicolon ∷ [])

-- ---- statements

abbrev pub filter_words : List Column → Option Expr → List Word
filter_words columns None = []
filter_words columns (Some e) = key keys.Where ∷ expr_words columns e

abbrev pub access_key : Access → Keyword
access_key access.Browse = keys.Browse
access_key access.Stable = keys.Stable
access_key access.Repeatable = keys.Repeatable

abbrev pub mode_key : Mode → Keyword
mode_key S = keys.Share
mode_key X = keys.Exclusive

-- WHERE .. FOR STABLE ACCESS ;
abbrev pub access_words : List Column → Option Expr → Access → List Word
access_words columns filter access = filter_words columns filter ++ key keys.For ∷ key (access_key access) ∷ key keys.Access ∷ sign signs.Semicolon ∷ []

abbrev pub set_words : List Column → Assign → List Word
set_words columns set = name_word (slice_get columns set.column) ∷ sign signs.Equal ∷ expr_words columns set.value

-- INSERT INTO t VALUES
unfoldable pub into_words : Option TableDef → List Word
into_words table = key keys.Insert ∷ key keys.Into ∷ table_name table ∷ key keys.Values ∷ []

unfoldable pub insert_words : Option TableDef → List Value → List Word
insert_words table row = into_words table ++ (row_words row ++ sign signs.Semicolon ∷ [])

-- a statement on this table
abbrev pub words_on : Option TableDef → Statement → List Word
words_on table (statement.Select t columns filter access) =
    key keys.Select ∷ (with_commas (column_words (columns_of table)) columns
    ++ key keys.From ∷ table_name table ∷ access_words (columns_of table) filter access)
words_on table (statement.Update t sets filter access) =
    key keys.Update ∷ table_name table ∷ key keys.Set ∷ (with_commas (set_words (columns_of table)) sets ++ access_words (columns_of table) filter access)
words_on table (statement.Delete t filter access) = key keys.Delete ∷ key keys.From ∷ table_name table ∷ access_words (columns_of table) filter access
words_on table (statement.Insert t row) = insert_words table row
words_on table (statement.LockTable t mode) =
    key keys.Lock ∷ key keys.Table ∷ table_name table ∷ key keys.In ∷ key (mode_key mode) ∷ key keys.Mode ∷ sign signs.Semicolon ∷ []

abbrev pub statement_words : List TableDef → Statement → List Word
statement_words tables statement = words_on (slice_get tables (table_of statement)) statement

abbrev pub end_key : Bool → Keyword
end_key true = keys.Commit
end_key false = keys.Rollback

abbrev pub work_words : List TableDef → Work → List Word
work_words tables work = flat_map (statement_words tables) work.statements ++ key (end_key work.commit) ∷ key keys.Work ∷ sign signs.Semicolon ∷ []

abbrev pub session_words : List TableDef → List Work → List Word
session_words tables works = key keys.Session ∷ sign signs.Semicolon ∷ flat_map (work_words tables) works

-- ---- the whole

abbrev pub script_words : Script → List Word
script_words script =
    limits_words script.limits ++ (flat_map table_words script.tables
    ++ (flat_map (load_words script.tables) script.loads ++ flat_map (session_words script.tables) script.sessions))

abbrev pub printed : Script → List ℕ
printed script = bytes_of (script_words script)

abbrev pub printed_statement : List TableDef → Statement → List ℕ
printed_statement tables statement = bytes_of (statement_words tables statement)
