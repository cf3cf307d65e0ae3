-- The grammar of a script: what follows the word that begins a part.
use Rattle.std.specs.Prelude.{List, [], ◌∷◌, Bool, true, false, ◌||◌, Option, Some, None, if◌then◌else◌}
use Rattle.statement_words.specs.declared.keywords.Keyword.{Keyword}
use Rattle.statement_words.specs.declared.keywords.Keyword.TheVariants.{Quantum, Buffer, Patience, Servers, Restart, Table, Int, Char, Primary, Key, Check, First, Load, Session, Select, From, Where, Update, Set, Delete, Insert, Into, Values, Lock, In, Share, Exclusive, Mode, For, Browse, Stable, Repeatable, Access, Commit, Rollback, Work, And, Or, Not}
use Rattle.statement_words.specs.declared.tokens.Sign.{Sign}
use Rattle.statement_words.specs.declared.tokens.Sign.TheVariants.{Open, Close, Comma, Semicolon, Plus, Minus, Times, Over, Equal, Unequal, Less, AtMost, Greater, AtLeast}
use Rattle.statement_words.specs.declared.tokens.Word.{Word}
use Rattle.statement_grammar.specs.WordsAt.{is_key, is_sign, is_name, is_literal}
use Rattle.statement_grammar.specs.declared.symbols.Fixed.TheVariants as fixed
use Rattle.statement_grammar.specs.declared.symbols.Limit.{Limit}
use Rattle.statement_grammar.specs.declared.symbols.Limit.TheVariants as limits
use Rattle.statement_grammar.specs.declared.symbols.NameRole.{NameRole}
use Rattle.statement_grammar.specs.declared.symbols.NameRole.TheVariants as names
use Rattle.statement_grammar.specs.declared.symbols.NumberRole.{NumberRole}
use Rattle.statement_grammar.specs.declared.symbols.NumberRole.TheVariants as numbers
use Rattle.statement_grammar.specs.declared.symbols.Part.{Part}
use Rattle.statement_grammar.specs.declared.symbols.Part.TheVariants as parts
use Rattle.statement_grammar.specs.declared.symbols.End.{End}
use Rattle.statement_grammar.specs.declared.symbols.End.TheVariants as ends
use Rattle.statement_grammar.specs.declared.symbols.Symbol.{Symbol}
use Rattle.statement_grammar.specs.declared.symbols.Symbol.TheVariants as symbols

abbrev pub key : Keyword → Symbol
key k = symbols.Fixed (fixed.Keyword k)

abbrev pub sign : Sign → Symbol
sign s = symbols.Fixed (fixed.Sign s)

abbrev pub name : NameRole → Symbol
name role = symbols.Name role

abbrev pub number : NumberRole → Symbol
number role = symbols.Number role

abbrev pub part : Part → Symbol
part p = symbols.Part p

abbrev pub ended : End → Symbol
ended e = symbols.Ended e

abbrev pub limit_key : Limit → Keyword
limit_key limits.Quantum = Quantum
limit_key limits.Buffer = Buffer
limit_key limits.Patience = Patience
limit_key limits.Servers = Servers
limit_key limits.Restart = Restart

-- QUANTUM 50 ;
abbrev pub limit_behind : Limit → Word → Option (List Symbol)
limit_behind l w = if is_key w (limit_key l) then Some (number (numbers.Limit l) ∷ sign Semicolon ∷ []) else None

-- TABLE t ( k INT , .. ) FIRST KEY .. ;
abbrev pub table_behind : Word → Option (List Symbol)
table_behind w =
    if is_key w Table
    then Some (
    name names.NewTable ∷ sign Open ∷ name names.FirstColumn ∷ part parts.ColumnKind ∷ sign Comma ∷ part parts.ColumnOrKey ∷ sign Close
    ∷ part parts.FirstKeys ∷ sign Semicolon ∷ ended ends.Table ∷ part parts.MoreTables ∷ [])
    else None

-- INT, or CHAR ( 10 )
abbrev pub kind_behind : Word → Option (List Symbol)
kind_behind w =
    if is_key w Int then Some []
    else (if is_key w Char then Some (sign Open ∷ number numbers.Width ∷ sign Close ∷ [])
    else None)

-- another column, or PRIMARY KEY ( k , .. ) , CHECK ( .. ) ..
abbrev pub column_or_key_behind : Word → Option (List Symbol)
column_or_key_behind w =
    if is_name w then Some (part parts.ColumnKind ∷ sign Comma ∷ part parts.ColumnOrKey ∷ [])
    else (if is_key w Primary
    then Some (key Key ∷ sign Open ∷ name names.KeyColumn ∷ part parts.MoreKeyColumns ∷ sign Close ∷ part parts.MoreChecks ∷ [])
    else None)

abbrev pub more_keys_behind : Word → Option (List Symbol)
more_keys_behind w = if is_sign w Comma then Some (name names.KeyColumn ∷ part parts.MoreKeyColumns ∷ []) else None

abbrev pub more_checks_behind : Word → Option (List Symbol)
more_checks_behind w = if is_sign w Comma then Some (part parts.Check ∷ part parts.MoreChecks ∷ []) else None

-- CHECK ( .. )
abbrev pub check_behind : Word → Option (List Symbol)
check_behind w =
    if is_key w Check
    then Some (sign Open ∷ part parts.Expression ∷ part parts.AndRest ∷ part parts.OrRest ∷ ended ends.Check ∷ sign Close ∷ [])
    else None

abbrev pub first_keys_behind : Word → Option (List Symbol)
first_keys_behind w =
    if is_key w First then Some (key Key ∷ part parts.Row ∷ ended ends.FirstKey ∷ part parts.MoreFirstKeys ∷ []) else None

abbrev pub more_firsts_behind : Word → Option (List Symbol)
more_firsts_behind w =
    if is_sign w Comma then Some (part parts.Row ∷ ended ends.FirstKey ∷ part parts.MoreFirstKeys ∷ []) else None

-- ( 1 , 'a' , .. )
abbrev pub row_behind : Word → Option (List Symbol)
row_behind w =
    if is_sign w Open then Some (part parts.Literal ∷ part parts.MoreLiterals ∷ sign Close ∷ []) else None

abbrev pub literal_behind : Word → Option (List Symbol)
literal_behind w =
    if is_literal w then Some []
    else (if is_sign w Minus then Some (number numbers.Negative ∷ [])
    else None)

abbrev pub more_literals_behind : Word → Option (List Symbol)
more_literals_behind w = if is_sign w Comma then Some (part parts.Literal ∷ part parts.MoreLiterals ∷ []) else None

-- LOAD t ( .. ) , .. ;
abbrev pub loads_behind : Word → Option (List Symbol)
loads_behind w =
    if is_key w Load
    then Some (
    name names.LoadTable ∷ part parts.Row ∷ ended ends.LoadRow ∷ part parts.MoreLoadRows ∷ sign Semicolon ∷ ended ends.Load
    ∷ part parts.Loads ∷ [])
    else None

abbrev pub more_rows_behind : Word → Option (List Symbol)
more_rows_behind w =
    if is_sign w Comma then Some (part parts.Row ∷ ended ends.LoadRow ∷ part parts.MoreLoadRows ∷ []) else None

-- SESSION ; and its works
abbrev pub session_behind : Word → Option (List Symbol)
session_behind w =
    if is_key w Session then Some (sign Semicolon ∷ part parts.Work ∷ ended ends.Session ∷ part parts.MoreSessions ∷ []) else None

-- a statement, or COMMIT WORK ;
abbrev pub work_behind : Word → Option (List Symbol)
work_behind w =
    if is_key w Select
    then Some (
    part parts.Selected ∷ key From ∷ name names.SelectTable ∷ part parts.Where ∷ key For ∷ part parts.ReadAccess ∷ key Access
    ∷ sign Semicolon ∷ ended ends.Statement ∷ part parts.MoreStatements ∷ [])
    else (if is_key w Update
    then Some (
    name names.OtherTable ∷ part parts.Sets ∷ ended ends.Sets ∷ part parts.Where ∷ key For ∷ part parts.ChangeAccess ∷ key Access
    ∷ sign Semicolon ∷ ended ends.Statement ∷ part parts.MoreStatements ∷ [])
    else (if is_key w Delete
    then Some (
    key From ∷ name names.OtherTable ∷ part parts.Where ∷ key For ∷ part parts.ChangeAccess ∷ key Access
    ∷ sign Semicolon ∷ ended ends.Statement ∷ part parts.MoreStatements ∷ [])
    else (if is_key w Insert
    then Some (
    key Into ∷ name names.InsertTable ∷ key Values ∷ part parts.Row ∷ ended ends.InsertRow
    ∷ sign Semicolon ∷ ended ends.Statement ∷ part parts.MoreStatements ∷ [])
    else (if is_key w Lock
    then Some (
    key Table ∷ name names.OtherTable ∷ key In ∷ part parts.LockMode ∷ key Mode
    ∷ sign Semicolon ∷ ended ends.Statement ∷ part parts.MoreStatements ∷ [])
    else (if is_key w Commit || is_key w Rollback
    then Some (key Work ∷ sign Semicolon ∷ ended ends.Work ∷ part parts.MoreWorks ∷ [])
    else None)))))

-- * , or the first of some names
abbrev pub selected_behind : Word → Option (List Symbol)
selected_behind w =
    if is_sign w Times then Some []
    else (if is_name w then Some (part parts.MoreSelected ∷ [])
    else None)

abbrev pub more_selected_behind : Word → Option (List Symbol)
more_selected_behind w =
    if is_sign w Comma then Some (name names.SelectColumn ∷ part parts.MoreSelected ∷ []) else None

abbrev pub where_behind : Word → Option (List Symbol)
where_behind w =
    if is_key w Where
    then Some (part parts.Expression ∷ part parts.AndRest ∷ part parts.OrRest ∷ ended ends.Filter ∷ [])
    else None

-- SET k = .. , ..
abbrev pub sets_behind : Word → Option (List Symbol)
sets_behind w =
    if is_key w Set
    then Some (
    name names.SetColumn ∷ sign Equal ∷ part parts.Expression ∷ part parts.AndRest ∷ part parts.OrRest ∷ ended ends.Assign
    ∷ part parts.MoreSets ∷ [])
    else None

abbrev pub more_sets_behind : Word → Option (List Symbol)
more_sets_behind w =
    if is_sign w Comma
    then Some (
    name names.SetColumn ∷ sign Equal ∷ part parts.Expression ∷ part parts.AndRest ∷ part parts.OrRest ∷ ended ends.Assign
    ∷ part parts.MoreSets ∷ [])
    else None

abbrev pub change_behind : Word → Option (List Symbol)
change_behind w = if is_key w Stable || is_key w Repeatable then Some [] else None

-- BROWSE is for SELECT alone
abbrev pub read_behind : Word → Option (List Symbol)
read_behind w = if is_key w Browse then Some [] else change_behind w

abbrev pub mode_behind : Word → Option (List Symbol)
mode_behind w = if is_key w Share || is_key w Exclusive then Some [] else None

-- a literal, a name, or an expression in parentheses
abbrev pub operand_behind : Word → Option (List Symbol)
operand_behind w =
    if is_literal w || is_name w then Some []
    else (if is_sign w Minus then Some (number numbers.NegativeOperand ∷ [])
    else (if is_sign w Open
    then Some (part parts.Condition ∷ part parts.AndRest ∷ part parts.OrRest ∷ sign Close ∷ ended ends.Inside ∷ [])
    else None))

-- a comparison begins with an operand, behind which products and sums may go on
abbrev pub comparison_rest : List Symbol
comparison_rest = part parts.ProductRest ∷ part parts.SumRest ∷ part parts.CompareRest ∷ []

-- NOT and what it turns, or a comparison
abbrev pub condition_behind : Word → Option (List Symbol)
condition_behind w =
    if is_key w Not then Some (part parts.Condition ∷ ended ends.Operator ∷ [])
    else (if is_literal w || is_name w then Some comparison_rest
    else (if is_sign w Minus then Some (number numbers.NegativeOperand ∷ comparison_rest)
    else (if is_sign w Open
    then Some (part parts.Condition ∷ part parts.AndRest ∷ part parts.OrRest ∷ sign Close ∷ ended ends.Inside ∷ comparison_rest)
    else None)))

-- operators of one level group to the left
abbrev pub or_behind : Word → Option (List Symbol)
or_behind w =
    if is_key w Or then Some (part parts.Condition ∷ part parts.AndRest ∷ ended ends.Operator ∷ part parts.OrRest ∷ []) else None

abbrev pub and_behind : Word → Option (List Symbol)
and_behind w = if is_key w And then Some (part parts.Condition ∷ ended ends.Operator ∷ part parts.AndRest ∷ []) else None

abbrev pub is_comparison : Word → Bool
is_comparison w =
    is_sign w Equal || is_sign w Unequal || is_sign w Less || is_sign w AtMost || is_sign w Greater || is_sign w AtLeast

-- a comparison isn't compared again
abbrev pub compare_behind : Word → Option (List Symbol)
compare_behind w =
    if is_comparison w
    then Some (part parts.Operand ∷ part parts.ProductRest ∷ part parts.SumRest ∷ ended ends.Operator ∷ [])
    else None

abbrev pub sum_behind : Word → Option (List Symbol)
sum_behind w =
    if is_sign w Plus || is_sign w Minus
    then Some (part parts.Operand ∷ part parts.ProductRest ∷ ended ends.Operator ∷ part parts.SumRest ∷ [])
    else None

abbrev pub product_behind : Word → Option (List Symbol)
product_behind w =
    if is_sign w Times || is_sign w Over
    then Some (part parts.Operand ∷ ended ends.Operator ∷ part parts.ProductRest ∷ [])
    else None

-- what must follow the word, where it begins the part
unfoldable pub behind : Part → Word → Option (List Symbol)
behind (parts.Limit l) w = limit_behind l w
behind parts.Table w = table_behind w
behind parts.MoreTables w = table_behind w
behind parts.ColumnKind w = kind_behind w
behind parts.ColumnOrKey w = column_or_key_behind w
behind parts.MoreKeyColumns w = more_keys_behind w
behind parts.MoreChecks w = more_checks_behind w
behind parts.Check w = check_behind w
behind parts.FirstKeys w = first_keys_behind w
behind parts.MoreFirstKeys w = more_firsts_behind w
behind parts.Row w = row_behind w
behind parts.Literal w = literal_behind w
behind parts.MoreLiterals w = more_literals_behind w
behind parts.Loads w = loads_behind w
behind parts.MoreLoadRows w = more_rows_behind w
behind parts.Session w = session_behind w
behind parts.MoreSessions w = session_behind w
behind parts.Work w = work_behind w
behind parts.MoreStatements w = work_behind w
behind parts.MoreWorks w = work_behind w
behind parts.Selected w = selected_behind w
behind parts.MoreSelected w = more_selected_behind w
behind parts.Where w = where_behind w
behind parts.Sets w = sets_behind w
behind parts.MoreSets w = more_sets_behind w
behind parts.ReadAccess w = read_behind w
behind parts.ChangeAccess w = change_behind w
behind parts.LockMode w = mode_behind w
behind parts.Expression w = condition_behind w
behind parts.Condition w = condition_behind w
behind parts.Operand w = operand_behind w
behind parts.ProductRest w = product_behind w
behind parts.SumRest w = sum_behind w
behind parts.CompareRest w = compare_behind w
behind parts.AndRest w = and_behind w
behind parts.OrRest w = or_behind w

-- whether a part may have no words
abbrev pub may_be_empty : Part → Bool
may_be_empty (parts.Limit l) = true
may_be_empty parts.MoreTables = true
may_be_empty parts.MoreKeyColumns = true
may_be_empty parts.MoreChecks = true
may_be_empty parts.FirstKeys = true
may_be_empty parts.MoreFirstKeys = true
may_be_empty parts.MoreLiterals = true
may_be_empty parts.Loads = true
may_be_empty parts.MoreLoadRows = true
may_be_empty parts.MoreSessions = true
may_be_empty parts.MoreWorks = true
may_be_empty parts.MoreSelected = true
may_be_empty parts.Where = true
may_be_empty parts.MoreSets = true
may_be_empty parts.ProductRest = true
may_be_empty parts.SumRest = true
may_be_empty parts.CompareRest = true
may_be_empty parts.AndRest = true
may_be_empty parts.OrRest = true
may_be_empty p = false

-- a whole script
abbrev pub script : List Symbol
script =
    part (parts.Limit limits.Quantum) ∷ part (parts.Limit limits.Buffer) ∷ part (parts.Limit limits.Patience) ∷ part (parts.Limit limits.Servers)
    ∷ part (parts.Limit limits.Restart) ∷ part parts.Table ∷ part parts.Loads ∷ part parts.Session ∷ []
