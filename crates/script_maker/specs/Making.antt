-- The script that is made from a number.
use Rattle.std.specs.Prelude.{ℕ, zero, suc, pos, ◌+◌, ◌*◌, ◌/◌, ◌%◌, ◌^◌, ◌==◌, not, codes, List, [], ◌∷◌, map, Some, if◌then◌else◌}
use Rattle.std.specs.List.{range_with_len}
use Rattle.sql_base.specs.Rows.{padded}
use Rattle.sql_base.specs.declared.expressions.ArithOp.TheVariants.{Add}
use Rattle.sql_base.specs.declared.expressions.CompareOp.{CompareOp}
use Rattle.sql_base.specs.declared.expressions.CompareOp.TheVariants.{Ge, Le}
use Rattle.sql_base.specs.declared.expressions.Expr.{Expr}
use Rattle.sql_base.specs.declared.expressions.Expr.TheVariants as expr
use Rattle.sql_base.specs.declared.lock_names.Access.TheVariants.{Stable, Repeatable}
use Rattle.sql_base.specs.declared.scripts.Limits.{Limits}
use Rattle.sql_base.specs.declared.scripts.Script.{Script}
use Rattle.sql_base.specs.declared.scripts.Work.{Work}
use Rattle.sql_base.specs.declared.statements.Assign.{Assign}
use Rattle.sql_base.specs.declared.statements.Statement.{Statement}
use Rattle.sql_base.specs.declared.statements.Statement.TheVariants.{Select, Update, Insert}
use Rattle.sql_base.specs.declared.tables.Column.{Column}
use Rattle.sql_base.specs.declared.tables.ColumnKind.{ColumnKind}
use Rattle.sql_base.specs.declared.tables.ColumnKind.TheVariants.{Int, Char}
use Rattle.sql_base.specs.declared.tables.TableDef.{TableDef}
use Rattle.sql_base.specs.declared.values.Value.{Value}
use Rattle.sql_base.specs.declared.values.Value.TheVariants as value

-- ---- draws

-- a draw first goes on to the next state
abbrev pub next_state : ℕ → ℕ
next_state state = (state * 6364136223846793005 + 1442695040888963407) % 2 ^ 64

-- the state behind so many draws
unfoldable pub after : ℕ → ℕ → ℕ
after zero state = state
after (suc count) state = next_state (after count state)

-- what a draw below n shows that went on to this state
abbrev pub shown_below : ℕ → ℕ → ℕ
shown_below n state = state / 2 ^ 33 % n

-- what the draw of this place behind a state shows, the first in place 1
abbrev pub draw : ℕ → ℕ → ℕ → ℕ
draw place n state = shown_below n (after place state)

-- so many parts, numbered from 0, each with as many draws of its own behind those of the parts before it
unfoldable pub in_line : {A : Type 0} → ℕ → (ℕ → ℕ → A) → ℕ → ℕ → List A
in_line draws part count state = map (λ i. part i (after (draws * i) state)) (range_with_len 0 count)

-- ---- the table and its records

-- a column compared with a number
abbrev pub compared_with : ℕ → CompareOp → ℕ → Expr
compared_with column op n = expr.Compare op (expr.Column column) (expr.Number (pos n))

abbrev pub column : List ℕ → ColumnKind → Column
column name kind = record { name = name; kind = kind }

-- TABLE acct (no INT, own CHAR(4), bal INT, PRIMARY KEY (no), CHECK (bal >= 0)) FIRST KEY (400), (800)
abbrev pub accounts : TableDef
accounts = record {
  name = codes "acct";
  columns = column (codes "no") Int ∷ column (codes "own") (Char 4) ∷ column (codes "bal") Int ∷ [];
  key = 0 ∷ [];
  checks = compared_with 2 Ge 0 ∷ [];
  firsts = (value.Int (pos 400) ∷ []) ∷ (value.Int (pos 800) ∷ []) ∷ [];
}

-- an account with its number, the letter of its owner and its balance
abbrev pub account : ℕ → ℕ → ℕ → List Value
account number letter balance = value.Int (pos number) ∷ value.Text (padded 4 (letter ∷ [])) ∷ value.Int (pos balance) ∷ []

-- a record of the LOAD: it draws its letter, A to Z, and then its balance
abbrev pub loaded_account : ℕ → ℕ → List Value
loaded_account number state = account number (65 + draw 1 26 state) (draw 2 1000 state)

-- ---- statements and works

-- no >= a AND no <= a + 99
abbrev pub hundred_from : ℕ → Expr
hundred_from a = expr.And (compared_with 0 Ge a) (compared_with 0 Le (a + 99))

-- bal = bal + 1
abbrev pub one_more : Assign
one_more = record { column = 2; value = expr.Arith Add (expr.Column 2) (expr.Number (pos 1)) }

-- SELECT no, bal FROM acct WHERE no >= a AND no <= a + 99 FOR REPEATABLE ACCESS
abbrev pub select_balances : ℕ → Statement
select_balances a = Select 0 (0 ∷ 2 ∷ []) (Some (hundred_from a)) Repeatable

-- UPDATE acct SET bal = bal + 1 with the same WHERE, FOR REPEATABLE ACCESS
abbrev pub raise_balances : ℕ → Statement
raise_balances a = Update 0 (one_more ∷ []) (Some (hundred_from a)) Repeatable

-- SELECT no, own FROM acct WHERE bal >= 900 FOR STABLE ACCESS
abbrev pub select_owners : Statement
select_owners = Select 0 (0 ∷ 1 ∷ []) (Some (compared_with 2 Ge 900)) Stable

-- INSERT INTO acct VALUES (key, 'N', a)
abbrev pub insert_account : ℕ → ℕ → Statement
insert_account key a = Insert 0 (account key 78 a)

-- the statement of a kind from 0 to 3
abbrev pub statement_of_kind : ℕ → ℕ → ℕ → Statement
statement_of_kind kind a key =
    if kind == 0 then select_balances a else (if kind == 1 then raise_balances a else (if kind == 2 then select_owners else insert_account key a))

-- a statement draws its kind, and then its number
abbrev pub statement : ℕ → ℕ → ℕ → ℕ → Statement
statement session work place state = statement_of_kind (draw 1 4 state) (draw 2 900 state) (1000 + 100 * session + 10 * work + place)

-- a work has two statements, and then draws its end: one in eight is ROLLBACK WORK
abbrev pub work : ℕ → ℕ → ℕ → Work
work session place state = record { statements = in_line 2 (statement session place) 2 state; commit = not (draw 5 8 state == 0) }

-- the works of a session by its place; sessions are numbered from 1
abbrev pub works : ℕ → ℕ → List Work
works place state = in_line 5 (work (place + 1)) 5 state

-- ---- the whole

abbrev pub limits : Limits
limits = record { quantum = 7; buffer = 512; patience = 8; servers = 2; restart = 0 }

-- the records are drawn first, and then the works of one session behind those of the other
abbrev pub made : ℕ → Script
made number = record {
  limits = limits;
  tables = accounts ∷ [];
  loads = record { table = 0; rows = in_line 2 loaded_account 1000 number } ∷ [];
  sessions = in_line 25 works 4 (after 2000 number);
}
