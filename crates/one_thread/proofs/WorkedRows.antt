-- Worked rows of the text of a run and of one thread, for a table of two numbers in which k holds 10 * k.
use Rattle.std.proofs.Common.{◌≡◌, ℕ, ◌*◌, pos, negsuc, List, [], ◌∷◌, ◌++◌, None, true, false, map, refl}
use Rattle.std.specs.Prelude.{codes}
use Rattle.sql_base.specs.Rows.{key_of, kinds, packed}
use Rattle.one_thread.specs.Answer.{answer_text, sessions_shown, world_behind}
use Rattle.one_thread.specs.One.{loaded}
use Rattle.one_thread.specs.Text.{run_text, shown_text, value_text}
use Rattle.sql_base.specs.declared.lock_names.Access.TheVariants.{Repeatable}
use Rattle.sql_base.specs.declared.outcomes.Abort.TheVariants.{Duplicate, LockedOut}
use Rattle.sql_base.specs.declared.outcomes.Given.TheVariants.{Rows, Count, Silent}
use Rattle.sql_base.specs.declared.outcomes.Outcome.TheVariants.{Committed, RolledBack, Aborted}
use Rattle.sql_base.specs.declared.scripts.Script.{Script}
use Rattle.sql_base.specs.declared.scripts.Work.{Work}
use Rattle.sql_base.specs.declared.statements.Statement.TheVariants.{Select, Insert, Delete}
use Rattle.sql_base.specs.declared.tables.ColumnKind.TheVariants.{Int}
use Rattle.sql_base.specs.declared.tables.TableDef.{TableDef}
use Rattle.sql_base.specs.declared.values.Value.{Value}
use Rattle.sql_base.specs.declared.values.Value.TheVariants as value
use Rattle.one_thread.specs.declared.shown.Shown.{Shown}
use Rattle.one_thread.proofs.Numbers.{lines, numbers}

-- t (k INT, v INT, PRIMARY KEY (k))
abbrev table : TableDef
table = record { name = codes "t"; columns = record { name = codes "k"; kind = Int } ∷ record { name = codes "v"; kind = Int } ∷ []; key = 0 ∷ []; checks = []; firsts = [] }

-- the record of a key, as values and as the bytes of both columns
abbrev row : ℕ → List Value
row k = value.Int (pos k) ∷ value.Int (pos (10 * k)) ∷ []

abbrev both : ℕ → List ℕ
both k = packed (0 ∷ 1 ∷ []) (row k)

-- the attempt that read all five records and committed with the stamp 1
abbrev shown : Shown
shown = record { session = 1; ordinal = 1; outcome = Committed 1; given = Rows (kinds table) (map both (1 ∷ 2 ∷ 3 ∷ 4 ∷ 5 ∷ [])) ∷ [] }

scan_of_five : run_text (table ∷ []) (shown ∷ []) (map row (1 ∷ 2 ∷ 3 ∷ 4 ∷ 5 ∷ []) ∷ [])
    ≡ lines (
    codes "TXN 1 1 COMMITTED 1"
    ∷ codes "ROW 1 1 1 1 10" ∷ codes "ROW 1 1 1 2 20" ∷ codes "ROW 1 1 1 3 30" ∷ codes "ROW 1 1 1 4 40" ∷ codes "ROW 1 1 1 5 50"
    ∷ codes "TABLE t"
    ∷ codes "REC 1 10" ∷ codes "REC 2 20" ∷ codes "REC 3 30" ∷ codes "REC 4 40" ∷ codes "REC 5 50" ∷ []
    )
scan_of_five = simp numbers refl

-- an INSERT of a key that stands already
duplicate_key : shown_text (record { session = 2; ordinal = 1; outcome = Aborted (Duplicate (key_of table (row 3))); given = [] })
    ≡ lines (codes "TXN 2 1 ABORTED DUPLICATEKEY 8000000000000003" ∷ [])
duplicate_key = simp numbers refl

-- an attempt that is rolled back shows what its statements gave: the second one changed 5 records
rolled_back : shown_text (record { session = 1; ordinal = 2; outcome = RolledBack; given = Silent ∷ Count 5 ∷ [] })
    ≡ lines (codes "TXN 1 2 ROLLEDBACK" ∷ codes "COUNT 1 2 2 5" ∷ [])
rolled_back = simp numbers refl

-- an aborted attempt shows nothing that its statements gave
locked_out : shown_text (record { session = 1; ordinal = 3; outcome = Aborted LockedOut; given = Count 5 ∷ [] }) ≡ lines (codes "TXN 1 3 ABORTED LOCKED" ∷ [])
locked_out = simp numbers refl

-- a negative number, and a text with a quote
values : value_text (value.Int (negsuc 4)) ++ value_text (value.Text (codes "it's")) ≡ codes "-5'it''s'"
values = simp numbers refl

-- the records 1 to 3; the first session inserts 9 and commits, the second deletes all and rolls back
abbrev inserting : Work
inserting = record { statements = Insert 0 (row 9) ∷ []; commit = true }

abbrev deleting : Work
deleting = record { statements = Delete 0 None Repeatable ∷ []; commit = false }

abbrev reading : Work
reading = record { statements = Select 0 (0 ∷ 1 ∷ []) None Repeatable ∷ []; commit = true }

abbrev script : Script
script = record {
  limits = record { quantum = 50; buffer = 4096; patience = 8; servers = 2; restart = 0 };
  tables = table ∷ [];
  loads = record { table = 0; rows = map row (1 ∷ 2 ∷ 3 ∷ []) } ∷ [];
  sessions = (inserting ∷ []) ∷ (deleting ∷ []) ∷ [];
}

-- the second session finds the inserted record
shown_of_two : sessions_shown 1 1 script.sessions (loaded script)
    ≡ record { session = 1; ordinal = 1; outcome = Committed 1; given = Silent ∷ [] } ∷ record { session = 2; ordinal = 1; outcome = RolledBack; given = Count 4 ∷ [] } ∷ []
shown_of_two = refl

-- and its change is undone
records_of_two : (world_behind script.sessions (loaded script)).records ≡ map row (1 ∷ 2 ∷ 3 ∷ 9 ∷ []) ∷ []
records_of_two = refl

text_of_two : answer_text script
    ≡ lines (
    codes "TXN 1 1 COMMITTED 1" ∷ codes "TXN 2 1 ROLLEDBACK" ∷ codes "COUNT 2 1 1 4"
    ∷ codes "TABLE t" ∷ codes "REC 1 10" ∷ codes "REC 2 20" ∷ codes "REC 3 30" ∷ codes "REC 9 90" ∷ []
    )
text_of_two = simp numbers refl

-- the stamps count on over the sessions, past a transaction without one
stamps_of_three : map (λ shown. shown.outcome) (sessions_shown 1 1 ((deleting ∷ inserting ∷ []) ∷ (inserting ∷ []) ∷ (reading ∷ []) ∷ []) (loaded script))
    ≡ RolledBack ∷ Committed 1 ∷ Aborted (Duplicate (key_of table (row 9))) ∷ Committed 2 ∷ []
stamps_of_three = refl
