-- The text of a run.
use Rattle.std.specs.Prelude.{ℕ, ◌+◌, ◌/◌, ◌%◌, ◌==◌, nat_lt, ℤ, pos, negsuc, List, [], ◌∷◌, ◌++◌, map, flat_map, Option, Some, None, codes, decimal, if◌then◌else◌}
use Rattle.std.specs.List.{join_with_byte}
use Rattle.sql_base.specs.Rows.{kinds, unpacked}
use Rattle.sql_base.specs.declared.outcomes.Abort.{Abort}
use Rattle.sql_base.specs.declared.outcomes.Abort.TheVariants.{LockedOut, PathLost, Faulted, Duplicate}
use Rattle.sql_base.specs.declared.outcomes.Outcome.{Outcome}
use Rattle.sql_base.specs.declared.outcomes.Outcome.TheVariants.{Committed, RolledBack, Aborted}
use Rattle.sql_base.specs.declared.outcomes.Given.{Given}
use Rattle.sql_base.specs.declared.outcomes.Given.TheVariants.{Rows, Count, Silent}
use Rattle.sql_base.specs.declared.faults.Fault.{Fault}
use Rattle.sql_base.specs.declared.faults.Fault.TheVariants.{Overflow, ZeroDivide, CheckFailed}
use Rattle.sql_base.specs.declared.tables.TableDef.{TableDef}
use Rattle.sql_base.specs.declared.values.Value.{Value}
use Rattle.one_thread.specs.declared.shown.Shown.{Shown}
use Rattle.sql_base.specs.declared.values.Value.TheVariants.{Int, Text}

-- words with one blank between, and a line feed
abbrev pub line : List (List ℕ) → List ℕ
line words = join_with_byte 0x20 words ++ 0x0A ∷ []

abbrev pub int_text : ℤ → List ℕ
int_text (pos n) = decimal n
int_text (negsuc n) = codes "-" ++ decimal (n + 1)

-- a byte of a text; a quote stands twice
abbrev pub quoted : ℕ → List ℕ
quoted b = if b == 0x27 then 0x27 ∷ 0x27 ∷ [] else b ∷ []

abbrev pub value_text : Value → List ℕ
value_text (Int n) = int_text n
value_text (Text text) = codes "'" ++ flat_map quoted text ++ codes "'"

abbrev pub values_of : Option (List Value) → List Value
values_of None = []
values_of (Some row) = row

abbrev pub hex_digit : ℕ → ℕ
hex_digit d = if nat_lt d 10 then 0x30 + d else 0x57 + d

-- a key: each byte as two lower-case hexadecimal digits
abbrev pub key_text : List ℕ → List ℕ
key_text key = flat_map (λ b. hex_digit (b / 16) ∷ hex_digit (b % 16) ∷ []) key

abbrev pub fault_word : Fault → List ℕ
fault_word Overflow = codes "OVERFLOW"
fault_word ZeroDivide = codes "ZERODIVIDE"
fault_word (CheckFailed number) = codes "CHECKFAILED"

abbrev pub abort_words : Abort → List (List ℕ)
abort_words LockedOut = codes "LOCKED" ∷ []
abort_words PathLost = codes "PATHFAILED" ∷ []
abort_words (Faulted key fault) = fault_word fault ∷ key_text key ∷ []
abort_words (Duplicate key) = codes "DUPLICATEKEY" ∷ key_text key ∷ []

abbrev pub outcome_words : Outcome → List (List ℕ)
outcome_words (Committed stamp) = codes "COMMITTED" ∷ decimal stamp ∷ []
outcome_words RolledBack = codes "ROLLEDBACK" ∷ []
outcome_words (Aborted abort) = codes "ABORTED" ∷ abort_words abort

-- the lines of one statement's results
abbrev pub given_text : List (List ℕ) → Given → List ℕ
given_text place (Rows kinds rows) = flat_map (λ row. line ((codes "ROW" ∷ place) ++ map value_text (values_of (unpacked kinds row)))) rows
given_text place (Count n) = line ((codes "COUNT" ∷ place) ++ decimal n ∷ [])
given_text place Silent = []

-- statements count from 1
abbrev pub givens_text : Shown → ℕ → List Given → List ℕ
givens_text shown number [] = []
givens_text shown number (given ∷ rest) = given_text (decimal shown.session ∷ decimal shown.ordinal ∷ decimal number ∷ []) given ++ givens_text shown (number + 1) rest

-- an aborted attempt shows no results
abbrev pub results_text : Shown → Outcome → List ℕ
results_text shown (Aborted abort) = []
results_text shown outcome = givens_text shown 1 shown.given

abbrev pub shown_text : Shown → List ℕ
shown_text shown = line ((codes "TXN" ∷ decimal shown.session ∷ decimal shown.ordinal ∷ []) ++ outcome_words shown.outcome) ++ results_text shown shown.outcome

abbrev pub table_text : TableDef → List (List Value) → List ℕ
table_text table rows = line (codes "TABLE" ∷ table.name ∷ []) ++ flat_map (λ row. line (codes "REC" ∷ map value_text row)) rows

abbrev pub tables_text : List TableDef → List (List (List Value)) → List ℕ
tables_text (table ∷ tables) (rows ∷ rest) = table_text table rows ++ tables_text tables rest
tables_text (table ∷ tables) [] = []
tables_text [] rest = []

-- the attempts, and then the records of the tables
abbrev pub run_text : List TableDef → List Shown → List (List (List Value)) → List ℕ
run_text tables shown records = flat_map shown_text shown ++ tables_text tables records
