-- The summary of a record.
use Rattle.std.specs.Prelude.{◌≡◌, ℕ, List, [], ◌∷◌, ◌++◌, length, map, sum_by, count_by, codes, decimal, Bool, true, false}
use Rattle.sql_base.specs.declared.outcomes.Outcome.{Outcome}
use Rattle.sql_base.specs.declared.outcomes.Outcome.TheVariants.{Committed, RolledBack, Aborted}
use Rattle.sql_base.specs.declared.scripts.Script.{Script}
use Rattle.sql_base.specs.declared.tables.TableDef.{TableDef}
use Rattle.sql_base.specs.declared.values.Value.{Value}
use Rattle.one_thread.specs.declared.shown.Shown.{Shown}
use Rattle.dp_messages.specs.declared.replies.Reply.{Reply}
use Rattle.dp_messages.specs.declared.replies.Reply.TheVariants as reply
use Rattle.partition_state.specs.declared.entries.Entry.{Entry}
use Rattle.run_record.specs.Serial.{final_records}
use Rattle.run_record.specs.Text.{ShowSessions}
use Rattle.run_record.specs.declared.records.RunRecord.{RunRecord}

-- a word and a number
unfoldable pub named : List ℕ → ℕ → List ℕ
named word n = word ++ 0x20 ∷ decimal n

-- ---- attempts

abbrev pub is_committed : Outcome → Bool
is_committed (Committed stamp) = true
is_committed RolledBack = false
is_committed (Aborted abort) = false

abbrev pub is_rolled_back : Outcome → Bool
is_rolled_back (Committed stamp) = false
is_rolled_back RolledBack = true
is_rolled_back (Aborted abort) = false

abbrev pub is_aborted : Outcome → Bool
is_aborted (Committed stamp) = false
is_aborted RolledBack = false
is_aborted (Aborted abort) = true

abbrev pub outcomes : List Shown → List Outcome
outcomes shown = map (λ s. s.outcome) shown

-- how many attempts there were, and how many of them ended in each way
abbrev pub attempts_line : List Outcome → List ℕ
attempts_line ended =
    named (codes "TXNS") (length ended) ++ named (codes " COMMITTED") (count_by is_committed ended) ++ named (codes " ROLLEDBACK") (count_by is_rolled_back ended)
    ++ named (codes " ABORTED") (count_by is_aborted ended) ++ 0x0A ∷ []

-- ---- entries

unfoldable pub is_redrive : Reply → Bool
is_redrive (reply.Redrive subset last cause rows changed) = true
is_redrive other = false

unfoldable pub is_locked : Reply → Bool
is_locked (reply.Locked lock) = true
is_locked other = false

-- how many entries of a history have such a reply
abbrev pub entries_with : (Reply → Bool) → List Entry → ℕ
entries_with such history = count_by (λ e. such e.reply) history

-- a line of a word and a number
abbrev pub count_line : List ℕ → ℕ → List ℕ
count_line word n = named word n ++ 0x0A ∷ []

-- the entries of all histories, and those of them with each of two replies
abbrev pub entries_lines : List (List Entry) → List ℕ
entries_lines histories =
    count_line (codes "ENTRIES") (sum_by (λ history. length history) histories) ++ count_line (codes "REDRIVES") (sum_by (entries_with is_redrive) histories)
    ++ count_line (codes "LOCKED") (sum_by (entries_with is_locked) histories)

-- ---- tables

-- each table with the number of its records
abbrev pub table_lines : List TableDef → List (List (List Value)) → List ℕ
table_lines (table ∷ tables) (rows ∷ rest) = codes "TABLE " ++ count_line table.name (length rows) ++ table_lines tables rest
table_lines (table ∷ tables) [] = []
table_lines [] rest = []

-- ---- the whole

abbrev pub summary_text : List TableDef → List Shown → List (List Entry) → List (List (List Value)) → List ℕ
summary_text tables shown histories records = attempts_line (outcomes shown) ++ (entries_lines histories ++ table_lines tables records)

-- the bytes are the summary of the record: of the attempts that its logs tell, its entries, and the records at the end
abbrev pub IsSummary : Script → RunRecord → List ℕ → Type 0
IsSummary script kept bytes =
    (shown : List Shown) × ShowSessions script kept 1 script.sessions shown × (bytes ≡ summary_text script.tables shown kept.histories (final_records script kept))
