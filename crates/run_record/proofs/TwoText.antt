-- The text of the record of two sessions.
use Rattle.std.proofs.Common.{◌≡◌, List, [], ◌∷◌, ℕ, map, refl, sym}
use Rattle.std.specs.Prelude.{codes}
use Rattle.sql_base.specs.Rows.{kinds}
use Rattle.sql_base.specs.declared.outcomes.Given.TheVariants.{Rows, Silent}
use Rattle.sql_base.specs.declared.outcomes.Outcome.TheVariants.{Committed}
use Rattle.one_thread.proofs.Numbers.{lines, numbers}
use Rattle.one_thread.specs.Text.{run_text}
use Rattle.one_thread.specs.declared.shown.Shown.{Shown}
use Rattle.session_grammar.specs.Follows.{asker}
use Rattle.run_record.specs.Serial.{final_records}
use Rattle.run_record.specs.Text.{IsText, ShowSessions, shown_of}
use Rattle.run_record.proofs.TwoLegal.{reader_reads, writer_reads}
use Rattle.run_record.proofs.TwoSessions.{both, kept, reader, row, script, table, writer}

-- the attempts as they are shown: the sessions in their order, whatever the order of their stamps
abbrev shown : List Shown
shown = shown_of (asker script 1) reader ∷ shown_of (asker script 2) writer ∷ []

shows : ShowSessions script kept 1 script.sessions shown
shows = (
  reader ∷ [],
  shown_of (asker script 2) writer ∷ [],
  reader_reads,
  refl,
  (writer ∷ [], [], writer_reads, refl, refl),
)

-- which are these, and the reader is given four rows
abbrev shown_rows : List Shown
shown_rows = record { session = 1; ordinal = 1; outcome = Committed 2; given = Rows (kinds table) (map both (1 ∷ 2 ∷ 3 ∷ 9 ∷ [])) ∷ [] }
    ∷ record { session = 2; ordinal = 1; outcome = Committed 1; given = Silent ∷ [] } ∷ []

shown_are : shown ≡ shown_rows
shown_are = refl

-- the bytes of the text
abbrev text : List ℕ
text = lines (
    codes "TXN 1 1 COMMITTED 2"
    ∷ codes "ROW 1 1 1 1 10" ∷ codes "ROW 1 1 1 2 20" ∷ codes "ROW 1 1 1 3 30" ∷ codes "ROW 1 1 1 9 90"
    ∷ codes "TXN 2 1 COMMITTED 1"
    ∷ codes "TABLE t"
    ∷ codes "REC 1 10" ∷ codes "REC 2 20" ∷ codes "REC 3 30" ∷ codes "REC 9 90" ∷ []
    )

-- the table holds four records in the end
records_are : final_records script kept ≡ map row (1 ∷ 2 ∷ 3 ∷ 9 ∷ []) ∷ []
records_are = refl

-- all of it is written so
written : run_text (table ∷ []) shown_rows (map row (1 ∷ 2 ∷ 3 ∷ 9 ∷ []) ∷ []) ≡ text
written = simp numbers refl

-- so those bytes are the text of the record
pub two_text : IsText script kept text
two_text = (shown, shows, sym written)
