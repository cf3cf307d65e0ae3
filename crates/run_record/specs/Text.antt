-- The text of a record.
use Rattle.std.specs.Prelude.{◌≡◌, ℕ, ◌+◌, List, [], ◌∷◌, ◌++◌, map}
use Rattle.one_thread.specs.Text.{run_text}
use Rattle.one_thread.specs.declared.shown.Shown.{Shown}
use Rattle.session_grammar.specs.Plans.{Asker}
use Rattle.session_grammar.specs.Follows.{Attempt, Reads, IsPart, asker}
use Rattle.run_record.specs.Openings.{log_of}
use Rattle.run_record.specs.Serial.{givens_of, final_records}
use Rattle.sql_base.specs.declared.scripts.Script.{Script}
use Rattle.sql_base.specs.declared.scripts.Work.{Work}
use Rattle.run_record.specs.declared.records.RunRecord.{RunRecord}

abbrev pub shown_of : Asker → Attempt → Shown
shown_of r a = record { session = r.number; ordinal = a.ordinal; outcome = a.outcome; given = givens_of r a.work.statements a.parts }

-- the attempts of the sessions from this number on, as their logs tell them
abbrev pub ShowSessions : Script → RunRecord → ℕ → List (List Work) → List Shown → Type 0
ShowSessions script kept session [] shown = shown ≡ []
ShowSessions script kept session (works ∷ rest) shown =
    (attempts : List Attempt) × (later : List Shown) × Reads IsPart (asker script session) works (log_of kept session) attempts
    × (shown ≡ map (shown_of (asker script session)) attempts ++ later) × ShowSessions script kept (session + 1) rest later

-- the bytes are the text of the record
abbrev pub IsText : Script → RunRecord → List ℕ → Type 0
IsText script kept bytes = (shown : List Shown) × ShowSessions script kept 1 script.sessions shown × (bytes ≡ run_text script.tables shown (final_records script kept))
