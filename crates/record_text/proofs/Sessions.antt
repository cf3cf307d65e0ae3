-- What is read of a legal record is its text.
use Rattle.std.proofs.Common.{◌≡◌, ℕ, zero, suc, ◌+◌, ◌-◌, List, [], ◌∷◌, ◌++◌, length, take, drop, map, Some, refl, ap, sym, ◌∙◌, subst, arith, append_assoc, length-append}
use Rattle.std.specs.Prelude.{flat_map, slice_get, unwrap_or, IfOk, Result, Ok, Err}
use Rattle.std.proofs.lemmas.List.{map-append}
use Rattle.sql_base.specs.declared.outcomes.Outcome.{Outcome}
use Rattle.sql_base.specs.declared.outcomes.Outcome.TheVariants.{Committed, RolledBack, Aborted}
use Rattle.sql_base.specs.declared.scripts.Script.{Script}
use Rattle.sql_base.specs.declared.scripts.Work.{Work}
use Rattle.sql_base.specs.declared.tables.TableDef.{TableDef}
use Rattle.sql_base.specs.declared.values.Value.{Value}
use Rattle.key_sequenced.specs.Cells.{Keyed, records}
use Rattle.partition_state.specs.History.{replay}
use Rattle.partition_state.specs.State.{State}
use Rattle.partition_state.specs.declared.entries.Entry.{Entry}
use Rattle.one_thread.specs.Text.{run_text, shown_text, tables_text}
use Rattle.one_thread.specs.declared.shown.Shown.{Shown}
use Rattle.session_grammar.specs.declared.logs.LogEntry.{LogEntry}
use Rattle.session_grammar.specs.Follows.{IsPart, Reads, asker, entries_of, works_of}
use Rattle.run_record.specs.Base.{by_table}
use Rattle.run_record.specs.Legal.{Legal}
use Rattle.run_record.specs.Openings.{by_part, log_of, openings, rows_left}
use Rattle.run_record.specs.Serial.{final_records}
use Rattle.run_record.specs.Text.{IsText, ShowSessions, shown_of}
use Rattle.run_record.specs.declared.records.RunRecord.{RunRecord}
use Rattle.record_text.specs.Scaffold.Reading.{rows_joined, sessions_read, tables_read, works_read}
use Rattle.record_text.specs.Summary.{IsSummary, attempts_line, entries_lines, outcomes, summary_text, table_lines}
use Rattle.record_text.proofs.Attempts.{plain, plains, works-read}

-- an element of a list behind some others
get_behind : {A : Type 0} (front : List A) (x : A) (back : List A) (n : ℕ) → n ≡ length front → slice_get (front ++ x ∷ back) n ≡ Some x
get_behind [] x back zero e = refl
get_behind [] x back (suc n) e = absurd (omega (arith, e))
get_behind (y ∷ front) x back zero e = absurd (omega (arith, e))
get_behind (y ∷ front) x back (suc n) e = get_behind front x back n (omega (arith, e))

-- the sessions from a number on show so
record ShowsFrom (script : Script) (kept : RunRecord) (session : ℕ) (works : List (List Work)) (logs : List (List LogEntry)) : Type 0 where
  shown : List Shown
  shows : ShowSessions script kept session works shown
  same : plains (sessions_read script session works logs) ≡ plains shown

module _ (script : Script) (kept : RunRecord) (legal : Legal script kept) where
  shows-from : (works : List (List Work)) (logs : List (List LogEntry)) (session : ℕ) (front : List (List Work)) (before : List (List LogEntry)) → script.sessions ≡ front ++ works → kept.logs ≡ before ++ logs
      → session ≡ length front + 1 → length before ≡ length front → length logs ≡ length works → ShowsFrom script kept session works logs
  shows-from [] logs session front before is are number long few = record { shown = []; shows = refl; same = refl }
  shows-from (work ∷ works) [] session front before is are number long few = absurd (omega (arith, few))
  shows-from (work ∷ works) (log ∷ logs) session front before is are number long few =
      let r = asker script session in
      let place : session - 1 ≡ length front = omega (arith, number) in
      let own_works : works_of script session ≡ work = ap (λ (s : List (List Work)). unwrap_or (slice_get s (session - 1)) []) is ∙ ap (λ o. unwrap_or o []) (get_behind front work works (session - 1) place) in
      let own_log : log_of kept session ≡ log = ap (λ (l : List (List LogEntry)). unwrap_or (slice_get l (session - 1)) []) are ∙ ap (λ o. unwrap_or o []) (get_behind before log logs (session - 1) (place ∙ sym long)) in
      let many : length script.sessions ≡ length front + length (work ∷ works) = ap length is ∙ length-append front (work ∷ works) in
      let follows = legal.logs_follow.each session (omega (arith, number), omega (arith, number, many)) in
      let reads : Reads IsPart r work (log_of kept session) follows.0 = subst (λ (w : List Work). Reads IsPart r w (log_of kept session) follows.0) own_works follows.1 in
      let log_is : log ≡ flat_map entries_of follows.0 = sym own_log ∙ reads.entries in
      let rest = shows-from works logs (session + 1) (front ++ work ∷ []) (before ++ log ∷ []) (is ∙ sym (append_assoc front (work ∷ []) works)) (are ∙ sym (append_assoc before (log ∷ []) logs))
      (omega (arith, number, length-append front (work ∷ []))) (omega (arith, long, length-append front (work ∷ []), length-append before (log ∷ []))) (omega (arith, few)) in
      record {
        shown = map (shown_of r) follows.0 ++ rest.shown;
        shows = (follows.0, rest.shown, reads, refl, rest.shows);
        same = map-append plain (works_read r 1 work log) (sessions_read script (session + 1) works logs)
            ∙ (λ i. (ap (λ (l : List LogEntry). plains (works_read r 1 work l)) log_is ∙ works-read r legal.script_runs.parts 1 work follows.0 reads.attempts_are) i ++ rest.same i)
            ∙ sym (map-append plain (map (shown_of r) follows.0) rest.shown);
      }

-- the rows that are kept of partitions, by their tables
abbrev row_of : Keyed → List Value
row_of k = k.row

parts-left : (ps : List State) (hs : List (List Entry)) → by_part rows_left ps hs ≡ map (map row_of) (by_part (λ p history. records (replay p history).cells) ps hs)
parts-left [] hs = refl
parts-left (p ∷ ps) [] = refl
parts-left (p ∷ ps) (h ∷ hs) = ap (λ (rest : List (List (List Value))). rows_left p h ∷ rest) (parts-left ps hs)

take-map : (n : ℕ) (parts : List (List Keyed)) → take n (map (map row_of) parts) ≡ map (map row_of) (take n parts)
take-map zero parts = refl
take-map (suc n) [] = refl
take-map (suc n) (held ∷ parts) = ap (λ (rest : List (List (List Value))). map row_of held ∷ rest) (take-map n parts)

drop-map : (n : ℕ) (parts : List (List Keyed)) → drop n (map (map row_of) parts) ≡ map (map row_of) (drop n parts)
drop-map zero parts = refl
drop-map (suc n) [] = refl
drop-map (suc n) (held ∷ parts) = drop-map n parts

joined-rows : (parts : List (List Keyed)) → rows_joined (map (map row_of) parts) ≡ flat_map (λ held. map row_of held) parts
joined-rows [] = refl
joined-rows (held ∷ parts) = ap (λ (rest : List (List Value)). map row_of held ++ rest) (joined-rows parts)

tables-by : (tables : List TableDef) (parts : List (List Keyed)) → tables_read tables (map (map row_of) parts) ≡ by_table tables parts
tables-by [] parts = refl
tables-by (table ∷ tables) parts =
    let n = length table.firsts + 1 in
    (λ i. rows_joined (take-map n parts i) ∷ tables_read tables (drop-map n parts i)) ∙ (λ i. joined-rows (take n parts) i ∷ tables-by tables (drop n parts) i)

pub tables-left : (script : Script) (kept : RunRecord) → Legal script kept → tables_read script.tables kept.rows ≡ final_records script kept
tables-left script kept legal =
    ap (tables_read script.tables) (legal.rows_kept ∙ parts-left (openings script) kept.histories) ∙ tables-by script.tables (by_part (λ p history. records (replay p history).cells) (openings script) kept.histories)

-- what counts of attempts has their text, and how they ended
plain-text : (shown : Shown) → shown_text (plain shown) ≡ shown_text shown
plain-text shown = by shown.outcome
  where
    with_outcome : Outcome → Shown
    with_outcome outcome = record shown { outcome = outcome }

    by : (outcome : Outcome) → shown_text (plain (with_outcome outcome)) ≡ shown_text (with_outcome outcome)
    by (Committed stamp) = refl
    by RolledBack = refl
    by (Aborted abort) = refl

plains-text : (shown : List Shown) → flat_map shown_text (plains shown) ≡ flat_map shown_text shown
plains-text [] = refl
plains-text (s ∷ shown) = λ i. plain-text s i ++ plains-text shown i

plains-outcomes : (shown : List Shown) → outcomes (plains shown) ≡ outcomes shown
plains-outcomes [] = refl
plains-outcomes (s ∷ shown) = ap (λ (os : List Outcome). s.outcome ∷ os) (plains-outcomes shown)

-- attempts of which the same counts
same-texts : (xs ys : List Shown) → plains xs ≡ plains ys → flat_map shown_text xs ≡ flat_map shown_text ys
same-texts xs ys same = sym (plains-text xs) ∙ ap (flat_map shown_text) same ∙ plains-text ys

same-outcomes : (xs ys : List Shown) → plains xs ≡ plains ys → outcomes xs ≡ outcomes ys
same-outcomes xs ys same = sym (plains-outcomes xs) ∙ ap outcomes same ∙ plains-outcomes ys

module _ (script : Script) (kept : RunRecord) (legal : Legal script kept) where
  all_shown : ShowsFrom script kept 1 script.sessions kept.logs
  all_shown = shows-from script kept legal script.sessions kept.logs 1 [] [] refl refl refl refl legal.logs_follow.logs

  -- the text of what is read
  pub text-read : (bytes : List ℕ) → bytes ≡ run_text script.tables (sessions_read script 1 script.sessions kept.logs) (tables_read script.tables kept.rows) → IsText script kept bytes
  text-read bytes is =
      (all_shown.shown, all_shown.shows, is ∙ (λ i. same-texts (sessions_read script 1 script.sessions kept.logs) all_shown.shown all_shown.same i ++ tables_text script.tables (tables-left script kept legal i)))

  -- and its summary
  pub summary-read : (bytes : List ℕ) → bytes ≡ summary_text script.tables (sessions_read script 1 script.sessions kept.logs) kept.histories (tables_read script.tables kept.rows) → IsSummary script kept bytes
  summary-read bytes is = (
    all_shown.shown,
    all_shown.shows,
    is
        ∙ (λ i. attempts_line (same-outcomes (sessions_read script 1 script.sessions kept.logs) all_shown.shown all_shown.same i) ++ (entries_lines kept.histories ++ table_lines script.tables (tables-left script kept legal i))),
  )

  -- and of a result that is what is read
  pub result-read : {A B : Type 0} (bytes_of : A → List ℕ) (result : Result A B)
      → IfOk result (λ a. bytes_of a ≡ run_text script.tables (sessions_read script 1 script.sessions kept.logs) (tables_read script.tables kept.rows)) → IfOk result (λ a. IsText script kept (bytes_of a))
  result-read bytes_of (Ok a) is = text-read (bytes_of a) is
  result-read bytes_of (Err fault) is = tt

  pub result-summed : {A B : Type 0} (bytes_of : A → List ℕ) (result : Result A B)
      → IfOk result (λ a. bytes_of a ≡ summary_text script.tables (sessions_read script 1 script.sessions kept.logs) kept.histories (tables_read script.tables kept.rows)) → IfOk result (λ a. IsSummary script kept (bytes_of a))
  result-summed bytes_of (Ok a) is = summary-read (bytes_of a) is
  result-summed bytes_of (Err fault) is = tt
