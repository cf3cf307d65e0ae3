-- The record as a run begins, and moves that are made of others.
use Rattle.std.proofs.Common.{◌≡◌, ◌<◌, ◌-◌, ℕ, zero, suc, List, [], ◌∷◌, ◌++◌, length, map, refl, sym, subst, arith}
use Rattle.std.proofs.lemmas.List.{length-map}
use Rattle.std.proofs.lemmas.List.Elements.{Contains-push}
use Rattle.std.specs.Prelude.{filter, slice_get, unwrap_or, Contains}
use Rattle.std.specs.List.{AllByRecursion, AllZip}
use Rattle.sql_base.specs.Scripts.{IsScript, Lies}
use Rattle.sql_base.specs.declared.scripts.Script.{Script}
use Rattle.sql_base.specs.declared.scripts.Work.{Work}
use Rattle.commit_journal.specs.declared.Drawn.{Drawn}
use Rattle.partition_state.specs.History.{IsLegal}
use Rattle.partition_state.specs.State.{State}
use Rattle.partition_state.specs.declared.entries.Entry.{Entry}
use Rattle.session_grammar.specs.Rows.{is_for}
use Rattle.session_grammar.specs.declared.logs.Answer.TheVariants.{Reply}
use Rattle.session_grammar.specs.declared.logs.LogEntry.{LogEntry}
use Rattle.run_record.specs.Legal.{AreServed, StampsOfLogRise, drawn_in}
use Rattle.run_record.specs.Openings.{history_of, log_of, openings}
use Rattle.run_record.specs.declared.records.Act.{Act}
use Rattle.run_record.specs.declared.records.RunRecord.{RunRecord}
use Rattle.record_laws.specs.SoFar.{LegalSoFar, way_of}
use Rattle.record_laws.proofs.Sessions.{by_opener}
use Rattle.driver_laws.specs.Moves.{IsNext, IsPosted, nothing_yet, with_acts, with_entry, with_log, with_way}
use Rattle.session_grammar.specs.UnderWay.{Sending, Awaiting, UnderWay, unanswered, Asks, TakesAnswer}
use Rattle.driver_laws.proofs.Moving.{served, taken}
use Rattle.driver_laws.proofs.Openings.{still_served}
use Rattle.driver_laws.proofs.Seats.{seat_same}
use Rattle.run_record.proofs.DrawnLogs.{of_logs}

abbrev nil : (Y : Type 0) → List Y
nil Y = []

nil_at : {X Y : Type 0} (xs : List X) (i : ℕ) → unwrap_or (slice_get (map (λ (x : X). nil Y) xs) i) [] ≡ []
nil_at [] i = refl
nil_at (x ∷ xs) zero = refl
nil_at (x ∷ xs) (suc i) = nil_at xs i

all_nil : {X Y : Type 0} (P : List Y → Type 0) (xs : List X) → P [] → AllByRecursion P (map (λ (x : X). nil Y) xs)
all_nil P [] h = tt
all_nil P (x ∷ xs) h = (h, all_nil P xs h)

zip_nil : (ps : List State) → AllZip IsLegal ps (map (λ (p : State). nil Entry) ps)
zip_nil [] = tt
zip_nil (p ∷ ps) = (tt, zip_nil ps)

-- where each requester keeps its clause, with what it opens at first
pub begun : (script : Script) (ways : List UnderWay) → IsScript script → ((session : ℕ) → Lies 1 (length script.sessions) session → Asks script session [] (way_of ways session)) → LegalSoFar script (nothing_yet script) ways
begun script ways is asks =
    record {
      script_runs = is;
      histories_replay = zip_nil (openings script);
      stamps_drawn = record {
        rise = tt;
        once = refl;
        drawn = of_logs (nothing_yet script) (λ d. (λ h. absurd (omega (arith, h.1)), λ h. none d h.0 h.1));
        in_order = all_nil (λ (log : List LogEntry). StampsOfLogRise (drawn_in log)) script.sessions tt;
      };
      entries_asked = record { openers = all_nil (λ (history : List Entry). AllByRecursion (λ (e : Entry). Lies 1 (length script.sessions) e.opener) history) (openings script) tt; served = λ part session within lies. at part session };
      logs_begin = record { logs = length-map script.sessions (λ (works : List Work). nil LogEntry); each = λ session lies. subst (λ (log : List LogEntry). Asks script session log (way_of ways session)) (sym (no_log session)) (asks session lies) };
    }
  where
    no_log : (session : ℕ) → log_of (nothing_yet script) session ≡ []
    no_log session = nil_at script.sessions (session - 1)

    none : (d : Drawn) (session : ℕ) → Contains (drawn_in (log_of (nothing_yet script) session)) d → Contains [] d
    none d session h = subst (λ (log : List LogEntry). Contains (drawn_in log) d) (no_log session) h

    at : (part session : ℕ) → AreServed (filter (is_for part) (log_of (nothing_yet script) session ++ unanswered (way_of ways session))) (filter (by_opener session) (history_of (nothing_yet script) part))
    at part session =
        subst (λ (log : List LogEntry). AreServed (filter (is_for part) (log ++ unanswered (way_of ways session))) (filter (by_opener session) (history_of (nothing_yet script) part))) (sym (no_log session))
        (subst (λ (es : List Entry). AreServed (filter (is_for part) (unanswered (way_of ways session))) (filter (by_opener session) es)) (sym (nil_at (openings script) part))
        (still_served part [] (way_of ways session) [] refl))

-- the list of acts says nothing here
pub other_acts : (script : Script) (kept : RunRecord) (ways : List UnderWay) (acts : List Act) → LegalSoFar script kept ways → LegalSoFar script (with_acts kept acts) ways
other_acts script kept ways acts h =
    record {
      script_runs = h.script_runs;
      histories_replay = h.histories_replay;
      stamps_drawn = record { rise = h.stamps_drawn.rise; once = h.stamps_drawn.once; drawn = h.stamps_drawn.drawn; in_order = h.stamps_drawn.in_order };
      entries_asked = record { openers = h.entries_asked.openers; served = h.entries_asked.served };
      logs_begin = record { logs = h.logs_begin.logs; each = h.logs_begin.each };
    }

-- an End is served by hand, as a message is, and answered at once
pub by_hand : (script : Script) (kept : RunRecord) (ways : List UnderWay) → LegalSoFar script kept ways → length ways ≡ length script.sessions → (e : Entry) → Lies 1 (length script.sessions) e.opener
    → (sends : List Sending) (s : Sending) (losses : ℕ) (log : List LogEntry) (way : UnderWay) → s.part < length kept.histories → IsNext script kept s.part e → IsPosted kept ways e.opener s.part e.sync e.request
    → way_of ways e.opener ≡ Awaiting sends → Contains sends s → e.sync ≡ s.sync → TakesAnswer script e.opener (log_of kept e.opener) sends s losses (Reply e.reply) log way
    → LegalSoFar script (with_log (with_entry kept s.part e) e.opener log) (with_way ways e.opener way)
by_hand script kept ways legal many e lies sends s losses log way within next posted is is_in same takes =
    taken script (with_entry kept s.part e) ways (served script kept ways legal s.part within e lies next posted) many e.opener lies sends s losses (Reply e.reply) log way is is_in
    (e, subst (λ (es : List Entry). Contains es e) (sym (seat_same [] kept.histories s.part (history_of kept s.part ++ e ∷ []) within)) (Contains-push (history_of kept s.part) e), refl, same, refl) takes
