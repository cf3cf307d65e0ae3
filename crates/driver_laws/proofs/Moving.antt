-- The moves of a whole record that is legal so far.
use Rattle.std.proofs.Common.{◌≡◌, ◌≢◌, ◌<◌, ◌-◌, ℕ, ◌+◌, List, [], ◌∷◌, ◌++◌, length, Some, None, Bool, true, refl, ap, sym, ◌∙◌, subst, inl, inr, arith}
use Rattle.std.proofs.lemmas.Bool.{cases_eq, eq-eqb, eqb-true, ne_eqb}
use Rattle.std.proofs.lemmas.List.{append-nil}
use Rattle.std.proofs.lemmas.List.Elements.{Contains-append_left, Contains-push, Contains-push_cases, filter-append, filter_map-append}
use Rattle.std.specs.Prelude.{◌⊎◌, filter, max, slice_get, slice_set, unwrap_or, Contains}
use Rattle.std.specs.List.{AllByRecursion, AllZip}
use Rattle.sql_base.specs.Scripts.{Lies}
use Rattle.sql_base.specs.declared.lock_names.TxnName.{TxnName}
use Rattle.sql_base.specs.declared.scripts.Script.{Script}
use Rattle.commit_journal.specs.declared.Drawn.{Drawn}
use Rattle.partition_state.specs.History.{IsLegal}
use Rattle.partition_state.specs.State.{State}
use Rattle.partition_state.specs.declared.entries.Entry.{Entry}
use Rattle.session_grammar.specs.Rows.{is_for}
use Rattle.session_grammar.specs.declared.logs.Answer.{Answer}
use Rattle.session_grammar.specs.declared.logs.Answer.TheVariants.{Reply, PathFailed, Stamp}
use Rattle.session_grammar.specs.declared.logs.LogEntry.{LogEntry}
use Rattle.session_grammar.specs.declared.logs.LogEntry.TheVariants.{Asked, Drew}
use Rattle.run_record.specs.Legal.{AreServed, StampsDrawn, StampsOfLogRise, drawn_by as draws, drawn_in, in_journal}
use Rattle.run_record.specs.Openings.{history_of, log_of, openings}
use Rattle.run_record.specs.declared.records.RunRecord.{RunRecord}
use Rattle.state_facts.proofs.Openings.{opened-fresh}
use Rattle.record_laws.specs.SoFar.{LegalSoFar, way_of}
use Rattle.commit_journal.specs.Journal.{last_stamp}
use Rattle.record_laws.proofs.Drawing.{not_drawn}
use Rattle.record_laws.proofs.FitsSoFar.{zip_at}
use Rattle.record_laws.proofs.Sessions.{by_opener}
use Rattle.driver_laws.specs.Moves.{IsNext, IsPosted, MayAnswer, asked_so_far, next_drawn, with_drawn, with_entry, with_log, with_way}
use Rattle.session_grammar.specs.UnderWay.{AreAbove, Sending, Awaiting, Drawing, UnderWay, unanswered, Asks, TakesStamp, TakesAnswer}
use Rattle.driver_laws.proofs.Openings.{still_served}
use Rattle.driver_laws.proofs.Seats.{all_zip_set, contains_filter, seat_other, seat_same}
use Rattle.driver_laws.proofs.Serving.{IsEarlier, asked_rises, new_later, serves_new}
use Rattle.driver_laws.proofs.Stamping.{below_new, log_more, once_more}
use Rattle.driver_laws.proofs.Taking.{IsAmong, taken_served}
use Rattle.run_record.proofs.DrawnLogs.{drawn_by_logs, of_logs}
use Rattle.commit_journal.proofs.Rising.{rise_more}
use Rattle.partition_state.proofs.Replays.{IsLegal-push}
use Rattle.sql_base.proofs.ListFacts.{all-weaker, all_joined, all_slice, all_through, length-set, all-set}

-- another log of one session, and another journal
abbrev moved_to : RunRecord → ℕ → List LogEntry → List Drawn → RunRecord
moved_to kept session log journal = record kept { logs = slice_set kept.logs (session - 1) log; journal = journal }

module _ (kept : RunRecord) (session : ℕ) (log : List LogEntry) (journal : List Drawn) (within : session - 1 < length kept.logs) where
  own_log : (s : ℕ) → s - 1 ≡ session - 1 → log_of (moved_to kept session log journal) s ≡ log
  own_log s same = subst (λ n. unwrap_or (slice_get (slice_set kept.logs (session - 1) log) n) [] ≡ log) (sym same) (seat_same [] kept.logs (session - 1) log within)

  other_log : (s : ℕ) → s - 1 ≢ session - 1 → log_of (moved_to kept session log journal) s ≡ log_of kept s
  other_log s differ = seat_other [] kept.logs (session - 1) (s - 1) log differ

  -- where the log draws no more, the stamps are drawn as before
  same_drawn : drawn_in log ≡ drawn_in (log_of kept session) → (s : ℕ) → drawn_in (log_of (moved_to kept session log journal) s) ≡ drawn_in (log_of kept s)
  same_drawn same s = elim (cases_eq (s - 1) (session - 1)) [ inl here ↦ at_own here | inr differ ↦ ap drawn_in (other_log s differ) ]
    where
      at_own : s - 1 ≡ session - 1 → drawn_in (log_of (moved_to kept session log journal) s) ≡ drawn_in (log_of kept s)
      at_own here = ap drawn_in (own_log s here) ∙ same ∙ ap (λ n. drawn_in (unwrap_or (slice_get kept.logs n) [])) (sym here)

  -- and where it draws one more, that is drawn too
  one_drawn : (d : Drawn) → drawn_in log ≡ drawn_in (log_of kept session) ++ d ∷ [] → (s : ℕ) (x : Drawn) → Contains (drawn_in (log_of (moved_to kept session log journal) s)) x → Contains (drawn_in (log_of kept s)) x ⊎ (d ≡ x)
  one_drawn d more s x h = elim (cases_eq (s - 1) (session - 1)) [ inl here ↦ at_own here | inr differ ↦ inl (subst (λ (l : List LogEntry). Contains (drawn_in l) x) (other_log s differ) h) ]
    where
      at_own : s - 1 ≡ session - 1 → Contains (drawn_in (log_of kept s)) x ⊎ (d ≡ x)
      at_own here =
          subst (λ n. Contains (drawn_in (unwrap_or (slice_get kept.logs n) [])) x ⊎ (d ≡ x)) (sym here)
          (Contains-push_cases (drawn_in (log_of kept session)) d x (subst (λ (ds : List Drawn). Contains ds x) (ap drawn_in (own_log s here) ∙ more) h))

  still_drawn : (d : Drawn) → drawn_in log ≡ drawn_in (log_of kept session) ++ d ∷ [] → (s : ℕ) (x : Drawn) → Contains (drawn_in (log_of kept s)) x → Contains (drawn_in (log_of (moved_to kept session log journal) s)) x
  still_drawn d more s x h = elim (cases_eq (s - 1) (session - 1)) [ inl here ↦ at_own here | inr differ ↦ subst (λ (l : List LogEntry). Contains (drawn_in l) x) (sym (other_log s differ)) h ]
    where
      at_own : s - 1 ≡ session - 1 → Contains (drawn_in (log_of (moved_to kept session log journal) s)) x
      at_own here =
          subst (λ (ds : List Drawn). Contains ds x) (sym (ap drawn_in (own_log s here) ∙ more))
          (Contains-append_left (drawn_in (log_of kept session)) (d ∷ []) x (subst (λ n. Contains (drawn_in (unwrap_or (slice_get kept.logs n) [])) x) here h))

-- the stamps drawn, where one log has more entries that draw nothing
stamps_still : (kept : RunRecord) (session : ℕ) (log : List LogEntry) → session - 1 < length kept.logs → drawn_in log ≡ drawn_in (log_of kept session) → StampsDrawn kept → StampsDrawn (with_log kept session log)
stamps_still kept session log within same h =
    record {
      rise = h.rise;
      once = h.once;
      drawn = of_logs (with_log kept session log) (λ d. (
        λ x. let at = (drawn_by_logs kept h d).0 x in (at.0, subst (λ (ds : List Drawn). Contains ds d) (sym (same_drawn kept session log kept.journal within same at.0)) at.1),
        λ at. (drawn_by_logs kept h d).1 (at.0, subst (λ (ds : List Drawn). Contains ds d) (same_drawn kept session log kept.journal within same at.0) at.1),
      ));
      in_order = all-set (λ (l : List LogEntry). StampsOfLogRise (drawn_in l)) kept.logs (session - 1) log
          (subst StampsOfLogRise (sym same) (all_slice (λ (l : List LogEntry). StampsOfLogRise (drawn_in l)) [] tt kept.logs (session - 1) h.in_order)) h.in_order;
    }

-- and where it drew the next commit of the journal
stamps_more : (kept : RunRecord) (session : ℕ) (log : List LogEntry) (d : Drawn) → session - 1 < length kept.logs → drawn_in log ≡ drawn_in (log_of kept session) ++ d ∷ []
    → d.stamp ≡ max (last_stamp 0 kept.journal) d.floor + 1 → in_journal kept d.name ≡ None → StampsDrawn kept → StampsDrawn (with_drawn (with_log kept session log) d)
stamps_more kept session log d within more is new h =
    record {
      rise = rise_more 0 kept.journal d h.rise is;
      once = once_more kept.journal d h.once new;
      drawn = of_logs (with_drawn (with_log kept session log) d) (λ x. (to_log x, to_journal x));
      in_order = all-set (λ (l : List LogEntry). StampsOfLogRise (drawn_in l)) kept.logs (session - 1) log (subst StampsOfLogRise (sym more) own_rise) h.in_order;
    }
  where
    to_log : (x : Drawn) → Contains (kept.journal ++ d ∷ []) x → (s : ℕ) × Contains (drawn_in (log_of (moved_to kept session log (kept.journal ++ d ∷ [])) s)) x
    to_log x c = elim (Contains-push_cases kept.journal d x c) [
      | inl old ↦ let at = (drawn_by_logs kept h x).0 old in (at.0, still_drawn kept session log (kept.journal ++ d ∷ []) within d more at.0 x at.1)
      | inr same ↦ (
        session,
        subst (λ (ds : List Drawn). Contains ds x) (sym (ap drawn_in (own_log kept session log (kept.journal ++ d ∷ []) within session refl) ∙ more))
            (subst (λ y. Contains (drawn_in (log_of kept session) ++ d ∷ []) y) same (Contains-push (drawn_in (log_of kept session)) d)),
      )
    ]

    to_journal : (x : Drawn) → (s : ℕ) × Contains (drawn_in (log_of (moved_to kept session log (kept.journal ++ d ∷ [])) s)) x → Contains (kept.journal ++ d ∷ []) x
    to_journal x at = elim (one_drawn kept session log (kept.journal ++ d ∷ []) within d more at.0 x at.1) [
      | inl old ↦ Contains-append_left kept.journal (d ∷ []) x ((drawn_by_logs kept h x).1 (at.0, old))
      | inr same ↦ subst (λ y. Contains (kept.journal ++ d ∷ []) y) same (Contains-push kept.journal d)
    ]

    own_rise : StampsOfLogRise (drawn_in (log_of kept session) ++ d ∷ [])
    own_rise =
        log_more (drawn_in (log_of kept session)) d (all_slice (λ (l : List LogEntry). StampsOfLogRise (drawn_in l)) [] tt kept.logs (session - 1) h.in_order)
        (λ x is_in. below_new kept.journal d h.rise is x ((drawn_by_logs kept h x).1 (session, is_in)))

module _ (script : Script) (kept : RunRecord) (ways : List UnderWay) (legal : LegalSoFar script kept ways) (many : length ways ≡ length script.sessions)
    (session : ℕ) (lies : Lies 1 (length script.sessions) session) where
  in_logs : session - 1 < length kept.logs
  in_logs = omega (arith, lies.0, lies.1, legal.logs_begin.logs)

  in_ways : session - 1 < length ways
  in_ways = omega (arith, lies.0, lies.1, many)

  -- the session goes on by itself: its log and what it has under way
  module _ (log : List LogEntry) (way : UnderWay) (journal : List Drawn) where
    own_way : (s : ℕ) → s - 1 ≡ session - 1 → way_of (with_way ways session way) s ≡ way
    own_way s same = subst (λ n. unwrap_or (slice_get (slice_set ways (session - 1) way) n) (Awaiting []) ≡ way) (sym same) (seat_same (Awaiting []) ways (session - 1) way in_ways)

    other_way : (s : ℕ) → s - 1 ≢ session - 1 → way_of (with_way ways session way) s ≡ way_of ways s
    other_way s differ = seat_other (Awaiting []) ways (session - 1) (s - 1) way differ

    same_place : (s : ℕ) → Lies 1 (length script.sessions) s → s - 1 ≡ session - 1 → s ≡ session
    same_place s ls same = omega (arith, ls.0, lies.0, same)

    session_moved : StampsDrawn (moved_to kept session log journal) → Asks script session log way
        → ((part : ℕ) → part < length kept.histories → AreServed (filter (is_for part) (log ++ unanswered way)) (filter (by_opener session) (history_of kept part)))
        → LegalSoFar script (moved_to kept session log journal) (with_way ways session way)
    session_moved stamps asks served =
        record {
          script_runs = legal.script_runs;
          histories_replay = legal.histories_replay;
          stamps_drawn = stamps;
          entries_asked = record { openers = legal.entries_asked.openers; served = λ part s within ls. elim (cases_eq (s - 1) (session - 1)) [ inl here ↦ served_own part s within ls here | inr differ ↦ served_other part s within ls differ ] };
          logs_begin = record {
            logs = length-set kept.logs (session - 1) log ∙ legal.logs_begin.logs;
            each = λ s ls. elim (cases_eq (s - 1) (session - 1)) [ inl here ↦ asks_own s ls here | inr differ ↦ asks_other s ls differ ];
          };
        }
      where
        served_own : (part s : ℕ) → part < length kept.histories → Lies 1 (length script.sessions) s → s - 1 ≡ session - 1
            → AreServed (filter (is_for part) (log_of (moved_to kept session log journal) s ++ unanswered (way_of (with_way ways session way) s))) (filter (by_opener s) (history_of kept part))
        served_own part s within ls here =
            subst (λ n. AreServed (filter (is_for part) (log_of (moved_to kept session log journal) s ++ unanswered (way_of (with_way ways session way) s))) (filter (by_opener n) (history_of kept part))) (sym (same_place s ls here))
            (subst (λ (w : UnderWay). AreServed (filter (is_for part) (log_of (moved_to kept session log journal) s ++ unanswered w)) (filter (by_opener session) (history_of kept part))) (sym (own_way s here))
            (subst (λ (l : List LogEntry). AreServed (filter (is_for part) (l ++ unanswered way)) (filter (by_opener session) (history_of kept part))) (sym (own_log kept session log journal in_logs s here)) (served part within)))

        served_other : (part s : ℕ) → part < length kept.histories → Lies 1 (length script.sessions) s → s - 1 ≢ session - 1
            → AreServed (filter (is_for part) (log_of (moved_to kept session log journal) s ++ unanswered (way_of (with_way ways session way) s))) (filter (by_opener s) (history_of kept part))
        served_other part s within ls differ =
            subst (λ (w : UnderWay). AreServed (filter (is_for part) (log_of (moved_to kept session log journal) s ++ unanswered w)) (filter (by_opener s) (history_of kept part))) (sym (other_way s differ))
            (subst (λ (l : List LogEntry). AreServed (filter (is_for part) (l ++ unanswered (way_of ways s))) (filter (by_opener s) (history_of kept part))) (sym (other_log kept session log journal in_logs s differ))
            (legal.entries_asked.served part s within ls))

        asks_own : (s : ℕ) → Lies 1 (length script.sessions) s → s - 1 ≡ session - 1 → Asks script s (log_of (moved_to kept session log journal) s) (way_of (with_way ways session way) s)
        asks_own s ls here =
            subst (λ n. Asks script n (log_of (moved_to kept session log journal) s) (way_of (with_way ways session way) s)) (sym (same_place s ls here))
            (subst (λ (w : UnderWay). Asks script session (log_of (moved_to kept session log journal) s) w) (sym (own_way s here))
            (subst (λ (l : List LogEntry). Asks script session l way) (sym (own_log kept session log journal in_logs s here)) asks))

        asks_other : (s : ℕ) → Lies 1 (length script.sessions) s → s - 1 ≢ session - 1 → Asks script s (log_of (moved_to kept session log journal) s) (way_of (with_way ways session way) s)
        asks_other s ls differ =
            subst (λ (w : UnderWay). Asks script s (log_of (moved_to kept session log journal) s) w) (sym (other_way s differ))
            (subst (λ (l : List LogEntry). Asks script s l (way_of ways s)) (sym (other_log kept session log journal in_logs s differ)) (legal.logs_begin.each s ls))

  -- its commit is drawn
  pub drawn : (name : TxnName) (floor : ℕ) (log : List LogEntry) (way : UnderWay) → way_of ways session ≡ Drawing name floor → TakesStamp script session (log_of kept session) (next_drawn kept name floor) log way
      → LegalSoFar script (with_drawn (with_log kept session log) (next_drawn kept name floor)) (with_way ways session way)
  drawn name floor log way is h =
      session_moved log way (kept.journal ++ d ∷ []) (stamps_more kept session log d in_logs more refl (not_drawn script kept ways legal session name floor lies is) legal.stamps_drawn) h.asks served
    where
      d : Drawn
      d = next_drawn kept name floor

      more : drawn_in log ≡ drawn_in (log_of kept session) ++ d ∷ []
      more = ap drawn_in h.put_in ∙ filter_map-append draws (log_of kept session) (Drew name floor (Stamp d.stamp) ∷ [])

      served : (part : ℕ) → part < length kept.histories → AreServed (filter (is_for part) (log ++ unanswered way)) (filter (by_opener session) (history_of kept part))
      served part within =
          let old = subst (λ (w : UnderWay). AreServed (filter (is_for part) (log_of kept session ++ unanswered w)) (filter (by_opener session) (history_of kept part))) is (legal.entries_asked.served part session within lies) in
          let plain = subst (λ (l : List LogEntry). AreServed (filter (is_for part) l) (filter (by_opener session) (history_of kept part))) (append-nil (log_of kept session)) old in
          let same : filter (is_for part) log ≡ filter (is_for part) (log_of kept session) =
          ap (filter (is_for part)) h.put_in ∙ filter-append (is_for part) (log_of kept session) (Drew name floor (Stamp d.stamp) ∷ []) ∙ append-nil (filter (is_for part) (log_of kept session)) in
          subst (λ (xs : List LogEntry). AreServed xs (filter (by_opener session) (history_of kept part))) (sym (filter-append (is_for part) log (unanswered way)))
          (still_served part (filter (is_for part) log) way (filter (by_opener session) (history_of kept part)) (subst (λ (xs : List LogEntry). AreServed xs (filter (by_opener session) (history_of kept part))) (sym same) plain))

  -- a request under way is answered, with the reply of its entry or because its path failed
  pub taken : (sends : List Sending) (s : Sending) (losses : ℕ) (answer : Answer) (log : List LogEntry) (way : UnderWay) → way_of ways session ≡ Awaiting sends → Contains sends s → MayAnswer kept session s losses answer
      → TakesAnswer script session (log_of kept session) sends s losses answer log way → LegalSoFar script (with_log kept session log) (with_way ways session way)
  taken sends s losses answer log way is is_in may h = session_moved log way kept.journal (stamps_still kept session log in_logs same legal.stamps_drawn) h.asks served
    where
      same : drawn_in log ≡ drawn_in (log_of kept session)
      same =
          ap drawn_in h.put_in.3 ∙ filter_map-append draws h.put_in.0 (Asked s.part s.sync s.request losses answer ∷ h.put_in.1) ∙ sym (filter_map-append draws h.put_in.0 h.put_in.1)
          ∙ ap drawn_in (sym h.put_in.2)

      among : (w : Answer) (part : ℕ) → MayAnswer kept session s losses w → s.part ≡ part → IsAmong (filter (by_opener session) (history_of kept part)) s.sync losses w
      among (Reply r) part m here =
          (m.0, contains_filter (by_opener session) (history_of kept part) m.0 (eq-eqb m.0.opener session m.2) (subst (λ n. Contains (history_of kept n) m.0) here m.1), m.3, m.4)
      among PathFailed part m here = m
      among (Stamp stamp) part m here = absurd m

      served : (part : ℕ) → part < length kept.histories → AreServed (filter (is_for part) (log ++ unanswered way)) (filter (by_opener session) (history_of kept part))
      served part within =
          let above = subst (AreAbove (log_of kept session)) is (legal.logs_begin.each session lies).0 in
          let old = subst (λ (w : UnderWay). AreServed (filter (is_for part) (log_of kept session ++ unanswered w)) (filter (by_opener session) (history_of kept part))) is (legal.entries_asked.served part session within lies) in
          taken_served (log_of kept session) log sends way s losses answer is_in above h.asks.0 h.put_in h.stay part (filter (by_opener session) (history_of kept part)) old (among answer part may)

-- a partition serves a message as new
module _ (script : Script) (kept : RunRecord) (ways : List UnderWay) (legal : LegalSoFar script kept ways)
    (part : ℕ) (within : part < length kept.histories) (e : Entry) (lies : Lies 1 (length script.sessions) e.opener) (next : IsNext script kept part e) where
  eight : Lies 1 8 e.opener
  eight = let few = legal.script_runs.some_sessions.1 in (lies.0, omega (arith, lies.1, few))

  opened : State
  opened = next.0

  own_history : (y : State) → slice_get (openings script) part ≡ Some y → IsLegal y (history_of kept part) → IsLegal y (history_of kept part ++ e ∷ [])
  own_history y at h =
      let both : Some next.0 ≡ Some y = sym next.1 ∙ at in
      let same : next.0 ≡ y = cc both in
      subst (λ (q : State). IsLegal q (history_of kept part ++ e ∷ [])) same (IsLegal-push next.0 (history_of kept part) e (subst (λ (q : State). IsLegal q (history_of kept part)) (sym same) h) eight next.2)

  zipped : AllZip IsLegal (openings script) (with_entry kept part e).histories
  zipped = all_zip_set IsLegal [] (openings script) kept.histories part (history_of kept part ++ e ∷ []) own_history legal.histories_replay

  own_now : history_of (with_entry kept part e) part ≡ history_of kept part ++ e ∷ []
  own_now = seat_same [] kept.histories part (history_of kept part ++ e ∷ []) within

  is_legal : IsLegal next.0 (history_of kept part ++ e ∷ [])
  is_legal =
      let found = zip_at IsLegal (openings script) kept.histories [] part legal.histories_replay within in
      let both : Some found.0 ≡ Some next.0 = sym found.1 ∙ next.1 in
      let same : found.0 ≡ next.0 = cc both in
      IsLegal-push next.0 (history_of kept part) e (subst (λ (q : State). IsLegal q (history_of kept part)) same found.2) eight next.2

  -- what the opener had served before has earlier syncs
  pub later : AllByRecursion (λ (f : Entry). f.opener ≡ e.opener → f.sync < e.sync) (history_of kept part)
  later = new_later next.0 (history_of kept part) e (opened-fresh script part next.0 legal.script_runs next.1).keeps is_legal

  earlier : AllByRecursion (IsEarlier e.sync) (filter (by_opener e.opener) (history_of kept part))
  earlier =
      all_through (by_opener e.opener) (IsEarlier e.sync) (history_of kept part)
      (all-weaker (λ (f : Entry). f.opener ≡ e.opener → f.sync < e.sync) (λ (f : Entry). by_opener e.opener f ≡ true → IsEarlier e.sync f) (λ f to t. to (eqb-true f.opener e.opener t)) (history_of kept part) later)

  -- the message is one that its session posted
  module _ (posted : IsPosted kept ways e.opener part e.sync e.request) where
    served_own : AreServed (filter (is_for part) (asked_so_far kept ways e.opener)) (filter (by_opener e.opener) (history_of kept part) ++ e ∷ [])
    served_own =
        let it = Asked part e.sync e.request posted.0 posted.1 in
        serves_new part e.sync e.request posted.0 posted.1 (filter (is_for part) (asked_so_far kept ways e.opener)) (filter (by_opener e.opener) (history_of kept part)) e
        (contains_filter (is_for part) (asked_so_far kept ways e.opener) it (eq-eqb part part refl) posted.2)
        (asked_rises script e.opener (log_of kept e.opener) (way_of ways e.opener) part (legal.logs_begin.each e.opener lies)) earlier (refl, refl) (legal.entries_asked.served part e.opener within lies)

    own_filter : (s : ℕ) (b : Bool) → by_opener s e ≡ b → filter (by_opener s) (history_of kept part ++ e ∷ []) ≡ filter (by_opener s) (history_of kept part) ++ filter (by_opener s) (e ∷ [])
    own_filter s b t = filter-append (by_opener s) (history_of kept part) (e ∷ [])

    served_here : (s : ℕ) → Lies 1 (length script.sessions) s → AreServed (filter (is_for part) (asked_so_far kept ways s)) (filter (by_opener s) (history_of kept part ++ e ∷ []))
    served_here s ls = elim (cases_eq e.opener s) [ inl same ↦ of_own same | inr differ ↦ of_other differ ]
      where
        of_own : e.opener ≡ s → AreServed (filter (is_for part) (asked_so_far kept ways s)) (filter (by_opener s) (history_of kept part ++ e ∷ []))
        of_own same =
            let alone : filter (by_opener e.opener) (e ∷ []) ≡ e ∷ [] = rw (eq-eqb e.opener e.opener refl) refl in
            let all : filter (by_opener e.opener) (history_of kept part ++ e ∷ []) ≡ filter (by_opener e.opener) (history_of kept part) ++ e ∷ [] =
            filter-append (by_opener e.opener) (history_of kept part) (e ∷ []) ∙ ap (λ (fs : List Entry). filter (by_opener e.opener) (history_of kept part) ++ fs) alone in
            subst (λ n. AreServed (filter (is_for part) (asked_so_far kept ways n)) (filter (by_opener n) (history_of kept part ++ e ∷ []))) same
            (subst (AreServed (filter (is_for part) (asked_so_far kept ways e.opener))) (sym all) served_own)

        of_other : e.opener ≢ s → AreServed (filter (is_for part) (asked_so_far kept ways s)) (filter (by_opener s) (history_of kept part ++ e ∷ []))
        of_other differ =
            let none : filter (by_opener s) (e ∷ []) ≡ [] = rw (ne_eqb e.opener s differ) refl in
            let all : filter (by_opener s) (history_of kept part ++ e ∷ []) ≡ filter (by_opener s) (history_of kept part) =
            filter-append (by_opener s) (history_of kept part) (e ∷ []) ∙ ap (λ (fs : List Entry). filter (by_opener s) (history_of kept part) ++ fs) none ∙ append-nil (filter (by_opener s) (history_of kept part)) in
            subst (AreServed (filter (is_for part) (asked_so_far kept ways s))) (sym all) (legal.entries_asked.served part s within ls)

    pub served : LegalSoFar script (with_entry kept part e) ways
    served =
        record {
          script_runs = legal.script_runs;
          histories_replay = zipped;
          stamps_drawn = record { rise = legal.stamps_drawn.rise; once = legal.stamps_drawn.once; drawn = legal.stamps_drawn.drawn; in_order = legal.stamps_drawn.in_order };
          entries_asked = record {
            openers = all-set (AllByRecursion (λ (f : Entry). Lies 1 (length script.sessions) f.opener)) kept.histories part (history_of kept part ++ e ∷ [])
                (all_joined (λ (f : Entry). Lies 1 (length script.sessions) f.opener) (history_of kept part) (e ∷ [])
                (all_slice (λ (history : List Entry). AllByRecursion (λ (f : Entry). Lies 1 (length script.sessions) f.opener) history) [] tt kept.histories part legal.entries_asked.openers) (lies, tt)) legal.entries_asked.openers;
            served = λ q s in_it ls. elim (cases_eq q part) [ inl here ↦ at_own q s ls here | inr differ ↦ at_other q s in_it ls differ ];
          };
          logs_begin = record { logs = legal.logs_begin.logs; each = legal.logs_begin.each };
        }
      where
        at_own : (q s : ℕ) → Lies 1 (length script.sessions) s → q ≡ part → AreServed (filter (is_for q) (asked_so_far kept ways s)) (filter (by_opener s) (history_of (with_entry kept part e) q))
        at_own q s ls here =
            subst (λ n. AreServed (filter (is_for n) (asked_so_far kept ways s)) (filter (by_opener s) (history_of (with_entry kept part e) n))) (sym here)
            (subst (λ (fs : List Entry). AreServed (filter (is_for part) (asked_so_far kept ways s)) (filter (by_opener s) fs)) (sym own_now) (served_here s ls))

        at_other : (q s : ℕ) → q < length (with_entry kept part e).histories → Lies 1 (length script.sessions) s → q ≢ part
            → AreServed (filter (is_for q) (asked_so_far kept ways s)) (filter (by_opener s) (history_of (with_entry kept part e) q))
        at_other q s in_it ls differ =
            let same : history_of (with_entry kept part e) q ≡ history_of kept q = seat_other [] kept.histories part q (history_of kept part ++ e ∷ []) differ in
            let in_old : q < length kept.histories = subst (λ n. q < n) (length-set kept.histories part (history_of kept part ++ e ∷ [])) in_it in
            subst (λ (fs : List Entry). AreServed (filter (is_for q) (asked_so_far kept ways s)) (filter (by_opener s) fs)) (sym same) (legal.entries_asked.served q s in_old ls)
