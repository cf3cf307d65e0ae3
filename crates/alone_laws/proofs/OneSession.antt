-- One session alone: the text of its record is that of one thread.
use Rattle.std.proofs.Common.{◌≡◌, ◌<◌, ◌≤◌, ◌+◌, ℕ, zero, suc, max, List, [], ◌∷◌, ◌++◌, length, filter, map, Some, inl, inr, refl, ap, sym, ◌∙◌, subst, arith}
use Rattle.std.specs.Prelude.{◌⊎◌, flat_map, slice_get, unwrap_or}
use Rattle.std.specs.List.{AllByRecursion, AllZip}
use Rattle.std.proofs.lemmas.List.{append-nil}
use Rattle.std.proofs.lemmas.List.Elements.{filter_map-append}
use Rattle.sql_base.specs.Scripts.{IsScript, Lies, parts_of}
use Rattle.sql_base.specs.Tables.{IsStatement}
use Rattle.sql_base.specs.declared.outcomes.Abort.{Abort}
use Rattle.sql_base.specs.declared.outcomes.Abort.TheVariants.{LockedOut}
use Rattle.sql_base.specs.declared.outcomes.Given.{Given}
use Rattle.sql_base.specs.declared.outcomes.Outcome.TheVariants.{Committed, RolledBack, Aborted}
use Rattle.sql_base.specs.declared.scripts.Script.{Script}
use Rattle.sql_base.specs.declared.scripts.Work.{Work}
use Rattle.commit_journal.specs.Journal.{StampsRise}
use Rattle.commit_journal.specs.declared.Drawn.{Drawn}
use Rattle.key_sequenced.specs.Cells.{records}
use Rattle.one_thread.specs.Answer.{answer_text, outcome_of, session_shown, stamp_after, sessions_shown, world_behind}
use Rattle.one_thread.specs.One.{Aborts, Commits, Ending, RollsBack, World, loaded, one_run, run_work, world_after}
use Rattle.one_thread.specs.Text.{run_text, shown_text, tables_text}
use Rattle.partition_state.specs.History.{IsLegal, replay}
use Rattle.partition_state.specs.State.{State}
use Rattle.partition_state.specs.declared.entries.Entry.{Entry}
use Rattle.run_record.specs.Base.{by_table}
use Rattle.run_record.specs.Headline.{AreHeard, IsHeard}
use Rattle.run_record.specs.Legal.{AreServed, Legal, drawn_by, drawn_in}
use Rattle.run_record.specs.Openings.{by_part, history_of, log_of, openings}
use Rattle.run_record.specs.Serial.{final_records, givens_of}
use Rattle.run_record.specs.Text.{IsText, ShowSessions, shown_of}
use Rattle.run_record.specs.declared.records.RunRecord.{RunRecord}
use Rattle.session_grammar.specs.Follows.{AreAttempts, AreTries, Attempt, IsAttempt, IsPart, Reads, asker, entries_of, works_of}
use Rattle.session_grammar.specs.Rows.{is_for}
use Rattle.session_grammar.specs.declared.logs.LogEntry.{LogEntry}
use Rattle.record_laws.proofs.FiveFacts.{as_many, within_tables}
use Rattle.serial_laws.proofs.AtParts.{legal_at}
use Rattle.alone_laws.specs.Laws.{AloneIsOneThread}
use Rattle.alone_laws.specs.Scaffold.Served.{Replies, served_by}
use Rattle.alone_laws.specs.Scaffold.States.{AllCalm, AllReply, AreOpen, IsFault, behind, views, world_of}
use Rattle.alone_laws.proofs.AttemptSteps.{Comes, EndsAs, attempt_comes}
use Rattle.alone_laws.proofs.HistoriesFollow.{Follows, all_one, follows_log, own_whole}
use Rattle.alone_laws.proofs.OneJournal.{journal_is}
use Rattle.alone_laws.proofs.OpenTables.{opened_calm, opened_open, opened_world}
use Rattle.alone_laws.proofs.StatesBehind.{behind_nothing, behind_twice, open_behind, reply_behind, reply_front}
use Rattle.sql_base.proofs.ListFacts.{all-filter, all_left, all_right, all_slice, zip_length}

module _ (script : Script) (is : IsScript script) where
  -- what a session shows, and the tables behind it
  record Tells (works : List Work) (attempts : List Attempt) (ordinal top : ℕ) (qs : List State) : Type 0 where
    text : flat_map shown_text (map (shown_of (asker script 1)) attempts) ≡ flat_map shown_text (session_shown 1 ordinal (top + 1) (one_run works (world_of script.tables qs)))
    world : world_after works (world_of script.tables qs) ≡ world_of script.tables (behind 0 qs (flat_map entries_of attempts))

  abbrev Suits : Work → Type 0
  Suits work = AllByRecursion (IsStatement script.tables) work.statements

  own_attempt : (work : Work) (ordinal : ℕ) (a : Attempt) → IsAttempt IsPart (asker script 1) work ordinal a → IsAttempt IsPart (asker script 1) a.work a.ordinal a
  own_attempt work ordinal a h =
      let of = subst (λ (x : Work). IsAttempt IsPart (asker script 1) x ordinal a) (sym h.of_work) h in
      subst (λ (n : ℕ). IsAttempt IsPart (asker script 1) a.work n a) (sym h.numbered) of

  -- what of the log draws stamps
  drawn_front : (top : ℕ) (xs ys : List LogEntry) (ds : List Drawn) → drawn_in xs ≡ ds → StampsRise top (drawn_in (xs ++ ys)) → StampsRise top (ds ++ drawn_in ys)
  drawn_front top xs ys ds drew rise = subst (StampsRise top) (filter_map-append drawn_by xs ys ∙ ap (λ l. l ++ drawn_in ys) drew) rise

  module _ (a : Attempt) (attempt : IsAttempt IsPart (asker script 1) a.work a.ordinal a) (suits : AllByRecursion (IsStatement script.tables) a.work.statements) (more : List LogEntry) (top : ℕ) (qs : List State) (open_qs : AreOpen script qs)
      (calm : AllCalm top qs) (replies : AllReply qs ((entries_of a) ++ more)) (heard : AreHeard ((entries_of a) ++ more)) (rise : StampsRise top (drawn_in ((entries_of a) ++ more))) where
    replies_here : AllReply qs (entries_of a)
    replies_here = reply_front qs (entries_of a) more replies

    heard_here : AreHeard (entries_of a)
    heard_here = all_left IsHeard (entries_of a) more heard

    rises_here : (d : Drawn) → drawn_in (entries_of a) ≡ d ∷ [] → top ≤ d.stamp
    rises_here d drew =
        let h = drawn_front top (entries_of a) more (d ∷ []) drew rise in
        let is_next : d.stamp ≡ max top d.floor + 1 = h.0 in omega arith

    abbrev Came : Type 0
    Came = Comes script is a attempt suits qs open_qs top calm replies_here heard_here rises_here

    came : Came
    came = attempt_comes script is a attempt suits qs open_qs top calm replies_here heard_here rises_here

    abbrev Ended : Ending → List Given → Type 0
    Ended = EndsAs script is a attempt suits qs open_qs top calm replies_here heard_here rises_here

    -- no attempt is locked out
    not_locked : a.outcome ≡ Aborted LockedOut → ⊥
    not_locked out = by_ending (run_work (world_of script.tables qs) a.work).ending (run_work (world_of script.tables qs) a.work).given came.ending
      where
        by_ending : (ending : Ending) (given : List Given) → Ended ending given → ⊥
        by_ending Commits given (d, drew, low, outcome, given_is, calm_next) = let both : Committed d.stamp ≡ Aborted LockedOut = sym outcome ∙ out in cc
        by_ending RollsBack given (drew, outcome, given_is, calm_next) = let both : RolledBack ≡ Aborted LockedOut = sym outcome ∙ out in cc
        by_ending (Aborts abort) given (drew, outcome, fault, calm_next) =
            let both : Aborted abort ≡ Aborted LockedOut = sym outcome ∙ out in
            let same : abort ≡ LockedOut = cc in
            subst IsFault same fault

    -- what it shows, and what follows
    tells_more : (works : List Work) (rest : List Attempt) → flat_map entries_of rest ≡ more
        → ((next : ℕ) → AllCalm next (behind 0 qs (entries_of a)) → StampsRise next (drawn_in more) → Tells works rest (a.ordinal + 1) next (behind 0 qs (entries_of a)))
        → Tells (a.work ∷ works) (a ∷ rest) a.ordinal top qs
    tells_more works rest more_is later = by_ending (run_work (world_of script.tables qs) a.work).ending refl (run_work (world_of script.tables qs) a.work).given refl came.ending
      where
        behind_all : behind 0 (behind 0 qs (entries_of a)) (flat_map entries_of rest) ≡ behind 0 qs (flat_map entries_of (a ∷ rest))
        behind_all = behind_twice 0 qs (entries_of a) (flat_map entries_of rest)

        -- with the next stamp and what it shows
        with_next : (next : ℕ) → stamp_after (top + 1) (run_work (world_of script.tables qs) a.work).ending ≡ next + 1
            → shown_text (shown_of (asker script 1) a)
            ≡ shown_text (record { session = 1; ordinal = a.ordinal; outcome = outcome_of (top + 1) (run_work (world_of script.tables qs) a.work).ending; given = (run_work (world_of script.tables qs) a.work).given })
            → Tells works rest (a.ordinal + 1) next (behind 0 qs (entries_of a)) → Tells (a.work ∷ works) (a ∷ rest) a.ordinal top qs
        with_next next stamps shows tells = record {
          text = (λ i. shows i ++ tells.text i)
              ∙ (λ i. shown_text (record { session = 1; ordinal = a.ordinal; outcome = outcome_of (top + 1) (run_work (world_of script.tables qs) a.work).ending; given = (run_work (world_of script.tables qs) a.work).given })
              ++ flat_map shown_text (session_shown 1 (a.ordinal + 1) (sym stamps i) (one_run works (sym came.world i))));
          world = ap (world_after works) came.world ∙ tells.world ∙ ap (world_of script.tables) behind_all;
        }

        by_ending : (ending : Ending) → (run_work (world_of script.tables qs) a.work).ending ≡ ending → (given : List Given) → (run_work (world_of script.tables qs) a.work).given ≡ given → Ended ending given → Tells (a.work ∷ works) (a ∷ rest) a.ordinal top qs
        by_ending Commits e given g (d, drew, low, outcome, given_is, calm_next) =
            let h = drawn_front top (entries_of a) more (d ∷ []) drew rise in
            let is_next : d.stamp ≡ max top d.floor + 1 = h.0 in
            let one_more : d.stamp ≡ top + 1 = omega arith in
            let shows : shown_of (asker script 1) a ≡ record { session = 1; ordinal = a.ordinal; outcome = outcome_of (top + 1) (run_work (world_of script.tables qs) a.work).ending; given = (run_work (world_of script.tables qs) a.work).given } =
            λ i. record { session = 1; ordinal = a.ordinal; outcome = (outcome ∙ ap Committed one_more ∙ ap (outcome_of (top + 1)) (sym e)) i; given = (sym given_is ∙ sym g) i } in
            with_next d.stamp (ap (stamp_after (top + 1)) e ∙ ap (λ n. n + 1) (sym one_more)) (ap shown_text shows) (later d.stamp calm_next h.1)
        by_ending RollsBack e given g (drew, outcome, given_is, calm_next) =
            let h = drawn_front top (entries_of a) more [] drew rise in
            let shows : shown_of (asker script 1) a ≡ record { session = 1; ordinal = a.ordinal; outcome = outcome_of (top + 1) (run_work (world_of script.tables qs) a.work).ending; given = (run_work (world_of script.tables qs) a.work).given } =
            λ i. record { session = 1; ordinal = a.ordinal; outcome = (outcome ∙ ap (outcome_of (top + 1)) (sym e)) i; given = (sym given_is ∙ sym g) i } in
            with_next top (ap (stamp_after (top + 1)) e) (ap shown_text shows) (later top calm_next h)
        by_ending (Aborts abort) e given g (drew, outcome, fault, calm_next) =
            let h = drawn_front top (entries_of a) more [] drew rise in
            let shows : shown_text (shown_of (asker script 1) a)
            ≡ shown_text (record { session = 1; ordinal = a.ordinal; outcome = outcome_of (top + 1) (run_work (world_of script.tables qs) a.work).ending; given = (run_work (world_of script.tables qs) a.work).given }) =
            (λ i. shown_text (record { session = 1; ordinal = a.ordinal; outcome = outcome i; given = givens_of (asker script 1) a.work.statements a.parts }))
            ∙ same_text a.ordinal abort (givens_of (asker script 1) a.work.statements a.parts) (run_work (world_of script.tables qs) a.work).given
            ∙ (λ i. shown_text (record { session = 1; ordinal = a.ordinal; outcome = ap (outcome_of (top + 1)) (sym e) i; given = (run_work (world_of script.tables qs) a.work).given })) in
            with_next top (ap (stamp_after (top + 1)) e) shows (later top calm_next h)
          where
            -- an aborted attempt shows no results
            same_text : (ordinal : ℕ) (abort : Abort) (xs ys : List Given) → shown_text (record { session = 1; ordinal = ordinal; outcome = Aborted abort; given = xs }) ≡ shown_text (record { session = 1; ordinal = ordinal; outcome = Aborted abort; given = ys })
            same_text ordinal abort xs ys = refl

  -- the attempts of all transactions
  attempts_tell : (works : List Work) (attempts : List Attempt) (ordinal top : ℕ) (qs : List State) → AllByRecursion Suits works → AreAttempts IsPart (asker script 1) ordinal works attempts → AreOpen script qs → AllCalm top qs
      → AllReply qs (flat_map entries_of attempts) → AreHeard (flat_map entries_of attempts) → StampsRise top (drawn_in (flat_map entries_of attempts)) → Tells works attempts ordinal top qs
  attempts_tell [] attempts ordinal top qs suits are open_qs calm replies heard rise =
      subst (λ xs. Tells [] xs ordinal top qs) (sym are) (record { text = refl; world = ap (world_of script.tables) (sym (behind_nothing 0 qs)) })
  attempts_tell (work ∷ works) attempts ordinal top qs suits (tries, rest, attempts_is, are_tries, are_rest) open_qs calm replies heard rise =
      subst (λ xs. Tells (work ∷ works) xs ordinal top qs) (sym attempts_is)
      (by_tries tries script.limits.restart are_tries are_rest (subst (λ xs. AllReply qs (flat_map entries_of xs)) attempts_is replies) (subst (λ xs. AreHeard (flat_map entries_of xs)) attempts_is heard)
      (subst (λ xs. StampsRise top (drawn_in (flat_map entries_of xs))) attempts_is rise)
      (λ next after o c r h s. attempts_tell works rest next.0 next.1 after suits.1 o.1 o.0 c r h s))
    where
      by_tries : (tries : List Attempt) (more : ℕ) → AreTries IsPart (asker script 1) work ordinal more tries → AreAttempts IsPart (asker script 1) (ordinal + length tries) works rest
          → AllReply qs (flat_map entries_of (tries ++ rest)) → AreHeard (flat_map entries_of (tries ++ rest)) → StampsRise top (drawn_in (flat_map entries_of (tries ++ rest)))
          → ((next : ℕ × ℕ) (after : List State) → AreOpen script after × AreAttempts IsPart (asker script 1) next.0 works rest → AllCalm next.1 after → AllReply after (flat_map entries_of rest) → AreHeard (flat_map entries_of rest)
          → StampsRise next.1 (drawn_in (flat_map entries_of rest)) → Tells works rest next.0 next.1 after)
          → Tells (work ∷ works) (tries ++ rest) ordinal top qs
      by_tries [] more are_tries are_rest replies heard rise later = absurd are_tries
      by_tries (a ∷ []) more are_tries are_rest replies heard rise later =
          let h = are_tries.0 in
          let own = own_attempt work ordinal a h in
          let suits_a = subst (λ (x : Work). AllByRecursion (IsStatement script.tables) x.statements) (sym h.of_work) suits.0 in
          let next_is : ordinal + length (a ∷ []) ≡ a.ordinal + 1 = (let numbered = h.numbered in omega arith) in
          let tells = tells_more a own suits_a (flat_map entries_of rest) top qs open_qs calm replies heard rise works rest refl
          (λ next calm_next rise_next. later (a.ordinal + 1, next) (behind 0 qs (entries_of a)) (open_behind script qs (entries_of a) open_qs, subst (λ n. AreAttempts IsPart (asker script 1) n works rest) next_is are_rest) calm_next
          (reply_behind qs (entries_of a) (flat_map entries_of rest) replies) (all_right IsHeard (entries_of a) (flat_map entries_of rest) heard) rise_next) in
          subst (λ n. Tells (work ∷ works) (a ∷ rest) n top qs) h.numbered (subst (λ x. Tells (x ∷ works) (a ∷ rest) a.ordinal top qs) h.of_work tells)
      by_tries (a ∷ b ∷ tries) zero are_tries are_rest replies heard rise later = absurd are_tries
      by_tries (a ∷ b ∷ tries) (suc more) are_tries are_rest replies heard rise later =
          let h = are_tries.0 in
          let own = own_attempt work ordinal a h in
          let suits_a = subst (λ (x : Work). AllByRecursion (IsStatement script.tables) x.statements) (sym h.of_work) suits.0 in
          absurd (not_locked a own suits_a (flat_map entries_of ((b ∷ tries) ++ rest)) top qs open_qs calm replies heard rise are_tries.1)

-- the states at the end are those that the histories lead to
ends_alike : (ps : List State) (hs : List (List Entry)) (i : ℕ) (log : List LogEntry) → AllZip IsLegal ps hs → ((k : ℕ) (p : State) → slice_get ps k ≡ Some p → replay p (unwrap_or (slice_get hs k) []) ≡ served_by p (filter (is_for (i + k)) log))
    → by_part (λ p history. records (replay p history).cells) ps hs ≡ views (behind i ps log)
ends_alike [] hs i log legal each = refl
ends_alike (p ∷ ps) [] i log legal each = absurd legal
ends_alike (p ∷ ps) (h ∷ hs) i log legal each =
    let head : replay p h ≡ served_by p (filter (is_for i) log) = each 0 p refl ∙ ap (λ n. served_by p (filter (is_for n) log)) (let e : i + 0 ≡ i = omega arith in e) in
    let tail = ends_alike ps hs (suc i) log legal.1 (λ k q at. each (suc k) q at ∙ ap (λ n. served_by q (filter (is_for n) log)) (let e : i + suc k ≡ suc i + k = omega arith in e)) in
    λ j. records (head j).cells ∷ tail j

module _ (script : Script) (kept : RunRecord) (legal : Legal script kept) (one : length script.sessions ≡ 1) (heard : AreHeard (log_of kept 1)) where
  lies : Lies 1 (length script.sessions) 1
  lies = (omega arith, omega arith)

  -- each history is what was asked of its partition
  follows_at : (k : ℕ) (p : State) → slice_get (openings script) k ≡ Some p → Follows p (history_of kept k) (filter (is_for k) (log_of kept 1))
  follows_at k p there =
      let l = legal_at (openings script) kept.histories k p legal.histories_replay there in
      let openers : AllByRecursion (λ e. Lies 1 (length script.sessions) e.opener) (history_of kept k) =
      all_slice (λ history. AllByRecursion (λ e. Lies 1 (length script.sessions) e.opener) history) [] tt kept.histories k legal.entries_asked.openers in
      let own = all_one (history_of kept k) (subst (λ n. AllByRecursion (λ e. Lies 1 n e.opener) (history_of kept k)) one openers) in
      let served = legal.entries_asked.served k 1 l.within lies in
      follows_log (filter (is_for k) (log_of kept 1)) p (history_of kept k) (all-filter IsHeard (is_for k) (log_of kept 1) heard) l.legal own (subst (AreServed (filter (is_for k) (log_of kept 1))) (own_whole (history_of kept k) own) served)

  long : length (openings script) ≡ length kept.histories
  long = zip_length IsLegal (openings script) kept.histories legal.histories_replay

  few : length (openings script) ≤ parts_of script.tables
  few = by_order (grind arith)
    where
      by_order : (length (openings script) ≤ parts_of script.tables) ⊎ (parts_of script.tables < length (openings script)) → length (openings script) ≤ parts_of script.tables
      by_order (inl h) = h
      by_order (inr h) =
          let same = long in
          absurd (let below : parts_of script.tables < parts_of script.tables = within_tables script kept legal.histories_replay (parts_of script.tables) (omega arith) in omega arith)

  is_open : AreOpen script (openings script)
  is_open = opened_open script legal.script_runs (let same = long in let many = as_many script kept legal.histories_replay in omega arith) few

  module _ (works : List Work) (sessions_are : script.sessions ≡ works ∷ []) where
    works_are : works_of script 1 ≡ works
    works_are = ap (λ s. unwrap_or (slice_get s 0) []) sessions_are

    suits : AllByRecursion (λ work. AllByRecursion (IsStatement script.tables) work.statements) works
    suits = (subst (AllByRecursion (λ works. AllByRecursion (λ work. AllByRecursion (IsStatement script.tables) work.statements) works)) sessions_are legal.script_runs.statements).0

    reading : (attempts : List Attempt) × Reads IsPart (asker script 1) works (log_of kept 1) attempts
    reading =
        let f = legal.logs_follow.each 1 lies in
        (f.0, subst (λ w. Reads IsPart (asker script 1) w (log_of kept 1) f.0) works_are f.1)

    tells : Tells script legal.script_runs works reading.0 1 0 (openings script)
    tells =
        let log_is : log_of kept 1 ≡ flat_map entries_of reading.0 = reading.1.entries in
        attempts_tell script legal.script_runs works reading.0 1 0 (openings script) suits reading.1.attempts_are is_open (opened_calm script legal.script_runs)
        (λ k p there. subst (λ log. Replies p (filter (is_for k) log)) log_is (follows_at k p there).replies)
        (subst AreHeard log_is heard)
        (subst (λ log. StampsRise 0 (drawn_in log)) log_is (subst (StampsRise 0) (sym (journal_is kept legal.stamps_drawn (legal.logs_follow.logs ∙ one))) legal.stamps_drawn.rise))

    ends_are : final_records script kept ≡ (world_after works (loaded script)).records
    ends_are =
        let log_is : log_of kept 1 ≡ flat_map entries_of reading.0 = reading.1.entries in
        let last = ends_alike (openings script) kept.histories 0 (log_of kept 1) legal.histories_replay
        (λ k p there. (follows_at k p there).replayed ∙ ap (λ n. served_by p (filter (is_for n) (log_of kept 1))) (let e : k ≡ 0 + k = omega arith in e)) in
        ap (by_table script.tables) last
        ∙ ap (λ log. by_table script.tables (views (behind 0 (openings script) log))) log_is
        ∙ ap (λ (w : World). w.records) (sym tells.world)
        ∙ ap (λ w. (world_after works w).records) (opened_world script legal.script_runs)

    pub is_text : IsText script kept (answer_text script)
    is_text = (
      map (shown_of (asker script 1)) reading.0 ++ [],
      subst (λ s. ShowSessions script kept 1 s (map (shown_of (asker script 1)) reading.0 ++ [])) (sym sessions_are) (reading.0, [], reading.1, refl, refl),
      ap (λ s. run_text script.tables (sessions_shown 1 1 s (loaded script)) (world_behind s (loaded script)).records) sessions_are
          ∙ (λ i. flat_map shown_text (append-nil (session_shown 1 1 1 (one_run works (loaded script))) i) ++ tables_text script.tables (world_after works (loaded script)).records)
          ∙ (λ i. flat_map shown_text (session_shown 1 1 1 (one_run works (sym (opened_world script legal.script_runs) i))) ++ tables_text script.tables (world_after works (loaded script)).records)
          ∙ (λ i. sym tells.text i ++ tables_text script.tables (sym ends_are i))
          ∙ (λ i. flat_map shown_text (sym (append-nil (map (shown_of (asker script 1)) reading.0)) i) ++ tables_text script.tables (final_records script kept)),
    )

-- one session
one_list : (sessions : List (List Work)) → length sessions ≡ 1 → (works : List Work) × (sessions ≡ works ∷ [])
one_list [] h = absurd (omega arith)
one_list (works ∷ []) h = (works, refl)
one_list (works ∷ other ∷ sessions) h = absurd (omega arith)

-- where one session worked alone and lost no path, its text is that of one thread
pub alone_is_one_thread : AloneIsOneThread
alone_is_one_thread script kept legal one heard = let s = one_list script.sessions one in is_text script kept legal one heard s.0 s.1
