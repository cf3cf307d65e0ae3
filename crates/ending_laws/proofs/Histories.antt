-- Along a history of a record that is legal so far a partition holds keys of the script, and each redrive goes on to one.
use Rattle.std.proofs.Common.{◌≡◌, ◌<◌, ◌-◌, ℕ, List, [], ◌∷◌, ◌++◌, length, true, Some, refl, ap, sym, ◌∙◌, subst}
use Rattle.std.specs.Prelude.{filter, flat_map, slice_get}
use Rattle.std.specs.List.{AllByRecursion}
use Rattle.std.proofs.lemmas.Bool.{eq-eqb, eqb-true}
use Rattle.sql_base.specs.Scripts.{Lies}
use Rattle.sql_base.specs.Tables.{IsStatement}
use Rattle.sql_base.specs.declared.faults.Cause.{Cause}
use Rattle.sql_base.specs.declared.scripts.Script.{Script}
use Rattle.sql_base.specs.declared.scripts.Work.{Work}
use Rattle.sql_base.specs.declared.statements.Statement.{Statement}
use Rattle.sql_base.specs.declared.tables.TableDef.{TableDef}
use Rattle.dp_messages.specs.declared.replies.Reply.TheVariants as reply
use Rattle.dp_messages.specs.declared.requests.Ask.{Ask}
use Rattle.dp_messages.specs.declared.requests.Request.{Request}
use Rattle.partition_state.specs.History.{IsLegal, replay}
use Rattle.partition_state.specs.State.{State}
use Rattle.partition_state.specs.Step.{step}
use Rattle.partition_state.specs.declared.entries.Entry.{Entry}
use Rattle.partition_laws.specs.Keeping.{Keeps}
use Rattle.partition_laws.proofs.RowLaws.{fixed-step}
use Rattle.partition_laws.proofs.Steps.{Keeps-step}
use Rattle.session_grammar.specs.Follows.{asker, works_of}
use Rattle.session_grammar.specs.Rows.{is_for}
use Rattle.session_grammar.specs.UnderWay.{UnderWay, unanswered}
use Rattle.session_grammar.specs.declared.logs.Answer.{Answer}
use Rattle.session_grammar.specs.declared.logs.LogEntry.{LogEntry}
use Rattle.session_grammar.specs.declared.logs.LogEntry.TheVariants.{Asked, Drew}
use Rattle.run_record.specs.Legal.{IsServed}
use Rattle.run_record.specs.Openings.{history_of, log_of, openings}
use Rattle.run_record.specs.declared.records.RunRecord.{RunRecord}
use Rattle.record_laws.specs.SoFar.{LegalSoFar, way_of}
use Rattle.record_laws.proofs.FitsSoFar.{zip_at}
use Rattle.record_laws.proofs.Served.{served_all}
use Rattle.record_laws.proofs.Sessions.{by_opener}
use Rattle.plans_laws.proofs.SpelledHistories.{opening-spelled}
use Rattle.ending_laws.specs.Keys.{inserted_keys, keys_of_script, keys_of_works, loaded_keys}
use Rattle.ending_laws.proofs.Asked.{IsSo, PlanIsSo, asked-so, log-so}
use Rattle.ending_laws.proofs.CellKeys.{IsGood, KeysAre, step-keys}
use Rattle.ending_laws.proofs.Inserts.{GoodHere, plan-good}
use Rattle.ending_laws.proofs.Members.{all_parts, all_swapped}
use Rattle.ending_laws.proofs.Opened.{opened-keys}
use Rattle.ending_laws.proofs.Redrives.{IsOnward, redrive-onward}
use Rattle.sql_base.proofs.ListFacts.{all-weaker, all_left, all_of_both, all_passed, all_right, all_slice, all_through}

module _ (P : List ℕ → Type 0) where
  -- where it was answered with a redrive, its key is one of the kind, behind that of its Continue
  abbrev pub GoesOnward : Entry → Type 0
  GoesOnward e = (n : ℕ) (last : List ℕ) (cause : Cause) (rows : List (List ℕ)) (changed : ℕ) → e.reply ≡ reply.Redrive n last cause rows changed → P last × IsOnward e.request.ask last

  abbrev AreGood : TableDef → List Entry → Type 0
  AreGood table es = AllByRecursion (λ (e : Entry). IsGood P table e.request.ask) es

  history-keys : (p : State) (es : List Entry) → Keeps p → KeysAre P p → IsLegal p es → AreGood p.table es → KeysAre P (replay p es) × AllByRecursion GoesOnward es
  history-keys p [] k h legal good = (h, tt)
  history-keys p (e ∷ es) k h legal good =
      let q = (step p e.opener e.sync e.request).state in
      let table = (fixed-step p e.opener e.sync e.request).table in
      let rest = history-keys q es (Keeps-step p e.opener e.sync e.request legal.0 k) (step-keys P p e.opener e.sync e.request h good.0) legal.2 (subst (λ (t : TableDef). AreGood t es) (sym table) good.1) in
      let here : GoesOnward e = λ n last cause rows changed told. redrive-onward P p e.opener e.sync e.request n last cause rows changed k h (legal.1 ∙ ap Some told) in
      (rest.0, (here, rest.1))

  module _ (script : Script) (all : AllByRecursion P (keys_of_script script)) where
    abbrev IsGoodStatement : Statement → Type 0
    IsGoodStatement s = IsStatement script.tables s × AllByRecursion P (inserted_keys script.tables s)

    loads : AllByRecursion (λ load. AllByRecursion P (loaded_keys script.tables load)) script.loads
    loads = all_parts P (loaded_keys script.tables) script.loads (all_left P (flat_map (loaded_keys script.tables) script.loads) (flat_map (keys_of_works script.tables) script.sessions) all)

    inserts : AllByRecursion (λ (works : List Work). AllByRecursion P (keys_of_works script.tables works)) script.sessions
    inserts = all_parts P (keys_of_works script.tables) script.sessions (all_right P (flat_map (loaded_keys script.tables) script.loads) (flat_map (keys_of_works script.tables) script.sessions) all)

    work-good : (work : Work) → AllByRecursion (IsStatement script.tables) work.statements → AllByRecursion P (flat_map (inserted_keys script.tables) work.statements) → AllByRecursion IsGoodStatement work.statements
    work-good work is keys =
        all_of_both (IsStatement script.tables) (λ s. AllByRecursion P (inserted_keys script.tables s)) IsGoodStatement (λ s a b. (a, b)) work.statements is (all_parts P (inserted_keys script.tables) work.statements keys)

    works-good : (works : List Work) → AllByRecursion (λ (w : Work). AllByRecursion (IsStatement script.tables) w.statements) works → AllByRecursion P (keys_of_works script.tables works)
        → AllByRecursion (λ (w : Work). AllByRecursion IsGoodStatement w.statements) works
    works-good works is keys =
        all_of_both (λ (w : Work). AllByRecursion (IsStatement script.tables) w.statements) (λ (w : Work). AllByRecursion P (flat_map (inserted_keys script.tables) w.statements))
        (λ (w : Work). AllByRecursion IsGoodStatement w.statements) work-good works is (all_parts P (λ (w : Work). flat_map (inserted_keys script.tables) w.statements) works keys)

    module _ (kept : RunRecord) (ways : List UnderWay) (legal : LegalSoFar script kept ways) (part : ℕ) (within : part < length kept.histories) (p : State) (opens : slice_get (openings script) part ≡ Some p) where
      module _ (session : ℕ) (lies : Lies 1 (length script.sessions) session) where
        abbrev S : ℕ → Ask → Type 0
        S = GoodHere P script session part p opens

        session-good : AllByRecursion (λ (w : Work). AllByRecursion IsGoodStatement w.statements) (works_of script session)
        session-good =
            all_slice (λ (works : List Work). AllByRecursion (λ (w : Work). AllByRecursion IsGoodStatement w.statements) works) [] tt script.sessions (session - 1)
            (all_of_both (λ (works : List Work). AllByRecursion (λ (w : Work). AllByRecursion (IsStatement script.tables) w.statements) works) (λ (works : List Work). AllByRecursion P (keys_of_works script.tables works))
            (λ (works : List Work). AllByRecursion (λ (w : Work). AllByRecursion IsGoodStatement w.statements) works) works-good script.sessions legal.script_runs.statements inserts)

        plans-good : AllByRecursion (λ (w : Work). AllByRecursion (PlanIsSo S (asker script session)) w.statements) (works_of script session)
        plans-good =
            all-weaker (λ (w : Work). AllByRecursion IsGoodStatement w.statements) (λ (w : Work). AllByRecursion (PlanIsSo S (asker script session)) w.statements)
            (λ w good.
            all-weaker IsGoodStatement (PlanIsSo S (asker script session)) (λ s g. plan-good P script session part p opens s g.0 g.1) w.statements good) (works_of script session) session-good

        asked-good : AllByRecursion (IsSo S) (log_of kept session ++ unanswered (way_of ways session))
        asked-good =
            let begins = (legal.logs_begin.each session lies).1 in
            let whole = begins.0 in
            let reads = begins.3.1 in
            let so = log-so S (λ q subset last here. tt) (λ q here. tt) (λ q stamp here. tt) (λ q here. tt) (asker script session) (works_of script session) (whole ++ begins.1) begins.3.0 plans-good reads in
            asked-so S (way_of ways session) (log_of kept session) whole begins.2 (all_left (IsSo S) whole begins.1 so)

        abbrev IsGoodEntry : LogEntry → Type 0
        IsGoodEntry (Asked q sync request losses answer) = IsGood P p.table request.ask
        IsGoodEntry (Drew name floor answer) = Unit {0}

        good-here : (e : LogEntry) → IsSo S e → is_for part e ≡ true → IsGoodEntry e
        good-here (Asked q sync request losses answer) so here = so (eqb-true q part here)
        good-here (Drew name floor answer) so here = tt

        own-good : AllByRecursion (λ (e : Entry). e.opener ≡ session → IsGood P p.table e.request.ask) (history_of kept part)
        own-good =
            let log = log_of kept session ++ unanswered (way_of ways session) in
            let of_part = all_through (is_for part) IsGoodEntry log (all-weaker (IsSo S) (λ e. is_for part e ≡ true → IsGoodEntry e) good-here log asked-good) in
            let passed = served_all IsGoodEntry (λ (e : Entry). IsGood P p.table e.request.ask) of_served (filter (is_for part) log) (filter (by_opener session) (history_of kept part)) of_part (legal.entries_asked.served part session within lies) in
            all-weaker (λ (e : Entry). by_opener session e ≡ true → IsGood P p.table e.request.ask) (λ (e : Entry). e.opener ≡ session → IsGood P p.table e.request.ask) (λ e f same. f (eq-eqb e.opener session same)) (history_of kept part)
            (all_passed (by_opener session) (λ (e : Entry). IsGood P p.table e.request.ask) (history_of kept part) passed)
          where
            of_served : (q sync : ℕ) (request : Request) (losses : ℕ) (answer : Answer) (e : Entry) → IsGoodEntry (Asked q sync request losses answer) → IsServed e sync request → IsGood P p.table e.request.ask
            of_served q sync request losses answer e good is = subst (λ (x : Request). IsGood P p.table x.ask) (sym is.1) good

      all-good : AllByRecursion (λ (e : Entry). IsGood P p.table e.request.ask) (history_of kept part)
      all-good =
          let openers = all_slice (λ (history : List Entry). AllByRecursion (λ (e : Entry). Lies 1 (length script.sessions) e.opener) history) [] tt kept.histories part legal.entries_asked.openers in
          all_of_both (λ (e : Entry). Lies 1 (length script.sessions) e.opener) (λ (e : Entry). (n : ℕ) → Lies 1 (length script.sessions) n → e.opener ≡ n → IsGood P p.table e.request.ask)
          (λ (e : Entry). IsGood P p.table e.request.ask) (λ e lies good. good e.opener lies refl) (history_of kept part) openers
          (all_swapped (Lies 1 (length script.sessions)) (λ n (e : Entry). e.opener ≡ n → IsGood P p.table e.request.ask) (history_of kept part) own-good)

      is-legal : IsLegal p (history_of kept part)
      is-legal =
          let found = zip_at IsLegal (openings script) kept.histories [] part legal.histories_replay within in
          let both : Some found.0 ≡ Some p = sym found.1 ∙ opens in
          let same : found.0 ≡ p = cc both in
          subst (λ (q : State). IsLegal q (history_of kept part)) same found.2

      pub kept-keys : KeysAre P (replay p (history_of kept part)) × AllByRecursion GoesOnward (history_of kept part)
      kept-keys = history-keys p (history_of kept part) (opening-spelled script part p legal.script_runs opens).keeps (opened-keys P script loads part p opens) is-legal all-good
