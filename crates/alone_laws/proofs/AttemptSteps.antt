-- An attempt of the one session comes to what its transaction comes to in one thread.
use Rattle.std.proofs.Common.{◌≡◌, ◌≤◌, ◌+◌, ℕ, List, [], ◌∷◌, ◌++◌, filter, Bool, true, false, Option, Some, None, inl, inr, refl, ap, sym, ◌∙◌, subst, arith}
use Rattle.std.specs.Prelude.{◌⊎◌, option_map, slice_get, unwrap_or, if◌then◌else◌}
use Rattle.std.specs.List.{AllByRecursion}
use Rattle.std.proofs.lemmas.List.Elements.{filter_map-append}
use Rattle.sql_base.specs.Scripts.{IsScript}
use Rattle.sql_base.specs.Tables.{IsStatement}
use Rattle.sql_base.specs.declared.lock_names.TxnName.{TxnName}
use Rattle.sql_base.specs.declared.outcomes.Abort.{Abort}
use Rattle.sql_base.specs.declared.outcomes.Outcome.TheVariants.{Committed, RolledBack, Aborted}
use Rattle.sql_base.specs.declared.scripts.Script.{Script}
use Rattle.commit_journal.specs.declared.Drawn.{Drawn}
use Rattle.dp_messages.specs.declared.requests.Ask.TheVariants.{Prepare, EndUndo, EndCommit}
use Rattle.dp_messages.specs.declared.requests.Request.{Request}
use Rattle.key_sequenced.specs.Cells.{Keyed, records}
use Rattle.one_thread.specs.One.{Aborts, Commits, Ending, Ran, RollsBack, World, ends, run_work}
use Rattle.partition_state.specs.State.{State}
use Rattle.run_record.specs.Base.{by_table}
use Rattle.run_record.specs.Headline.{AreHeard, IsHeard}
use Rattle.run_record.specs.Legal.{drawn_by, drawn_in}
use Rattle.run_record.specs.Serial.{givens_of}
use Rattle.session_grammar.specs.Follows.{AreEnds, Attempt, Commits as IsCommit, InTurn, IsAttempt, IsEnding, IsPart, LosesPrepare, asker, entries_of, greatest_of, joined, touched}
use Rattle.session_grammar.specs.Plans.{Asker}
use Rattle.session_grammar.specs.Rows.{IsAsked, is_for}
use Rattle.session_grammar.specs.declared.logs.Answer.TheVariants.{Reply, PathFailed, Stamp}
use Rattle.session_grammar.specs.declared.logs.LogEntry.{LogEntry}
use Rattle.session_grammar.specs.declared.logs.LogEntry.TheVariants.{Asked, Drew}
use Rattle.session_grammar.proofs.Readings.{AreAsked, ends-asked, prepares-asked}
use Rattle.record_laws.proofs.Attempts.{IsWork, parts-work}
use Rattle.alone_laws.specs.Scaffold.Served.{Calm, Lively, served_by}
use Rattle.alone_laws.specs.Scaffold.States.{AllCalm, AllLively, AllReply, AreOpen, IsFault, behind, views, world_of}
use Rattle.alone_laws.proofs.AttemptEndings.{committed_at, floor_low, undone_at}
use Rattle.alone_laws.proofs.OneLive.{calm-lively}
use Rattle.alone_laws.proofs.StatesBehind.{behind_nothing, came_from, reply_front, views_alike}
use Rattle.alone_laws.proofs.StatementRuns.{RunsTo, statements_run}
use Rattle.sql_base.specs.declared.outcomes.Given.{Given}
use Rattle.record_laws.proofs.Drawing.{drawn_none}
use Rattle.sql_base.proofs.ListFacts.{all_right}

work_asked : (ordinal : ℕ) (es : List LogEntry) → AllByRecursion (IsWork ordinal) es → AreAsked es
work_asked ordinal [] h = tt
work_asked ordinal (Asked part sync request losses answer ∷ es) h = (tt, work_asked ordinal es h.1)
work_asked ordinal (Drew name floor answer ∷ es) h = absurd h.0

-- a path that was lost isn't heard
lost_heard : (part : ℕ) (request : Request) (e : LogEntry) → IsAsked part request PathFailed e → IsHeard e → ⊥
lost_heard part request (Asked p sync q losses (Reply r)) h heard = absurd (cc (h.2))
lost_heard part request (Asked p sync q losses PathFailed) h heard = heard
lost_heard part request (Asked p sync q losses (Stamp stamp)) h heard = absurd (cc (h.2))
lost_heard part request (Drew name floor answer) h heard = h

module _ (script : Script) (is : IsScript script) (a : Attempt) (attempt : IsAttempt IsPart (asker script 1) a.work a.ordinal a) (suits : AllByRecursion (IsStatement script.tables) a.work.statements) (qs : List State) (open_qs : AreOpen script qs)
    (top : ℕ) (calm : AllCalm top qs) (replies : AllReply qs (entries_of a)) (heard : AreHeard (entries_of a))
    (rises : (d : Drawn) → drawn_in (entries_of a) ≡ d ∷ [] → top ≤ d.stamp) where
  abbrev r : Asker
  r = asker script 1

  abbrev t : TxnName
  t = record { session = 1; ordinal = a.ordinal }

  abbrev w : World
  w = world_of script.tables qs

  abbrev after : List State
  after = behind 0 qs (entries_of a)

  -- how it ended
  abbrev pub EndsAs : Ending → List Given → Type 0
  EndsAs Commits given =
      (d : Drawn) × (drawn_in (entries_of a) ≡ d ∷ []) × (d.floor ≤ top) × (a.outcome ≡ Committed d.stamp) × (given ≡ givens_of r a.work.statements a.parts)
      × AllCalm d.stamp after
  EndsAs RollsBack given =
      (drawn_in (entries_of a) ≡ []) × (a.outcome ≡ RolledBack) × (given ≡ givens_of r a.work.statements a.parts) × AllCalm top after
  EndsAs (Aborts abort) given =
      (drawn_in (entries_of a) ≡ []) × (a.outcome ≡ Aborted abort) × IsFault abort × AllCalm top after

  pub record Comes : Type 0 where
    pub world : (run_work w a.work).world ≡ world_of script.tables after
    pub ending : EndsAs (run_work w a.work).ending (run_work w a.work).given

  comes_by : (ran : Ran) → run_work w a.work ≡ ran → ran.world ≡ world_of script.tables after → EndsAs ran.ending ran.given → Comes
  comes_by ran same world ending = record { world = ap (λ (x : Ran). x.world) same ∙ world; ending = subst (λ (x : Ran). EndsAs x.ending x.given) (sym same) ending }

  bases : ℕ → List Keyed
  bases k = unwrap_or (option_map (λ q. records q.cells) (slice_get qs k)) []

  lively : AllLively t bases top qs
  unfolding bases
  lively k q there =
      subst (λ base. Lively t base top q) (sym (ap (λ o. unwrap_or (option_map (λ (q : State). records q.cells) o) []) there)) (calm-lively t top q (calm k q there))

  work : (end : Option Abort) → InTurn (IsPart r a.ordinal) a.work.statements a.parts end → AllByRecursion (IsWork a.ordinal) (joined a.parts)
  work end turns = parts-work r a.ordinal a.work.statements a.parts end turns

  ran_to : (end : Option Abort) → InTurn (IsPart r a.ordinal) a.work.statements a.parts end
      → RunsTo script is a.ordinal t refl bases top w a.work.commit [] a.work.statements a.parts qs end
  ran_to end turns =
      statements_run script is a.ordinal t refl bases top w a.work.commit [] a.work.statements a.parts qs end suits turns open_qs lively (reply_front qs (joined a.parts) a.ending replies)

  -- undone
  module _ (works : AllByRecursion (IsWork a.ordinal) (joined a.parts)) (undo : AreEnds a.ordinal EndUndo (touched r a) a.ending) where
    undone_calm : AllCalm top after
    undone_calm k q there =
        let c = came_from 0 qs (entries_of a) k q there in
        let zero_k : 0 + k ≡ k = omega arith in
        subst (Calm top) (sym (c.same ∙ ap (λ n. served_by c.before (filter (is_for n) (entries_of a))) zero_k)) (undone_at script a qs open_qs top calm replies works undo k c.before c.there).0

    undone_world : w ≡ world_of script.tables after
    undone_world =
        let same = views_alike (entries_of a) [] qs 0
        (λ k q there. let zero_k : k ≡ 0 + k = omega arith in subst (λ n. records (served_by q (filter (is_for n) (entries_of a))).cells ≡ records q.cells) zero_k (undone_at script a qs open_qs top calm replies works undo k q there).1) in
        λ i. record { tables = script.tables; records = by_table script.tables ((sym (same ∙ ap views (behind_nothing 0 qs))) i) }

    undone_drawn : drawn_in (entries_of a) ≡ []
    undone_drawn =
        filter_map-append drawn_by (joined a.parts) a.ending
        ∙ (λ i. drawn_none (joined a.parts) (work_asked a.ordinal (joined a.parts) works) i ++ drawn_none a.ending (ends-asked a.ordinal EndUndo (touched r a) a.ending undo) i)

  fails : (abort : Abort) → InTurn (IsPart r a.ordinal) a.work.statements a.parts (Some abort) → AreEnds a.ordinal EndUndo (touched r a) a.ending → a.outcome ≡ Aborted abort → Comes
  fails abort turns undo outcome =
      let ran = ran_to (Some abort) turns in
      let works = work (Some abort) turns in
      comes_by (record { ending = Aborts abort; given = []; world = w }) ran.1 (undone_world works undo) (undone_drawn works undo, outcome, ran.0, undone_calm works undo)

  rolls_back : a.work.commit ≡ false → InTurn (IsPart r a.ordinal) a.work.statements a.parts None → AreEnds a.ordinal EndUndo (touched r a) a.ending → a.outcome ≡ RolledBack → Comes
  rolls_back back turns undo outcome =
      let works = work None turns in
      let ran = ran_to None turns ∙ (λ i. record {
        ending = ends (back i);
        given = givens_of r a.work.statements a.parts;
        world = if back i then world_of script.tables (behind 0 qs (joined a.parts)) else w;
      }) in
      comes_by (record { ending = RollsBack; given = givens_of r a.work.statements a.parts; world = w }) ran (undone_world works undo) (undone_drawn works undo, outcome, refl, undone_calm works undo)

  commits : a.work.commit ≡ true → InTurn (IsPart r a.ordinal) a.work.statements a.parts None → IsCommit r a → Comes
  commits commit turns c =
      let works = work None turns in
      let ran = ran_to None turns ∙ (λ i. record {
        ending = ends (commit i);
        given = givens_of r a.work.statements a.parts;
        world = if commit i then world_of script.tables (behind 0 qs (joined a.parts)) else w;
      }) in
      comes_by (record { ending = Commits; given = givens_of r a.work.statements a.parts; world = world_of script.tables (behind 0 qs (joined a.parts)) }) ran (kept_world works) (d, drew works, floor_low script a qs open_qs top calm replies works c.floors c.stamp c.prepares c.ends c.ending_is c.prepared c.ended, c.outcome_is, refl, kept_calm works)
    where
      d : Drawn
      d = record { name = t; floor = greatest_of c.floors; stamp = c.stamp }

      drew : AllByRecursion (IsWork a.ordinal) (joined a.parts) → drawn_in (entries_of a) ≡ record { name = t; floor = greatest_of c.floors; stamp = c.stamp } ∷ []
      drew works =
          filter_map-append drawn_by (joined a.parts) a.ending
          ∙ ap (λ l. l ++ drawn_in a.ending) (drawn_none (joined a.parts) (work_asked a.ordinal (joined a.parts) works))
          ∙ ap drawn_in c.ending_is
          ∙ filter_map-append drawn_by c.prepares (Drew t (greatest_of c.floors) (Stamp c.stamp) ∷ c.ends)
          ∙ ap (λ l. l ++ drawn_in (Drew t (greatest_of c.floors) (Stamp c.stamp) ∷ c.ends)) (drawn_none c.prepares (prepares-asked a.ordinal (touched r a) c.prepares c.floors c.prepared))
          ∙ ap (λ l. record { name = t; floor = greatest_of c.floors; stamp = c.stamp } ∷ l) (drawn_none c.ends (ends-asked a.ordinal (EndCommit c.stamp) (touched r a) c.ends c.ended))

      kept_at : AllByRecursion (IsWork a.ordinal) (joined a.parts) → (k : ℕ) (q : State) → slice_get qs k ≡ Some q
          → Calm c.stamp (served_by q (filter (is_for k) (entries_of a))) × (records (served_by q (filter (is_for k) (entries_of a))).cells ≡ records (served_by q (filter (is_for k) (joined a.parts))).cells)
      kept_at works k q there =
          committed_at script a qs open_qs top calm replies works c.floors c.stamp c.prepares c.ends c.ending_is c.prepared c.ended
          (rises (record { name = t; floor = greatest_of c.floors; stamp = c.stamp }) (drew works)) k q there

      kept_calm : AllByRecursion (IsWork a.ordinal) (joined a.parts) → AllCalm c.stamp after
      kept_calm works k q there =
          let came = came_from 0 qs (entries_of a) k q there in
          let zero_k : 0 + k ≡ k = omega arith in
          subst (Calm c.stamp) (sym (came.same ∙ ap (λ n. served_by came.before (filter (is_for n) (entries_of a))) zero_k))
          (kept_at works k came.before came.there).0

      kept_world : AllByRecursion (IsWork a.ordinal) (joined a.parts) → world_of script.tables (behind 0 qs (joined a.parts)) ≡ world_of script.tables after
      kept_world works =
          let same = views_alike (entries_of a) (joined a.parts) qs 0
          (λ k q there. let zero_k : k ≡ 0 + k = omega arith in
          subst (λ n. records (served_by q (filter (is_for n) (entries_of a))).cells ≡ records (served_by q (filter (is_for n) (joined a.parts))).cells) zero_k
          (kept_at works k q there).1) in
          λ i. record { tables = script.tables; records = by_table script.tables ((sym same) i) }

  pub attempt_comes : Comes
  attempt_comes = by_end attempt.parts_and_ending.0 a.work.commit refl attempt.parts_and_ending.1 attempt.parts_and_ending.2
    where
      loses : LosesPrepare r a → ⊥
      loses l =
          let ending_heard = all_right IsHeard (joined a.parts) a.ending heard in
          let lost_part = all_right IsHeard l.prepares (l.lost ∷ l.ends) (subst (AllByRecursion IsHeard) l.ending_is ending_heard) in
          lost_heard l.part (record { ordinal = a.ordinal; ask = Prepare }) l.lost l.lost_is lost_part.0

      by_end : (end : Option Abort) (commit : Bool) → a.work.commit ≡ commit → InTurn (IsPart r a.ordinal) a.work.statements a.parts end → IsEnding r a end a.work.commit → Comes
      by_end (Some abort) commit e turns (undo, outcome) = fails abort turns undo outcome
      by_end None false e turns ending = let h = subst (IsEnding r a None) e ending in rolls_back e turns h.0 h.1
      by_end None true e turns ending = by_commit (subst (IsEnding r a None) e ending)
        where
          by_commit : IsCommit r a ⊎ LosesPrepare r a → Comes
          by_commit (inl c) = commits e turns c
          by_commit (inr l) = absurd (loses l)
