-- Where all that committed is firm, one thread that runs the commits in stamp order gives what they gave and leaves the final tables.
use Rattle.std.proofs.Common.{◌≡◌, ◌<◌, ◌≤◌, ℕ, suc, ◌+◌, List, [], ◌∷◌, ◌++◌, length, map, Option, Bool, true, false, None, Some, refl, ap, sym, ◌∙◌, subst, arith}
use Rattle.std.specs.Prelude.{Contains, Err, Ok, Result, fold, slice_get}
use Rattle.std.specs.List.{AllByRecursion, AllZip}
use Rattle.std.proofs.lemmas.Bool.{le-ltb, lt-ltb}
use Rattle.std.proofs.lemmas.List.{append-nil, append_assoc}
use Rattle.std.proofs.lemmas.List.Sums.{fold-append}
use Rattle.std.proofs.lemmas.List.Elements.{Contains-append_right}
use Rattle.sql_base.specs.Scripts.{Lies}
use Rattle.sql_base.specs.Tables.{table_of}
use Rattle.sql_base.specs.declared.lock_names.TxnName.{TxnName}
use Rattle.sql_base.specs.declared.outcomes.Abort.{Abort}
use Rattle.sql_base.specs.declared.outcomes.Given.{Given}
use Rattle.sql_base.specs.declared.scripts.Script.{Script}
use Rattle.sql_base.specs.declared.statements.Statement.{Statement}
use Rattle.sql_base.specs.declared.tables.TableDef.{TableDef}
use Rattle.commit_journal.specs.Journal.{StampsRise}
use Rattle.commit_journal.specs.declared.Drawn.{Drawn}
use Rattle.key_sequenced.specs.Cells.{Keyed, records}
use Rattle.key_sequenced.specs.Changes.{laid}
use Rattle.one_thread.specs.One.{Ran, World, loaded, on_table, one, one_run, run_from, run_work, world_after}
use Rattle.partition_state.specs.History.{IsLegal}
use Rattle.partition_state.specs.State.{State}
use Rattle.partition_state.specs.declared.entries.Entry.{Entry}
use Rattle.session_grammar.specs.Follows.{IsPart, Reads, asker, works_of}
use Rattle.record_laws.proofs.Beginning.{legal-so_far}
use Rattle.record_laws.proofs.AttemptDraws.{IsDrawnBy, drawn_by, drawn_where}
use Rattle.record_laws.proofs.Journals.{find_named}
use Rattle.run_record.specs.Base.{base, base_of, by_table, changes}
use Rattle.run_record.specs.Legal.{Legal, drawn_in, in_journal}
use Rattle.run_record.specs.Openings.{by_part, log_of, openings}
use Rattle.run_record.specs.Serial.{AllFirm, Commit, IsCommit, RanAlone, RanAs, StampOrder, base_with, final_records, next_stamp}
use Rattle.run_record.specs.declared.records.RunRecord.{RunRecord}
use Rattle.serial_passes.proofs.Bases.{StampsAbove, below, stamps_above}
use Rattle.serial_passes.proofs.Finals.{below_last, by_part-agree, final_base}
use Rattle.serial_passes.proofs.LoadedTables.{opened_tables, opened_views}
use Rattle.serial_passes.proofs.Serially.{legal_is_serial}
use Rattle.run_record.proofs.DrawnLogs.{drawn_by_logs}
use Rattle.sql_base.proofs.ListFacts.{all_in}

-- ---- the journal below a stamp

-- of what has risen to a stamp, just what stands before it is below it
none_below : (n : ℕ) (journal : List Drawn) → AllByRecursion (λ d. n ≤ d.stamp) journal → below n journal ≡ []
none_below n [] h = refl
none_below n (d ∷ journal) h = rw (le-ltb d.stamp n h.0) (none_below n journal h.1)

all_below : (n : ℕ) (journal : List Drawn) → AllByRecursion (λ d. d.stamp < n) journal → below n journal ≡ journal
all_below n [] h = refl
all_below n (d ∷ journal) h = rw (lt-ltb d.stamp n h.0) (ap (λ ds. d ∷ ds) (all_below n journal h.1))

from_on : (n : ℕ) (journal : List Drawn) → StampsAbove n journal → AllByRecursion (λ d. n ≤ d.stamp) journal
from_on n [] h = tt
from_on n (d ∷ journal) h = (let above : n < d.stamp = h.0 in omega arith, from_on n journal h.1)

above_in : (n : ℕ) (front back : List Drawn) (d : Drawn) → StampsAbove n (front ++ d ∷ back) → n < d.stamp
above_in n [] back d h = h.0
above_in n (e ∷ front) back d h = above_in n front back d h.1

pub front_below : (last : ℕ) (front back : List Drawn) (d : Drawn) → StampsRise last (front ++ d ∷ back) → below d.stamp (front ++ d ∷ back) ≡ front
front_below last [] back d rise = none_below d.stamp (d ∷ back) (omega arith, from_on d.stamp back (stamps_above d.stamp back rise.1))
front_below last (e ∷ front) back d rise =
    let less : e.stamp < d.stamp = above_in e.stamp front back d (stamps_above e.stamp (front ++ d ∷ back) rise.1) in
    rw (lt-ltb e.stamp d.stamp less) (ap (λ ds. e ∷ ds) (front_below e.stamp front back d rise.1))

-- ---- a transaction keeps the tables

one_keeps : (w : World) (s : Statement) (table : Option TableDef) → (on_table w s table).1.tables ≡ w.tables
one_keeps w s None = refl
one_keeps w s (Some table) = refl

abbrev Keeps : World → Ran → Type 0
Keeps before ran = ran.world.tables ≡ before.tables

keeps_from : (before : World) (commit : Bool) (given : List Given) (ss : List Statement) (w : World) → w.tables ≡ before.tables → Keeps before (run_from before commit given ss w)
keeps_from before true given [] w h = h
keeps_from before false given [] w h = refl
keeps_from before commit given (s ∷ ss) w h = by_one (one w s).0 refl (λ g. keeps_from before commit (given ++ g ∷ []) ss (one w s).1 (one_keeps w s (slice_get w.tables (table_of s)) ∙ h))
  where
    by_one : (r : Result Given Abort) → (one w s).0 ≡ r → ((g : Given) → Keeps before (run_from before commit (given ++ g ∷ []) ss (one w s).1)) → Keeps before (run_from before commit given (s ∷ ss) w)
    by_one (Err abort) is rest = rw is refl
    by_one (Ok g) is rest = rw is (rest g)

-- ---- the openings, and the last stamp

long_zip : (ps : List State) (hs : List (List Entry)) → AllZip IsLegal ps hs → length ps ≡ length hs
long_zip [] [] h = refl
long_zip [] (es ∷ hs) h = absurd h
long_zip (p ∷ ps) [] h = absurd h
long_zip (p ∷ ps) (es ∷ hs) h = ap suc (long_zip ps hs h.1)

by_part-opened : (ps : List State) (hs : List (List Entry)) → length ps ≡ length hs → by_part (λ p history. records p.cells) ps hs ≡ opened_views ps
by_part-opened [] hs same = refl
by_part-opened (p ∷ ps) [] same = absurd (omega (arith, same))
by_part-opened (p ∷ ps) (es ∷ hs) same = ap (λ rest. records p.cells ∷ rest) (by_part-opened ps hs (omega (arith, same)))

contained : (P : Drawn → Type 0) (ds : List Drawn) → ((d : Drawn) → Contains ds d → P d) → AllByRecursion P ds
contained P [] each = tt
contained P (d ∷ ds) each = (each d (0, omega arith, refl), contained P ds (λ e c. each e (suc c.0, omega (arith, c.1), c.2)))

below_next : (n : ℕ) (journal : List Drawn) → ((d : Drawn) → Contains journal d → d.stamp ≤ n) → AllByRecursion (λ d. d.stamp < n + 1) journal
below_next n journal each = contained (λ d. d.stamp < n + 1) journal (λ d c. let low = each d c in omega arith)

-- ---- one thread

module _ (script : Script) (kept : RunRecord) (legal : Legal script kept) where
  -- a partition, and the tables, after these commits
  abbrev held_after : List Drawn → State → List Entry → List Keyed
  held_after front p history = fold (λ held d. laid held (changes p history d.name)) (records p.cells) front

  abbrev tables_after : List Drawn → World
  tables_after front = record { tables = script.tables; records = by_table script.tables (by_part (held_after front) (openings script) kept.histories) }

  base_is : (front back : List Drawn) (d : Drawn) → kept.journal ≡ front ++ d ∷ back → below d.stamp kept.journal ≡ front
  base_is front back d is =
      ap (below d.stamp) is ∙ front_below 0 front back d (subst (StampsRise 0) is legal.stamps_drawn.rise)

  -- a commit leads from those below its stamp to those with it
  with_it : (front back : List Drawn) (d : Drawn) → kept.journal ≡ front ++ d ∷ back → base_with script kept d ≡ (tables_after (front ++ d ∷ [])).records
  with_it front back d is =
      ap (by_table script.tables)
      (by_part-agree (λ p history. laid (base_of p history kept.journal d.stamp) (changes p history d.name)) (held_after (front ++ d ∷ [])) (openings script) kept.histories
      (λ part p history opens keeps.
      ap (λ ds. laid (held_after ds p history) (changes p history d.name)) (base_is front back d is)
      ∙ sym (fold-append (λ held (x : Drawn). laid held (changes p history x.name)) (records p.cells) front (d ∷ []))))

  below_it : (front back : List Drawn) (d : Drawn) → kept.journal ≡ front ++ d ∷ back → base script kept d.stamp ≡ tables_after front
  below_it front back d is = ap tables_after (base_is front back d is)

  -- before all commits they are the LOAD rows
  at_first : tables_after [] ≡ loaded script
  at_first =
      let same = ap (by_table script.tables) (by_part-opened (openings script) kept.histories (long_zip (openings script) kept.histories legal.histories_replay)) ∙ opened_tables script legal.script_runs in
      λ i. record { tables = script.tables; records = same i }

  -- behind all of them they are the final ones
  at_last : (tables_after kept.journal).records ≡ final_records script kept
  at_last = sym (final_base script kept legal ∙ ap (λ ds. (tables_after ds).records) (all_below (next_stamp kept) kept.journal (below_next _ kept.journal (λ d there. below_last kept.journal None 0 d legal.stamps_drawn.rise there))))

  -- the attempt of a commit
  commit_of : (d : Drawn) → Contains kept.journal d → (c : Commit) × (c.drawn ≡ d) × IsCommit script kept c
  commit_of d there =
      let from = (drawn_by_logs kept legal.stamps_drawn d).0 there in
      let w = drawn_where script kept [] (legal-so_far script kept legal) d from.0 from.1 in
      let follows = legal.logs_follow.each w.0 w.1 in
      let named = all_in (IsDrawnBy (asker script w.0) follows.0) d (drawn_in (log_of kept w.0)) w.2 (drawn_by (asker script w.0) (works_of script w.0) (log_of kept w.0) follows.0 follows.1) in
      let same : d.name.session ≡ w.0 = ap (λ (t : TxnName). t.session) named.2 in
      let a = named.0 in (
        record { drawn = d; attempt = a },
        refl,
        record {
          lies = subst (Lies 1 (length script.sessions)) (sym same) w.1;
          numbered = sym (ap (λ (t : TxnName). t.ordinal) named.2);
          attempts = follows.0;
          reads = subst (λ n. Reads IsPart (asker script n) (works_of script n) (log_of kept n) follows.0) (sym same) follows.1;
          holds = named.1;
        },
      )

  -- run alone below its stamp
  alone : AllFirm script kept → (c : Commit) → Contains kept.journal c.drawn → IsCommit script kept c → RanAlone script kept c.drawn.name.session c.attempt c.drawn
  alone firm c there is =
      (legal_is_serial script kept legal).committed_alone c.drawn.name.session is.attempts c.attempt c.drawn is.lies is.reads is.holds
      (subst (λ n. in_journal kept (record { session = c.drawn.name.session; ordinal = n }) ≡ Some c.drawn) (sym is.numbered) (find_named kept.journal c.drawn there.0 there.1 there.2 legal.stamps_drawn.once))
      (firm c there is)

  -- the commits from one on, run one after the other from the tables that those before it left
  record Ordered (front back : List Drawn) : Type 0 where
    commits : List Commit
    journal_is : map (λ c. c.drawn) commits ≡ back
    are_commits : AllByRecursion (IsCommit script kept) commits
    ran_as : AllZip (RanAs script) commits (one_run (map (λ c. c.attempt.work) commits) (tables_after front))
    leaves : world_after (map (λ c. c.attempt.work) commits) (tables_after front) ≡ tables_after (front ++ back)

  ordered : AllFirm script kept → (front back : List Drawn) → kept.journal ≡ front ++ back → Ordered front back
  ordered firm front [] is = record { commits = []; journal_is = refl; are_commits = tt; ran_as = tt; leaves = ap tables_after (sym (append-nil front)) }
  ordered firm front (d ∷ back) is =
      let c = commit_of d (stands front back d is) in
      one_more c.0 c.1 c.2 (ordered firm (front ++ d ∷ []) back (is ∙ sym (append_assoc front (d ∷ []) back)))
    where
      stands : (front back : List Drawn) (d : Drawn) → kept.journal ≡ front ++ d ∷ back → Contains kept.journal d
      stands front back d is = subst (λ ds. Contains ds d) (sym is) (Contains-append_right front (d ∷ back) d (0, omega arith, refl))

      one_more : (c : Commit) → c.drawn ≡ d → IsCommit script kept c → Ordered (front ++ d ∷ []) back → Ordered front (d ∷ back)
      one_more c same is_commit rest =
          let there : Contains kept.journal c.drawn = subst (Contains kept.journal) (sym same) (stands front back d is) in
          let ran = alone firm c there is_commit in
          let from : base script kept c.drawn.stamp ≡ tables_after front = ap (λ (x : Drawn). base script kept x.stamp) same ∙ below_it front back d is in
          let with : base_with script kept c.drawn ≡ (tables_after (front ++ d ∷ [])).records = ap (base_with script kept) same ∙ with_it front back d is in
          let work = c.attempt.work in
          let left : (run_work (tables_after front) work).world.records ≡ (tables_after (front ++ d ∷ [])).records = ap (λ w. (run_work w work).world.records) (sym from) ∙ ran.changes_are ∙ with in
          let tables : (run_work (tables_after front) work).world.tables ≡ script.tables = keeps_from (tables_after front) work.commit [] work.statements (tables_after front) refl in
          let behind : (run_work (tables_after front) work).world ≡ tables_after (front ++ d ∷ []) = λ i. record { tables = tables i; records = left i } in
          let rest_ran = subst (λ w. AllZip (RanAs script) rest.commits (one_run (map (λ c. c.attempt.work) rest.commits) w)) (sym behind) rest.ran_as in
          let head : c.drawn ≡ d = same in
          let tail = rest.journal_is in
          record {
            commits = c ∷ rest.commits;
            journal_is = λ i. head i ∷ tail i;
            are_commits = (is_commit, rest.are_commits);
            ran_as = ((ap (λ w. (run_work w work).ending) (sym from) ∙ ran.commits, ap (λ w. (run_work w work).given) (sym from) ∙ ran.results), rest_ran);
            leaves = ap (world_after (map (λ c. c.attempt.work) rest.commits)) behind ∙ rest.leaves ∙ ap tables_after (append_assoc front (d ∷ []) back);
          }

-- where all that committed is firm, one thread that runs it in stamp order gives the same
pub firm_is_one_thread : (script : Script) (kept : RunRecord) → Legal script kept → AllFirm script kept → StampOrder script kept
firm_is_one_thread script kept legal firm =
    let all = ordered script kept legal firm [] kept.journal refl in
    let first = at_first script kept legal in
    record {
      commits = all.commits;
      journal_is = all.journal_is;
      are_commits = all.are_commits;
      ran_as = subst (λ w. AllZip (RanAs script) all.commits (one_run (map (λ c. c.attempt.work) all.commits) w)) first all.ran_as;
      leaves = ap (λ w. (world_after (map (λ c. c.attempt.work) all.commits) w).records) (sym first) ∙ ap (λ (w : World). w.records) all.leaves ∙ at_last script kept legal;
    }
