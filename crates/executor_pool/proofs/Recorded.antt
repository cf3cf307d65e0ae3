-- The steps by which the record of a run is made of what comes back of its jobs.
use Rattle.std.proofs.Common.{◌≡◌, ◌≤◌, ◌<◌, ◌+◌, ◌-◌, ◌^◌, ℕ, suc, List, [], ◌∷◌, length, map, Some, false, refl, ap, sym, ◌∙◌, subst, arith, All, Contains}
use Rattle.std.specs.Prelude.{slice_get}
use Rattle.std.specs.List.{AllByRecursion, AllZip, range_with_len}
use Rattle.std.proofs.lemmas.List.{length-map}
use Rattle.std.proofs.lemmas.List.Elements.{All-from_recursion, recursion_from_All}
use Rattle.std.proofs.lemmas.Simd.{map-map}
use mathlib.Core.List.{IsPrefix}
use Rattle.sql_base.proofs.ListFacts.{all-map, all_places, range-length}
use Rattle.sql_base.proofs.Truths.{some-same}
use Rattle.commit_journal.specs.Journal.{StampsRise}
use Rattle.commit_journal.specs.declared.Drawn.{Drawn}
use Rattle.partition_core.specs.Kept.{IsReplayed, Kept, rows_in}
use Rattle.requester_fs.specs.Asking.{Asking}
use Rattle.requester_fs.specs.Beginnings.{IsLater}
use Rattle.one_thread.specs.One.{load_rows, loaded}
use Rattle.run_record.proofs.OpeningLengths.{openings-length}
use Rattle.run_record.specs.Legal.{Legal}
use Rattle.run_record.specs.declared.records.RunRecord.{RunRecord}
use Rattle.driver_laws.specs.Carrying.{AllCarried}
use Rattle.session_grammar.specs.UnderWay.{Awaiting}
use Rattle.session_grammar.specs.declared.logs.LogEntry.{LogEntry}
use Rattle.turn_lock.specs.Pass.{IsMadeOf, LockId, StandIn}
use Rattle.executor_pool.specs.Closing.{AreLeft, AreReady, column}
use Rattle.executor_pool.specs.Dealing.{Opened, session_tokens, tokens_to}
use Rattle.executor_pool.specs.Jobs.{JournalPass}
use Rattle.executor_pool.specs.Returning.{AreBack, IsBack, IsKept, Run}
use Rattle.executor_pool.specs.Tokens.{AreSame}
use Rattle.executor_pool.specs.declared.processes.Crew.{Crew}
use Rattle.executor_pool.specs.declared.processes.DiskProcess.{DiskProcess}
use Rattle.executor_pool.specs.declared.returned.Returned.{Returned}
use Rattle.executor_pool.specs.declared.sessions.SessionJob.{SessionJob}
use Rattle.executor_pool.specs.declared.tokens.Server.{Server}
use Rattle.executor_pool.specs.declared.tokens.Tokens.{Tokens}
use Rattle.executor_pool.proofs.Assembled.{all_finished, assembled_carried, assembled_legal, parts_long, source_at}
use Rattle.executor_pool.proofs.Closing.{in_range}
use Rattle.executor_pool.proofs.Readied.{all_ready, column_dealt}

-- numbers that are those of their places
placed_numbers : {X : Type 0} (g : X → ℕ) (first : ℕ) (xs : List X) → ((at : ℕ) (x : X) → slice_get xs at ≡ Some x → g x ≡ first + at) → map g xs ≡ range_with_len first (length xs)
placed_numbers g first [] each = refl
placed_numbers g first (x ∷ xs) each =
    let none : first + 0 ≡ first = omega arith in
    let here : g x ≡ first = each 0 x refl ∙ none in
    let rest = placed_numbers g (first + 1) xs (λ at y is. let more : first + suc at ≡ first + 1 + at = omega arith in each (suc at) y is ∙ more) in
    (λ i. here i ∷ rest i)

-- two lists side by side, by their places
placed_zip : {X Y : Type 0} (R : X → Y → Type 0) (xs : List X) (ys : List Y) → length xs ≡ length ys → ((at : ℕ) (y : Y) → slice_get ys at ≡ Some y → (x : X) × (slice_get xs at ≡ Some x) × R x y) → AllZip R xs ys
placed_zip R [] [] long each = tt
placed_zip R [] (y ∷ ys) long each = absurd (omega (arith, long))
placed_zip R (x ∷ xs) [] long each = absurd (omega (arith, long))
placed_zip R (x ∷ xs) (y ∷ ys) long each =
    let found = each 0 y refl in
    let same : found.0 ≡ x = sym (some-same x found.0 found.1) in
    (subst (λ z. R z y) same found.2, placed_zip R xs ys (omega (arith, long)) (λ at w is. each (suc at) w is))

allowed_before : {Q : Type 0} (single : Q → Type 0) (allows : Q → List LogEntry → Type 0) (qs : List Q) (jobs : List (SessionJob Q)) (logs : List (List LogEntry)) → AllZip (λ q (b : SessionJob Q). IsLater single allows q b.requester) qs jobs
    → AllZip allows (map (λ (b : SessionJob Q). b.requester) jobs) logs → AllZip allows qs logs
allowed_before single allows [] [] [] later all = tt
allowed_before single allows [] [] (log ∷ logs) later all = absurd all
allowed_before single allows [] (b ∷ jobs) logs later all = absurd later
allowed_before single allows (q ∷ qs) [] logs later all = absurd later
allowed_before single allows (q ∷ qs) (b ∷ jobs) [] later all = absurd all
allowed_before single allows (q ∷ qs) (b ∷ jobs) (log ∷ logs) later all = (later.0.allowed log all.0, allowed_before single allows qs jobs logs later.1 all.1)

module _ {Q : Type 0} (asking : Q → Asking) (single : Q → Type 0) (allows : Q → List LogEntry → Type 0) (run : Run Q) (processes : List DiskProcess) (r : Returned Q) (back : AreBack asking single allows run processes r) where
  abbrev jobs : List (SessionJob Q)
  jobs = r.sessions.items

  abbrev rows : List (List Tokens)
  rows = map (λ (s : SessionJob Q). s.tokens.items) jobs

  abbrev passes : List JournalPass
  passes = map (λ (s : SessionJob Q). s.commits) jobs

  parts_are : length processes ≡ length run.opened
  parts_are = ap length back.processes_are ∙ length-map run.opened (λ (o : Opened). o.process)

  pub parts_few : length processes ≤ 16
  parts_few =
      let loads = length-map (range_with_len 0 (length run.script.tables)) (load_rows run.script.loads) in
      let ranged = range-length (length run.script.tables) 0 in
      let all = openings-length run.script.limits run.script.tables (loaded run.script).records (loads ∙ ranged) in
      let opened = sym (length-map run.opened (λ (o : Opened). o.opening)) ∙ ap length back.set.openings_are in
      let few = back.set.is_script.parts in
      let here = parts_are in
      omega (arith, all, opened, few, here)

  pub tokens_long : (parts : ℕ) → parts ≡ length processes → AllByRecursion (λ (s : SessionJob Q). length s.tokens.items ≡ parts) jobs
  tokens_long parts is = subst (λ (n : ℕ). AllByRecursion (λ (s : SessionJob Q). length s.tokens.items ≡ n) jobs) (sym (is ∙ parts_are)) (parts_long asking single allows run processes r back)

  row_at : (at : ℕ) (row : List Tokens) → slice_get rows at ≡ Some row → AllZip AreSame (map (tokens_to (0 + at)) run.opened) row
  row_at at row is =
      let found = source_at (λ (s : SessionJob Q). s.tokens.items) jobs at row is in
      let none : at ≡ 0 + at = omega arith in
      subst (λ n. AllZip AreSame (map (tokens_to n) run.opened) row) none (subst (AllZip AreSame (map (tokens_to at) run.opened)) found.2 (back.sessions at found.0 found.1).tokens)

  each_column : (i : ℕ) (o : Opened) → slice_get run.opened i ≡ Some o → AllZip AreSame (session_tokens run.crew o) (column rows (0 + i))
  each_column i o is =
      let none : i ≡ 0 + i = omega arith in
      let many : length rows ≡ run.crew.sessions = length-map jobs (λ (s : SessionJob Q). s.tokens.items) ∙ back.many in
      subst (λ k. AllZip AreSame (session_tokens run.crew o) (column rows k)) none (
      subst (λ n. AllZip AreSame (map (λ m. tokens_to m o) (range_with_len 0 n)) (column rows i)) many (column_dealt run.opened i o is 0 rows row_at))

  some_sessions : 1 ≤ run.crew.sessions
  some_sessions = let some = back.set.is_script.some_sessions.0 in let many = back.set.sessions in omega (arith, some, many)

  pub are_ready : (columns : List (List Tokens)) (parts : ℕ) → parts ≡ length processes → columns ≡ map (column rows) (range_with_len 0 parts) → AreReady run.crew 0 run.opened processes columns r.servers.items
  are_ready columns parts is cut =
      subst (λ (cs : List (List Tokens)). AreReady run.crew 0 run.opened processes cs r.servers.items) (ap (λ n. map (column rows) (range_with_len 0 n)) (sym (is ∙ parts_are)) ∙ sym cut)
      (all_ready run.crew rows 0 run.opened processes r.servers.items some_sessions back.processes_are back.set.made_for each_column back.servers)

  pub ready_for : (crew : Crew) (columns : List (List Tokens)) (servers : List Server) (parts : ℕ) → run.crew ≡ crew → servers ≡ r.servers.items → parts ≡ length processes → columns ≡ map (column rows) (range_with_len 0 parts) → AreReady crew 0 run.opened processes columns servers
  ready_for crew columns servers parts same given is cut =
      subst (λ (w : Crew). AreReady w 0 run.opened processes columns servers) same (subst (AreReady run.crew 0 run.opened processes columns) (sym given) (are_ready columns parts is cut))

  -- all passes to the journal are there
  of_passes : (P : JournalPass → Type 0) → ((at : ℕ) (b : SessionJob Q) → IsBack asking single allows run processes at b → P b.commits) → All P passes
  of_passes P each = All-from_recursion P passes (all-map P (λ (s : SessionJob Q). s.commits) jobs (all_places (λ (s : SessionJob Q). P s.commits) jobs (λ at b is. each at b (back.sessions at b is))))

  pub journal_locks : All (λ (p : JournalPass). p.lock ≡ run.journal) passes
  journal_locks = of_passes (λ (p : JournalPass). p.lock ≡ run.journal) (λ at b k. k.commits.lock)

  pub journal_idles : All (λ (p : JournalPass). p.holds ≡ false) passes
  journal_idles = of_passes (λ (p : JournalPass). p.holds ≡ false) (λ at b k. k.commits.idle)

  pub journal_all : (n : ℕ) → n < run.journal.passes → Contains (map (λ (p : JournalPass). p.number) passes) n
  journal_all n lt =
      let made = back.set.passes in
      let numbers = map-map (λ (p : JournalPass). p.number) (λ (s : SessionJob Q). s.commits) jobs ∙ placed_numbers (λ (s : SessionJob Q). s.commits.number) 0 jobs (λ at b is. let none : at ≡ 0 + at = omega arith in (back.sessions at b is).commits.number ∙ none)
      ∙ ap (range_with_len 0) back.many in
      subst (λ (ns : List ℕ). Contains ns n) (sym numbers) (in_range 0 run.crew.sessions n (omega arith) (omega (arith, lt, made)))

  module _ (lock : LockId) (same : run.journal ≡ lock) (ps : List JournalPass) (are : ps ≡ passes) where
    pub locks_for : All (λ (p : JournalPass). p.lock ≡ lock) ps
    locks_for = subst (All (λ (p : JournalPass). p.lock ≡ lock)) (sym are) (subst (λ (l : LockId). All (λ (p : JournalPass). p.lock ≡ l) passes) same journal_locks)

    pub idles_for : All (λ (p : JournalPass). p.holds ≡ false) ps
    idles_for = subst (All (λ (p : JournalPass). p.holds ≡ false)) (sym are) journal_idles

    pub numbers_for : (n : ℕ) → n < lock.passes → Contains (map (λ (p : JournalPass). p.number) ps) n
    numbers_for n lt =
        let few = ap (λ (l : LockId). l.passes) same in
        subst (λ (xs : List JournalPass). Contains (map (λ (p : JournalPass). p.number) xs) n) (sym are) (journal_all n (omega (arith, lt, few)))

  later : AllZip (λ q (b : SessionJob Q). IsLater single allows q b.requester) run.requesters jobs
  later = placed_zip (λ q (b : SessionJob Q). IsLater single allows q b.requester) run.requesters jobs (back.requesters ∙ sym back.many) (λ at b is. let k = back.sessions at b is in (k.first, k.first_is, k.later))

  -- once all is closed
  module _ (columns : List (List Tokens)) (parts : ℕ) (is : parts ≡ length processes) (cut : columns ≡ map (column rows) (range_with_len 0 parts)) (ks : List Kept) (left : AreLeft run.opened columns ks) (replayed : AllByRecursion IsReplayed ks)
      (journal : List Drawn) (rise : StampsRise 0 journal) (made : IsMadeOf journal passes) (begins : All (λ (p : JournalPass). IsPrefix p.seen journal) passes) (own : All (λ (p : JournalPass). StandIn p.mine p.seen) passes)
      (few : length journal < 2 ^ 64 - 1) where
    left_here : AreLeft run.opened (map (column rows) (range_with_len 0 (length run.opened))) ks
    left_here = subst (λ (cs : List (List Tokens)). AreLeft run.opened cs ks) (cut ∙ ap (λ n. map (column rows) (range_with_len 0 n)) (is ∙ parts_are)) left

    begun : AllByRecursion (λ (p : JournalPass). IsPrefix p.seen journal) passes
    begun = recursion_from_All (λ (p : JournalPass). IsPrefix p.seen journal) passes begins

    owned : AllByRecursion (λ (p : JournalPass). StandIn p.mine p.seen) passes
    owned = recursion_from_All (λ (p : JournalPass). StandIn p.mine p.seen) passes own

    pub finished_all : (requesters : List Q) → requesters ≡ map (λ (s : SessionJob Q). s.requester) jobs → AllByRecursion (λ q. (asking q).way ≡ Awaiting []) requesters
    finished_all requesters are = subst (AllByRecursion (λ q. (asking q).way ≡ Awaiting [])) (sym are)
        (all-map (λ q. (asking q).way ≡ Awaiting []) (λ (s : SessionJob Q). s.requester) jobs (all_finished asking single allows run processes r back ks left_here replayed journal rise made begun owned few))

    pub is_kept : (requesters : List Q) (logs : List (List LogEntry)) (kept : RunRecord) → requesters ≡ map (λ (s : SessionJob Q). s.requester) jobs → logs ≡ map (λ q. (asking q).log) requesters → AllZip allows requesters logs
        → kept.histories ≡ map (λ (k : Kept). k.history) ks → kept.rows ≡ map rows_in ks → kept.journal ≡ journal → kept.logs ≡ logs → kept.acts ≡ [] → IsKept allows run kept
    is_kept requesters logs kept are logs_are allowed histories rows_are journal_is kept_logs none =
        let all_logs = logs_are ∙ ap (map (λ q. (asking q).log)) are ∙ map-map (λ q. (asking q).log) (λ (s : SessionJob Q). s.requester) jobs in
        let its : RunRecord = record { histories = map (λ (k : Kept). k.history) ks; rows = map rows_in ks; journal = journal; logs = map (λ (s : SessionJob Q). (asking s.requester).log) jobs; acts = [] } in
        let log_is = kept_logs ∙ all_logs in
        let same : its ≡ kept = λ i. record { histories = sym histories i; rows = sym rows_are i; journal = sym journal_is i; logs = sym log_is i; acts = sym none i } in
        let here = allowed_before single allows run.requesters jobs logs later (subst (λ (qs : List Q). AllZip allows qs logs) are allowed) in
        record {
          legal = subst (Legal run.script) same (assembled_legal asking single allows run processes r back ks left_here replayed journal rise made begun owned few);
          carried = subst (AllCarried run.told) same (assembled_carried asking single allows run processes r back ks left_here replayed journal rise made begun owned few);
          allowed = subst (AllZip allows run.requesters) (sym kept_logs) here;
          no_acts = none;
        }
