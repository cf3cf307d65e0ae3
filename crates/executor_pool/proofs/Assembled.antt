-- What comes back of a run's jobs, with its partitions and its journal closed, is a legal record.
use Rattle.std.proofs.Common.{◌≡◌, ◌<◌, ◌+◌, ◌-◌, ◌^◌, ℕ, zero, suc, List, [], ◌∷◌, length, map, replicate, Some, None, true, refl, ap, sym, ◌∙◌, subst, arith}
use Rattle.std.specs.Prelude.{slice_get, unwrap_or}
use Rattle.std.specs.List.{cons_option, AllByRecursion, AllZip, range_with_len}
use Rattle.std.proofs.lemmas.List.{length-map}
use Rattle.std.proofs.lemmas.Simd.{map-map}
use mathlib.Core.List.{IsPrefix}
use Rattle.sql_base.proofs.ListFacts.{all-map, all_at, all_places, some-at, zip_length}
use Rattle.sql_base.proofs.Truths.{some-same}
use Rattle.commit_journal.specs.Journal.{StampsRise}
use Rattle.commit_journal.specs.declared.Drawn.{Drawn}
use Rattle.partition_core.specs.Kept.{IsReplayed, Kept, rows_in}
use Rattle.partition_openings.proofs.LeftRows.{rows_by_part}
use Rattle.partition_state.specs.History.{IsLegal}
use Rattle.partition_state.specs.State.{State}
use Rattle.requester_fs.specs.Asking.{Asking, next_at}
use Rattle.run_record.specs.Legal.{Legal}
use Rattle.run_record.specs.Openings.{history_of, openings}
use Rattle.run_record.specs.declared.records.RunRecord.{RunRecord}
use Rattle.driver_laws.specs.Carrying.{AllCarried, Telling}
use Rattle.session_grammar.specs.UnderWay.{Awaiting, UnderWay}
use Rattle.session_grammar.specs.declared.logs.LogEntry.{LogEntry}
use Rattle.turn_lock.specs.Pass.{IsMadeOf, StandIn}
use Rattle.executor_pool.specs.Closing.{AreLeft, IsLeft, column}
use Rattle.executor_pool.specs.Dealing.{Opened, tokens_to}
use Rattle.executor_pool.specs.Jobs.{AtWork, HasEnded, JournalPass}
use Rattle.executor_pool.specs.Pooled.{IsJoined, IsPooled}
use Rattle.executor_pool.specs.Returning.{AreBack, IsBack, Run}
use Rattle.executor_pool.specs.Sessions.{IsTold, MayBeLost, Session, seen}
use Rattle.executor_pool.specs.Tokens.{AreSame}
use Rattle.executor_pool.specs.declared.processes.DiskProcess.{DiskProcess}
use Rattle.executor_pool.specs.declared.returned.Returned.{Returned}
use Rattle.executor_pool.specs.declared.sessions.SessionJob.{SessionJob}
use Rattle.executor_pool.specs.declared.tokens.Tokens.{Tokens}
use Rattle.executor_pool.proofs.Pooling.{finished, pooled_carried, pooled_legal}

-- what an image is of
pub source_at : {X Y : Type 0} (f : X → Y) (xs : List X) (i : ℕ) (y : Y) → slice_get (map f xs) i ≡ Some y → (x : X) × (slice_get xs i ≡ Some x) × (f x ≡ y)
source_at f [] i y is = absurd (cc is)
source_at f (x ∷ xs) zero y is = (x, refl, some-same (f x) y is)
source_at f (x ∷ xs) (suc i) y is = source_at f xs i y is

pub image_at : {X Y : Type 0} (f : X → Y) (xs : List X) (i : ℕ) (x : X) → slice_get xs i ≡ Some x → slice_get (map f xs) i ≡ Some (f x)
image_at f [] i x is = absurd (cc is)
image_at f (z ∷ xs) zero x is = ap (λ y. Some (f y)) (some-same z x is)
image_at f (z ∷ xs) (suc i) x is = image_at f xs i x is

-- of partitions that were left side by side, those at a place
left_many : (opened : List Opened) (columns : List (List Tokens)) (ks : List Kept) → AreLeft opened columns ks → length ks ≡ length opened
left_many [] columns [] h = refl
left_many [] columns (k ∷ ks) h = absurd h
left_many (o ∷ opened) [] ks h = absurd h
left_many (o ∷ opened) (c ∷ columns) [] h = absurd h
left_many (o ∷ opened) (c ∷ columns) (k ∷ ks) h = ap suc (left_many opened columns ks h.1)

left_at : (opened : List Opened) (columns : List (List Tokens)) (ks : List Kept) → AreLeft opened columns ks → (i : ℕ) (k : Kept) → slice_get ks i ≡ Some k
    → (o : Opened) × (c : List Tokens) × (slice_get opened i ≡ Some o) × (slice_get columns i ≡ Some c) × IsLeft o c k
left_at [] columns [] h i k is = absurd (cc is)
left_at [] columns (x ∷ ks) h i k is = absurd h
left_at (o ∷ opened) [] ks h i k is = absurd h
left_at (o ∷ opened) (c ∷ columns) [] h i k is = absurd h
left_at (o ∷ opened) (c ∷ columns) (x ∷ ks) h zero k is = (o, c, refl, refl, subst (IsLeft o c) (some-same x k is) h.0)
left_at (o ∷ opened) (c ∷ columns) (x ∷ ks) h (suc i) k is = left_at opened columns ks h.1 i k is

column_at : (rows : List (List Tokens)) (a n i : ℕ) (c : List Tokens) → slice_get (map (column rows) (range_with_len a n)) i ≡ Some c → c ≡ column rows (a + i)
column_at rows a zero i c is = absurd (cc is)
column_at rows a (suc n) zero c is = let none : a ≡ a + 0 = omega arith in sym (some-same (column rows a) c is) ∙ ap (column rows) none
column_at rows a (suc n) (suc i) c is = let more : a + 1 + i ≡ a + suc i = omega arith in column_at rows (a + 1) n i c is ∙ ap (column rows) more

-- a column has the tokens of each session
column_zips : (ss : List Session) (part : ℕ) → AllByRecursion (λ (s : Session). part < length s.tokens) ss → AllZip (λ (s : Session) (t : Tokens). slice_get s.tokens part ≡ Some t) ss (column (map (λ (s : Session). s.tokens) ss) part)
column_zips [] part h = tt
column_zips (s ∷ ss) part h =
    let found = some-at s.tokens part h.0 in
    let R : Session → Tokens → Type 0 = λ s t. slice_get s.tokens part ≡ Some t in
    subst (λ o. AllZip R (s ∷ ss) (cons_option o (column (map (λ (x : Session). x.tokens) ss) part))) (sym found.1) (found.1, column_zips ss part h.1)

-- partitions that are left served legal histories from their openings
legal_left : (opened : List Opened) (columns : List (List Tokens)) (ks : List Kept) → AreLeft opened columns ks → AllByRecursion IsReplayed ks → AllZip IsLegal (map (λ (o : Opened). o.opening) opened) (map (λ (k : Kept). k.history) ks)
legal_left [] columns [] h all = tt
legal_left [] columns (k ∷ ks) h all = absurd h
legal_left (o ∷ opened) [] ks h all = absurd h
legal_left (o ∷ opened) (c ∷ columns) [] h all = absurd h
legal_left (o ∷ opened) (c ∷ columns) (k ∷ ks) h all = (subst (λ (p : State). IsLegal p k.history) h.0.closed.opening all.0.legal, legal_left opened columns ks h.1 all.1)

module _ {Q : Type 0} (asking : Q → Asking) (single : Q → Type 0) (allows : Q → List LogEntry → Type 0) (run : Run Q) (processes : List DiskProcess) (r : Returned Q) (back : AreBack asking single allows run processes r) where
  abbrev jobs : List (SessionJob Q)
  jobs = r.sessions.items

  abbrev sessions : List Session
  sessions = map (seen asking) jobs

  abbrev rows : List (List Tokens)
  rows = map (λ (s : SessionJob Q). s.tokens.items) jobs

  session_at : (at : ℕ) (s : Session) → slice_get sessions at ≡ Some s → (b : SessionJob Q) × (seen asking b ≡ s) × IsBack asking single allows run processes at b
  session_at at s is = let found = source_at (seen asking) jobs at s is in (found.0, found.2, back.sessions at found.0 found.1)

  pub parts_long : AllByRecursion (λ (s : SessionJob Q). length s.tokens.items ≡ length run.opened) jobs
  parts_long = all_places (λ (s : SessionJob Q). length s.tokens.items ≡ length run.opened) jobs (λ at b is.
      let k = back.sessions at b is in
      sym (sym (length-map run.opened (tokens_to at)) ∙ zip_length AreSame (map (tokens_to at) run.opened) b.tokens.items k.tokens))

  work : (at : ℕ) (s : Session) → slice_get sessions at ≡ Some s → AtWork run.script (suc at) s.asking s.tokens s.commits
  work at s is =
      let found = session_at at s is in
      let k = found.2 in
      subst (λ (x : Session). AtWork run.script (suc at) x.asking x.tokens x.commits) found.1
      (subst (λ (n : ℕ). AtWork run.script n (asking found.0.requester) found.0.tokens.items found.0.commits) k.number k.session.work)

  -- nothing of a request is left once a session has finished
  none_lost : (way : UnderWay) (losses : ℕ) → way ≡ Awaiting [] → MayBeLost losses (next_at way 0) → losses ≡ 0
  none_lost way losses is may = subst (λ (w : UnderWay). MayBeLost losses (next_at w 0) → losses ≡ 0) (sym is) (λ h. h) may

  has_told : (at : ℕ) (b : SessionJob Q) → IsBack asking single allows run processes at b → (t : Telling) → slice_get run.told at ≡ Some t → b.stop ≡ None → (now : Telling) × IsTold t now [] (asking b.requester).log
  has_told at b k t there none =
      let told = k.told t there none in
      let way = subst (HasEnded (asking b.requester) b.tokens.items b.commits) none k.ended in
      let lost : b.losses ≡ 0 = none_lost (asking b.requester).way b.losses way (k.session.losses none) in
      (told.0, subst (λ (n : ℕ). IsTold t told.0 (replicate n true) (asking b.requester).log) lost told.1)

  carried : (at : ℕ) (s : Session) (t : Telling) → slice_get sessions at ≡ Some s → slice_get run.told at ≡ Some t → s.stop ≡ None → (now : Telling) × IsTold t now [] s.asking.log
  carried at s t is there =
      let found = session_at at s is in
      subst (λ (x : Session). x.stop ≡ None → (now : Telling) × IsTold t now [] x.asking.log) found.1 (has_told at found.0 found.2 t there)

  over : AllByRecursion (λ (s : Session). HasEnded s.asking s.tokens s.commits s.stop) sessions
  over = all_places (λ (s : Session). HasEnded s.asking s.tokens s.commits s.stop) sessions (λ at s is.
      let found = session_at at s is in
      subst (λ (x : Session). HasEnded x.asking x.tokens x.commits x.stop) found.1 found.2.ended)

  module _ (ks : List Kept) (left : AreLeft run.opened (map (column rows) (range_with_len 0 (length run.opened))) ks) (replayed : AllByRecursion IsReplayed ks) (journal : List Drawn) (rise : StampsRise 0 journal)
      (made : IsMadeOf journal (map (λ (s : SessionJob Q). s.commits) jobs)) (begins : AllByRecursion (λ (p : JournalPass). IsPrefix p.seen journal) (map (λ (s : SessionJob Q). s.commits) jobs))
      (own : AllByRecursion (λ (p : JournalPass). StandIn p.mine p.seen) (map (λ (s : SessionJob Q). s.commits) jobs)) where
    abbrev kept : RunRecord
    kept = record { histories = map (λ (k : Kept). k.history) ks; rows = map rows_in ks; journal = journal; logs = map (λ (s : SessionJob Q). (asking s.requester).log) jobs; acts = [] }

    many_histories : length (map (λ (k : Kept). k.history) ks) ≡ length run.opened
    many_histories = length-map ks (λ (k : Kept). k.history) ∙ left_many run.opened _ ks left

    at_each : AllByRecursion (λ (s : Session). length s.tokens ≡ length (map (λ (k : Kept). k.history) ks)) sessions
    at_each = all-map (λ (s : Session). length s.tokens ≡ length (map (λ (k : Kept). k.history) ks)) (seen asking) jobs (all_places (λ (b : SessionJob Q). length b.tokens.items ≡ length (map (λ (k : Kept). k.history) ks)) jobs (λ at b is.
        all_at (λ (s : SessionJob Q). length s.tokens.items ≡ length run.opened) jobs at b parts_long is ∙ sym many_histories))

    commits_of : (P : JournalPass → Type 0) → AllByRecursion P (map (λ (s : SessionJob Q). s.commits) jobs) → AllByRecursion (λ (s : Session). P s.commits) sessions
    commits_of P all = all_places (λ (s : Session). P s.commits) sessions (λ at s is.
        let found = source_at (seen asking) jobs at s is in
        subst (λ (x : Session). P x.commits) found.2 (all_at P (map (λ (s : SessionJob Q). s.commits) jobs) at found.0.commits all (image_at (λ (s : SessionJob Q). s.commits) jobs at found.0 found.1)))

    joined : (part : ℕ) → part < length (map (λ (k : Kept). k.history) ks) → IsJoined sessions part (history_of kept part)
    joined part within =
        let some = some-at ks part (omega (arith, within, length-map ks (λ (k : Kept). k.history))) in
        let its = left_at run.opened _ ks left part some.0 some.1 in
        let history : history_of kept part ≡ some.0.history = ap (λ o. unwrap_or o []) (image_at (λ (k : Kept). k.history) ks part some.0 some.1) in
        let zero_more : 0 + part ≡ part = omega arith in
        let column_is : its.1 ≡ column (map (λ (s : Session). s.tokens) sessions) part = column_at rows 0 (length run.opened) part its.1 its.3 ∙ ap (column rows) zero_more ∙ ap (λ (rs : List (List Tokens)). column rs part) (sym (map-map (λ (s : Session). s.tokens) (seen asking) jobs)) in
        let inside = all_places (λ (s : Session). part < length s.tokens) sessions (λ at s is. let long = all_at (λ (s : Session). length s.tokens ≡ length (map (λ (k : Kept). k.history) ks)) sessions at s at_each is in omega (arith, long, within)) in
        let closed = its.4.closed in
        subst (IsJoined sessions part) (sym history)
        record {
          held = its.1;
          servers = its.4.servers;
          of_sessions = subst (λ (ts : List Tokens). AllZip (λ (s : Session) (t : Tokens). slice_get s.tokens part ≡ Some t) sessions ts) (sym column_is) (column_zips sessions part inside);
          of_servers = its.4.served;
          made = closed.made;
          begins = closed.begins;
          posted = closed.posted;
        }

    pub pooled : IsPooled run.script run.told kept sessions
    pooled =
        record {
          script_runs = back.set.is_script;
          many = length-map jobs (seen asking) ∙ back.many ∙ sym back.set.sessions;
          work = work;
          carried = carried;
          over = over;
          no_acts = refl;
          logs = sym (map-map (λ (s : Session). s.asking.log) (seen asking) jobs);
          at_each = at_each;
          histories_replay = subst (λ (ps : List State). AllZip IsLegal ps (map (λ (k : Kept). k.history) ks)) back.set.openings_are (legal_left run.opened _ ks left replayed);
          parts = joined;
          stamps_rise = rise;
          journal_made = subst (IsMadeOf journal) (sym (map-map (λ (s : Session). s.commits) (seen asking) jobs)) made;
          journal_begins = commits_of (λ (p : JournalPass). IsPrefix p.seen journal) begins;
          journal_order = commits_of (λ (p : JournalPass). StandIn p.mine p.seen) own;
        }

    opened_of_kept : (part : ℕ) (k : Kept) → slice_get ks part ≡ Some k → (slice_get (openings run.script) part ≡ Some k.opening) × IsReplayed k
    opened_of_kept part k is =
        let its = left_at run.opened _ ks left part k is in
        let here = image_at (λ (o : Opened). o.opening) run.opened part its.0 its.2 in (
          ap (λ (ps : List State). slice_get ps part) (sym back.set.openings_are) ∙ here ∙ ap Some (sym its.4.closed.opening),
          all_at IsReplayed ks part k replayed is,
        )

    -- the record is legal, its wires told what its logs lost, and each session has finished
    pub assembled_legal : length journal < 2 ^ 64 - 1 → Legal run.script kept
    assembled_legal few = pooled_legal run.script run.told kept sessions pooled few (rows_by_part (openings run.script) ks opened_of_kept)

    pub assembled_carried : length journal < 2 ^ 64 - 1 → AllCarried run.told kept
    assembled_carried few = pooled_carried run.script run.told kept sessions pooled few

    pub all_finished : length journal < 2 ^ 64 - 1 → AllByRecursion (λ (s : SessionJob Q). (asking s.requester).way ≡ Awaiting []) jobs
    all_finished few = all_places (λ (s : SessionJob Q). (asking s.requester).way ≡ Awaiting []) jobs (λ at b is. finished run.script run.told kept sessions pooled few at (seen asking b) (image_at (seen asking) jobs at b is))
