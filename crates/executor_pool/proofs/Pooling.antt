-- What the jobs of a run leave makes its record legal so far; no session has stopped, so that it is legal.
use Rattle.std.proofs.Common.{◌≡◌, ◌≤◌, ◌<◌, ◌-◌, ◌^◌, ℕ, zero, suc, List, [], ◌∷◌, ◌++◌, length, get_or, map, Option, Some, None, Bool, true, false, refl, ap, sym, ◌∙◌, subst, inl, inr, arith, Contains}
use Rattle.std.specs.Prelude.{filter, max, option_map, slice_get, unwrap_or, ◌==◌}
use Rattle.std.specs.List.{AllByRecursion, enumerate_from, flat_map}
use Rattle.std.proofs.lemmas.Bool.{eq-eqb, eqb-true, false≢true}
use Rattle.std.proofs.lemmas.List.{length-map}
use Rattle.std.proofs.lemmas.List.Elements.{All-contains_itself, recursion_from_All}
use Rattle.std.proofs.lemmas.List.Folds.{flat_map-map}
use Rattle.std.proofs.lemmas.List.Sorted.{Contains-permutation, IsPermutation-sym}
use Rattle.std.proofs.lemmas.Option.{slice_get-map}
use mathlib.Core.List.{IsPrefix}
use Rattle.sql_base.specs.Locks.{same_txn}
use Rattle.sql_base.specs.Scripts.{Lies}
use Rattle.sql_base.specs.declared.lock_names.TxnName.{TxnName}
use Rattle.sql_base.specs.declared.scripts.Script.{Script}
use Rattle.sql_base.proofs.ListFacts.{all-map, all-weaker, all_at, all_in, all_left, all_places, place-within, some-at}
use Rattle.sql_base.proofs.ListSearches.{all-passing, find-none, none-find}
use Rattle.sql_base.proofs.Truths.{le-max, some-same}
use Rattle.commit_journal.specs.Journal.{StampsRise, last_stamp}
use Rattle.commit_journal.specs.declared.Drawn.{Drawn}
use Rattle.dp_messages.specs.declared.requests.Request.{Request}
use Rattle.partition_state.specs.History.{IsLegal}
use Rattle.partition_state.specs.declared.entries.Entry.{Entry}
use Rattle.session_grammar.specs.Follows.{follows}
use Rattle.session_grammar.specs.Rows.{fits}
use Rattle.session_grammar.specs.UnderWay.{AreAbove, Awaiting, BeginsWith, Drawing, IsOpen, Sending, UnderWay, unanswered}
use Rattle.session_grammar.specs.declared.logs.Answer.TheVariants.{PathFailed, Reply, Stamp}
use Rattle.session_grammar.specs.declared.logs.LogEntry.{LogEntry}
use Rattle.session_grammar.specs.declared.logs.LogEntry.TheVariants.{Asked, Drew}
use Rattle.run_record.specs.Legal.{Legal, RowsLeft, drawn_in}
use Rattle.run_record.specs.Openings.{history_of, log_of, openings}
use Rattle.run_record.specs.declared.records.RunRecord.{RunRecord}
use Rattle.run_record.proofs.DrawnLogs.{in_one, of_one}
use Rattle.record_laws.specs.SoFar.{AllFinished, LegalSoFar, LogsSoFar, way_of}
use Rattle.record_laws.proofs.Counting.{stamps_count}
use Rattle.record_laws.proofs.Drawing.{drawn_named, not_drawn}
use Rattle.record_laws.proofs.Finishing.{finished-legal}
use Rattle.record_laws.proofs.FitsSoFar.{zip_at}
use Rattle.record_laws.proofs.Sessions.{by_opener}
use Rattle.plans_laws.proofs.Suiting.{sends_fit}
use Rattle.driver_laws.specs.Carrying.{AllCarried, Carried, IsCarried, Telling}
use Rattle.driver_laws.specs.Gathering.{Gathered, HasItsEntry, JournalGathered}
use Rattle.driver_laws.specs.Moves.{IsPosted}
use Rattle.driver_laws.proofs.Carrying.{carried_whole}
use Rattle.driver_laws.proofs.Joining.{gathered-so_far}
use Rattle.driver_laws.proofs.Picking.{none_later}
use Rattle.driver_laws.proofs.Seats.{contains_filter}
use Rattle.turn_lock.specs.Pass.{StandIn}
use Rattle.executor_pool.specs.Jobs.{HasEnded, HasHeard, HasSeen, IsStopped, JournalPass, Refuses}
use Rattle.executor_pool.specs.Pooled.{IsPooled, ways_of}
use Rattle.executor_pool.specs.Sessions.{Session}
use Rattle.executor_pool.specs.declared.sessions.Stop.{Stop}
use Rattle.executor_pool.specs.declared.sessions.Stop.TheVariants.{Misfit, Passed, Refused}
use Rattle.executor_pool.proofs.Joined.{history_asked, seen_stands, WasAsked, all_made}
use Rattle.executor_pool.proofs.Rising.{filtered_places, rises_enumerated, rises_filtered, same_rising}

-- what stands in a list has its image in the images
in_mapped : {X Y : Type 0} (f : X → Y) (xs : List X) (x : X) → Contains xs x → Contains (map f xs) (f x)
in_mapped {X = X} f xs x c = at xs c.0 c.1 c.2
  where
    at : (ys : List X) (k : ℕ) → k < length ys → get_or ys k x ≡ x → Contains (map f ys) (f x)
    at [] k lt is = absurd (omega (arith, lt))
    at (y ∷ ys) zero lt is = (zero, omega arith, ap f is)
    at (y ∷ ys) (suc k) lt is = let rest = at ys k (omega (arith, lt)) is in (suc rest.0, omega (arith, rest.1), rest.2)

-- the last stamp never falls
last_above : (last : ℕ) (journal : List Drawn) → StampsRise last journal → last ≤ last_stamp last journal
last_above last [] r = omega arith
last_above last (d ∷ journal) r = let rest = last_above d.stamp journal r.1 in let stamp = r.0 in let above = le-max last d.floor in omega (arith, rest, stamp, above)

stamps_up : (last : ℕ) (front back : List Drawn) → StampsRise last (front ++ back) → last_stamp last front ≤ last_stamp last (front ++ back)
stamps_up last [] back r = last_above last back r
stamps_up last (d ∷ front) back r = stamps_up d.stamp front back r.1

not_spent : (last floor n top : ℕ) → last ≤ n → floor ≤ n → n < top → max last floor ≡ top → ⊥
not_spent last floor n top a b lt is = omega (arith, a, b, lt, is)

module _ (script : Script) (told : List Telling) (kept : RunRecord) (sessions : List Session) (h : IsPooled script told kept sessions) where
  abbrev ways : List UnderWay
  ways = ways_of sessions

  abbrev count : ℕ
  count = length script.sessions

  -- the session with a number
  at_number : (n : ℕ) → Lies 1 count n → (at : ℕ) × (s : Session) × (slice_get sessions at ≡ Some s) × (n ≡ suc at)
  at_number zero lies = absurd (omega (arith, lies.0))
  at_number (suc at) lies = let many = h.many in let found = some-at sessions at (omega (arith, lies.1, many)) in (at, found.0, found.1, refl)

  lies_at : (at : ℕ) (s : Session) → slice_get sessions at ≡ Some s → Lies 1 count (suc at)
  lies_at at s is = let many = h.many in let lt = place-within sessions at s is in (omega arith, omega (arith, lt, many))

  log_is : (at : ℕ) (s : Session) → slice_get sessions at ≡ Some s → log_of kept (suc at) ≡ s.asking.log
  log_is at s is =
      let place : suc at - 1 ≡ at = omega arith in
      let logs = ap (λ (ls : List (List LogEntry)). unwrap_or (slice_get ls (suc at - 1)) []) h.logs in
      let here = ap (λ (i : ℕ). unwrap_or (slice_get (map (λ (s : Session). s.asking.log) sessions) i) []) place in
      logs ∙ here ∙ ap (λ (o : Option (List LogEntry)). unwrap_or o []) (slice_get-map (λ (s : Session). s.asking.log) sessions at ∙ ap (option_map (λ (s : Session). s.asking.log)) is)

  way_is : (at : ℕ) (s : Session) → slice_get sessions at ≡ Some s → way_of ways (suc at) ≡ s.asking.way
  way_is at s is =
      let place : suc at - 1 ≡ at = omega arith in
      let here = ap (λ (i : ℕ). unwrap_or (slice_get (map (λ (s : Session). s.asking.way) sessions) i) (Awaiting [])) place in
      here ∙ ap (λ (o : Option UnderWay). unwrap_or o (Awaiting [])) (slice_get-map (λ (s : Session). s.asking.way) sessions at ∙ ap (option_map (λ (s : Session). s.asking.way)) is)

  -- what some session asked was posted
  asked_posted : (part opener sync : ℕ) (request : Request) → WasAsked sessions part opener sync request → IsPosted kept ways opener part sync request
  asked_posted part opener sync request w =
      let at = w.0 in
      let s = w.1 in
      let z = Asked part sync request w.4.0 w.4.1 in
      let log = log_is at s w.2 in
      let way = way_is at s w.2 in
      let both : log_of kept (suc at) ++ unanswered (way_of ways (suc at)) ≡ s.asking.log ++ unanswered s.asking.way = (λ i. log i ++ unanswered (way i)) in
      subst (λ (n : ℕ). IsPosted kept ways n part sync request) (sym w.3) (w.4.0, w.4.1, subst (λ (es : List LogEntry). Contains es z) (sym both) w.4.2)

  joined_asked : (part : ℕ) → part < length kept.histories → AllByRecursion (λ (e : Entry). WasAsked sessions part e.opener e.sync e.request) (history_of kept part)
  joined_asked part within = history_asked script sessions h.work part (history_of kept part) (h.parts part within)

  opened_by : (part : ℕ) (e : Entry) → WasAsked sessions part e.opener e.sync e.request → Lies 1 count e.opener
  opened_by part e w = subst (Lies 1 count) (sym w.3) (lies_at w.0 w.1 w.2)

  history_at : (i : ℕ) (es : List Entry) → slice_get kept.histories i ≡ Some es → history_of kept i ≡ es
  history_at i es is = ap (λ (o : Option (List Entry)). unwrap_or o []) is

  -- a session's tokens are of partitions that are there
  within_tokens : (at : ℕ) (s : Session) (part : ℕ) (e : Entry) → slice_get sessions at ≡ Some s → HasSeen s.tokens part (suc at) e → (part < length kept.histories) × Contains (history_of kept part) e
  within_tokens at s part e is seen =
      let t = seen.0 in
      let lt = place-within s.tokens part t seen.1 in
      let many = all_at (λ (s : Session). length s.tokens ≡ length kept.histories) sessions at s h.at_each is in
      let within : part < length kept.histories = omega (arith, lt, many) in
      (within, seen_stands script sessions h.work part (history_of kept part) (h.parts part within) at s t e is seen.1 seen.2)

  heard_at : (at : ℕ) (s : Session) → slice_get sessions at ≡ Some s → AllByRecursion (HasItsEntry kept (suc at)) (log_of kept (suc at))
  heard_at at s is =
      subst (AllByRecursion (HasItsEntry kept (suc at))) (sym (log_is at s is))
      (all-weaker (HasHeard (suc at) s.tokens) (HasItsEntry kept (suc at)) its s.asking.log (h.work at s is).heard)
    where
      its : (z : LogEntry) → HasHeard (suc at) s.tokens z → HasItsEntry kept (suc at) z
      its (Asked p sync q l (Reply r)) k = (k.0, (within_tokens at s p k.0 is k.1).1, k.1.3, k.2, k.3)
      its (Asked p sync q l PathFailed) k = tt
      its (Asked p sync q l (Stamp stamp)) k = absurd k
      its (Drew n f w) k = tt

  abbrev Begun : Script → ℕ → List LogEntry → UnderWay → Type 0
  Begun of n log way = AreAbove log way × BeginsWith of n way log

  begun_at : (at : ℕ) (s : Session) → slice_get sessions at ≡ Some s → Begun script (suc at) (log_of kept (suc at)) (way_of ways (suc at))
  begun_at at s is =
      let w = h.work at s is in
      let own : Begun s.asking.script s.asking.number s.asking.log s.asking.way = w.asking.asks in
      let of = subst (λ (x : Script). Begun x s.asking.number s.asking.log s.asking.way) w.script_is own in
      let number = subst (λ (n : ℕ). Begun script n s.asking.log s.asking.way) w.number_is of in
      let log = subst (λ (es : List LogEntry). Begun script (suc at) es s.asking.way) (sym (log_is at s is)) number in
      subst (λ (x : UnderWay). Begun script (suc at) (log_of kept (suc at)) x) (sym (way_is at s is)) log

  logs_begin : LogsSoFar script kept ways
  logs_begin = record { logs = many; each = each }
    where
      many : length kept.logs ≡ count
      many = let of = ap (λ (ls : List (List LogEntry)). length ls) h.logs in let same = length-map sessions (λ (s : Session). s.asking.log) in of ∙ same ∙ h.many

      each : (n : ℕ) → Lies 1 count n → Begun script n (log_of kept n) (way_of ways n)
      each n lies = let a = at_number n lies in subst (λ (m : ℕ). Begun script m (log_of kept m) (way_of ways m)) (sym a.3) (begun_at a.0 a.1 a.2)

  -- what the passes to the journal added, with its places
  abbrev mines : List (ℕ × Drawn)
  mines = flat_map (λ (p : JournalPass). p.mine) (map (λ (s : Session). s.commits) sessions)

  abbrev placed : List (ℕ × Drawn)
  placed = enumerate_from 0 kept.journal

  abbrev mine_of : Session → List (ℕ × Drawn)
  mine_of s = s.commits.mine

  mines_are : mines ≡ flat_map mine_of sessions
  mines_are = flat_map-map (λ (p : JournalPass). p.mine) (λ (s : Session). s.commits) sessions

  -- each commit was drawn by the session of its name
  its_session : (at : ℕ) (s : Session) (p : ℕ × Drawn) → slice_get sessions at ≡ Some s → Contains (mine_of s) p → p.1.name.session ≡ suc at
  its_session at s p is c =
      let w = h.work at s is in
      let in_map : Contains (map (λ (x : ℕ × Drawn). x.1) (mine_of s)) p.1 = in_mapped (λ (x : ℕ × Drawn). x.1) (mine_of s) p c in
      let in_log = subst (λ (ds : List Drawn). Contains ds p.1) w.draws in_map in
      let begun = subst (λ (x : Script). BeginsWith x s.asking.number s.asking.way s.asking.log) w.script_is w.asking.asks.1 in
      drawn_named script s.asking.number s.asking.way s.asking.log begun p.1 in_log ∙ w.number_is

  drawn_place : (p : ℕ × Drawn) → Contains placed p → (at : ℕ) × (s : Session) × (slice_get sessions at ≡ Some s) × Contains (mine_of s) p
  drawn_place p c =
      let there = Contains-permutation placed mines p (IsPermutation-sym mines placed h.journal_made) c in
      in_one mine_of sessions p (subst (λ (ps : List (ℕ × Drawn)). Contains ps p) mines_are there)

  module _ (at : ℕ) (s : Session) (is : slice_get sessions at ≡ Some s) where
    abbrev is_own : ℕ × Drawn → Bool
    is_own p = p.1.name.session == suc at

    to_journal : (p : ℕ × Drawn) → Contains (mine_of s) p → Contains (filter is_own placed) p
    to_journal p c =
        let there = subst (λ (ps : List (ℕ × Drawn)). Contains ps p) (sym mines_are) (of_one mine_of sessions at s p is c) in
        contains_filter is_own placed p (eq-eqb p.1.name.session (suc at) (its_session at s p is c)) (Contains-permutation mines placed p h.journal_made there)

    from_journal : (p : ℕ × Drawn) → Contains (filter is_own placed) p → Contains (mine_of s) p
    from_journal p c =
        let all = recursion_from_All (Contains placed) placed (All-contains_itself placed) in
        let passed = all_in (λ (x : ℕ × Drawn). (is_own x ≡ true) × Contains placed x) p (filter is_own placed) c
        (all-passing (Contains placed) (λ (x : ℕ × Drawn). (is_own x ≡ true) × Contains placed x) is_own placed (λ x t k. (t, k)) all) in
        let from = drawn_place p passed.1 in
        let number : suc from.0 ≡ suc at = sym (its_session from.0 from.1 p from.2 from.3) ∙ eqb-true p.1.name.session (suc at) passed.0 in
        let place : from.0 ≡ at = omega (arith, number) in
        let both : Some from.1 ≡ Some s = sym from.2 ∙ ap (slice_get sessions) place ∙ is in
        subst (λ (x : Session). Contains (mine_of x) p) (some-same from.1 s both) from.3

    own_draws : drawn_in (log_of kept (suc at)) ≡ filter (λ (d : Drawn). d.name.session == suc at) kept.journal
    own_draws =
        let w = h.work at s is in
        let mine = (all_at (λ (s : Session). StandIn s.commits.mine s.commits.seen) sessions at s h.journal_order is).rise in
        let all = rises_filtered is_own 0 placed (rises_enumerated 0 kept.journal) in
        let same = same_rising 0 (mine_of s) (filter is_own placed) mine all to_journal from_journal in
        let log = ap drawn_in (log_is at s is) in
        log ∙ sym w.draws ∙ ap (map (λ (p : ℕ × Drawn). p.1)) same ∙ filtered_places (λ (d : Drawn). d.name.session == suc at) 0 kept.journal

  journal_drawn : JournalGathered count kept
  journal_drawn =
      record {
        rise = h.stamps_rise;
        named = all_made (λ (d : Drawn). Lies 1 count d.name.session) kept.journal (map (λ (s : Session). s.commits) sessions) h.journal_made (
            all-map (λ (p : JournalPass). AllByRecursion (λ (x : ℕ × Drawn). Lies 1 count x.1.name.session) p.mine) (λ (s : Session). s.commits) sessions
            (all_places (λ (s : Session). AllByRecursion (λ (x : ℕ × Drawn). Lies 1 count x.1.name.session) (mine_of s)) sessions (λ at s is.
            let all = recursion_from_All (Contains (mine_of s)) (mine_of s) (All-contains_itself (mine_of s)) in
            all-weaker (Contains (mine_of s)) (λ (x : ℕ × Drawn). Lies 1 count x.1.name.session) (λ p c. subst (Lies 1 count) (sym (its_session at s p is c)) (lies_at at s is)) (mine_of s) all))
            );
        own = λ n lies.
            let a = at_number n lies in
            subst (λ (m : ℕ). drawn_in (log_of kept m) ≡ filter (λ (d : Drawn). d.name.session == m) kept.journal) (sym a.3) (own_draws a.0 a.1 a.2);
      }

  pub pooled_gathered : Gathered script kept ways
  pooled_gathered =
      record {
        script_runs = h.script_runs;
        histories_replay = h.histories_replay;
        journal_drawn = journal_drawn;
        openers = all_places (λ (es : List Entry). AllByRecursion (λ (e : Entry). Lies 1 count e.opener) es) kept.histories (λ i es is.
            let within = place-within kept.histories i es is in
            let asked = subst (AllByRecursion (λ (e : Entry). WasAsked sessions i e.opener e.sync e.request)) (history_at i es is) (joined_asked i within) in
            all-weaker (λ (e : Entry). WasAsked sessions i e.opener e.sync e.request) (λ (e : Entry). Lies 1 count e.opener) (opened_by i) es asked);
        posted = λ part within.
            all-weaker (λ (e : Entry). WasAsked sessions part e.opener e.sync e.request) (λ (e : Entry). IsPosted kept ways e.opener part e.sync e.request) (λ e w. asked_posted part e.opener e.sync e.request w) (history_of kept part) (joined_asked part within);
        heard = λ n lies. let a = at_number n lies in subst (λ (m : ℕ). AllByRecursion (HasItsEntry kept m) (log_of kept m)) (sym a.3) (heard_at a.0 a.1 a.2);
        logs_begin = logs_begin;
      }

  so_far : LegalSoFar script kept ways
  so_far = gathered-so_far script kept ways pooled_gathered

  -- nothing stopped a session
  module _ (few : length kept.journal < 2 ^ 64 - 1) (at : ℕ) (s : Session) (is : slice_get sessions at ≡ Some s) where
    lies : Lies 1 count (suc at)
    lies = lies_at at s is

    fitting : (way : UnderWay) (x : Sending) (e : Entry) → s.asking.way ≡ way → IsOpen way x → HasSeen s.tokens x.part (suc at) e → e.sync ≡ x.sync → fits x.request.ask e.reply ≡ true
    fitting (Awaiting sends) x e way is_in seen sync =
        let there = within_tokens at s x.part e is seen in
        sends_fit script kept ways so_far (suc at) sends x e lies (way_is at s is ∙ way) is_in there.0 there.1 seen.3 sync
    fitting (Drawing name floor) x e way none seen sync = absurd none

    not_later : (x : Sending) (e : Entry) → IsOpen s.asking.way x → HasSeen s.tokens x.part (suc at) e → e.sync ≤ x.sync
    not_later x e is_open seen =
        let there = within_tokens at s x.part e is seen in
        let opens = zip_at IsLegal (openings script) kept.histories [] x.part h.histories_replay there.0 in
        let open_here = subst (λ (way : UnderWay). IsOpen way x) (sym (way_is at s is)) is_open in
        let all = none_later script kept ways so_far (suc at) lies x.part there.0 opens.0 opens.1 x refl open_here in
        let own = contains_filter (by_opener (suc at)) (history_of kept x.part) e (eq-eqb e.opener (suc at) seen.3) there.1 in
        all_in (λ (f : Entry). f.sync ≤ x.sync) e (filter (by_opener (suc at)) (history_of kept x.part)) own all

    begins : IsPrefix s.commits.seen kept.journal
    begins = all_at (λ (s : Session). IsPrefix s.commits.seen kept.journal) sessions at s h.journal_begins is

    not_refused : (name : TxnName) (floor : ℕ) → s.asking.way ≡ Drawing name floor → Refuses s.commits.seen name floor → ⊥
    not_refused name floor way (inl drawn) =
        let none = not_drawn script kept ways so_far (suc at) name floor lies (way_is at s is ∙ way) in
        let all = find-none (λ (d : Drawn). same_txn d.name name) kept.journal none in
        let front = all_left (λ (d : Drawn). same_txn d.name name ≡ false) s.commits.seen begins.0 (subst (AllByRecursion (λ (d : Drawn). same_txn d.name name ≡ false)) (sym begins.1) all) in
        drawn (none-find (λ (d : Drawn). same_txn d.name name) s.commits.seen front)
    not_refused name floor way (inr spent) =
        let counts = stamps_count script kept ways so_far in
        let low = counts.floors (suc at) name floor lies (way_is at s is ∙ way) in
        let rise = subst (StampsRise 0) (sym begins.1) h.stamps_rise in
        let last : last_stamp 0 s.commits.seen ≤ last_stamp 0 kept.journal = subst (λ (ds : List Drawn). last_stamp 0 s.commits.seen ≤ last_stamp 0 ds) begins.1 (stamps_up 0 s.commits.seen begins.0 rise) in
        let counted = counts.counted in
        not_spent (last_stamp 0 s.commits.seen) floor (length kept.journal) (2 ^ 64 - 1) (omega (arith, last, counted)) low few spent

    pub never_stops : (stop : Stop) → IsStopped s.asking s.tokens s.commits stop → ⊥
    never_stops Misfit k =
        let number = (h.work at s is).number_is in
        let fit = fitting s.asking.way k.0 k.1 refl k.2 (subst (λ (n : ℕ). HasSeen s.tokens k.0.part n k.1) number k.3) k.4 in
        false≢true (sym k.5 ∙ fit)
    never_stops Passed k =
        let number = (h.work at s is).number_is in
        let low = not_later k.0 k.1 k.2 (subst (λ (n : ℕ). HasSeen s.tokens k.0.part n k.1) number k.3) in
        omega (arith, low, k.4)
    never_stops Refused k = not_refused k.0 k.1 k.2 k.3

    has_finished : (stop : Option Stop) → HasEnded s.asking s.tokens s.commits stop → s.asking.way ≡ Awaiting []
    has_finished None k = k
    has_finished (Some stop) k = absurd (never_stops stop k)

    pub finished : s.asking.way ≡ Awaiting []
    finished = has_finished s.stop (all_at (λ (s : Session). HasEnded s.asking s.tokens s.commits s.stop) sessions at s h.over is)

    whole : follows script (suc at) (log_of kept (suc at))
    whole =
        let w = h.work at s is in
        let own = w.asking.whole finished in
        let of = subst (λ (x : Script). follows x s.asking.number s.asking.log) w.script_is own in
        let number = subst (λ (n : ℕ). follows script n s.asking.log) w.number_is of in
        subst (follows script (suc at)) (sym (log_is at s is)) number

  all_finished : length kept.journal < 2 ^ 64 - 1 → AllFinished script kept ways
  all_finished few n lies =
      let a = at_number n lies in
      subst (λ (m : ℕ). (way_of ways m ≡ Awaiting []) × follows script m (log_of kept m)) (sym a.3) (way_is a.0 a.1 a.2 ∙ finished few a.0 a.1 a.2, whole few a.0 a.1 a.2)

  -- what is pooled is a legal record, once the rows are those that its histories leave
  pub pooled_legal : length kept.journal < 2 ^ 64 - 1 → RowsLeft script kept → Legal script kept
  pooled_legal few rows =
      let all = all_finished few in
      finished-legal script kept ways so_far (λ n lies. (all n lies).0) (λ n lies. (all n lies).1) rows

  -- and its wires told what its logs lost
  pub pooled_carried : length kept.journal < 2 ^ 64 - 1 → AllCarried told kept
  pooled_carried few n t lies is =
      let logs = logs_begin.logs in
      let a = at_number n (lies.0, omega (arith, lies.1, logs)) in
      let place : n - 1 ≡ a.0 = omega (arith, a.3) in
      let its = subst (λ (i : ℕ). slice_get told i ≡ Some t) place is in
      let none = by_stop few a.0 a.1 a.2 a.1.stop refl in
      let k = h.carried a.0 a.1 t a.2 its none in
      let log = log_is a.0 a.1 a.2 in
      let whole = carried_whole t.first t.round kept (suc a.0) k.1.0 k.0.first (subst (λ (es : List LogEntry). IsCarried t.first t.round k.1.0 k.0.first es []) (sym log) k.1.1) (λ some. absurd (some h.no_acts)) in
      subst (λ (m : ℕ). Carried kept m t.first t.round) (sym a.3) whole
    where
      by_stop : length kept.journal < 2 ^ 64 - 1 → (at : ℕ) (s : Session) → slice_get sessions at ≡ Some s → (stop : Option Stop) → s.stop ≡ stop → s.stop ≡ None
      by_stop few at s is None has = has
      by_stop few at s is (Some stop) has =
          let ended = all_at (λ (s : Session). HasEnded s.asking s.tokens s.commits s.stop) sessions at s h.over is in
          absurd (never_stops few at s is stop (subst (HasEnded s.asking s.tokens s.commits) has ended))
