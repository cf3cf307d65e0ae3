-- The journal of a run with threads: what its sessions drew gives that its stamps are drawn.
use Rattle.std.proofs.Common.{◌≡◌, ◌<◌, ◌-◌, ℕ, zero, suc, List, [], ◌∷◌, ◌++◌, length, map, Option, Some, None, Bool, true, false, refl, ap, sym, ◌∙◌, subst, inl, inr, arith}
use Rattle.std.proofs.lemmas.Bool.{and_parts, cases_lt, eq-eqb, eqb-true}
use Rattle.std.proofs.lemmas.Option.{slice_get_past}
use Rattle.std.specs.Prelude.{filter, slice_get, unwrap_or, ◌==◌, Contains}
use Rattle.std.specs.List.{AllByRecursion, list_any}
use Rattle.sql_base.specs.Locks.{same_txn}
use Rattle.sql_base.specs.Scripts.{IsScript, Lies}
use Rattle.sql_base.specs.Tables.{all_differ}
use Rattle.sql_base.specs.declared.scripts.Script.{Script}
use Rattle.commit_journal.specs.declared.Drawn.{Drawn}
use Rattle.session_grammar.specs.Follows.{asker, works_of}
use Rattle.session_grammar.specs.declared.logs.Answer.TheVariants.{Reply, PathFailed, Stamp}
use Rattle.session_grammar.specs.declared.logs.LogEntry.{LogEntry}
use Rattle.session_grammar.specs.declared.logs.LogEntry.TheVariants.{Asked, Drew}
use Rattle.run_record.specs.Legal.{StampsDrawn, StampsOfLogRise, drawn_in}
use Rattle.commit_journal.specs.Journal.{StampsRise}
use Rattle.run_record.specs.Openings.{log_of}
use Rattle.run_record.specs.declared.records.RunRecord.{RunRecord}
use Rattle.record_laws.specs.SoFar.{LogsSoFar, way_of}
use Rattle.session_grammar.specs.UnderWay.{BeginsWith, IsWith, Merges, Awaiting, Drawing, UnderWay}
use Rattle.record_laws.proofs.Attempts.{attempts_counted}
use Rattle.record_laws.proofs.Completing.{filled_merges}
use Rattle.record_laws.proofs.Drawing.{Later, Rising, drawn-append, drawn_rising}
use Rattle.driver_laws.specs.Gathering.{JournalGathered}
use Rattle.driver_laws.proofs.Seats.{contains_filter}
use Rattle.run_record.proofs.DrawnLogs.{of_logs}
use Rattle.sql_base.proofs.ListFacts.{all-filter, all-weaker, all_in, all_passed, all_places, all_left}

abbrev is_of : ℕ → Drawn → Bool
is_of session d = d.name.session == session

-- stamps that rise
abbrev Up : List Drawn → Type 0
Up [] = Unit {0}
Up (d ∷ ds) = AllByRecursion (λ e. d.stamp < e.stamp) ds × Up ds

rise_up : (last : ℕ) (journal : List Drawn) → StampsRise last journal → AllByRecursion (λ d. last < d.stamp) journal × Up journal
rise_up last [] h = (tt, tt)
rise_up last (d ∷ journal) h =
    let rest = rise_up d.stamp journal h.1 in
    ((omega (arith, h.0), all-weaker (λ (e : Drawn). d.stamp < e.stamp) (λ (e : Drawn). last < e.stamp) (λ e lt. omega (arith, lt, h.0)) journal rest.0), (rest.0, rest.1))

up_filter : (q : Drawn → Bool) (ds : List Drawn) → Up ds → Up (filter q ds)
up_filter q [] h = tt
up_filter q (d ∷ ds) h = by_test (q d) refl (up_filter q ds h.1)
  where
    by_test : (b : Bool) → q d ≡ b → Up (filter q ds) → Up (filter q (d ∷ ds))
    by_test true e rest = rw e (all-filter (λ (x : Drawn). d.stamp < x.stamp) q ds h.0, rest)
    by_test false e rest = rw e rest

up_rise : (ds : List Drawn) → Up ds → StampsOfLogRise ds
up_rise [] h = tt
up_rise (d ∷ []) h = tt
up_rise (d ∷ e ∷ ds) h = (h.0.0, up_rise (e ∷ ds) h.1)

of_filter : {X : Type 0} (q : X → Bool) (xs : List X) (x : X) → Contains (filter q xs) x → Contains xs x
of_filter q [] x h = h
of_filter q (y ∷ xs) x h = by_test (q y) refl (λ g. of_filter q xs x g)
  where
    behind : Contains xs x → Contains (y ∷ xs) x
    behind c = (suc c.0, omega (arith, c.1), c.2)

    in_kept : Contains (y ∷ filter q xs) x → (Contains (filter q xs) x → Contains xs x) → Contains (y ∷ xs) x
    in_kept (zero, lt, is) rest = (zero, omega arith, is)
    in_kept (suc k, lt, is) rest = behind (rest (k, omega (arith, lt), is))

    by_test : (b : Bool) → q y ≡ b → (Contains (filter q xs) x → Contains xs x) → Contains (y ∷ xs) x
    by_test true e rest = in_kept (rw e at h) rest
    by_test false e rest = behind (rest (rw e at h))

-- what a log drew, its attempts drew in rising ordinals
drawn_weaker : (P : Drawn → Type 0) (log answered whole : List LogEntry) → Merges log answered whole → AllByRecursion P (drawn_in whole) → AllByRecursion P (drawn_in log)
drawn_weaker P log answered [] m h = subst (λ (es : List LogEntry). AllByRecursion P (drawn_in es)) (sym m.0) tt
drawn_weaker P log answered (Asked p s q l w ∷ zs) (inl m) h = subst (λ (es : List LogEntry). AllByRecursion P (drawn_in es)) (sym m.1) (drawn_weaker P m.0 answered zs m.2 h)
drawn_weaker P log answered (Drew n f (Reply r) ∷ zs) (inl m) h = subst (λ (es : List LogEntry). AllByRecursion P (drawn_in es)) (sym m.1) (drawn_weaker P m.0 answered zs m.2 h)
drawn_weaker P log answered (Drew n f PathFailed ∷ zs) (inl m) h = subst (λ (es : List LogEntry). AllByRecursion P (drawn_in es)) (sym m.1) (drawn_weaker P m.0 answered zs m.2 h)
drawn_weaker P log answered (Drew n f (Stamp stamp) ∷ zs) (inl m) h = subst (λ (es : List LogEntry). AllByRecursion P (drawn_in es)) (sym m.1) (h.0, drawn_weaker P m.0 answered zs m.2 h.1)
drawn_weaker P log answered (Asked p s q l w ∷ zs) (inr m) h = drawn_weaker P log m.0 zs m.2 h
drawn_weaker P log answered (Drew n f (Reply r) ∷ zs) (inr m) h = drawn_weaker P log m.0 zs m.2 h
drawn_weaker P log answered (Drew n f PathFailed ∷ zs) (inr m) h = drawn_weaker P log m.0 zs m.2 h
drawn_weaker P log answered (Drew n f (Stamp stamp) ∷ zs) (inr m) h = drawn_weaker P log m.0 zs m.2 h.1

merged_rising : (log answered whole : List LogEntry) → Merges log answered whole → Rising (drawn_in whole) → Rising (drawn_in log)
merged_rising log answered [] m h = subst (λ (es : List LogEntry). Rising (drawn_in es)) (sym m.0) tt
merged_rising log answered (Asked p s q l w ∷ zs) (inl m) h = subst (λ (es : List LogEntry). Rising (drawn_in es)) (sym m.1) (merged_rising m.0 answered zs m.2 h)
merged_rising log answered (Drew n f (Reply r) ∷ zs) (inl m) h = subst (λ (es : List LogEntry). Rising (drawn_in es)) (sym m.1) (merged_rising m.0 answered zs m.2 h)
merged_rising log answered (Drew n f PathFailed ∷ zs) (inl m) h = subst (λ (es : List LogEntry). Rising (drawn_in es)) (sym m.1) (merged_rising m.0 answered zs m.2 h)
merged_rising log answered (Drew n f (Stamp stamp) ∷ zs) (inl m) h =
    subst (λ (es : List LogEntry). Rising (drawn_in es)) (sym m.1) (drawn_weaker (Later (record { name = n; floor = f; stamp = stamp })) m.0 answered zs m.2 h.0, merged_rising m.0 answered zs m.2 h.1)
merged_rising log answered (Asked p s q l w ∷ zs) (inr m) h = merged_rising log m.0 zs m.2 h
merged_rising log answered (Drew n f (Reply r) ∷ zs) (inr m) h = merged_rising log m.0 zs m.2 h
merged_rising log answered (Drew n f PathFailed ∷ zs) (inr m) h = merged_rising log m.0 zs m.2 h
merged_rising log answered (Drew n f (Stamp stamp) ∷ zs) (inr m) h = merged_rising log m.0 zs m.2 h.1

rising_front : (xs ys : List Drawn) → Rising (xs ++ ys) → Rising xs
rising_front [] ys h = tt
rising_front (x ∷ xs) ys h = (all_left (Later x) xs ys h.0, rising_front xs ys h.1)

log_rising : (script : Script) (session : ℕ) (log : List LogEntry) (way : UnderWay) → BeginsWith script session way log → Rising (drawn_in log)
log_rising script session log way begins = by_way way begins.2
  where
    whole_rising : Rising (drawn_in begins.0)
    whole_rising =
        let r = asker script session in
        let reads = begins.3.1 in
        let own = attempts_counted r 1 (works_of script session) begins.3.0 reads.attempts_are in
        let all = (drawn_rising r 1 begins.3.0 own.0 own.1).1 in
        rising_front (drawn_in begins.0) (drawn_in begins.1) (subst Rising (ap drawn_in (sym reads.entries) ∙ drawn-append begins.0 begins.1) all)

    by_way : (w : UnderWay) → IsWith w log begins.0 → Rising (drawn_in log)
    by_way (Awaiting sends) h = merged_rising log h.answered begins.0 (filled_merges sends log begins.0 h) whole_rising
    by_way (Drawing name floor) h = rising_front (drawn_in log) _ (subst Rising (ap drawn_in h.1 ∙ drawn-append log (Drew name floor (Stamp h.0) ∷ [])) whole_rising)

-- so no name stands in the journal twice
names_differ : (sessions : ℕ) (ds : List Drawn) → AllByRecursion (λ d. Lies 1 sessions d.name.session) ds → ((s : ℕ) → Lies 1 sessions s → Rising (filter (is_of s) ds)) → all_differ same_txn (map (λ (d : Drawn). d.name) ds) ≡ true
names_differ sessions [] lies rising = refl
names_differ sessions (d ∷ ds) lies rising = rw (first ds (all_passed (is_of d.name.session) (Later d) ds own.0)) (names_differ sessions ds lies.1 (λ s ls. rest s (is_of s d) refl (rising s ls)))
  where
    own : Rising (d ∷ filter (is_of d.name.session) ds)
    own = rw (eq-eqb d.name.session d.name.session refl) at (rising d.name.session lies.0)

    rest : (s : ℕ) (b : Bool) → is_of s d ≡ b → Rising (filter (is_of s) (d ∷ ds)) → Rising (filter (is_of s) ds)
    rest s true e h = let g : Rising (d ∷ filter (is_of s) ds) = rw e at h in g.1
    rest s false e h = rw e at h

    differs : (e : Drawn) → (is_of d.name.session e ≡ true → Later d e) → same_txn d.name e.name ≡ false
    differs e to = by_test (same_txn d.name e.name) refl
      where
        by_test : (b : Bool) → same_txn d.name e.name ≡ b → same_txn d.name e.name ≡ false
        by_test false t = t
        by_test true t =
            let two = and_parts (d.name.session == e.name.session) (d.name.ordinal == e.name.ordinal) t in
            let lt = to (eq-eqb e.name.session d.name.session (sym (eqb-true d.name.session e.name.session two.0))) in
            let same = eqb-true d.name.ordinal e.name.ordinal two.1 in
            absurd (omega (arith, lt, same))

    first : (es : List Drawn) → AllByRecursion (λ e. is_of d.name.session e ≡ true → Later d e) es → list_any (same_txn d.name) (map (λ (x : Drawn). x.name) es) ≡ false
    first [] h = refl
    first (e ∷ es) h = rw (differs e h.0) (first es h.1)

-- the stamps of the run are drawn
pub stamps_gathered : (script : Script) (kept : RunRecord) (ways : List UnderWay) → IsScript script → LogsSoFar script kept ways → JournalGathered (length script.sessions) kept → StampsDrawn kept
stamps_gathered script kept ways is logs g =
    record {
      rise = g.rise;
      once = names_differ (length script.sessions) kept.journal g.named (λ s ls. subst Rising (g.own s ls) (log_rising script s (log_of kept s) (way_of ways s) (logs.each s ls).1));
      drawn = of_logs kept (λ d. (to_log d, λ at. to_journal d at.0 at.1));
      in_order = all_places (λ (log : List LogEntry). StampsOfLogRise (drawn_in log)) kept.logs in_one;
    }
  where
    to_log : (d : Drawn) → Contains kept.journal d → (s : ℕ) × Contains (drawn_in (log_of kept s)) d
    to_log d c =
        let ls = all_in (λ (x : Drawn). Lies 1 (length script.sessions) x.name.session) d kept.journal c g.named in
        (d.name.session, subst (λ (ds : List Drawn). Contains ds d) (sym (g.own d.name.session ls)) (contains_filter (is_of d.name.session) kept.journal d (eq-eqb d.name.session d.name.session refl) c))

    of_session : (d : Drawn) (s : ℕ) → Lies 1 (length script.sessions) s → Contains (drawn_in (log_of kept s)) d → Contains kept.journal d
    of_session d s ls c = of_filter (is_of s) kept.journal d (subst (λ (ds : List Drawn). Contains ds d) (g.own s ls) c)

    past : (d : Drawn) (n : ℕ) → length script.sessions < suc n → Contains (drawn_in (log_of kept (suc n))) d → Contains kept.journal d
    past d n above c =
        let none : slice_get kept.logs (suc n - 1) ≡ None = slice_get_past kept.logs (suc n - 1) (omega (arith, above, logs.logs)) in
        let empty : log_of kept (suc n) ≡ [] = ap (λ (log : Option (List LogEntry)). unwrap_or log []) none in
        let in_none = subst (λ (log : List LogEntry). Contains (drawn_in log) d) empty c in
        absurd (omega (arith, in_none.1))

    to_journal : (d : Drawn) (s : ℕ) → Contains (drawn_in (log_of kept s)) d → Contains kept.journal d
    to_journal d zero c = of_session d 1 (omega arith, is.some_sessions.0) c
    to_journal d (suc n) c = elim (cases_lt (length script.sessions) (suc n)) [ inl above ↦ past d n above c | inr below ↦ of_session d (suc n) (omega arith, below) c ]

    within : (xs : List (List LogEntry)) (i : ℕ) (log : List LogEntry) → slice_get xs i ≡ Some log → i < length xs
    within [] i log at = absurd (cc at)
    within (x ∷ xs) zero log at = omega arith
    within (x ∷ xs) (suc i) log at = let r = within xs i log at in omega (arith, r)

    in_one : (i : ℕ) (log : List LogEntry) → slice_get kept.logs i ≡ Some log → StampsOfLogRise (drawn_in log)
    in_one i log at =
        let lt = within kept.logs i log at in
        let ls : Lies 1 (length script.sessions) (suc i) = (omega arith, omega (arith, lt, logs.logs)) in
        let minus : suc i - 1 ≡ i = omega arith in
        let here : log_of kept (suc i) ≡ log = ap (λ n. unwrap_or (slice_get kept.logs n) []) minus ∙ ap (λ (l : Option (List LogEntry)). unwrap_or l []) at in
        subst (λ (l : List LogEntry). StampsOfLogRise (drawn_in l)) here (subst StampsOfLogRise (sym (g.own (suc i) ls)) (up_rise (filter (is_of (suc i)) kept.journal) (up_filter (is_of (suc i)) kept.journal (rise_up 0 kept.journal g.rise).1)))
