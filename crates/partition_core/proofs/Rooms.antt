-- What settles a live transaction, and the room that is kept back for it.
use Rattle.std.proofs.Common.{◌≡◌, ◌⊎◌, inl, inr, ◌<◌, ◌≤◌, ◌+◌, ◌*◌, ℕ, List, [], ◌∷◌, ◌++◌, length, map, Bool, true, false, cond, Option, Some, None, Result, Ok, Err, refl, ap, sym, ◌∙◌, subst, arith}
use Rattle.std.specs.Prelude.{filter, find, not, is_none, nat_le, option_and_then, ◌==◌, ◌&&◌, IfOk, vec_capacity, vec_len}
use Rattle.std.specs.List.{AllByRecursion}
use Rattle.std.proofs.lemmas.Bool.{and_parts, false≢true, or_cases, or_left, or_right}
use Rattle.std.proofs.lemmas.Bool.Decides.{nat_tests}
use Rattle.sql_base.specs.Locks.{same_txn}
use Rattle.sql_base.specs.declared.faults.NoMemory.{NoMemory}
use Rattle.sql_base.specs.declared.lock_names.TxnName.{TxnName}
use Rattle.dp_messages.specs.declared.requests.Ask.{Ask}
use Rattle.dp_messages.specs.declared.requests.Ask.TheVariants.{BeginRead, BeginUpdate, BeginDelete, Continue, ReadKey, Insert, LockGranule, Prepare, EndCommit, EndUndo}
use Rattle.partition_state.specs.State.{State, Opener, enlisted, floor_of, is_live, opener_of}
use Rattle.partition_state.specs.Step.{is_closing, other_live, prepared}
use Rattle.partition_state.specs.declared.lives.Live.{Live}
use Rattle.partition_laws.specs.Keeping.{IsCurrent, Keeps, last_ended, lives_in}
use Rattle.partition_laws.proofs.Corollaries.{one_live}
use Rattle.partition_core.specs.Scaffold.Changes.{changed, plans_in}
use Rattle.partition_core.specs.Scaffold.Contents.{Parts, parts_of, state_of}
use Rattle.partition_core.specs.Rooms.{HasRoom, HasRoomFor, IsKeptBack, IsKeptBackAfter, IsSettled, ends_left, kept_back, takes_kept_back}
use Rattle.partition_core.specs.Settling.{is_above, settles}
use Rattle.partition_core.specs.declared.changes.Change.{Change}
use Rattle.partition_core.specs.declared.changes.Change.TheVariants.{Stays, Begins, Advances, Closes, Inserts, Prepares, Commits, Undoes}
use Rattle.partition_core.specs.declared.changes.Judgement.{Judgement}
use Rattle.partition_core.specs.declared.contents.Contents.{Contents}
use Rattle.sql_base.proofs.RowFacts.{same_txn-is, same_txn-itself}

-- only Prepare and the ends settle, and only a live transaction is settled
pub settles-closing : (p : State) (t : TxnName) (ask : Ask) → is_closing ask ≡ false → settles p t ask ≡ false
settles-closing p t (BeginRead access granule range filter columns) h = refl
settles-closing p t (BeginUpdate access granule range filter sets) h = refl
settles-closing p t (BeginDelete access granule range filter) h = refl
settles-closing p t (Continue subset last) h = refl
settles-closing p t (ReadKey access key filter columns) h = refl
settles-closing p t (Insert row) h = refl
settles-closing p t (LockGranule prefix mode) h = refl
settles-closing p t Prepare h = absurd (false≢true (sym h))
settles-closing p t (EndCommit stamp) h = absurd (false≢true (sym h))
settles-closing p t EndUndo h = absurd (false≢true (sym h))

settles-live : (p : State) (t : TxnName) (ask : Ask) → settles p t ask ≡ true → is_live p t ≡ true
settles-live p t (BeginRead access granule range filter columns) h = absurd (false≢true h)
settles-live p t (BeginUpdate access granule range filter sets) h = absurd (false≢true h)
settles-live p t (BeginDelete access granule range filter) h = absurd (false≢true h)
settles-live p t (Continue subset last) h = absurd (false≢true h)
settles-live p t (ReadKey access key filter columns) h = absurd (false≢true h)
settles-live p t (Insert row) h = absurd (false≢true h)
settles-live p t (LockGranule prefix mode) h = absurd (false≢true h)
settles-live p t Prepare h = (and_parts _ _ h).0
settles-live p t (EndCommit stamp) h = (and_parts _ _ h).0
settles-live p t EndUndo h = h

-- a live transaction is above the last that ended of its opener
current : (openers : List Opener) (lives : List Live) (t : TxnName) → AllByRecursion (IsCurrent openers) lives → lives_in lives t ≡ true → last_ended openers t.session < t.ordinal
current openers [] t h live = absurd (false≢true live)
current openers (l ∷ lives) t h live = at (or_cases (same_txn l.name t) (lives_in lives t) live) (λ rest. current openers lives t h.1 rest)
  where
    at : (same_txn l.name t ≡ true) ⊎ (lives_in lives t ≡ true) → (lives_in lives t ≡ true → last_ended openers t.session < t.ordinal) → last_ended openers t.session < t.ordinal
    at (inl e) rest = subst (λ (n : TxnName). last_ended openers n.session < n.ordinal) (same_txn-is l.name t e) h.0.1
    at (inr e) rest = rest e

-- what is found among the live ones is live, and passes
record IsFoundLive (test : Live → Bool) (lives : List Live) (l : Live) : Type 0 where
  pub live : lives_in lives l.name ≡ true
  pub passes : test l ≡ true

found-live : (test : Live → Bool) (lives : List Live) (l : Live) → find test lives ≡ Some l → IsFoundLive test lives l
found-live test [] l e = absurd (cc)
found-live test (m ∷ lives) l e = at (test m) refl e (λ rest. found-live test lives l rest)
  where
    at : (b : Bool) → test m ≡ b → cond b (Some m) (find test lives) ≡ Some l → (find test lives ≡ Some l → IsFoundLive test lives l) → IsFoundLive test (m ∷ lives) l
    at true passes is rest = let same : m ≡ l = cc in subst (λ (x : Live). IsFoundLive test (m ∷ lives) x) same (record { live = or_left (same_txn m.name m.name) (lives_in lives m.name) (same_txn-itself m.name); passes = passes })
    at false fails is rest = let found = rest is in record { live = or_right (same_txn m.name l.name) (lives_in lives l.name) found.live; passes = found.passes }

-- no other attempt of its opener is live
alone : (p : State) (t : TxnName) (l : Live) → Keeps p → is_live p t ≡ true → other_live p t ≡ Some l → ⊥
alone p t l k live e =
    let found = found-live (λ (m : Live). (m.name.session == t.session) && not (m.name.ordinal == t.ordinal)) p.lives l e in
    let parts = and_parts (l.name.session == t.session) (not (l.name.ordinal == t.ordinal)) found.passes in
    let session : l.name.session ≡ t.session = grind (arith, nat_tests) in
    let same : t ≡ l.name = one_live p t l.name k (sym session) live found.live in
    let ordinal : t.ordinal ≡ l.name.ordinal = ap (λ (n : TxnName). n.ordinal) same in
    grind (arith, nat_tests)

-- a request that settles passes the checks before the kinds
pub settles-new : (p : State) (t : TxnName) (ask : Ask) (ended : ℕ) → Keeps p → (opener_of p t.session).ended ≡ ended → t.ordinal ≤ ended → settles p t ask ≡ true → ⊥
settles-new p t ask ended k is old s =
    let above : (opener_of p t.session).ended < t.ordinal = current p.openers p.lives t k.lives.current (settles-live p t ask s) in
    omega (arith, is, above, old)

pub settles-alone : (p : State) (t : TxnName) (ask : Ask) (l : Live) → Keeps p → Some l ≡ other_live p t → settles p t ask ≡ true → ⊥
settles-alone p t ask l k e s = alone p t l k (settles-live p t ask s) (sym e)

-- without a floor, or with a stamp that isn't above it, no commit settles; where there is one no Prepare does
pub settles-no_floor : (p : State) (t : TxnName) (stamp : ℕ) → floor_of p t ≡ None → settles p t (EndCommit stamp) ≡ true → ⊥
settles-no_floor p t stamp e s = false≢true (sym (ap (is_above stamp) e) ∙ (and_parts (is_live p t) (is_above stamp (floor_of p t)) s).1)

pub settles-low : (p : State) (t : TxnName) (stamp floor : ℕ) → floor_of p t ≡ Some floor → stamp ≤ floor → settles p t (EndCommit stamp) ≡ true → ⊥
settles-low p t stamp floor e le s =
    let low : nat_le stamp floor ≡ true = grind (arith, nat_tests) in
    false≢true (sym (ap (is_above stamp) e ∙ ap not low) ∙ (and_parts (is_live p t) (is_above stamp (floor_of p t)) s).1)

pub settles-prepared : (p : State) (t : TxnName) (floor : ℕ) → floor_of p t ≡ Some floor → settles p t Prepare ≡ true → ⊥
settles-prepared p t floor e s = false≢true (sym (ap is_none e) ∙ (and_parts (is_live p t) (is_none (floor_of p t)) s).1)

-- what doesn't settle may come to any change
pub if_unsettled : (p : State) (t : TxnName) (ask : Ask) (r : Result Judgement NoMemory) → settles p t ask ≡ false → IfOk r (λ j. IsSettled p t ask j.change)
if_unsettled p t ask (Ok j) none = λ s. absurd (false≢true (sym none ∙ s))
if_unsettled p t ask (Err want) none = tt

-- nor does what comes to a change that takes no room that is kept back
pub unsettled : (p : State) (t : TxnName) (ask : Ask) (change : Change) → IsSettled p t ask change → takes_kept_back p t change ≡ false → settles p t ask ≡ false
unsettled p t ask change h none = at (settles p t ask) refl
  where
    at : (b : Bool) → settles p t ask ≡ b → b ≡ false
    at true s = absurd (false≢true (sym none ∙ h s))
    at false s = refl

-- what the entry of a change takes of the room that is kept back
kept_back-push : (lives : List Live) (l : Live) → kept_back (lives ++ l ∷ []) ≡ kept_back lives + ends_left l.floor
kept_back-push [] l = omega arith
kept_back-push (m ∷ lives) l = omega (arith, kept_back-push lives l)

kept_back-enlisted : (t : TxnName) (lives : List Live) → kept_back (enlisted t lives) ≤ kept_back lives + 2
kept_back-enlisted t lives = at (lives_in lives t) refl
  where
    at : (b : Bool) → lives_in lives t ≡ b → kept_back (cond b lives (lives ++ record { name = t; floor = None } ∷ [])) ≤ kept_back lives + 2
    at true e = omega arith
    at false e = omega (arith, kept_back-push lives (record { name = t; floor = None }))

ends_left-some : (floor : Option ℕ) → 1 ≤ ends_left floor
ends_left-some None = omega arith
ends_left-some (Some n) = omega arith

ends_left-twice : (floor : Option ℕ) → ends_left floor ≤ 2
ends_left-twice None = omega arith
ends_left-twice (Some n) = omega arith

ends_left-prepared : (t : TxnName) (floor : ℕ) (l : Live) (b : Bool) → same_txn l.name t ≡ b → ends_left (prepared t floor l).floor ≤ ends_left l.floor
ends_left-prepared t floor l true e = rw e (ends_left-some l.floor)
ends_left-prepared t floor l false e = rw e (omega arith)

kept_back-prepared : (t : TxnName) (floor : ℕ) (lives : List Live) → kept_back (map (prepared t floor) lives) ≤ kept_back lives
kept_back-prepared t floor [] = omega arith
kept_back-prepared t floor (l ∷ lives) = omega (arith, ends_left-prepared t floor l (same_txn l.name t) refl, kept_back-prepared t floor lives)

kept_back-gone : (t : TxnName) (lives : List Live) → kept_back (filter (λ l. not (same_txn l.name t)) lives) ≤ kept_back lives
kept_back-gone t [] = omega arith
kept_back-gone t (l ∷ lives) = at (same_txn l.name t) refl (kept_back-gone t lives)
  where
    at : (b : Bool) → same_txn l.name t ≡ b → kept_back (filter (λ l. not (same_txn l.name t)) lives) ≤ kept_back lives → kept_back (cond (not b) (l ∷ filter (λ l. not (same_txn l.name t)) lives) (filter (λ l. not (same_txn l.name t)) lives)) ≤ kept_back (l ∷ lives)
    at true e rest = omega arith
    at false e rest = omega arith

-- a change makes one transaction live at most
pub kept_back-changed : (q : Parts) (t : TxnName) (change : Change) → kept_back (changed q t change).lives ≤ kept_back q.lives + 2
kept_back-changed q t Stays = omega arith
kept_back-changed q t (Begins plans granule opened) = kept_back-enlisted t q.lives
kept_back-changed q t (Advances plans subset last) = omega arith
kept_back-changed q t (Closes plans subset) = omega arith
kept_back-changed q t (Inserts key row lock) = kept_back-enlisted t q.lives
kept_back-changed q t Prepares = omega (arith, kept_back-prepared t q.high q.lives)
kept_back-changed q t (Commits stamp) = omega (arith, kept_back-gone t q.lives)
kept_back-changed q t Undoes = omega (arith, kept_back-gone t q.lives)

pub kept_back-twice : (lives : List Live) → kept_back lives ≤ 2 * length lives
kept_back-twice [] = omega arith
kept_back-twice (l ∷ lives) = omega (arith, ends_left-twice l.floor, kept_back-twice lives)

gone-less : (t : TxnName) (lives : List Live) → lives_in lives t ≡ true → kept_back (filter (λ l. not (same_txn l.name t)) lives) + 1 ≤ kept_back lives
gone-less t [] live = absurd (false≢true live)
gone-less t (l ∷ lives) live = at (same_txn l.name t) refl (or_cases (same_txn l.name t) (lives_in lives t) live) (λ h. gone-less t lives h)
  where
    at : (b : Bool) → same_txn l.name t ≡ b → (same_txn l.name t ≡ true) ⊎ (lives_in lives t ≡ true) → (lives_in lives t ≡ true → kept_back (filter (λ l. not (same_txn l.name t)) lives) + 1 ≤ kept_back lives)
        → kept_back (cond (not b) (l ∷ filter (λ l. not (same_txn l.name t)) lives) (filter (λ l. not (same_txn l.name t)) lives)) + 1 ≤ kept_back (l ∷ lives)
    at true e either rest = omega (arith, ends_left-some l.floor, kept_back-gone t lives)
    at false e (inl h) rest = absurd (false≢true (sym e ∙ h))
    at false e (inr h) rest = omega (arith, rest h)

prepared-less : (t : TxnName) (floor : ℕ) (lives : List Live) → lives_in lives t ≡ true → option_and_then (λ (l : Live). l.floor) (find (λ l. same_txn l.name t) lives) ≡ None → kept_back (map (prepared t floor) lives) + 1 ≤ kept_back lives
prepared-less t floor [] live none = absurd (false≢true live)
prepared-less t floor (l ∷ lives) live none = at (same_txn l.name t) refl none (or_cases (same_txn l.name t) (lives_in lives t) live) (λ h none. prepared-less t floor lives h none)
  where
    before : Option ℕ
    before = option_and_then (λ (l : Live). l.floor) (find (λ l. same_txn l.name t) lives)

    at : (b : Bool) → same_txn l.name t ≡ b → option_and_then (λ (l : Live). l.floor) (cond b (Some l) (find (λ l. same_txn l.name t) lives)) ≡ None → (same_txn l.name t ≡ true) ⊎ (lives_in lives t ≡ true) → (lives_in lives t ≡ true → before ≡ None → kept_back (map (prepared t floor) lives) + 1 ≤ kept_back lives)
        → kept_back (map (prepared t floor) (l ∷ lives)) + 1 ≤ kept_back (l ∷ lives)
    at true e is either rest =
        let two : ends_left l.floor ≡ 2 = ap ends_left is in
        let one : ends_left (prepared t floor l).floor ≡ 1 = rw e refl in
        omega (arith, two, one, kept_back-prepared t floor lives)
    at false e is (inl h) rest = absurd (false≢true (sym e ∙ h))
    at false e is (inr h) rest = omega (arith, rest h is, ends_left-prepared t floor l false e)

is_none-is : (o : Option ℕ) → is_none o ≡ true → o ≡ None
is_none-is None h = refl
is_none-is (Some n) h = absurd (false≢true h)

-- what takes room that is kept back leaves one entry less to keep it for
pub kept_back-taken : (q : Parts) (t : TxnName) (change : Change) → takes_kept_back (state_of q) t change ≡ true → kept_back (changed q t change).lives + 1 ≤ kept_back q.lives
kept_back-taken q t Stays h = absurd (false≢true h)
kept_back-taken q t (Begins plans granule opened) h = absurd (false≢true h)
kept_back-taken q t (Advances plans subset last) h = absurd (false≢true h)
kept_back-taken q t (Closes plans subset) h = absurd (false≢true h)
kept_back-taken q t (Inserts key row lock) h = absurd (false≢true h)
kept_back-taken q t Prepares h = let parts = and_parts (is_live (state_of q) t) (is_none (floor_of (state_of q) t)) h in prepared-less t q.high q.lives parts.0 (is_none-is (floor_of (state_of q) t) parts.1)
kept_back-taken q t (Commits stamp) h = gone-less t q.lives h
kept_back-taken q t Undoes h = gone-less t q.lives h

-- and needs no other room
pub room-taken : (p : State) (t : TxnName) (change : Change) (c : Contents) → takes_kept_back p t change ≡ true → HasRoomFor change c
room-taken p t Stays c h = tt
room-taken p t (Begins plans granule opened) c h = absurd (false≢true h)
room-taken p t (Advances plans subset last) c h = absurd (false≢true h)
room-taken p t (Closes plans subset) c h = absurd (false≢true h)
room-taken p t (Inserts key row lock) c h = absurd (false≢true h)
room-taken p t Prepares c h = tt
room-taken p t (Commits stamp) c h = tt
room-taken p t Undoes c h = tt

-- room for the changes of records is room for the change
pub room-for : (change : Change) (c : Contents) → HasRoom (length (plans_in change)) c → HasRoomFor change c
room-for Stays c h = tt
room-for (Begins plans granule opened) c h = h
room-for (Advances plans subset last) c h = h
room-for (Closes plans subset) c h = h
room-for (Inserts key row lock) c h = h
room-for Prepares c h = tt
room-for (Commits stamp) c h = tt
room-for Undoes c h = tt

-- the entry of such a change has its room
pub after-taken : (t : TxnName) (change : Change) (c : Contents) → takes_kept_back (state_of (parts_of c)) t change ≡ true → IsKeptBack c → IsKeptBackAfter t change c
after-taken t change c taken room = omega (arith, room, kept_back-taken (parts_of c) t change taken)

-- and so has that of any change, where room was taken for it and for all that it may leave to settle
pub after-reserved : (t : TxnName) (change : Change) (c : Contents) → vec_len c.lives ≡ length c.lives.items → vec_len c.history + (2 * vec_len c.lives + 3) ≤ vec_capacity c.history → IsKeptBackAfter t change c
after-reserved t change c same room = omega (arith, same, room, kept_back-changed (parts_of c) t change, kept_back-twice c.lives.items)
