-- One transaction alone in a partition: it meets no lock, and its end leaves what it should.
use Rattle.std.proofs.Common.{◌≡◌, ◌≤◌, ℕ, max, List, [], ◌∷◌, Bool, true, false, cond, ◌||◌, Option, Some, None, inl, inr, refl, ap, sym, ◌∙◌, subst, arith}
use Rattle.std.specs.Prelude.{◌⊎◌, IfSome, find, option_and_then, option_map}
use Rattle.std.specs.List.{AllByRecursion, cons_option}
use Rattle.std.proofs.lemmas.Bool.{false≢true}
use Rattle.std.proofs.lemmas.List.Elements.{All-contains, All-from_recursion}
use Rattle.sql_base.specs.Locks.{same_txn}
use Rattle.sql_base.specs.Scripts.{Lies}
use Rattle.sql_base.specs.declared.lock_names.Lock.{Lock}
use Rattle.sql_base.specs.declared.lock_names.TxnName.{TxnName}
use Rattle.dp_messages.specs.declared.replies.Reply.{Reply as PartitionReply}
use Rattle.dp_messages.specs.declared.replies.Reply.TheVariants as reply
use Rattle.dp_messages.specs.declared.requests.Ask.{Ask}
use Rattle.dp_messages.specs.declared.requests.Ask.TheVariants.{Prepare, EndCommit, EndUndo}
use Rattle.dp_messages.specs.declared.requests.Request.{Request}
use Rattle.key_sequenced.specs.Cells.{Keyed, records}
use Rattle.key_sequenced.specs.Changes.{committed_in, keyed, records_for, seen_by}
use Rattle.key_sequenced.specs.declared.Cell.{Cell}
use Rattle.partition_state.specs.Commits.{committed, is_commit}
use Rattle.partition_state.specs.State.{State, floor_of, is_live, with_live}
use Rattle.partition_state.specs.Step.{answered, step}
use Rattle.partition_state.specs.declared.lives.Live.{Live}
use Rattle.partition_laws.specs.Committed.{commits, is_ending}
use Rattle.partition_laws.specs.Keeping.{HasFloor, IsGuarded, IsWriter, Keeps, lives_in}
use Rattle.partition_laws.specs.Moves.{Move, Starts, Opens, Closes, Advances, Inserts, Commits, Undoes, IsMoveOf, Moved, after, after_quantum, by}
use Rattle.partition_laws.proofs.Committing.{committed-kept, committed-laid}
use Rattle.partition_laws.proofs.Corollaries.{unlive-settled}
use Rattle.partition_laws.proofs.Floors.{prepare-told}
use Rattle.partition_laws.proofs.Granules.{granule-high}
use Rattle.partition_laws.proofs.Laying.{laid-is_seen}
use Rattle.partition_laws.proofs.LiveLaws.{live-ended, live-others}
use Rattle.partition_laws.proofs.Moving.{moved}
use Rattle.partition_laws.proofs.Names.{same_txn-comm}
use Rattle.partition_laws.proofs.Stepped.{stepped}
use Rattle.partition_laws.proofs.Steps.{Keeps-step}
use Rattle.serial_laws.specs.Locked.{LockStands}
use Rattle.serial_laws.proofs.Locked.{locked-step}
use Rattle.alone_laws.specs.Scaffold.Served.{Calm, Lively}
use Rattle.sql_base.proofs.RowFacts.{same_txn-is, same_txn-itself}

one_lies : Lies 1 8 1
one_lies = (omega arith, omega arith)

-- high
high-after : (p : State) (t : TxnName) (ask : Ask) (r : PartitionReply) (move : Move) → is_commit ask ≡ false → IsMoveOf p t ask r move → (after p t move).high ≡ p.high
high-after p t ask r (Starts block granule) h f = granule-high (after_quantum (with_live p t) block) block granule block.access
high-after p t ask r (Opens block granule last) h f = granule-high (after_quantum (with_live p t) block) block granule block.access
high-after p t ask r (Commits stamp) h f = absurd (false≢true (sym h ∙ ap is_commit f.1))
high-after p t ask r move h f = refl

high-step : (p : State) (sync : ℕ) (request : Request) → is_commit request.ask ≡ false → (step p 1 sync request).state.high ≡ p.high
high-step p sync request h =
    let t : TxnName = by 1 request in
    let m : Moved p t request.ask (answered p t request.ask) = moved p t request.ask in
    stepped (λ (q : State). q.high ≡ p.high) p 1 sync request refl
    (λ _. ap (λ (q : State). q.high) m.state ∙ high-after p t request.ask (answered p t request.ask).reply m.move h m.fits)

same_stamp : (m n : ℕ) → EndCommit m ≡ EndCommit n → n ≡ m
same_stamp m n h = cc

high-commit_after : (p : State) (t : TxnName) (stamp : ℕ) (r : PartitionReply) (move : Move) → IsMoveOf p t (EndCommit stamp) r move → (after p t move).high ≤ max p.high stamp
high-commit_after p t stamp r (Starts block granule) f = let same = granule-high (after_quantum (with_live p t) block) block granule block.access in omega arith
high-commit_after p t stamp r (Opens block granule last) f = let same = granule-high (after_quantum (with_live p t) block) block granule block.access in omega arith
high-commit_after p t stamp r (Commits n) f = let same : n ≡ stamp = same_stamp stamp n f.1 in omega arith
high-commit_after p t stamp r move f = omega arith

high-commit : (p : State) (sync ordinal stamp : ℕ) → (step p 1 sync (record { ordinal = ordinal; ask = EndCommit stamp })).state.high ≤ max p.high stamp
high-commit p sync ordinal stamp =
    let request : Request = record { ordinal = ordinal; ask = EndCommit stamp } in
    let t : TxnName = by 1 request in
    let m : Moved p t request.ask (answered p t request.ask) = moved p t request.ask in
    stepped (λ (q : State). q.high ≤ max p.high stamp) p 1 sync request (omega arith)
    (λ _. subst (λ (q : State). q.high ≤ max p.high stamp) (sym m.state) (high-commit_after p t stamp (answered p t request.ask).reply m.move m.fits))

-- an open request or an undo leaves what is committed, and the others not live
pub lively-step : (t : TxnName) (base : List Keyed) (top : ℕ) (q : State) (sync : ℕ) (request : Request) → t ≡ by 1 request → is_commit request.ask ≡ false → Lively t base top q → Lively t base top (step q 1 sync request).state
lively-step t base top q sync request own h l =
    let same = high-step q sync request h in
    let none : commits request.ask (step q 1 sync request).reply ≡ false = by_reply (step q 1 sync request).reply in
    record {
      keeps = Keeps-step q 1 sync request one_lies l.keeps;
      alone = λ u other. live-others q 1 sync request u (subst (λ (x : TxnName). same_txn u x ≡ false) own other) ∙ l.alone u other;
      base_is = committed-kept q 1 sync request l.keeps none ∙ l.base_is;
      top_is = let low : q.high ≤ top = l.top_is in omega arith;
    }
  where
    by_reply : (o : Option PartitionReply) → commits request.ask o ≡ false
    by_reply None = refl
    by_reply (Some r) = rw h refl

-- where it is alone no lock of another stands
pub no_locked : (t : TxnName) (base : List Keyed) (top : ℕ) (q : State) (sync : ℕ) (request : Request) (lock : Lock) → t ≡ by 1 request → Lively t base top q → (step q 1 sync request).reply ≡ Some (reply.Locked lock) → ⊥
no_locked t base top q sync request lock own l told =
    let stands : LockStands q (by 1 request) request.ask lock = locked-step q 1 sync request lock told in
    let live : lives_in q.lives lock.holder ≡ true =
    All-contains (λ (x : Lock). lives_in q.lives x.holder ≡ true) q.locks lock (All-from_recursion (λ (x : Lock). lives_in q.lives x.holder ≡ true) q.locks l.keeps.locks.holders) stands.stands in
    let other : same_txn lock.holder t ≡ false = same_txn-comm lock.holder t ∙ ap (λ x. same_txn x lock.holder) own ∙ stands.other in
    false≢true (sym (l.alone lock.holder other) ∙ live)

-- where nobody is live, all records are committed
no_lives : (lives : List Live) → ((u : TxnName) → lives_in lives u ≡ false) → lives ≡ []
no_lives [] h = refl
no_lives (l ∷ lives) h = absurd (false≢true (sym (h l.name) ∙ ap (λ b. b || lives_in lives l.name) (same_txn-itself l.name)))

none_pending : (cells : List Cell) → AllByRecursion (λ cell. cell.writer ≡ None) cells → committed_in cells ≡ records cells
none_pending [] h = refl
none_pending (cell ∷ cells) h = rw h.0 (ap (cons_option (option_map (λ row. record { key = cell.key; row = row }) cell.now)) (none_pending cells h.1))

pub calm-committed : (top : ℕ) (q : State) → Calm top q → committed q ≡ records q.cells
calm-committed top q c = none_pending q.cells (unlive-settled q c.keeps (no_lives q.lives c.unlive))

pub calm-lively : (t : TxnName) (top : ℕ) (q : State) → Calm top q → Lively t (records q.cells) top q
calm-lively t top q c = record { keeps = c.keeps; alone = λ u other. c.unlive u; base_is = calm-committed top q c; top_is = c.top_is }

pub calm-higher : (low top : ℕ) (q : State) → low ≤ top → Calm low q → Calm top q
calm-higher low top q h c = record { keeps = c.keeps; unlive = c.unlive; top_is = let here : q.high ≤ low = c.top_is in omega arith }

-- what the one transaction sees are the records
all_seen : (t : TxnName) (lives : List Live) (locks : List Lock) → ((u : TxnName) → same_txn u t ≡ false → lives_in lives u ≡ false) → (cells : List Cell) → AllByRecursion (IsGuarded lives locks) cells → records_for t cells ≡ records cells
all_seen t lives locks alone [] h = refl
all_seen t lives locks alone (cell ∷ cells) h =
    ap (λ row. cons_option (keyed cell.key row) (records_for t cells)) (by_writer cell.writer refl h.0)
    ∙ ap (cons_option (option_map (λ row. record { key = cell.key; row = row }) cell.now)) (all_seen t lives locks alone cells h.1)
  where
    own : (u : TxnName) (b : Bool) → same_txn u t ≡ b → lives_in lives u ≡ true → b ≡ true
    own u true e live = refl
    own u false e live = absurd (false≢true (sym (alone u e) ∙ live))

    by_writer : (o : Option TxnName) → cell.writer ≡ o → IfSome o (IsWriter lives locks cell.key) → seen_by t cell ≡ cell.now
    by_writer None e g = rw e refl
    by_writer (Some u) e g = rw (e, own u (same_txn u t) refl g.0) refl

-- nobody is live behind its end
end_unlive : (t : TxnName) (base : List Keyed) (top : ℕ) (q : State) (sync : ℕ) (request : Request) → t ≡ by 1 request → is_ending request.ask ≡ true → Lively t base top q → (step q 1 sync request).reply ≡ Some reply.Done
    → (u : TxnName) → is_live (step q 1 sync request).state u ≡ false
end_unlive t base top q sync request own ends l done u = by_name (same_txn u t) refl
  where
    by_name : (b : Bool) → same_txn u t ≡ b → is_live (step q 1 sync request).state u ≡ false
    by_name true e =
        let same : by 1 request ≡ u = sym own ∙ sym (same_txn-is u t e) in
        subst (λ (x : TxnName). is_live (step q 1 sync request).state x ≡ false) same (live-ended q 1 sync request ends done)
    by_name false e = live-others q 1 sync request u (subst (λ (x : TxnName). same_txn u x ≡ false) own e) ∙ l.alone u e

-- an undo gives back the records from before it
pub undo-calm : (t : TxnName) (base : List Keyed) (top : ℕ) (q : State) (sync : ℕ) (request : Request) → t ≡ by 1 request → request.ask ≡ EndUndo → Lively t base top q → (step q 1 sync request).reply ≡ Some reply.Done
    → Calm top (step q 1 sync request).state × (records (step q 1 sync request).state.cells ≡ base)
undo-calm t base top q sync request own undo l done =
    let next = lively-step t base top q sync request own (ap is_commit undo) l in
    let calm : Calm top (step q 1 sync request).state =
    record { keeps = next.keeps; unlive = end_unlive t base top q sync request own (ap is_ending undo) l done; top_is = next.top_is } in
    (calm, sym (calm-committed top (step q 1 sync request).state calm) ∙ next.base_is)

-- a commit keeps the records
pub commit-calm : (t : TxnName) (base : List Keyed) (top : ℕ) (q : State) (sync ordinal stamp : ℕ) → t ≡ record { session = 1; ordinal = ordinal } → top ≤ stamp → Lively t base top q
    → (step q 1 sync (record { ordinal = ordinal; ask = EndCommit stamp })).reply ≡ Some reply.Done
    → Calm stamp (step q 1 sync (record { ordinal = ordinal; ask = EndCommit stamp })).state × (records (step q 1 sync (record { ordinal = ordinal; ask = EndCommit stamp })).state.cells ≡ records q.cells)
commit-calm t base top q sync ordinal stamp own above l done =
    let request : Request = record { ordinal = ordinal; ask = EndCommit stamp } in
    let after : State = (step q 1 sync request).state in
    let calm : Calm stamp after = record {
      keeps = Keeps-step q 1 sync request one_lies l.keeps;
      unlive = end_unlive t base top q sync request own refl l done;
      top_is = let high = high-commit q sync ordinal stamp in let low : q.high ≤ top = l.top_is in omega arith;
    } in
    let laid = committed-laid q 1 sync request l.keeps (ap (commits request.ask) done) in (
      calm,
      sym (calm-committed stamp after calm) ∙ laid ∙ laid-is_seen (by 1 request) q.cells l.keeps.cells.rise
          ∙ all_seen (by 1 request) q.lives q.locks (λ u other. l.alone u (subst (λ (x : TxnName). same_txn u x ≡ false) (sym own) other)) q.cells l.keeps.cells.guarded,
    )

-- a Prepare leaves the cells, and tells no floor above high
prepare-cells_after : (p : State) (t : TxnName) (r : PartitionReply) (move : Move) → IsMoveOf p t Prepare r move → (after p t move).cells ≡ p.cells
prepare-cells_after p t r (Starts block granule) f = let none = f.2.0 in absurd (cc)
prepare-cells_after p t r (Opens block granule last) f = let none = f.3.0 in absurd (cc)
prepare-cells_after p t r (Closes b) f = let other = f.2.2 in absurd (cc)
prepare-cells_after p t r (Advances b last) f = let other = f.3.2 in absurd (cc)
prepare-cells_after p t r (Inserts key row) f = let other = f.0.1 in absurd (cc)
prepare-cells_after p t r (Commits stamp) f = let other = f.1 in absurd (cc)
prepare-cells_after p t r Undoes f = let other = f.0 in absurd (cc)
prepare-cells_after p t r move f = refl

pub prepare-cells : (q : State) (sync ordinal : ℕ) → (step q 1 sync (record { ordinal = ordinal; ask = Prepare })).state.cells ≡ q.cells
prepare-cells q sync ordinal =
    let request : Request = record { ordinal = ordinal; ask = Prepare } in
    let t : TxnName = by 1 request in
    let m : Moved q t Prepare (answered q t Prepare) = moved q t Prepare in
    stepped (λ (s : State). s.cells ≡ q.cells) q 1 sync request refl (λ _. ap (λ (s : State). s.cells) m.state ∙ prepare-cells_after q t (answered q t Prepare).reply m.move m.fits)

floor_kept : (t : TxnName) (high floor : ℕ) (lives : List Live) → AllByRecursion (HasFloor high) lives → option_and_then (λ (l : Live). l.floor) (find (λ (l : Live). same_txn l.name t) lives) ≡ Some floor → floor ≤ high
floor_kept t high floor [] h e = absurd cc
floor_kept t high floor (l ∷ lives) h e = by_name (same_txn l.name t) e (floor_kept t high floor lives h.1)
  where
    at : (o : Option ℕ) → o ≡ Some floor → IfSome o (λ x. x ≤ high) → floor ≤ high
    at None e h = absurd cc
    at (Some x) e h = let same : x ≡ floor = cc in omega arith

    by_name : (b : Bool) → option_and_then (λ (l : Live). l.floor) (cond b (Some l) (find (λ (l : Live). same_txn l.name t) lives)) ≡ Some floor
        → (option_and_then (λ (l : Live). l.floor) (find (λ (l : Live). same_txn l.name t) lives) ≡ Some floor → floor ≤ high) → floor ≤ high
    by_name true e rest = at l.floor e h.0
    by_name false e rest = rest e

pub prepare-floor : (q : State) (sync ordinal floor : ℕ) → Keeps q → (step q 1 sync (record { ordinal = ordinal; ask = Prepare })).reply ≡ Some (reply.Floor floor) → floor ≤ q.high
prepare-floor q sync ordinal floor k told = by_origin (prepare-told q 1 sync ordinal floor told).origin
  where
    by_origin : (floor_of q (record { session = 1; ordinal = ordinal }) ≡ Some floor) ⊎ ((floor_of q (record { session = 1; ordinal = ordinal }) ≡ None) × (floor ≡ q.high)) → floor ≤ q.high
    by_origin (inl e) = floor_kept (record { session = 1; ordinal = ordinal }) q.high floor q.lives k.lives.floors e
    by_origin (inr e) = let same : floor ≡ q.high = e.1 in omega arith
