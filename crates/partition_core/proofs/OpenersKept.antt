-- The openers of a partition through one request.
use Rattle.std.proofs.Common.{◌≡◌, ◌<◌, ◌-◌, ℕ, List, length, Option, Some, None, Bool, true, false, cond, refl, ◌∙◌, arith}
use Rattle.std.specs.Prelude.{slice_set, max, nat_le, nat_lt, ◌&&◌, option_map, option_and_then}
use Rattle.std.proofs.lemmas.List.{length-set, get_or-set_same}
use Rattle.std.proofs.lemmas.Option.{unwrap_or-slice_get}
use Rattle.sql_base.specs.Keys.{key_eq}
use Rattle.sql_base.specs.Locks.{first_conflict}
use Rattle.sql_base.specs.OnRows.{first_failing}
use Rattle.sql_base.specs.Rows.{key_of, key_width, kinds, unpacked}
use Rattle.sql_base.specs.Scripts.{Lies}
use Rattle.sql_base.specs.declared.faults.Fault.{Fault}
use Rattle.sql_base.specs.declared.key_ranges.KeyRange.{KeyRange}
use Rattle.sql_base.specs.declared.key_ranges.Start.TheVariants.{At}
use Rattle.sql_base.specs.declared.lock_names.Access.{Access}
use Rattle.sql_base.specs.declared.lock_names.Access.TheVariants.{Browse, Stable, Repeatable}
use Rattle.sql_base.specs.declared.lock_names.Lock.{Lock}
use Rattle.sql_base.specs.declared.lock_names.Mode.{Mode}
use Rattle.sql_base.specs.declared.lock_names.Mode.TheVariants.{X}
use Rattle.sql_base.specs.declared.lock_names.TxnName.{TxnName}
use Rattle.sql_base.specs.declared.values.Value.{Value}
use Rattle.key_sequenced.specs.Cells.{find_cell, cells_settled}
use Rattle.subset_blocks.specs.Blocks.{find_block, most_blocks}
use Rattle.subset_blocks.specs.declared.Block.{Block}
use Rattle.subset_blocks.specs.declared.Numbered.{Numbered}
use Rattle.quantum_core.specs.Quantum.{Handled, quantum}
use Rattle.quantum_core.specs.declared.replies.QuantumReply.{QuantumReply}
use Rattle.quantum_core.specs.declared.replies.QuantumReply.TheVariants as answers
use Rattle.quantum_core.specs.declared.works.Doing.TheVariants.{Read, Update, Delete}
use Rattle.quantum_core.specs.declared.works.SetWork.{SetWork}
use Rattle.dp_messages.specs.declared.replies.Reply.{Reply}
use Rattle.dp_messages.specs.declared.replies.Reply.TheVariants.{Done, AfterEnd, AfterPrepare, NotKnown, StampLow, WrongKey, BadCode, BadShape, TooManySubsets}
use Rattle.dp_messages.specs.declared.requests.Ask.{Ask}
use Rattle.dp_messages.specs.declared.requests.Ask.TheVariants.{BeginRead, BeginUpdate, BeginDelete, Continue, ReadKey, Insert, LockGranule, Prepare, EndCommit, EndUndo}
use Rattle.partition_state.specs.State.{State, Opener, new_opener, opener_of, with_opener, with_live, is_live, floor_of}
use Rattle.partition_state.specs.Step.{Answered, refused, set_work, is_key_here, is_shaped, are_columns_here, may_change, kept_key, as_row, against_granule, begins, other_live, with_granule, after_first, first_quantum, begin_with, begin, after_next, goes_on, read_key, insert_checked, insert_beside, insert_against, insert_row, lock_against, lock_granule, prepare_from, prepare, transaction_ended, commit_above, end_commit, by_kind, is_closing, unless_prepared, unless_other, answered}
use Rattle.predicate_codes.specs.Decoding.{filter_of}
use Rattle.predicate_codes.specs.SetLists.{sets_of}
use Rattle.partition_state.specs.declared.lives.Live.{Live}

-- as many openers as before
record Counts (p : State) (a : Answered) : Type 0 where
  same : length a.state.openers ≡ length p.openers

-- with the state before written in another way
counts_of : (p q : State) (a : Answered) → length q.openers ≡ length p.openers → Counts q a → Counts p a
counts_of p q a e h = record { same = h.same ∙ e }

-- a refusal changes nothing
counts-refused : (p : State) (reply : Reply) → Counts p (refused p reply)
counts-refused p reply = record { same = refl }

-- by cases on a test
counts-either : (p : State) (b : Bool) (x y : Answered) → Counts p x → Counts p y → Counts p (cond b x y)
counts-either p true x y hx hy = hx
counts-either p false x y hx hy = hy

-- a locked granule
counts-granule : (p : State) (block : Block SetWork) (granule : List ℕ) (access : Access) → length (with_granule p block granule access).openers ≡ length p.openers
counts-granule p block granule Browse = refl
counts-granule p block granule Stable = refl
counts-granule p block granule Repeatable = refl

-- after the first quantum
counts-after_first : (p : State) (block : Block SetWork) (granule : List ℕ) (handled : Handled) (reply : QuantumReply) → Counts p (after_first p block granule handled reply)
counts-after_first p block granule handled (answers.Ended rows changed) = record { same = counts-granule _ block granule block.access }
counts-after_first p block granule handled (answers.Redrive last cause rows changed) = record { same = counts-granule _ block granule block.access }
counts-after_first p block granule handled (answers.Locked lock) = record { same = refl }
counts-after_first p block granule handled (answers.Failed key fault) = record { same = refl }

-- the first quantum
counts-first_quantum : (p : State) (block : Block SetWork) (granule : List ℕ) (against : Option Lock) → Counts p (first_quantum p block granule against)
counts-first_quantum p block granule (Some lock) = record { same = refl }
counts-first_quantum p block granule None =
    let handled = quantum p.limits p.table p.cells p.locks block in counts-after_first p block granule handled handled.reply

-- Begin, where the code is read
counts-begin_with : (p : State) (t : TxnName) (access : Access) (granule : List ℕ) (range : KeyRange) (work : Option SetWork) → Counts p (begin_with p t access granule range work)
counts-begin_with p t access granule range None = record { same = refl }
counts-begin_with p t access granule range (Some work) =
    let block : Block SetWork = record { holder = t; start = At range.low; high = range.high; access = access; work = work } in
    let q = with_live p t in
    let begun : Counts p (begins p t access granule range work) = counts_of p q _ refl (counts-first_quantum q block granule (against_granule q block granule access)) in
    counts-either p (nat_le most_blocks (length p.blocks)) (refused p TooManySubsets) (begins p t access granule range work) (counts-refused p TooManySubsets) begun

-- Begin
counts-begin : (p : State) (t : TxnName) (access : Access) (granule : List ℕ) (range : KeyRange) (suits : Bool) (work : Option SetWork) → Counts p (begin p t access granule range suits work)
counts-begin p t access granule range suits work =
    counts-either p (suits && is_shaped p range granule) (begin_with p t access granule range work) (refused p BadShape) (counts-begin_with p t access granule range work) (counts-refused p BadShape)

-- after a further quantum
counts-after_next : (p : State) (b : Numbered SetWork) (handled : Handled) (reply : QuantumReply) → Counts p (after_next p b handled reply)
counts-after_next p b handled (answers.Ended rows changed) = record { same = refl }
counts-after_next p b handled (answers.Redrive last cause rows changed) = record { same = refl }
counts-after_next p b handled (answers.Locked lock) = record { same = refl }
counts-after_next p b handled (answers.Failed key fault) = record { same = refl }

-- Continue
counts-goes_on : (p : State) (last : List ℕ) (found : Option (Numbered SetWork)) → Counts p (goes_on p last found)
counts-goes_on p last None = record { same = refl }
counts-goes_on p last (Some b) =
    let handled = quantum p.limits p.table p.cells p.locks b.block in
    let other : Reply = WrongKey (kept_key b.block.start) in
    counts-either p (key_eq (kept_key b.block.start) last) (after_next p b handled handled.reply) (refused p other) (counts-after_next p b handled handled.reply) (counts-refused p other)

-- ReadKey
counts-read_key : (p : State) (t : TxnName) (access : Access) (key : List ℕ) (suits : Bool) (work : Option SetWork) → Counts p (read_key p t access key suits work)
counts-read_key p t access key suits None = counts-either p suits (refused p BadCode) (refused p BadShape) (counts-refused p BadCode) (counts-refused p BadShape)
counts-read_key p t access key suits (Some work) =
    let block : Block SetWork = record { holder = t; start = At key; high = key; access = access; work = work } in
    let q = with_live p t in
    let a : Answered = begins p t access key (record { low = key; high = key }) work in
    let begun : Counts q a = counts-first_quantum q block key (against_granule q block key access) in
    counts-either p suits (record a { reply = as_row a.reply }) (refused p BadShape) (record { same = begun.same }) (counts-refused p BadShape)

-- Insert, by the CHECKs
counts-insert_checked : (p : State) (t : TxnName) (key : List ℕ) (row : List Value) (fault : Option Fault) → Counts p (insert_checked p t key row fault)
counts-insert_checked p t key row (Some fault) = record { same = refl }
counts-insert_checked p t key row None = record { same = refl }

-- Insert, by what stands at the key
counts-insert_beside : (p : State) (t : TxnName) (key : List ℕ) (row : List Value) (standing : Option (List Value)) → Counts p (insert_beside p t key row standing)
counts-insert_beside p t key row (Some standing) = record { same = refl }
counts-insert_beside p t key row None = counts-insert_checked p t key row (first_failing p.table.checks row)

-- Insert, by the locks
counts-insert_against : (p : State) (t : TxnName) (key : List ℕ) (row : List Value) (lock : Option Lock) → Counts p (insert_against p t key row lock)
counts-insert_against p t key row (Some lock) = record { same = refl }
counts-insert_against p t key row None = counts-insert_beside p t key row (option_and_then (λ cell. cell.now) (find_cell key p.cells))

-- Insert
counts-insert_row : (p : State) (t : TxnName) (row : Option (List Value)) → Counts p (insert_row p t row)
counts-insert_row p t None = record { same = refl }
counts-insert_row p t (Some row) =
    let key = key_of p.table row in
    let q = with_live p t in
    let a : Answered = insert_against q t key row (first_conflict p.locks t key X) in
    let inserts : Counts p a = counts_of p q a refl (counts-insert_against q t key row (first_conflict p.locks t key X)) in
    counts-either p (is_key_here p key) a (refused p BadShape) inserts (counts-refused p BadShape)

-- LockGranule, by the locks
counts-lock_against : (p : State) (t : TxnName) (prefix : List ℕ) (mode : Mode) (lock : Option Lock) → Counts p (lock_against p t prefix mode lock)
counts-lock_against p t prefix mode (Some lock) = record { same = refl }
counts-lock_against p t prefix mode None = record { same = refl }

-- LockGranule
counts-lock_granule : (p : State) (t : TxnName) (prefix : List ℕ) (mode : Mode) → Counts p (lock_granule p t prefix mode)
counts-lock_granule p t prefix mode =
    let q = with_live p t in
    let a : Answered = lock_against q t prefix mode (first_conflict p.locks t prefix mode) in
    let locks : Counts p a = counts_of p q a refl (counts-lock_against q t prefix mode (first_conflict p.locks t prefix mode)) in
    counts-either p (nat_lt (key_width p.table) (length prefix)) (refused p BadShape) a (counts-refused p BadShape) locks

-- Prepare, by the floor
counts-prepare_from : (p : State) (t : TxnName) (floor : Option ℕ) → Counts p (prepare_from p t floor)
counts-prepare_from p t (Some floor) = record { same = refl }
counts-prepare_from p t None = record { same = refl }

-- Prepare
counts-prepare : (p : State) (t : TxnName) → Counts p (prepare p t)
counts-prepare p t =
    counts-either p (is_live p t) (prepare_from p t (floor_of p t)) (refused p NotKnown) (counts-prepare_from p t (floor_of p t)) (counts-refused p NotKnown)

-- EndCommit, by the floor
counts-commit_above : (p : State) (t : TxnName) (stamp : ℕ) (floor : Option ℕ) → Counts p (commit_above p t stamp floor)
counts-commit_above p t stamp None = record { same = refl }
counts-commit_above p t stamp (Some floor) =
    let a : Answered = record { reply = Done; state = record (transaction_ended p t (cells_settled t p.cells)) { high = max p.high stamp } } in
    let ends : Counts p a = record { same = length-set p.openers (t.session - 1) (record (opener_of p t.session) { ended = t.ordinal }) } in
    counts-either p (nat_le stamp floor) (refused p (StampLow floor)) a (counts-refused p (StampLow floor)) ends

-- EndCommit
counts-end_commit : (p : State) (t : TxnName) (stamp : ℕ) → Counts p (end_commit p t stamp)
counts-end_commit p t stamp =
    counts-either p (is_live p t) (commit_above p t stamp (floor_of p t)) (refused p NotKnown) (counts-commit_above p t stamp (floor_of p t)) (counts-refused p NotKnown)

-- by kind
counts-by_kind : (p : State) (t : TxnName) (ask : Ask) → Counts p (by_kind p t ask)
counts-by_kind p t (BeginRead access granule range filter columns) =
    counts-begin p t access granule range (are_columns_here p columns) (set_work (filter_of p.table filter) (Some (Read columns)))
counts-by_kind p t (BeginUpdate access granule range filter sets) =
    counts-begin p t access granule range (may_change access) (set_work (filter_of p.table filter) (option_map Update (sets_of p.table sets)))
counts-by_kind p t (BeginDelete access granule range filter) =
    counts-begin p t access granule range (may_change access) (set_work (filter_of p.table filter) (Some Delete))
counts-by_kind p t (Continue subset last) = counts-goes_on p last (find_block subset t p.blocks)
counts-by_kind p t (ReadKey access key filter columns) =
    counts-read_key p t access key (is_key_here p key && are_columns_here p columns) (set_work (filter_of p.table filter) (Some (Read columns)))
counts-by_kind p t (Insert row) = counts-insert_row p t (unpacked (kinds p.table) row)
counts-by_kind p t (LockGranule prefix mode) = counts-lock_granule p t prefix mode
counts-by_kind p t Prepare = counts-prepare p t
counts-by_kind p t (EndCommit stamp) = counts-end_commit p t stamp
counts-by_kind p t EndUndo = record { same = length-set p.openers (t.session - 1) _ }

-- by whether the transaction has prepared
counts-unless_prepared : (p : State) (t : TxnName) (ask : Ask) (floor : Option ℕ) → Counts p (unless_prepared p t ask floor)
counts-unless_prepared p t ask None = counts-by_kind p t ask
counts-unless_prepared p t ask (Some floor) =
    counts-either p (is_closing ask) (by_kind p t ask) (refused p (AfterPrepare floor)) (counts-by_kind p t ask) (counts-refused p (AfterPrepare floor))

-- by whether another attempt is live
counts-unless_other : (p : State) (t : TxnName) (ask : Ask) (other : Option Live) → Counts p (unless_other p t ask other)
counts-unless_other p t ask (Some other) = record { same = refl }
counts-unless_other p t ask None = counts-unless_prepared p t ask (floor_of p t)

-- an answer to any request
answered_counts : (p : State) (t : TxnName) (ask : Ask) → Counts p (answered p t ask)
answered_counts p t ask =
    let last : ℕ = (opener_of p t.session).ended in
    counts-either p (nat_le t.ordinal last) (refused p (AfterEnd last)) (unless_other p t ask (other_live p t)) (counts-refused p (AfterEnd last)) (counts-unless_other p t ask (other_live p t))

-- a request leaves as many openers as there were
pub counts-answered : (p : State) (t : TxnName) (ask : Ask) → length (answered p t ask).state.openers ≡ length p.openers
counts-answered p t ask = (answered_counts p t ask).same

-- an opener that is written is the one that is read
pub opener_of-with : (p : State) (opener : ℕ) (now : Opener) → Lies 1 8 opener → length p.openers ≡ 8 → opener_of (with_opener p opener now) opener ≡ now
opener_of-with p opener now lies eight =
    let within : opener - 1 < length p.openers = omega arith in
    unwrap_or-slice_get (slice_set p.openers (opener - 1) now) (opener - 1) new_opener ∙ get_or-set_same p.openers (opener - 1) now new_opener within
