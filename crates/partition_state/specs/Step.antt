-- What one request does to a partition.
use Rattle.std.specs.Prelude.{ℕ, List, [], ◌∷◌, length, map, filter, find, max, nat_eq, nat_le, nat_lt, ◌==◌, Option, Some, None, option_map, option_and_then, Bool, true, false, not, ◌&&◌, if◌then◌else◌}
use Rattle.std.specs.List.{list_all, starts_with}
use Rattle.sql_base.specs.Keys.{key_eq, key_le}
use Rattle.sql_base.specs.Rows.{key_of, key_width, kinds, unpacked}
use Rattle.sql_base.specs.OnRows.{first_failing}
use Rattle.sql_base.specs.Tables.{all_differ}
use Rattle.sql_base.specs.Locks.{same_txn, first_conflict, granted, released}
use Rattle.sql_base.specs.declared.expressions.Expr.{Expr}
use Rattle.sql_base.specs.declared.faults.Fault.{Fault}
use Rattle.sql_base.specs.declared.key_ranges.KeyRange.{KeyRange}
use Rattle.sql_base.specs.declared.key_ranges.Start.{Start}
use Rattle.sql_base.specs.declared.key_ranges.Start.TheVariants.{At, After}
use Rattle.sql_base.specs.declared.lock_names.Access.{Access}
use Rattle.sql_base.specs.declared.lock_names.Access.TheVariants.{Browse, Stable, Repeatable}
use Rattle.sql_base.specs.declared.lock_names.Lock.{Lock}
use Rattle.sql_base.specs.declared.lock_names.Mode.{Mode}
use Rattle.sql_base.specs.declared.lock_names.Mode.TheVariants.{S, X}
use Rattle.sql_base.specs.declared.lock_names.TxnName.{TxnName}
use Rattle.sql_base.specs.declared.values.Value.{Value}
use Rattle.predicate_codes.specs.Decoding.{filter_of}
use Rattle.predicate_codes.specs.SetLists.{sets_of}
use Rattle.partition_map.specs.Map.{part_of}
use Rattle.key_sequenced.specs.Cells.{find_cell, inserted, restored, cells_settled}
use Rattle.key_sequenced.specs.declared.Cell.{Cell}
use Rattle.subset_blocks.specs.Blocks.{most_blocks, free_number, find_block, opened, advanced, closed, closed_of}
use Rattle.subset_blocks.specs.declared.Block.{Block}
use Rattle.subset_blocks.specs.declared.Numbered.{Numbered}
use Rattle.quantum_core.specs.Quantum.{Handled, quantum}
use Rattle.quantum_core.specs.declared.replies.QuantumReply.{QuantumReply}
use Rattle.quantum_core.specs.declared.replies.QuantumReply.TheVariants as answers
use Rattle.quantum_core.specs.declared.works.Doing.{Doing}
use Rattle.quantum_core.specs.declared.works.Doing.TheVariants.{Read, Update, Delete}
use Rattle.quantum_core.specs.declared.works.SetWork.{SetWork}
use Rattle.dp_messages.specs.declared.replies.Reply.{Reply}
use Rattle.dp_messages.specs.declared.replies.Reply.TheVariants.{Ended, Redrive, Locked, Failed, Row, NoRow, Done, Floor, DuplicateKey, AfterEnd, AfterPrepare, StillLive, NotKnown, NotPrepared, StampLow, NoSubset, WrongKey, BadCode, BadShape, TooManySubsets}
use Rattle.dp_messages.specs.declared.requests.Ask.{Ask}
use Rattle.dp_messages.specs.declared.requests.Ask.TheVariants.{BeginRead, BeginUpdate, BeginDelete, Continue, ReadKey, Insert, LockGranule, Prepare, EndCommit, EndUndo}
use Rattle.dp_messages.specs.declared.requests.Request.{Request}
use Rattle.partition_state.specs.State.{State, opener_of, with_opener, is_live, floor_of, with_live}
use Rattle.partition_state.specs.declared.lives.Live.{Live}

-- a reply, and the partition after it
pub record Answered : Type 0 where
  pub reply : Reply
  pub state : State

-- a reply that leaves the partition as it is
abbrev pub refused : State → Reply → Answered
refused p reply = record { reply = reply; state = p }

-- what is done with the records that meet a filter, where both codes could be read
abbrev pub set_work : Option (Option Expr) → Option Doing → Option SetWork
set_work filter doing = option_and_then (λ f. option_map (λ d. record { filter = f; doing = d }) doing) filter

-- a key of the table that lies in this partition
abbrev pub is_key_here : State → List ℕ → Bool
is_key_here p key = (length key == key_width p.table) && (part_of p.table key == p.place)

abbrev pub is_shaped : State → KeyRange → List ℕ → Bool
is_shaped p range granule =
    is_key_here p range.low && is_key_here p range.high && key_le range.low range.high
    && (starts_with nat_eq range.low granule && starts_with nat_eq range.high granule)

-- columns of the table, one at least and none twice
abbrev pub are_columns_here : State → List ℕ → Bool
are_columns_here p columns =
    nat_lt 0 (length columns) && (list_all (λ c. nat_lt c (length p.table.columns)) columns && all_differ nat_eq columns)

-- BROWSE changes nothing
abbrev pub may_change : Access → Bool
may_change Browse = false
may_change Stable = true
may_change Repeatable = true

abbrev pub mode_of : Doing → Mode
mode_of (Read columns) = S
mode_of (Update sets) = X
mode_of Delete = X

-- under REPEATABLE, a lock that stands against the granule
abbrev pub against_granule : State → Block SetWork → List ℕ → Access → Option Lock
against_granule p block granule Repeatable = first_conflict p.locks block.holder granule (mode_of block.work.doing)
against_granule p block granule access = None

-- under REPEATABLE, the granule is locked
abbrev pub with_granule : State → Block SetWork → List ℕ → Access → State
with_granule p block granule Repeatable = record p { locks = granted (record { holder = block.holder; prefix = granule; mode = mode_of block.work.doing }) p.locks }
with_granule p block granule access = p

abbrev pub with_handled : State → Handled → State
with_handled p handled = record p { cells = handled.cells; locks = handled.locks }

-- the first quantum of a block
abbrev pub after_first : State → Block SetWork → List ℕ → Handled → QuantumReply → Answered
after_first p block granule handled (answers.Ended rows changed) =
    record { reply = Ended rows changed; state = with_granule (with_handled p handled) block granule block.access }
after_first p block granule handled (answers.Redrive last cause rows changed) =
    let q = with_granule (with_handled p handled) block granule block.access in
    record { reply = Redrive (free_number p.blocks) last cause rows changed; state = record q { blocks = opened (record block { start = After last }) p.blocks } }
after_first p block granule handled (answers.Locked lock) = refused p (Locked lock)
after_first p block granule handled (answers.Failed key fault) = refused p (Failed key fault)

abbrev pub first_quantum : State → Block SetWork → List ℕ → Option Lock → Answered
first_quantum p block granule (Some lock) = refused p (Locked lock)
first_quantum p block granule None = let handled = quantum p.limits p.table p.cells p.locks block in after_first p block granule handled handled.reply

-- a block at its beginning, in a partition where its transaction is live
abbrev pub begins : State → TxnName → Access → List ℕ → KeyRange → SetWork → Answered
begins p t access granule range work =
    let block : Block SetWork = record { holder = t; start = At range.low; high = range.high; access = access; work = work } in
    let q = with_live p t in
    first_quantum q block granule (against_granule q block granule access)

-- Begin
abbrev pub begin_with : State → TxnName → Access → List ℕ → KeyRange → Option SetWork → Answered
begin_with p t access granule range None = refused p BadCode
begin_with p t access granule range (Some work) =
    if nat_le most_blocks (length p.blocks) then refused p TooManySubsets else begins p t access granule range work

abbrev pub begin : State → TxnName → Access → List ℕ → KeyRange → Bool → Option SetWork → Answered
begin p t access granule range suits work =
    if suits && is_shaped p range granule then begin_with p t access granule range work else refused p BadShape

-- Continue
abbrev pub after_next : State → Numbered SetWork → Handled → QuantumReply → Answered
after_next p b handled (answers.Ended rows changed) = record { reply = Ended rows changed; state = record (with_handled p handled) { blocks = closed b.number p.blocks } }
after_next p b handled (answers.Redrive last cause rows changed) =
    record { reply = Redrive b.number last cause rows changed; state = record (with_handled p handled) { blocks = advanced b.number last p.blocks } }
after_next p b handled (answers.Locked lock) = refused p (Locked lock)
after_next p b handled (answers.Failed key fault) = refused p (Failed key fault)

-- the key at which a block under way stopped; each such block goes on after one
abbrev pub kept_key : Start → List ℕ
kept_key (At low) = low
kept_key (After last) = last

abbrev pub goes_on : State → List ℕ → Option (Numbered SetWork) → Answered
goes_on p last None = refused p NoSubset
goes_on p last (Some b) =
    if key_eq (kept_key b.block.start) last
    then (let handled = quantum p.limits p.table p.cells p.locks b.block in after_next p b handled handled.reply)
    else refused p (WrongKey (kept_key b.block.start))

-- ReadKey
abbrev pub as_row : Reply → Reply
as_row (Ended (row ∷ rows) changed) = Row row
as_row (Ended [] changed) = NoRow
as_row reply = reply

abbrev pub read_key : State → TxnName → Access → List ℕ → Bool → Option SetWork → Answered
read_key p t access key suits None = if suits then refused p BadCode else refused p BadShape
read_key p t access key suits (Some work) =
    if suits
    then (let a = begins p t access key (record { low = key; high = key }) work in record a { reply = as_row a.reply })
    else refused p BadShape

-- Insert
abbrev pub insert_checked : State → TxnName → List ℕ → List Value → Option Fault → Answered
insert_checked p t key row (Some fault) = refused p (Failed key fault)
insert_checked p t key row None =
    record { reply = Done; state = record p { cells = inserted t key row p.cells; locks = granted (record { holder = t; prefix = key; mode = X }) p.locks } }

abbrev pub insert_beside : State → TxnName → List ℕ → List Value → Option (List Value) → Answered
insert_beside p t key row (Some standing) = refused p (DuplicateKey key)
insert_beside p t key row None = insert_checked p t key row (first_failing p.table.checks row)

abbrev pub insert_against : State → TxnName → List ℕ → List Value → Option Lock → Answered
insert_against p t key row (Some lock) = refused p (Locked lock)
insert_against p t key row None = insert_beside p t key row (option_and_then (λ cell. cell.now) (find_cell key p.cells))

abbrev pub insert_row : State → TxnName → Option (List Value) → Answered
insert_row p t None = refused p BadShape
insert_row p t (Some row) =
    let key = key_of p.table row in
    let q = with_live p t in
    if is_key_here p key then insert_against q t key row (first_conflict p.locks t key X) else refused p BadShape

-- LockGranule
abbrev pub lock_against : State → TxnName → List ℕ → Mode → Option Lock → Answered
lock_against p t prefix mode (Some lock) = refused p (Locked lock)
lock_against p t prefix mode None = record { reply = Done; state = record p { locks = granted (record { holder = t; prefix = prefix; mode = mode }) p.locks } }

abbrev pub lock_granule : State → TxnName → List ℕ → Mode → Answered
lock_granule p t prefix mode =
    if nat_lt (key_width p.table) (length prefix) then refused p BadShape else lock_against (with_live p t) t prefix mode (first_conflict p.locks t prefix mode)

-- Prepare
abbrev pub prepared : TxnName → ℕ → Live → Live
prepared t floor l = if same_txn l.name t then record l { floor = Some floor } else l

abbrev pub prepare_from : State → TxnName → Option ℕ → Answered
prepare_from p t (Some floor) = refused p (Floor floor)
prepare_from p t None = record { reply = Floor p.high; state = record p { lives = map (prepared t p.high) p.lives } }

abbrev pub prepare : State → TxnName → Answered
prepare p t = if is_live p t then prepare_from p t (floor_of p t) else refused p NotKnown

-- End: locks and blocks of the transaction go, and its ordinal is the last ended
abbrev pub transaction_ended : State → TxnName → List Cell → State
transaction_ended p t cells =
    let q = record p { cells = cells; locks = released t p.locks; blocks = closed_of t p.blocks; lives = filter (λ l. not (same_txn l.name t)) p.lives } in
    with_opener q t.session (record (opener_of p t.session) { ended = t.ordinal })

abbrev pub commit_above : State → TxnName → ℕ → Option ℕ → Answered
commit_above p t stamp None = refused p NotPrepared
commit_above p t stamp (Some floor) =
    if nat_le stamp floor
    then refused p (StampLow floor)
    else record { reply = Done; state = record (transaction_ended p t (cells_settled t p.cells)) { high = max p.high stamp } }

abbrev pub end_commit : State → TxnName → ℕ → Answered
end_commit p t stamp = if is_live p t then commit_above p t stamp (floor_of p t) else refused p NotKnown

abbrev pub end_undo : State → TxnName → Answered
end_undo p t = record { reply = Done; state = transaction_ended p t (restored t p.cells) }

-- by kind
abbrev pub by_kind : State → TxnName → Ask → Answered
by_kind p t (BeginRead access granule range filter columns) = begin p t access granule range (are_columns_here p columns) (set_work (filter_of p.table filter) (Some (Read columns)))
by_kind p t (BeginUpdate access granule range filter sets) = begin p t access granule range (may_change access) (set_work (filter_of p.table filter) (option_map Update (sets_of p.table sets)))
by_kind p t (BeginDelete access granule range filter) = begin p t access granule range (may_change access) (set_work (filter_of p.table filter) (Some Delete))
by_kind p t (Continue subset last) = goes_on p last (find_block subset t p.blocks)
by_kind p t (ReadKey access key filter columns) = read_key p t access key (is_key_here p key && are_columns_here p columns) (set_work (filter_of p.table filter) (Some (Read columns)))
by_kind p t (Insert row) = insert_row p t (unpacked (kinds p.table) row)
by_kind p t (LockGranule prefix mode) = lock_granule p t prefix mode
by_kind p t Prepare = prepare p t
by_kind p t (EndCommit stamp) = end_commit p t stamp
by_kind p t EndUndo = end_undo p t

-- the asks that a prepared transaction may still make
abbrev pub is_closing : Ask → Bool
is_closing Prepare = true
is_closing (EndCommit stamp) = true
is_closing EndUndo = true
is_closing ask = false

-- another attempt of the opener that is live here
abbrev pub other_live : State → TxnName → Option Live
other_live p t = find (λ l. (l.name.session == t.session) && not (l.name.ordinal == t.ordinal)) p.lives

-- the checks before the kinds: an attempt that has ended, another that is live, one that has prepared
abbrev pub unless_prepared : State → TxnName → Ask → Option ℕ → Answered
unless_prepared p t ask None = by_kind p t ask
unless_prepared p t ask (Some floor) = if is_closing ask then by_kind p t ask else refused p (AfterPrepare floor)

abbrev pub unless_other : State → TxnName → Ask → Option Live → Answered
unless_other p t ask (Some other) = refused p (StillLive other.name.ordinal)
unless_other p t ask None = unless_prepared p t ask (floor_of p t)

abbrev pub answered : State → TxnName → Ask → Answered
answered p t ask =
    let ended = (opener_of p t.session).ended in
    if nat_le t.ordinal ended then refused p (AfterEnd ended) else unless_other p t ask (other_live p t)

-- the partition after a request, and the reply where its sync was new
pub record Stepped : Type 0 where
  pub state : State
  pub reply : Option Reply

-- the opener's last sync and its reply
abbrev pub noted : State → ℕ → ℕ → Reply → State
noted p opener sync reply = with_opener p opener (record (opener_of p opener) { last = sync; starved = false; kept = Some reply })

-- one request: a sync that isn't above the opener's last changes nothing
abbrev pub step : State → ℕ → ℕ → Request → Stepped
step p opener sync request =
    let a = answered p (record { session = opener; ordinal = request.ordinal }) request.ask in
    if nat_le sync (opener_of p opener).last
    then record { state = p; reply = None }
    else record { state = noted a.state opener sync a.reply; reply = Some a.reply }
