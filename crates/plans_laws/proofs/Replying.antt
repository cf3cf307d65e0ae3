-- What one request replies can be spelled.
use Rattle.std.proofs.Common.{◌≡◌, ◌≤◌, ◌+◌, ◌-◌, ◌&&◌, ℕ, zero, suc, List, [], ◌∷◌, length, Bool, true, false, cond, Option, Some, None, not, refl, ap, sym, ◌∙◌, subst, arith}
use Rattle.std.specs.Prelude.{◌==◌, find, nat_le, nat_lt, option_and_then, slice_get, unwrap_or}
use Rattle.std.specs.List.{AllByRecursion, list_any, range_with_len}
use Rattle.std.proofs.lemmas.Bool.{and_parts, cond_both, eqb-true, leb-false}
use Rattle.sql_base.specs.Keys.{key_eq}
use Rattle.sql_base.specs.Locks.{first_conflict, same_txn}
use Rattle.sql_base.specs.OnRows.{first_failing}
use Rattle.sql_base.specs.Rows.{key_of, key_width, kinds, unpacked}
use Rattle.sql_base.specs.declared.faults.Fault.{Fault}
use Rattle.sql_base.specs.declared.faults.Cause.{Cause}
use Rattle.sql_base.specs.declared.key_ranges.KeyRange.{KeyRange}
use Rattle.sql_base.specs.declared.lock_names.Access.{Access}
use Rattle.sql_base.specs.declared.lock_names.Access.TheVariants.{Browse, Stable, Repeatable}
use Rattle.sql_base.specs.declared.lock_names.Lock.{Lock}
use Rattle.sql_base.specs.declared.lock_names.Mode.{Mode}
use Rattle.sql_base.specs.declared.lock_names.Mode.TheVariants.{X}
use Rattle.sql_base.specs.declared.lock_names.TxnName.{TxnName}
use Rattle.sql_base.specs.declared.values.Value.{Value}
use Rattle.key_sequenced.specs.Cells.{find_cell}
use Rattle.subset_blocks.specs.Blocks.{find_block, free_number, most_blocks}
use Rattle.subset_blocks.specs.declared.Block.{Block}
use Rattle.subset_blocks.specs.declared.Numbered.{Numbered}
use Rattle.quantum_core.specs.Quantum.{Handled, quantum}
use Rattle.quantum_core.specs.declared.replies.QuantumReply.{QuantumReply}
use Rattle.quantum_core.specs.declared.replies.QuantumReply.TheVariants as answers
use Rattle.quantum_core.specs.declared.works.Doing.TheVariants.{Read, Delete}
use Rattle.quantum_core.specs.declared.works.SetWork.{SetWork}
use Rattle.predicate_codes.specs.Decoding.{filter_of}
use Rattle.partition_map.specs.Map.{part_of}
use Rattle.dp_messages.specs.Spelling.{HasEight, HasFour, IsAsk, IsLock, IsReply, IsShort}
use Rattle.dp_messages.specs.declared.replies.Reply.{Reply}
use Rattle.dp_messages.specs.declared.replies.Reply.TheVariants.{Redrive, BadShape, TooManySubsets, WrongKey, NotKnown, StampLow, AfterEnd, AfterPrepare}
use Rattle.dp_messages.specs.declared.requests.Ask.{Ask}
use Rattle.dp_messages.specs.declared.requests.Ask.TheVariants.{BeginRead, BeginUpdate, BeginDelete, Continue, ReadKey, Insert, LockGranule, Prepare, EndCommit, EndUndo}
use Rattle.partition_state.specs.State.{Opener, State, floor_of, is_live, new_opener, opener_of, with_live}
use Rattle.partition_state.specs.Step.{Answered, after_first, after_next, against_granule, answered, are_columns_here, as_row, begin, begin_with, begins, by_kind, commit_above, first_quantum, goes_on, insert_against, insert_beside, insert_checked, insert_row, is_closing, is_key_here, is_shaped, kept_key, lock_against, lock_granule, may_change, mode_of, other_live, prepare_from, read_key, refused, set_work, unless_other, unless_prepared}
use Rattle.partition_state.specs.declared.lives.Live.{Live}
use Rattle.partition_laws.specs.Keeping.{HasFloor}
use Rattle.partition_laws.specs.Moves.{first_block}
use Rattle.sql_base.proofs.ListSearches.{find-some}
use Rattle.plans_laws.specs.Spelled.{PartsSpelled, Spelled}
use Rattle.plans_laws.proofs.Quanta.{IsQuantumReply, conflict-spelled, first_failing-spelled, quantum-spelled}
use Rattle.sql_base.proofs.ListFacts.{all_at}

-- the free number is at most one more than how many blocks there are
range-low : (a n high : ℕ) → a + n ≤ high + 1 → AllByRecursion (λ m. m ≤ high) (range_with_len a n)
range-low a zero high le = tt
range-low a (suc n) high le = (omega (arith, le), range-low (a + 1) n high (omega (arith, le)))

pub free-low : (blocks : List (Numbered SetWork)) → free_number blocks ≤ length blocks + 1
free-low blocks = at (find (λ n. not (list_any (λ (b : Numbered SetWork). b.number == n) blocks)) (range_with_len 1 (length blocks + 1))) refl
  where
    at : (o : Option ℕ) → find (λ n. not (list_any (λ (b : Numbered SetWork). b.number == n) blocks)) (range_with_len 1 (length blocks + 1)) ≡ o → unwrap_or o 0 ≤ length blocks + 1
    at None e = omega arith
    at (Some n) e = (find-some (λ m. m ≤ length blocks + 1) (λ n. not (list_any (λ (b : Numbered SetWork). b.number == n) blocks)) (range_with_len 1 (length blocks + 1)) n e (range-low 1 (length blocks + 1) (length blocks + 1) (omega arith))).1

-- the last ordinal that ended of an opener
pub opener-spelled : (q : State) (opener : ℕ) → PartsSpelled q → HasFour (opener_of q opener).ended
opener-spelled q opener parts = at (slice_get q.openers (opener - 1)) refl
  where
    at : (o : Option Opener) → slice_get q.openers (opener - 1) ≡ o → HasFour (unwrap_or o new_opener).ended
    at None e = omega arith
    at (Some o) e = all_at (λ (o : Opener). HasFour o.ended) q.openers (opener - 1) o parts.ended e

-- a key of this partition
pub key-short : (p : State) (key : List ℕ) → Spelled p → is_key_here p key ≡ true → IsShort key
key-short p key h e =
    let parts = and_parts (length key == key_width p.table) (part_of p.table key == p.place) e in
    let wide = h.table.key_bytes in
    omega (arith, eqb-true (length key) (key_width p.table) parts.0, wide)

-- an answer that can be spelled
abbrev pub IsAnswer : Answered → Type 0
IsAnswer a = IsReply a.reply

-- what isn't an answer to a request for one key
abbrev pub NotRedriven : Reply → Type 0
NotRedriven r = (n : ℕ) (last : List ℕ) (cause : Cause) (rows : List (List ℕ)) (changed : ℕ) → r ≡ Redrive n last cause rows changed → ⊥

abbrev pub IsOnce : Ask → Reply → Type 0
IsOnce (ReadKey access key filter columns) r = NotRedriven r
IsOnce other r = Unit {0}

module _ (p : State) (h : Spelled p) (t : TxnName) where
  quantum-here : (block : Block SetWork) → IsQuantumReply (quantum p.limits p.table p.cells p.locks block).reply
  quantum-here block = quantum-spelled p.limits p.table p.cells p.locks block h.limits h.table h.parts.keys h.parts.locks

  conflict-here : (holder : TxnName) (prefix : List ℕ) (mode : Mode) (lock : Lock) → first_conflict p.locks holder prefix mode ≡ Some lock → IsLock lock
  conflict-here holder prefix mode lock e = conflict-spelled p.locks holder prefix mode lock h.parts.locks e

  -- Begin
  first-answer : (q : State) (block : Block SetWork) (granule : List ℕ) (handled : Handled) (r : QuantumReply) → HasFour (free_number q.blocks) → IsQuantumReply r → IsAnswer (after_first q block granule handled r)
  first-answer q block granule handled (answers.Ended rows changed) free g = g
  first-answer q block granule handled (answers.Redrive last cause rows changed) free g = (free, g.0, g.1, g.2)
  first-answer q block granule handled (answers.Locked lock) free g = g
  first-answer q block granule handled (answers.Failed key f) free g = g

  against-here : (block : Block SetWork) (granule : List ℕ) (access : Access) (lock : Lock) → against_granule (with_live p t) block granule access ≡ Some lock → IsLock lock
  against-here block granule Browse lock e = absurd (cc)
  against-here block granule Stable lock e = absurd (cc)
  against-here block granule Repeatable lock e = conflict-here block.holder granule (mode_of block.work.doing) lock e

  begun-answer : (block : Block SetWork) (granule : List ℕ) (o : Option Lock) → against_granule (with_live p t) block granule block.access ≡ o → HasFour (free_number p.blocks) → IsAnswer (first_quantum (with_live p t) block granule o)
  begun-answer block granule (Some lock) e free = against-here block granule block.access lock e
  begun-answer block granule None e free =
      first-answer (with_live p t) block granule (quantum p.limits p.table p.cells p.locks block) (quantum p.limits p.table p.cells p.locks block).reply free (quantum-here block)

  few-free : nat_le most_blocks (length p.blocks) ≡ false → HasFour (free_number p.blocks)
  few-free e = omega (arith, free-low p.blocks, leb-false most_blocks (length p.blocks) e)

  begin_with-answer : (access : Access) (granule : List ℕ) (range : KeyRange) (work : Option SetWork) → IsAnswer (begin_with p t access granule range work)
  begin_with-answer access granule range None = tt
  begin_with-answer access granule range (Some work) =
      cond_both (nat_le most_blocks (length p.blocks)) (refused p TooManySubsets) (begins p t access granule range work) IsAnswer (λ _. tt)
      (λ few. begun-answer (first_block t access range work) granule (against_granule (with_live p t) (first_block t access range work) granule access) refl (few-free few))

  begin-answer : (access : Access) (granule : List ℕ) (range : KeyRange) (suits : Bool) (work : Option SetWork) → IsAnswer (begin p t access granule range suits work)
  begin-answer access granule range suits work =
      cond_both (suits && is_shaped p range granule) (begin_with p t access granule range work) (refused p BadShape) IsAnswer (λ _. begin_with-answer access granule range work) (λ _. tt)

  -- Continue
  next-answer : (b : Numbered SetWork) (handled : Handled) (r : QuantumReply) → HasFour b.number → IsQuantumReply r → IsAnswer (after_next p b handled r)
  next-answer b handled (answers.Ended rows changed) four g = g
  next-answer b handled (answers.Redrive last cause rows changed) four g = (four, g.0, g.1, g.2)
  next-answer b handled (answers.Locked lock) four g = g
  next-answer b handled (answers.Failed key f) four g = g

  goes_on-answer : (subset : ℕ) (last : List ℕ) (o : Option (Numbered SetWork)) → HasFour subset → find_block subset t p.blocks ≡ o → IsAnswer (goes_on p last o)
  goes_on-answer subset last None four e = tt
  goes_on-answer subset last (Some b) four e =
      let found = find-some (λ (b : Numbered SetWork). IsShort (kept_key b.block.start)) (λ (b : Numbered SetWork). (b.number == subset) && same_txn b.block.holder t) p.blocks b e h.parts.starts in
      let same : b.number ≡ subset = eqb-true b.number subset (and_parts (b.number == subset) (same_txn b.block.holder t) found.0).0 in
      let handled = quantum p.limits p.table p.cells p.locks b.block in
      cond_both (key_eq (kept_key b.block.start) last) (after_next p b handled handled.reply) (refused p (WrongKey (kept_key b.block.start))) IsAnswer
      (λ _. next-answer b handled handled.reply (subst HasFour (sym same) four) (quantum-here b.block)) (λ _. found.1)

  -- ReadKey
  row-answer : (q : State) (block : Block SetWork) (granule : List ℕ) (handled : Handled) (r : QuantumReply) → IsQuantumReply r → NotRedriven (as_row (after_first q block granule handled r).reply)
      → IsReply (as_row (after_first q block granule handled r).reply)
  row-answer q block granule handled (answers.Ended [] changed) g not = tt
  row-answer q block granule handled (answers.Ended (row ∷ rows) changed) g not = g.0.1.0
  row-answer q block granule handled (answers.Redrive last cause rows changed) g not = absurd (not (free_number q.blocks) last cause rows changed refl)
  row-answer q block granule handled (answers.Locked lock) g not = g
  row-answer q block granule handled (answers.Failed key f) g not = g

  rows-answer : (block : Block SetWork) (granule : List ℕ) (o : Option Lock) → against_granule (with_live p t) block granule block.access ≡ o → NotRedriven (as_row (first_quantum (with_live p t) block granule o).reply)
      → IsReply (as_row (first_quantum (with_live p t) block granule o).reply)
  rows-answer block granule (Some lock) e not = against-here block granule block.access lock e
  rows-answer block granule None e not =
      row-answer (with_live p t) block granule (quantum p.limits p.table p.cells p.locks block) (quantum p.limits p.table p.cells p.locks block).reply (quantum-here block) not

  read_key-answer : (access : Access) (key : List ℕ) (suits : Bool) (work : Option SetWork) → NotRedriven (read_key p t access key suits work).reply → IsAnswer (read_key p t access key suits work)
  read_key-answer access key true None not = tt
  read_key-answer access key false None not = tt
  read_key-answer access key true (Some work) not =
      let block = first_block t access (record { low = key; high = key }) work in
      rows-answer block key (against_granule (with_live p t) block key access) refl not
  read_key-answer access key false (Some work) not = tt

  -- Insert
  checked-answer : (q : State) (key : List ℕ) (row : List Value) (o : Option Fault) → q.table ≡ p.table → first_failing q.table.checks row ≡ o → IsShort key → IsAnswer (insert_checked q t key row o)
  checked-answer q key row None same e short = tt
  checked-answer q key row (Some f) same e short = (short, first_failing-spelled p.table row f h.table (ap (λ table. first_failing table.checks row) (sym same) ∙ e))

  beside-answer : (q : State) (key : List ℕ) (row : List Value) (o : Option (List Value)) → q.table ≡ p.table → IsShort key → IsAnswer (insert_beside q t key row o)
  beside-answer q key row (Some standing) same short = short
  beside-answer q key row None same short = checked-answer q key row (first_failing q.table.checks row) same refl short

  insert-answer : (key : List ℕ) (row : List Value) (o : Option Lock) → first_conflict p.locks t key X ≡ o → IsShort key → IsAnswer (insert_against (with_live p t) t key row o)
  insert-answer key row (Some lock) e short = conflict-here t key X lock e
  insert-answer key row None e short = beside-answer (with_live p t) key row (option_and_then (λ cell. cell.now) (find_cell key p.cells)) refl short

  insert_row-answer : (o : Option (List Value)) → IsAnswer (insert_row p t o)
  insert_row-answer None = tt
  insert_row-answer (Some row) =
      let key = key_of p.table row in
      cond_both (is_key_here p key) (insert_against (with_live p t) t key row (first_conflict p.locks t key X)) (refused p BadShape) IsAnswer
      (λ here. insert-answer key row (first_conflict p.locks t key X) refl (key-short p key h here)) (λ _. tt)

  -- LockGranule
  lock-answer : (q : State) (prefix : List ℕ) (mode : Mode) (o : Option Lock) → first_conflict p.locks t prefix mode ≡ o → IsAnswer (lock_against q t prefix mode o)
  lock-answer q prefix mode (Some lock) e = conflict-here t prefix mode lock e
  lock-answer q prefix mode None e = tt

  lock_granule-answer : (prefix : List ℕ) (mode : Mode) → IsAnswer (lock_granule p t prefix mode)
  lock_granule-answer prefix mode =
      cond_both (nat_lt (key_width p.table) (length prefix)) (refused p BadShape) (lock_against (with_live p t) t prefix mode (first_conflict p.locks t prefix mode)) IsAnswer (λ _. tt)
      (λ _. lock-answer (with_live p t) prefix mode (first_conflict p.locks t prefix mode) refl)

  -- floors
  floor_in : (o : Option Live) (floor : ℕ) → ((l : Live) → o ≡ Some l → HasFloor p.high l) → option_and_then (λ (l : Live). l.floor) o ≡ Some floor → HasEight floor
  floor_in None floor f e = absurd (cc)
  floor_in (Some l) floor f e = by l.floor refl (f l refl)
    where
      by : (o : Option ℕ) → l.floor ≡ o → HasFloor p.high l → HasEight floor
      by None is g = absurd (cc (e, is))
      by (Some n) is g =
          let same : n ≡ floor = (let both : Some n ≡ Some floor = sym is ∙ e in cc) in
          let low : n ≤ p.high = rw is at g in
          let high = h.parts.high in
          omega (arith, same, low, high)

  floor-spelled : (floor : ℕ) → floor_of p t ≡ Some floor → HasEight floor
  floor-spelled floor e = floor_in (find (λ l. same_txn l.name t) p.lives) floor (λ l is. (find-some (HasFloor p.high) (λ (l : Live). same_txn l.name t) p.lives l is h.keeps.lives.floors).1) e

  prepare-answer : (o : Option ℕ) → floor_of p t ≡ o → IsAnswer (prepare_from p t o)
  prepare-answer (Some floor) e = floor-spelled floor e
  prepare-answer None e = h.parts.high

  commit-answer : (stamp : ℕ) (o : Option ℕ) → floor_of p t ≡ o → IsAnswer (commit_above p t stamp o)
  commit-answer stamp None e = tt
  commit-answer stamp (Some floor) e = cond_both (nat_le stamp floor) (refused p (StampLow floor)) _ IsAnswer (λ _. floor-spelled floor e) (λ _. tt)

  -- by kind
  kind-answer : (ask : Ask) → IsAsk ask → IsOnce ask (by_kind p t ask).reply → IsAnswer (by_kind p t ask)
  kind-answer (BeginRead access granule range filter columns) is once = begin-answer access granule range (are_columns_here p columns) (set_work (filter_of p.table filter) (Some (Read columns)))
  kind-answer (BeginUpdate access granule range filter sets) is once = begin-answer access granule range (may_change access) _
  kind-answer (BeginDelete access granule range filter) is once = begin-answer access granule range (may_change access) (set_work (filter_of p.table filter) (Some Delete))
  kind-answer (Continue subset last) is once = goes_on-answer subset last (find_block subset t p.blocks) is.0 refl
  kind-answer (ReadKey access key filter columns) is once = read_key-answer access key (is_key_here p key && are_columns_here p columns) (set_work (filter_of p.table filter) (Some (Read columns))) once
  kind-answer (Insert row) is once = insert_row-answer (unpacked (kinds p.table) row)
  kind-answer (LockGranule prefix mode) is once = lock_granule-answer prefix mode
  kind-answer Prepare is once = cond_both (is_live p t) (prepare_from p t (floor_of p t)) (refused p NotKnown) IsAnswer (λ _. prepare-answer (floor_of p t) refl) (λ _. tt)
  kind-answer (EndCommit stamp) is once = cond_both (is_live p t) (commit_above p t stamp (floor_of p t)) (refused p NotKnown) IsAnswer (λ _. commit-answer stamp (floor_of p t) refl) (λ _. tt)
  kind-answer EndUndo is once = tt

  -- the checks before the kinds
  prepared-answer : (ask : Ask) (o : Option ℕ) → floor_of p t ≡ o → IsAsk ask → IsOnce ask (unless_prepared p t ask o).reply → IsAnswer (unless_prepared p t ask o)
  prepared-answer ask None e is once = kind-answer ask is once
  prepared-answer ask (Some floor) e is once = at (is_closing ask) refl once
    where
      at : (b : Bool) → is_closing ask ≡ b → IsOnce ask (cond b (by_kind p t ask) (refused p (AfterPrepare floor))).reply → IsAnswer (cond b (by_kind p t ask) (refused p (AfterPrepare floor)))
      at true closes once = kind-answer ask is once
      at false closes once = floor-spelled floor e

  other-answer : (ask : Ask) (o : Option Live) → other_live p t ≡ o → IsAsk ask → IsOnce ask (unless_other p t ask o).reply → IsAnswer (unless_other p t ask o)
  other-answer ask (Some other) e is once =
      (find-some (λ (l : Live). HasFour l.name.ordinal) (λ (l : Live). (l.name.session == t.session) && not (l.name.ordinal == t.ordinal)) p.lives other e h.parts.lives).1
  other-answer ask None e is once = prepared-answer ask (floor_of p t) refl is once

  pub answer-spelled : (ask : Ask) → IsAsk ask → IsOnce ask (answered p t ask).reply → IsAnswer (answered p t ask)
  answer-spelled ask is = at (nat_le t.ordinal (opener_of p t.session).ended)
    where
      at : (b : Bool) → IsOnce ask (cond b (refused p (AfterEnd (opener_of p t.session).ended)) (unless_other p t ask (other_live p t))).reply
          → IsAnswer (cond b (refused p (AfterEnd (opener_of p t.session).ended)) (unless_other p t ask (other_live p t)))
      at true once = opener-spelled p t.session h.parts
      at false once = other-answer ask (other_live p t) refl is once
