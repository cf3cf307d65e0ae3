-- A partition's keys are of a kind, and stay so where all that is inserted has such keys.
use Rattle.std.proofs.Common.{◌≡◌, ℕ, List, [], ◌∷◌, Bool, true, false, cond, map, Option, Some, None, sym, subst}
use Rattle.std.specs.Prelude.{filter_map}
use Rattle.std.specs.List.{AllByRecursion}
use Rattle.sql_base.specs.Locks.{same_txn}
use Rattle.sql_base.specs.Rows.{key_of, kinds, unpacked}
use Rattle.sql_base.specs.declared.lock_names.Access.{Access}
use Rattle.sql_base.specs.declared.lock_names.Access.TheVariants.{Browse, Stable, Repeatable}
use Rattle.sql_base.specs.declared.lock_names.TxnName.{TxnName}
use Rattle.sql_base.specs.declared.tables.TableDef.{TableDef}
use Rattle.sql_base.specs.declared.values.Value.{Value}
use Rattle.key_sequenced.specs.Cells.{ending, settled_cell}
use Rattle.key_sequenced.specs.declared.Cell.{Cell}
use Rattle.subset_blocks.specs.declared.Block.{Block}
use Rattle.quantum_core.specs.declared.works.SetWork.{SetWork}
use Rattle.dp_messages.specs.declared.replies.Reply.{Reply}
use Rattle.dp_messages.specs.declared.requests.Ask.{Ask}
use Rattle.dp_messages.specs.declared.requests.Ask.TheVariants.{Insert}
use Rattle.dp_messages.specs.declared.requests.Request.{Request}
use Rattle.partition_state.specs.State.{State, with_live}
use Rattle.partition_state.specs.Step.{answered, step, with_granule}
use Rattle.partition_laws.specs.Moves.{Move, Stays, Enters, Starts, Opens, Closes, Advances, Inserts, Locks, Prepares, Commits, Undoes, IsMoveOf, Moved, after, after_quantum, by, handled_by}
use Rattle.partition_laws.proofs.CellMoves.{all-inserted, cell_key, keys-after}
use Rattle.partition_laws.proofs.KeepingMoves.{handled_in}
use Rattle.sql_base.proofs.ListSearches.{all-filter_map}
use Rattle.partition_laws.proofs.Moving.{moved}
use Rattle.partition_laws.proofs.Stepped.{stepped}
use Rattle.sql_base.proofs.Truths.{some-same}

module _ (P : List ℕ → Type 0) where
  abbrev HasKey : Cell → Type 0
  HasKey cell = P cell.key

  abbrev pub KeysAre : State → Type 0
  KeysAre p = AllByRecursion (λ (cell : Cell). P cell.key) p.cells

  -- what is asked inserts no row but one with such a key
  abbrev pub IsGood : TableDef → Ask → Type 0
  IsGood table (Insert bytes) = (row : List Value) → unpacked (kinds table) bytes ≡ Some row → P (key_of table row)
  IsGood table other = Unit {0}

  keys-all : (cells : List Cell) → AllByRecursion HasKey cells → AllByRecursion P (map cell_key cells)
  keys-all [] h = tt
  keys-all (cell ∷ cells) h = (h.0, keys-all cells h.1)

  all-keys : (cells : List Cell) → AllByRecursion P (map cell_key cells) → AllByRecursion HasKey cells
  all-keys [] h = tt
  all-keys (cell ∷ cells) h = (h.0, all-keys cells h.1)

  handled-keys : (p : State) (block : Block SetWork) → KeysAre p → AllByRecursion HasKey (handled_by p block).cells
  handled-keys p block h =
      all-keys (handled_by p block).cells (subst (AllByRecursion P) (sym (keys-after block.holder (handled_in p block) p.cells)) (keys-all p.cells h))

  granule-keys : (q : State) (block : Block SetWork) (granule : List ℕ) (access : Access) → KeysAre q → KeysAre (with_granule q block granule access)
  granule-keys q block granule Browse h = h
  granule-keys q block granule Stable h = h
  granule-keys q block granule Repeatable h = h

  -- an end leaves cells with keys that they had
  end-key : (t : TxnName) (kept : Cell → Option (List Value)) (cell cell' : Cell) (o : Option TxnName) → HasKey cell → ending t kept cell o ≡ Some cell' → HasKey cell'
  end-key t kept cell cell' None h e = subst HasKey (some-same cell cell' e) h
  end-key t kept cell cell' (Some u) h e = at (same_txn u t) (kept cell) e
    where
      at : (b : Bool) (row : Option (List Value)) → cond b (settled_cell cell.key row) (Some cell) ≡ Some cell' → HasKey cell'
      at true None e = absurd (cc)
      at true (Some row) e = subst HasKey (some-same (record { key = cell.key; now = Some row; was = None; writer = None }) cell' e) h
      at false row e = subst HasKey (some-same cell cell' e) h

  ended-keys : (t : TxnName) (kept : Cell → Option (List Value)) (cells : List Cell) → AllByRecursion HasKey cells → AllByRecursion HasKey (filter_map (λ cell. ending t kept cell cell.writer) cells)
  ended-keys t kept cells h = all-filter_map HasKey HasKey (λ cell. ending t kept cell cell.writer) cells (λ cell cell' has e. end-key t kept cell cell' cell.writer has e) h

  move-keys : (p : State) (t : TxnName) (ask : Ask) (reply : Reply) (move : Move) → KeysAre p → IsGood p.table ask → IsMoveOf p t ask reply move → KeysAre (after p t move)
  move-keys p t ask reply Stays h good f = h
  move-keys p t ask reply Enters h good f = h
  move-keys p t ask reply (Starts block granule) h good f = granule-keys (after_quantum (with_live p t) block) block granule block.access (handled-keys p block h)
  move-keys p t ask reply (Opens block granule last) h good f = granule-keys (after_quantum (with_live p t) block) block granule block.access (handled-keys p block h)
  move-keys p t ask reply (Closes b) h good f = handled-keys p b.block h
  move-keys p t ask reply (Advances b last) h good f = handled-keys p b.block h
  move-keys p t ask reply (Inserts key row) h good f =
      let row-good : IsGood p.table (Insert f.0.0) = subst (IsGood p.table) f.0.1 good in
      let its : P key = subst P (sym f.0.3) (row-good row f.0.2) in
      all-inserted HasKey t key row p.cells its (λ cell same s. s) h
  move-keys p t ask reply (Locks lock) h good f = h
  move-keys p t ask reply Prepares h good f = h
  move-keys p t ask reply (Commits stamp) h good f = ended-keys t (λ c. c.now) p.cells h
  move-keys p t ask reply Undoes h good f = ended-keys t (λ c. c.was) p.cells h

  pub step-keys : (p : State) (opener sync : ℕ) (request : Request) → KeysAre p → IsGood p.table request.ask → KeysAre (step p opener sync request).state
  step-keys p opener sync request h good =
      stepped KeysAre p opener sync request h
      (λ reply.
      let t = by opener request in
      let m : Moved p t request.ask (answered p t request.ask) = moved p t request.ask in
      subst KeysAre (sym m.state) (move-keys p t request.ask (answered p t request.ask).reply m.move h good m.fits))
