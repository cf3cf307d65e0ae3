-- Requests of one record or one granule, where one transaction is alone.
use Rattle.std.proofs.Common.{◌≡◌, ℕ, List, [], ◌∷◌, Bool, true, false, cond, Option, Some, None, refl, ap, sym, ◌∙◌, subst}
use Rattle.std.specs.Prelude.{option_and_then, option_map, nat_le}
use Rattle.std.specs.List.{AllByRecursion, cons_option, list_any}
use Rattle.std.proofs.lemmas.Bool.{false≢true}
use Rattle.std.proofs.lemmas.List.{append-nil}
use Rattle.sql_base.specs.Keys.{key_eq}
use Rattle.sql_base.specs.Locks.{first_conflict}
use Rattle.sql_base.specs.OnRows.{first_failing}
use Rattle.sql_base.specs.Rows.{key_of, kinds, unpacked}
use Rattle.sql_base.specs.declared.expressions.Expr.{Expr}
use Rattle.sql_base.specs.declared.faults.Fault.{Fault}
use Rattle.sql_base.specs.declared.key_ranges.Start.TheVariants.{At}
use Rattle.sql_base.specs.declared.lock_names.Access.{Access}
use Rattle.sql_base.specs.declared.lock_names.Lock.{Lock}
use Rattle.sql_base.specs.declared.lock_names.Mode.{Mode}
use Rattle.sql_base.specs.declared.lock_names.Mode.TheVariants.{X}
use Rattle.sql_base.specs.declared.lock_names.TxnName.{TxnName}
use Rattle.sql_base.specs.declared.outcomes.Abort.{Abort}
use Rattle.sql_base.specs.declared.outcomes.Abort.TheVariants.{LockedOut, PathLost, Faulted, Duplicate}
use Rattle.sql_base.specs.declared.scripts.Limits.{Limits}
use Rattle.sql_base.specs.declared.statements.Statement.{Statement}
use Rattle.sql_base.specs.declared.statements.Statement.TheVariants.{Select}
use Rattle.sql_base.specs.declared.tables.TableDef.{TableDef}
use Rattle.sql_base.specs.declared.values.Value.{Value}
use Rattle.dp_messages.specs.declared.replies.Reply.{Reply as PartitionReply}
use Rattle.dp_messages.specs.declared.replies.Reply.TheVariants as reply
use Rattle.dp_messages.specs.declared.requests.Ask.{Ask}
use Rattle.dp_messages.specs.declared.requests.Ask.TheVariants as ask
use Rattle.key_sequenced.specs.Cells.{Keyed, find_cell, records}
use Rattle.key_sequenced.specs.Changes.{put}
use Rattle.key_sequenced.specs.declared.Cell.{Cell}
use Rattle.partition_state.specs.State.{State, with_live, opener_of, floor_of}
use Rattle.partition_state.specs.Step.{Answered, by_kind, insert_against, insert_beside, insert_checked, insert_row, is_key_here, refused, step, unless_prepared, unless_other, is_closing, other_live, answered}
use Rattle.quantum_core.proofs.Windows.{Ascends-from_rise}
use Rattle.session_grammar.specs.Follows.{IsSingle}
use Rattle.session_grammar.specs.Plans.{Asker, filter_code}
use Rattle.session_grammar.specs.Rows.{failure, fits_insert, fits_lock, fits_read, fits}
use Rattle.session_grammar.specs.declared.logs.Answer.TheVariants.{Reply}
use Rattle.session_grammar.specs.declared.logs.LogEntry.{LogEntry}
use Rattle.session_grammar.specs.declared.logs.LogEntry.TheVariants.{Asked}
use Rattle.run_record.specs.Tiles.{interval_of, Matches, FaultFree, inside, Cover}
use Rattle.serial_laws.specs.Scaffold.Stages.{RoomFor}
use Rattle.serial_laws.proofs.Chains.{Here}
use Rattle.serial_laws.proofs.Singles.{InsertTells, RowTells, adds, insert-step, just, lock-step, read-step}
use Rattle.serial_laws.proofs.Steps.{answered-kind, stepped, was_handled}
use Rattle.serial_passes.proofs.Placings.{IsAbsent}
use Rattle.serial_passes.proofs.Sweeping.{HandlesOrNot, matches-edit, matches-shows}
use Rattle.alone_laws.specs.Scaffold.Failing.{Fails}
use Rattle.alone_laws.specs.Scaffold.Served.{Lively, Replies, served_by}
use Rattle.alone_laws.proofs.QuantumFaults.{read-failed}
use Rattle.alone_laws.proofs.SubsetLists.{Came, OneRow, Sweeps, one_row}
use Rattle.partition_state.specs.declared.lives.Live.{Live}

-- what an INSERT came to in its partition
abbrev pub InsertCame : TableDef → List Value → List Keyed → List Keyed → Option Abort → Type 0
InsertCame table row v w None = (w ≡ put (key_of table row) row v) × IsAbsent (key_of table row) v × (first_failing table.checks row ≡ None)
InsertCame table row v w (Some (Duplicate key)) = (key ≡ key_of table row) × (list_any (λ k. key_eq k.key (key_of table row)) v ≡ true)
InsertCame table row v w (Some (Faulted key fault)) = (key ≡ key_of table row) × IsAbsent (key_of table row) v × (first_failing table.checks row ≡ Some fault)
InsertCame table row v w (Some LockedOut) = ⊥
InsertCame table row v w (Some PathLost) = ⊥

-- a record stands where its cell has a row
stands_there : (key : List ℕ) (row : List Value) (cells : List Cell) → option_and_then (λ (c : Cell). c.now) (find_cell key cells) ≡ Some row → list_any (λ k. key_eq k.key key) (records cells) ≡ true
stands_there key row [] e = absurd (cc)
stands_there key row (cell ∷ cells) e = by_key (key_eq cell.key key) refl e (stands_there key row cells)
  where
    past : (o : Option (List Value)) → key_eq cell.key key ≡ false → list_any (λ k. key_eq k.key key) (records cells) ≡ true
        → list_any (λ (k : Keyed). key_eq k.key key) (cons_option (option_map (λ row. record { key = cell.key; row = row }) o) (records cells)) ≡ true
    past None h rest = rest
    past (Some r) h rest = rw h rest

    by_key : (b : Bool) → key_eq cell.key key ≡ b → option_and_then (λ (c : Cell). c.now) (cond b (Some cell) (find_cell key cells)) ≡ Some row
        → (option_and_then (λ (c : Cell). c.now) (find_cell key cells) ≡ Some row → list_any (λ k. key_eq k.key key) (records cells) ≡ true) → list_any (λ k. key_eq k.key key) (records (cell ∷ cells)) ≡ true
    by_key true h e rest = rw (e, h) refl
    by_key false h e rest = past cell.now h (rest e)

-- what a reply to an Insert that failed tells
abbrev Refuses : TableDef → List Value → List Cell → PartitionReply → Type 0
Refuses table row held (reply.DuplicateKey key) = (key ≡ key_of table row) × (list_any (λ k. key_eq k.key (key_of table row)) (records held) ≡ true)
Refuses table row held (reply.Failed key fault) = (key ≡ key_of table row) × (option_and_then (λ (c : Cell). c.now) (find_cell (key_of table row) held) ≡ None) × (first_failing table.checks row ≡ Some fault)
Refuses table row held other = Unit {0}

module _ (p : State) (t : TxnName) (row : List Value) where
  refuses_checks : (fault : Option Fault) → first_failing p.table.checks row ≡ fault → option_and_then (λ (c : Cell). c.now) (find_cell (key_of p.table row) p.cells) ≡ None
      → Refuses p.table row p.cells (insert_checked (with_live p t) t (key_of p.table row) row fault).reply
  refuses_checks None e none = tt
  refuses_checks (Some fault) e none = (refl, none, e)

  refuses_standing : (standing : Option (List Value)) → option_and_then (λ (c : Cell). c.now) (find_cell (key_of p.table row) p.cells) ≡ standing
      → Refuses p.table row p.cells (insert_beside (with_live p t) t (key_of p.table row) row standing).reply
  refuses_standing None e = refuses_checks (first_failing p.table.checks row) refl e
  refuses_standing (Some r) e = (refl, stands_there (key_of p.table row) r p.cells e)

  refuses_against : (o : Option Lock) → Refuses p.table row p.cells (insert_against (with_live p t) t (key_of p.table row) row o).reply
  refuses_against (Some lock) = tt
  refuses_against None = refuses_standing (option_and_then (λ (c : Cell). c.now) (find_cell (key_of p.table row) p.cells)) refl

  refuses_here : (here : Bool) → Refuses p.table row p.cells (cond here (insert_against (with_live p t) t (key_of p.table row) row (first_conflict p.locks t (key_of p.table row) X)) (refused p reply.BadShape)).reply
  refuses_here true = refuses_against (first_conflict p.locks t (key_of p.table row) X)
  refuses_here false = tt

  refuses_kind : (packed_row : List ℕ) → unpacked (kinds p.table) packed_row ≡ Some row → Refuses p.table row p.cells (by_kind p t (ask.Insert packed_row)).reply
  refuses_kind packed_row is = subst (λ o. Refuses p.table row p.cells (insert_row p t o).reply) (sym is) (refuses_here (is_key_here p (key_of p.table row)))

refuses_step : (p : State) (sync ordinal : ℕ) (row : List Value) (packed_row : List ℕ) (x : PartitionReply) → unpacked (kinds p.table) packed_row ≡ Some row → was_handled x ≡ true
    → (step p 1 sync (record { ordinal = ordinal; ask = ask.Insert packed_row })).reply ≡ Some x → Refuses p.table row p.cells x
refuses_step p sync ordinal row packed_row x is handled e =
    let t : TxnName = record { session = 1; ordinal = ordinal } in
    let asked = ask.Insert packed_row in
    let s = stepped p 1 sync (record { ordinal = ordinal; ask = asked }) x e in
    let kind = answered-kind p t asked (ap was_handled s.reply_is ∙ handled) in
    subst (Refuses p.table row p.cells) (ap (λ (a : Answered). a.reply) (sym kind) ∙ s.reply_is) (refuses_kind p t row packed_row is)

-- a DuplicateKey isn't among the handled replies, and is told of the same way
duplicate_kind : (p : State) (t : TxnName) (a : Ask) (key : List ℕ) → (answered p t a).reply ≡ reply.DuplicateKey key → (by_kind p t a).reply ≡ reply.DuplicateKey key
duplicate_kind p t a key e = by_ended (nat_le t.ordinal (opener_of p t.session).ended) e
  where
    by_closing : (b : Bool) (floor : ℕ) → (cond b (by_kind p t a) (refused p (reply.AfterPrepare floor))).reply ≡ reply.DuplicateKey key → (by_kind p t a).reply ≡ reply.DuplicateKey key
    by_closing true floor e = e
    by_closing false floor e = absurd (cc)

    by_floor : (o : Option ℕ) → (unless_prepared p t a o).reply ≡ reply.DuplicateKey key → (by_kind p t a).reply ≡ reply.DuplicateKey key
    by_floor None e = e
    by_floor (Some floor) e = by_closing (is_closing a) floor e

    by_other : (o : Option Live) → (unless_other p t a o).reply ≡ reply.DuplicateKey key → (by_kind p t a).reply ≡ reply.DuplicateKey key
    by_other None e = by_floor (floor_of p t) e
    by_other (Some other) e = absurd (cc)

    by_ended : (b : Bool) → (cond b (refused p (reply.AfterEnd (opener_of p t.session).ended)) (unless_other p t a (other_live p t))).reply ≡ reply.DuplicateKey key
        → (by_kind p t a).reply ≡ reply.DuplicateKey key
    by_ended true e = absurd (cc)
    by_ended false e = by_other (other_live p t) e

duplicate_step : (p : State) (sync ordinal : ℕ) (row : List Value) (packed_row : List ℕ) (key : List ℕ) → unpacked (kinds p.table) packed_row ≡ Some row
    → (step p 1 sync (record { ordinal = ordinal; ask = ask.Insert packed_row })).reply ≡ Some (reply.DuplicateKey key) → Refuses p.table row p.cells (reply.DuplicateKey key)
duplicate_step p sync ordinal row packed_row key is e =
    let t : TxnName = record { session = 1; ordinal = ordinal } in
    let asked = ask.Insert packed_row in
    let s = stepped p 1 sync (record { ordinal = ordinal; ask = asked }) (reply.DuplicateKey key) e in
    subst (Refuses p.table row p.cells) (duplicate_kind p t asked key s.reply_is) (refuses_kind p t row packed_row is)

module _ (r : Asker) (ordinal part : ℕ) (t : TxnName) (own : t ≡ record { session = 1; ordinal = ordinal }) (base : List Keyed) (top : ℕ) (table : TableDef) (limits : Limits) (p : State) (here : Here table limits p) (lively : Lively t base top p)
    (es : List LogEntry) (end : Option Abort) (replies : Replies p es) where
  one_single : (a : Ask) → (single : IsSingle r ordinal (record { part = part; ask = a }) es end) → OneRow p part (record { ordinal = ordinal; ask = a }) es single.0
  one_single a single = one_row t base top p part ordinal a own lively r.limits.patience es single.0 [] single.1 (subst (Replies p) (sym (append-nil es)) replies)

  -- what holds of the one entry and how it fails, holds of all and their end
  of_single : (a : Ask) (P : List LogEntry → List Keyed → Option Abort → Type 0) → IsSingle r ordinal (record { part = part; ask = a }) es end
      → ((sync losses : ℕ) (x : PartitionReply) → fits a x ≡ true → ((lock : Lock) → x ≡ reply.Locked lock → ⊥) → (step p 1 sync (record { ordinal = ordinal; ask = a })).reply ≡ Some x
      → P (Asked part sync (record { ordinal = ordinal; ask = a }) losses (Reply x) ∷ []) (records (step p 1 sync (record { ordinal = ordinal; ask = a })).state.cells) (failure (Reply x)))
      → P es (records (served_by p es).cells) end
  of_single a P single to =
      let o = one_single a single in
      subst (λ list. P list (records (served_by p list).cells) end) (sym o.row_is)
      (subst (P (Asked part o.sync (record { ordinal = ordinal; ask = a }) o.losses (Reply o.r) ∷ []) (records (step p 1 o.sync (record { ordinal = ordinal; ask = a })).state.cells)) (sym (single.2 ∙ ap failure o.answer_is))
      (to o.sync o.losses o.r o.fit o.unlocked o.told))

  -- a ReadKey
  module _ (n : ℕ) (columns : List ℕ) (predicate : Option Expr) (access : Access) (key : List ℕ) (room : RoomFor limits table (Select n columns predicate access)) where
    abbrev reads : Statement
    reads = Select n columns predicate access

    abbrev asks_key : Ask
    asks_key = ask.ReadKey access key (filter_code predicate) columns

    abbrev ReadCame : List LogEntry → List Keyed → Option Abort → Type 0
    ReadCame list w e = Came table (Select n columns predicate access) (At key) key (records p.cells) list w e

    room_here : RoomFor p.limits p.table reads
    room_here = subst (λ (l : Limits). RoomFor l p.table reads) (sym here.limits_is) (subst (λ (d : TableDef). RoomFor limits d reads) (sym here.table_is) room)

    row_tells : (sync : ℕ) (x : PartitionReply) → was_handled x ≡ true → (step p 1 sync (record { ordinal = ordinal; ask = asks_key })).reply ≡ Some x
        → RowTells table reads (record { session = 1; ordinal = ordinal }) key p.cells x (step p 1 sync (record { ordinal = ordinal; ask = asks_key })).state.cells
    row_tells sync x was told =
        subst (λ (d : TableDef). RowTells d reads (record { session = 1; ordinal = ordinal }) key p.cells x (step p 1 sync (record { ordinal = ordinal; ask = asks_key })).state.cells) here.table_is
        (read-step n columns predicate access p 1 sync ordinal key x here.sound room_here was told)

    swept_row : (sync losses : ℕ) (x : PartitionReply) (w : List Keyed) → interval_of key (Asked part sync (record { ordinal = ordinal; ask = asks_key }) losses (Reply x)) ≡ Some (just key)
        → AllByRecursion (FaultFree table reads) (inside (just key) (records p.cells)) → Matches table reads (just key) (records p.cells) w x
        → Sweeps table reads (At key) key (records p.cells) (Asked part sync (record { ordinal = ordinal; ask = asks_key }) losses (Reply x) ∷ []) w
    swept_row sync losses x w is free m = record {
      cover = subst (λ o. Cover (At key) key (cons_option o [])) (sym is) (refl, refl);
      goes = (
        w,
        subst (HandlesOrNot table reads (Asked part sync (record { ordinal = ordinal; ask = asks_key }) losses (Reply x)) (records p.cells) w x) (sym is)
            (free, matches-shows table reads (just key) (records p.cells) w x m, matches-edit table reads (just key) (records p.cells) w x m),
        refl,
      );
    }

    by_row : (sync losses : ℕ) (x : PartitionReply) → fits_read x ≡ true → ((lock : Lock) → x ≡ reply.Locked lock → ⊥) → (step p 1 sync (record { ordinal = ordinal; ask = asks_key })).reply ≡ Some x
        → ReadCame (Asked part sync (record { ordinal = ordinal; ask = asks_key }) losses (Reply x) ∷ [])
        (records (step p 1 sync (record { ordinal = ordinal; ask = asks_key })).state.cells) (failure (Reply x))
    by_row sync losses (reply.Row row) fit unlocked told =
        let h = row_tells sync (reply.Row row) refl told in
        swept_row sync losses (reply.Row row) (records (step p 1 sync (record { ordinal = ordinal; ask = asks_key })).state.cells) refl h.0 h.1
    by_row sync losses reply.NoRow fit unlocked told =
        let h = row_tells sync reply.NoRow refl told in
        swept_row sync losses reply.NoRow (records (step p 1 sync (record { ordinal = ordinal; ask = asks_key })).state.cells) refl h.0 h.1
    by_row sync losses (reply.Locked lock) fit unlocked told = absurd (unlocked lock refl)
    by_row sync losses (reply.Failed k fault) fit unlocked told =
        subst (λ d. Fails d reads (At key) key (records p.cells) k fault) here.table_is (read-failed p sync ordinal n columns predicate access key k fault here.sound room_here told)
    by_row sync losses x fit unlocked told = absurd (false≢true fit)

    pub read_came : IsSingle r ordinal (record { part = part; ask = asks_key }) es end
        → ReadCame es (records (served_by p es).cells) end
    read_came single = of_single asks_key (λ list w e. ReadCame list w e) single (λ sync losses x fit unlocked told. by_row sync losses x fit unlocked told)

  -- an Insert
  module _ (row : List Value) (packed_row : List ℕ) (unpacks : unpacked (kinds table) packed_row ≡ Some row) where
    unpacks_here : unpacked (kinds p.table) packed_row ≡ Some row
    unpacks_here = subst (λ (d : TableDef). unpacked (kinds d) packed_row ≡ Some row) (sym here.table_is) unpacks

    by_insert : (sync : ℕ) (x : PartitionReply) → fits_insert x ≡ true → ((lock : Lock) → x ≡ reply.Locked lock → ⊥) → (step p 1 sync (record { ordinal = ordinal; ask = ask.Insert packed_row })).reply ≡ Some x
        → InsertCame table row (records p.cells) (records (step p 1 sync (record { ordinal = ordinal; ask = ask.Insert packed_row })).state.cells) (failure (Reply x))
    by_insert sync reply.Done fit unlocked told =
        let h = subst (λ (d : TableDef). InsertTells d row p.cells reply.Done (step p 1 sync (record { ordinal = ordinal; ask = ask.Insert packed_row })).state.cells) here.table_is
        (insert-step p 1 sync ordinal row packed_row reply.Done here.sound unpacks_here refl told) in
        (h.0.0, h.0.1, h.1)
    by_insert sync (reply.Locked lock) fit unlocked told = absurd (unlocked lock refl)
    by_insert sync (reply.DuplicateKey key) fit unlocked told =
        subst (λ (d : TableDef). Refuses d row p.cells (reply.DuplicateKey key)) here.table_is (duplicate_step p sync ordinal row packed_row key unpacks_here told)
    by_insert sync (reply.Failed key fault) fit unlocked told =
        let h = refuses_step p sync ordinal row packed_row (reply.Failed key fault) unpacks_here refl told in
        let a = adds t (key_of p.table row) row p.cells (Ascends-from_rise p.cells here.sound.keeps.cells.rise) h.1 in
        subst (λ (d : TableDef). (key ≡ key_of d row) × IsAbsent (key_of d row) (records p.cells) × (first_failing d.checks row ≡ Some fault)) here.table_is (h.0, a.1, h.2)
    by_insert sync x fit unlocked told = absurd (false≢true fit)

    pub insert_came : IsSingle r ordinal (record { part = part; ask = ask.Insert packed_row }) es end → InsertCame table row (records p.cells) (records (served_by p es).cells) end
    insert_came single = of_single (ask.Insert packed_row) (λ list w e. InsertCame table row (records p.cells) w e) single (λ sync losses x fit unlocked told. by_insert sync x fit unlocked told)

  -- a LockGranule
  by_lock : (prefix : List ℕ) (mode : Mode) (sync : ℕ) (x : PartitionReply) → fits_lock x ≡ true → ((lock : Lock) → x ≡ reply.Locked lock → ⊥) → (step p 1 sync (record { ordinal = ordinal; ask = ask.LockGranule prefix mode })).reply ≡ Some x
      → (records (step p 1 sync (record { ordinal = ordinal; ask = ask.LockGranule prefix mode })).state.cells ≡ records p.cells) × (failure (Reply x) ≡ None)
  by_lock prefix mode sync reply.Done fit unlocked told = (lock-step p 1 sync ordinal prefix mode reply.Done refl told, refl)
  by_lock prefix mode sync (reply.Locked lock) fit unlocked told = absurd (unlocked lock refl)
  by_lock prefix mode sync x fit unlocked told = absurd (false≢true fit)

  pub lock_came : (prefix : List ℕ) (mode : Mode) → IsSingle r ordinal (record { part = part; ask = ask.LockGranule prefix mode }) es end → (records (served_by p es).cells ≡ records p.cells) × (end ≡ None)
  lock_came prefix mode single =
      of_single (ask.LockGranule prefix mode) (λ list w e. (w ≡ records p.cells) × (e ≡ None)) single (λ sync losses x fit unlocked told. by_lock prefix mode sync x fit unlocked told)
