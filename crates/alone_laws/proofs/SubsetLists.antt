-- The list of a subset in its partition: it covers its span, or its last row tells the first fault of it.
use Rattle.std.proofs.Common.{◌≡◌, ℕ, zero, suc, List, [], ◌∷◌, ◌++◌, true, false, Option, Some, None, refl, ap, sym, ◌∙◌, subst, append_assoc, arith}
use Rattle.std.specs.Prelude.{filter_map}
use Rattle.std.specs.List.{AllByRecursion, cons_option}
use Rattle.std.proofs.lemmas.Bool.{false≢true}
use Rattle.sql_base.specs.Keys.{is_from, key_le}
use Rattle.sql_base.specs.declared.faults.Fault.{Fault}
use Rattle.sql_base.specs.declared.key_ranges.KeyRange.{KeyRange}
use Rattle.sql_base.specs.declared.key_ranges.Start.{Start}
use Rattle.sql_base.specs.declared.key_ranges.Start.TheVariants.{After}
use Rattle.sql_base.specs.declared.lock_names.Lock.{Lock}
use Rattle.sql_base.specs.declared.lock_names.TxnName.{TxnName}
use Rattle.sql_base.specs.declared.outcomes.Abort.{Abort}
use Rattle.sql_base.specs.declared.outcomes.Abort.TheVariants.{LockedOut, PathLost, Faulted, Duplicate}
use Rattle.sql_base.specs.declared.scripts.Limits.{Limits}
use Rattle.sql_base.specs.declared.statements.Statement.{Statement}
use Rattle.sql_base.specs.declared.statements.Statement.TheVariants.{Select, Update, Delete, Insert, LockTable}
use Rattle.sql_base.specs.declared.tables.TableDef.{TableDef}
use Rattle.dp_messages.specs.declared.replies.Reply.{Reply as PartitionReply}
use Rattle.dp_messages.specs.declared.replies.Reply.TheVariants as reply
use Rattle.dp_messages.specs.declared.requests.Ask.{Ask}
use Rattle.dp_messages.specs.declared.requests.Ask.TheVariants.{Continue}
use Rattle.dp_messages.specs.declared.requests.Request.{Request}
use Rattle.key_sequenced.specs.Cells.{Keyed, records}
use Rattle.partition_state.specs.Commits.{is_commit}
use Rattle.partition_state.specs.State.{State}
use Rattle.partition_state.specs.Step.{step}
use Rattle.partition_laws.specs.Keeping.{Keeps}
use Rattle.session_grammar.specs.Follows.{AfterRow, AreExchanges, joined}
use Rattle.session_grammar.specs.Plans.{Asker}
use Rattle.session_grammar.specs.Rows.{IsAsked, IsExchange, fits, fits_subset}
use Rattle.session_grammar.specs.declared.logs.Answer.{Answer}
use Rattle.session_grammar.specs.declared.logs.Answer.TheVariants.{Reply, PathFailed, Stamp}
use Rattle.session_grammar.specs.declared.logs.LogEntry.{LogEntry}
use Rattle.session_grammar.specs.declared.logs.LogEntry.TheVariants.{Asked, Drew}
use Rattle.run_record.specs.Tiles.{Cover, FaultFree, Interval, end_of, interval_from, interval_of, reply_changed, reply_rows}
use Rattle.serial_laws.specs.Scaffold.Exact.{IsSet}
use Rattle.serial_laws.specs.Scaffold.Stages.{Stage, Fresh, Onward, Awaits, RoomFor, ask_at, start_at}
use Rattle.serial_laws.proofs.Chains.{Here, cover-more, here-step, interval_is, start_is}
use Rattle.serial_laws.proofs.QuantumExact.{IsExact}
use Rattle.serial_laws.proofs.Subsets.{SubsetTells, subset-step}
use Rattle.serial_passes.proofs.Changing.{Ascend-rows_by, cells_ascend}
use Rattle.serial_passes.proofs.Edits.{edited, limited, spans, within, within-behind, within-split}
use Rattle.serial_passes.proofs.Looking.{Ascend}
use Rattle.serial_passes.proofs.Sweeping.{Goes, HandlesOrNot, acts, matches-edit, matches-shows}
use Rattle.alone_laws.specs.Scaffold.Failing.{Fails}
use Rattle.alone_laws.specs.Scaffold.Served.{Lively, Replies, served_by}
use Rattle.alone_laws.proofs.QuantumFaults.{failed-step}
use Rattle.alone_laws.proofs.OneLive.{lively-step, no_locked}
use Rattle.key_sequenced.specs.Changes.{records_for}
use Rattle.serial_laws.proofs.Steps.{was_handled}
use Rattle.sql_base.proofs.ListFacts.{all_joined}

pub ascends : (p : State) → Keeps p → Ascend (records p.cells)
ascends p k = Ascend-rows_by (λ cell. cell.now) p.cells (cells_ascend p.cells k.cells.rise)

-- the one entry of a row, since no lock of another stands
pub record OneRow (p : State) (part : ℕ) (request : Request) (row : List LogEntry) (answer : Answer) : Type 0 where
  pub sync : ℕ
  pub losses : ℕ
  pub r : PartitionReply
  pub row_is : row ≡ Asked part sync request losses (Reply r) ∷ []
  pub answer_is : answer ≡ Reply r
  pub told : (step p 1 sync request).reply ≡ Some r
  pub fit : fits request.ask r ≡ true
  pub unlocked : (lock : Lock) → r ≡ reply.Locked lock → ⊥

module _ (t : TxnName) (base : List Keyed) (top : ℕ) (p : State) (part ordinal : ℕ) (ask : Ask) (own : t ≡ record { session = 1; ordinal = ordinal }) (lively : Lively t base top p) where
  abbrev request : Request
  request = record { ordinal = ordinal; ask = ask }

  never_locked : (sync : ℕ) (lock : Lock) → (step p 1 sync request).reply ≡ Some (reply.Locked lock) → ⊥
  never_locked sync lock told = no_locked t base top p sync request lock own lively told

  one_entry : (e : LogEntry) (answer : Answer) (more : List LogEntry) → IsAsked part request answer e → Replies p (e ∷ more) → OneRow p part request (e ∷ []) answer
  one_entry (Asked q sync asked losses (Reply r)) answer more (part_is, request_is, answer_is, sent) replies =
      let told : (step p 1 sync request).reply ≡ Some r = subst (λ x. (step p 1 sync x).reply ≡ Some r) request_is replies.0 in
      record {
        sync = sync;
        losses = losses;
        r = r;
        row_is = λ i. Asked (part_is i) sync (request_is i) losses (Reply r) ∷ [];
        answer_is = sym answer_is;
        told = told;
        fit = subst (λ (x : Request). fits x.ask r ≡ true) request_is sent.1;
        unlocked = λ lock locked. never_locked sync lock (told ∙ ap Some locked);
      }
  one_entry (Asked q sync asked losses PathFailed) answer more h replies = absurd replies
  one_entry (Asked q sync asked losses (Stamp stamp)) answer more h replies = absurd replies
  one_entry (Drew name floor a) answer more h replies = absurd h

  pub one_row : (patience : ℕ) (row : List LogEntry) (answer : Answer) (more : List LogEntry) → IsExchange patience part request row answer → Replies p (row ++ more) → OneRow p part request row answer
  one_row patience [] answer more h replies = absurd h
  one_row patience (e ∷ []) answer more h replies = one_entry e answer more h.0 replies
  one_row zero (e ∷ f ∷ es) answer more h replies = absurd h
  one_row (suc patience) (e ∷ f ∷ es) answer more h replies =
      let o = one_entry e (Reply (reply.Locked h.0.0)) ((f ∷ es) ++ more) h.0.1 replies in
      let same : o.r ≡ reply.Locked h.0.0 = (let both : Reply (reply.Locked h.0.0) ≡ Reply o.r = o.answer_is in cc) in
      absurd (o.unlocked h.0.0 same)

fits_ask : (statement : Statement) (granule : List ℕ) (range : KeyRange) (stage : Stage) (r : PartitionReply) → IsSet statement → fits (ask_at statement granule range stage) r ≡ fits_subset r
fits_ask (Select t columns predicate access) granule range Fresh r set = refl
fits_ask (Update t sets predicate access) granule range Fresh r set = refl
fits_ask (Delete t predicate access) granule range Fresh r set = refl
fits_ask (Insert t row) granule range Fresh r set = absurd set
fits_ask (LockTable t m) granule range Fresh r set = absurd set
fits_ask statement granule range (Onward subset last) r set = refl

open_ask : (statement : Statement) (granule : List ℕ) (range : KeyRange) (stage : Stage) → IsSet statement → is_commit (ask_at statement granule range stage) ≡ false
open_ask (Select t columns predicate access) granule range Fresh set = refl
open_ask (Update t sets predicate access) granule range Fresh set = refl
open_ask (Delete t predicate access) granule range Fresh set = refl
open_ask (Insert t row) granule range Fresh set = absurd set
open_ask (LockTable t m) granule range Fresh set = absurd set
open_ask statement granule range (Onward subset last) set = refl

-- a fault behind a front without one
pub fails_behind : (table : TableDef) (statement : Statement) (start : Start) (last high : List ℕ) (v next : List Keyed) (key : List ℕ) (fault : Fault) → Ascend v → is_from start last ≡ true → key_le last high ≡ true
    → AllByRecursion (FaultFree table statement) (within start last v) → next ≡ edited (limited (spans start last) (acts table statement)) v → Fails table statement (After last) high next key fault → Fails table statement start high v key fault
fails_behind table statement start last high v next key fault ascend from til free left f =
    let behind : within (After last) high next ≡ within (After last) high v = ap (within (After last) high) left ∙ within-behind (acts table statement) start last high v in
    record {
      front = within start last v ++ f.front;
      first = f.first;
      back = f.back;
      span = sym (within-split start last high v ascend from til) ∙ ap (λ ks. within start last v ++ ks) (sym behind ∙ f.span) ∙ sym (append_assoc (within start last v) f.front (f.first ∷ f.back));
      fine = all_joined (FaultFree table statement) (within start last v) f.front free f.fine;
      key_is = f.key_is;
      faults = f.faults;
    }

-- what a list comes to from a start on: it covers the span, or tells the first fault
pub record Sweeps (table : TableDef) (statement : Statement) (start : Start) (high : List ℕ) (v : List Keyed) (es : List LogEntry) (w : List Keyed) : Type 0 where
  pub cover : Cover start high (filter_map (interval_of high) es)
  pub goes : Goes table statement high v es w

abbrev pub Came : TableDef → Statement → Start → List ℕ → List Keyed → List LogEntry → List Keyed → Option Abort → Type 0
Came table statement start high v es w None = Sweeps table statement start high v es w
Came table statement start high v es w (Some (Faulted key fault)) = Fails table statement start high v key fault
Came table statement start high v es w (Some LockedOut) = ⊥
Came table statement start high v es w (Some PathLost) = ⊥
Came table statement start high v es w (Some (Duplicate key)) = ⊥

module _ (r : Asker) (ordinal part : ℕ) (t : TxnName) (own : t ≡ record { session = 1; ordinal = ordinal }) (base : List Keyed) (top : ℕ) (table : TableDef) (limits : Limits) (statement : Statement) (granule : List ℕ) (range : KeyRange)
    (set : IsSet statement) (room : RoomFor limits table statement) where
  abbrev CameTo : State → Stage → List LogEntry → Option Abort → Type 0
  CameTo p stage es end = Came table statement (start_at range stage) range.high (records p.cells) es (records (served_by p es).cells) end

  abbrev ask_here : Stage → Request
  ask_here stage = record { ordinal = ordinal; ask = ask_at statement granule range stage }

  -- one entry that handled an interval
  handled : (p q : State) (stage : Stage) (sync losses : ℕ) (x : PartitionReply) (end : List ℕ) (seen : List Keyed) (rows : List (List ℕ)) (changed : ℕ) (i : Option Interval) → i ≡ Some (record { start = start_at range stage; end = end })
      → IsExact table statement (start_at range stage) end (records p.cells) (records q.cells) seen rows changed → reply_rows x ≡ rows → reply_changed x ≡ changed
      → HandlesOrNot table statement (Asked part sync (ask_here stage) losses (Reply x)) (records p.cells) (records q.cells) x i
  handled p q stage sync losses x end seen rows changed i is exact rows_are count =
      let j : Interval = record { start = start_at range stage; end = end } in
      let m = exact.matches x rows_are count in
      subst (HandlesOrNot table statement (Asked part sync (ask_here stage) losses (Reply x)) (records p.cells) (records q.cells) x) (sym is)
      (exact.free, matches-shows table statement j (records p.cells) (records q.cells) x m, matches-edit table statement j (records p.cells) (records q.cells) x m)

  module _ (p : State) (here : Here table limits p) (lively : Lively t base top p) (stage : Stage) (awaits : Awaits p.blocks t statement range.high stage) (rows : List (List LogEntry)) (end : Option Abort)
      (sync losses : ℕ) (next : State) (next_is : (step p 1 sync (ask_here stage)).state ≡ next)
      (rest : (subset : ℕ) (last : List ℕ) → AreExchanges r ordinal part (Continue subset last) rows end → Awaits next.blocks t statement range.high (Onward subset last) → CameTo next (Onward subset last) (joined rows) end) where
    abbrev entry : PartitionReply → LogEntry
    entry x = Asked part sync (ask_here stage) losses (Reply x)

    abbrev Behind : PartitionReply → Type 0
    Behind x = Came table statement (start_at range stage) range.high (records p.cells) (entry x ∷ joined rows) (records (served_by next (joined rows)).cells) end

    is_interval : (x : PartitionReply) → interval_of range.high (entry x) ≡ interval_from (Some (start_at range stage)) (end_of range.high x)
    is_interval x = interval_is range.high part sync losses (ask_here stage) x (start_at range stage) (start_is statement granule range stage set)

    by_reply : (x : PartitionReply) → fits_subset x ≡ true → ((lock : Lock) → x ≡ reply.Locked lock → ⊥) → (step p 1 sync (ask_here stage)).reply ≡ Some x
        → SubsetTells table statement t stage (start_at range stage) range.high p.cells x next.cells next.blocks
        → AfterRow (Reply x) (λ subset last. AreExchanges r ordinal part (Continue subset last) rows end) rows end → Behind x
    by_reply (reply.Ended out changed) fit unlocked told tells (none, whole) =
        let is = is_interval (reply.Ended out changed) in
        let one : Sweeps table statement (start_at range stage) range.high (records p.cells) (entry (reply.Ended out changed) ∷ []) (records next.cells) =
        record {
          cover = subst (λ o. Cover (start_at range stage) range.high (cons_option o [])) (sym is) (refl, refl);
          goes = (records next.cells, handled p next stage sync losses (reply.Ended out changed) range.high (records_for t p.cells) out changed (interval_of range.high (entry (reply.Ended out changed))) is tells refl refl, refl);
        } in
        subst (λ e. Came table statement (start_at range stage) range.high (records p.cells) (entry (reply.Ended out changed) ∷ joined rows) (records (served_by next (joined rows)).cells) e) (sym whole)
        (subst (λ rs. Sweeps table statement (start_at range stage) range.high (records p.cells) (entry (reply.Ended out changed) ∷ joined rs) (records (served_by next (joined rs)).cells)) (sym none) one)
    by_reply (reply.Redrive subset last cause out changed) fit unlocked told (from, til, exact, block) after = by_end end (rest subset last after block)
      where
        x : PartitionReply
        x = reply.Redrive subset last cause out changed

        is : interval_of range.high (entry (reply.Redrive subset last cause out changed)) ≡ Some (record { start = start_at range stage; end = last })
        is = is_interval (reply.Redrive subset last cause out changed)

        more : Sweeps table statement (After last) range.high (records next.cells) (joined rows) (records (served_by next (joined rows)).cells)
            → Sweeps table statement (start_at range stage) range.high (records p.cells) (entry (reply.Redrive subset last cause out changed) ∷ joined rows) (records (served_by next (joined rows)).cells)
        more s = record {
          cover = subst (λ o. Cover (start_at range stage) range.high (cons_option o (filter_map (interval_of range.high) (joined rows)))) (sym is)
              (cover-more (start_at range stage) last range.high (filter_map (interval_of range.high) (joined rows)) from til s.cover);
          goes = (
            records next.cells,
            handled p next stage sync losses (reply.Redrive subset last cause out changed) last (records_for t p.cells) out changed (interval_of range.high (entry (reply.Redrive subset last cause out changed))) is exact refl refl,
            s.goes,
          );
        }

        by_end : (e : Option Abort) → Came table statement (After last) range.high (records next.cells) (joined rows) (records (served_by next (joined rows)).cells) e
            → Came table statement (start_at range stage) range.high (records p.cells) (entry (reply.Redrive subset last cause out changed) ∷ joined rows) (records (served_by next (joined rows)).cells) e
        by_end None s = more s
        by_end (Some (Faulted key fault)) f =
            fails_behind table statement (start_at range stage) last range.high (records p.cells) (records next.cells) key fault (ascends p lively.keeps) from til exact.free
            (matches-edit table statement (record { start = start_at range stage; end = last }) (records p.cells) (records next.cells) (reply.Redrive subset last cause out changed) (exact.matches (reply.Redrive subset last cause out changed) refl refl)) f
        by_end (Some LockedOut) f = absurd f
        by_end (Some PathLost) f = absurd f
        by_end (Some (Duplicate key)) f = absurd f
    by_reply (reply.Locked lock) fit unlocked told tells after = absurd (unlocked lock refl)
    by_reply (reply.Failed key fault) fit unlocked told tells (none, some, is) =
        let room_here = subst (λ (l : Limits). RoomFor l p.table statement) (sym here.limits_is) (subst (λ (d : TableDef). RoomFor limits d statement) (sym here.table_is) room) in
        let f = failed-step p sync ordinal statement granule range stage key fault set here.sound room_here (subst (λ u. Awaits p.blocks u statement range.high stage) own awaits) told in
        subst (λ e. Came table statement (start_at range stage) range.high (records p.cells) (entry (reply.Failed key fault) ∷ joined rows) (records (served_by next (joined rows)).cells) e) (sym is)
        (subst (λ d. Fails d statement (start_at range stage) range.high (records p.cells) key fault) here.table_is f)
    by_reply x fit unlocked told tells after = absurd (false≢true fit)

  -- what one row's reply tells
  tells_of : (p : State) → Here table limits p → (stage : Stage) → Awaits p.blocks t statement range.high stage → (sync : ℕ) (x : PartitionReply) → fits_subset x ≡ true
      → (step p 1 sync (ask_here stage)).reply ≡ Some x
      → SubsetTells table statement t stage (start_at range stage) range.high p.cells x (step p 1 sync (ask_here stage)).state.cells
      (step p 1 sync (ask_here stage)).state.blocks
  tells_of p here stage awaits sync x fit told =
      let room_here = subst (λ (l : Limits). RoomFor l p.table statement) (sym here.limits_is) (subst (λ (d : TableDef). RoomFor limits d statement) (sym here.table_is) room) in
      let q = (step p 1 sync (ask_here stage)).state in
      let tells = subset-step p 1 sync ordinal statement granule range stage x set here.sound room_here (subst (λ u. Awaits p.blocks u statement range.high stage) own awaits) (was x fit) told in
      subst (λ u. SubsetTells table statement u stage (start_at range stage) range.high p.cells x q.cells q.blocks) (sym own)
      (subst (λ d. SubsetTells d statement (record { session = 1; ordinal = ordinal }) stage (start_at range stage) range.high p.cells x q.cells q.blocks) here.table_is tells)
    where
      was : (x : PartitionReply) → fits_subset x ≡ true → was_handled x ≡ true
      was (reply.Ended out changed) fit = refl
      was (reply.Redrive subset last cause out changed) fit = refl
      was (reply.Locked lock) fit = refl
      was (reply.Failed key fault) fit = refl
      was x fit = absurd (false≢true fit)

  -- the list of a subset
  pub list_came : (rows : List (List LogEntry)) (p : State) (stage : Stage) (end : Option Abort) → AreExchanges r ordinal part (ask_at statement granule range stage) rows end → Replies p (joined rows) → Here table limits p → Lively t base top p
      → Awaits p.blocks t statement range.high stage → CameTo p stage (joined rows) end
  list_came [] p stage end rows_are replies here lively awaits = absurd rows_are
  list_came (row ∷ rows) p stage end (answer, is_row, after) replies here lively awaits =
      subst (λ list. CameTo p stage (list ++ joined rows) end) (sym o.row_is)
      (by_reply p here lively stage awaits rows end o.sync o.losses q refl
      (λ subset last next blocks. list_came rows q (Onward subset last) end next behind (here-step table limits p 1 o.sync (ask_here stage) (omega arith, omega arith) here)
      (lively-step t base top p o.sync (ask_here stage) own (open_ask statement granule range stage set) lively) blocks)
      o.r fit o.unlocked o.told (tells_of p here stage awaits o.sync o.r fit o.told)
      (subst (λ a. AfterRow a (λ subset last. AreExchanges r ordinal part (Continue subset last) rows end) rows end) o.answer_is after))
    where
      o : OneRow p part (ask_here stage) row answer
      o = one_row t base top p part ordinal (ask_at statement granule range stage) own lively r.limits.patience row answer (joined rows) is_row replies

      q : State
      q = (step p 1 o.sync (ask_here stage)).state

      fit : fits_subset o.r ≡ true
      fit = sym (fits_ask statement granule range stage o.r set) ∙ o.fit

      behind : Replies q (joined rows)
      behind = (subst (λ list. Replies p (list ++ joined rows)) o.row_is replies).1
