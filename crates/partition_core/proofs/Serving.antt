-- What a partition keeps between two requests, through one new request.
use Rattle.std.proofs.Common.{◌≡◌, ◌<◌, ◌-◌, ℕ, List, [], ◌∷◌, ◌++◌, length, map, Option, Some, None, refl, ap, sym, ◌∙◌, subst, arith}
use Rattle.std.specs.Prelude.{slice_get, slice_set, unwrap_or, max, filter, not}
use Rattle.std.specs.List.{AllByRecursion}
use Rattle.sql_base.specs.Locks.{released, same_txn}
use Rattle.sql_base.specs.Scripts.{Lies}
use Rattle.sql_base.specs.declared.lock_names.TxnName.{TxnName}
use Rattle.sql_base.specs.declared.tables.TableDef.{TableDef}
use Rattle.key_sequenced.specs.Cells.{restored, cells_settled}
use Rattle.key_sequenced.specs.declared.Cell.{Cell}
use Rattle.subset_blocks.specs.Blocks.{advanced, closed_of}
use Rattle.subset_blocks.specs.declared.Numbered.{Numbered}
use Rattle.subset_blocks.proofs.BlockLists.{gone_on-work}
use Rattle.sync_messages.specs.Openers.{kept_as, new_seat, seat_of}
use Rattle.sync_messages.specs.declared.Seat.{Seat}
use Rattle.quantum_core.specs.declared.works.SetWork.{SetWork}
use Rattle.quantum_runner.specs.Scaffold.Works.{IsWork}
use Rattle.dp_messages.specs.declared.requests.Request.{Request}
use Rattle.partition_state.specs.State.{State, Opener, opener_of}
use Rattle.partition_state.specs.Step.{Answered, Stepped, step, answered, noted}
use Rattle.partition_state.specs.declared.entries.Entry.{Entry}
use Rattle.partition_state.proofs.Replays.{step-new}
use Rattle.partition_laws.specs.Keeping.{Keeps, RowsKeep}
use Rattle.partition_laws.proofs.RowLaws.{RowsKeep-step}
use Rattle.partition_laws.proofs.Steps.{Keeps-step}
use Rattle.value_laws.proofs.Unpacked.{unpacked_are_rows}
use Rattle.partition_core.specs.Kept.{Kept, IsReplayed, served, entry_of}
use Rattle.partition_core.specs.Scaffold.Contents.{Parts, IsFormed, IsRowAt, IsSeat, IsServing, entry_at, kept_of, mark_of, opener_by, state_of}
use Rattle.partition_core.specs.Scaffold.Changes.{after, tells, changed, noted_parts, IsFitting}
use Rattle.partition_core.specs.declared.changes.Change.{Change}
use Rattle.partition_core.specs.declared.changes.Change.TheVariants.{Stays, Begins, Advances, Closes, Inserts, Prepares, Commits, Undoes}
use Rattle.partition_core.specs.declared.changes.Judgement.{Judgement}
use Rattle.partition_core.proofs.Asked.{doing-asked}
use Rattle.partition_core.proofs.Replays.{IsReplayed-served}
use Rattle.partition_core.proofs.Seats.{openers-ended, openers-noted, opener-seen, seat-is, seats-noted}
use Rattle.sql_base.proofs.ListFacts.{all-filter, all-push, map_set, length-set}

-- the state at an end, by its cells and openers
abbrev ended_with : Parts → TxnName → List Cell → ℕ → List Opener → State
ended_with q t cells high openers =
    record { table = q.table; place = q.place; limits = q.limits; cells = cells; locks = released t q.locks; blocks = closed_of t q.blocks; openers = openers; lives = filter (λ l. not (same_txn l.name t)) q.lives; high = high }

-- the changed parts mean the changed state
pub state-changed : (q : Parts) (t : TxnName) (change : Change) → length q.seats ≡ length q.ended → state_of (changed q t change) ≡ after (state_of q) t change
state-changed q t Stays same = refl
state-changed q t (Begins plans granule opened) same = refl
state-changed q t (Advances plans subset last) same = refl
state-changed q t (Closes plans subset) same = refl
state-changed q t (Inserts key row lock) same = refl
state-changed q t Prepares same = refl
state-changed q t (Commits stamp) same = ap (ended_with q t (cells_settled t q.cells) (max q.high stamp)) (openers-ended q.history q.seats q.ended (t.session - 1) t.ordinal same)
state-changed q t Undoes same = ap (ended_with q t (restored t q.cells) q.high) (openers-ended q.history q.seats q.ended (t.session - 1) t.ordinal same)

state-noted : (q : Parts) (e : Entry) → AllByRecursion (IsSeat q.history) q.seats → length q.seats ≡ 8 → length q.ended ≡ 8 → Lies 1 8 e.opener → state_of (noted_parts q e) ≡ noted (state_of q) e.opener e.sync e.reply
state-noted q e seats eight ended lies =
    ap (λ os. record (state_of q) { openers = os }) (openers-noted q.history e q.seats q.ended (e.opener - 1) seats (eight ∙ sym ended) (omega arith))

-- what no change touches
record Fixed (q r : Parts) : Type 0 where
  pub table : r.table ≡ q.table
  pub place : r.place ≡ q.place
  pub limits : r.limits ≡ q.limits
  pub rows : r.rows ≡ q.rows
  pub history : r.history ≡ q.history
  pub seats : r.seats ≡ q.seats
  pub ended : length r.ended ≡ length q.ended

fixed : (q : Parts) (t : TxnName) (change : Change) → Fixed q (changed q t change)
fixed q t Stays = record { table = refl; place = refl; limits = refl; rows = refl; history = refl; seats = refl; ended = refl }
fixed q t (Begins plans granule opened) = record { table = refl; place = refl; limits = refl; rows = refl; history = refl; seats = refl; ended = refl }
fixed q t (Advances plans subset last) = record { table = refl; place = refl; limits = refl; rows = refl; history = refl; seats = refl; ended = refl }
fixed q t (Closes plans subset) = record { table = refl; place = refl; limits = refl; rows = refl; history = refl; seats = refl; ended = refl }
fixed q t (Inserts key row lock) = record { table = refl; place = refl; limits = refl; rows = refl; history = refl; seats = refl; ended = refl }
fixed q t Prepares = record { table = refl; place = refl; limits = refl; rows = refl; history = refl; seats = refl; ended = refl }
fixed q t (Commits stamp) = record { table = refl; place = refl; limits = refl; rows = refl; history = refl; seats = refl; ended = length-set q.ended (t.session - 1) t.ordinal }
fixed q t Undoes = record { table = refl; place = refl; limits = refl; rows = refl; history = refl; seats = refl; ended = length-set q.ended (t.session - 1) t.ordinal }

formed-changed : (q : Parts) (t : TxnName) (change : Change) → IsFormed q → IsFormed (changed q t change)
formed-changed q t Stays h = h
formed-changed q t (Begins plans granule opened) h = record { table = h.table; limits = h.limits; width = h.width; kinds = h.kinds; firsts = h.firsts }
formed-changed q t (Advances plans subset last) h = record { table = h.table; limits = h.limits; width = h.width; kinds = h.kinds; firsts = h.firsts }
formed-changed q t (Closes plans subset) h = record { table = h.table; limits = h.limits; width = h.width; kinds = h.kinds; firsts = h.firsts }
formed-changed q t (Inserts key row lock) h = record { table = h.table; limits = h.limits; width = h.width; kinds = h.kinds; firsts = h.firsts }
formed-changed q t Prepares h = record { table = h.table; limits = h.limits; width = h.width; kinds = h.kinds; firsts = h.firsts }
formed-changed q t (Commits stamp) h = record { table = h.table; limits = h.limits; width = h.width; kinds = h.kinds; firsts = h.firsts }
formed-changed q t Undoes h = record { table = h.table; limits = h.limits; width = h.width; kinds = h.kinds; firsts = h.firsts }

formed-noted : (q : Parts) (e : Entry) → IsFormed q → IsFormed (noted_parts q e)
formed-noted q e h = record { table = h.table; limits = h.limits; width = h.width; kinds = h.kinds; firsts = h.firsts }

-- the works of the blocks
abbrev Works : TableDef → List (Numbered SetWork) → Type 0
Works table blocks = AllByRecursion (λ b. IsWork table b.block.work) blocks

works-advanced : (table : TableDef) (n : ℕ) (last : List ℕ) (blocks : List (Numbered SetWork)) → Works table blocks → Works table (advanced n last blocks)
works-advanced table n last [] h = tt
works-advanced table n last (b ∷ blocks) h = (subst (IsWork table) (sym (gone_on-work n last b)) h.0, works-advanced table n last blocks h.1)

works-changed : (q : Parts) (t : TxnName) (change : Change) → IsFitting q change → Works q.table q.blocks → Works q.table (changed q t change).blocks
works-changed q t Stays fits h = h
works-changed q t (Begins plans granule None) fits h = h
works-changed q t (Begins plans granule (Some b)) fits h = all-push (λ b. IsWork q.table b.block.work) q.blocks b h fits.opened
works-changed q t (Advances plans subset last) fits h = works-advanced q.table subset last q.blocks h
works-changed q t (Closes plans subset) fits h = all-filter (λ b. IsWork q.table b.block.work) _ q.blocks h
works-changed q t (Inserts key row lock) fits h = h
works-changed q t Prepares fits h = h
works-changed q t (Commits stamp) fits h = all-filter (λ b. IsWork q.table b.block.work) _ q.blocks h
works-changed q t Undoes fits h = all-filter (λ b. IsWork q.table b.block.work) _ q.blocks h

abbrev pub txn : ℕ → Request → TxnName
txn opener request = record { session = opener; ordinal = request.ordinal }

-- the entry of a judged request
abbrev entry_by : ℕ → ℕ → Request → Judgement → Entry
entry_by opener sync request j = record { opener = opener; sync = sync; request = request; reply = j.reply }

-- the parts after a judged request
abbrev pub parts_after : Parts → ℕ → ℕ → Request → Judgement → Parts
parts_after q opener sync request j = noted_parts (changed q (txn opener request) j.change) (entry_by opener sync request j)

abbrev kept_by : State → State → List Entry → List (Option ℕ) → Kept
kept_by opening now history marks = record { opening = opening; now = now; history = history; marks = marks }

-- the sync of a new request is above the last that was served
pub served-below : (q : Parts) (opener sync : ℕ) → AllByRecursion (IsSeat q.history) q.seats → length q.seats ≡ length q.ended → (seat_of q.seats opener).last < sync → (opener_of (state_of q) opener).last < sync
served-below q opener sync seats same fresh =
    let seat : Seat ℕ = unwrap_or (slice_get q.seats (opener - 1)) new_seat in
    let n = unwrap_or (slice_get q.ended (opener - 1)) 0 in
    let is = seat-is q.history q.seats (opener - 1) seats in
    let last : (opener_of (state_of q) opener).last ≡ (opener_by 0 (entry_at q.history seat.kept)).last = ap (λ (o : Opener). o.last) (opener-seen q.history q.seats q.ended (opener - 1) same) ∙ by-any n (entry_at q.history seat.kept) in
    omega (arith, last, is.last, fresh)
  where
    by-any : (n : ℕ) (entry : Option Entry) → (opener_by n entry).last ≡ (opener_by 0 entry).last
    by-any n None = refl
    by-any n (Some e) = refl

-- they mean that the request was served
pub kept-after : (q : Parts) (opener sync : ℕ) (request : Request) (j : Judgement) → IsServing q → Lies 1 8 opener → (opener_of (state_of q) opener).last < sync → tells (state_of q) (txn opener request) j ≡ answered (state_of q) (txn opener request) request.ask
    → kept_of (parts_after q opener sync request j) ≡ served (kept_of q) opener sync request
kept-after q opener sync request j serving lies fresh told =
    let p = state_of q in
    let t = txn opener request in
    let q1 = changed q t j.change in
    let e = entry_by opener sync request j in
    let f = fixed q t j.change in
    let seats : AllByRecursion (IsSeat q1.history) q1.seats = subst (λ (h : List Entry). AllByRecursion (IsSeat h) q1.seats) (sym f.history) (subst (AllByRecursion (IsSeat q.history)) (sym f.seats) serving.seats) in
    let eight : length q1.seats ≡ 8 = ap length f.seats ∙ serving.eight in
    let ended : length q1.ended ≡ 8 = f.ended ∙ serving.eight_ended in
    let now : state_of (noted_parts q1 e) ≡ (step p opener sync request).state =
    state-noted q1 e seats eight ended lies
    ∙ ap (λ (s : State). noted s opener sync j.reply) (state-changed q t j.change (serving.eight ∙ sym serving.eight_ended))
    ∙ ap (λ (a : Answered). noted a.state opener sync a.reply) told
    ∙ sym (ap (λ (s : Stepped). s.state) (step-new p opener sync request fresh)) in
    let history : (noted_parts q1 e).history ≡ q.history ++ entry_of p opener sync request ∷ [] =
    ap (λ h. h ++ e ∷ []) f.history
    ∙ ap (λ (a : Answered). q.history ++ record { opener = opener; sync = sync; request = request; reply = a.reply } ∷ []) told in
    let marks : map mark_of (noted_parts q1 e).seats ≡ slice_set (map mark_of q.seats) (opener - 1) None =
    map_set mark_of q1.seats (opener - 1) (kept_as sync (length q1.history)) ∙ ap (λ ss. slice_set (map mark_of ss) (opener - 1) None) f.seats in
    let opening : (kept_of (noted_parts q1 e)).opening ≡ (kept_of q).opening = rw (f.table, f.place, f.limits, f.rows) refl in
    ap (λ o. kept_by o (state_of (noted_parts q1 e)) (noted_parts q1 e).history (map mark_of (noted_parts q1 e).seats)) opening
    ∙ ap (λ n. kept_by (kept_of q).opening n (noted_parts q1 e).history (map mark_of (noted_parts q1 e).seats)) now
    ∙ ap (λ h. kept_by (kept_of q).opening (step p opener sync request).state h (map mark_of (noted_parts q1 e).seats)) history
    ∙ ap (λ ms. kept_by (kept_of q).opening (step p opener sync request).state (q.history ++ entry_of p opener sync request ∷ []) ms) marks

-- and all holds that holds between two requests
pub IsServing-after : (q : Parts) (opener sync : ℕ) (request : Request) (j : Judgement) → IsServing q → Lies 1 8 opener → (opener_of (state_of q) opener).last < sync → tells (state_of q) (txn opener request) j ≡ answered (state_of q) (txn opener request) request.ask → IsFitting q j.change
    → IsServing (parts_after q opener sync request j)
IsServing-after q opener sync request j serving lies fresh told fits =
    let t = txn opener request in
    let p = state_of q in
    let q1 = changed q t j.change in
    let e = entry_by opener sync request j in
    let f = fixed q t j.change in
    let kept = kept-after q opener sync request j serving lies fresh told in
    let now : state_of (noted_parts q1 e) ≡ (step p opener sync request).state = ap (λ (k : Kept). k.now) kept in
    let rows : RowsKeep (IsRowAt q.table) (step p opener sync request).state =
    RowsKeep-step (IsRowAt q.table) p opener sync request (λ bytes row is here. unpacked_are_rows q.table bytes row is) (λ block asked. doing-asked p t request.ask block asked) serving.rows in
    let seats : AllByRecursion (IsSeat q1.history) q1.seats = subst (λ (h : List Entry). AllByRecursion (IsSeat h) q1.seats) (sym f.history) (subst (AllByRecursion (IsSeat q.history)) (sym f.seats) serving.seats) in
    record {
      replayed = subst IsReplayed (sym kept) (IsReplayed-served (kept_of q) opener sync request serving.replayed lies fresh);
      formed = formed-noted q1 e (formed-changed q t j.change serving.formed);
      keeps = subst Keeps (sym now) (Keeps-step p opener sync request lies serving.keeps);
      rows = subst (λ (table : TableDef). RowsKeep (IsRowAt table) (state_of (noted_parts q1 e))) (sym f.table) (subst (RowsKeep (IsRowAt q.table)) (sym now) rows);
      works = subst (λ (table : TableDef). Works table q1.blocks) (sym f.table) (works-changed q t j.change fits serving.works);
      seats = seats-noted q1.history e q1.seats (opener - 1) seats;
      eight = length-set q1.seats (opener - 1) (kept_as sync (length q1.history)) ∙ ap length f.seats ∙ serving.eight;
      eight_ended = f.ended ∙ serving.eight_ended;
    }
