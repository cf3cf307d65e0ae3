-- An INSERT of the one session comes to what it comes to in one thread.
use Rattle.std.proofs.Common.{◌≡◌, ◌<◌, ◌≤◌, ◌+◌, ℕ, List, [], ◌∷◌, length, filter, take, true, Option, Some, None, Ok, Err, inl, inr, refl, ap, sym, ◌∙◌, subst, arith}
use Rattle.std.specs.Prelude.{◌⊎◌, slice_get}
use Rattle.std.specs.List.{list_any}
use Rattle.std.proofs.lemmas.List.{append-nil}
use Rattle.sql_base.specs.Keys.{key_eq}
use Rattle.sql_base.specs.OnRows.{first_failing}
use Rattle.sql_base.specs.Rows.{key_of, packed}
use Rattle.sql_base.specs.Scripts.{IsScript, parts_of}
use Rattle.sql_base.specs.Tables.{SuitsTable}
use Rattle.sql_base.specs.declared.faults.Fault.{Fault}
use Rattle.sql_base.specs.declared.lock_names.TxnName.{TxnName}
use Rattle.sql_base.specs.declared.outcomes.Abort.{Abort}
use Rattle.sql_base.specs.declared.outcomes.Abort.TheVariants.{LockedOut, PathLost, Faulted, Duplicate}
use Rattle.sql_base.specs.declared.outcomes.Given.TheVariants.{Silent}
use Rattle.sql_base.specs.declared.scripts.Script.{Script}
use Rattle.sql_base.specs.declared.statements.Statement.TheVariants.{Insert}
use Rattle.sql_base.specs.declared.tables.TableDef.{TableDef}
use Rattle.sql_base.specs.declared.values.Value.{Value}
use Rattle.dp_messages.specs.declared.requests.Ask.TheVariants as ask
use Rattle.key_sequenced.specs.Cells.{Keyed, records}
use Rattle.one_thread.specs.One.{one, one_on}
use Rattle.partition_map.specs.Map.{part_of}
use Rattle.partition_state.specs.State.{State}
use Rattle.serial_laws.proofs.InLine.{AllFor, none_for as none_of}
use Rattle.serial_laws.proofs.Rooms.{packed-back}
use Rattle.serial_passes.proofs.Givings.{part_within}
use Rattle.serial_passes.proofs.Placings.{IsAbsent, Placed, one_placed}
use Rattle.serial_passes.proofs.Tables.{AllFrom, moved-from, moved-map, rows_of, step_of}
use Rattle.session_grammar.specs.Follows.{InTurn, IsPart, IsSingle, asker, joined, InLineBy, WideBy}
use Rattle.session_grammar.specs.Plans.{all_columns, plan_on}
use Rattle.session_grammar.specs.Rows.{is_for}
use Rattle.session_grammar.specs.declared.logs.LogEntry.{LogEntry}
use Rattle.session_grammar.specs.declared.plans.Sent.{Sent}
use Rattle.alone_laws.specs.Scaffold.Served.{Replies, served_by}
use Rattle.alone_laws.specs.Scaffold.States.{AllLively, AllReply, AreOpen, ComesTo, IsFault, IsOpen, behind, views, world_of}
use Rattle.alone_laws.proofs.SingleRequests.{InsertCame, insert_came}
use Rattle.alone_laws.proofs.FailingLists.{singles_own}
use Rattle.alone_laws.proofs.TableFaults.{InsertFails, insert_fails}
use Rattle.alone_laws.proofs.ScanSteps.{open_here, open_of, part_below, state_at, step_fails, views_itself, views_length, views_related}
use Rattle.alone_laws.proofs.ScanPlans.{plan_is}
use Rattle.sql_base.proofs.ListFacts.{filter-whole}

-- one thing in turn
one_in_turn : {A : Type 0} (R : A → List LogEntry → Option Abort → Type 0) (x : A) (lists : List (List LogEntry)) (end : Option Abort) → InTurn R (x ∷ []) lists end → R x (joined lists) end
one_in_turn R x [] end h = absurd h
one_in_turn R x (list ∷ []) end (inl h) = subst (λ l. R x l end) (sym (append-nil list)) (subst (R x list) (sym h.1) h.0)
one_in_turn R x (list ∷ []) end (inr h) = subst (λ l. R x l end) (sym (append-nil list)) h.0
one_in_turn R x (list ∷ other ∷ lists) end (inl h) = absurd h.1
one_in_turn R x (list ∷ other ∷ lists) end (inr h) = absurd (cc (h.2))

-- an INSERT
module _ (script : Script) (is : IsScript script) (n : ℕ) (row : List Value) (table : TableDef) (at : slice_get script.tables n ≡ Some table) (suits : SuitsTable table (Insert n row))
    (qs : List State) (open_qs : AreOpen script qs) (ordinal : ℕ) (t : TxnName) (own : t ≡ record { session = 1; ordinal = ordinal }) (bases : ℕ → List Keyed) (top : ℕ) (lively : AllLively t bases top qs) (es : List LogEntry) (replies : AllReply qs es) where
  abbrev key : List ℕ
  key = key_of table row

  abbrev first : ℕ
  first = parts_of (take n script.tables)

  abbrev m : ℕ
  m = parts_of (take n script.tables) + part_of table (key_of table row)

  abbrev sent : Sent
  sent = record { part = parts_of (take n script.tables) + part_of table (key_of table row); ask = ask.Insert (packed (all_columns row) row) }

  module _ (end : Option Abort) (single : IsSingle (asker script 1) ordinal sent es end) where
    all_for : AllFor m es
    all_for = singles_own (asker script 1) ordinal sent es end single

    own_es : (k : ℕ) → k ≡ m → filter (is_for k) es ≡ es
    own_es k same = ap (λ x. filter (is_for x) es) same ∙ filter-whole (is_for m) es all_for

    no_es : (k : ℕ) → (m ≡ k → ⊥) → filter (is_for k) es ≡ []
    no_es k other = none_of m k es other all_for

    is_open : (j k : ℕ) (q : State) → k ≡ first + j → j < length table.firsts + 1 → slice_get qs k ≡ Some q → IsOpen script table j q
    is_open j k q same less there = open_qs.here n j table q at less (subst (λ x. slice_get qs x ≡ Some q) same there)

    came_at : (k : ℕ) (q : State) → slice_get qs k ≡ Some q → k ≡ m → InsertCame table row (records q.cells) (records (served_by q es).cells) end
    came_at k q there same =
        let told : Replies q es = subst (Replies q) (own_es k same) (replies k q there) in
        insert_came (asker script 1) ordinal m t own (bases k) top table script.limits q
        (open_here script table (part_of table key) q (is_open (part_of table key) k q same (part_within table key) there)) (lively k q there) es end told row (packed (all_columns row) row) (packed-back table row suits) single

    there_m : (q : State) × (slice_get qs m ≡ Some q)
    there_m =
        let below = part_below script.tables n (part_of table key) table at (part_within table key) in
        let enough = open_qs.enough in
        state_at qs m (omega arith)

    came_m : InsertCame table row (records there_m.0.cells) (records (served_by there_m.0 es).cells) end
    came_m = came_at m there_m.0 there_m.1 refl

  -- done
  module _ (single : IsSingle (asker script 1) ordinal sent es None) where
    abbrev Related : ℕ → List Keyed → List Keyed → Type 0
    Related k v w = ((j : ℕ) → k ≡ first + j → j < length table.firsts + 1 → Placed table key row j v w)
        × ((k < first) ⊎ (first + (length table.firsts + 1) ≤ k) → v ≡ w)

    placed_at : (k j : ℕ) (q : State) → slice_get qs k ≡ Some q → k ≡ first + j → j < length table.firsts + 1 → Placed table key row j (records q.cells) (records (served_by q (filter (is_for k) es)).cells)
    placed_at k j q there same less = record {
      are = open_of script table j q (is_open None single j k q same less there);
      here = λ is_j. let is_m : k ≡ m = omega arith in
          let c = came_at None single k q there is_m in
          (ap (λ list. records (served_by q list).cells) (own_es None single k is_m) ∙ c.0, c.1);
      elsewhere = λ other. ap (λ list. records (served_by q list).cells) (sym (no_es None single k (λ is_m. other (omega arith))));
    }

    related : (k : ℕ) (q : State) → slice_get qs k ≡ Some q → Related (0 + k) (records q.cells) (records (served_by q (filter (is_for (0 + k)) es)).cells)
    related k q there = (
      λ j same less. let zero_k : k ≡ 0 + k = omega arith in
          subst (λ x. Placed table key row j (records q.cells) (records (served_by q (filter (is_for x) es)).cells)) zero_k (placed_at k j q there (omega arith) less),
      λ where_is. ap (λ list. records (served_by q list).cells) (sym (no_es None single (0 + k) (λ is_m. apart where_is is_m))),
    )
      where
        apart : (0 + k < first) ⊎ (first + (length table.firsts + 1) ≤ 0 + k) → m ≡ 0 + k → ⊥
        apart (inl h) same = omega arith
        apart (inr h) same = let within = part_within table key in omega arith

    shifted : (k : ℕ) → (k < 0 + first) ⊎ (0 + first + (length table.firsts + 1) ≤ k) → (k < first) ⊎ (first + (length table.firsts + 1) ≤ k)
    shifted k (inl h) = inl (omega arith)
    shifted k (inr h) = inr (omega arith)

    inserted : one (world_of script.tables qs) (Insert n row) ≡ (Ok Silent, world_of script.tables (behind 0 qs es))
    inserted =
        step_of script.tables (views qs) (views (behind 0 qs es)) (Insert n row) table Silent at
        (moved-map
        {B = λ bx by. AllFrom (Placed table key row) 0 bx by × (length bx ≡ length table.firsts + 1)}
        {C = λ bx by. one_on table (Insert n row) (rows_of bx) ≡ record { given = Ok Silent; records = rows_of by }}
        script.tables n (views qs) (views (behind 0 qs es))
        (λ bx by h. one_placed table n row bx by (subst (λ x. part_of table key < x) (sym h.1) (part_within table key)) h.0 (came_m None single).2)
        (moved-from {R = Related} {P = Placed table key row} script.tables n 0 table (views qs) (views (behind 0 qs es)) at
        (let long = views_length qs in let enough = open_qs.enough in omega arith)
        (views_related Related es qs 0 related)
        (λ j v w less r. r.0 j (omega arith) less)
        (λ k v w where_is r. r.1 (shifted k where_is))))

  -- refused
  module _ (abort : Abort) (single : IsSingle (asker script 1) ordinal sent es (Some abort)) where
    told_of : (v w : List Keyed) → InsertCame table row v w (Some abort)
        → ((abort ≡ Duplicate key) × (list_any (λ k. key_eq k.key key) v ≡ true))
        ⊎ ((fault : Fault) × (abort ≡ Faulted key fault) × IsAbsent key v × (first_failing table.checks row ≡ Some fault))
    told_of v w came = by_abort abort came
      where
        by_abort : (a : Abort) → InsertCame table row v w (Some a)
            → ((a ≡ Duplicate key) × (list_any (λ k. key_eq k.key key) v ≡ true))
            ⊎ ((fault : Fault) × (a ≡ Faulted key fault) × IsAbsent key v × (first_failing table.checks row ≡ Some fault))
        by_abort LockedOut came = absurd came
        by_abort PathLost came = absurd came
        by_abort (Duplicate k) came = inl (ap Duplicate came.0, came.1)
        by_abort (Faulted k fault) came = inr (fault, ap (λ x. Faulted x fault) came.0, came.1, came.2)

    abbrev RefusedAt : ℕ → List Keyed → List Keyed → Type 0
    RefusedAt k v w = (v ≡ w) × ((j : ℕ) → k ≡ first + j → j < length table.firsts + 1 → InsertFails table row abort j v w)

    refused_at : (k : ℕ) (q : State) → slice_get qs k ≡ Some q → RefusedAt (0 + k) (records q.cells) (records q.cells)
    refused_at k q there = (
      refl,
      λ j same less. let is_k : k ≡ first + j = omega arith in
          record {
            are = open_of script table j q (is_open (Some abort) single j k q is_k less there);
            here = λ is_j. told_of (records q.cells) (records (served_by q es).cells) (came_at (Some abort) single k q there (omega arith));
          },
    )

    refused : IsFault abort × ((one (world_of script.tables qs) (Insert n row)).0 ≡ Err abort)
    refused = (
      is_fault abort (came_m (Some abort) single),
      step_fails script.tables (views qs) (Insert n row) table abort (InsertFails table row abort) at
          (moved-from {R = RefusedAt} {P = InsertFails table row abort} script.tables n 0 table (views qs) (views qs) at
          (let long = views_length qs in let enough = open_qs.enough in omega arith)
          (views_itself RefusedAt qs 0 refused_at)
          (λ j v w less r. r.1 j (omega arith) less)
          (λ k v w where_is r. r.0))
          (λ bx by all long. insert_fails table n row abort bx by (subst (λ x. part_of table key < x) (sym long) (part_within table key)) all),
    )
      where
        is_fault : (a : Abort) → InsertCame table row (records (there_m (Some abort) single).0.cells) (records (served_by (there_m (Some abort) single).0 es).cells) (Some a) → IsFault a
        is_fault LockedOut came = absurd came
        is_fault PathLost came = absurd came
        is_fault (Duplicate k) came = tt
        is_fault (Faulted k fault) came = tt

  pub insert_comes : (end : Option Abort) → IsPart (asker script 1) ordinal (Insert n row) es end → ComesTo script qs (Insert n row) es end
  insert_comes end part =
      by_part end (subst (λ p. InLineBy (asker script 1) ordinal p es end ⊎ WideBy (asker script 1) ordinal p es end)
      (plan_is script (Insert n row) table at) part)
    where
      by_end : (end : Option Abort) → IsSingle (asker script 1) ordinal sent es end → ComesTo script qs (Insert n row) es end
      by_end None single = inserted single
      by_end (Some abort) single = refused abort single

      by_part : (end : Option Abort) → InLineBy (asker script 1) ordinal (plan_on (asker script 1) table (Insert n row)) es end ⊎ WideBy (asker script 1) ordinal (plan_on (asker script 1) table (Insert n row)) es end
          → ComesTo script qs (Insert n row) es end
      by_part end (inl (lists, es_is, turns)) =
          by_end end (subst (λ l. IsSingle (asker script 1) ordinal sent l end) (sym es_is)
          (one_in_turn (IsSingle (asker script 1) ordinal) sent lists end turns))
      by_part end (inr wide) = absurd wide
