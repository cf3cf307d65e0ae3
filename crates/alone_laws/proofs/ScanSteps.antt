-- A statement of the one session comes to what it comes to in one thread.
use Rattle.std.proofs.Common.{◌≡◌, ◌<◌, ◌≤◌, ◌+◌, ℕ, zero, suc, List, [], ◌∷◌, ◌++◌, length, filter, take, Bool, true, false, cond, Option, Some, None, Result, Ok, Err, inl, inr, refl, ap, sym, ◌∙◌, subst, arith}
use Rattle.std.specs.Prelude.{◌⊎◌, ◌==◌, IfSome, find, flat_map, option_map, slice_get, unwrap_or, ◌||◌}
use Rattle.std.specs.List.{AllByRecursion, cons_option, list_any, range_with_len}
use Rattle.std.proofs.lemmas.Bool.Decides.{nat_tests}
use Rattle.std.proofs.lemmas.List.{length-map}
use Rattle.std.proofs.lemmas.List.Elements.{All-contains, All-from_recursion}
use Rattle.std.proofs.lemmas.List.Sums.{sum_by-cons}
use Rattle.sql_base.specs.Rows.{IsRow, key_of}
use Rattle.sql_base.specs.Scripts.{IsScript, parts_of}
use Rattle.sql_base.specs.Tables.{table_of}
use Rattle.sql_base.specs.declared.faults.Fault.{Fault}
use Rattle.sql_base.specs.declared.key_ranges.KeyRange.{KeyRange}
use Rattle.sql_base.specs.declared.key_ranges.Start.TheVariants.{At}
use Rattle.sql_base.specs.declared.outcomes.Abort.{Abort}
use Rattle.sql_base.specs.declared.outcomes.Abort.TheVariants.{LockedOut, PathLost, Faulted, Duplicate}
use Rattle.sql_base.specs.declared.outcomes.Given.{Given}
use Rattle.sql_base.specs.declared.scripts.Script.{Script}
use Rattle.sql_base.specs.declared.statements.Statement.{Statement}
use Rattle.sql_base.specs.declared.tables.TableDef.{TableDef}
use Rattle.sql_base.specs.declared.values.Value.{Value}
use Rattle.key_sequenced.specs.Cells.{Keyed, records}
use Rattle.key_sequenced.specs.declared.Cell.{Cell}
use Rattle.one_thread.specs.One.{World, on_table, one, one_on}
use Rattle.partition_laws.specs.Keeping.{CellHas}
use Rattle.partition_map.specs.Map.{part_of}
use Rattle.partition_state.specs.State.{State}
use Rattle.run_record.specs.Base.{by_table}
use Rattle.run_record.specs.Serial.{part_gives}
use Rattle.run_record.specs.Tiles.{FaultFree, range_of}
use Rattle.serial_laws.specs.Scaffold.Sound.{FitsHere}
use Rattle.serial_laws.proofs.Chains.{Here}
use Rattle.serial_passes.specs.Scaffold.Did.{PieceLaw, first_of}
use Rattle.serial_passes.specs.Scaffold.Pieces.{AreOf, IsOf, in_range}
use Rattle.serial_passes.proofs.Blocks.{Ranged, given_by, ranged}
use Rattle.serial_passes.proofs.Edits.{spans, within}
use Rattle.serial_passes.proofs.Givings.{gives, none_for, elsewhere_none}
use Rattle.serial_passes.proofs.Splits.{find-contains}
use Rattle.serial_passes.proofs.Steps.{filter-alike, law_at, none_ranged, ranged_of}
use Rattle.serial_passes.proofs.Sweeping.{Sweeps as Scans, sweep}
use Rattle.serial_passes.proofs.Tables.{AllFrom, block_step, moved-from, moved-map, moved-tables, rows_of, step_of, Moved}
use Rattle.session_grammar.specs.Follows.{AreTheirs, asker, projection}
use Rattle.session_grammar.specs.Plans.{plan_of, sents_of}
use Rattle.session_grammar.specs.Rows.{is_for}
use Rattle.session_grammar.specs.declared.logs.LogEntry.{LogEntry}
use Rattle.session_grammar.specs.declared.plans.Sent.{Sent}
use Rattle.alone_laws.specs.Scaffold.Failing.{Fails}
use Rattle.alone_laws.specs.Scaffold.Served.{Replies, served_by}
use Rattle.alone_laws.specs.Scaffold.States.{AllReply, AreOpen, IsFault, IsOpen, behind, views, world_of}
use Rattle.alone_laws.proofs.FailingLists.{Breaks, find_at, find_front}
use Rattle.alone_laws.proofs.TableFaults.{PartFails, RangeFails, parts_fail}
use Rattle.alone_laws.proofs.SubsetLists.{Came, Sweeps, ascends}
use Rattle.serial_laws.proofs.InLine.{PartsRise}
use Rattle.sql_base.proofs.ListFacts.{all-weaker, found_passes}

-- two lists of views, related partition by partition
pub views_related : (R : ℕ → List Keyed → List Keyed → Type 0) (es : List LogEntry) (qs : List State) (i : ℕ)
    → ((k : ℕ) (q : State) → slice_get qs k ≡ Some q → R (i + k) (records q.cells) (records (served_by q (filter (is_for (i + k)) es)).cells)) → AllFrom R i (views qs) (views (behind i qs es))
views_related R es [] i each = tt
views_related R es (q ∷ qs) i each = (
  subst (λ n. R n (records q.cells) (records (served_by q (filter (is_for n) es)).cells)) (let same : i + 0 ≡ i = omega arith in same) (each 0 q refl),
  views_related R es qs (suc i)
      (λ k x at. subst (λ n. R n (records x.cells) (records (served_by x (filter (is_for n) es)).cells)) (let same : i + suc k ≡ suc i + k = omega arith in same) (each (suc k) x at)),
)

-- a list of views with itself
pub views_itself : (R : ℕ → List Keyed → List Keyed → Type 0) (qs : List State) (i : ℕ) → ((k : ℕ) (q : State) → slice_get qs k ≡ Some q → R (i + k) (records q.cells) (records q.cells)) → AllFrom R i (views qs) (views qs)
views_itself R [] i each = tt
views_itself R (q ∷ qs) i each = (
  subst (λ n. R n (records q.cells) (records q.cells)) (let same : i + 0 ≡ i = omega arith in same) (each 0 q refl),
  views_itself R qs (suc i) (λ k x at. subst (λ n. R n (records x.cells) (records x.cells)) (let same : i + suc k ≡ suc i + k = omega arith in same) (each (suc k) x at)),
)

pub views_length : (qs : List State) → length (views qs) ≡ length qs
views_length qs = length-map qs (λ q. records q.cells)

-- a number of a partition is below that of all
pub part_below : (tables : List TableDef) (t j : ℕ) (table : TableDef) → slice_get tables t ≡ Some table → j < length table.firsts + 1 → parts_of (take t tables) + j < parts_of tables
part_below [] t j table at less = absurd (cc)
part_below (first ∷ tables) zero j table at less =
    let same : first ≡ table = cc in
    let more = sum_by-cons (λ table. length table.firsts + 1) first tables in
    let here : j < length first.firsts + 1 = subst (λ (x : TableDef). j < length x.firsts + 1) (sym same) less in
    omega arith
part_below (first ∷ tables) (suc t) j table at less =
    let more = sum_by-cons (λ table. length table.firsts + 1) first tables in
    let front = sum_by-cons (λ table. length table.firsts + 1) first (take t tables) in
    let rest = part_below tables t j table at less in
    omega arith

pub state_at : (qs : List State) (k : ℕ) → k < length qs → (q : State) × (slice_get qs k ≡ Some q)
state_at [] k less = absurd (omega arith)
state_at (q ∷ qs) zero less = (q, refl)
state_at (q ∷ qs) (suc k) less = state_at qs k (omega arith)

-- the records of a partition are of its table
pub are_of : (table : TableDef) (j : ℕ) (cells : List Cell) → AllByRecursion (CellHas (FitsHere table j)) cells → AreOf table j (records cells)
are_of table j [] h = tt
are_of table j (cell ∷ cells) h = by_now cell.now h.0.0 (are_of table j cells h.1)
  where
    by_now : (o : Option (List Value)) → IfSome o (FitsHere table j cell.key) → AreOf table j (records cells) → AreOf table j (cons_option (option_map (λ row. record { key = cell.key; row = row }) o) (records cells))
    by_now None fits rest = rest
    by_now (Some row) fits rest = (fits, rest)

pub open_of : (script : Script) (table : TableDef) (j : ℕ) (q : State) → IsOpen script table j q → AreOf table j (records q.cells)
open_of script table j q o =
    are_of table j q.cells (subst (λ n. AllByRecursion (CellHas (FitsHere table n)) q.cells) o.place_is (subst (λ (d : TableDef). AllByRecursion (CellHas (FitsHere d q.place)) q.cells) o.table_is o.sound.rows.rows))

pub open_here : (script : Script) (table : TableDef) (j : ℕ) (q : State) → IsOpen script table j q → Here table script.limits q
open_here script table j q o = record { sound = o.sound; table_is = o.table_is; limits_is = o.limits_is }

-- a statement fails in one thread where it fails on the rows of its table
pub step_fails : (tables : List TableDef) (xs : List (List Keyed)) (statement : Statement) (table : TableDef) (abort : Abort) (P : ℕ → List Keyed → List Keyed → Type 0) → slice_get tables (table_of statement) ≡ Some table
    → Moved tables (table_of statement) xs xs (λ bx by. AllFrom P 0 bx by × (length bx ≡ length table.firsts + 1))
    → ((bx by : List (List Keyed)) → AllFrom P 0 bx by → length bx ≡ length table.firsts + 1 → (one_on table statement (rows_of bx)).given ≡ Err abort)
    → (one (record { tables = tables; records = by_table tables xs }) statement).0 ≡ Err abort
step_fails tables xs statement table abort P at m to =
    let h = moved-tables tables (table_of statement) xs xs (λ bx by. AllFrom P 0 bx by × (length bx ≡ length table.firsts + 1)) m in
    let w : World = record { tables = tables; records = by_table tables xs } in
    ap (λ o. (on_table w statement o).0) at ∙ ap (λ rows. (one_on table statement (unwrap_or rows [])).given) h.3 ∙ to h.0 h.1 h.2.0 h.2.1

-- what was asked of a partition in a sent, and what came of it
module _ (script : Script) (is : IsScript script) (statement : Statement) (table : TableDef) (at : slice_get script.tables (table_of statement) ≡ Some table) (qs : List State) (open_qs : AreOpen script qs) where
  abbrev first : ℕ
  first = first_of script statement

  abbrev parts_here : ℕ
  parts_here = length table.firsts + 1

  pub record SentCame (sent : Sent) (list : List LogEntry) (end : Option Abort) : Type 0 where
    pub number : ℕ
    pub within_table : number < length table.firsts + 1
    pub part_is : sent.part ≡ first_of script statement + number
    pub range : KeyRange
    pub range_is : range_of sent.ask ≡ Some range
    pub came : (q : State) → slice_get qs sent.part ≡ Some q → Replies q list → Came table statement (At range.low) range.high (records q.cells) list (records (served_by q list).cells) end

  abbrev sents : List Sent
  sents = sents_of (plan_of (asker script 1) statement)

  -- an own state of a partition of the table
  own_open : (j : ℕ) (q : State) → j < parts_here → slice_get qs (first + j) ≡ Some q → IsOpen script table j q
  own_open j q less there = open_qs.here (table_of statement) j table q at less there

  module _ (scans : Scans statement) (es : List LogEntry) (replies : AllReply qs es) where
    -- a span of whole keys is the range
    span_ranged : (j : ℕ) (q : State) (low high : List ℕ) → AreOf table j (records q.cells)
        → ((row : List Value) → IsRow table row → part_of table (key_of table row) ≡ j → spans (At low) high (key_of table row) ≡ in_range table statement (key_of table row))
        → within (At low) high (records q.cells) ≡ ranged table statement (records q.cells)
    span_ranged j q low high are law =
        filter-alike (spans (At low) high) (in_range table statement) (records q.cells)
        (all-weaker (IsOf table j) (λ k. spans (At low) high k.key ≡ in_range table statement k.key) (λ k h. law_at table j (λ key. spans (At low) high key ≡ in_range table statement key) law k h) (records q.cells) are)

    -- a partition whose list is whole
    whole_ranged : (j : ℕ) (q : State) (o : Option Sent) → j < parts_here → slice_get qs (first + j) ≡ Some q → PieceLaw table statement j o
        → ((sent : Sent) → o ≡ Some sent → (sent.part ≡ first + j) × SentCame sent (projection es sent) None)
        → (o ≡ None → filter (is_for (first + j)) es ≡ [])
        → Ranged table statement (records q.cells) (filter (is_for (first + j)) es) (records (served_by q (filter (is_for (first + j)) es)).cells)
    whole_ranged j q None less there law some none =
        let o = own_open j q less there in
        subst (λ list. Ranged table statement (records q.cells) list (records (served_by q list).cells)) (sym (none refl))
        (none_ranged table statement j (records q.cells) (records q.cells) scans (open_of script table j q o) law refl)
    whole_ranged j q (Some sent) less there law some none =
        let o = own_open j q less there in
        let s = some sent refl in
        let c = s.1 in
        let same = s.0 in
        let list = filter (is_for (first + j)) es in
        let list_is : projection es sent ≡ filter (is_for (first + j)) es = ap (λ n. filter (is_for n) es) same in
        let found : slice_get qs sent.part ≡ Some q = subst (λ n. slice_get qs n ≡ Some q) (sym same) there in
        let told : Replies q (projection es sent) = subst (Replies q) (sym list_is) (replies (first + j) q there) in
        let swept = c.came q found told in
        let here : Sweeps table statement (At c.range.low) c.range.high (records q.cells) (filter (is_for (first + j)) es) (records (served_by q (filter (is_for (first + j)) es)).cells) =
        subst (λ l. Sweeps table statement (At c.range.low) c.range.high (records q.cells) l (records (served_by q l).cells)) list_is swept in
        ranged_of table statement j c.range.low c.range.high (records q.cells) (records (served_by q (filter (is_for (first + j)) es)).cells) (filter (is_for (first + j)) es) (open_of script table j q o) (law c.range c.range_is)
        (sweep table statement c.range.high (filter (is_for (first + j)) es) (At c.range.low) (records q.cells) (records (served_by q (filter (is_for (first + j)) es)).cells) scans (ascends q o.sound.keeps) here.cover here.goes)

    -- the sent of a partition, if one is found
    found_part : (n : ℕ) (ss : List Sent) (sent : Sent) → find (λ s. s.part == n) ss ≡ Some sent → sent.part ≡ n
    found_part n ss sent found = let passes = found_passes (λ (s : Sent). s.part == n) ss sent found in grind (arith, nat_tests)

    none_found : (n : ℕ) (ss : List Sent) → find (λ s. s.part == n) ss ≡ None → list_any (λ s. s.part == n) ss ≡ false
    none_found n [] h = refl
    none_found n (s ∷ ss) h = by_test (s.part == n) h (none_found n ss)
      where
        by_test : (b : Bool) → cond b (Some s) (find (λ s. s.part == n) ss) ≡ None → (find (λ s. s.part == n) ss ≡ None → list_any (λ s. s.part == n) ss ≡ false) → (b || (list_any (λ s. s.part == n) ss)) ≡ false
        by_test true h rest = absurd (cc)
        by_test false h rest = rest h

    -- where all lists are whole
    module _ (theirs : AreTheirs sents es) (all : AllByRecursion (λ sent. SentCame sent (projection es sent) None) sents)
        (law : (j : ℕ) → j < parts_here → PieceLaw table statement j (find (λ sent. sent.part == first + j) sents)) where
      ranged_at : (j : ℕ) (q : State) → j < parts_here → slice_get qs (first + j) ≡ Some q
          → Ranged table statement (records q.cells) (filter (is_for (first + j)) es) (records (served_by q (filter (is_for (first + j)) es)).cells)
      ranged_at j q less there =
          let ss = sents in
          whole_ranged j q (find (λ sent. sent.part == first + j) ss) less there (law j less)
          (λ sent found. (found_part (first + j) ss sent found, All-contains (λ sent. SentCame sent (projection es sent) None) ss sent (All-from_recursion (λ sent. SentCame sent (projection es sent) None) ss all) (find-contains (λ sent. sent.part == first + j) ss sent found)))
          (λ none. none_for ss es (first + j) theirs (none_found (first + j) ss none))

      abbrev Related : ℕ → List Keyed → List Keyed → Type 0
      Related k v w = ((j : ℕ) → k ≡ first + j → j < parts_here → Ranged table statement v (filter (is_for (first + j)) es) w)
          × ((k < first) ⊎ (first + parts_here ≤ k) → v ≡ w)

      related : (k : ℕ) (q : State) → slice_get qs k ≡ Some q → Related (0 + k) (records q.cells) (records (served_by q (filter (is_for (0 + k)) es)).cells)
      related k q there = (
        λ j same less. let is_k : k ≡ first + j = omega arith in let zero_k : 0 + k ≡ first + j = omega arith in
            subst (λ n. Ranged table statement (records q.cells) (filter (is_for (first + j)) es) (records (served_by q (filter (is_for n) es)).cells)) (sym zero_k)
            (ranged_at j q less (subst (λ n. slice_get qs n ≡ Some q) is_k there)),
        λ where_is. let none = elsewhere_none script 1 statement table es scans at theirs (0 + k) where_is in
            ap (λ list. records (served_by q list).cells) (sym none),
      )

      shifted : (k : ℕ) → (k < 0 + first) ⊎ (0 + first + parts_here ≤ k) → (k < first) ⊎ (first + parts_here ≤ k)
      shifted k (inl h) = inl (omega arith)
      shifted k (inr h) = inr (omega arith)

      pub scan_done : one (world_of script.tables qs) statement ≡ (Ok (part_gives (asker script 1) statement es), world_of script.tables (behind 0 qs es))
      scan_done =
          step_of script.tables (views qs) (views (behind 0 qs es)) statement table
          (given_by table statement (flat_map (λ j. filter (is_for (first + j)) es) (range_with_len 0 parts_here))) at
          (moved-map
          {B = λ bx by. AllFrom (λ j v w. Ranged table statement v (filter (is_for (first + j)) es) w) 0 bx by × (length bx ≡ parts_here)}
          {C = λ bx by. one_on table statement (rows_of bx) ≡ record { given = Ok (given_by table statement (flat_map (λ j. filter (is_for (first + j)) es) (range_with_len 0 parts_here))); records = rows_of by }}
          script.tables (table_of statement) (views qs) (views (behind 0 qs es))
          (λ bx by h. block_step table statement (λ j. filter (is_for (first + j)) es) parts_here bx by scans h.0 h.1)
          (moved-from {R = Related} {P = λ j v w. Ranged table statement v (filter (is_for (first + j)) es) w} script.tables (table_of statement) 0 table (views qs) (views (behind 0 qs es)) at
          (let long = views_length qs in let enough = open_qs.enough in omega arith)
          (views_related Related es qs 0 related)
          (λ j v w less r. r.0 j (omega arith) less)
          (λ k v w where_is r. r.1 (shifted k where_is))))
          ∙ ap {B = Result Given Abort × World} (λ g. (Ok g, world_of script.tables (behind 0 qs es))) (gives script 1 statement table es scans at theirs)

    -- where one of them fails
    module _ (abort : Abort) (low : ℕ) (rise : PartsRise low sents) (breaks : Breaks SentCame low sents es abort)
        (law : (j : ℕ) → j < parts_here → PieceLaw table statement j (find (λ sent. sent.part == first + j) sents)) where
      rises : PartsRise low (breaks.front ++ breaks.sent ∷ breaks.back)
      rises = subst (PartsRise low) breaks.split rise

      there_m : (q : State) × (slice_get qs breaks.sent.part ≡ Some q)
      there_m =
          let below = part_below script.tables (table_of statement) breaks.fails.number table at breaks.fails.within_table in
          let enough = open_qs.enough in
          let is_m = breaks.fails.part_is in
          state_at qs breaks.sent.part (omega arith)

      came_m : Came table statement (At breaks.fails.range.low) breaks.fails.range.high (records there_m.0.cells) (projection es breaks.sent) (records (served_by there_m.0 (projection es breaks.sent)).cells) (Some abort)
      came_m = breaks.fails.came there_m.0 there_m.1 (replies breaks.sent.part there_m.0 there_m.1)

      -- below it no row faults
      below_m : (j : ℕ) (q : State) → j < parts_here → j < breaks.fails.number → slice_get qs (first + j) ≡ Some q → AllByRecursion (FaultFree table statement) (ranged table statement (records q.cells))
      below_m j q less before there =
          let o = own_open j q less there in
          let n = first + j in
          let is_m = breaks.fails.part_is in
          let front_is : find (λ s. s.part == first + j) sents ≡ find (λ s. s.part == first + j) breaks.front =
          ap (find (λ s. s.part == first + j)) breaks.split ∙ find_front (first + j) low breaks.front breaks.sent breaks.back rises (omega arith) in
          by_found (find (λ s. s.part == first + j) breaks.front) refl o (subst (PieceLaw table statement j) front_is (law j less))
        where
          by_found : (o : Option Sent) → find (λ s. s.part == first + j) breaks.front ≡ o → IsOpen script table j q → PieceLaw table statement j o → AllByRecursion (FaultFree table statement) (ranged table statement (records q.cells))
          by_found None found open_q none_law =
              (none_ranged table statement j (records q.cells) (records q.cells) scans (open_of script table j q open_q) none_law refl).faultless
          by_found (Some sent) found open_q some_law =
              let there_is = All-contains (λ s. (low ≤ s.part) × SentCame s (projection es s) None) breaks.front sent (All-from_recursion (λ s. (low ≤ s.part) × SentCame s (projection es s) None) breaks.front breaks.whole)
              (find-contains (λ s. s.part == first + j) breaks.front sent found) in
              let c = there_is.1 in
              let same : sent.part ≡ first + j = found_part (first + j) breaks.front sent found in
              let found_q : slice_get qs sent.part ≡ Some q = subst (λ n. slice_get qs n ≡ Some q) (sym same) there in
              let swept = c.came q found_q (replies sent.part q found_q) in
              let whole = sweep table statement c.range.high (projection es sent) (At c.range.low) (records q.cells) (records (served_by q (projection es sent)).cells) scans (ascends q open_q.sound.keeps) swept.cover swept.goes in
              subst (AllByRecursion (FaultFree table statement)) (span_ranged j q c.range.low c.range.high (open_of script table j q open_q) (some_law c.range c.range_is)) whole.faultless

      -- and there the first of its range does
      here_m : (j : ℕ) (q : State) (key : List ℕ) (fault : Fault) → j < parts_here → j ≡ breaks.fails.number → slice_get qs (first + j) ≡ Some q → abort ≡ Faulted key fault → RangeFails table statement (records q.cells) key fault
      here_m j q key fault less same there is_fault =
          let o = own_open j q less there in
          let is_m : breaks.sent.part ≡ first + j = (let part_is = breaks.fails.part_is in omega arith) in
          let found : slice_get qs breaks.sent.part ≡ Some q = subst (λ n. slice_get qs n ≡ Some q) (sym is_m) there in
          let came = breaks.fails.came q found (replies breaks.sent.part q found) in
          let f : Fails table statement (At breaks.fails.range.low) breaks.fails.range.high (records q.cells) key fault =
          subst (λ a. Came table statement (At breaks.fails.range.low) breaks.fails.range.high (records q.cells) (projection es breaks.sent) (records (served_by q (projection es breaks.sent)).cells) (Some a)) is_fault came in
          let found_sent : find (λ s. s.part == first + j) sents ≡ Some breaks.sent =
          ap (find (λ s. s.part == first + j)) breaks.split
          ∙ subst (λ n. find (λ s. s.part == n) (breaks.front ++ breaks.sent ∷ breaks.back) ≡ Some breaks.sent) is_m (find_at low breaks.front breaks.sent breaks.back rises).1 in
          let here_law = subst (PieceLaw table statement j) found_sent (law j less) in
          let are = open_of script table j q o in
          record {
            keyed = all-weaker (IsOf table j) (λ k. k.key ≡ key_of table k.row) (λ k h. h.0) (records q.cells) are;
            front = f.front;
            first = f.first;
            back = f.back;
            split = sym (span_ranged j q breaks.fails.range.low breaks.fails.range.high are (here_law breaks.fails.range breaks.fails.range_is)) ∙ f.span;
            fine = f.fine;
            key_is = f.key_is;
            faults = f.faults;
          }

      module _ (key : List ℕ) (fault : Fault) (is_fault : abort ≡ Faulted key fault) where
        abbrev FailsAt : ℕ → List Keyed → List Keyed → Type 0
        FailsAt k v w = (v ≡ w) × ((j : ℕ) → k ≡ first + j → j < parts_here → PartFails table statement breaks.fails.number key fault j v w)

        fails_at : (k : ℕ) (q : State) → slice_get qs k ≡ Some q → FailsAt (0 + k) (records q.cells) (records q.cells)
        fails_at k q there = (
          refl,
          λ j same less. let there_j : slice_get qs (first + j) ≡ Some q = subst (λ n. slice_get qs n ≡ Some q) (let is_k : k ≡ first + j = omega arith in is_k) there in
              record {
                keyed = all-weaker (IsOf table j) (λ k. k.key ≡ key_of table k.row) (λ k h. h.0) (records q.cells) (open_of script table j q (own_open j q less there_j));
                below = λ before. below_m j q less before there_j;
                here = λ is_j. here_m j q key fault less is_j there_j is_fault;
              },
        )

        scan_broke : (one (world_of script.tables qs) statement).0 ≡ Err (Faulted key fault)
        scan_broke =
            step_fails script.tables (views qs) statement table (Faulted key fault) (PartFails table statement breaks.fails.number key fault) at
            (moved-from {R = FailsAt} {P = PartFails table statement breaks.fails.number key fault} script.tables (table_of statement) 0 table (views qs) (views qs) at
            (let long = views_length qs in let enough = open_qs.enough in omega arith)
            (views_itself FailsAt qs 0 fails_at)
            (λ j v w less r. r.1 j (omega arith) less)
            (λ k v w where_is r. r.0))
            (λ bx by all long. parts_fail table statement breaks.fails.number key fault bx by scans (subst (λ n. breaks.fails.number < n) (sym long) breaks.fails.within_table) all)

      pub scan_fails : IsFault abort × ((one (world_of script.tables qs) statement).0 ≡ Err abort)
      scan_fails = by_abort abort refl came_m
        where
          by_abort : (a : Abort) → abort ≡ a → Came table statement (At breaks.fails.range.low) breaks.fails.range.high (records there_m.0.cells) (projection es breaks.sent) (records (served_by there_m.0 (projection es breaks.sent)).cells) (Some a)
              → IsFault a × ((one (world_of script.tables qs) statement).0 ≡ Err a)
          by_abort LockedOut is_a came = absurd came
          by_abort PathLost is_a came = absurd came
          by_abort (Duplicate key) is_a came = absurd came
          by_abort (Faulted key fault) is_a came = (tt, scan_broke key fault is_a)
