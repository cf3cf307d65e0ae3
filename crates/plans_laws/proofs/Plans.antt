-- What plans ask of a partition fits it.
use Rattle.std.proofs.Common.{◌≡◌, ◌<◌, ◌+◌, ℕ, List, [], ◌∷◌, length, map, Bool, true, false, ◌&&◌, Option, Some, None, refl, ap, sym, ◌∙◌, subst, arith}
use Rattle.std.specs.Prelude.{option_map, slice_get, unwrap_or, nat_eq, nat_lt, if◌then◌else◌}
use Rattle.std.specs.List.{AllByRecursion, list_all, range_with_len, starts_with}
use Rattle.std.proofs.lemmas.Bool.{eq-eqb, lt-ltb}
use Rattle.sql_base.specs.Codes.{sets_code}
use Rattle.sql_base.specs.Keys.{common_prefix, key_eq}
use Rattle.sql_base.specs.Rows.{IsRow, key_of, key_width, packed, unpacked, kinds}
use Rattle.sql_base.specs.declared.lock_names.Mode.{Mode}
use Rattle.sql_base.specs.Scripts.{IsScript}
use Rattle.sql_base.specs.Tables.{AreColumns, AreSets, IsFilter, MayChange, SuitsTable, table_of}
use Rattle.sql_base.specs.declared.expressions.Expr.{Expr}
use Rattle.sql_base.specs.declared.key_ranges.KeyRange.{KeyRange}
use Rattle.sql_base.specs.declared.lock_names.Access.{Access}
use Rattle.sql_base.specs.declared.lock_names.Access.TheVariants.{Browse, Stable, Repeatable}
use Rattle.sql_base.specs.declared.scripts.Script.{Script}
use Rattle.sql_base.specs.declared.statements.Assign.{Assign}
use Rattle.sql_base.specs.declared.statements.Statement.{Statement}
use Rattle.sql_base.specs.declared.statements.Statement.TheVariants.{Select, Update, Delete, Insert, LockTable}
use Rattle.sql_base.specs.declared.tables.TableDef.{TableDef}
use Rattle.sql_base.specs.declared.values.Value.{Value}
use Rattle.partition_map.specs.Map.{cut, part_of}
use Rattle.partition_map.specs.declared.Piece.{Piece}
use Rattle.range_finder.specs.Range.{range}
use Rattle.dp_messages.specs.declared.requests.Ask.{Ask}
use Rattle.dp_messages.specs.declared.requests.Ask.TheVariants as ask
use Rattle.partition_state.specs.State.{State}
use Rattle.partition_state.specs.Step.{are_columns_here, is_key_here, is_shaped, may_change}
use Rattle.session_grammar.specs.Follows.{asker}
use Rattle.session_grammar.specs.declared.plans.Sent.{Sent}
use Rattle.session_grammar.specs.declared.plans.Plan.TheVariants.{Singles, Subsets}
use Rattle.session_grammar.specs.Plans.{all_columns, begin_pieces, begins_in, filter_code, first_part, plan_of, plan_on, select_plan, sents_of}
use Rattle.run_record.specs.Openings.{openings}
use Rattle.ranges_laws.specs.Bytes.{IsKey}
use Rattle.ranges_laws.specs.Pieces.{IsPiece}
use Rattle.ranges_laws.proofs.Pieces.{cut-is_pieces}
use Rattle.ranges_laws.proofs.Ranges.{keys_are_keys, ranges_are_bounds, ranges_begin}
use Rattle.plans_laws.specs.Scaffold.Fits.{CarriesFilter, CarriesSets, Fits, PlansFit}
use Rattle.plans_laws.proofs.Opened.{opens-here, table_is}
use Rattle.serial_laws.proofs.Rooms.{packed-back}
use Rattle.partition_map.proofs.PartsOfTables.{part_within}

-- the columns are some, and the table's
all_within : (n : ℕ) (columns : List ℕ) → AllByRecursion (λ c. c < n) columns → list_all (λ c. nat_lt c n) columns ≡ true
all_within n [] h = refl
all_within n (c ∷ columns) h = ap (λ b. b && list_all (λ d. nat_lt d n) columns) (lt-ltb c n h.0) ∙ all_within n columns h.1

columns-here : (p : State) (table : TableDef) (columns : List ℕ) → p.table ≡ table → AreColumns table columns → are_columns_here p columns ≡ true
columns-here p table columns e are =
    let some : nat_lt 0 (length columns) ≡ true = lt-ltb 0 (length columns) are.some in
    let within : list_all (λ c. nat_lt c (length p.table.columns)) columns ≡ true =
    subst (λ (t : TableDef). list_all (λ c. nat_lt c (length t.columns)) columns ≡ true) (sym e) (all_within (length table.columns) columns are.within) in
    let differ = are.differ in
    λ i. some i && (within i && differ i)

key-here : (p : State) (table : TableDef) (j : ℕ) (key : List ℕ) → p.table ≡ table → p.place ≡ j → IsKey table key → part_of table key ≡ j → is_key_here p key ≡ true
key-here p table j key e f is at =
    let long = eq-eqb (length key) (key_width p.table) (is.0 ∙ ap key_width (sym e)) in
    let here = eq-eqb (part_of p.table key) p.place (ap (λ t. part_of t key) e ∙ at ∙ sym f) in
    λ i. long i && here i

changes-allowed : (access : Access) → MayChange access → may_change access ≡ true
changes-allowed Browse h = absurd h
changes-allowed Stable h = refl
changes-allowed Repeatable h = refl

filter-carried : (p : State) (table : TableDef) (predicate : Option Expr) → p.table ≡ table → IsFilter table predicate → CarriesFilter p.table (filter_code predicate)
filter-carried p table predicate e is = (predicate, subst (λ t. IsFilter t predicate) (sym e) is, refl)

sets-carried : (p : State) (table : TableDef) (sets : List Assign) → p.table ≡ table → AreSets table sets → CarriesSets p.table (sets_code sets)
sets-carried p table sets e are = (sets, subst (λ t. AreSets t sets) (sym e) are, refl)

-- what is asked of a partition at which p opens fits p
abbrev pub FitsThere : State → ℕ → Sent → Type 0
FitsThere p part sent = sent.part ≡ part → Fits p sent.ask

module _ (script : Script) (is : IsScript script) (session part : ℕ) (p : State) (opens : slice_get (openings script) part ≡ Some p) (table : TableDef) (place : ℕ) (at : slice_get script.tables place ≡ Some table) where
  here : (j : ℕ) → j < length table.firsts + 1 → first_part (asker script session) place + j ≡ part → (p.table ≡ table) × (p.place ≡ j)
  here j lt e = opens-here script place j part table p at lt e opens

  pieces-fit : (found : KeyRange) (begin : List ℕ → KeyRange → Ask) → (p.table ≡ table → (k : KeyRange) → is_shaped p k (common_prefix found.low found.high) ≡ true → Fits p (begin (common_prefix found.low found.high) k))
      → (pieces : List Piece) → AllByRecursion (IsPiece table found) pieces
      → AllByRecursion (FitsThere p part) (map (λ (piece : Piece). record { part = first_part (asker script session) place + piece.part; ask = begin (common_prefix found.low found.high) piece.range }) pieces)
  pieces-fit found begin fit [] all = tt
  pieces-fit found begin fit (piece ∷ pieces) all = (λ e. fits e, pieces-fit found begin fit pieces all.1)
    where
      fits : first_part (asker script session) place + piece.part ≡ part → Fits p (begin (common_prefix found.low found.high) piece.range)
      fits e =
          let one = all.0 in
          let lies = here piece.part one.within e in
          let granule = common_prefix found.low found.high in
          let low = key-here p table piece.part piece.range.low lies.0 lies.1 one.bounds.0 one.low_at in
          let high = key-here p table piece.part piece.range.high lies.0 lies.1 one.bounds.1 one.high_at in
          let order = one.order in
          let begins_low : starts_with nat_eq piece.range.low granule ≡ true = ranges_begin found.low found.high piece.range.low one.low_in in
          let begins_high : starts_with nat_eq piece.range.high granule ≡ true = ranges_begin found.low found.high piece.range.high one.high_in in
          fit lies.0 piece.range (λ i. low i && high i && order i && (begins_low i && begins_high i))

  begins-fit : (found : KeyRange) (predicate : Option Expr) → range table predicate ≡ Some found → (begin : List ℕ → KeyRange → Ask)
      → (p.table ≡ table → (k : KeyRange) → is_shaped p k (common_prefix found.low found.high) ≡ true → Fits p (begin (common_prefix found.low found.high) k))
      → AllByRecursion (FitsThere p part) (begin_pieces (asker script session) table place found begin)
  begins-fit found predicate e begin fit =
      pieces-fit found begin fit (cut table found) (cut-is_pieces table found (table_is script place table is at).firsts (ranges_are_bounds table predicate found e).0)

  begins_in-fit : (o : Option KeyRange) (predicate : Option Expr) → range table predicate ≡ o → (begin : List ℕ → KeyRange → Ask)
      → (p.table ≡ table → (g : List ℕ) (k : KeyRange) → is_shaped p k g ≡ true → Fits p (begin g k))
      → AllByRecursion (FitsThere p part) (begins_in (asker script session) table place o begin)
  begins_in-fit None predicate e begin fit = tt
  begins_in-fit (Some found) predicate e begin fit = begins-fit found predicate e begin (λ same k h. fit same (common_prefix found.low found.high) k h)

  select-fit : (o : Option KeyRange) (access : Access) (predicate : Option Expr) (columns : List ℕ) → AreColumns table columns → IsFilter table predicate → range table predicate ≡ o
      → AllByRecursion (FitsThere p part) (sents_of (select_plan (asker script session) table place access predicate columns o))
  select-fit None access predicate columns are well e = tt
  select-fit (Some found) access predicate columns are well e = by_one (key_eq found.low found.high)
    where
      read : p.table ≡ table → (k : KeyRange) → is_shaped p k (common_prefix found.low found.high) ≡ true → Fits p (ask.BeginRead access (common_prefix found.low found.high) k (filter_code predicate) columns)
      read same k h = let good = columns-here p table columns same are in ((λ i. good i && h i), filter-carried p table predicate same well)

      one : first_part (asker script session) place + part_of table found.low ≡ part → Fits p (ask.ReadKey access found.low (filter_code predicate) columns)
      one f =
          let lies = here (part_of table found.low) (part_within table found.low) f in
          let good = columns-here p table columns lies.0 are in
          let key = key-here p table (part_of table found.low) found.low lies.0 lies.1 (ranges_are_bounds table predicate found e).0.0 refl in
          ((λ i. key i && good i), filter-carried p table predicate lies.0 well)

      by_one : (b : Bool) → AllByRecursion (FitsThere p part) (sents_of (if b
          then Singles (record { part = first_part (asker script session) place + part_of table found.low; ask = ask.ReadKey access found.low (filter_code predicate) columns } ∷ [])
          else Subsets (begin_pieces (asker script session) table place found (λ granule piece. ask.BeginRead access granule piece (filter_code predicate) columns))))
      by_one true = (λ f. one f, tt)
      by_one false = begins-fit found predicate e (λ granule piece. ask.BeginRead access granule piece (filter_code predicate) columns) read

  locks-fit : (mode : Mode) (places : List ℕ) → AllByRecursion (FitsThere p part) (map (λ n. record { part = first_part (asker script session) place + n; ask = ask.LockGranule [] mode }) places)
  locks-fit mode [] = tt
  locks-fit mode (n ∷ places) = (λ e. omega arith, locks-fit mode places)

  insert-fit : (row : List Value) → IsRow table row → FitsThere p part (record { part = first_part (asker script session) place + part_of table (key_of table row); ask = ask.Insert (packed (all_columns row) row) })
  insert-fit row well e =
      let lies = here (part_of table (key_of table row)) (part_within table (key_of table row)) e in
      let back : unpacked (kinds p.table) (packed (all_columns row) row) ≡ Some row = ap (λ (t : TableDef). unpacked (kinds t) (packed (all_columns row) row)) lies.0 ∙ packed-back table row well in
      let key : is_key_here p (key_of table row) ≡ true = key-here p table (part_of table (key_of table row)) (key_of table row) lies.0 lies.1 (keys_are_keys table row well) refl in
      (row, back, ap (λ (t : TableDef). is_key_here p (key_of t row)) lies.0 ∙ key)

on-fit : (script : Script) → IsScript script → (session part : ℕ) (p : State) → slice_get (openings script) part ≡ Some p → (table : TableDef) (statement : Statement)
    → slice_get script.tables (table_of statement) ≡ Some table → SuitsTable table statement → AllByRecursion (FitsThere p part) (sents_of (plan_on (asker script session) table statement))
on-fit script is session part p opens table (Select place columns predicate access) at suits = select-fit script is session part p opens table place at (range table predicate) access predicate columns suits.0 suits.1 refl
on-fit script is session part p opens table (Update place sets predicate access) at suits =
    begins_in-fit script is session part p opens table place at (range table predicate) predicate refl (λ granule piece. ask.BeginUpdate access granule piece (filter_code predicate) (sets_code sets))
    (λ same g k h. let may = changes-allowed access suits.2 in ((λ i. may i && h i), filter-carried p table predicate same suits.1, sets-carried p table sets same suits.0))
on-fit script is session part p opens table (Delete place predicate access) at suits =
    begins_in-fit script is session part p opens table place at (range table predicate) predicate refl (λ granule piece. ask.BeginDelete access granule piece (filter_code predicate))
    (λ same g k h. let may = changes-allowed access suits.1 in ((λ i. may i && h i), filter-carried p table predicate same suits.0))
on-fit script is session part p opens table (Insert place row) at suits = (insert-fit script is session part p opens table place at row suits, tt)
on-fit script is session part p opens table (LockTable place mode) at suits = locks-fit script is session part p opens table place at mode (range_with_len 0 (length table.firsts + 1))

pub plans_fit : (script : Script) → IsScript script → PlansFit script
plans_fit script is session statement part p (table, at, suits) opens =
    let r = asker script session in
    let plan : plan_of r statement ≡ plan_on r table statement = ap (λ o. unwrap_or (option_map (λ t. plan_on r t statement) o) (Subsets [])) at in
    subst (λ plan. AllByRecursion (FitsThere p part) (sents_of plan)) (sym plan) (on-fit script is session part p opens table statement at suits)
