-- What plans insert into a partition has keys of the INSERT rows of the script.
use Rattle.std.proofs.Common.{◌≡◌, ◌+◌, ℕ, List, [], ◌∷◌, length, map, Bool, true, false, Option, Some, None, ap, sym, ◌∙◌, subst}
use Rattle.std.specs.Prelude.{option_map, slice_get, unwrap_or, if◌then◌else◌}
use Rattle.std.specs.List.{AllByRecursion, range_with_len}
use Rattle.sql_base.specs.Codes.{sets_code}
use Rattle.sql_base.specs.Keys.{common_prefix, key_eq}
use Rattle.sql_base.specs.Rows.{IsRow, key_of, kinds, packed, unpacked}
use Rattle.sql_base.specs.Tables.{IsStatement, SuitsTable, table_of}
use Rattle.sql_base.specs.declared.expressions.Expr.{Expr}
use Rattle.sql_base.specs.declared.key_ranges.KeyRange.{KeyRange}
use Rattle.sql_base.specs.declared.lock_names.Access.{Access}
use Rattle.sql_base.specs.declared.lock_names.Mode.{Mode}
use Rattle.sql_base.specs.declared.scripts.Script.{Script}
use Rattle.sql_base.specs.declared.statements.Statement.{Statement}
use Rattle.sql_base.specs.declared.statements.Statement.TheVariants.{Select, Update, Delete, Insert, LockTable}
use Rattle.sql_base.specs.declared.tables.TableDef.{TableDef}
use Rattle.sql_base.specs.declared.values.Value.{Value}
use Rattle.partition_map.specs.Map.{cut, part_of}
use Rattle.partition_map.specs.declared.Piece.{Piece}
use Rattle.range_finder.specs.Range.{range}
use Rattle.dp_messages.specs.declared.requests.Ask.{Ask}
use Rattle.dp_messages.specs.declared.requests.Ask.TheVariants as ask
use Rattle.partition_state.specs.State.{State}
use Rattle.session_grammar.specs.Follows.{asker}
use Rattle.session_grammar.specs.Plans.{all_columns, begin_pieces, begins_in, filter_code, first_part, plan_of, plan_on, select_plan, sents_of}
use Rattle.session_grammar.specs.declared.plans.Plan.TheVariants.{Singles, Subsets}
use Rattle.session_grammar.specs.declared.plans.Sent.{Sent}
use Rattle.run_record.specs.Openings.{openings}
use Rattle.plans_laws.proofs.Opened.{opens-here}
use Rattle.serial_laws.proofs.Rooms.{packed-back}
use Rattle.ending_laws.specs.Keys.{inserted_keys, keys_in}
use Rattle.ending_laws.proofs.CellKeys.{IsGood}
use Rattle.sql_base.proofs.Truths.{some-same}
use Rattle.partition_map.proofs.PartsOfTables.{part_within}
use Rattle.sql_base.proofs.ListFacts.{all-map, all_of}

module _ (P : List ℕ → Type 0) (script : Script) (session part : ℕ) (p : State) (opens : slice_get (openings script) part ≡ Some p) where
  -- what is asked of this partition inserts only such keys
  abbrev pub GoodHere : ℕ → Ask → Type 0
  GoodHere q ask = q ≡ part → IsGood P p.table ask

  abbrev IsGoodSent : Sent → Type 0
  IsGoodSent sent = GoodHere sent.part sent.ask

  begins-good : (table : TableDef) (place : ℕ) (found : KeyRange) (begin : List ℕ → KeyRange → Ask) → ((granule : List ℕ) (k : KeyRange) → IsGood P p.table (begin granule k))
      → AllByRecursion IsGoodSent (begin_pieces (asker script session) table place found begin)
  begins-good table place found begin good =
      let sent : Piece → Sent = λ piece. record { part = first_part (asker script session) place + piece.part; ask = begin (common_prefix found.low found.high) piece.range } in
      all-map IsGoodSent sent (cut table found) (all_of (λ piece. IsGoodSent (sent piece)) (λ piece. λ here. good (common_prefix found.low found.high) piece.range) (cut table found))

  begins_in-good : (table : TableDef) (place : ℕ) (o : Option KeyRange) (begin : List ℕ → KeyRange → Ask) → ((granule : List ℕ) (k : KeyRange) → IsGood P p.table (begin granule k))
      → AllByRecursion IsGoodSent (begins_in (asker script session) table place o begin)
  begins_in-good table place None begin good = tt
  begins_in-good table place (Some found) begin good = begins-good table place found begin good

  select-good : (table : TableDef) (place : ℕ) (access : Access) (predicate : Option Expr) (columns : List ℕ) (o : Option KeyRange)
      → AllByRecursion IsGoodSent (sents_of (select_plan (asker script session) table place access predicate columns o))
  select-good table place access predicate columns None = tt
  select-good table place access predicate columns (Some found) = by_one (key_eq found.low found.high)
    where
      by_one : (b : Bool) → AllByRecursion IsGoodSent (sents_of (if b
          then Singles (record { part = first_part (asker script session) place + part_of table found.low; ask = ask.ReadKey access found.low (filter_code predicate) columns } ∷ [])
          else Subsets (begin_pieces (asker script session) table place found (λ granule piece. ask.BeginRead access granule piece (filter_code predicate) columns))))
      by_one true = ((λ here. tt), tt)
      by_one false = begins-good table place found (λ granule piece. ask.BeginRead access granule piece (filter_code predicate) columns) (λ granule k. tt)

  locks-good : (place : ℕ) (mode : Mode) (places : List ℕ) → AllByRecursion IsGoodSent (map (λ n. record { part = first_part (asker script session) place + n; ask = ask.LockGranule [] mode }) places)
  locks-good place mode [] = tt
  locks-good place mode (n ∷ places) = ((λ here. tt), locks-good place mode places)

  insert-good : (table : TableDef) (place : ℕ) (row : List Value) → slice_get script.tables place ≡ Some table → IsRow table row → P (key_of table row)
      → IsGoodSent (record { part = first_part (asker script session) place + part_of table (key_of table row); ask = ask.Insert (packed (all_columns row) row) })
  insert-good table place row at well has here = λ values back.
      let table_is = (opens-here script place (part_of table (key_of table row)) part table p at (part_within table (key_of table row)) here opens).0 in
      let its : unpacked (kinds table) (packed (all_columns row) row) ≡ Some values = subst (λ (t : TableDef). unpacked (kinds t) (packed (all_columns row) row) ≡ Some values) table_is back in
      let same : row ≡ values = some-same row values (sym (packed-back table row well) ∙ its) in
      subst (λ (t : TableDef). P (key_of t values)) (sym table_is) (subst (λ (vs : List Value). P (key_of table vs)) same has)

  on-good : (table : TableDef) (statement : Statement) → slice_get script.tables (table_of statement) ≡ Some table → SuitsTable table statement → AllByRecursion P (inserted_keys script.tables statement)
      → AllByRecursion IsGoodSent (sents_of (plan_on (asker script session) table statement))
  on-good table (Select place columns predicate access) at suits all = select-good table place access predicate columns (range table predicate)
  on-good table (Update place sets predicate access) at suits all =
      begins_in-good table place (range table predicate) (λ granule piece. ask.BeginUpdate access granule piece (filter_code predicate) (sets_code sets)) (λ granule k. tt)
  on-good table (Delete place predicate access) at suits all =
      begins_in-good table place (range table predicate) (λ granule piece. ask.BeginDelete access granule piece (filter_code predicate)) (λ granule k. tt)
  on-good table (Insert place row) at suits all =
      let keys : AllByRecursion P (key_of table row ∷ []) = subst (λ (o : Option TableDef). AllByRecursion P (keys_in o (row ∷ []))) at all in
      (insert-good table place row at suits keys.0, tt)
  on-good table (LockTable place mode) at suits all = locks-good place mode (range_with_len 0 (length table.firsts + 1))

  pub plan-good : (statement : Statement) → IsStatement script.tables statement → AllByRecursion P (inserted_keys script.tables statement)
      → AllByRecursion (λ (sent : Sent). GoodHere sent.part sent.ask) (sents_of (plan_of (asker script session) statement))
  plan-good statement (table, at, suits) all =
      let r = asker script session in
      let plan : plan_of r statement ≡ plan_on r table statement = ap (λ o. unwrap_or (option_map (λ t. plan_on r t statement) o) (Subsets [])) at in
      subst (λ plan. AllByRecursion IsGoodSent (sents_of plan)) (sym plan) (on-good table statement at suits all)
