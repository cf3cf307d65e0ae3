-- The opening records of a script's partitions make the tables that its LOAD rows make.
use Rattle.std.proofs.Common.{◌≡◌, ◌<◌, ◌≤◌, ◌+◌, ℕ, zero, suc, List, [], ◌∷◌, ◌++◌, length, map, take, drop, true, false, Some, inl, inr, refl, ap, sym, ◌∙◌, subst, arith}
use Rattle.std.specs.Prelude.{◌⊎◌, ◌==◌, flat_map, slice_get}
use Rattle.std.specs.List.{AllByRecursion, AllZip, range_with_len}
use Rattle.std.proofs.Math.Seq.{drop-append_seam, take-append_seam}
use Rattle.std.proofs.lemmas.Bool.{false≢true}
use Rattle.std.proofs.lemmas.Bool.Decides.{nat_tests}
use Rattle.std.proofs.lemmas.List.{length-map, map-append}
use Rattle.sql_base.specs.Keys.{Rise, key_lt}
use Rattle.sql_base.specs.Rows.{AreRecords, key_of}
use Rattle.sql_base.specs.Scripts.{IsScript}
use Rattle.sql_base.specs.declared.scripts.Limits.{Limits}
use Rattle.sql_base.specs.declared.scripts.Script.{Script}
use Rattle.sql_base.specs.declared.tables.TableDef.{TableDef}
use Rattle.sql_base.specs.declared.values.Value.{Value}
use Rattle.sql_base.proofs.KeyOrders.{key_le-refl, lt-trans, not_lt_from_le}
use Rattle.key_sequenced.specs.Cells.{Keyed, records}
use Rattle.one_thread.specs.One.{load_rows, loaded}
use Rattle.partition_map.specs.Map.{part_of}
use Rattle.partition_state.specs.State.{State, new_cell, opening}
use Rattle.run_record.specs.Base.{by_table}
use Rattle.run_record.specs.Openings.{openings, openings_from, rows_in_part}
use Rattle.serial_passes.proofs.Givings.{part_within}
use Rattle.serial_passes.proofs.Placings.{parts_in_order}
use Rattle.sql_base.proofs.ListFacts.{range-length}
use Rattle.one_thread.proofs.Loaded.{load-records}

-- the records of these partitions
abbrev pub opened_views : List State → List (List Keyed)
opened_views qs = map (λ q. records q.cells) qs

-- the rows of the cells that are loaded
new_rows : (table : TableDef) (rows : List (List Value)) → map (λ k. k.row) (records (map (new_cell table) rows)) ≡ rows
new_rows table [] = refl
new_rows table (row ∷ rows) = ap (λ rest. row ∷ rest) (new_rows table rows)

module _ (table : TableDef) where
  abbrev place : List Value → ℕ
  place row = part_of table (key_of table row)

  -- no row lies in a partition before that of one in front of it
  abbrev Climbing : List (List Value) → Type 0
  Climbing [] = Unit {0}
  Climbing (row ∷ rows) = AllByRecursion (λ x. place row ≤ place x) rows × Climbing rows

  part_le : (a b : List ℕ) → key_lt a b ≡ true → part_of table a ≤ part_of table b
  part_le a b h = by_order (grind arith)
    where
      by_order : (part_of table b < part_of table a) ⊎ (part_of table a ≤ part_of table b) → part_of table a ≤ part_of table b
      by_order (inl less) =
          let back : key_lt b a ≡ true = parts_in_order table b a less in
          absurd (false≢true (sym (not_lt_from_le a a (key_le-refl a)) ∙ lt-trans a b a h back))
      by_order (inr more) = more

  above_rows : (key : List ℕ) (rows : List (List Value)) → Rise (key ∷ map (key_of table) rows) → AllByRecursion (λ x. key_lt key (key_of table x) ≡ true) rows
  above_rows key [] h = tt
  above_rows key (row ∷ rows) h = (h.0, further rows (above_rows (key_of table row) rows h.1))
    where
      further : (xs : List (List Value)) → AllByRecursion (λ x. key_lt (key_of table row) (key_of table x) ≡ true) xs → AllByRecursion (λ x. key_lt key (key_of table x) ≡ true) xs
      further [] all = tt
      further (x ∷ xs) all = (lt-trans key (key_of table row) (key_of table x) h.0 all.0, further xs all.1)

  tail_rises : (row : List Value) (rows : List (List Value)) → Rise (map (key_of table) (row ∷ rows)) → Rise (map (key_of table) rows)
  tail_rises row [] h = tt
  tail_rises row (other ∷ rows) h = h.1

  climbing : (rows : List (List Value)) → Rise (map (key_of table) rows) → Climbing rows
  climbing [] h = tt
  climbing (row ∷ rows) h = (each rows (above_rows (key_of table row) rows h), climbing rows (tail_rises row rows h))
    where
      each : (xs : List (List Value)) → AllByRecursion (λ x. key_lt (key_of table row) (key_of table x) ≡ true) xs → AllByRecursion (λ x. place row ≤ place x) xs
      each [] all = tt
      each (x ∷ xs) all = (part_le (key_of table row) (key_of table x) all.0, each xs all.1)

  -- partition by partition
  abbrev pieces : List (List Value) → ℕ → ℕ → List (List Value)
  pieces rows a n = flat_map (λ j. rows_in_part table j rows) (range_with_len a n)

  nothing : (n a : ℕ) → pieces [] a n ≡ []
  nothing zero a = refl
  nothing (suc n) a = nothing n (a + 1)

  beside : (n a : ℕ) (row : List Value) (rows : List (List Value)) → place row < a → pieces (row ∷ rows) a n ≡ pieces rows a n
  beside zero a row rows less = refl
  beside (suc n) a row rows less =
      let other : (place row == a) ≡ false = grind (arith, nat_tests) in
      rw other (ap (λ rest. rows_in_part table a rows ++ rest) (beside n (a + 1) row rows (omega arith)))

  none_in : (a : ℕ) (rows : List (List Value)) → AllByRecursion (λ x. a < place x) rows → rows_in_part table a rows ≡ []
  none_in a [] h = refl
  none_in a (row ∷ rows) h =
      let above : a < place row = h.0 in
      let other : (place row == a) ≡ false = grind (arith, nat_tests) in
      rw other (none_in a rows h.1)

  abbrev Within : ℕ → ℕ → List (List Value) → Type 0
  Within a n rows = AllByRecursion (λ x. (a ≤ place x) × (place x < a + n)) rows

  further_on : (a n m : ℕ) (rows : List (List Value)) → a < m → AllByRecursion (λ x. m ≤ place x) rows → Within a (suc n) rows → Within (a + 1) n rows × AllByRecursion (λ x. a < place x) rows
  further_on a n m [] less low within = (tt, tt)
  further_on a n m (row ∷ rows) less low within =
      let rest = further_on a n m rows less low.1 within.1 in
      let from : m ≤ place row = low.0 in
      let til : place row < a + suc n = within.0.1 in
      (((omega arith, omega arith), rest.0), (omega arith, rest.1))

  on_rows : (n a : ℕ) (rows : List (List Value)) → Climbing rows → Within a (suc n) rows → ((more : List (List Value)) → Climbing more → Within (a + 1) n more → pieces more (a + 1) n ≡ more) → pieces rows a (suc n) ≡ rows
  on_rows n a [] climb within later = nothing (suc n) a
  on_rows n a (row ∷ rows) climb within later = by_place (grind arith) (on_rows n a rows climb.1 within.1 later)
    where
      from : a ≤ place row
      from = within.0.0

      by_place : (a ≡ place row) ⊎ (a < place row) → pieces rows a (suc n) ≡ rows → pieces (row ∷ rows) a (suc n) ≡ row ∷ rows
      by_place (inl same) rest =
          let here : (place row == a) ≡ true = grind (arith, nat_tests) in
          rw here (ap (λ more. row ∷ (rows_in_part table a rows ++ more)) (beside n (a + 1) row rows (omega arith)) ∙ ap (λ more. row ∷ more) rest)
      by_place (inr less) rest =
          let f = further_on a n (place row) rows less climb.0 within.1 in
          let til : place row < a + suc n = within.0.1 in
          let none = none_in a (row ∷ rows) (less, f.1) in
          ap (λ front. front ++ pieces (row ∷ rows) (a + 1) n) none ∙ later (row ∷ rows) climb ((omega arith, omega arith), f.0)

  joined_again : (n a : ℕ) (rows : List (List Value)) → Climbing rows → Within a n rows → pieces rows a n ≡ rows
  joined_again zero a [] climb within = refl
  joined_again zero a (row ∷ rows) climb within = absurd (let from : a ≤ place row = within.0.0 in let til : place row < a + 0 = within.0.1 in omega arith)
  joined_again (suc n) a rows climb within = on_rows n a rows climb within (λ more c w. joined_again n (a + 1) more c w)

  all_within : (rows : List (List Value)) → Within 0 (length table.firsts + 1) rows
  all_within [] = tt
  all_within (row ∷ rows) = ((omega arith, let below = part_within table (key_of table row) in omega arith), all_within rows)

  table_joined : (rows : List (List Value)) → AreRecords table rows → pieces rows 0 (length table.firsts + 1) ≡ rows
  table_joined rows h = joined_again (length table.firsts + 1) 0 rows (climbing rows h.1) (all_within rows)

  -- as they open
  opened_rows : (limits : Limits) (rows : List (List Value)) (places : List ℕ)
      → flat_map (λ held. map (λ k. k.row) held) (opened_views (map (λ j. opening table j limits (rows_in_part table j rows)) places)) ≡ flat_map (λ j. rows_in_part table j rows) places
  opened_rows limits rows [] = refl
  opened_rows limits rows (j ∷ places) = λ i. new_rows table (rows_in_part table j rows) i ++ opened_rows limits rows places i

front_of : {A : Type 0} (n : ℕ) (xs ys : List A) → length xs ≡ n → (take n (xs ++ ys) ≡ xs) × (drop n (xs ++ ys) ≡ ys)
front_of n xs ys same = (ap (λ m. take m (xs ++ ys)) (sym same) ∙ take-append_seam xs ys, ap (λ m. drop m (xs ++ ys)) (sym same) ∙ drop-append_seam xs ys)

tables_again : (limits : Limits) (tables : List TableDef) (loads : List (List (List Value))) → AllZip AreRecords tables loads → by_table tables (opened_views (openings_from limits tables loads)) ≡ loads
tables_again limits [] [] h = refl
tables_again limits [] (rows ∷ loads) h = absurd h
tables_again limits (table ∷ tables) [] h = absurd h
tables_again limits (table ∷ tables) (rows ∷ loads) (are, rest) =
    let n : ℕ = length table.firsts + 1 in
    let opens : List State = map (λ j. opening table j limits (rows_in_part table j rows)) (range_with_len 0 n) in
    let more : List State = openings_from limits tables loads in
    let long : length (opened_views opens) ≡ n = length-map opens (λ q. records q.cells) ∙ length-map (range_with_len 0 n) (λ j. opening table j limits (rows_in_part table j rows)) ∙ range-length n 0 in
    let split : opened_views (opens ++ more) ≡ opened_views opens ++ opened_views more = map-append (λ (q : State). records q.cells) opens more in
    let parts = front_of n (opened_views opens) (opened_views more) long in
    let head : flat_map (λ held. map (λ k. k.row) held) (take n (opened_views (opens ++ more))) ≡ rows =
    ap (λ xs. flat_map (λ (held : List Keyed). map (λ (k : Keyed). k.row) held) (take n xs)) split ∙ ap (flat_map (λ (held : List Keyed). map (λ (k : Keyed). k.row) held)) parts.0
    ∙ opened_rows table limits rows (range_with_len 0 n) ∙ table_joined table rows are in
    let tail : by_table tables (drop n (opened_views (opens ++ more))) ≡ loads = ap (λ xs. by_table tables (drop n xs)) split ∙ ap (by_table tables) parts.1 ∙ tables_again limits tables loads rest in
    λ i. head i ∷ tail i

records_from : (loads : ℕ → List (List Value)) (tables : List TableDef) (a : ℕ) → ((i : ℕ) (table : TableDef) → slice_get tables i ≡ Some table → AreRecords table (loads (a + i))) → AllZip AreRecords tables (map loads (range_with_len a (length tables)))
records_from loads [] a each = tt
records_from loads (table ∷ tables) a each = (
  subst (λ n. AreRecords table (loads n)) (let e : a + 0 ≡ a = omega arith in e) (each 0 table refl),
  records_from loads tables (a + 1) (λ i x at. subst (λ n. AreRecords x (loads n)) (let e : a + suc i ≡ a + 1 + i = omega arith in e) (each (suc i) x at)),
)

-- the tables as they open are those of the LOAD rows
pub opened_tables : (script : Script) → IsScript script → by_table script.tables (opened_views (openings script)) ≡ (loaded script).records
opened_tables script is =
    tables_again script.limits script.tables (loaded script).records
    (records_from (load_rows script.loads) script.tables 0 (λ i table at. load-records script.tables script.loads (0 + i) table (let e : i ≡ 0 + i = omega arith in subst (λ n. slice_get script.tables n ≡ Some table) e at) is.loads is.loads_differ))
