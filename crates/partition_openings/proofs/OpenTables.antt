-- The partitions of the tables as they open, one after the other.
use Rattle.std.proofs.Common.{◌≡◌, ◌<◌, ◌+◌, ℕ, List, [], ◌∷◌, ◌++◌, length, map, take, get_or, Bool, true, false, cond, append_assoc, ap, sym, ◌∙◌, arith}
use Rattle.std.specs.Prelude.{◌==◌}
use Rattle.std.specs.List.{range_with_len}
use Rattle.std.proofs.lemmas.Bool.Decides.{nat_tests}
use Rattle.std.proofs.lemmas.List.{append-nil, length-take-le, map-append, take_more}
use Rattle.std.proofs.lemmas.List.Elements.{filter_more}
use Rattle.std.proofs.lemmas.List.FromFn.{length-map-range_with_len, map-range_with_len_more}
use Rattle.sql_base.specs.Rows.{AreRecords, IsRow, key_of}
use Rattle.sql_base.specs.declared.scripts.Limits.{Limits}
use Rattle.sql_base.specs.declared.tables.TableDef.{TableDef}
use Rattle.sql_base.specs.declared.values.Value.{Value}
use Rattle.partition_map.specs.Map.{part_of}
use Rattle.partition_state.specs.State.{State, opening}
use Rattle.run_record.specs.Openings.{openings_from, rows_in_part}
use Rattle.serial_laws.proofs.Opened.{rise-rows, sound-opening}
use Rattle.partition_core.specs.Kept.{Kept, opened_with}
use Rattle.partition_openings.specs.Openings.{table_openings}
use Rattle.sql_base.proofs.ListFacts.{all-filter}

-- the records of a table that lie in one partition are records of it
pub part_records : (limits : Limits) (table : TableDef) (place : ℕ) (rows : List (List Value)) → AreRecords table rows → AreRecords table (rows_in_part table place rows)
part_records limits table place rows are =
    let sound = sound-opening table place limits rows are in
    (all-filter (IsRow table) (λ row. part_of table (key_of table row) == place) rows are.0, rise-rows table (rows_in_part table place rows) sound.keeps.cells.rise)

-- the first partitions of a table
abbrev pub first_openings : Limits → TableDef → List (List Value) → ℕ → List State
first_openings limits table rows n = map (λ place. opening table place limits (rows_in_part table place rows)) (range_with_len 0 n)

-- one partition more
pub part_more : (limits : Limits) (table : TableDef) (rows : List (List Value)) (n : ℕ) (before : List Kept)
    → (before ++ map opened_with (first_openings limits table rows n)) ++ opened_with (opening table n limits (rows_in_part table n rows)) ∷ [] ≡ before ++ map opened_with (first_openings limits table rows (n + 1))
part_more limits table rows n before =
    let p : State = opening table n limits (rows_in_part table n rows) in
    let count : 0 + n ≡ n = omega arith in
    let more = map-range_with_len_more (λ place. opening table place limits (rows_in_part table place rows)) 0 n n count in
    let mapped : map opened_with (first_openings limits table rows (n + 1)) ≡ map opened_with (first_openings limits table rows n) ++ opened_with p ∷ [] = ap (map opened_with) more ∙ map-append opened_with (first_openings limits table rows n) (p ∷ []) in
    append_assoc before (map opened_with (first_openings limits table rows n)) (opened_with p ∷ []) ∙ ap (λ ks. before ++ ks) (sym mapped)

-- one table behind the others
table_behind : (limits : Limits) (tables : List TableDef) (loads : List (List (List Value))) (table : TableDef) (rows : List (List Value)) → length tables ≡ length loads
    → openings_from limits (tables ++ table ∷ []) (loads ++ rows ∷ []) ≡ openings_from limits tables loads ++ table_openings limits table rows
table_behind limits [] [] table rows same = append-nil (table_openings limits table rows)
table_behind limits [] (other ∷ loads) table rows same = absurd (omega (arith, same))
table_behind limits (t ∷ tables) [] table rows same = absurd (omega (arith, same))
table_behind limits (t ∷ tables) (other ∷ loads) table rows same =
    ap (λ ps. table_openings limits t other ++ ps) (table_behind limits tables loads table rows (omega (arith, same)))
    ∙ sym (append_assoc (table_openings limits t other) (openings_from limits tables loads) (table_openings limits table rows))

-- the partitions of the first tables
abbrev pub openings_of : Limits → List TableDef → (ℕ → List (List Value)) → ℕ → List State
openings_of limits tables loads n = openings_from limits (take n tables) (map loads (range_with_len 0 n))

pub table_more : (limits : Limits) (tables : List TableDef) (loads : ℕ → List (List Value)) (n : ℕ) (table : TableDef) → n < length tables → table ≡ get_or tables n table
    → openings_of limits tables loads n ++ table_openings limits table (loads n) ≡ openings_of limits tables loads (n + 1)
table_more limits tables loads n table lt is =
    let count : 0 + n ≡ n = omega arith in
    let front : take (n + 1) tables ≡ take n tables ++ table ∷ [] = take_more tables n table lt ∙ ap (λ t. take n tables ++ t ∷ []) (sym is) in
    let rest : map loads (range_with_len 0 (n + 1)) ≡ map loads (range_with_len 0 n) ++ loads n ∷ [] = map-range_with_len_more loads 0 n n count in
    let long : length (take n tables) ≡ length (map loads (range_with_len 0 n)) = length-take-le n tables (omega (arith, lt)) ∙ sym (length-map-range_with_len loads 0 n) in
    sym ((λ i. openings_from limits (front i) (rest i)) ∙ table_behind limits (take n tables) (map loads (range_with_len 0 n)) table (loads n) long)

-- one row more, in the partition or not
module _ (table : TableDef) (place : ℕ) (rows : List (List Value)) (i : ℕ) (row : List Value) (lt : i < length rows) (is : row ≡ get_or rows i row) where
  row_passed : (b : Bool) → (part_of table (key_of table row) == place) ≡ b → rows_in_part table place (take (i + 1) rows) ≡ rows_in_part table place (take i rows) ++ cond b (row ∷ []) []
  row_passed b test =
      filter_more (λ r. part_of table (key_of table r) == place) rows i row lt ∙ ap (λ r. rows_in_part table place (take i rows) ++ cond (part_of table (key_of table r) == place) (r ∷ []) []) (sym is)
      ∙ ap (λ t. rows_in_part table place (take i rows) ++ cond t (row ∷ []) []) test

  pub row_here : (own more : List (List Value)) (part : ℕ) → own ≡ rows_in_part table place (take i rows) → part ≡ part_of table (key_of table row) → part ≡ place → more ≡ own ++ row ∷ [] → more ≡ rows_in_part table place (take (i + 1) rows)
  row_here own more part so_far its here pushed =
      let same : (part == place) ≡ true = grind (arith, nat_tests, here) in
      pushed ∙ ap (λ o. o ++ row ∷ []) so_far ∙ sym (row_passed true (ap (λ p. p == place) (sym its) ∙ same))

  pub row_elsewhere : (own more : List (List Value)) (part : ℕ) → own ≡ rows_in_part table place (take i rows) → part ≡ part_of table (key_of table row) → (part ≡ place → ⊥) → more ≡ own → more ≡ rows_in_part table place (take (i + 1) rows)
  row_elsewhere own more part so_far its elsewhere still =
      let other : (part == place) ≡ false = grind (arith, nat_tests, elsewhere) in
      still ∙ so_far ∙ sym (row_passed false (ap (λ p. p == place) (sym its) ∙ other) ∙ append-nil (rows_in_part table place (take i rows)))
