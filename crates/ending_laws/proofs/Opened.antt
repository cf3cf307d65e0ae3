-- A partition opens with keys of the LOAD rows of the script.
use Rattle.std.proofs.Common.{◌≡◌, ◌+◌, ℕ, suc, List, [], ◌∷◌, length, map, Bool, true, false, Some, refl, ap, sym, ◌∙◌, subst, arith}
use Rattle.std.specs.Prelude.{◌==◌, slice_get, if◌then◌else◌}
use Rattle.std.specs.List.{AllByRecursion, range_with_len}
use Rattle.std.proofs.lemmas.Bool.{eqb-true}
use Rattle.sql_base.specs.Rows.{key_of}
use Rattle.sql_base.specs.declared.scripts.Load.{Load}
use Rattle.sql_base.specs.declared.scripts.Script.{Script}
use Rattle.sql_base.specs.declared.tables.TableDef.{TableDef}
use Rattle.sql_base.specs.declared.values.Value.{Value}
use Rattle.key_sequenced.specs.declared.Cell.{Cell}
use Rattle.one_thread.specs.One.{load_rows}
use Rattle.partition_state.specs.State.{State, new_cell, opening}
use Rattle.partition_map.specs.Map.{part_of}
use Rattle.run_record.specs.Openings.{openings, openings_from, rows_in_part}
use Rattle.ending_laws.specs.Keys.{keys_in, loaded_keys}
use Rattle.ending_laws.proofs.CellKeys.{KeysAre}
use Rattle.sql_base.proofs.ListFacts.{all-filter, all-map, all_at, all_joined, all_of}

module _ (P : List ℕ → Type 0) (script : Script) (all : AllByRecursion (λ (load : Load). AllByRecursion P (loaded_keys script.tables load)) script.loads) where
  abbrev HasRowKey : TableDef → List Value → Type 0
  HasRowKey table row = P (key_of table row)

  rows-keys : (table : TableDef) (rows : List (List Value)) → AllByRecursion P (map (key_of table) rows) → AllByRecursion (HasRowKey table) rows
  rows-keys table [] h = tt
  rows-keys table (row ∷ rows) h = (h.0, rows-keys table rows h.1)

  loads-keys : (place : ℕ) (table : TableDef) → slice_get script.tables place ≡ Some table → (loads : List Load) → AllByRecursion (λ (load : Load). AllByRecursion P (loaded_keys script.tables load)) loads
      → AllByRecursion (HasRowKey table) (load_rows loads place)
  loads-keys place table at [] h = tt
  loads-keys place table at (load ∷ loads) h =
      all_joined (HasRowKey table) (if load.table == place then load.rows else []) (load_rows loads place) (by_test (load.table == place) refl) (loads-keys place table at loads h.1)
    where
      by_test : (b : Bool) → (load.table == place) ≡ b → AllByRecursion (HasRowKey table) (if b then load.rows else [])
      by_test true e =
          let same = ap (slice_get script.tables) (eqb-true load.table place e) ∙ at in
          rows-keys table load.rows (subst (λ o. AllByRecursion P (keys_in o load.rows)) same h.0)
      by_test false e = tt

  opening-keys : (table : TableDef) (place : ℕ) (rows : List (List Value)) → AllByRecursion (HasRowKey table) rows → KeysAre P (opening table place script.limits (rows_in_part table place rows))
  opening-keys table place rows h =
      all-map (λ (cell : Cell). P cell.key) (new_cell table) (rows_in_part table place rows) (all-filter (HasRowKey table) (λ row. part_of table (key_of table row) == place) rows h)

  openings-keys : (tables : List TableDef) (a : ℕ) → ((i : ℕ) (table : TableDef) → slice_get tables i ≡ Some table → slice_get script.tables (a + i) ≡ Some table)
      → AllByRecursion (KeysAre P) (openings_from script.limits tables (map (load_rows script.loads) (range_with_len a (length tables))))
  openings-keys [] a at = tt
  openings-keys (table ∷ tables) a at =
      let zero_more : a + 0 ≡ a = omega arith in
      let here : slice_get script.tables a ≡ Some table = ap (slice_get script.tables) (sym zero_more) ∙ at 0 table refl in
      let open_at : ℕ → State = λ place. opening table place script.limits (rows_in_part table place (load_rows script.loads a)) in
      let places = range_with_len 0 (length table.firsts + 1) in
      let rows = loads-keys a table here script.loads all in
      all_joined (KeysAre P) (map open_at places) (openings_from script.limits tables (map (load_rows script.loads) (range_with_len (a + 1) (length tables))))
      (all-map (KeysAre P) open_at places (all_of (λ place. KeysAre P (open_at place)) (λ place. opening-keys table place (load_rows script.loads a) rows) places))
      (openings-keys tables (a + 1) (λ i t e. let more : a + suc i ≡ a + 1 + i = omega arith in ap (slice_get script.tables) (sym more) ∙ at (suc i) t e))

  pub opened-keys : (part : ℕ) (p : State) → slice_get (openings script) part ≡ Some p → KeysAre P p
  opened-keys part p there =
      all_at (KeysAre P) (openings script) part p (openings-keys script.tables 0 (λ i table e. let same : 0 + i ≡ i = omega arith in ap (slice_get script.tables) same ∙ e)) there
