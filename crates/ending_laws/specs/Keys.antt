-- The keys that a script names, and how many of some keys stand above one.
use Rattle.std.specs.Prelude.{ℕ, List, [], ◌∷◌, ◌++◌, length, map, flat_map, count_by, Option, Some, None, slice_get}
use Rattle.sql_base.specs.Keys.{key_lt}
use Rattle.sql_base.specs.Rows.{key_of}
use Rattle.sql_base.specs.declared.scripts.Load.{Load}
use Rattle.sql_base.specs.declared.scripts.Script.{Script}
use Rattle.sql_base.specs.declared.scripts.Work.{Work}
use Rattle.sql_base.specs.declared.statements.Statement.{Statement}
use Rattle.sql_base.specs.declared.statements.Statement.TheVariants.{Insert}
use Rattle.sql_base.specs.declared.tables.TableDef.{TableDef}
use Rattle.sql_base.specs.declared.values.Value.{Value}

-- the keys of rows of a table
abbrev pub keys_in : Option TableDef → List (List Value) → List (List ℕ)
keys_in (Some table) rows = map (key_of table) rows
keys_in None rows = []

abbrev pub loaded_keys : List TableDef → Load → List (List ℕ)
loaded_keys tables load = keys_in (slice_get tables load.table) load.rows

abbrev pub inserted_keys : List TableDef → Statement → List (List ℕ)
inserted_keys tables (Insert table row) = keys_in (slice_get tables table) (row ∷ [])
inserted_keys tables statement = []

abbrev pub keys_of_works : List TableDef → List Work → List (List ℕ)
keys_of_works tables works = flat_map (λ work. flat_map (inserted_keys tables) work.statements) works

-- the keys of all LOAD rows and of all INSERT rows of a script
abbrev pub keys_of_script : Script → List (List ℕ)
keys_of_script script = flat_map (loaded_keys script.tables) script.loads ++ flat_map (keys_of_works script.tables) script.sessions

-- how many of the keys stand above one
abbrev pub above : List (List ℕ) → List ℕ → ℕ
above keys key = count_by (key_lt key) keys

-- how many of the keys of a script stand above one, and how many there are
abbrev pub above_in : Script → List ℕ → ℕ
above_in script key = above (keys_of_script script) key

abbrev pub keys_count : Script → ℕ
keys_count script = length (keys_of_script script)
