-- What the statements of a script ask of a partition fits it.
use Rattle.std.specs.Prelude.{◌≡◌, ◌≤◌, ℕ, List, length, slice_get, Option, Some, true, ◌&&◌}
use Rattle.std.specs.List.{AllByRecursion}
use Rattle.sql_base.specs.Codes.{sets_code}
use Rattle.sql_base.specs.Rows.{kinds, key_of, key_width, unpacked}
use Rattle.sql_base.specs.Tables.{AreSets, IsFilter, IsStatement}
use Rattle.sql_base.specs.declared.expressions.Expr.{Expr}
use Rattle.sql_base.specs.declared.scripts.Script.{Script}
use Rattle.sql_base.specs.declared.statements.Assign.{Assign}
use Rattle.sql_base.specs.declared.statements.Statement.{Statement}
use Rattle.sql_base.specs.declared.tables.TableDef.{TableDef}
use Rattle.sql_base.specs.declared.values.Value.{Value}
use Rattle.dp_messages.specs.declared.requests.Ask.{Ask}
use Rattle.dp_messages.specs.declared.requests.Ask.TheVariants.{BeginRead, BeginUpdate, BeginDelete, ReadKey, Insert, LockGranule}
use Rattle.partition_state.specs.State.{State}
use Rattle.partition_state.specs.Step.{are_columns_here, is_key_here, is_shaped, may_change}
use Rattle.session_grammar.specs.Follows.{asker}
use Rattle.session_grammar.specs.Plans.{filter_code, plan_of, sents_of}
use Rattle.run_record.specs.Openings.{openings}

-- the code of a predicate of the table, and of a SET list
abbrev pub CarriesFilter : TableDef → Option (List ℕ) → Type 0
CarriesFilter table code = (predicate : Option Expr) × IsFilter table predicate × (code ≡ filter_code predicate)

abbrev pub CarriesSets : TableDef → List ℕ → Type 0
CarriesSets table code = (sets : List Assign) × AreSets table sets × (code ≡ sets_code sets)

-- a request with keys and columns of the partition, and with the codes of a predicate and a SET list
abbrev pub Fits : State → Ask → Type 0
Fits p (BeginRead access granule range predicate columns) = ((are_columns_here p columns && is_shaped p range granule) ≡ true) × CarriesFilter p.table predicate
Fits p (BeginUpdate access granule range predicate sets) = ((may_change access && is_shaped p range granule) ≡ true) × CarriesFilter p.table predicate × CarriesSets p.table sets
Fits p (BeginDelete access granule range predicate) = ((may_change access && is_shaped p range granule) ≡ true) × CarriesFilter p.table predicate
Fits p (ReadKey access key predicate columns) = ((is_key_here p key && are_columns_here p columns) ≡ true) × CarriesFilter p.table predicate
Fits p (Insert row) = (values : List Value) × (unpacked (kinds p.table) row ≡ Some values) × (is_key_here p (key_of p.table values) ≡ true)
Fits p (LockGranule prefix mode) = length prefix ≤ key_width p.table
Fits p other = Unit {0}

-- what plans ask of a partition fits it
abbrev pub PlansFit : Script → Type 0
PlansFit script =
    (session : ℕ) (statement : Statement) (part : ℕ) (p : State) → IsStatement script.tables statement → slice_get (openings script) part ≡ Some p
    → AllByRecursion (λ sent. sent.part ≡ part → Fits p sent.ask) (sents_of (plan_of (asker script session) statement))
