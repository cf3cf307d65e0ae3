-- Requests that suit a partition, and statements that ask nothing else.
use Rattle.std.specs.Prelude.{◌≡◌, ◌≤◌, ℕ, List, length, slice_get, Some, option_map, true, ◌&&◌}
use Rattle.std.specs.List.{AllByRecursion}
use Rattle.sql_base.specs.Rows.{kinds, key_of, key_width, unpacked}
use Rattle.sql_base.specs.Tables.{IsStatement}
use Rattle.sql_base.specs.declared.scripts.Script.{Script}
use Rattle.sql_base.specs.declared.statements.Statement.{Statement}
use Rattle.sql_base.specs.declared.values.Value.{Value}
use Rattle.quantum_core.specs.declared.works.Doing.TheVariants.{Read, Update, Delete}
use Rattle.quantum_core.specs.declared.works.SetWork.{SetWork}
use Rattle.dp_messages.specs.declared.requests.Ask.{Ask}
use Rattle.dp_messages.specs.declared.requests.Ask.TheVariants.{BeginRead, BeginUpdate, BeginDelete, ReadKey, Insert, LockGranule}
use Rattle.partition_state.specs.State.{State}
use Rattle.partition_state.specs.Step.{are_columns_here, is_key_here, is_shaped, may_change, set_work}
use Rattle.predicate_codes.specs.Decoding.{filter_of}
use Rattle.predicate_codes.specs.SetLists.{sets_of}
use Rattle.session_grammar.specs.Follows.{asker}
use Rattle.session_grammar.specs.Plans.{plan_of, sents_of}
use Rattle.run_record.specs.Openings.{openings}

-- a request with keys of the partition, and code that stands for something
abbrev pub Suits : State → Ask → Type 0
Suits p (BeginRead access granule range predicate columns) =
    (work : SetWork) × ((are_columns_here p columns && is_shaped p range granule) ≡ true) × (set_work (filter_of p.table predicate) (Some (Read columns)) ≡ Some work)
Suits p (BeginUpdate access granule range predicate sets) =
    (work : SetWork) × ((may_change access && is_shaped p range granule) ≡ true) × (set_work (filter_of p.table predicate) (option_map Update (sets_of p.table sets)) ≡ Some work)
Suits p (BeginDelete access granule range predicate) =
    (work : SetWork) × ((may_change access && is_shaped p range granule) ≡ true) × (set_work (filter_of p.table predicate) (Some Delete) ≡ Some work)
Suits p (ReadKey access key predicate columns) =
    (work : SetWork) × ((is_key_here p key && are_columns_here p columns) ≡ true) × (set_work (filter_of p.table predicate) (Some (Read columns)) ≡ Some work)
Suits p (Insert row) = (values : List Value) × (unpacked (kinds p.table) row ≡ Some values) × (is_key_here p (key_of p.table values) ≡ true)
Suits p (LockGranule prefix mode) = length prefix ≤ key_width p.table
Suits p other = Unit {0}

-- what the statements of a script ask of a partition suits it
abbrev pub PlansSuit : Script → Type 0
PlansSuit script =
    (session : ℕ) (statement : Statement) (part : ℕ) (p : State) → IsStatement script.tables statement → slice_get (openings script) part ≡ Some p
    → AllByRecursion (λ sent. sent.part ≡ part → Suits p sent.ask) (sents_of (plan_of (asker script session) statement))
