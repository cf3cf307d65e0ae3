-- How the partitions of a table open.
use Rattle.std.specs.Prelude.{◌+◌, List, length, map}
use Rattle.std.specs.List.{range_with_len}
use Rattle.sql_base.specs.declared.scripts.Limits.{Limits}
use Rattle.sql_base.specs.declared.tables.TableDef.{TableDef}
use Rattle.sql_base.specs.declared.values.Value.{Value}
use Rattle.partition_state.specs.State.{State, opening}
use Rattle.run_record.specs.Openings.{rows_in_part}

-- the partitions of one table
abbrev pub table_openings : Limits → TableDef → List (List Value) → List State
table_openings limits table rows = map (λ place. opening table place limits (rows_in_part table place rows)) (range_with_len 0 (length table.firsts + 1))
