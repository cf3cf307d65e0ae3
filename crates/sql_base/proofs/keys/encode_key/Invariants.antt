use Rattle.std.proofs.Common.{◌≡◌, drop}
use Rattle.std.specs.Prelude.{filter_map, slice_get}
use Rattle.sql_base.specs.KeyFaults.{first_key_fault, key_fault_at}
use Rattle.sql_base.proofs.keys.encode_key.Given as goal

-- the first fault is that of the key columns that are left
abbrev pub invariant-loop-column : goal.invariant-loop-column
invariant-loop-column l = slice_get (filter_map (key_fault_at l.table l.row) (drop l.column-index l.column-items)) 0 ≡ first_key_fault l.table l.row
