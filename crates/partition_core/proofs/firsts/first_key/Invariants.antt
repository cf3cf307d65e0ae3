use Rattle.std.proofs.Common.{◌≡◌, ◌++◌, take}
use Rattle.std.specs.Prelude.{replicate}
use Rattle.sql_base.specs.Rows.{key_kinds, key_values}
use Rattle.partition_core.proofs.firsts.first_key.Given as goal

-- the literals so far
abbrev pub invariant-loop-at : goal.invariant-loop-at
invariant-loop-at l = l.key.items ≡ key_values (key_kinds l.table) (take l.at l.literals)

-- and bytes 00 so far
abbrev pub invariant-loop : goal.invariant-loop
invariant-loop l = l.key.items ≡ key_values (key_kinds l.table) l.first ++ replicate l.counter 0
