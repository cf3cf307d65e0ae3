use Rattle.std.proofs.Common.{◌≡◌, map, take}
use Rattle.sql_base.specs.Tables.{first_key}
use Rattle.partition_core.proofs.firsts.first_keys.Given as goal

-- the first keys so far
abbrev pub invariant-loop-first : goal.invariant-loop-first
invariant-loop-first l = l.keys ≡ map (first_key l.table) (take l.first-index l.first-items)
