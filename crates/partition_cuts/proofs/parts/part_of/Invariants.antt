use Rattle.std.proofs.Common.{◌≡◌, ◌+◌, drop, map}
use Rattle.std.specs.Prelude.{count_by}
use Rattle.sql_base.specs.Keys.{key_le}
use Rattle.sql_base.specs.Tables.{first_key}
use Rattle.partition_map.specs.Map.{part_of}
use Rattle.partition_cuts.proofs.parts.part_of.Given as goal

-- with the first keys that are left it is the whole count
abbrev pub invariant-loop-first : goal.invariant-loop-first
invariant-loop-first l = l.part + count_by (λ first. key_le first l.key) (map (first_key l.table) (drop l.first-index l.table.firsts)) ≡ part_of l.table l.key
