use Rattle.std.proofs.Common.{◌≡◌, ◌≤◌, ◌+◌, drop}
use Rattle.std.specs.Prelude.{count_by}
use Rattle.sql_base.specs.Keys.{key_le}
use Rattle.partition_core.proofs.shapes.part_of.Given as goal

-- with the first keys that are left it is the whole count
abbrev pub invariant-loop-first : goal.invariant-loop-first
invariant-loop-first l = (l.part + count_by (λ first. key_le first l.key) (drop l.first-index l.firsts) ≡ count_by (λ first. key_le first l.key) l.firsts) × (l.part ≤ l.first-index)
