use Rattle.std.proofs.Common.{◌≡◌, length}
use Rattle.sql_base.specs.Keys.{key_le}
use Rattle.sql_base.specs.Tables.{first_key}
use Rattle.partition_cuts.proofs.Comparing.{tail_from}
use Rattle.partition_cuts.proofs.parts.is_at_most.Given as goal

-- the literals so far stand in the key, so the rest decides
abbrev pub invariant-loop-at : goal.invariant-loop-at
invariant-loop-at l =
    (key_le (first_key l.table l.first) l.key ≡ key_le (tail_from l.table l.first l.at) l.rest) × (length l.rest ≡ length (tail_from l.table l.first l.at))
