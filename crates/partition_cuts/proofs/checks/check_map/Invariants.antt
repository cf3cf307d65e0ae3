use Rattle.std.proofs.Common.{◌≡◌, drop}
use Rattle.sql_base.specs.Tables.{first_keys}
use Rattle.partition_cuts.specs.Checks.{falls, not_rising}
use Rattle.partition_cuts.proofs.checks.check_map.Given as goal

-- the first keys so far rise, so the rest decides
abbrev pub invariant-loop-place : goal.invariant-loop-place
invariant-loop-place l = not_rising l.table ≡ falls l.place l.before (drop l.place (first_keys l.table))
