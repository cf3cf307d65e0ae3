use Rattle.std.proofs.Common.{◌≡◌, take}
use Rattle.sql_base.specs.Scripts.{parts_of}
use Rattle.statement_plans.proofs.targets.first_part.Given as goal

-- the partitions of the tables so far
abbrev pub invariant-loop-at : goal.invariant-loop-at
invariant-loop-at l = l.parts ≡ parts_of (take l.at l.tables)
