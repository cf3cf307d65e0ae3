use Rattle.std.proofs.Common.{◌≡◌, drop}
use Rattle.sql_base.specs.Locks.{first_conflict}
use Rattle.lock_tables.proofs.rows.first_in.Given as goal

-- the first from here on is the first of all
abbrev pub invariant-loop-lock : goal.invariant-loop-lock
invariant-loop-lock l =
    first_conflict l.run l.holder l.prefix l.mode ≡ first_conflict (drop l.lock-index l.run) l.holder l.prefix l.mode
