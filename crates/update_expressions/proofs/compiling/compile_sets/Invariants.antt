use Rattle.std.proofs.Common.{◌≡◌, take, drop}
use Rattle.update_expressions.specs.Refusing.{fault_behind, first_set_fault}
use Rattle.update_expressions.proofs.compiling.compile_sets.Given as goal

-- the first fault of all is that of those that are left
abbrev pub invariant-loop-place : goal.invariant-loop-place
invariant-loop-place l = fault_behind l.table (take l.place l.sets) (drop l.place l.sets) ≡ first_set_fault l.table l.sets
