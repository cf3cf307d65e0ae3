use Rattle.std.proofs.Common.{◌≡◌, map, take}
use Rattle.std.specs.List.{AllByRecursion}
use Rattle.sql_base.specs.Kinds.{OfTruth}
use Rattle.predicate_runner.specs.Outlines.{Checked}
use Rattle.constraint_checks.specs.Judging.{tree_of}
use Rattle.constraint_checks.proofs.compile_checks.Given as goal

-- the CHECKs so far, each as a truth value
abbrev pub invariant-loop-check : goal.invariant-loop-check
invariant-loop-check l = (map tree_of l.checks ≡ take l.check-index l.check-items) × AllByRecursion (λ (check : Checked). check.kind ≡ OfTruth) l.checks
