use Rattle.std.proofs.Common.{◌≡◌, drop}
use Rattle.std.specs.Prelude.{nat_eq}
use Rattle.sql_base.specs.Tables.{all_differ}
use Rattle.update_expressions.specs.declared.verifying.VerifiedSet.{VerifiedSet}
use Rattle.update_expressions.proofs.verifying.columns_differ.Given as goal

-- those that are left differ exactly where all do
abbrev pub invariant-loop-place : goal.invariant-loop-place
invariant-loop-place l = all_differ (λ (a b : VerifiedSet). nat_eq a.column b.column) (drop l.place l.sets) ≡ all_differ (λ (a b : VerifiedSet). nat_eq a.column b.column) l.sets
