-- The verified CHECKs one after the other.
use Rattle.std.proofs.Common.{◌≡◌, ◌<◌, ℕ, ◌+◌, List, ◌∷◌, length, map, drop, get_or, ap, sym, ◌∙◌}
use Rattle.std.proofs.lemmas.List.{drop_more}
use Rattle.predicate_runner.specs.Outlines.{Checked}
use Rattle.sql_base.specs.OnRows.{failing_from, check_fault, or_later}
use Rattle.sql_base.specs.Val.{val}
use Rattle.sql_base.specs.declared.values.Value.{Value}
use Rattle.constraint_checks.specs.Judging.{tree_of}

-- the CHECK at a place, and those behind it
pub at_place : (checks : List Checked) (i : ℕ) (check : Checked) (row : List Value) → i < length checks → check ≡ get_or checks i check
    → failing_from (i + 1) (map tree_of (drop i checks)) row ≡ or_later (check_fault (i + 1) (val check.tree row)) (failing_from (i + 1 + 1) (map tree_of (drop (i + 1) checks)) row)
at_place checks i check row within is =
    ap (λ (xs : List Checked). failing_from (i + 1) (map tree_of xs) row) (drop_more checks i check within ∙ ap (λ (x : Checked). x ∷ drop (i + 1) checks) (sym is))
