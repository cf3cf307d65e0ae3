-- Codes of CHECKs, one after the other.
use Rattle.std.proofs.Common.{◌≡◌, ◌<◌, ◌++◌, ℕ, ◌+◌, List, [], ◌∷◌, length, take, get_or, map, ap, sym, ◌∙◌}
use Rattle.std.specs.List.{AllByRecursion}
use Rattle.std.proofs.lemmas.List.{map-append, take_more}
use Rattle.std.proofs.lemmas.Option.{same_Some}
use Rattle.sql_base.specs.Codes.{code_of}
use Rattle.sql_base.specs.Kinds.{OfTruth, IsExpr, kind_of}
use Rattle.sql_base.specs.declared.expressions.Expr.{Expr}
use Rattle.sql_base.specs.declared.tables.TableDef.{TableDef}
use Rattle.predicate_codes.proofs.Exact.{one_expression}
use Rattle.predicate_runner.specs.Outlines.{Checked}
use Rattle.constraint_checks.specs.Judging.{IsCheck, tree_of}

-- what is verified of the code of a CHECK is that CHECK
pub verified-check : (table : TableDef) (check : Expr) (v : Checked) → IsExpr table OfTruth check → IsExpr table v.kind v.tree → code_of v.tree ≡ code_of check → IsCheck table check v
verified-check table check v is read same =
    let tree : v.tree ≡ check = one_expression table v.kind OfTruth v.tree check read is same in
    (tree, same_Some v.kind OfTruth (sym read.typed ∙ ap (kind_of table) tree ∙ is.typed))

pub kinds-push : (checks : List Checked) (v : Checked) → AllByRecursion (λ (check : Checked). check.kind ≡ OfTruth) checks → v.kind ≡ OfTruth
    → AllByRecursion (λ (check : Checked). check.kind ≡ OfTruth) (checks ++ v ∷ [])
kinds-push [] v kinds is = (is, tt)
kinds-push (check ∷ checks) v kinds is = (kinds.0, kinds-push checks v kinds.1 is)

pub trees-more : (done : List Checked) (v : Checked) (checks : List Expr) (i : ℕ) (check : Expr) → map tree_of done ≡ take i checks → v.tree ≡ check → i < length checks → check ≡ get_or checks i check
    → map tree_of (done ++ v ∷ []) ≡ take (i + 1) checks
trees-more done v checks i check so_far tree within is =
    map-append tree_of done (v ∷ []) ∙ ap (λ xs. xs ++ v.tree ∷ []) so_far ∙ ap (λ (e : Expr). take i checks ++ e ∷ []) (tree ∙ is) ∙ sym (take_more checks i check within)
