-- The CHECKs and the SETs one after the other.
use Rattle.std.proofs.Common.{◌≡◌, ◌<◌, ℕ, ◌+◌, List, [], ◌∷◌, ◌||◌, Bool, length, drop, get_or, Option, true, false, Ok, Err, refl, ap, ◌∙◌}
use Rattle.std.specs.List.{list_any}
use Rattle.std.specs.Option.{is_some}
use Rattle.sql_base.specs.OnRows.{failing_from, check_fault, or_later}
use Rattle.sql_base.specs.Val.{Outcome, IsNumber, IsText, IsTruth, IsNothing, val}
use Rattle.sql_base.specs.declared.expressions.Expr.{Expr}
use Rattle.sql_base.specs.declared.faults.Fault.{Fault}
use Rattle.sql_base.specs.declared.values.Value.{Value}
use Rattle.sql_base.proofs.ListFacts.{drop-within}

-- the CHECK at a place, and those behind it
pub at_place : (checks : List Expr) (i : ℕ) (check : Expr) (row : List Value) → i < length checks → check ≡ get_or checks i check
    → failing_from (i + 1) (drop i checks) row ≡ or_later (check_fault (i + 1) (val check row)) (failing_from (i + 1 + 1) (drop (i + 1) checks) row)
at_place checks i check row within is =
    ap (λ (xs : List Expr). failing_from (i + 1) xs row) (drop-within checks i check within is)

one_more : (number : ℕ) (o : Outcome) (rest : Bool) (later : Option Fault) → rest ≡ is_some later → (is_some (check_fault 1 o) || rest) ≡ is_some (or_later (check_fault number o) later)
one_more number (Err f) rest later e = refl
one_more number (Ok (IsTruth false)) rest later e = refl
one_more number (Ok (IsTruth true)) rest later e = e
one_more number (Ok (IsNumber n)) rest later e = refl
one_more number (Ok (IsText text)) rest later e = refl
one_more number (Ok IsNothing) rest later e = refl

-- a CHECK fails just where there is a first one that does
pub any-first : (number : ℕ) (checks : List Expr) (row : List Value) → list_any (λ check. is_some (check_fault 1 (val check row))) checks ≡ is_some (failing_from number checks row)
any-first number [] row = refl
any-first number (check ∷ checks) row =
    one_more number (val check row) (list_any (λ check. is_some (check_fault 1 (val check row))) checks) (failing_from (number + 1) checks row) (any-first (number + 1) checks row)
