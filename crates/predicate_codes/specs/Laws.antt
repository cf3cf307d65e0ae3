-- The laws of codes: which bytes are read, and as what; and what a SET list leaves of a row.
use Rattle.std.specs.Prelude.{◌≡◌, ◌↔◌, ℕ, List, Option, Some, option_map, Ok}
use Rattle.sql_base.specs.OnRows.{updated}
use Rattle.sql_base.specs.Rows.{IsRow}
use Rattle.sql_base.specs.declared.values.Value.{Value}
use Rattle.sql_base.specs.Codes.{code_of, sets_code}
use Rattle.sql_base.specs.Kinds.{Kind, OfTruth, IsExpr}
use Rattle.sql_base.specs.Tables.{AreSets, IsFilter}
use Rattle.sql_base.specs.declared.expressions.Expr.{Expr}
use Rattle.sql_base.specs.declared.statements.Assign.{Assign}
use Rattle.sql_base.specs.declared.tables.TableDef.{TableDef}
use Rattle.predicate_codes.specs.Decoding.{expr_of, predicate_in, filter_of}
use Rattle.predicate_codes.specs.SetLists.{sets_of}

-- bytes are read as an expression exactly where they are its code, and it is well typed and within the limits
abbrev pub ReadsCodes : Type 0
ReadsCodes =
    (table : TableDef) (code : List ℕ) (e : Expr)
    → (expr_of table code ≡ Some e) ↔ (((kind : Kind) × IsExpr table kind e) × (code ≡ code_of e))

abbrev pub ReadsPredicates : Type 0
ReadsPredicates =
    (table : TableDef) (code : List ℕ) (e : Expr)
    → (predicate_in table code ≡ Some e) ↔ (IsExpr table OfTruth e × (code ≡ code_of e))

-- the same of SET lists
abbrev pub ReadsSets : Type 0
ReadsSets =
    (table : TableDef) (code : List ℕ) (sets : List Assign)
    → (sets_of table code ≡ Some sets) ↔ (AreSets table sets × (code ≡ sets_code sets))

-- and of what a request names as its filter
abbrev pub ReadsFilters : Type 0
ReadsFilters =
    (table : TableDef) (code : Option (List ℕ)) (filter : Option Expr)
    → (filter_of table code ≡ Some filter) ↔ (IsFilter table filter × (code ≡ option_map code_of filter))

-- an UPDATE leaves a row of its table
abbrev pub KeepsRows : Type 0
KeepsRows =
    (table : TableDef) (sets : List Assign) (row new : List Value)
    → AreSets table sets → IsRow table row → updated table sets row ≡ Ok new → IsRow table new

-- a code stands for one expression at most
abbrev pub OneExpression : Type 0
OneExpression =
    (table : TableDef) (k j : Kind) (e f : Expr)
    → IsExpr table k e → IsExpr table j f → code_of e ≡ code_of f → e ≡ f
