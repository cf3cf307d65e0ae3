-- The tables, rows and statements of a script that was read.
use Rattle.std.proofs.Common.{◌≡◌, ◌≤◌, ◌<◌, ◌+◌, ℕ, zero, suc, List, [], ◌∷◌, length, get_or, take, Some, refl, ap, sym, subst, arith}
use Rattle.std.specs.Prelude.{All, slice_get, true}
use Rattle.std.specs.List.{AllByRecursion}
use Rattle.std.proofs.lemmas.List.Elements.{All-from_recursion}
use Rattle.sql_base.specs.Rows.{AreRecords, key_kinds}
use Rattle.sql_base.specs.Scripts.{IsLoad, IsScript, parts_of}
use Rattle.sql_base.specs.Tables.{IsStatement, IsTable, SuitsTable, are_leading, table_of}
use Rattle.sql_base.specs.declared.scripts.Load.{Load}
use Rattle.sql_base.specs.declared.scripts.Script.{Script}
use Rattle.sql_base.specs.declared.scripts.Work.{Work}
use Rattle.sql_base.specs.declared.statements.Statement.{Statement}
use Rattle.sql_base.specs.declared.tables.TableDef.{TableDef}
use Rattle.sql_base.proofs.ListFacts.{all_at}
use Rattle.sql_base.proofs.RowFacts.{parts_within}

pub table_at : (script : Script) (place : ℕ) (table : TableDef) → IsScript script → slice_get script.tables place ≡ Some table → IsTable table
table_at script place table is at = all_at IsTable script.tables place table is.tables at

pub rows_at : (script : Script) (load : Load) (rest : List Load) (table : TableDef) → IsScript script → script.loads ≡ load ∷ rest
    → slice_get script.tables load.table ≡ Some table → AreRecords table load.rows
rows_at script load rest table is first at =
    let h : AllByRecursion (IsLoad script.tables) (load ∷ rest) = subst (AllByRecursion (IsLoad script.tables)) first is.loads in
    let found : slice_get script.tables load.table ≡ Some h.0.0 = h.0.1 in
    let same : h.0.0 ≡ table = cc in
    subst (λ t. AreRecords t load.rows) same h.0.3

-- the one table of a script
pub one_table : (script : Script) (table : TableDef) → IsScript script → script.tables ≡ table ∷ [] → IsTable table
one_table script table is one = let h : AllByRecursion IsTable (table ∷ []) = subst (AllByRecursion IsTable) one is.tables in h.0

pub few_firsts : (script : Script) (table : TableDef) → IsScript script → script.tables ≡ table ∷ [] → length table.firsts ≤ 15
few_firsts script table is one =
    let most : parts_of (table ∷ []) ≤ 16 = subst (λ ts. parts_of ts ≤ 16) one is.parts in
    let own : parts_of (take 0 (table ∷ [])) + (length table.firsts + 1) ≤ parts_of (table ∷ []) = parts_within (table ∷ []) 0 table refl in
    let none : parts_of (take 0 (table ∷ [])) ≡ 0 = refl in
    omega (arith, most, own, none)

-- of one thing there is no second
only_one : (table other : TableDef) (place : ℕ) → slice_get (table ∷ []) place ≡ Some other → other ≡ table
only_one table other zero is = cc
only_one table other (suc place) is = absurd (cc is)

-- a statement of a script with one table suits that table
pub suits_at : (script : Script) (table : TableDef) (works : List Work) (rest : List (List Work)) (work : Work) (more : List Work) (at : ℕ) (statement : Statement)
    → IsScript script → script.tables ≡ table ∷ [] → script.sessions ≡ works ∷ rest → works ≡ work ∷ more → slice_get work.statements at ≡ Some statement → SuitsTable table statement
suits_at script table works rest work more at statement is one first second found =
    let OfWork : Work → Type 0 = λ w. AllByRecursion (IsStatement script.tables) w.statements in
    let sessions : AllByRecursion (λ ws. AllByRecursion OfWork ws) (works ∷ rest) = subst (AllByRecursion (λ ws. AllByRecursion OfWork ws)) first is.statements in
    let own : AllByRecursion OfWork (work ∷ more) = subst (AllByRecursion OfWork) second sessions.0 in
    let s : IsStatement script.tables statement = all_at (IsStatement script.tables) work.statements at statement own.0 found in
    let place : slice_get (table ∷ []) (table_of statement) ≡ Some s.0 = subst (λ ts. slice_get ts (table_of statement) ≡ Some s.0) one s.1 in
    subst (λ t. SuitsTable t statement) (only_one table s.0 (table_of statement) place) s.2

pub columns_within : (table : TableDef) → IsTable table → All (λ c. c < length table.columns) table.key
columns_within table is = All-from_recursion (λ c. c < length table.columns) table.key is.key.within

pub leading : (table : TableDef) → IsTable table → All (λ first. are_leading (key_kinds table) first ≡ true) table.firsts
leading table is = All-from_recursion (λ first. are_leading (key_kinds table) first ≡ true) table.firsts is.firsts.leading

-- a list that has an element begins with its first one
pub begins : {A : Type 0} (xs : List A) (x : A) → 1 ≤ length xs → x ≡ get_or xs 0 x → (rest : List A) × (xs ≡ x ∷ rest)
begins [] x some is = absurd (omega (arith, some))
begins {A} (y ∷ ys) x some is = (ys, ap (λ (z : A). z ∷ ys) (sym is))
