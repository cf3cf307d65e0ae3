-- The partitions of the tables before a place, and what holds of the table there.
use Rattle.std.proofs.Common.{◌≡◌, ◌≤◌, ◌<◌, ℕ, zero, suc, ◌+◌, List, [], ◌∷◌, length, take, Some, ap, ◌∙◌, subst, arith}
use Rattle.std.specs.Prelude.{slice_get}
use Rattle.std.specs.List.{AllByRecursion}
use Rattle.std.proofs.lemmas.List.Sums.{sum_by-cons}
use Rattle.sql_base.specs.Kinds.{Kind, IsExpr}
use Rattle.sql_base.specs.Scripts.{parts_of}
use Rattle.sql_base.specs.Tables.{AreSets, IsAssign}
use Rattle.sql_base.specs.declared.statements.Assign.{Assign}
use Rattle.sql_base.specs.declared.tables.TableDef.{TableDef}
use Rattle.update_expressions.specs.Refusing.{AreTyped}

-- one table more
pub parts_more : (tables : List TableDef) (place : ℕ) (table : TableDef) → slice_get tables place ≡ Some table → parts_of (take (place + 1) tables) ≡ parts_of (take place tables) + (length table.firsts + 1)
parts_more [] place table is = absurd (cc is)
parts_more (t ∷ tables) zero table is =
    let same : t ≡ table = cc is in
    let count : parts_of (t ∷ []) ≡ length t.firsts + 1 + 0 = sum_by-cons (λ (d : TableDef). length d.firsts + 1) t [] in
    let here : parts_of (t ∷ []) ≡ 0 + (length t.firsts + 1) = omega (arith, count) in
    subst (λ (x : TableDef). parts_of (t ∷ []) ≡ 0 + (length x.firsts + 1)) same here
parts_more (t ∷ tables) (suc place) table is =
    let more = parts_more tables place table is in
    let one : suc place + 1 ≡ suc (place + 1) = omega arith in
    let long : parts_of (t ∷ take (place + 1) tables) ≡ length t.firsts + 1 + parts_of (take (place + 1) tables) = sum_by-cons (λ (d : TableDef). length d.firsts + 1) t (take (place + 1) tables) in
    let front : parts_of (t ∷ take place tables) ≡ length t.firsts + 1 + parts_of (take place tables) = sum_by-cons (λ (d : TableDef). length d.firsts + 1) t (take place tables) in
    let all : parts_of (t ∷ take (place + 1) tables) ≡ parts_of (t ∷ take place tables) + (length table.firsts + 1) = omega (arith, more, long, front) in
    ap (λ n. parts_of (take n (t ∷ tables))) one ∙ all

-- the values of a SET list are well typed
each_typed : (table : TableDef) (sets : List Assign) → AllByRecursion (IsAssign table) sets → AllByRecursion (λ (set : Assign). (kind : Kind) × IsExpr table kind set.value) sets
each_typed table [] all = tt
each_typed table (set ∷ sets) all = ((all.0.1, all.0.5), each_typed table sets all.1)

pub sets_typed : (table : TableDef) (sets : List Assign) → AreSets table sets → AreTyped table sets
sets_typed table sets are = record { some = are.some; each = each_typed table sets are.each; code = are.code }
