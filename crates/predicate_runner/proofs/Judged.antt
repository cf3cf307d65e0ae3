-- What a verification tells of an expression, and what its value is not.
use Rattle.std.proofs.Common.{◌≡◌, ◌≤◌, ◌<◌, ℕ, List, length, true, Some, None, Ok, ap, sym, subst, ◌∙◌, arith}
use Rattle.std.specs.Prelude.{◌≢◌, nat_le}
use Rattle.std.proofs.lemmas.Bool.{le-leb}
use Rattle.sql_base.specs.Codes.{code_of}
use Rattle.sql_base.specs.Kinds.{Kind, OfNumber, OfText, OfTruth, IsExpr}
use Rattle.sql_base.specs.Rows.{IsRow}
use Rattle.sql_base.specs.Val.{IsNothing, val}
use Rattle.sql_base.specs.declared.expressions.Expr.{Expr}
use Rattle.sql_base.specs.declared.tables.TableDef.{TableDef}
use Rattle.sql_base.specs.declared.values.Value.{Value}
use Rattle.predicate_codes.specs.Decoding.{Operand, decoded}
use Rattle.predicate_codes.proofs.Complete.{decoded-code}
use Rattle.predicate_codes.proofs.Exact.{read_code-is, read_code-some}
use Rattle.predicate_codes.proofs.Typed.{IsOf, val-typed}

pub is_verified : (table : TableDef) (code : List ℕ) (o : Operand) → length code ≤ 8192 → decoded table 32 code ≡ Some o → IsExpr table o.kind o.tree × (code ≡ code_of o.tree)
is_verified table code o short e =
    let small : nat_le (length code) 8192 ≡ true = le-leb (length code) 8192 short in
    read_code-some table code o (read_code-is table code ∙ rw small e)

pub is_bad : (table : TableDef) (code : List ℕ) → decoded table 32 code ≡ None → (kind : Kind) (e : Expr) → IsExpr table kind e → code ≢ code_of e
is_bad table code none kind e is same =
    let read = ap (decoded table 32) same ∙ decoded-code table 32 e kind is.typed is.depth (omega (arith, is.code)) in absurd (cc)

pub is_long : (table : TableDef) (code : List ℕ) → 8192 < length code → (kind : Kind) (e : Expr) → IsExpr table kind e → code ≢ code_of e
is_long table code long kind e is same = omega (arith, is.code, ap length same)

not_nothing : (kind : Kind) → IsOf kind (Ok IsNothing) → ⊥
not_nothing OfNumber is = is
not_nothing (OfText width) is = is
not_nothing OfTruth is = is

-- a well-typed expression has a value of its kind
pub never_nothing : (table : TableDef) (row : List Value) (kind : Kind) (e : Expr) → IsRow table row → IsExpr table kind e → Ok IsNothing ≡ val e row → ⊥
never_nothing table row kind e is_row is nothing =
    not_nothing kind (subst (IsOf kind) (sym nothing) (val-typed table row is_row e kind is.typed))
