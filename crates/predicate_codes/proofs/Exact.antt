-- Bytes are read exactly where they are the code of an expression.
use Rattle.std.proofs.Common.{◌≡◌, ℕ, List, length, Some, None, Option, Bool, true, false, refl, ap, sym, subst, ◌∙◌, arith}
use Rattle.std.specs.Prelude.{option_and_then, option_map, nat_le, if◌then◌else◌}
use Rattle.std.proofs.lemmas.Bool.{leb-true, le-leb}
use Rattle.std.proofs.lemmas.Option.{same_Some, option_and_then_some}
use Rattle.sql_base.specs.Codes.{code_of}
use Rattle.sql_base.specs.Kinds.{Kind, OfNumber, OfText, OfTruth, IsExpr}
use Rattle.sql_base.specs.Tables.{IsFilter}
use Rattle.sql_base.specs.declared.expressions.Expr.{Expr}
use Rattle.sql_base.specs.declared.tables.TableDef.{TableDef}
use Rattle.predicate_codes.specs.Decoding.{Operand, decoded, read_code, expr_of, if_truth, predicate_in, filter_of}
use Rattle.predicate_codes.specs.Laws.{OneExpression, ReadsCodes, ReadsPredicates, ReadsFilters}
use Rattle.predicate_codes.proofs.Complete.{operand_of, decoded-code}
use Rattle.predicate_codes.proofs.Sound.{decoded-some}

pub option_map-some : {A B : Type 0} (f : A → B) (o : Option A) (y : B) → option_map f o ≡ Some y → (x : A) × (o ≡ Some x) × (f x ≡ y)
option_map-some f None y e = absurd (cc)
option_map-some f (Some x) y e = (x, refl, same_Some (f x) y e)

if_then : {A : Type 0} (b : Bool) (o : Option A) (y : A) → (if b then o else None) ≡ Some y → (b ≡ true) × (o ≡ Some y)
if_then true o y e = (refl, e)
if_then false o y e = absurd (cc)

-- the definition, to be cited where it isn't to be unfolded
pub read_code-is : (table : TableDef) (code : List ℕ) → read_code table code ≡ (if nat_le (length code) 8192 then decoded table 32 code else None)
unfolding read_code
read_code-is table code = refl

-- an operand that was read is an expression of its kind
pub read_code-some : (table : TableDef) (code : List ℕ) (o : Operand) → read_code table code ≡ Some o → IsExpr table o.kind o.tree × (code ≡ code_of o.tree)
read_code-some table code o e =
    let parts = if_then (nat_le (length code) 8192) (decoded table 32 code) o (sym (read_code-is table code) ∙ e) in
    let read = decoded-some table 32 code o parts.1 in
    (record { typed = read.0.read.typed; depth = omega (arith, read.0.fits, read.0.read.depth); code = omega (arith, leb-true (length code) 8192 parts.0, ap length read.1) }, sym read.1)

-- and each is read
pub read_code-code : (table : TableDef) (kind : Kind) (e : Expr) → IsExpr table kind e → read_code table (code_of e) ≡ Some (operand_of kind e)
read_code-code table kind e is =
    let short : nat_le (length (code_of e)) 8192 ≡ true = le-leb (length (code_of e)) 8192 is.code in
    read_code-is table (code_of e) ∙ rw short (decoded-code table 32 e kind is.typed is.depth (omega (arith, is.code)))

pub reads_codes : ReadsCodes
reads_codes table code e = (there, back)
  where
    there : expr_of table code ≡ Some e → ((kind : Kind) × IsExpr table kind e) × (code ≡ code_of e)
    there read =
        let parts = option_map-some (λ (o : Operand). o.tree) (read_code table code) e read in
        let is = read_code-some table code parts.0 parts.1 in
        subst (λ (t : Expr). ((kind : Kind) × IsExpr table kind t) × (code ≡ code_of t)) parts.2 ((parts.0.kind, is.0), is.1)

    back : ((kind : Kind) × IsExpr table kind e) × (code ≡ code_of e) → expr_of table code ≡ Some e
    back is = ap (expr_of table) is.1 ∙ ap (option_map (λ (o : Operand). o.tree)) (read_code-code table is.0.0 e is.0.1)

if_truth-some : (kind : Kind) (tree e : Expr) → if_truth kind tree ≡ Some e → (kind ≡ OfTruth) × (tree ≡ e)
if_truth-some OfTruth tree e is = (refl, same_Some tree e is)
if_truth-some OfNumber tree e is = absurd (cc)
if_truth-some (OfText width) tree e is = absurd (cc)

pub reads_predicates : ReadsPredicates
reads_predicates table code e = (there, back)
  where
    there : predicate_in table code ≡ Some e → IsExpr table OfTruth e × (code ≡ code_of e)
    there read = option_and_then_some (λ (o : Operand). if_truth o.kind o.tree) (read_code table code) e read (λ o at truth.
        let is = read_code-some table code o at in
        let parts = if_truth-some o.kind o.tree e truth in
        subst (λ (t : Expr). IsExpr table OfTruth t × (code ≡ code_of t)) parts.1 (subst (λ kind. IsExpr table kind o.tree) parts.0 is.0, is.1))

    back : IsExpr table OfTruth e × (code ≡ code_of e) → predicate_in table code ≡ Some e
    back is = ap (predicate_in table) is.1 ∙ ap (option_and_then (λ (o : Operand). if_truth o.kind o.tree)) (read_code-code table OfTruth e is.0)

filter-some : (table : TableDef) (code : Option (List ℕ)) (filter : Option Expr) → filter_of table code ≡ Some filter → IsFilter table filter × (code ≡ option_map code_of filter)
filter-some table None None e = (tt, refl)
filter-some table None (Some f) e = absurd (cc)
filter-some table (Some code) None e =
    let parts = option_map-some (λ (f : Expr). Some f) (predicate_in table code) None e in
    absurd (let no : Some parts.0 ≡ None = parts.2 in cc)
filter-some table (Some code) (Some f) e =
    let parts = option_map-some (λ (f : Expr). Some f) (predicate_in table code) (Some f) e in
    let is = (reads_predicates table code f).0 (parts.1 ∙ parts.2) in
    (is.0, ap Some is.1)

filter-code : (table : TableDef) (filter : Option Expr) → IsFilter table filter → filter_of table (option_map code_of filter) ≡ Some filter
filter-code table None is = refl
filter-code table (Some f) is = ap (option_map (λ (f : Expr). Some f)) ((reads_predicates table (code_of f) f).1 (is, refl))

pub reads_filters : ReadsFilters
reads_filters table code filter = (filter-some table code filter, λ is. ap (filter_of table) is.1 ∙ filter-code table filter is.0)

pub one_expression : OneExpression
one_expression table k j e f is_e is_f same =
    ap (λ (o : Operand). o.tree) (same_Some (operand_of k e) (operand_of j f) (sym (read_code-code table k e is_e) ∙ ap (read_code table) same ∙ read_code-code table j f is_f))
