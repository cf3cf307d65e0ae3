-- Which codes are read, and as what.
use Rattle.std.proofs.Common.{◌≡◌, ℕ, List, Option, Some, None, refl, ap, sym, ◌∙◌, subst}
use Rattle.std.specs.Option.{option_map}
use Rattle.sql_base.specs.Codes.{code_of, sets_code}
use Rattle.sql_base.specs.Kinds.{Kind, OfTruth, IsExpr, kind_of}
use Rattle.sql_base.specs.Tables.{AreSets}
use Rattle.sql_base.specs.declared.expressions.Expr.{Expr}
use Rattle.sql_base.specs.declared.statements.Assign.{Assign}
use Rattle.sql_base.specs.declared.tables.TableDef.{TableDef}
use Rattle.predicate_codes.specs.Decoding.{filter_of, predicate_in}
use Rattle.predicate_codes.specs.SetLists.{sets_of}
use Rattle.predicate_codes.proofs.Exact.{one_expression, reads_predicates}
use Rattle.predicate_codes.proofs.ExactSets.{reads_sets}
use Rattle.quantum_core.specs.declared.works.Doing.{Doing}
use Rattle.quantum_core.specs.declared.works.SetWork.{SetWork}
use Rattle.partition_state.specs.Step.{set_work}

-- a verified truth value is a predicate
pub predicate-read : (table : TableDef) (code : List ℕ) (kind : Kind) (e : Expr) → IsExpr table kind e → code ≡ code_of e → kind ≡ OfTruth → (filter_of table (Some code) ≡ Some (Some e)) × IsExpr table OfTruth e
predicate-read table code kind e is same truth =
    let is_truth : IsExpr table OfTruth e = subst (λ k. IsExpr table k e) truth is in
    (ap (option_map Some) ((reads_predicates table code e).1 (is_truth, same)), is_truth)

-- a verified expression of another kind isn't
pub predicate-other : (table : TableDef) (code : List ℕ) (kind : Kind) (e : Expr) → IsExpr table kind e → code ≡ code_of e → (kind ≡ OfTruth → ⊥) → filter_of table (Some code) ≡ None
predicate-other table code kind e is same other = at (predicate_in table code) refl
  where
    at : (o : Option Expr) → predicate_in table code ≡ o → option_map Some o ≡ None
    at None told = refl
    at (Some f) told =
        let read = (reads_predicates table code f).0 told in
        let equal : f ≡ e = one_expression table OfTruth kind f e read.0 is (sym read.1 ∙ same) in
        let kinds : Some OfTruth ≡ Some kind = sym read.0.typed ∙ ap (kind_of table) equal ∙ is.typed in
        let truth : kind ≡ OfTruth = cc in
        absurd (other truth)

-- nor is what is no code
pub predicate-none : (table : TableDef) (code : List ℕ) → ((kind : Kind) (e : Expr) → IsExpr table kind e → code ≡ code_of e → ⊥) → filter_of table (Some code) ≡ None
predicate-none table code bad = at (predicate_in table code) refl
  where
    at : (o : Option Expr) → predicate_in table code ≡ o → option_map Some o ≡ None
    at None told = refl
    at (Some f) told = let read = (reads_predicates table code f).0 told in absurd (bad OfTruth f read.0 read.1)

pub sets-read : (table : TableDef) (code : List ℕ) (sets : List Assign) → AreSets table sets → code ≡ sets_code sets → sets_of table code ≡ Some sets
sets-read table code sets are same = (reads_sets table code sets).1 (are, same)

pub sets-none : (table : TableDef) (code : List ℕ) → ((sets : List Assign) → AreSets table sets → code ≡ sets_code sets → ⊥) → sets_of table code ≡ None
sets-none table code bad = at (sets_of table code) refl
  where
    at : (o : Option (List Assign)) → sets_of table code ≡ o → o ≡ None
    at None told = refl
    at (Some sets) told = let read = (reads_sets table code sets).0 told in absurd (bad sets read.0 read.1)

-- without one of the two there is no work
pub no-doing : (filter : Option (Option Expr)) → set_work filter None ≡ None
no-doing None = refl
no-doing (Some f) = refl

pub work-is : (work : SetWork) (filter : Option Expr) (doing : Doing) → work.filter ≡ filter → work.doing ≡ doing → Some work ≡ set_work (Some filter) (Some doing)
work-is work filter doing f d = ap (λ x. Some (the-work x work.doing)) f ∙ ap (λ x. Some (the-work filter x)) d
  where
    the-work : Option Expr → Doing → SetWork
    the-work f d = record { filter = f; doing = d }
