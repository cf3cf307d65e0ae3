-- What the reader knows of a well-typed expression describes it.
use Rattle.std.proofs.Common.{◌≡◌, ◌≤◌, ℕ, ℤ, pos, negsuc, min, length, ◌+◌, cond, Bool, true, false, ◌||◌, Option, Some, None, refl, sym, ap, subst, ◌∙◌, arith}
use Rattle.std.specs.Prelude.{◌&&◌, is_some, nat_le, nat_lt}
use Rattle.std.proofs.lemmas.Bool.Decides.{nat_tests}
use Rattle.sql_base.proofs.Trees.{fold-Number, fold-Text, fold-Column, fold-Arith, fold-Compare, fold-And, fold-Or, fold-Not}
use Rattle.sql_base.specs.Codes.{code_of}
use Rattle.sql_base.specs.Kinds.{Kind, OfText, IsExpr, kind_of, kind_step, depth_of}
use Rattle.sql_base.specs.Rows.{is_printable}
use Rattle.sql_base.specs.declared.expressions.Expr.{Expr}
use Rattle.sql_base.specs.declared.expressions.Expr.TheOpen.{Expr-F}
use Rattle.sql_base.specs.declared.tables.TableDef.{TableDef}
use Rattle.statement_draft.specs.Describing.{DescribesItsTree}
use Rattle.statement_draft.specs.declared.kinds.Op.TheVariants as op
use Rattle.statement_draft.specs.declared.kinds.Operand.{Operand}
use Rattle.statement_draft.proofs.Summaries.{binary_describes, name_describes, negation_describes, negative_describes, number_describes, text_describes}
use Rattle.statement_round_trip.specs.Rereading.{summary, summary_step, int_operand}
use Rattle.statement_round_trip.proofs.Leaves.{both_of_arith, both_of_compare, both_of_truths}
use Rattle.statement_round_trip.proofs.ExpressionsRead.{Cases, expr_induction}
use Rattle.sql_base.proofs.Truths.{neither}

-- a well-typed expression is described by what the reader knows of it
abbrev Described : TableDef → Expr → Type 0
Described table e = is_some (kind_of table e) ≡ true → DescribesItsTree table (summary table.columns e)

moved : (table : TableDef) (a b : Option Kind) (x y : Operand) → a ≡ b → x ≡ y → (is_some b ≡ true → DescribesItsTree table y) → is_some a ≡ true → DescribesItsTree table x
moved table a b x y p q given h = subst (DescribesItsTree table) (sym q) (given (ap is_some (sym p) ∙ h))

int_describes : (table : TableDef) (n : ℤ) → DescribesItsTree table (int_operand n)
int_describes table (pos n) = number_describes table n
int_describes table (negsuc n) = negative_describes table _

both_tests : (a b : Bool) (k : Kind) → is_some (cond (a && b) (Some k) None) ≡ true → (a ≡ true) × (b ≡ true)
both_tests true true k h = (refl, refl)
both_tests true false k h = absurd (cc (h))
both_tests false b k h = absurd (cc (h))

module _ (table : TableDef) where
  abbrev fk : Expr-F (Option Kind) → Option Kind
  fk = kind_step table

  abbrev fs : Expr-F Operand → Operand
  fs = summary_step table.columns

  abbrev sum : Expr → Operand
  sum e = summary table.columns e

  described : Cases (Described table)
  described = record {
    number = λ n. moved table _ _ _ _ (fold-Number (Option Kind) fk n) (fold-Number Operand fs n) (λ h. int_describes table n);
    text = λ t. moved table _ _ _ _ (fold-Text (Option Kind) fk t) (fold-Text Operand fs t)
        (λ h. let both = both_tests (nat_le (length t) 255) (is_printable t) (OfText (length t)) h in text_describes table t both.0 both.1);
    column = λ c. moved table _ _ _ _ (fold-Column (Option Kind) fk c) (fold-Column Operand fs c) (λ h. name_describes table (Some c));
    arithmetic = λ o a b l r. moved table _ _ _ _ (fold-Arith (Option Kind) fk o a b) (fold-Arith Operand fs o a b)
        (λ h. let both = both_of_arith (kind_of table a) (kind_of table b) h in binary_describes table (op.Arith o) (sum a) (sum b) (l both.0) (r both.1));
    comparison = λ o a b l r. moved table _ _ _ _ (fold-Compare (Option Kind) fk o a b) (fold-Compare Operand fs o a b)
        (λ h. let both = both_of_compare (kind_of table a) (kind_of table b) h in binary_describes table (op.Compare o) (sum a) (sum b) (l both.0) (r both.1));
    conjunction = λ a b l r. moved table _ _ _ _ (fold-And (Option Kind) fk a b) (fold-And Operand fs a b)
        (λ h. let both = both_of_truths (kind_of table a) (kind_of table b) h in binary_describes table op.And (sum a) (sum b) (l both.0) (r both.1));
    disjunction = λ a b l r. moved table _ _ _ _ (fold-Or (Option Kind) fk a b) (fold-Or Operand fs a b)
        (λ h. let both = both_of_truths (kind_of table a) (kind_of table b) h in binary_describes table op.Or (sum a) (sum b) (l both.0) (r both.1));
    negated = λ a l. moved table _ _ _ _ (fold-Not (Option Kind) fk a) (fold-Not Operand fs a)
        (λ h. negation_describes table (sum a) (l (both_of_truths (kind_of table a) (kind_of table a) h).0));
  }

pub summary_describes : (table : TableDef) (e : Expr) (k : Kind) → kind_of table e ≡ Some k → DescribesItsTree table (summary table.columns e)
summary_describes table e k h = expr_induction (Described table) (described table) e (ap is_some h)

counted : (most d m : ℕ) → d ≡ min (most + 1) m → m ≤ most → nat_lt most d ≡ false
counted most d m e h = grind (arith, nat_tests, e, h)

pub small : (table : TableDef) (e : Expr) (x : Operand) (k : Kind) → IsExpr table k e → DescribesItsTree table x → x.tree ≡ Some e → nat_lt 32 x.depth || nat_lt 8192 x.code ≡ false
small table e x k is d tree = let told = d e tree in
    neither (nat_lt 32 x.depth) (nat_lt 8192 x.code) (counted 32 x.depth (depth_of e) told.depth is.depth) (counted 8192 x.code (length (code_of e)) told.code is.code)
