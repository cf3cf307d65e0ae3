-- A well-typed expression is so for the reader.
use Rattle.std.proofs.Common.{◌≡◌, ℕ, ℤ, pos, negsuc, length, Bool, true, false, Option, Some, None, cond, refl, sym, ap, subst, ◌∙◌}
use Rattle.std.specs.Prelude.{slice_get, option_map, nat_le, ◌&&◌}
use Rattle.std.proofs.lemmas.Option.{slice_get-map}
use Rattle.sql_base.specs.Rows.{in_i64, is_printable}
use Rattle.sql_base.specs.Kinds as base
use Rattle.sql_base.specs.Kinds.{kind_of, kind_step, kind_of_column}
use Rattle.sql_base.specs.declared.expressions.Expr.{Expr}
use Rattle.sql_base.specs.declared.expressions.Expr.TheOpen.{Expr-F}
use Rattle.sql_base.specs.declared.tables.Column.{Column}
use Rattle.sql_base.specs.declared.tables.ColumnKind.TheVariants as column_kinds
use Rattle.sql_base.specs.declared.tables.ColumnKind.{ColumnKind}
use Rattle.sql_base.specs.declared.tables.TableDef.{TableDef}
use Rattle.sql_base.proofs.Trees.{fold-Number, fold-Text, fold-Column, fold-Arith, fold-Compare, fold-And, fold-Or, fold-Not}
use Rattle.statement_draft.specs.Describing.{meant}
use Rattle.statement_draft.specs.Expressions.{of_arith, of_compare, of_truths, column_kind}
use Rattle.statement_draft.specs.declared.kinds.Kind.{Kind}
use Rattle.statement_draft.specs.declared.kinds.Kind.TheVariants as kind
use Rattle.statement_draft.specs.declared.kinds.Operand.{Operand}
use Rattle.statement_round_trip.specs.Rereading.{summary, summary_step, int_operand, TypedForReader}
use Rattle.statement_round_trip.proofs.ExpressionsRead.{Cases, expr_induction}

-- where the first is a kind, the second means it
abbrev Agree : Option base.Kind → Option Kind → Type 0
Agree a x = (k : base.Kind) → a ≡ Some k → option_map meant x ≡ Some k

pub as_number : (x : Option Kind) → option_map meant x ≡ Some base.OfNumber → x ≡ Some kind.Number
as_number None h = absurd cc
as_number (Some kind.Number) h = refl
as_number (Some (kind.Text n)) h = absurd cc
as_number (Some kind.Truth) h = absurd cc

pub as_text : (x : Option Kind) (n : ℕ) → option_map meant x ≡ Some (base.OfText n) → x ≡ Some (kind.Text n)
as_text None n h = absurd cc
as_text (Some kind.Number) n h = absurd cc
as_text (Some (kind.Text m)) n h = let same : m ≡ n = cc in ap (λ (k : ℕ). Some (kind.Text k)) same
as_text (Some kind.Truth) n h = absurd cc

pub as_truth : (x : Option Kind) → option_map meant x ≡ Some base.OfTruth → x ≡ Some kind.Truth
as_truth None h = absurd cc
as_truth (Some kind.Number) h = absurd cc
as_truth (Some (kind.Text n)) h = absurd cc
as_truth (Some kind.Truth) h = refl

agree_of_arith : (a b : Option base.Kind) (x y : Option Kind) → Agree a x → Agree b y → Agree (base.of_arith a b) (of_arith x y)
agree_of_arith None None x y f g k h = absurd cc
agree_of_arith None (Some base.OfNumber) x y f g k h = absurd cc
agree_of_arith None (Some (base.OfText n)) x y f g k h = absurd cc
agree_of_arith None (Some base.OfTruth) x y f g k h = absurd cc
agree_of_arith (Some base.OfNumber) None x y f g k h = absurd cc
agree_of_arith (Some base.OfNumber) (Some base.OfNumber) x y f g k h =
    ap (λ (v : Option Kind). option_map meant (of_arith v y)) (as_number x (f base.OfNumber refl)) ∙ ap (λ (v : Option Kind). option_map meant (of_arith (Some kind.Number) v)) (as_number y (g base.OfNumber refl)) ∙ h
agree_of_arith (Some base.OfNumber) (Some (base.OfText n)) x y f g k h = absurd cc
agree_of_arith (Some base.OfNumber) (Some base.OfTruth) x y f g k h = absurd cc
agree_of_arith (Some (base.OfText m)) None x y f g k h = absurd cc
agree_of_arith (Some (base.OfText m)) (Some base.OfNumber) x y f g k h = absurd cc
agree_of_arith (Some (base.OfText m)) (Some (base.OfText n)) x y f g k h = absurd cc
agree_of_arith (Some (base.OfText m)) (Some base.OfTruth) x y f g k h = absurd cc
agree_of_arith (Some base.OfTruth) None x y f g k h = absurd cc
agree_of_arith (Some base.OfTruth) (Some base.OfNumber) x y f g k h = absurd cc
agree_of_arith (Some base.OfTruth) (Some (base.OfText n)) x y f g k h = absurd cc
agree_of_arith (Some base.OfTruth) (Some base.OfTruth) x y f g k h = absurd cc

agree_of_compare : (a b : Option base.Kind) (x y : Option Kind) → Agree a x → Agree b y → Agree (base.of_compare a b) (of_compare x y)
agree_of_compare None None x y f g k h = absurd cc
agree_of_compare None (Some base.OfNumber) x y f g k h = absurd cc
agree_of_compare None (Some (base.OfText n)) x y f g k h = absurd cc
agree_of_compare None (Some base.OfTruth) x y f g k h = absurd cc
agree_of_compare (Some base.OfNumber) None x y f g k h = absurd cc
agree_of_compare (Some base.OfNumber) (Some base.OfNumber) x y f g k h =
    ap (λ (v : Option Kind). option_map meant (of_compare v y)) (as_number x (f base.OfNumber refl)) ∙ ap (λ (v : Option Kind). option_map meant (of_compare (Some kind.Number) v)) (as_number y (g base.OfNumber refl)) ∙ h
agree_of_compare (Some base.OfNumber) (Some (base.OfText n)) x y f g k h = absurd cc
agree_of_compare (Some base.OfNumber) (Some base.OfTruth) x y f g k h = absurd cc
agree_of_compare (Some (base.OfText m)) None x y f g k h = absurd cc
agree_of_compare (Some (base.OfText m)) (Some base.OfNumber) x y f g k h = absurd cc
agree_of_compare (Some (base.OfText m)) (Some (base.OfText n)) x y f g k h =
    ap (λ (v : Option Kind). option_map meant (of_compare v y)) (as_text x m (f (base.OfText m) refl)) ∙ ap (λ (v : Option Kind). option_map meant (of_compare (Some (kind.Text m)) v)) (as_text y n (g (base.OfText n) refl)) ∙ h
agree_of_compare (Some (base.OfText m)) (Some base.OfTruth) x y f g k h = absurd cc
agree_of_compare (Some base.OfTruth) None x y f g k h = absurd cc
agree_of_compare (Some base.OfTruth) (Some base.OfNumber) x y f g k h = absurd cc
agree_of_compare (Some base.OfTruth) (Some (base.OfText n)) x y f g k h = absurd cc
agree_of_compare (Some base.OfTruth) (Some base.OfTruth) x y f g k h = absurd cc

agree_of_truths : (a b : Option base.Kind) (x y : Option Kind) → Agree a x → Agree b y → Agree (base.of_truths a b) (of_truths x y)
agree_of_truths None None x y f g k h = absurd cc
agree_of_truths None (Some base.OfNumber) x y f g k h = absurd cc
agree_of_truths None (Some (base.OfText n)) x y f g k h = absurd cc
agree_of_truths None (Some base.OfTruth) x y f g k h = absurd cc
agree_of_truths (Some base.OfNumber) None x y f g k h = absurd cc
agree_of_truths (Some base.OfNumber) (Some base.OfNumber) x y f g k h = absurd cc
agree_of_truths (Some base.OfNumber) (Some (base.OfText n)) x y f g k h = absurd cc
agree_of_truths (Some base.OfNumber) (Some base.OfTruth) x y f g k h = absurd cc
agree_of_truths (Some (base.OfText m)) None x y f g k h = absurd cc
agree_of_truths (Some (base.OfText m)) (Some base.OfNumber) x y f g k h = absurd cc
agree_of_truths (Some (base.OfText m)) (Some (base.OfText n)) x y f g k h = absurd cc
agree_of_truths (Some (base.OfText m)) (Some base.OfTruth) x y f g k h = absurd cc
agree_of_truths (Some base.OfTruth) None x y f g k h = absurd cc
agree_of_truths (Some base.OfTruth) (Some base.OfNumber) x y f g k h = absurd cc
agree_of_truths (Some base.OfTruth) (Some (base.OfText n)) x y f g k h = absurd cc
agree_of_truths (Some base.OfTruth) (Some base.OfTruth) x y f g k h =
    ap (λ (v : Option Kind). option_map meant (of_truths v y)) (as_truth x (f base.OfTruth refl)) ∙ ap (λ (v : Option Kind). option_map meant (of_truths (Some kind.Truth) v)) (as_truth y (g base.OfTruth refl)) ∙ h

agree_int : (n : ℤ) → Agree (Some base.OfNumber) (int_operand n).kind
agree_int (pos n) k h = h
agree_int (negsuc n) k h = h

chosen : (t : Bool) (a : base.Kind) (k : base.Kind) → cond t (Some a) None ≡ Some k → Some a ≡ Some k
chosen true a k h = h
chosen false a k h = absurd cc

agree_kind : (c : ColumnKind) → Agree (kind_of_column (Some c)) (Some (column_kind c))
agree_kind column_kinds.Int k h = h
agree_kind (column_kinds.Char n) k h = h

agree_found : (found : Option Column) → Agree (kind_of_column (option_map (λ column. column.kind) found)) (option_map (λ column. column_kind column.kind) found)
agree_found None k h = absurd cc
agree_found (Some column) k h = agree_kind column.kind k h

moved : (a b : Option base.Kind) (x y : Operand) → a ≡ b → x ≡ y → Agree b y.kind → Agree a x.kind
moved a b x y p q given = subst (λ (v : Option base.Kind). Agree v x.kind) (sym p) (subst (λ (v : Operand). Agree b v.kind) (sym q) given)

module _ (table : TableDef) where
  abbrev fk : Expr-F (Option base.Kind) → Option base.Kind
  fk = kind_step table

  abbrev fs : Expr-F Operand → Operand
  fs = summary_step table.columns

  abbrev sum : Expr → Option Kind
  sum e = (summary table.columns e).kind

  agrees : Cases (λ e. Agree (kind_of table e) (summary table.columns e).kind)
  agrees = record {
    number = λ n. moved _ _ _ _ (fold-Number (Option base.Kind) fk n) (fold-Number Operand fs n) (λ k h. agree_int n k (chosen (in_i64 n) base.OfNumber k h));
    text = λ t. moved _ _ _ _ (fold-Text (Option base.Kind) fk t) (fold-Text Operand fs t) (λ k h. chosen (nat_le (length t) 255 && is_printable t) (base.OfText (length t)) k h);
    column = λ c. moved _ _ _ _ (fold-Column (Option base.Kind) fk c) (fold-Column Operand fs c)
        (λ k h. agree_found (slice_get table.columns c) k (ap kind_of_column (sym (slice_get-map (λ (column : Column). column.kind) table.columns c)) ∙ h));
    arithmetic = λ o a b l r. moved _ _ _ _ (fold-Arith (Option base.Kind) fk o a b) (fold-Arith Operand fs o a b) (agree_of_arith (kind_of table a) (kind_of table b) (sum a) (sum b) l r);
    comparison = λ o a b l r. moved _ _ _ _ (fold-Compare (Option base.Kind) fk o a b) (fold-Compare Operand fs o a b) (agree_of_compare (kind_of table a) (kind_of table b) (sum a) (sum b) l r);
    conjunction = λ a b l r. moved _ _ _ _ (fold-And (Option base.Kind) fk a b) (fold-And Operand fs a b) (agree_of_truths (kind_of table a) (kind_of table b) (sum a) (sum b) l r);
    disjunction = λ a b l r. moved _ _ _ _ (fold-Or (Option base.Kind) fk a b) (fold-Or Operand fs a b) (agree_of_truths (kind_of table a) (kind_of table b) (sum a) (sum b) l r);
    negated = λ a l. moved _ _ _ _ (fold-Not (Option base.Kind) fk a) (fold-Not Operand fs a) (agree_of_truths (kind_of table a) (kind_of table a) (sum a) (sum a) l l);
  }

pub typed_for_reader : TypedForReader
typed_for_reader table e k h = expr_induction (λ e. Agree (kind_of table e) (summary table.columns e).kind) (agrees table) e k h
