-- The words of a well-typed expression are formed words.
use Rattle.std.proofs.Common.{◌≡◌, ◌≤◌, ℕ, zero, suc, List, [], ◌∷◌, length, Bool, true, false, ◌&&◌, Option, Some, sym, ap, subst, ◌∙◌, arith}
use Rattle.std.proofs.lemmas.Bool.Decides.{nat_tests}
use Rattle.std.proofs.lemmas.Option.{slice_get-map}
use Rattle.std.specs.Prelude.{is_some, nat_le, slice_get}
use Rattle.std.specs.List.{AllByRecursion}
use Rattle.sql_base.proofs.Trees.{fold-Number, fold-Text, fold-Column, fold-Arith, fold-Compare, fold-And, fold-Or, fold-Not}
use Rattle.sql_base.specs.Kinds.{Kind, OfNumber, OfText, kind_of, kind_of_column, kind_step, of_arith, of_compare, of_truths}
use Rattle.sql_base.specs.Names.{IsShortName}
use Rattle.sql_base.specs.Rows.{in_i64, is_printable}
use Rattle.sql_base.specs.declared.expressions.Expr.{Expr}
use Rattle.sql_base.specs.declared.expressions.Expr.TheOpen.{Expr-F}
use Rattle.sql_base.specs.declared.tables.Column.{Column}
use Rattle.sql_base.specs.declared.tables.TableDef.{TableDef}
use Rattle.statement_words.specs.declared.keywords.Keyword.TheVariants as keys
use Rattle.statement_words.specs.declared.tokens.Word.{Word}
use Rattle.statement_words.specs.declared.tokens.Word.TheVariants as word
use Rattle.statement_words.specs.Spans.{IsFormedWord}
use Rattle.statement_printer.specs.Printing.{arith_sign, between, compare_sign, expr_words, key, name_word, operand_words, print_step, printed_expr, sign, Printed}
use Rattle.statement_round_trip.proofs.FormedParts.{formed_both, formed_inside, formed_int, AreFormed}
use Rattle.statement_round_trip.proofs.Leaves.{both_of_arith, both_of_compare, both_of_truths, chosen_some, column_there, Both}
use Rattle.statement_round_trip.proofs.ExpressionsRead.{expr_induction, Cases}
use Rattle.sql_base.proofs.Truths.{both_hold}

formed_operand : (words : List Word) (is_operator : Bool) → AreFormed words → AreFormed (operand_words (record { words = words; is_operator = is_operator }))
formed_operand words true h = formed_inside words h
formed_operand words false h = h

formed_between : (op : Word) (a b : Printed) → IsFormedWord op → AreFormed a.words → AreFormed b.words → AreFormed (between op a b).words
formed_between op a b o h k =
    formed_both (operand_words a) (op ∷ operand_words b) (formed_operand a.words a.is_operator h) (o, formed_operand b.words b.is_operator k)

formed_text : (text : List ℕ) → (nat_le (length text) 255 && is_printable text) ≡ true → AreFormed (word.Text text ∷ [])
formed_text text h = let both = both_hold (nat_le (length text) 255) (is_printable text) h in ((short (length text) both.0, both.1), tt)
  where
    short : (n : ℕ) → nat_le n 255 ≡ true → n ≤ 255
    short n h = grind (arith, nat_tests, h)

formed_column : (columns : List Column) → AllByRecursion (λ column. IsShortName column.name) columns → (c : ℕ) → is_some (slice_get columns c) ≡ true → IsFormedWord (name_word (slice_get columns c))
formed_column [] all zero h = absurd (cc (h))
formed_column [] all (suc c) h = absurd (cc (h))
formed_column (column ∷ columns) all zero h = all.0.name
formed_column (column ∷ columns) all (suc c) h = formed_column columns all.1 c h

moved : (a b : Option Kind) (p q : Printed) → a ≡ b → p ≡ q → (is_some b ≡ true → AreFormed q.words) → is_some a ≡ true → AreFormed p.words
moved a b p q same printed given h = subst (λ (x : Printed). AreFormed x.words) (sym printed) (given (ap is_some (sym same) ∙ h))

module _ (table : TableDef) (all : AllByRecursion (λ column. IsShortName column.name) table.columns) where
  abbrev fk : Expr-F (Option Kind) → Option Kind
  fk = kind_step table

  abbrev fp : Expr-F Printed → Printed
  fp = print_step table.columns

  abbrev p : Expr → Printed
  p e = printed_expr table.columns e

  abbrev Formed : Expr → Type 0
  Formed e = is_some (kind_of table e) ≡ true → AreFormed (p e).words

  two : (op : Word) (a b : Expr) (k : Option Kind) → IsFormedWord op → Formed a → Formed b → (is_some k ≡ true → Both (kind_of table a) (kind_of table b)) → is_some k ≡ true
      → AreFormed (between op (p a) (p b)).words
  two op a b k o l r from h = let both = from h in formed_between op (p a) (p b) o (l both.0) (r both.1)

  formed_cases : Cases Formed
  formed_cases = record {
    number = λ n. moved _ _ _ _ (fold-Number (Option Kind) fk n) (fold-Number Printed fp n) (λ h. formed_int n (chosen_some (in_i64 n) OfNumber h));
    text = λ t. moved _ _ _ _ (fold-Text (Option Kind) fk t) (fold-Text Printed fp t)
        (λ h. formed_text t (chosen_some (nat_le (length t) 255 && is_printable t) (OfText (length t)) h));
    column = λ c. moved _ _ _ _ (fold-Column (Option Kind) fk c) (fold-Column Printed fp c)
        (λ h. (
          formed_column table.columns all c
              (column_there (slice_get table.columns c) (ap (λ k. is_some (kind_of_column k)) (sym (slice_get-map (λ (column : Column). column.kind) table.columns c)) ∙ h)),
          tt,
        ));
    arithmetic = λ o a b l r. moved _ _ _ _ (fold-Arith (Option Kind) fk o a b) (fold-Arith Printed fp o a b)
        (two (sign (arith_sign o)) a b (of_arith (kind_of table a) (kind_of table b)) tt l r (both_of_arith (kind_of table a) (kind_of table b)));
    comparison = λ o a b l r. moved _ _ _ _ (fold-Compare (Option Kind) fk o a b) (fold-Compare Printed fp o a b)
        (two (sign (compare_sign o)) a b (of_compare (kind_of table a) (kind_of table b)) tt l r (both_of_compare (kind_of table a) (kind_of table b)));
    conjunction = λ a b l r. moved _ _ _ _ (fold-And (Option Kind) fk a b) (fold-And Printed fp a b)
        (two (key keys.And) a b (of_truths (kind_of table a) (kind_of table b)) tt l r (both_of_truths (kind_of table a) (kind_of table b)));
    disjunction = λ a b l r. moved _ _ _ _ (fold-Or (Option Kind) fk a b) (fold-Or Printed fp a b)
        (two (key keys.Or) a b (of_truths (kind_of table a) (kind_of table b)) tt l r (both_of_truths (kind_of table a) (kind_of table b)));
    negated = λ a l. moved _ _ _ _ (fold-Not (Option Kind) fk a) (fold-Not Printed fp a)
        (λ h. (tt, formed_operand (p a).words (p a).is_operator (l (both_of_truths (kind_of table a) (kind_of table a) h).0)));
  }

  pub formed_expression : (e : Expr) (k : Kind) → kind_of table e ≡ Some k → AreFormed (expr_words table.columns e)
  formed_expression e k h = expr_induction Formed formed_cases e (ap is_some h)
