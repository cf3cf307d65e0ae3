-- A well-typed expression has its columns there and its numbers of 64 bits.
use Rattle.std.proofs.Common.{◌≡◌, Bool, true, false, cond, Option, Some, None, refl, sym, ap, ◌∙◌}
use Rattle.std.specs.Prelude.{◌&&◌, is_some, option_map, slice_get}
use Rattle.std.proofs.lemmas.Option.{slice_get-map}
use Rattle.sql_base.proofs.Trees.{fold-Number, fold-Text, fold-Column, fold-Arith, fold-Compare, fold-And, fold-Or, fold-Not}
use Rattle.sql_base.specs.Kinds.{Kind, OfNumber, OfText, OfTruth, kind_of, kind_of_column, kind_step, of_arith, of_compare, of_truths}
use Rattle.sql_base.specs.Rows.{in_i64}
use Rattle.sql_base.specs.declared.expressions.Expr.{Expr}
use Rattle.sql_base.specs.declared.expressions.Expr.TheOpen.{Expr-F}
use Rattle.sql_base.specs.declared.tables.Column.{Column}
use Rattle.sql_base.specs.declared.tables.TableDef.{TableDef}
use Rattle.statement_round_trip.specs.Rereading.{has_leaves, leaves_step}
use Rattle.statement_round_trip.proofs.ExpressionsRead.{Cases, expr_induction}
use Rattle.sql_base.proofs.Truths.{and_both}

-- an operator that has a kind has operands with one
abbrev pub Both : Option Kind → Option Kind → Type 0
Both a b = (is_some a ≡ true) × (is_some b ≡ true)

pub both_of_arith : (a b : Option Kind) → is_some (of_arith a b) ≡ true → Both a b
both_of_arith None b h = absurd (cc (h))
both_of_arith (Some OfNumber) None h = absurd (cc (h))
both_of_arith (Some (OfText n)) None h = absurd (cc (h))
both_of_arith (Some OfTruth) None h = absurd (cc (h))
both_of_arith (Some a) (Some b) h = (refl, refl)

pub both_of_compare : (a b : Option Kind) → is_some (of_compare a b) ≡ true → Both a b
both_of_compare None b h = absurd (cc (h))
both_of_compare (Some OfNumber) None h = absurd (cc (h))
both_of_compare (Some (OfText n)) None h = absurd (cc (h))
both_of_compare (Some OfTruth) None h = absurd (cc (h))
both_of_compare (Some a) (Some b) h = (refl, refl)

pub both_of_truths : (a b : Option Kind) → is_some (of_truths a b) ≡ true → Both a b
both_of_truths None b h = absurd (cc (h))
both_of_truths (Some OfNumber) None h = absurd (cc (h))
both_of_truths (Some (OfText n)) None h = absurd (cc (h))
both_of_truths (Some OfTruth) None h = absurd (cc (h))
both_of_truths (Some a) (Some b) h = (refl, refl)

pub chosen_some : (b : Bool) (k : Kind) → is_some (cond b (Some k) None) ≡ true → b ≡ true
chosen_some true k h = refl
chosen_some false k h = h

pub column_there : (o : Option Column) → is_some (kind_of_column (option_map (λ (c : Column). c.kind) o)) ≡ true → is_some o ≡ true
column_there None h = h
column_there (Some c) h = refl

-- where the kind is there, so are the leaves
abbrev Leafy : TableDef → Expr → Type 0
Leafy table e = is_some (kind_of table e) ≡ true → has_leaves table.columns e ≡ true

moved : (a b : Option Kind) (x y : Bool) → a ≡ b → x ≡ y → (is_some b ≡ true → y ≡ true) → is_some a ≡ true → x ≡ true
moved a b x y p q given h = q ∙ given (ap is_some (sym p) ∙ h)

module _ (table : TableDef) where
  abbrev fk : Expr-F (Option Kind) → Option Kind
  fk = kind_step table

  abbrev fl : Expr-F Bool → Bool
  fl = leaves_step table.columns

  abbrev lk : Expr → Bool
  lk e = has_leaves table.columns e

  two : (a b : Expr) (k : Option Kind) → Leafy table a → Leafy table b → (is_some k ≡ true → Both (kind_of table a) (kind_of table b)) → is_some k ≡ true → (lk a && lk b) ≡ true
  two a b k l r from h = let both = from h in and_both (lk a) (lk b) (l both.0) (r both.1)

  leafy : Cases (Leafy table)
  leafy = record {
    number = λ n. moved _ _ _ _ (fold-Number (Option Kind) fk n) (fold-Number Bool fl n) (λ h. chosen_some (in_i64 n) OfNumber h);
    text = λ t. moved _ _ _ _ (fold-Text (Option Kind) fk t) (fold-Text Bool fl t) (λ h. refl);
    column = λ c. moved _ _ _ _ (fold-Column (Option Kind) fk c) (fold-Column Bool fl c)
        (λ h. column_there (slice_get table.columns c) (ap (λ k. is_some (kind_of_column k)) (sym (slice_get-map (λ (column : Column). column.kind) table.columns c)) ∙ h));
    arithmetic = λ o a b l r. moved _ _ _ _ (fold-Arith (Option Kind) fk o a b) (fold-Arith Bool fl o a b)
        (two a b (of_arith (kind_of table a) (kind_of table b)) l r (both_of_arith (kind_of table a) (kind_of table b)));
    comparison = λ o a b l r. moved _ _ _ _ (fold-Compare (Option Kind) fk o a b) (fold-Compare Bool fl o a b)
        (two a b (of_compare (kind_of table a) (kind_of table b)) l r (both_of_compare (kind_of table a) (kind_of table b)));
    conjunction = λ a b l r. moved _ _ _ _ (fold-And (Option Kind) fk a b) (fold-And Bool fl a b)
        (two a b (of_truths (kind_of table a) (kind_of table b)) l r (both_of_truths (kind_of table a) (kind_of table b)));
    disjunction = λ a b l r. moved _ _ _ _ (fold-Or (Option Kind) fk a b) (fold-Or Bool fl a b)
        (two a b (of_truths (kind_of table a) (kind_of table b)) l r (both_of_truths (kind_of table a) (kind_of table b)));
    negated = λ a l. moved _ _ _ _ (fold-Not (Option Kind) fk a) (fold-Not Bool fl a)
        (λ h. l (both_of_truths (kind_of table a) (kind_of table a) h).0);
  }

pub typed_leaves : (table : TableDef) (e : Expr) (k : Kind) → kind_of table e ≡ Some k → has_leaves table.columns e ≡ true
typed_leaves table e k h = expr_induction (Leafy table) (leafy table) e (ap is_some h)
