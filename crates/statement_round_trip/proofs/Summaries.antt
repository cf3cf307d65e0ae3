-- The summary of an expression holds the expression.
use Rattle.std.proofs.Common.{◌≡◌, ◌≤◌, ◌<◌, ℕ, suc, ◌+◌, ◌^◌, min, max, ℤ, pos, negsuc, neg_ℤ, List, Bool, true, false, Option, Some, None, refl, sym, ap, subst, ◌∙◌, arith, ◌&&◌, cond}
use Rattle.std.proofs.lemmas.Bool.Decides.{nat_tests}
use Rattle.std.specs.Prelude.{nat_le, option_map, option_and_then}
use Rattle.sql_base.specs.Kinds.{depth_of, depth_step}
use Rattle.sql_base.specs.declared.expressions.Expr.{Expr}
use Rattle.sql_base.specs.declared.expressions.Expr.TheVariants as expr
use Rattle.sql_base.specs.declared.expressions.Expr.TheOpen.{Expr-F}
use Rattle.sql_base.specs.declared.tables.Column.{Column}
use Rattle.sql_base.proofs.Trees.{fold-Number, fold-Text, fold-Column, fold-Arith, fold-Compare, fold-And, fold-Or, fold-Not}
use Rattle.statement_draft.specs.Expressions.{binary, negation, op_tree, tree_up}
use Rattle.statement_draft.specs.declared.kinds.Op.{Op}
use Rattle.statement_draft.specs.declared.kinds.Op.TheVariants as op
use Rattle.statement_draft.specs.declared.kinds.Operand.{Operand}
use Rattle.sql_base.specs.Rows.{in_i64}
use Rattle.statement_round_trip.specs.Rereading.{summary, summary_step, int_operand, has_leaves, leaves_step, SummariesTell}
use Rattle.statement_round_trip.proofs.ExpressionsRead.{Cases, expr_induction}
use Rattle.sql_base.proofs.Truths.{both_hold}

-- the operand holds the tree, and is as deep
record Holds (x : Operand) (depth : ℕ) (e : Expr) : Type 0 where
  pub tree : x.tree ≡ Some e
  pub deep : x.depth ≡ depth

abbrev Tells : Bool → Operand → ℕ → Expr → Type 0
Tells leaves x depth e = leaves ≡ true → depth ≤ 32 → Holds x depth e

moved : (l m : Bool) (x y : Operand) (j k : ℕ) (e : Expr) → l ≡ m → x ≡ y → j ≡ k → Tells m y k e → Tells l x j e
moved l m x y j k e a b c given = subst (λ (v : Bool). Tells v x j e) (sym a) (subst (λ (v : Operand). Tells m v j e) (sym b) (subst (λ (v : ℕ). Tells m y v e) (sym c) given))

tells_int : (n : ℤ) → Tells (in_i64 n) (int_operand n) 1 (expr.Number n)
tells_int (pos n) leaves most = record { tree = ap (λ (b : Bool). cond b (Some (expr.Number (pos n))) None) leaves; deep = refl }
tells_int (negsuc n) leaves most =
    let below : min (suc n) (2 ^ 63) ≡ suc n = grind (arith, nat_tests) in
    record { tree = ap (λ (k : ℕ). Some (expr.Number (neg_ℤ (pos k)))) below; deep = refl }

abbrev joined_tree : Bool → Op → Option Expr → Option Expr → Option Expr
joined_tree deep o a b = tree_up deep (option_and_then (λ x. option_map (λ y. op_tree o x y) b) a)

not_above : (n : ℕ) → n < 32 → nat_le 32 n ≡ false
not_above n h = grind (arith, nat_tests)

tells_binary : (o : Op) (l m : Bool) (x y : Operand) (j k : ℕ) (a b : Expr) → Tells l x j a → Tells m y k b → Tells (l && m) (binary o x y) (max j k + 1) (op_tree o a b)
tells_binary o l m x y j k a b left right leaves most =
    let both = both_hold l m leaves in
    let s = left both.0 (omega arith) in
    let t = right both.1 (omega arith) in
    let fine : nat_le 32 (max x.depth y.depth) ≡ false = subst (λ (n : ℕ). nat_le 32 (max n y.depth) ≡ false) (sym s.deep) (subst (λ (n : ℕ). nat_le 32 (max j n) ≡ false) (sym t.deep) (not_above (max j k) (omega arith))) in
    record {
      tree = ap (λ (v : Bool). joined_tree v o x.tree y.tree) fine ∙ ap (λ (v : Option Expr). joined_tree false o v y.tree) s.tree ∙ ap (λ (v : Option Expr). joined_tree false o (Some a) v) t.tree;
      deep = omega (arith, s.deep, t.deep);
    }

tells_not : (l : Bool) (x : Operand) (j : ℕ) (a : Expr) → Tells l x j a → Tells l (negation x) (j + 1) (expr.Not a)
tells_not l x j a given leaves most =
    let s = given leaves (omega arith) in
    let fine : nat_le 32 x.depth ≡ false = subst (λ (n : ℕ). nat_le 32 n ≡ false) (sym s.deep) (not_above j (omega arith)) in
    record {
      tree = ap (λ (v : Bool). tree_up v (option_map (λ y. expr.Not y) x.tree)) fine ∙ ap (λ (v : Option Expr). option_map (λ y. expr.Not y) v) s.tree;
      deep = omega (arith, s.deep);
    }

abbrev Told : List Column → Expr → Type 0
Told columns e = Tells (has_leaves columns e) (summary columns e) (depth_of e) e

module _ (columns : List Column) where
  abbrev fl : Expr-F Bool → Bool
  fl = leaves_step columns

  abbrev fs : Expr-F Operand → Operand
  fs = summary_step columns

  told_binary : (o : Op) (a b : Expr) → Told columns a → Told columns b
      → Tells (has_leaves columns a && has_leaves columns b) (binary o (summary columns a) (summary columns b)) (max (depth_of a) (depth_of b) + 1) (op_tree o a b)
  told_binary o a b left right = tells_binary o (has_leaves columns a) (has_leaves columns b) (summary columns a) (summary columns b) (depth_of a) (depth_of b) a b left right

  told : Cases (Told columns)
  told = record {
    number = λ n. moved _ _ _ _ _ _ (expr.Number n) (fold-Number Bool fl n) (fold-Number Operand fs n) (fold-Number ℕ depth_step n) (tells_int n);
    text = λ t. moved _ _ _ _ _ _ (expr.Text t) (fold-Text Bool fl t) (fold-Text Operand fs t) (fold-Text ℕ depth_step t) (λ leaves most. record { tree = refl; deep = refl });
    column = λ c. moved _ _ _ _ _ _ (expr.Column c) (fold-Column Bool fl c) (fold-Column Operand fs c) (fold-Column ℕ depth_step c) (λ leaves most. record { tree = refl; deep = refl });
    arithmetic = λ o a b l r. moved _ _ _ _ _ _ (expr.Arith o a b) (fold-Arith Bool fl o a b) (fold-Arith Operand fs o a b) (fold-Arith ℕ depth_step o a b) (told_binary (op.Arith o) a b l r);
    comparison = λ o a b l r. moved _ _ _ _ _ _ (expr.Compare o a b) (fold-Compare Bool fl o a b) (fold-Compare Operand fs o a b) (fold-Compare ℕ depth_step o a b) (told_binary (op.Compare o) a b l r);
    conjunction = λ a b l r. moved _ _ _ _ _ _ (expr.And a b) (fold-And Bool fl a b) (fold-And Operand fs a b) (fold-And ℕ depth_step a b) (told_binary op.And a b l r);
    disjunction = λ a b l r. moved _ _ _ _ _ _ (expr.Or a b) (fold-Or Bool fl a b) (fold-Or Operand fs a b) (fold-Or ℕ depth_step a b) (told_binary op.Or a b l r);
    negated = λ a given. moved _ _ _ _ _ _ (expr.Not a) (fold-Not Bool fl a) (fold-Not Operand fs a) (fold-Not ℕ depth_step a) (tells_not (has_leaves columns a) (summary columns a) (depth_of a) a given);
  }

pub summaries_tell : SummariesTell
summaries_tell columns e leaves most = (expr_induction (Told columns) (told columns) e leaves most).tree
