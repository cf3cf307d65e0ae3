-- Operators over operands that describe their trees give such operands.
use Rattle.std.proofs.Common.{◌≡◌, ℕ, ℤ, pos, ◌+◌, ◌^◌, ◌≤◌, zero, suc, min, max, List, [], ◌∷◌, ◌++◌, length, Bool, true, false, Option, Some, None, refl, sym, ap, subst, ◌∙◌, arith, lt-ltb}
use Rattle.std.proofs.lemmas.List.{length-append}
use Rattle.std.specs.Prelude.{slice_get, neg_ℤ, nat_lt, ◌&&◌, option_map, option_and_then, nat_le, if◌then◌else◌}
use Rattle.std.specs.Int.{w16, to_be_bytes}
use Rattle.sql_base.specs.Codes.{code_of, code_step, counted}
use Rattle.sql_base.specs.Kinds.{kind_of, kind_step, depth_of, depth_step}
use Rattle.sql_base.specs.Kinds as base
use Rattle.sql_base.specs.declared.expressions.Expr.{Expr}
use Rattle.sql_base.specs.declared.expressions.Expr.TheVariants as expr
use Rattle.sql_base.specs.declared.tables.TableDef.{TableDef}
use Rattle.sql_base.specs.Rows.{in_i64, is_printable}
use Rattle.sql_base.specs.declared.tables.Column.{Column}
use Rattle.sql_base.specs.declared.tables.ColumnKind.{ColumnKind}
use Rattle.sql_base.specs.declared.tables.ColumnKind.TheVariants.{Int, Char}
use Rattle.std.proofs.lemmas.Option.{slice_get-map}
use Rattle.statement_draft.specs.RowEvents.{negative}
use Rattle.sql_base.proofs.Trees.{fold-Number, fold-Text, fold-Column, fold-Arith, fold-Compare, fold-And, fold-Or, fold-Not}
use Rattle.statement_draft.specs.Describing.{meant, Describes, DescribesItsTree}
use Rattle.statement_draft.specs.Expressions.{of_arith, of_compare, of_truths, op_kind, op_bytes, op_tree, tree_up, binary, negation, number_operand, negative_operand, text_operand, name_operand, column_kind}
use Rattle.statement_draft.specs.declared.kinds.Kind.{Kind}
use Rattle.statement_draft.specs.declared.kinds.Kind.TheVariants as kind
use Rattle.statement_draft.specs.declared.kinds.Operand.{Operand}
use Rattle.statement_draft.specs.declared.kinds.Op.{Op}
use Rattle.statement_draft.specs.declared.kinds.Op.TheVariants as op
use Rattle.sql_base.proofs.Truths.{max-itself, some-same, some_if}

-- depth counted up to 33 on both sides
deep : (a b m n : ℕ) → a ≡ min 33 m → b ≡ min 33 n → min 32 (max a b) + 1 ≡ min 33 (max m n + 1)
deep a b m n e f = grind (arith, e, f)

-- code counted up to 8,193 on both sides
long : (a b m n k : ℕ) → a ≡ min 8193 m → b ≡ min 8193 n → min 8193 (a + b + k) ≡ min 8193 (m + n + k)
long a b m n k e f = grind (arith, e, f)

once : (a m : ℕ) → a ≡ min 8193 m → min 8193 (a + 1) ≡ min 8193 (m + 1)
once a m e = grind (arith, e)

arith_kind : (a b : Option Kind) → option_map meant (of_arith a b) ≡ base.of_arith (option_map meant a) (option_map meant b)
arith_kind (Some kind.Number) (Some kind.Number) = refl
arith_kind (Some kind.Number) (Some (kind.Text n)) = refl
arith_kind (Some kind.Number) (Some kind.Truth) = refl
arith_kind (Some kind.Number) None = refl
arith_kind (Some (kind.Text m)) b = refl
arith_kind (Some kind.Truth) b = refl
arith_kind None b = refl

compare_kind : (a b : Option Kind) → option_map meant (of_compare a b) ≡ base.of_compare (option_map meant a) (option_map meant b)
compare_kind (Some kind.Number) (Some kind.Number) = refl
compare_kind (Some kind.Number) (Some (kind.Text n)) = refl
compare_kind (Some kind.Number) (Some kind.Truth) = refl
compare_kind (Some kind.Number) None = refl
compare_kind (Some (kind.Text m)) (Some kind.Number) = refl
compare_kind (Some (kind.Text m)) (Some (kind.Text n)) = refl
compare_kind (Some (kind.Text m)) (Some kind.Truth) = refl
compare_kind (Some (kind.Text m)) None = refl
compare_kind (Some kind.Truth) b = refl
compare_kind None b = refl

truth_kind : (a b : Option Kind) → option_map meant (of_truths a b) ≡ base.of_truths (option_map meant a) (option_map meant b)
truth_kind (Some kind.Truth) (Some kind.Number) = refl
truth_kind (Some kind.Truth) (Some (kind.Text n)) = refl
truth_kind (Some kind.Truth) (Some kind.Truth) = refl
truth_kind (Some kind.Truth) None = refl
truth_kind (Some kind.Number) b = refl
truth_kind (Some (kind.Text m)) b = refl
truth_kind None b = refl

shallow : (is_deep : Bool) (t : Option Expr) (e : Expr) → tree_up is_deep t ≡ Some e → t ≡ Some e
shallow true t e h = cc
shallow false t e h = h

-- both operands of a tree have one
record Both (o : Op) (s t : Option Expr) (e : Expr) : Type 0 where
  left : Expr
  right : Expr
  is_left : s ≡ Some left
  is_right : t ≡ Some right
  is : op_tree o left right ≡ e

both_trees : (o : Op) (s t : Option Expr) (e : Expr) → option_and_then (λ x. option_map (λ y. op_tree o x y) t) s ≡ Some e → Both o s t e
both_trees o (Some x) (Some y) e h = record { left = x; right = y; is_left = refl; is_right = refl; is = cc }
both_trees o (Some x) None e h = absurd (cc)
both_trees o None t e h = absurd (cc)

kind_joined : (table : TableDef) (o : Op) (x y : Expr) (a b : Option Kind) → kind_of table x ≡ option_map meant a → kind_of table y ≡ option_map meant b → kind_of table (op_tree o x y) ≡ option_map meant (op_kind o a b)
kind_joined table (op.Arith p) x y a b hx hy = fold-Arith _ (kind_step table) p x y ∙ rw (hx, hy) (sym (arith_kind a b))
kind_joined table (op.Compare p) x y a b hx hy = fold-Compare _ (kind_step table) p x y ∙ rw (hx, hy) (sym (compare_kind a b))
kind_joined table op.And x y a b hx hy = fold-And _ (kind_step table) x y ∙ rw (hx, hy) (sym (truth_kind a b))
kind_joined table op.Or x y a b hx hy = fold-Or _ (kind_step table) x y ∙ rw (hx, hy) (sym (truth_kind a b))

depth_joined : (o : Op) (x y : Expr) → depth_of (op_tree o x y) ≡ max (depth_of x) (depth_of y) + 1
depth_joined (op.Arith p) x y = fold-Arith _ depth_step p x y
depth_joined (op.Compare p) x y = fold-Compare _ depth_step p x y
depth_joined op.And x y = fold-And _ depth_step x y
depth_joined op.Or x y = fold-Or _ depth_step x y

behind_both : (xs ys : List ℕ) (n : ℕ) → length (xs ++ ys ++ n ∷ []) ≡ length xs + length ys + 1
behind_both xs ys n = let outer = length-append (xs ++ ys) (n ∷ []) in let inner = length-append xs ys in omega (arith, outer, inner)

between : (xs ys : List ℕ) (n : ℕ) → length (xs ++ n ∷ counted ys) ≡ length xs + length ys + 3
between xs ys n = let outer = length-append xs (n ∷ counted ys) in let inner = length-append (to_be_bytes w16 (length ys)) ys in omega (arith, outer, inner)

code_joined : (o : Op) (x y : Expr) → length (code_of (op_tree o x y)) ≡ length (code_of x) + length (code_of y) + op_bytes o
code_joined (op.Arith p) x y = ap length (fold-Arith _ code_step p x y) ∙ behind_both (code_of x) (code_of y) _
code_joined (op.Compare p) x y = ap length (fold-Compare _ code_step p x y) ∙ behind_both (code_of x) (code_of y) _
code_joined op.And x y = ap length (fold-And _ code_step x y) ∙ between (code_of x) (code_of y) _
code_joined op.Or x y = ap length (fold-Or _ code_step x y) ∙ between (code_of x) (code_of y) _

same_depth : (x : Expr) → max (depth_of x) (depth_of x) + 1 ≡ depth_of (expr.Not x)
same_depth x = ap (λ n. n + 1) (max-itself (depth_of x)) ∙ sym (fold-Not _ depth_step x)

code_turned : (x : Expr) → length (code_of (expr.Not x)) ≡ length (code_of x) + 1
code_turned x = ap length (fold-Not _ code_step x) ∙ length-append (code_of x) _

pub binary_describes : (table : TableDef) (o : Op) (a b : Operand) → DescribesItsTree table a → DescribesItsTree table b → DescribesItsTree table (binary o a b)
binary_describes table o a b ha hb e h =
    let t = both_trees o a.tree b.tree e (shallow _ _ e h) in
    let x = ha t.left t.is_left in
    let y = hb t.right t.is_right in
    subst (Describes table (binary o a b)) t.is (record {
      typed = kind_joined table o t.left t.right a.kind b.kind x.typed y.typed;
      depth = deep a.depth b.depth (depth_of t.left) (depth_of t.right) x.depth y.depth ∙ ap (min 33) (sym (depth_joined o t.left t.right));
      code = long a.code b.code _ _ (op_bytes o) x.code y.code ∙ ap (min 8193) (sym (code_joined o t.left t.right));
    })

turned_tree : (t : Option Expr) (e : Expr) → option_map (λ x. expr.Not x) t ≡ Some e → (x : Expr) × (t ≡ Some x) × (expr.Not x ≡ e)
turned_tree (Some x) e h = (x, refl, cc)
turned_tree None e h = absurd (cc)

pub negation_describes : (table : TableDef) (a : Operand) → DescribesItsTree table a → DescribesItsTree table (negation a)
negation_describes table a ha e h =
    let t = turned_tree a.tree e (shallow (nat_le 32 a.depth) (option_map (λ x. expr.Not x) a.tree) e h) in
    let x = ha t.0 t.1 in
    subst (Describes table (negation a)) t.2 (record {
      typed = fold-Not _ (kind_step table) t.0 ∙ rw (x.typed) (sym (truth_kind a.kind a.kind));
      depth = deep a.depth a.depth (depth_of t.0) (depth_of t.0) x.depth x.depth ∙ ap (min 33) (same_depth t.0);
      code = once a.code _ x.code ∙ ap (min 8193) (sym (code_turned t.0));
    })

picked : (b : Bool) (t e : Expr) → (if b then Some t else None) ≡ Some e → t ≡ e
picked true t e h = cc
picked false t e h = absurd (cc)

-- the number's kind, where it has 64 bits
number_kind : (table : TableDef) (z : ℤ) → in_i64 z ≡ true → kind_of table (expr.Number z) ≡ Some base.OfNumber
number_kind table z fits = fold-Number _ (kind_step table) z ∙ ap (λ b. if b then Some base.OfNumber else None) fits

of_number : (table : TableDef) (x : Operand) (z : ℤ) → in_i64 z ≡ true → x.kind ≡ Some kind.Number → x.depth ≡ 1 → x.code ≡ 9 → Describes table x (expr.Number z)
of_number table x z fits hk hd hc = record {
  typed = number_kind table z fits ∙ ap (option_map meant) (sym hk);
  depth = hd ∙ ap (min 33) (sym (fold-Number _ depth_step z));
  code = hc ∙ ap (λ bytes. min 8193 (length bytes)) (sym (fold-Number _ code_step z));
}

pub number_describes : (table : TableDef) (n : ℕ) → DescribesItsTree table (number_operand n)
number_describes table n e h =
    let fits = some_if (nat_lt n (2 ^ 63)) (expr.Number (pos n)) e h in
    subst (Describes table (number_operand n)) (picked (nat_lt n (2 ^ 63)) (expr.Number (pos n)) e h) (of_number table (number_operand n) (pos n) fits refl refl refl)

negated : (m : ℕ) → m ≤ 2 ^ 63 → in_i64 (neg_ℤ (pos m)) ≡ true
negated zero h = refl
negated (suc m) h = lt-ltb m (2 ^ 63) (omega arith)

pub negative_fits : (n : ℕ) → in_i64 (negative n) ≡ true
negative_fits n = negated (min n (2 ^ 63)) (omega arith)

pub negative_describes : (table : TableDef) (n : ℕ) → DescribesItsTree table (negative_operand n)
negative_describes table n e h =
    subst (Describes table (negative_operand n)) (some-same (expr.Number (negative n)) e h)
    (of_number table (negative_operand n) (negative n) (negative_fits n) refl refl refl)

text_kind : (b c : Bool) (k : Option base.Kind) → b ≡ true → c ≡ true → (if b && c then k else None) ≡ k
text_kind true true k hb hc = refl
text_kind true false k hb hc = absurd (cc)
text_kind false c k hb hc = absurd (cc)

text_code : (n : ℕ) → 2 + min 8191 n ≡ min 8193 (2 + n)
text_code n = grind (arith)

two_more : (text : List ℕ) → 2 + length text ≡ length (2 ∷ length text ∷ text)
two_more text = omega arith

pub text_describes : (table : TableDef) (text : List ℕ) → nat_le (length text) 255 ≡ true → is_printable text ≡ true → DescribesItsTree table (text_operand text)
text_describes table text short printable e h =
    subst (Describes table (text_operand text)) (some-same (expr.Text text) e h) (record {
      typed = fold-Text _ (kind_step table) text ∙ text_kind (nat_le (length text) 255) (is_printable text) (Some (base.OfText (length text))) short printable;
      depth = ap (min 33) (sym (fold-Text _ depth_step text));
      code = text_code (length text) ∙ ap (min 8193) (two_more text ∙ ap length (sym (fold-Text _ code_step text)));
    })

kind_of_one : (k : ColumnKind) → base.kind_of_column (Some k) ≡ Some (meant (column_kind k))
kind_of_one Int = refl
kind_of_one (Char n) = refl

kind_of_place : (o : Option Column) → base.kind_of_column (option_map (λ (column : Column). column.kind) o) ≡ option_map meant (option_map (λ (column : Column). column_kind column.kind) o)
kind_of_place None = refl
kind_of_place (Some column) = kind_of_one column.kind

pub name_describes : (table : TableDef) (place : Option ℕ) → DescribesItsTree table (name_operand table.columns place)
name_describes table None e h = absurd (cc)
name_describes table (Some c) e h =
    subst (Describes table (name_operand table.columns (Some c))) (some-same (expr.Column c) e h) (record {
      typed = fold-Column _ (kind_step table) c ∙ ap base.kind_of_column (slice_get-map (λ (column : Column). column.kind) table.columns c) ∙ kind_of_place (slice_get table.columns c);
      depth = ap (min 33) (sym (fold-Column _ depth_step c));
      code = ap (λ bytes. min 8193 (length bytes)) (sym (fold-Column _ code_step c));
    })
