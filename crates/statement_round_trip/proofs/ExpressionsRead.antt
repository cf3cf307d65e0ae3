-- Printed expressions lead the reader back to their trees.
use Rattle.std.proofs.Common.{◌≡◌, ℕ, suc, ◌+◌, max, ℤ, pos, negsuc, List, [], ◌∷◌, ◌++◌, Bool, true, false, Option, Some, None, refl, sym, ap, subst, arith, ◌&&◌}
use Rattle.std.specs.Prelude.{slice_get, is_some, not}
use Rattle.sql_base.specs.Kinds.{depth_of, depth_step}
use Rattle.sql_base.specs.declared.expressions.ArithOp.{ArithOp}
use Rattle.sql_base.specs.declared.expressions.CompareOp.{CompareOp}
use Rattle.sql_base.specs.declared.expressions.Expr.{Expr, ind-Expr, roll-Expr, map-Expr}
use Rattle.sql_base.specs.declared.expressions.Expr.TheVariants as expr
use Rattle.sql_base.specs.declared.expressions.Expr.TheVariants.{rolls-Number, rolls-Text, rolls-Column, rolls-Arith, rolls-Compare, rolls-And, rolls-Or, rolls-Not}
use Rattle.sql_base.specs.declared.expressions.Expr.TheOpen as node
use Rattle.sql_base.specs.declared.expressions.Expr.TheOpen.{Expr-F}
use Rattle.sql_base.specs.declared.tables.Column.{Column}
use Rattle.sql_base.proofs.Trees.{fold-Number, fold-Text, fold-Column, fold-Arith, fold-Compare, fold-And, fold-Or, fold-Not}
use Rattle.statement_words.specs.declared.keywords.Keyword.TheVariants as keys
use Rattle.statement_words.specs.declared.tokens.Sign.TheVariants as signs
use Rattle.statement_words.specs.declared.tokens.Word.{Word}
use Rattle.statement_words.specs.declared.tokens.Word.TheVariants as word
use Rattle.statement_draft.specs.Expressions.{of_truths, op_kind, is_wrong, binary, negation, number_operand, negative_operand, text_operand, name_operand}
use Rattle.statement_draft.specs.declared.kinds.Kind.{Kind}
use Rattle.statement_draft.specs.declared.kinds.Kind.TheVariants as kind
use Rattle.statement_draft.specs.declared.kinds.Op.{Op}
use Rattle.statement_draft.specs.declared.kinds.Op.TheVariants as op
use Rattle.statement_draft.specs.declared.kinds.Operand.{Operand}
use Rattle.statement_printer.specs.Printing.{Printed, printed_expr, print_step, operand_words, between, leaf, int_words, name_word, sign, key, arith_sign, compare_sign}
use Rattle.sql_base.specs.Rows.{in_i64}
use Rattle.statement_round_trip.specs.Rereading.{summary, summary_step, int_operand, has_leaves, leaves_step, AreNamed, ReadAs, ExpressionsReadBack}
use Rattle.statement_printer.proofs.Joining.{words_of_pos}
use Rattle.statement_round_trip.proofs.Operands.{Stands, stands_inside, stands_name, stands_negative, stands_number, stands_text, whole_leaf}
use Rattle.statement_round_trip.proofs.Levels.{Level, and_level, arith_level, or_level, relation_level, whole_binary, whole_not}
use Rattle.sql_base.proofs.Truths.{both_hold}
use Rattle.statement_round_trip.proofs.RowsRead.{narrow}

record Back (columns : List Column) (q : Printed) (depth : ℕ) (x : Operand) : Type 0 where
  pub whole : ReadAs columns q.words depth x
  pub stands : Stands columns (operand_words q) depth x

abbrev Gives : List Column → Bool → Printed → ℕ → Operand → Type 0
Gives columns leaves q depth x = leaves ≡ true → is_some x.kind ≡ true → Back columns q depth x

-- a leaf stands without parentheses
back_leaf : (columns : List Column) (words : List Word) (x : Operand) → ((depth : ℕ) → Stands columns words depth x) → Back columns (leaf words) 1 x
back_leaf columns words x stands = record { whole = whole_leaf columns words x (stands 0); stands = stands 1 }

typed_binary : (o : Op) (a b : Option Kind) → is_some (op_kind o a b) ≡ true → (is_some a ≡ true) × (is_some b ≡ true) × (is_wrong a b (op_kind o a b) ≡ false)
typed_binary o None None h = (absurd (untyped o h), absurd (untyped o h), refl)
  where
    untyped : (o : Op) → is_some (op_kind o None None) ≡ true → ⊥
    untyped (op.Arith a) h = absurd cc
    untyped (op.Compare c) h = absurd cc
    untyped op.And h = absurd cc
    untyped op.Or h = absurd cc
typed_binary o None (Some b) h = (absurd (untyped o b h), refl, refl)
  where
    untyped : (o : Op) (b : Kind) → is_some (op_kind o None (Some b)) ≡ true → ⊥
    untyped (op.Arith a) b h = absurd cc
    untyped (op.Compare c) b h = absurd cc
    untyped op.And b h = absurd cc
    untyped op.Or b h = absurd cc
typed_binary o (Some a) None h = (refl, absurd (untyped o a h), refl)
  where
    untyped : (o : Op) (a : Kind) → is_some (op_kind o (Some a) None) ≡ true → ⊥
    untyped (op.Arith o) kind.Number h = absurd cc
    untyped (op.Arith o) (kind.Text n) h = absurd cc
    untyped (op.Arith o) kind.Truth h = absurd cc
    untyped (op.Compare o) kind.Number h = absurd cc
    untyped (op.Compare o) (kind.Text n) h = absurd cc
    untyped (op.Compare o) kind.Truth h = absurd cc
    untyped op.And kind.Number h = absurd cc
    untyped op.And (kind.Text n) h = absurd cc
    untyped op.And kind.Truth h = absurd cc
    untyped op.Or kind.Number h = absurd cc
    untyped op.Or (kind.Text n) h = absurd cc
    untyped op.Or kind.Truth h = absurd cc
typed_binary o (Some a) (Some b) h = (refl, refl, ap not h)

typed_not : (a : Option Kind) → is_some (of_truths a a) ≡ true → (is_some a ≡ true) × (is_wrong a a (of_truths a a) ≡ false)
typed_not a h = let t = typed_binary op.And a a h in (t.0, t.2)

back_binary : (columns : List Column) (w : Word) (o : Op) → Level w o → (la lb : Bool) (qa qb : Printed) (m n : ℕ) (x y : Operand) → Gives columns la qa m x → Gives columns lb qb n y
    → Gives columns (la && lb) (between w qa qb) (max m n + 1) (binary o x y)
back_binary columns w o level la lb qa qb m n x y left right leaves typed =
    let l = both_hold la lb leaves in
    let t = typed_binary o x.kind y.kind typed in
    let whole = whole_binary columns w o level (operand_words qa) (operand_words qb) m n (max m n + 1) x y (left l.0 t.0).stands (right l.1 t.1).stands (omega arith) (omega arith) t.2 in
    record { whole = whole; stands = stands_inside columns (operand_words qa ++ w ∷ operand_words qb) (max m n + 1) (binary o x y) whole }

back_not : (columns : List Column) (l : Bool) (q : Printed) (m : ℕ) (x : Operand) → Gives columns l q m x
    → Gives columns l (record { words = key keys.Not ∷ operand_words q; is_operator = true }) (m + 1) (negation x)
back_not columns l q m x given leaves typed =
    let t = typed_not x.kind typed in
    let whole = whole_not columns (operand_words q) m (m + 1) x (given leaves t.0).stands (omega arith) t.1 in
    record { whole = whole; stands = stands_inside columns (key keys.Not ∷ operand_words q) (m + 1) (negation x) whole }

back_int : (columns : List Column) (n : ℤ) → Gives columns (in_i64 n) (leaf (int_words n)) 1 (int_operand n)
back_int columns (pos n) leaves typed =
    subst (λ (words : List Word). Back columns (leaf words) 1 (number_operand n)) (sym (words_of_pos n))
    (back_leaf columns (word.Number n ∷ []) (number_operand n) (λ depth. stands_number columns n depth (narrow n leaves)))
back_int columns (negsuc n) leaves typed =
    back_leaf columns (sign signs.Minus ∷ word.Number (suc n) ∷ []) (negative_operand (suc n)) (λ depth. stands_negative columns (suc n) depth)

back_column : (columns : List Column) → AreNamed columns → (c : ℕ) (found : Option Column) → slice_get columns c ≡ found
    → Gives columns (is_some found) (leaf (name_word found ∷ [])) 1 (name_operand columns (Some c))
back_column columns named c None e leaves typed = absurd cc
back_column columns named c (Some column) e leaves typed =
    let n = named c column e in
    back_leaf columns (word.Name column.name ∷ []) (name_operand columns (Some c)) (λ depth. stands_name columns column.name c depth n.0 n.1)

abbrev Returns : List Column → Expr → Type 0
Returns columns e = Gives columns (has_leaves columns e) (printed_expr columns e) (depth_of e) (summary columns e)

-- what the folds give
moved : (columns : List Column) (l m : Bool) (q r : Printed) (j k : ℕ) (x y : Operand) → l ≡ m → q ≡ r → j ≡ k → x ≡ y → Gives columns m r k y → Gives columns l q j x
moved columns l m q r j k x y a b c d given =
    subst (λ (v : Bool). Gives columns v q j x) (sym a) (subst (λ (v : Printed). Gives columns m v j x) (sym b)
    (subst (λ (v : ℕ). Gives columns m r v x) (sym c) (subst (λ (v : Operand). Gives columns m r k v) (sym d) given)))

pub record Cases (P : Expr → Type 0) : Type 0 where
  pub number : (n : ℤ) → P (expr.Number n)
  pub text : (text : List ℕ) → P (expr.Text text)
  pub column : (c : ℕ) → P (expr.Column c)
  pub arithmetic : (o : ArithOp) (a b : Expr) → P a → P b → P (expr.Arith o a b)
  pub comparison : (o : CompareOp) (a b : Expr) → P a → P b → P (expr.Compare o a b)
  pub conjunction : (a b : Expr) → P a → P b → P (expr.And a b)
  pub disjunction : (a b : Expr) → P a → P b → P (expr.Or a b)
  pub negated : (a : Expr) → P a → P (expr.Not a)

pub expr_induction : (P : Expr → Type 0) → Cases P → (x : Expr) → P x
expr_induction P cases x = ind-Expr P (λ layer held same. subst (λ (d : Expr-F Expr). P (roll-Expr d)) same
    (elim held as (λ h. P (roll-Expr (map-Expr _ Expr (λ e. e.0) h))) [
      | node.Number n ↦ subst P (sym (rolls-Number n)) (cases.number n)
      | node.Text text ↦ subst P (sym (rolls-Text text)) (cases.text text)
      | node.Column c ↦ subst P (sym (rolls-Column c)) (cases.column c)
      | node.Arith o a b ↦ subst P (sym (rolls-Arith o a.0 b.0)) (cases.arithmetic o a.0 b.0 a.1 b.1)
      | node.Compare o a b ↦ subst P (sym (rolls-Compare o a.0 b.0)) (cases.comparison o a.0 b.0 a.1 b.1)
      | node.And a b ↦ subst P (sym (rolls-And a.0 b.0)) (cases.conjunction a.0 b.0 a.1 b.1)
      | node.Or a b ↦ subst P (sym (rolls-Or a.0 b.0)) (cases.disjunction a.0 b.0 a.1 b.1)
      | node.Not a ↦ subst P (sym (rolls-Not a.0)) (cases.negated a.0 a.1)
    ])) x

module _ (columns : List Column) where
  abbrev fl : Expr-F Bool → Bool
  fl = leaves_step columns

  abbrev fp : Expr-F Printed → Printed
  fp = print_step columns

  abbrev fs : Expr-F Operand → Operand
  fs = summary_step columns

  returns_number : (n : ℤ) → Returns columns (expr.Number n)
  returns_number n = moved columns _ _ _ _ _ _ _ _ (fold-Number Bool fl n) (fold-Number Printed fp n) (fold-Number ℕ depth_step n) (fold-Number Operand fs n) (back_int columns n)

  returns_text : (text : List ℕ) → Returns columns (expr.Text text)
  returns_text text = moved columns _ _ _ _ _ _ _ _ (fold-Text Bool fl text) (fold-Text Printed fp text) (fold-Text ℕ depth_step text) (fold-Text Operand fs text)
      (λ leaves typed. back_leaf columns (word.Text text ∷ []) (text_operand text) (λ depth. stands_text columns text depth))

  returns_column : AreNamed columns → (c : ℕ) → Returns columns (expr.Column c)
  returns_column named c = moved columns _ _ _ _ _ _ _ _ (fold-Column Bool fl c) (fold-Column Printed fp c) (fold-Column ℕ depth_step c) (fold-Column Operand fs c)
      (back_column columns named c (slice_get columns c) refl)

  returns_arith : (o : ArithOp) (a b : Expr) → Returns columns a → Returns columns b → Returns columns (expr.Arith o a b)
  returns_arith o a b left right = moved columns _ _ _ _ _ _ _ _ (fold-Arith Bool fl o a b) (fold-Arith Printed fp o a b) (fold-Arith ℕ depth_step o a b) (fold-Arith Operand fs o a b)
      (back_binary columns (sign (arith_sign o)) (op.Arith o) (arith_level o) (has_leaves columns a) (has_leaves columns b) (printed_expr columns a) (printed_expr columns b) (depth_of a) (depth_of b) (summary columns a) (summary columns b) left right)

  returns_compare : (o : CompareOp) (a b : Expr) → Returns columns a → Returns columns b → Returns columns (expr.Compare o a b)
  returns_compare o a b left right = moved columns _ _ _ _ _ _ _ _ (fold-Compare Bool fl o a b) (fold-Compare Printed fp o a b) (fold-Compare ℕ depth_step o a b) (fold-Compare Operand fs o a b)
      (back_binary columns (sign (compare_sign o)) (op.Compare o) (relation_level o) (has_leaves columns a) (has_leaves columns b) (printed_expr columns a) (printed_expr columns b) (depth_of a) (depth_of b) (summary columns a) (summary columns b) left right)

  returns_and : (a b : Expr) → Returns columns a → Returns columns b → Returns columns (expr.And a b)
  returns_and a b left right = moved columns _ _ _ _ _ _ _ _ (fold-And Bool fl a b) (fold-And Printed fp a b) (fold-And ℕ depth_step a b) (fold-And Operand fs a b)
      (back_binary columns (key keys.And) op.And and_level (has_leaves columns a) (has_leaves columns b) (printed_expr columns a) (printed_expr columns b) (depth_of a) (depth_of b) (summary columns a) (summary columns b) left right)

  returns_or : (a b : Expr) → Returns columns a → Returns columns b → Returns columns (expr.Or a b)
  returns_or a b left right = moved columns _ _ _ _ _ _ _ _ (fold-Or Bool fl a b) (fold-Or Printed fp a b) (fold-Or ℕ depth_step a b) (fold-Or Operand fs a b)
      (back_binary columns (key keys.Or) op.Or or_level (has_leaves columns a) (has_leaves columns b) (printed_expr columns a) (printed_expr columns b) (depth_of a) (depth_of b) (summary columns a) (summary columns b) left right)

  returns_not : (a : Expr) → Returns columns a → Returns columns (expr.Not a)
  returns_not a given = moved columns _ _ _ _ _ _ _ _ (fold-Not Bool fl a) (fold-Not Printed fp a) (fold-Not ℕ depth_step a) (fold-Not Operand fs a)
      (back_not columns (has_leaves columns a) (printed_expr columns a) (depth_of a) (summary columns a) given)

-- the expression whose words were printed is the one that is read
pub expressions_read_back : ExpressionsReadBack
expressions_read_back columns named e leaves typed = (expr_induction (Returns columns) (record {
  number = returns_number columns;
  text = returns_text columns;
  column = returns_column columns named;
  arithmetic = returns_arith columns;
  comparison = returns_compare columns;
  conjunction = returns_and columns;
  disjunction = returns_or columns;
  negated = returns_not columns;
}) e leaves typed).whole
