-- What the words of an expression leave: one operand more, or another one on top.
use Rattle.std.proofs.Common.{◌≡◌, ◌≤◌, ◌<◌, ◌+◌, ◌-◌, ℕ, zero, suc, pos, ◌^◌, min, max, not, ◌&&◌, ◌⊎◌, inl, inr, List, [], ◌∷◌, length, Bool, true, false, Option, Some, None, refl, sym, ap, subst, ◌∙◌, arith}
use Rattle.std.specs.Prelude.{nat_lt, nat_le, is_some, slice_get, option_map, option_and_then, if◌then◌else◌}
use Rattle.std.proofs.lemmas.Bool.Decides.{nat_tests}
use Rattle.sql_base.specs.Rows.{is_printable}
use Rattle.sql_base.specs.declared.expressions.Expr.{Expr}
use Rattle.sql_base.specs.declared.expressions.Expr.TheVariants as expr
use Rattle.sql_base.specs.declared.tables.Column.{Column}
use Rattle.sql_base.specs.declared.tables.TableDef.{TableDef}
use Rattle.statement_draft.specs.Describing.{DescribesItsTree}
use Rattle.statement_draft.specs.Expressions.{op_tree, tree_up, binary, negation, is_wrong, joined, turned, operated, operator_ends, inside_ends, with_operand, number_operand, negative_operand, text_operand, name_operand, column_kind, columns_in, found_name, name_came, number_came, negative_came, with_operator}
use Rattle.statement_draft.specs.Faults.{noted}
use Rattle.statement_draft.specs.Names.{is_long, is_wide, column_named}
use Rattle.statement_draft.specs.declared.draft.Draft.{Draft}
use Rattle.statement_draft.specs.declared.draft.NewExpression.{NewExpression}
use Rattle.statement_draft.specs.declared.draft.Scope.{Scope}
use Rattle.statement_draft.specs.declared.draft.Scope.TheVariants as scope
use Rattle.statement_draft.specs.declared.faults.Fault.{Fault}
use Rattle.statement_draft.specs.declared.faults.Reason.TheVariants.{NumberTooWide, UnknownName, WrongType, OverLimit}
use Rattle.statement_draft.specs.declared.kinds.Op.{Op}
use Rattle.statement_draft.specs.declared.kinds.Operand.{Operand}
use Rattle.statement_draft.specs.declared.kinds.Operator.{Operator}
use Rattle.statement_draft.specs.declared.kinds.Operator.TheVariants as operator
use Rattle.statement_draft.proofs.Clean.{noted-none}
use Rattle.statement_draft.proofs.Summaries.{binary_describes, negation_describes, number_describes, negative_describes, text_describes, name_describes}
use Rattle.statement_rules.proofs.Listing.{place_within, below}
use Rattle.sql_base.proofs.Truths.{max-itself, not-false}

-- a tree is there, or it would be too deep
abbrev pub Grown : Operand → Type 0
Grown x = (is_some x.tree ≡ true) ⊎ (x.depth ≡ 33)

abbrev pub Sound : TableDef → Operand → Type 0
Sound table x = DescribesItsTree table x × Grown x

-- the names of the expression are columns of the table
abbrev pub Sees : Draft → TableDef → Type 0
Sees d table = columns_in d.scope d ≡ Some table.columns

scope_kept : (s : Scope) (d : Draft) (e : NewExpression) (f : Option Fault) → columns_in s (record d { expression = e; first = f }) ≡ columns_in s d
scope_kept scope.NewTable d e f = refl
scope_kept (scope.Table t) d e f = refl
scope_kept scope.Unknown d e f = refl

pub sees_kept : (d : Draft) (e : NewExpression) (f : Option Fault) (table : TableDef) → Sees d table → Sees (record d { expression = e; first = f }) table
sees_kept d e f table h = scope_kept d.scope d e f ∙ h

-- ---- operands

all_trees : (deep : Bool) (o : Op) (a b : Option Expr) → deep ≡ false → is_some a ≡ true → is_some b ≡ true
    → is_some (tree_up deep (option_and_then (λ x. option_map (λ y. op_tree o x y) b) a)) ≡ true
all_trees true o a b d h k = absurd (cc (d))
all_trees false o (Some x) (Some y) d h k = refl
all_trees false o None b d h k = absurd (cc (h))
all_trees false o (Some x) None d h k = absurd (cc (k))

one_tree : (deep : Bool) (a : Option Expr) → deep ≡ false → is_some a ≡ true → is_some (tree_up deep (option_map (λ x. expr.Not x) a)) ≡ true
one_tree true a d h = absurd (cc (d))
one_tree false (Some x) d h = refl
one_tree false None d h = absurd (cc (h))

-- an operand that isn't deep has its tree
there : (x : Operand) → Grown x → x.depth < 33 → is_some x.tree ≡ true
there x (inl h) low = h
there x (inr h) low = absurd (omega (arith, h, low))

deep_is : (m : ℕ) → nat_le 32 m ≡ true → min 32 m + 1 ≡ 33
deep_is m h = grind (arith, nat_tests, h)

low_left : (a b : ℕ) → nat_le 32 (max a b) ≡ false → a < 33
low_left a b h = grind (arith, nat_tests, h)

low_right : (a b : ℕ) → nat_le 32 (max a b) ≡ false → b < 33
low_right a b h = grind (arith, nat_tests, h)

low_one : (a : ℕ) → nat_le 32 a ≡ false → a < 33
low_one a h = grind (arith, nat_tests, h)

binary_grown : (o : Op) (a b : Operand) → Grown a → Grown b → Grown (binary o a b)
binary_grown o a b ga gb = by_test (nat_le 32 (max a.depth b.depth)) refl
  where
    by_test : (t : Bool) → nat_le 32 (max a.depth b.depth) ≡ t → Grown (binary o a b)
    by_test true e = inr (deep_is (max a.depth b.depth) e)
    by_test false e = inl (all_trees (nat_le 32 (max a.depth b.depth)) o a.tree b.tree e (there a ga (low_left a.depth b.depth e)) (there b gb (low_right a.depth b.depth e)))

negation_grown : (a : Operand) → Grown a → Grown (negation a)
negation_grown a ga = by_test (nat_le 32 a.depth) refl
  where
    by_test : (t : Bool) → nat_le 32 a.depth ≡ t → Grown (negation a)
    by_test true e = inr (ap (λ n. min 32 n + 1) (max-itself a.depth) ∙ deep_is a.depth e)
    by_test false e = inl (one_tree (nat_le 32 a.depth) a.tree e (there a ga (low_one a.depth e)))

binary_sound : (table : TableDef) (o : Op) (a b : Operand) → Sound table a → Sound table b → Sound table (binary o a b)
binary_sound table o a b ha hb = (binary_describes table o a b ha.0 hb.0, binary_grown o a b ha.1 hb.1)

negation_sound : (table : TableDef) (a : Operand) → Sound table a → Sound table (negation a)
negation_sound table a h = (negation_describes table a h.0, negation_grown a h.1)

right_kind : (a b x : Bool) → a && b && not x ≡ false → a ≡ true → b ≡ true → x ≡ true
right_kind true true true h p q = refl
right_kind true true false h p q = absurd (cc (h))
right_kind true false x h p q = absurd (cc (q))
right_kind false b x h p q = absurd (cc (p))

-- ---- one operand more

pub record OneMore (d e : Draft) : Type 0 where
  pub expression : NewExpression
  pub first : Option Fault
  pub same : e ≡ record d { expression = expression; first = first }
  pub top : Operand
  pub operands : expression.operands ≡ top ∷ d.expression.operands
  pub operators : expression.operators ≡ d.expression.operators
  pub sound : (table : TableDef) → Sees d table → Sound table top
  pub typed : (table : TableDef) → Sees d table → expression.first ≡ None → (d.expression.first ≡ None) × (is_some top.kind ≡ true)

-- another one on top, in place of a
pub record Changed (d : Draft) (a : Operand) (xs : List Operand) (e : NewExpression) : Type 0 where
  pub top : Operand
  pub operands : e.operands ≡ top ∷ xs
  pub operators : e.operators ≡ d.expression.operators
  pub sound : (table : TableDef) → Sees d table → Sound table a → Sound table top
  pub typed : (table : TableDef) → Sees d table → e.first ≡ None → (d.expression.first ≡ None) × (is_some a.kind ≡ true → is_some top.kind ≡ true)

pub record TopChanged (d e : Draft) : Type 0 where
  pub expression : NewExpression
  pub first : Option Fault
  pub same : e ≡ record d { expression = expression; first = first }
  pub changed : (a : Operand) (xs : List Operand) → d.expression.operands ≡ a ∷ xs → Changed d a xs expression

pub unchanged : (d : Draft) → TopChanged d d
unchanged d = record {
  expression = d.expression;
  first = d.first;
  same = refl;
  changed = λ a xs h. record { top = a; operands = h; operators = refl; sound = λ table sees s. s; typed = λ table sees none. (none, λ k. k) };
}

pub expression_of : (d e : Draft) (x : NewExpression) (f : Option Fault) → e ≡ record d { expression = x; first = f } → e.expression ≡ x
expression_of d e x f h = ap (λ (y : Draft). y.expression) h

pub sees_then : (d e : Draft) (x : NewExpression) (f : Option Fault) → e ≡ record d { expression = x; first = f } → (table : TableDef) → Sees d table → Sees e table
sees_then d e x f h table s = subst (λ (y : Draft). Sees y table) (sym h) (sees_kept d x f table s)

pub changed_after : (d e g : Draft) → OneMore d e → TopChanged e g → OneMore d g
changed_after d e g m t =
    let is = expression_of d e m.expression m.first m.same in
    let tops : e.expression.operands ≡ m.top ∷ d.expression.operands = ap (λ (x : NewExpression). x.operands) is ∙ m.operands in
    let c = t.changed m.top d.expression.operands tops in
    record {
      expression = t.expression;
      first = t.first;
      same = t.same ∙ ap (λ (x : Draft). record x { expression = t.expression; first = t.first }) m.same;
      top = c.top;
      operands = c.operands;
      operators = c.operators ∙ ap (λ (x : NewExpression). x.operators) is ∙ m.operators;
      sound = λ table s. c.sound table (sees_then d e m.expression m.first m.same table s) (m.sound table s);
      typed = λ table s none.
          let later = c.typed table (sees_then d e m.expression m.first m.same table s) none in
          let before = m.typed table s (sym (ap (λ (x : NewExpression). x.first) is) ∙ later.0) in
          (before.0, later.1 before.1);
    }

pub changed_twice : (d e g : Draft) → TopChanged d e → TopChanged e g → TopChanged d g
changed_twice d e g m t = let is = expression_of d e m.expression m.first m.same in record {
  expression = t.expression;
  first = t.first;
  same = t.same ∙ ap (λ (x : Draft). record x { expression = t.expression; first = t.first }) m.same;
  changed = λ a xs h.
      let b = m.changed a xs h in
      let c = t.changed b.top xs (ap (λ (x : NewExpression). x.operands) is ∙ b.operands) in
      record {
        top = c.top;
        operands = c.operands;
        operators = c.operators ∙ ap (λ (x : NewExpression). x.operators) is ∙ b.operators;
        sound = λ table s h2. c.sound table (sees_then d e m.expression m.first m.same table s) (b.sound table s h2);
        typed = λ table s none.
            let later = c.typed table (sees_then d e m.expression m.first m.same table s) none in
            let before = b.typed table s (sym (ap (λ (x : NewExpression). x.first) is) ∙ later.0) in
            (before.0, λ k. later.1 (before.1 k));
      };
}

-- ---- operators

joined_is : (o : Op) (at : ℕ) (E : NewExpression) (a b : Operand) (xs : List Operand) (os : List Operator) → E.operators ≡ operator.Joins o at ∷ os → E.operands ≡ b ∷ a ∷ xs
    → operated E.operators E ≡ record E { operators = os; operands = binary o a b ∷ xs; first = noted (is_wrong a.kind b.kind (binary o a b).kind) WrongType at E.first }
joined_is o at E a b xs os h k = ap (λ ops. operated ops E) h ∙ ap (λ ys. joined o at ys (record E { operators = os })) k

pub joined_after : (o : Op) (at : ℕ) (d e : Draft) → OneMore (with_operator (operator.Joins o at) d) e → TopChanged d (operator_ends e)
joined_after o at d e m = record {
  expression = operated m.expression.operators m.expression;
  first = m.first;
  same = ap operator_ends m.same;
  changed = λ a xs h.
      let J : NewExpression = record m.expression {
        operators = d.expression.operators;
        operands = binary o a m.top ∷ xs;
        first = noted (is_wrong a.kind m.top.kind (binary o a m.top).kind) WrongType at m.expression.first;
      } in
      let is : operated m.expression.operators m.expression ≡ J = joined_is o at m.expression a m.top xs d.expression.operators m.operators (m.operands ∙ ap (λ ys. m.top ∷ ys) h) in
      let d1 = with_operator (operator.Joins o at) d in
      subst (Changed d a xs) (sym is) (record {
        top = binary o a m.top;
        operands = refl;
        operators = refl;
        sound = λ table s h2. binary_sound table o a m.top h2 (m.sound table (sees_kept d d1.expression d.first table s));
        typed = λ table s none.
            let outer = noted-none (is_wrong a.kind m.top.kind (binary o a m.top).kind) WrongType at m.expression.first none in
            let before = m.typed table (sees_kept d d1.expression d.first table s) outer.1 in
            (before.0, λ k. right_kind (is_some a.kind) (is_some m.top.kind) (is_some (binary o a m.top).kind) outer.0 k before.1);
      });
}

turned_is : (at : ℕ) (E : NewExpression) (a : Operand) (xs : List Operand) (os : List Operator) → E.operators ≡ operator.Not at ∷ os → E.operands ≡ a ∷ xs
    → operated E.operators E ≡ record E { operators = os; operands = negation a ∷ xs; first = noted (is_wrong a.kind a.kind (negation a).kind) WrongType at E.first }
turned_is at E a xs os h k = ap (λ ops. operated ops E) h ∙ ap (λ ys. turned at ys (record E { operators = os })) k

pub turned_after : (at : ℕ) (d e : Draft) → OneMore (with_operator (operator.Not at) d) e → OneMore d (operator_ends e)
turned_after at d e m =
    let d1 = with_operator (operator.Not at) d in
    let J : NewExpression = record m.expression {
      operators = d.expression.operators;
      operands = negation m.top ∷ d.expression.operands;
      first = noted (is_wrong m.top.kind m.top.kind (negation m.top).kind) WrongType at m.expression.first;
    } in
    let is : operated m.expression.operators m.expression ≡ J = turned_is at m.expression m.top d.expression.operands d.expression.operators m.operators m.operands in
    record {
      expression = J;
      first = m.first;
      same = ap operator_ends m.same ∙ ap (λ (x : NewExpression). record d { expression = x; first = m.first }) is;
      top = negation m.top;
      operands = refl;
      operators = refl;
      sound = λ table s. negation_sound table m.top (m.sound table (sees_kept d d1.expression d.first table s));
      typed = λ table s none.
          let outer = noted-none (is_wrong m.top.kind m.top.kind (negation m.top).kind) WrongType at m.expression.first none in
          let before = m.typed table (sees_kept d d1.expression d.first table s) outer.1 in
          (before.0, right_kind (is_some m.top.kind) (is_some m.top.kind) (is_some (negation m.top).kind) outer.0 before.1 before.1);
    }

-- ---- parentheses

pub inside_after : (d e : Draft) → OneMore d e → OneMore d (inside_ends e)
inside_after d e m = record {
  expression = record m.expression { inside = m.expression.inside - 1 };
  first = m.first;
  same = ap inside_ends m.same;
  top = m.top;
  operands = m.operands;
  operators = m.operators;
  sound = m.sound;
  typed = m.typed;
}

pub opened_before : (d : Draft) (i : ℕ) (f : Option Fault) (e : Draft) → OneMore (record d { expression = record d.expression { inside = i }; first = f }) e → OneMore d e
opened_before d i f e m = record {
  expression = m.expression;
  first = m.first;
  same = m.same;
  top = m.top;
  operands = m.operands;
  operators = m.operators;
  sound = λ table s. m.sound table (sees_kept d (record d.expression { inside = i }) f table s);
  typed = λ table s none. m.typed table (sees_kept d (record d.expression { inside = i }) f table s) none;
}

-- ---- operands of one word

small : (n : ℕ) → n ≤ 2 ^ 63 → is_wide n ≡ false → nat_lt n (2 ^ 63) ≡ true
small n le h = grind (arith, nat_tests, le, h)

tree_there : (b : Bool) (e : Expr) → b ≡ true → is_some (if b then Some e else None) ≡ true
tree_there true e h = refl
tree_there false e h = absurd (cc (h))

pub number_more : (n at : ℕ) (d : Draft) → n ≤ 2 ^ 63 → (number_came n at d).first ≡ None → OneMore d (number_came n at d)
number_more n at d le h = record {
  expression = record d.expression { operands = number_operand n ∷ d.expression.operands };
  first = noted (is_wide n) NumberTooWide at d.first;
  same = refl;
  top = number_operand n;
  operands = refl;
  operators = refl;
  sound = λ table s. (number_describes table n, inl (tree_there (nat_lt n (2 ^ 63)) (expr.Number (pos n)) (small n le (noted-none (is_wide n) NumberTooWide at d.first h).0)));
  typed = λ table s none. (none, refl);
}

pub negative_more : (n : ℕ) (d : Draft) → OneMore d (negative_came n d)
negative_more n d = record {
  expression = record d.expression { operands = negative_operand n ∷ d.expression.operands };
  first = d.first;
  same = refl;
  top = negative_operand n;
  operands = refl;
  operators = refl;
  sound = λ table s. (negative_describes table n, inl refl);
  typed = λ table s none. (none, refl);
}

short_text : (n : ℕ) → n ≤ 255 → nat_le n 255 ≡ true
short_text n h = grind (arith, nat_tests, h)

pub text_more : (text : List ℕ) (d : Draft) → length text ≤ 255 → is_printable text ≡ true → OneMore d (with_operand (text_operand text) d)
text_more text d short printable = record {
  expression = record d.expression { operands = text_operand text ∷ d.expression.operands };
  first = d.first;
  same = refl;
  top = text_operand text;
  operands = refl;
  operators = refl;
  sound = λ table s. (text_describes table text (short_text (length text) short) printable, inl refl);
  typed = λ table s none. (none, refl);
}

column_there : (cs : List Column) (c : ℕ) → c < length cs → is_some (option_map (λ (x : Column). column_kind x.kind) (slice_get cs c)) ≡ true
column_there [] c h = absurd (omega (arith, h))
column_there (x ∷ cs) zero h = refl
column_there (x ∷ cs) (suc c) h = column_there cs c (omega (arith, h))

tree_of_place : (p : Option ℕ) → is_some p ≡ true → is_some (option_map expr.Column p) ≡ true
tree_of_place (Some c) h = refl
tree_of_place None h = absurd (cc (h))

kind_of_place : (cs : List Column) (name : List ℕ) (p : Option ℕ) → column_named cs name ≡ p → is_some p ≡ true → is_some (name_operand cs p).kind ≡ true
kind_of_place cs name (Some c) e h = column_there cs c (below c (length cs) (place_within 0 cs name c e))
kind_of_place cs name None e h = absurd (cc (h))

pub name_more : (name : List ℕ) (at : ℕ) (d : Draft) → (name_came name at d).first ≡ None → OneMore d (name_came name at d)
name_more name at d h =
    let F = noted (is_long name) OverLimit at d.first in
    let found = found_name (columns_in d.scope d) name at F in
    let known = λ (table : TableDef) (s : Sees d table). not-false (is_some (column_named table.columns name))
    (noted-none (not (is_some (column_named table.columns name))) UnknownName at F (sym (ap (λ o. (found_name o name at F).1) s) ∙ h)).0 in
    let operand = λ (table : TableDef) (s : Sees d table). ap (λ o. (found_name o name at F).0) s in
    record {
      expression = record d.expression { operands = found.0 ∷ d.expression.operands };
      first = found.1;
      same = refl;
      top = found.0;
      operands = refl;
      operators = refl;
      sound = λ table s. subst (Sound table) (sym (operand table s))
          (name_describes table (column_named table.columns name), inl (tree_of_place (column_named table.columns name) (known table s)));
      typed = λ table s none. (none, subst (λ (x : Operand). is_some x.kind ≡ true) (sym (operand table s)) (kind_of_place table.columns name (column_named table.columns name) refl (known table s)));
    }
