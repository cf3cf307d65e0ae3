-- Operators between operands lead the reader on, by their levels.
use Rattle.std.proofs.Common.{◌≡◌, ◌<◌, ℕ, List, [], ◌∷◌, ◌++◌, Bool, false, Some, None, refl, ap, ◌∙◌, append_assoc, arith}
use Rattle.sql_base.specs.declared.expressions.ArithOp.{ArithOp}
use Rattle.sql_base.specs.declared.expressions.ArithOp.TheVariants.{Add, Sub, Mul, Div}
use Rattle.sql_base.specs.declared.expressions.CompareOp.{CompareOp}
use Rattle.sql_base.specs.declared.expressions.CompareOp.TheVariants.{Eq, Ne, Lt, Le, Gt, Ge}
use Rattle.sql_base.specs.declared.tables.Column.{Column}
use Rattle.statement_words.specs.declared.keywords.Keyword.TheVariants as keys
use Rattle.statement_words.specs.declared.tokens.Sign.TheVariants as signs
use Rattle.statement_words.specs.declared.tokens.Token.{Token}
use Rattle.statement_words.specs.declared.tokens.Word.{Word}
use Rattle.statement_grammar.specs.Grammar.{behind, comparison_rest}
use Rattle.statement_grammar.specs.declared.symbols.End.TheVariants as ends
use Rattle.statement_grammar.specs.declared.symbols.Part.{Part}
use Rattle.statement_grammar.specs.declared.symbols.Part.TheVariants as parts
use Rattle.statement_grammar.specs.declared.symbols.Symbol.{Symbol}
use Rattle.statement_grammar.specs.declared.symbols.Symbol.TheVariants as symbols
use Rattle.statement_draft.specs.Faults.{noted}
use Rattle.statement_draft.specs.Expressions.{of_truths, op_kind, is_wrong, binary, negation, with_operand, operand_came, joins, op_of, with_operator}
use Rattle.statement_draft.specs.Judging.{came, ended, read_from}
use Rattle.statement_draft.specs.declared.faults.Reason.TheVariants.{WrongType}
use Rattle.statement_draft.specs.declared.kinds.Op.{Op}
use Rattle.statement_draft.specs.declared.kinds.Op.TheVariants as op
use Rattle.statement_draft.specs.declared.kinds.Operand.{Operand}
use Rattle.statement_draft.specs.declared.kinds.Operator.TheVariants as operator
use Rattle.statement_draft.specs.declared.draft.Draft.{Draft}
use Rattle.statement_printer.specs.Printing.{sign, key, arith_sign, compare_sign}
use Rattle.statement_round_trip.specs.Rereading.{EndsExpression, whole_stack, ReadAs}
use Rattle.statement_round_trip.proofs.Steps.{read_end, read_skip, read_part}
use Rattle.statement_round_trip.proofs.Tokens.{halves, one}
use Rattle.statement_round_trip.proofs.Operands.{Stands, TakesOperand, at_condition, at_operand, joint_rest, scope_kept, skip_comparison, skip_joints}

pub record Level (w : Word) (o : Op) : Type 0 where
  pub part : Part
  pub rest : List Symbol
  pub tail : List Symbol
  pub takes : TakesOperand part rest
  pub means : op_of w ≡ o
  pub begins : (s : List Symbol) (d : Draft) (t : Token) (ts : List Token) (at : ℕ) → t.word ≡ w
      → read_from (comparison_rest ++ joint_rest s) d (t ∷ ts) at ≡ read_from (symbols.Part part ∷ (tail ++ s)) (joins w t.first d) ts at
  pub closes : (s : List Symbol) (d : Draft) (t : Token) (ts : List Token) (at : ℕ) → EndsExpression t.word
      → read_from (rest ++ (tail ++ s)) d (t ∷ ts) at ≡ read_from s (ended ends.Operator d) (t ∷ ts) at

abbrev Joins : Part → Type 0
Joins p = (w : Word) (at : ℕ) (d : Draft) → came (symbols.Part p) w at d ≡ joins w at d

-- the operator's word is taken by its part
begins_at : (p : Part) (w : Word) (more s : List Symbol) (d : Draft) (t : Token) (ts : List Token) (at : ℕ) → Joins p → behind p w ≡ Some more → t.word ≡ w
    → read_from (symbols.Part p ∷ s) d (t ∷ ts) at ≡ read_from (more ++ s) (joins w t.first d) ts at
begins_at p w more s d t ts at is_joining some is =
    read_part p more s d t ts at (ap (behind p) is ∙ some) ∙ ap (λ (e : Draft). read_from (more ++ s) e ts at) (is_joining t.word t.first d ∙ ap (λ (v : Word). joins v t.first d) is)

joins_product : Joins parts.ProductRest
unfolding came
joins_product w at d = refl

joins_sum : Joins parts.SumRest
unfolding came
joins_sum w at d = refl

joins_compare : Joins parts.CompareRest
unfolding came
joins_compare w at d = refl

joins_and : Joins parts.AndRest
unfolding came
joins_and w at d = refl

joins_or : Joins parts.OrRest
unfolding came
joins_or w at d = refl

abbrev op_end : Symbol
op_end = symbols.Ended ends.Operator

abbrev pub p : Part → Symbol
p part = symbols.Part part

product_level : (w : Word) (o : Op) → op_of w ≡ o → behind parts.ProductRest w ≡ Some (p parts.Operand ∷ op_end ∷ p parts.ProductRest ∷ []) → Level w o
product_level w o means h = record {
  part = parts.Operand;
  rest = [];
  tail = op_end ∷ (comparison_rest ++ joint_rest []);
  takes = at_operand;
  means = means;
  begins = λ s d t ts at is. begins_at parts.ProductRest w (p parts.Operand ∷ op_end ∷ p parts.ProductRest ∷ []) (p parts.SumRest ∷ p parts.CompareRest ∷ joint_rest s) d t ts at joins_product h is;
  closes = λ s d t ts at e. read_end ends.Operator (comparison_rest ++ joint_rest s) d t ts at ∙ skip_comparison (joint_rest s) (ended ends.Operator d) t ts at e
      ∙ skip_joints s (ended ends.Operator d) t ts at e;
}

sum_level : (w : Word) (o : Op) → op_of w ≡ o → behind parts.ProductRest w ≡ None → behind parts.SumRest w ≡ Some (p parts.Operand ∷ p parts.ProductRest ∷ op_end ∷ p parts.SumRest ∷ []) → Level w o
sum_level w o means no_product h = record {
  part = parts.Operand;
  rest = [];
  tail = p parts.ProductRest ∷ op_end ∷ p parts.SumRest ∷ p parts.CompareRest ∷ joint_rest [];
  takes = at_operand;
  means = means;
  begins = λ s d t ts at is. read_skip parts.ProductRest (p parts.SumRest ∷ p parts.CompareRest ∷ joint_rest s) d t ts at refl (ap (behind parts.ProductRest) is ∙ no_product)
      ∙ begins_at parts.SumRest w (p parts.Operand ∷ p parts.ProductRest ∷ op_end ∷ p parts.SumRest ∷ []) (p parts.CompareRest ∷ joint_rest s) d t ts at joins_sum h is;
  closes = λ s d t ts at e. read_skip parts.ProductRest (op_end ∷ p parts.SumRest ∷ p parts.CompareRest ∷ joint_rest s) d t ts at refl e.product
      ∙ read_end ends.Operator (p parts.SumRest ∷ p parts.CompareRest ∷ joint_rest s) d t ts at
      ∙ read_skip parts.SumRest (p parts.CompareRest ∷ joint_rest s) (ended ends.Operator d) t ts at refl e.sum
      ∙ read_skip parts.CompareRest (joint_rest s) (ended ends.Operator d) t ts at refl e.compare ∙ skip_joints s (ended ends.Operator d) t ts at e;
}

compare_level : (w : Word) (o : Op) → op_of w ≡ o → behind parts.ProductRest w ≡ None → behind parts.SumRest w ≡ None
    → behind parts.CompareRest w ≡ Some (p parts.Operand ∷ p parts.ProductRest ∷ p parts.SumRest ∷ op_end ∷ []) → Level w o
compare_level w o means no_product no_sum h = record {
  part = parts.Operand;
  rest = [];
  tail = p parts.ProductRest ∷ p parts.SumRest ∷ op_end ∷ joint_rest [];
  takes = at_operand;
  means = means;
  begins = λ s d t ts at is. read_skip parts.ProductRest (p parts.SumRest ∷ p parts.CompareRest ∷ joint_rest s) d t ts at refl (ap (behind parts.ProductRest) is ∙ no_product)
      ∙ read_skip parts.SumRest (p parts.CompareRest ∷ joint_rest s) d t ts at refl (ap (behind parts.SumRest) is ∙ no_sum)
      ∙ begins_at parts.CompareRest w (p parts.Operand ∷ p parts.ProductRest ∷ p parts.SumRest ∷ op_end ∷ []) (joint_rest s) d t ts at joins_compare h is;
  closes = λ s d t ts at e. read_skip parts.ProductRest (p parts.SumRest ∷ op_end ∷ joint_rest s) d t ts at refl e.product
      ∙ read_skip parts.SumRest (op_end ∷ joint_rest s) d t ts at refl e.sum
      ∙ read_end ends.Operator (joint_rest s) d t ts at ∙ skip_joints s (ended ends.Operator d) t ts at e;
}

-- no arithmetic and no comparison goes on with these keywords
skip_to_joints : (w : Word) (s : List Symbol) (d : Draft) (t : Token) (ts : List Token) (at : ℕ) → behind parts.ProductRest w ≡ None → behind parts.SumRest w ≡ None
    → behind parts.CompareRest w ≡ None → t.word ≡ w → read_from (comparison_rest ++ s) d (t ∷ ts) at ≡ read_from s d (t ∷ ts) at
skip_to_joints w s d t ts at a b c is =
    read_skip parts.ProductRest (p parts.SumRest ∷ p parts.CompareRest ∷ s) d t ts at refl (ap (behind parts.ProductRest) is ∙ a)
    ∙ read_skip parts.SumRest (p parts.CompareRest ∷ s) d t ts at refl (ap (behind parts.SumRest) is ∙ b)
    ∙ read_skip parts.CompareRest s d t ts at refl (ap (behind parts.CompareRest) is ∙ c)

pub and_level : Level (key keys.And) op.And
unfolding behind
and_level = record {
  part = parts.Condition;
  rest = comparison_rest;
  tail = op_end ∷ joint_rest [];
  takes = at_condition;
  means = refl;
  begins = λ s d t ts at is. skip_to_joints (key keys.And) (joint_rest s) d t ts at refl refl refl is
      ∙ begins_at parts.AndRest (key keys.And) (p parts.Condition ∷ op_end ∷ p parts.AndRest ∷ []) (p parts.OrRest ∷ s) d t ts at joins_and refl is;
  closes = λ s d t ts at e. skip_comparison (op_end ∷ joint_rest s) d t ts at e ∙ read_end ends.Operator (joint_rest s) d t ts at ∙ skip_joints s (ended ends.Operator d) t ts at e;
}

pub or_level : Level (key keys.Or) op.Or
unfolding behind
or_level = record {
  part = parts.Condition;
  rest = comparison_rest;
  tail = p parts.AndRest ∷ op_end ∷ p parts.OrRest ∷ [];
  takes = at_condition;
  means = refl;
  begins = λ s d t ts at is. skip_to_joints (key keys.Or) (joint_rest s) d t ts at refl refl refl is
      ∙ read_skip parts.AndRest (p parts.OrRest ∷ s) d t ts at refl (ap (behind parts.AndRest) is)
      ∙ begins_at parts.OrRest (key keys.Or) (p parts.Condition ∷ p parts.AndRest ∷ op_end ∷ p parts.OrRest ∷ []) s d t ts at joins_or refl is;
  closes = λ s d t ts at e. skip_comparison (p parts.AndRest ∷ op_end ∷ p parts.OrRest ∷ s) d t ts at e
      ∙ read_skip parts.AndRest (op_end ∷ p parts.OrRest ∷ s) d t ts at refl e.both ∙ read_end ends.Operator (p parts.OrRest ∷ s) d t ts at
      ∙ read_skip parts.OrRest s (ended ends.Operator d) t ts at refl e.either;
}

pub arith_level : (o : ArithOp) → Level (sign (arith_sign o)) (op.Arith o)
unfolding behind
arith_level Add = sum_level (sign signs.Plus) (op.Arith Add) refl refl refl
arith_level Sub = sum_level (sign signs.Minus) (op.Arith Sub) refl refl refl
arith_level Mul = product_level (sign signs.Times) (op.Arith Mul) refl refl
arith_level Div = product_level (sign signs.Over) (op.Arith Div) refl refl

pub relation_level : (o : CompareOp) → Level (sign (compare_sign o)) (op.Compare o)
unfolding behind
relation_level Eq = compare_level (sign signs.Equal) (op.Compare Eq) refl refl refl refl
relation_level Ne = compare_level (sign signs.Unequal) (op.Compare Ne) refl refl refl refl
relation_level Lt = compare_level (sign signs.Less) (op.Compare Lt) refl refl refl refl
relation_level Le = compare_level (sign signs.AtMost) (op.Compare Le) refl refl refl refl
relation_level Gt = compare_level (sign signs.Greater) (op.Compare Gt) refl refl refl refl
relation_level Ge = compare_level (sign signs.AtLeast) (op.Compare Ge) refl refl refl refl

-- ---- an operator that has its operands

abbrev pub done : Operand → Draft → Bool → ℕ → Draft
done x d wrong at = record d { expression = record d.expression { operands = x ∷ d.expression.operands; first = noted wrong WrongType at d.expression.first } }

operator_done : (w : Word) (o : Op) (x y : Operand) (at : ℕ) (d : Draft) → op_of w ≡ o → is_wrong x.kind y.kind (op_kind o x.kind y.kind) ≡ false
    → ended ends.Operator (with_operand y (joins w at (with_operand x d))) ≡ with_operand (binary o x y) d
unfolding ended
operator_done w o x y at d means right =
    ap (λ (q : Op). done (binary q x y) d (is_wrong x.kind y.kind (op_kind q x.kind y.kind)) at) means ∙ ap (λ (b : Bool). done (binary o x y) d b at) right

pub whole_binary : (columns : List Column) (w : Word) (o : Op) → Level w o → (us vs : List Word) (m n depth : ℕ) (x y : Operand)
    → Stands columns us m x → Stands columns vs n y → m < depth → n < depth → is_wrong x.kind y.kind (op_kind o x.kind y.kind) ≡ false
    → ReadAs columns (us ++ w ∷ vs) depth (binary o x y)
whole_binary columns w o level us vs m n depth x y left right left_below right_below kinds s d tokens t ts at scope ended_by room h =
    let q = halves us (w ∷ vs) tokens h in
    let between_them = one w vs q.rest q.rest_words in
    let mid = between_them.token in
    let d1 = joins w mid.first (with_operand x d) in
    ap (λ (l : List Token). read_from (whole_stack s) d (l ++ t ∷ ts) at) (q.whole ∙ ap (λ (l : List Token). q.front ++ l) between_them.whole)
    ∙ ap (λ (l : List Token). read_from (whole_stack s) d l at) (append_assoc q.front (mid ∷ between_them.rest) (t ∷ ts))
    ∙ left parts.Condition comparison_rest at_condition (joint_rest s) d q.front mid (between_them.rest ++ t ∷ ts) at scope (omega arith) q.front_words
    ∙ level.begins s (with_operand x d) mid (between_them.rest ++ t ∷ ts) at between_them.is
    ∙ right level.part level.rest level.takes (level.tail ++ s) d1 between_them.rest t ts at (scope_kept d.scope d d1.first d1.expression ∙ scope) (omega arith) between_them.words
    ∙ level.closes s (with_operand y d1) t ts at ended_by
    ∙ ap (λ (e : Draft). read_from s e (t ∷ ts) at) (operator_done w o x y mid.first d level.means kinds)

not_done : (x : Operand) (at : ℕ) (d : Draft) → is_wrong x.kind x.kind (of_truths x.kind x.kind) ≡ false
    → ended ends.Operator (with_operand x (with_operator (operator.Not at) d)) ≡ with_operand (negation x) d
unfolding ended
not_done x at d right = ap (λ (b : Bool). done (negation x) d b at) right

not_begins : behind parts.Condition (key keys.Not) ≡ Some (p parts.Condition ∷ op_end ∷ [])
unfolding behind
not_begins = refl

pub whole_not : (columns : List Column) (us : List Word) (m depth : ℕ) (x : Operand) → Stands columns us m x → m < depth → is_wrong x.kind x.kind (of_truths x.kind x.kind) ≡ false
    → ReadAs columns (key keys.Not ∷ us) depth (negation x)
whole_not columns us m depth x stands below kinds s d tokens t ts at scope ended_by room h =
    let o = one (key keys.Not) us tokens h in
    let d1 = with_operator (operator.Not o.token.first) d in
    ap (λ (l : List Token). read_from (whole_stack s) d (l ++ t ∷ ts) at) o.whole
    ∙ read_part parts.Condition (p parts.Condition ∷ op_end ∷ []) (joint_rest s) d o.token (o.rest ++ t ∷ ts) at (ap (behind parts.Condition) o.is ∙ not_begins)
    ∙ ap (λ (e : Draft). read_from (p parts.Condition ∷ op_end ∷ joint_rest s) e (o.rest ++ t ∷ ts) at)
    (at_condition.comes o.token.word o.token.first d ∙ ap (λ (v : Word). operand_came v o.token.first d) o.is)
    ∙ stands parts.Condition comparison_rest at_condition (op_end ∷ joint_rest s) d1 o.rest t ts at (scope_kept d.scope d d1.first d1.expression ∙ scope) (omega arith) o.words
    ∙ skip_comparison (op_end ∷ joint_rest s) (with_operand x d1) t ts at ended_by
    ∙ read_end ends.Operator (joint_rest s) (with_operand x d1) t ts at
    ∙ skip_joints s (ended ends.Operator (with_operand x d1)) t ts at ended_by
    ∙ ap (λ (e : Draft). read_from s e (t ∷ ts) at) (not_done x o.token.first d kinds)
