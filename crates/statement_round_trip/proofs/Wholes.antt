-- A printed expression where a whole one begins.
use Rattle.std.proofs.Common.{◌≡◌, ℕ, ℤ, pos, negsuc, List, [], ◌∷◌, ◌++◌, Bool, true, false, Option, Some, None, refl, sym, ap, subst, ◌∙◌, arith}
use Rattle.std.specs.Prelude.{slice_get}
use Rattle.sql_base.specs.declared.expressions.Expr.TheOpen.{Expr-F}
use Rattle.sql_base.specs.declared.tables.Column.{Column}
use Rattle.sql_base.proofs.Trees.{fold-Number, fold-Text, fold-Column, fold-Arith, fold-Compare, fold-And, fold-Or, fold-Not}
use Rattle.statement_words.specs.declared.keywords.Keyword.TheVariants as keys
use Rattle.statement_words.specs.declared.tokens.Sign.TheVariants as signs
use Rattle.statement_words.specs.declared.tokens.Token.{Token}
use Rattle.statement_words.specs.declared.tokens.Word.{Word}
use Rattle.statement_words.specs.declared.tokens.Word.TheVariants as word
use Rattle.statement_grammar.specs.Grammar.{behind}
use Rattle.statement_grammar.specs.declared.symbols.Part.TheVariants as parts
use Rattle.statement_grammar.specs.declared.symbols.Symbol.{Symbol}
use Rattle.statement_grammar.specs.declared.symbols.Symbol.TheVariants as symbols
use Rattle.statement_draft.specs.Expressions.{expression_begins}
use Rattle.statement_draft.specs.Judging.{came, read_from}
use Rattle.statement_draft.specs.declared.draft.Draft.{Draft}
use Rattle.statement_printer.specs.Printing.{Printed, printed_expr, print_step, operand_words, between, int_words, name_word, sign, key, arith_sign, compare_sign, expr_words}
use Rattle.statement_round_trip.specs.Rereading.{whole_stack, WholesReadBack}
use Rattle.statement_printer.proofs.Joining.{words_of_pos}
use Rattle.statement_round_trip.proofs.Steps.{read_part}
use Rattle.statement_round_trip.proofs.ExpressionsRead.{Cases, expr_induction, expressions_read_back}
use Rattle.statement_round_trip.proofs.Operands.{scope_kept}
use Rattle.statement_round_trip.proofs.Tokens.{one}

-- the first word begins an expression
record Begins (words : List Word) : Type 0 where
  pub first : Word
  pub rest : List Word
  pub is : words ≡ first ∷ rest
  pub more : List Symbol
  pub begins : behind parts.Condition first ≡ Some more

begins_operand : (words : List Word) (is_operator : Bool) → Begins words → Begins (operand_words (record { words = words; is_operator = is_operator }))
unfolding behind
begins_operand words true b = record { first = sign signs.Open; rest = words ++ sign signs.Close ∷ []; is = refl; more = _; begins = refl }
begins_operand words false b = b

begins_append : (us vs : List Word) → Begins us → Begins (us ++ vs)
begins_append us vs b = record { first = b.first; rest = b.rest ++ vs; is = ap (λ (l : List Word). l ++ vs) b.is; more = b.more; begins = b.begins }

begins_number : (n : ℕ) → Begins (word.Number n ∷ [])
unfolding behind
begins_number n = record { first = _; rest = _; is = refl; more = _; begins = refl }

begins_int : (n : ℤ) → Begins (int_words n)
unfolding behind
begins_int (pos n) = subst Begins (sym (words_of_pos n)) (begins_number n)
begins_int (negsuc n) = record { first = _; rest = _; is = refl; more = _; begins = refl }

begins_text : (text : List ℕ) → Begins (word.Text text ∷ [])
unfolding behind
begins_text text = record { first = _; rest = _; is = refl; more = _; begins = refl }

begins_name : (found : Option Column) → Begins (name_word found ∷ [])
unfolding behind
begins_name None = record { first = _; rest = _; is = refl; more = _; begins = refl }
begins_name (Some column) = record { first = _; rest = _; is = refl; more = _; begins = refl }

begins_not : (words : List Word) → Begins (key keys.Not ∷ words)
unfolding behind
begins_not words = record { first = _; rest = _; is = refl; more = _; begins = refl }

begins_between : (op : Word) (a b : Printed) → Begins a.words → Begins (between op a b).words
begins_between op a b begins = begins_append (operand_words a) (op ∷ operand_words b) (begins_operand a.words a.is_operator begins)

begins_as : (q : Printed) (r : Printed) → q ≡ r → Begins r.words → Begins q.words
begins_as q r e b = subst (λ (p : Printed). Begins p.words) (sym e) b

module _ (columns : List Column) where
  abbrev fp : Expr-F Printed → Printed
  fp = print_step columns

  begun : Cases (λ e. Begins (expr_words columns e))
  begun = record {
    number = λ n. begins_as _ _ (fold-Number Printed fp n) (begins_int n);
    text = λ t. begins_as _ _ (fold-Text Printed fp t) (begins_text t);
    column = λ c. begins_as _ _ (fold-Column Printed fp c) (begins_name (slice_get columns c));
    arithmetic = λ o a b l r. begins_as _ _ (fold-Arith Printed fp o a b) (begins_between (sign (arith_sign o)) (printed_expr columns a) (printed_expr columns b) l);
    comparison = λ o a b l r. begins_as _ _ (fold-Compare Printed fp o a b) (begins_between (sign (compare_sign o)) (printed_expr columns a) (printed_expr columns b) l);
    conjunction = λ a b l r. begins_as _ _ (fold-And Printed fp a b) (begins_between (key keys.And) (printed_expr columns a) (printed_expr columns b) l);
    disjunction = λ a b l r. begins_as _ _ (fold-Or Printed fp a b) (begins_between (key keys.Or) (printed_expr columns a) (printed_expr columns b) l);
    negated = λ a b. begins_as _ _ (fold-Not Printed fp a) (begins_not (operand_words (printed_expr columns a)));
  }

-- a whole expression begins as a condition does
same_behind : (w : Word) → behind parts.Expression w ≡ behind parts.Condition w
unfolding behind
same_behind w = refl

same_came : (w : Word) (at : ℕ) (d : Draft) → came (symbols.Part parts.Expression) w at d ≡ came (symbols.Part parts.Condition) w at (expression_begins at d)
unfolding came
same_came w at d = refl

as_condition : (s more : List Symbol) (d : Draft) (t : Token) (ts : List Token) (at : ℕ) → behind parts.Condition t.word ≡ Some more
    → read_from (symbols.Part parts.Expression ∷ s) d (t ∷ ts) at ≡ read_from (symbols.Part parts.Condition ∷ s) (expression_begins t.first d) (t ∷ ts) at
as_condition s more d t ts at h =
    read_part parts.Expression more s d t ts at (same_behind t.word ∙ h) ∙ ap (λ (e : Draft). read_from (more ++ s) e ts at) (same_came t.word t.first d)
    ∙ sym (read_part parts.Condition more s (expression_begins t.first d) t ts at h)

pub wholes_read_back : WholesReadBack
wholes_read_back columns named e leaves typed deep s d tokens t ts at scope ended h =
    let b = expr_induction (λ e. Begins (expr_words columns e)) (begun columns) e in
    let o = one b.first b.rest tokens (h ∙ b.is) in
    let d1 = expression_begins o.token.first d in (
      o.token.first,
      ap (λ (l : List Token). read_from (symbols.Part parts.Expression ∷ symbols.Part parts.AndRest ∷ symbols.Part parts.OrRest ∷ s) d (l ++ t ∷ ts) at) o.whole
          ∙ as_condition (symbols.Part parts.AndRest ∷ symbols.Part parts.OrRest ∷ s) b.more d o.token (o.rest ++ t ∷ ts) at (ap (behind parts.Condition) o.is ∙ b.begins)
          ∙ ap (λ (l : List Token). read_from (whole_stack s) d1 (l ++ t ∷ ts) at) (sym o.whole)
          ∙ expressions_read_back columns named e leaves typed s d1 tokens t ts at (scope_kept d.scope d d1.first d1.expression ∙ scope) ended (omega arith) h,
    )
