-- The parts of expressions keep their contracts.
use Rattle.std.proofs.Common.{◌≡◌, ℕ, min, ◌+◌, List, Some, None}
use Rattle.std.specs.Prelude.{nat_le}
use Rattle.statement_words.specs.Spans.{IsFormedWord}
use Rattle.statement_words.specs.declared.keywords.Keyword.TheVariants as keyword
use Rattle.statement_words.specs.declared.tokens.Sign.TheVariants as sign
use Rattle.statement_words.specs.declared.tokens.Word.{Word}
use Rattle.statement_words.specs.declared.tokens.Word.TheVariants as word
use Rattle.statement_grammar.specs.WordsAt.{is_key}
use Rattle.statement_grammar.specs.Grammar.{operand_behind, condition_behind, comparison_rest, and_behind, or_behind, compare_behind, sum_behind, product_behind, is_comparison}
use Rattle.statement_grammar.specs.declared.symbols.Symbol.{Symbol}
use Rattle.statement_draft.specs.Expressions.{operand_came, opened, inside_ends, number_came, negative_came, name_came, text_operand, with_operand, with_operator, joins, op_of}
use Rattle.statement_grammar.specs.declared.symbols.End.TheVariants as ends
use Rattle.statement_draft.specs.Judging.{ended}
use Rattle.statement_draft.specs.Faults.{noted}
use Rattle.statement_draft.specs.declared.draft.Draft.{Draft}
use Rattle.statement_draft.specs.declared.faults.Reason.TheVariants.{OverLimit}
use Rattle.statement_draft.specs.declared.kinds.Operator.TheVariants as operator
use Rattle.statement_rules.proofs.ExpressionSteps.{OneMore, TopChanged, changed_after, changed_twice, joined_after, turned_after, inside_after, opened_before, number_more, negative_more, text_more, name_more}
use Rattle.statement_rules.proofs.PartContracts.{Demand, by_if, by_some}

rest_after : (d e : Draft) → OneMore d e → Demand comparison_rest (OneMore d) e
rest_after d e m = (tt, λ e1 c1. (tt, λ e2 c2. (tt, λ e3 c3. changed_after d e2 e3 (changed_after d e1 e2 (changed_after d e e1 m c1) c2) c3)))

-- what stands in parentheses is one operand
inside_is : (at : ℕ) (d e1 e2 e3 : Draft) → OneMore (opened at d) e1 → TopChanged e1 e2 → TopChanged e2 e3 → OneMore d (ended ends.Inside e3)
unfolding ended
inside_is at d e1 e2 e3 m c2 c3 =
    let d1 = opened at d in
    opened_before d (min 64 d.expression.inside + 1) (noted (nat_le 64 d.expression.inside) OverLimit at d.first) (inside_ends e3)
    (inside_after d1 e3 (changed_after d1 e2 e3 (changed_after d1 e1 e2 m c2) c3))

turned_ends : (at : ℕ) (d e : Draft) → OneMore (with_operator (operator.Not at) d) e → OneMore d (ended ends.Operator e)
unfolding ended
turned_ends at d e m = turned_after at d e m

joined_ends : (w : Word) (at : ℕ) (d e : Draft) → OneMore (joins w at d) e → TopChanged d (ended ends.Operator e)
unfolding ended
joined_ends w at d e m = joined_after (op_of w) at d e m

pub operand_meets : (w : Word) (at : ℕ) (more : List Symbol) (d : Draft) → IsFormedWord w → operand_behind w ≡ Some more → (operand_came w at d).first ≡ None
    → Demand more (OneMore d) (operand_came w at d)
operand_meets (word.Number n) at more d f h clean = by_some _ more (λ m. Demand m (OneMore d) (number_came n at d)) h (number_more n at d f clean)
operand_meets (word.Text text) at more d f h clean = by_some _ more (λ m. Demand m (OneMore d) (with_operand (text_operand text) d)) h (text_more text d f.0 f.1)
operand_meets (word.Name name) at more d f h clean = by_some _ more (λ m. Demand m (OneMore d) (name_came name at d)) h (name_more name at d clean)
operand_meets (word.Keyword k) at more d f h clean = absurd (cc (h))
operand_meets (word.Sign sign.Minus) at more d f h clean = by_some _ more (λ m. Demand m (OneMore d) d) h (λ n at2 le clean2. negative_more n d)
operand_meets (word.Sign sign.Open) at more d f h clean =
    by_some _ more (λ m. Demand m (OneMore d) (opened at d)) h (tt, λ e1 m1. (tt, λ e2 c2. (tt, λ e3 c3. λ clean2. inside_is at d e1 e2 e3 m1 c2 c3)))
operand_meets (word.Sign s) at more d f h clean = absurd (cc (h))

pub condition_meets : (w : Word) (at : ℕ) (more : List Symbol) (d : Draft) → IsFormedWord w → condition_behind w ≡ Some more → (operand_came w at d).first ≡ None
    → Demand more (OneMore d) (operand_came w at d)
condition_meets (word.Number n) at more d f h clean = by_some _ more (λ m. Demand m (OneMore d) (number_came n at d)) h (rest_after d (number_came n at d) (number_more n at d f clean))
condition_meets (word.Text text) at more d f h clean =
    by_some _ more (λ m. Demand m (OneMore d) (with_operand (text_operand text) d)) h (rest_after d (with_operand (text_operand text) d) (text_more text d f.0 f.1))
condition_meets (word.Name name) at more d f h clean = by_some _ more (λ m. Demand m (OneMore d) (name_came name at d)) h (rest_after d (name_came name at d) (name_more name at d clean))
condition_meets (word.Keyword keyword.Not) at more d f h clean =
    by_some _ more (λ m. Demand m (OneMore d) (with_operator (operator.Not at) d)) h (tt, λ e m. λ clean2. turned_ends at d e m)
condition_meets (word.Keyword k) at more d f h clean = absurd (cc (h))
condition_meets (word.Sign sign.Minus) at more d f h clean =
    by_some _ more (λ m. Demand m (OneMore d) d) h (λ n at2 le clean2. rest_after d (negative_came n d) (negative_more n d))
condition_meets (word.Sign sign.Open) at more d f h clean =
    by_some _ more (λ m. Demand m (OneMore d) (opened at d)) h
    (tt, λ e1 m1. (tt, λ e2 c2. (tt, λ e3 c3. λ clean2. rest_after d (ended ends.Inside e3) (inside_is at d e1 e2 e3 m1 c2 c3))))
condition_meets (word.Sign s) at more d f h clean = absurd (cc (h))

-- an operator's word, its right operand, and what goes on behind it
and_goes : (w : Word) (at : ℕ) (d e : Draft) → OneMore (joins w at d) e → (g : Draft) → TopChanged (ended ends.Operator e) g → TopChanged d g
and_goes w at d e m g c = changed_twice d (ended ends.Operator e) g (joined_ends w at d e m) c

pub and_meets : (w : Word) (at : ℕ) (more : List Symbol) (d : Draft) → and_behind w ≡ Some more → Demand more (TopChanged d) (joins w at d)
and_meets w at more d h =
    by_if (is_key w keyword.And) _ more (λ m. Demand m (TopChanged d) (joins w at d)) h (tt, λ e m. λ clean. (tt, λ g c. and_goes w at d e m g c))

pub or_meets : (w : Word) (at : ℕ) (more : List Symbol) (d : Draft) → or_behind w ≡ Some more → Demand more (TopChanged d) (joins w at d)
or_meets w at more d h =
    by_if (is_key w keyword.Or) _ more (λ m. Demand m (TopChanged d) (joins w at d)) h
    (tt, λ e m. (tt, λ e2 c2. λ clean. (tt, λ g c. and_goes w at d e2 (changed_after (joins w at d) e e2 m c2) g c)))

pub compare_meets : (w : Word) (at : ℕ) (more : List Symbol) (d : Draft) → compare_behind w ≡ Some more → Demand more (TopChanged d) (joins w at d)
compare_meets w at more d h =
    by_if (is_comparison w) _ more (λ m. Demand m (TopChanged d) (joins w at d)) h
    (tt, λ e m. (tt, λ e2 c2. (tt, λ e3 c3. λ clean. joined_ends w at d e3 (changed_after (joins w at d) e2 e3 (changed_after (joins w at d) e e2 m c2) c3))))

pub sum_meets : (w : Word) (at : ℕ) (more : List Symbol) (d : Draft) → sum_behind w ≡ Some more → Demand more (TopChanged d) (joins w at d)
sum_meets w at more d h =
    by_if _ _ more (λ m. Demand m (TopChanged d) (joins w at d)) h
    (tt, λ e m. (tt, λ e2 c2. λ clean. (tt, λ g c. and_goes w at d e2 (changed_after (joins w at d) e e2 m c2) g c)))

pub product_meets : (w : Word) (at : ℕ) (more : List Symbol) (d : Draft) → product_behind w ≡ Some more → Demand more (TopChanged d) (joins w at d)
product_meets w at more d h =
    by_if _ _ more (λ m. Demand m (TopChanged d) (joins w at d)) h (tt, λ e m. λ clean. (tt, λ g c. and_goes w at d e m g c))
