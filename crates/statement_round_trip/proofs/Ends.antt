-- Whole expressions of a table, and a WHERE.
use Rattle.statement_grammar.specs.declared.symbols.End.TheVariants as ends
use Rattle.sql_base.specs.declared.expressions.Expr.{Expr}
use Rattle.std.proofs.Common.{◌≡◌, ℕ, Bool, true, false, ◌||◌, Option, Some, None, refl, ap, ◌∙◌, arith, List, [], ◌∷◌, ◌++◌}
use Rattle.std.specs.Prelude.{is_some, nat_lt, option_map}
use Rattle.sql_base.specs.Kinds as base
use Rattle.statement_draft.specs.Describing.{meant}
use Rattle.statement_draft.specs.Faults.{noted, sooner}
use Rattle.statement_draft.specs.Expressions.{is_no_truth, no_expression, columns_in, with_operand, expression_begins}
use Rattle.statement_draft.specs.Judging.{came, ended, read_from}
use Rattle.statement_draft.specs.StatementEvents.{where_came}
use Rattle.statement_draft.specs.declared.draft.Scope.{Scope}
use Rattle.statement_draft.specs.declared.draft.Scope.TheVariants as scope
use Rattle.statement_words.specs.declared.keywords.Keyword.TheVariants as keys
use Rattle.statement_words.specs.declared.tokens.Token.{Token}
use Rattle.statement_grammar.specs.declared.symbols.Part.TheVariants as parts
use Rattle.statement_grammar.specs.declared.symbols.Symbol.{Symbol}
use Rattle.statement_grammar.specs.declared.symbols.Symbol.TheVariants as symbols
use Rattle.statement_printer.specs.Printing.{key, expr_words}
use Rattle.statement_round_trip.proofs.Described.{small, summary_describes}
use Rattle.statement_round_trip.proofs.Tokens.{one}
use Rattle.statement_round_trip.proofs.Steps.{read_end, read_part}
use Rattle.statement_draft.specs.declared.draft.Draft.{Draft}
use Rattle.statement_draft.specs.declared.faults.Fault.{Fault}
use Rattle.statement_draft.specs.declared.faults.Reason.TheVariants.{WrongType, OverLimit}
use Rattle.statement_draft.specs.declared.kinds.Kind.{Kind}
use Rattle.statement_draft.specs.declared.kinds.Kind.TheVariants as kind
use Rattle.statement_draft.specs.declared.kinds.Operand.{Operand}
use Rattle.statement_round_trip.specs.Rereading.{filtered, summary, ExpressionsEnd, FilterReadBack, FiltersEnd, TypedReadBack}
use Rattle.statement_grammar.specs.Grammar.{behind}
use Rattle.statement_round_trip.proofs.Leaves.{typed_leaves}
use Rattle.statement_round_trip.proofs.Naming.{columns_named}
use Rattle.statement_round_trip.proofs.Summaries.{summaries_tell}
use Rattle.statement_round_trip.proofs.Typed.{as_truth, typed_for_reader}
use Rattle.statement_round_trip.proofs.Wholes.{wholes_read_back}

-- what a WHERE is made of
abbrev where_list : List Symbol
where_list = symbols.Part parts.Expression ∷ symbols.Part parts.AndRest ∷ symbols.Part parts.OrRest ∷ symbols.Ended ends.Filter ∷ []

pub sooner_alone : (first : Option Fault) → sooner first None ≡ first
sooner_alone None = refl
sooner_alone (Some fault) = refl

abbrev ended_with : Operand → ℕ → Draft → Option Kind → Bool → Option Fault → Draft
ended_with x place d k over first =
    record d { first = noted (is_no_truth k) WrongType d.statement.where_at (noted over OverLimit place first); statement = record d.statement { filter = x.tree }; expression = no_expression 0 }

pub filters_end : FiltersEnd
unfolding ended
filters_end x place d truth fits =
    ap (λ (k : Option Kind). ended_with x place d k (nat_lt 32 x.depth || nat_lt 8192 x.code) (sooner d.first None)) truth
    ∙ ap (λ (b : Bool). ended_with x place d (Some kind.Truth) b (sooner d.first None)) fits
    ∙ ap (λ (first : Option Fault). ended_with x place d (Some kind.Truth) false first) (sooner_alone d.first)

pub is_there : (k : base.Kind) (x : Option Kind) → option_map meant x ≡ Some k → is_some x ≡ true
is_there k None h = absurd cc
is_there k (Some y) h = refl

pub typed_read_back : TypedReadBack
typed_read_back table declared k e is s d tokens t ts at scope ended_by h =
    let leaves = typed_leaves table e k is.typed in
    let typed = typed_for_reader table e k is.typed in
    let tree = summaries_tell table.columns e leaves is.depth in
    let read = wholes_read_back table.columns (columns_named table declared) e leaves (is_there k (summary table.columns e).kind typed) (omega (arith, is.depth)) s d tokens t ts at scope ended_by h in
    (summary table.columns e, read.0, tree, typed, small table e (summary table.columns e) k is (summary_describes table e k is.typed) tree, read.1)

pub expressions_end : ExpressionsEnd
unfolding behind
expressions_end = record {
  close = record { product = refl; sum = refl; compare = refl; both = refl; either = refl };
  comma = record { product = refl; sum = refl; compare = refl; both = refl; either = refl };
  access = record { product = refl; sum = refl; compare = refl; both = refl; either = refl };
  filter = record { product = refl; sum = refl; compare = refl; both = refl; either = refl };
}

where_begins : behind parts.Where (key keys.Where) ≡ Some where_list
unfolding behind
where_begins = refl

where_is : (at : ℕ) (d : Draft) → came (symbols.Part parts.Where) (key keys.Where) at d ≡ where_came at d
unfolding came
where_is at d = refl

scope_still : (s : Scope) (at : ℕ) (d : Draft) → columns_in s (where_came at d) ≡ columns_in s d
scope_still scope.NewTable at d = refl
scope_still (scope.Table t) at d = refl
scope_still scope.Unknown at d = refl

pub filter_read_back : FilterReadBack
filter_read_back table declared e is s d tokens t ts at saw ended_by h =
    let o = one (key keys.Where) (expr_words table.columns e) tokens h in
    let d1 = where_came o.token.first d in
    let back = typed_read_back table declared base.OfTruth e is (symbols.Ended ends.Filter ∷ s) d1 o.rest t ts at (scope_still d.scope o.token.first d ∙ saw) ended_by o.words in
    let x = back.0 in
    let begins : behind parts.Where o.token.word ≡ Some where_list = ap (behind parts.Where) o.is ∙ where_begins in
    let came_is : came (symbols.Part parts.Where) o.token.word o.token.first d ≡ d1 = ap (λ w. came (symbols.Part parts.Where) w o.token.first d) o.is ∙ where_is o.token.first d in
    let d2 = with_operand x (expression_begins back.1 d1) in
    let done : ended ends.Filter d2 ≡ filtered x.tree d1 = filters_end x back.1 d1 (as_truth x.kind back.3) back.4 in (
      o.token.first,
      ap (λ (l : List Token). read_from (symbols.Part parts.Where ∷ s) d (l ++ t ∷ ts) at) o.whole
          ∙ read_part parts.Where where_list s d o.token (o.rest ++ t ∷ ts) at begins
          ∙ ap (λ (y : Draft). read_from (where_list ++ s) y (o.rest ++ t ∷ ts) at) came_is
          ∙ back.5
          ∙ read_end ends.Filter s d2 t ts at
          ∙ ap (λ (y : Draft). read_from s y (t ∷ ts) at) (done ∙ ap (λ (tree : Option Expr). filtered tree d1) back.2),
    )
