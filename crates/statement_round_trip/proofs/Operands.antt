-- Operands that are printed lead the reader on, wherever one may stand.
use Rattle.std.proofs.Common.{◌≡◌, ◌<◌, ℕ, ◌+◌, ◌-◌, min, List, [], ◌∷◌, ◌++◌, Bool, false, Option, Some, refl, sym, ap, subst, ◌∙◌, append_assoc, arith}
use Rattle.std.proofs.lemmas.Bool.Decides.{nat_tests}
use Rattle.std.specs.Prelude.{is_some, not, nat_le}
use Rattle.sql_base.specs.declared.tables.Column.{Column}
use Rattle.statement_words.specs.declared.tokens.Sign.TheVariants as signs
use Rattle.statement_words.specs.declared.tokens.Token.{Token}
use Rattle.statement_words.specs.declared.tokens.Word.{Word}
use Rattle.statement_words.specs.declared.tokens.Word.TheVariants as word
use Rattle.statement_grammar.specs.WordsAt.{is_fixed, is_number}
use Rattle.statement_grammar.specs.Grammar.{behind, comparison_rest}
use Rattle.statement_grammar.specs.declared.symbols.End.TheVariants as ends
use Rattle.statement_grammar.specs.declared.symbols.Fixed.TheVariants as fixed
use Rattle.statement_grammar.specs.declared.symbols.NumberRole.TheVariants as numbers
use Rattle.statement_grammar.specs.declared.symbols.Part.{Part}
use Rattle.statement_grammar.specs.declared.symbols.Part.TheVariants as parts
use Rattle.statement_grammar.specs.declared.symbols.Symbol.{Symbol}
use Rattle.statement_grammar.specs.declared.symbols.Symbol.TheVariants as symbols
use Rattle.statement_draft.specs.Faults.{noted}
use Rattle.statement_draft.specs.Names.{is_long, is_wide, column_named}
use Rattle.statement_draft.specs.Expressions.{number_operand, negative_operand, text_operand, name_operand, columns_in, with_operand, operand_came, opened, found_name, name_found}
use Rattle.statement_draft.specs.Judging.{came, ended, read_from}
use Rattle.statement_draft.specs.declared.faults.Fault.{Fault}
use Rattle.statement_draft.specs.declared.faults.Reason.TheVariants.{NumberTooWide, UnknownName, OverLimit}
use Rattle.statement_draft.specs.declared.kinds.Operand.{Operand}
use Rattle.statement_draft.specs.declared.draft.Draft.{Draft}
use Rattle.statement_draft.specs.declared.draft.NewExpression.{NewExpression}
use Rattle.statement_draft.specs.declared.draft.Scope.{Scope}
use Rattle.statement_draft.specs.declared.draft.Scope.TheVariants as scopes
use Rattle.statement_printer.specs.Printing.{in_parentheses, sign}
use Rattle.statement_round_trip.specs.Rereading.{EndsExpression, words_in, whole_stack, ReadAs}
use Rattle.statement_round_trip.proofs.Steps.{read_end, read_skip, read_part, read_fixed, read_number}
use Rattle.statement_round_trip.proofs.Tokens.{halves, no_tokens, one}

pub record TakesOperand (p : Part) (rest : List Symbol) : Type 0 where
  pub number : (n : ℕ) → behind p (word.Number n) ≡ Some rest
  pub text : (text : List ℕ) → behind p (word.Text text) ≡ Some rest
  pub name : (name : List ℕ) → behind p (word.Name name) ≡ Some rest
  pub minus : behind p (word.Sign signs.Minus) ≡ Some (symbols.Number numbers.NegativeOperand ∷ rest)
  pub parenthesis : behind p (word.Sign signs.Open) ≡ Some (whole_stack (symbols.Fixed (fixed.Sign signs.Close) ∷ symbols.Ended ends.Inside ∷ rest))
  pub comes : (w : Word) (at : ℕ) (d : Draft) → came (symbols.Part p) w at d ≡ operand_came w at d

pub at_operand : TakesOperand parts.Operand []
unfolding behind came
at_operand = record { number = λ n. refl; text = λ t. refl; name = λ n. refl; minus = refl; parenthesis = refl; comes = λ w at d. refl }

pub at_condition : TakesOperand parts.Condition comparison_rest
unfolding behind came
at_condition = record { number = λ n. refl; text = λ t. refl; name = λ n. refl; minus = refl; parenthesis = refl; comes = λ w at d. refl }

-- the columns don't change while an expression is read
pub scope_kept : (v : Scope) (d : Draft) (first : Option Fault) (e : NewExpression) → columns_in v (record d { first = first; expression = e }) ≡ columns_in v d
scope_kept scopes.NewTable d first e = refl
scope_kept (scopes.Table t) d first e = refl
scope_kept scopes.Unknown d first e = refl

-- tokens of these words leave the operand, wherever one may stand
abbrev pub Stands : List Column → List Word → ℕ → Operand → Type 0
Stands columns words depth x =
    (p : Part) (rest : List Symbol) → TakesOperand p rest
    → (s : List Symbol) (d : Draft) (tokens : List Token) (t : Token) (ts : List Token) (at : ℕ) → columns_in d.scope d ≡ Some columns
    → d.expression.inside + depth < 64 → words_in tokens ≡ words → read_from (symbols.Part p ∷ s) d (tokens ++ t ∷ ts) at ≡ read_from (rest ++ s) (with_operand x d) (t ∷ ts) at

-- a word that is an operand by itself
stands_word : (columns : List Column) (w : Word) (depth : ℕ) (x : Operand)
    → ((p : Part) (rest : List Symbol) → TakesOperand p rest → behind p w ≡ Some rest)
    → ((at : ℕ) (d : Draft) → columns_in d.scope d ≡ Some columns → operand_came w at d ≡ with_operand x d)
    → Stands columns (w ∷ []) depth x
stands_word columns w depth x begins comes p rest takes s d tokens t ts at scope room h =
    let o = one w [] tokens h in
    let alone : tokens ≡ o.token ∷ [] = o.whole ∙ ap (λ (l : List Token). o.token ∷ l) (no_tokens o.rest o.words) in
    ap (λ (l : List Token). read_from (symbols.Part p ∷ s) d (l ++ t ∷ ts) at) alone
    ∙ read_part p rest s d o.token (t ∷ ts) at (ap (behind p) o.is ∙ begins p rest takes)
    ∙ ap (λ (e : Draft). read_from (rest ++ s) e (t ∷ ts) at) (takes.comes o.token.word o.token.first d ∙ ap (λ (v : Word). operand_came v o.token.first d) o.is ∙ comes o.token.first d scope)

abbrev with_first : Operand → Draft → Option Fault → Draft
with_first x d first = with_operand x (record d { first = first })

pub stands_number : (columns : List Column) (n depth : ℕ) → is_wide n ≡ false → Stands columns (word.Number n ∷ []) depth (number_operand n)
stands_number columns n depth narrow = stands_word columns (word.Number n) depth (number_operand n) (λ p rest takes. takes.number n)
    (λ at d scope. ap (λ (b : Bool). with_first (number_operand n) d (noted b NumberTooWide at d.first)) narrow)

pub stands_text : (columns : List Column) (text : List ℕ) (depth : ℕ) → Stands columns (word.Text text ∷ []) depth (text_operand text)
stands_text columns text depth = stands_word columns (word.Text text) depth (text_operand text) (λ p rest takes. takes.text text) (λ at d scope. refl)

abbrev found_in : Option (List Column) → List ℕ → ℕ → Bool → Draft → Draft
found_in columns name at long d = name_found (found_name columns name at (noted long OverLimit at d.first)) d

abbrev found_at : List Column → Option ℕ → ℕ → Draft → Draft
found_at columns place at d = with_first (name_operand columns place) d (noted (not (is_some place)) UnknownName at d.first)

pub stands_name : (columns : List Column) (name : List ℕ) (c depth : ℕ) → column_named columns name ≡ Some c → is_long name ≡ false
    → Stands columns (word.Name name ∷ []) depth (name_operand columns (Some c))
stands_name columns name c depth named short = stands_word columns (word.Name name) depth (name_operand columns (Some c)) (λ p rest takes. takes.name name)
    (λ at d scope. ap (λ (b : Bool). found_in (columns_in d.scope d) name at b d) short ∙ ap (λ (cs : Option (List Column)). found_in cs name at false d) scope
    ∙ ap (λ (place : Option ℕ). found_at columns place at d) named)

came_negative : (n at : ℕ) (d : Draft) → came (symbols.Number numbers.NegativeOperand) (word.Number n) at d ≡ with_operand (negative_operand n) d
unfolding came
came_negative n at d = refl

pub stands_negative : (columns : List Column) (n depth : ℕ) → Stands columns (sign signs.Minus ∷ word.Number n ∷ []) depth (negative_operand n)
stands_negative columns n depth p rest takes s d tokens t ts at scope room h =
    let o = one (sign signs.Minus) (word.Number n ∷ []) tokens h in
    let m = one (word.Number n) [] o.rest o.words in
    let both : tokens ≡ o.token ∷ m.token ∷ [] = o.whole ∙ ap (λ (l : List Token). o.token ∷ l) (m.whole ∙ ap (λ (l : List Token). m.token ∷ l) (no_tokens m.rest m.words)) in
    ap (λ (l : List Token). read_from (symbols.Part p ∷ s) d (l ++ t ∷ ts) at) both
    ∙ read_part p (symbols.Number numbers.NegativeOperand ∷ rest) s d o.token (m.token ∷ t ∷ ts) at (ap (behind p) o.is ∙ takes.minus)
    ∙ ap (λ (e : Draft). read_from (symbols.Number numbers.NegativeOperand ∷ (rest ++ s)) e (m.token ∷ t ∷ ts) at)
    (takes.comes o.token.word o.token.first d ∙ ap (λ (v : Word). operand_came v o.token.first d) o.is)
    ∙ read_number numbers.NegativeOperand (rest ++ s) d m.token (t ∷ ts) at (ap is_number m.is)
    ∙ ap (λ (e : Draft). read_from (rest ++ s) e (t ∷ ts) at) (ap (λ (v : Word). came (symbols.Number numbers.NegativeOperand) v m.token.first d) m.is ∙ came_negative n m.token.first d)

-- ---- an operator in parentheses

abbrev closing : List Symbol → List Symbol
closing s = symbols.Fixed (fixed.Sign signs.Close) ∷ symbols.Ended ends.Inside ∷ s

close_ends : EndsExpression (sign signs.Close)
unfolding behind
close_ends = record { product = refl; sum = refl; compare = refl; both = refl; either = refl }

abbrev closed : Operand → Draft → Option Fault → ℕ → Draft
closed x d first inside = record d { first = first; expression = record d.expression { operands = x ∷ d.expression.operands; inside = inside } }

closed_same : (x : Operand) (at : ℕ) (d : Draft) → d.expression.inside < 64 → ended ends.Inside (with_operand x (opened at d)) ≡ with_operand x d
unfolding ended
closed_same x at d room =
    let below : nat_le 64 d.expression.inside ≡ false = grind (arith, nat_tests) in
    let same : min 64 d.expression.inside + 1 - 1 ≡ d.expression.inside = omega arith in
    ap (λ (b : Bool). closed x d (noted b OverLimit at d.first) (min 64 d.expression.inside + 1 - 1)) below
    ∙ ap (closed x d d.first) same

pub stands_inside : (columns : List Column) (words : List Word) (depth : ℕ) (x : Operand) → ReadAs columns words depth x → Stands columns (in_parentheses words) depth x
stands_inside columns words depth x reads p rest takes s d tokens t ts at scope room h =
    let o = one (sign signs.Open) (words ++ sign signs.Close ∷ []) tokens h in
    let q = halves words (sign signs.Close ∷ []) o.rest o.words in
    let c = one (sign signs.Close) [] q.rest q.rest_words in
    let all : tokens ≡ o.token ∷ (q.front ++ c.token ∷ []) =
    o.whole ∙ ap (λ (l : List Token). o.token ∷ l) (q.whole ∙ ap (λ (l : List Token). q.front ++ l) (c.whole ∙ ap (λ (l : List Token). c.token ∷ l) (no_tokens c.rest c.words))) in
    let d1 = opened o.token.first d in
    let more = rest ++ s in
    ap (λ (l : List Token). read_from (symbols.Part p ∷ s) d (l ++ t ∷ ts) at) all
    ∙ ap (λ (l : List Token). read_from (symbols.Part p ∷ s) d (o.token ∷ l) at) (append_assoc q.front (c.token ∷ []) (t ∷ ts))
    ∙ read_part p (whole_stack (closing rest)) s d o.token (q.front ++ c.token ∷ t ∷ ts) at (ap (behind p) o.is ∙ takes.parenthesis)
    ∙ ap (λ (e : Draft). read_from (whole_stack (closing more)) e (q.front ++ c.token ∷ t ∷ ts) at)
    (takes.comes o.token.word o.token.first d ∙ ap (λ (v : Word). operand_came v o.token.first d) o.is)
    ∙ reads (closing more) d1 q.front c.token (t ∷ ts) at (scope_kept d.scope d d1.first d1.expression ∙ scope) (subst EndsExpression (sym c.is) close_ends) (omega arith) q.front_words
    ∙ read_fixed (fixed.Sign signs.Close) (symbols.Ended ends.Inside ∷ more) (with_operand x d1) c.token (t ∷ ts) at (ap (λ (v : Word). is_fixed v (fixed.Sign signs.Close)) c.is)
    ∙ read_end ends.Inside more (with_operand x d1) t ts at
    ∙ ap (λ (e : Draft). read_from more e (t ∷ ts) at) (closed_same x o.token.first d (omega arith))

-- ---- what is left out before the word behind an expression

pub skip_comparison : (s : List Symbol) (d : Draft) (t : Token) (ts : List Token) (at : ℕ) → EndsExpression t.word → read_from (comparison_rest ++ s) d (t ∷ ts) at ≡ read_from s d (t ∷ ts) at
skip_comparison s d t ts at e =
    read_skip parts.ProductRest (symbols.Part parts.SumRest ∷ symbols.Part parts.CompareRest ∷ s) d t ts at refl e.product
    ∙ read_skip parts.SumRest (symbols.Part parts.CompareRest ∷ s) d t ts at refl e.sum ∙ read_skip parts.CompareRest s d t ts at refl e.compare

abbrev pub joint_rest : List Symbol → List Symbol
joint_rest s = symbols.Part parts.AndRest ∷ symbols.Part parts.OrRest ∷ s

pub skip_joints : (s : List Symbol) (d : Draft) (t : Token) (ts : List Token) (at : ℕ) → EndsExpression t.word → read_from (joint_rest s) d (t ∷ ts) at ≡ read_from s d (t ∷ ts) at
skip_joints s d t ts at e = read_skip parts.AndRest (symbols.Part parts.OrRest ∷ s) d t ts at refl e.both ∙ read_skip parts.OrRest s d t ts at refl e.either

pub whole_leaf : (columns : List Column) (words : List Word) (x : Operand) → Stands columns words 0 x → ReadAs columns words 1 x
whole_leaf columns words x stands s d tokens t ts at scope ended_by room h =
    stands parts.Condition comparison_rest at_condition (joint_rest s) d tokens t ts at scope (omega arith) h
    ∙ skip_comparison (joint_rest s) (with_operand x d) t ts at ended_by ∙ skip_joints s (with_operand x d) t ts at ended_by
