-- What follows the word that begins a part is safe where the part is.
use Rattle.std.specs.Prelude.{if◌then◌else◌}
use Rattle.std.proofs.Common.{◌≡◌, List, [], ◌∷◌, Bool, true, false, ◌||◌, Option, Some, None, refl, subst}
use Rattle.statement_words.specs.declared.tokens.Word.{Word}
use Rattle.statement_grammar.specs.WordsAt.{is_key, is_sign, is_name, is_literal}
use Rattle.statement_words.specs.declared.keywords.Keyword.TheVariants.{Table, Int, Select, From, Update, Delete, Insert, Into, Values, Lock, In, Mode, For, Browse, Access, Not}
use Rattle.statement_words.specs.declared.tokens.Sign.TheVariants.{Comma, Semicolon, Minus, Times}
use Rattle.statement_grammar.specs.declared.symbols.NameRole.TheVariants as names
use Rattle.statement_grammar.specs.declared.symbols.NumberRole.TheVariants as numbers
use Rattle.statement_grammar.specs.declared.symbols.End.TheVariants as ends
use Rattle.statement_grammar.specs.Grammar.{key, sign, name, number, part, ended, comparison_rest, behind, table_behind, kind_behind, column_or_key_behind, more_keys_behind, more_checks_behind, check_behind, first_keys_behind, more_firsts_behind, row_behind, literal_behind, more_literals_behind, loads_behind, more_rows_behind, session_behind, work_behind, selected_behind, more_selected_behind, where_behind, sets_behind, more_sets_behind, operand_behind, condition_behind, or_behind, and_behind, compare_behind, sum_behind, product_behind}
use Rattle.statement_grammar.specs.declared.symbols.Part.{Part}
use Rattle.statement_grammar.specs.declared.symbols.Part.TheVariants as parts
use Rattle.statement_grammar.specs.declared.symbols.Symbol.{Symbol}
use Rattle.statement_grammar.specs.declared.symbols.Symbol.TheVariants as symbols
use Rattle.statement_grammar.proofs.Fewest.{opens, in_comparison, absorbs, absorbs_at, Safe}
use Rattle.sql_base.proofs.Truths.{first_two, neither, or_left, or_right}

-- a part that takes fewer words in
fewer : (p q : Part) → ((w : Word) → absorbs p w ≡ false → absorbs q w ≡ false) → (x : Option Word) → absorbs_at p x ≡ false → absorbs_at q x ≡ false
fewer p q f None h = refl
fewer p q f (Some w) h = f w h

-- what holds of the list behind the word holds of what is behind it
only : (P : List Symbol → Type 0) (b : Bool) (m more : List Symbol) → (if b then Some m else None) ≡ Some more → P m → P more
only P true m more e pm = subst P (cc) pm
only P false m more e pm = absurd (cc)

either : (P : List Symbol → Type 0) (b : Bool) (m more : List Symbol) (later : Option (List Symbol)) → (if b then Some m else later) ≡ Some more → P m → (later ≡ Some more → P more) → P more
either P true m more later e pm f = subst P (cc) pm
either P false m more later e pm f = f e

abbrev column_or_key_1 : List Symbol
column_or_key_1 = part parts.ColumnKind ∷ sign Comma ∷ part parts.ColumnOrKey ∷ []

abbrev work_1 : List Symbol
work_1 = part parts.Selected ∷ key From ∷ name names.SelectTable ∷ part parts.Where ∷ key For ∷ part parts.ReadAccess ∷ key Access ∷ sign Semicolon ∷ ended ends.Statement ∷ part parts.MoreStatements ∷ []

abbrev work_2 : List Symbol
work_2 = name names.OtherTable ∷ part parts.Sets ∷ ended ends.Sets ∷ part parts.Where ∷ key For ∷ part parts.ChangeAccess ∷ key Access ∷ sign Semicolon ∷ ended ends.Statement ∷ part parts.MoreStatements ∷ []

abbrev work_3 : List Symbol
work_3 = key From ∷ name names.OtherTable ∷ part parts.Where ∷ key For ∷ part parts.ChangeAccess ∷ key Access ∷ sign Semicolon ∷ ended ends.Statement ∷ part parts.MoreStatements ∷ []

abbrev work_4 : List Symbol
work_4 = key Into ∷ name names.InsertTable ∷ key Values ∷ part parts.Row ∷ ended ends.InsertRow ∷ sign Semicolon ∷ ended ends.Statement ∷ part parts.MoreStatements ∷ []

abbrev work_5 : List Symbol
work_5 = key Table ∷ name names.OtherTable ∷ key In ∷ part parts.LockMode ∷ key Mode ∷ sign Semicolon ∷ ended ends.Statement ∷ part parts.MoreStatements ∷ []

abbrev condition_1 : List Symbol
condition_1 = part parts.Condition ∷ ended ends.Operator ∷ []

abbrev condition_3 : List Symbol
condition_3 = number numbers.NegativeOperand ∷ comparison_rest

abbrev operand_2 : List Symbol
operand_2 = number numbers.NegativeOperand ∷ []

abbrev SafeBehind : Part → (Word → Option (List Symbol)) → Type 0
SafeBehind p rest = (x : Option Word) (w : Word) (more : List Symbol) → absorbs_at p x ≡ false → rest w ≡ Some more → Safe x more

table_safe : (p : Part) → ((w : Word) → absorbs p w ≡ false → absorbs parts.MoreTables w ≡ false) → SafeBehind p table_behind
unfolding behind
table_safe p f x w more h e = only (Safe x) _ _ more e (refl, (refl, (refl, (fewer p parts.MoreTables f x h, tt))))

kind_safe : SafeBehind parts.ColumnKind kind_behind
kind_safe x w more h e = either (Safe x) (is_key w Int) [] more _ e tt (λ e. only (Safe x) _ _ more e tt)

column_or_key_safe : SafeBehind parts.ColumnOrKey column_or_key_behind
unfolding behind
column_or_key_safe x w more h e =
    either (Safe x) (is_name w) column_or_key_1 more _ e (refl, (h, tt))
    (λ e. only (Safe x) _ _ more e (refl, (fewer parts.ColumnOrKey parts.MoreChecks (λ w h. h) x h, tt)))

more_checks_safe : SafeBehind parts.MoreChecks more_checks_behind
more_checks_safe x w more h e = only (Safe x) _ _ more e (fewer parts.MoreChecks parts.Check (λ w h. refl) x h, (h, tt))

check_safe : SafeBehind parts.Check check_behind
unfolding behind
check_safe x w more h e = only (Safe x) _ _ more e (refl, (refl, (refl, tt)))

first_keys_safe : SafeBehind parts.FirstKeys first_keys_behind
first_keys_safe x w more h e =
    only (Safe x) _ _ more e
    (fewer parts.FirstKeys parts.Row (λ w h. refl) x h, (fewer parts.FirstKeys parts.MoreFirstKeys (λ w h. or_right _ _ h) x h, tt))

more_firsts_safe : SafeBehind parts.MoreFirstKeys more_firsts_behind
more_firsts_safe x w more h e = only (Safe x) _ _ more e (fewer parts.MoreFirstKeys parts.Row (λ w h. refl) x h, (h, tt))

row_safe : SafeBehind parts.Row row_behind
unfolding behind
row_safe x w more h e = only (Safe x) _ _ more e (refl, (refl, tt))

literal_safe : SafeBehind parts.Literal literal_behind
literal_safe x w more h e = either (Safe x) (is_literal w) [] more _ e tt (λ e. only (Safe x) _ _ more e tt)

more_literals_safe : SafeBehind parts.MoreLiterals more_literals_behind
more_literals_safe x w more h e = only (Safe x) _ _ more e (fewer parts.MoreLiterals parts.Literal (λ w h. refl) x h, (h, tt))

loads_safe : SafeBehind parts.Loads loads_behind
unfolding behind
loads_safe x w more h e = only (Safe x) _ _ more e (refl, (refl, (h, tt)))

more_rows_safe : SafeBehind parts.MoreLoadRows more_rows_behind
more_rows_safe x w more h e = only (Safe x) _ _ more e (fewer parts.MoreLoadRows parts.Row (λ w h. refl) x h, (h, tt))

session_safe : SafeBehind parts.MoreSessions session_behind
session_safe x w more h e = only (Safe x) _ _ more e (fewer parts.MoreSessions parts.Work (λ w h. or_right _ _ h) x h, (h, tt))

work_safe : SafeBehind parts.MoreWorks work_behind
unfolding behind
work_safe x w more h e =
    let again = fewer parts.MoreWorks parts.MoreStatements (λ w h. h) x h in
    either (Safe x) (is_key w Select) work_1 more _ e (refl, (refl, (refl, (again, tt))))
    (λ e. either (Safe x) (is_key w Update) work_2 more _ e (refl, (refl, (refl, (again, tt))))
    (λ e. either (Safe x) (is_key w Delete) work_3 more _ e (refl, (refl, (again, tt)))
    (λ e. either (Safe x) (is_key w Insert) work_4 more _ e (refl, (again, tt))
    (λ e. either (Safe x) (is_key w Lock) work_5 more _ e (refl, (again, tt))
    (λ e. only (Safe x) _ _ more e (h, tt))))))

selected_safe : SafeBehind parts.Selected selected_behind
selected_safe x w more h e =
    either (Safe x) (is_sign w Times) [] more _ e tt (λ e. only (Safe x) _ _ more e (fewer parts.Selected parts.MoreSelected (λ w h. h) x h, tt))

more_selected_safe : SafeBehind parts.MoreSelected more_selected_behind
more_selected_safe x w more h e = only (Safe x) _ _ more e (h, tt)

more_keys_safe : SafeBehind parts.MoreKeyColumns more_keys_behind
more_keys_safe x w more h e = only (Safe x) _ _ more e (h, tt)

-- what no expression takes in
clear_and : (a c n o : Bool) → c || (n || o) ≡ false → n || c ≡ false
clear_and a true n o h = absurd (cc)
clear_and a false true o h = absurd (cc)
clear_and a false false o h = refl

clear_or : (a c n o : Bool) → c || (n || o) ≡ false → o || (n || c) ≡ false
clear_or a true n o h = absurd (cc)
clear_or a false true o h = absurd (cc)
clear_or a false false o h = neither o false h refl

where_safe : SafeBehind parts.Where where_behind
where_safe x w more h e =
    only (Safe x) _ _ more e (
      fewer parts.Where parts.Expression (λ w h. or_left _ _ (or_right _ _ h)) x h,
      (
        fewer parts.Where parts.AndRest (λ w h. clear_and true (in_comparison w) _ _ (or_right _ _ h)) x h,
        (fewer parts.Where parts.OrRest (λ w h. clear_or true (in_comparison w) _ _ (or_right _ _ h)) x h, tt),
      ),
    )

sets_safe : SafeBehind parts.MoreSets more_sets_behind
sets_safe x w more h e =
    only (Safe x) _ _ more e (
      fewer parts.MoreSets parts.Expression (λ w h. or_left _ _ (or_right _ _ h)) x h,
      (
        fewer parts.MoreSets parts.AndRest (λ w h. clear_and true (in_comparison w) _ _ (or_right _ _ h)) x h,
        (fewer parts.MoreSets parts.OrRest (λ w h. clear_or true (in_comparison w) _ _ (or_right _ _ h)) x h, (h, tt)),
      ),
    )

first_sets_safe : SafeBehind parts.Sets sets_behind
first_sets_safe x w more h e =
    only (Safe x) _ _ more e (
      fewer parts.Sets parts.Expression (λ w h. or_left _ _ (or_right _ _ h)) x h,
      (
        fewer parts.Sets parts.AndRest (λ w h. clear_and true (in_comparison w) _ _ (or_right _ _ h)) x h,
        (
          fewer parts.Sets parts.OrRest (λ w h. clear_or true (in_comparison w) _ _ (or_right _ _ h)) x h,
          (fewer parts.Sets parts.MoreSets (λ w h. h) x h, tt),
        ),
      ),
    )

-- behind the operand that a comparison begins with
comparison_safe : (x : Option Word) → absorbs_at parts.Condition x ≡ false → Safe x (symbols.Part parts.ProductRest ∷ symbols.Part parts.SumRest ∷ symbols.Part parts.CompareRest ∷ [])
comparison_safe x h = (
  fewer parts.Condition parts.ProductRest (λ w h. or_left _ _ h) x h,
  (fewer parts.Condition parts.SumRest (λ w h. first_two (opens parts.ProductRest w) (opens parts.SumRest w) (opens parts.CompareRest w) h) x h, (fewer parts.Condition parts.CompareRest (λ w h. h) x h, tt)),
)

condition_safe : SafeBehind parts.Condition condition_behind
unfolding behind
condition_safe x w more h e =
    either (Safe x) (is_key w Not) condition_1 more _ e (h, tt)
    (λ e. either (Safe x) (is_literal w || is_name w) comparison_rest more _ e (comparison_safe x h)
    (λ e. either (Safe x) (is_sign w Minus) condition_3 more _ e (comparison_safe x h)
    (λ e. only (Safe x) _ _ more e (refl, (refl, (refl, comparison_safe x h))))))

operand_safe : SafeBehind parts.Operand operand_behind
unfolding behind
operand_safe x w more h e =
    either (Safe x) (is_literal w || is_name w) [] more _ e tt (λ e. either (Safe x) (is_sign w Minus) operand_2 more _ e tt (λ e. only (Safe x) _ _ more e (refl, (refl, (refl, tt)))))

or_safe : SafeBehind parts.OrRest or_behind
or_safe x w more h e =
    only (Safe x) _ _ more e
    (fewer parts.OrRest parts.Condition (λ w h. or_right _ _ (or_right _ _ h)) x h, (fewer parts.OrRest parts.AndRest (λ w h. or_right _ _ h) x h, (h, tt)))

and_safe : SafeBehind parts.AndRest and_behind
and_safe x w more h e = only (Safe x) _ _ more e (fewer parts.AndRest parts.Condition (λ w h. or_right _ _ h) x h, (h, tt))

compare_safe : SafeBehind parts.CompareRest compare_behind
compare_safe x w more h e =
    let rest = comparison_safe x (fewer parts.CompareRest parts.Condition (λ w h. h) x h) in
    only (Safe x) _ _ more e (fewer parts.CompareRest parts.Operand (λ w h. refl) x h, (rest.0, (rest.1.0, tt)))

sum_safe : SafeBehind parts.SumRest sum_behind
sum_safe x w more h e =
    only (Safe x) _ _ more e
    (fewer parts.SumRest parts.Operand (λ w h. refl) x h, (fewer parts.SumRest parts.ProductRest (λ w h. or_right _ _ h) x h, (h, tt)))

product_safe : SafeBehind parts.ProductRest product_behind
product_safe x w more h e = only (Safe x) _ _ more e (fewer parts.ProductRest parts.Operand (λ w h. refl) x h, (h, tt))

no_words_safe : (p : Part) (b : Bool) (x : Option Word) (more : List Symbol) → (if b then Some [] else None) ≡ Some more → Safe x more
no_words_safe p b x more e = only (Safe x) b [] more e tt

pub behind_safe : (p : Part) → SafeBehind p (behind p)
unfolding behind
behind_safe (parts.Limit l) = λ x w more h e. only (Safe x) _ _ more e tt
behind_safe parts.Table = table_safe parts.Table (λ w h. h)
behind_safe parts.MoreTables = table_safe parts.MoreTables (λ w h. h)
behind_safe parts.ColumnKind = kind_safe
behind_safe parts.ColumnOrKey = column_or_key_safe
behind_safe parts.MoreKeyColumns = more_keys_safe
behind_safe parts.MoreChecks = more_checks_safe
behind_safe parts.Check = check_safe
behind_safe parts.FirstKeys = first_keys_safe
behind_safe parts.MoreFirstKeys = more_firsts_safe
behind_safe parts.Row = row_safe
behind_safe parts.Literal = literal_safe
behind_safe parts.MoreLiterals = more_literals_safe
behind_safe parts.Loads = loads_safe
behind_safe parts.MoreLoadRows = more_rows_safe
behind_safe parts.Session = λ x w more h e. session_safe x w more (fewer parts.Session parts.MoreSessions (λ w h. h) x h) e
behind_safe parts.MoreSessions = session_safe
behind_safe parts.Work = λ x w more h e. work_safe x w more (fewer parts.Work parts.MoreWorks (λ w h. h) x h) e
behind_safe parts.MoreStatements = λ x w more h e. work_safe x w more (fewer parts.MoreStatements parts.MoreWorks (λ w h. h) x h) e
behind_safe parts.MoreWorks = work_safe
behind_safe parts.Selected = selected_safe
behind_safe parts.MoreSelected = more_selected_safe
behind_safe parts.Where = where_safe
behind_safe parts.Sets = first_sets_safe
behind_safe parts.MoreSets = sets_safe
behind_safe parts.ReadAccess = λ x w more h e. either (Safe x) (is_key w Browse) [] more _ e tt (λ e. only (Safe x) _ _ more e tt)
behind_safe parts.ChangeAccess = λ x w more h e. only (Safe x) _ _ more e tt
behind_safe parts.LockMode = λ x w more h e. only (Safe x) _ _ more e tt
behind_safe parts.Expression = λ x w more h e. condition_safe x w more (fewer parts.Expression parts.Condition (λ w h. h) x h) e
behind_safe parts.Condition = condition_safe
behind_safe parts.Operand = operand_safe
behind_safe parts.ProductRest = product_safe
behind_safe parts.SumRest = sum_safe
behind_safe parts.CompareRest = compare_safe
behind_safe parts.AndRest = and_safe
behind_safe parts.OrRest = or_safe
