-- SELECT is read as it is printed.
use Rattle.std.proofs.Common.{◌≡◌, ◌<◌, ℕ, List, [], ◌∷◌, ◌++◌, length, map, Bool, true, Option, Some, None, refl, sym, ap, subst, ◌∙◌, append_assoc, append-nil, arith}
use Rattle.std.specs.Prelude.{flat_map, if◌then◌else◌, nat_eq, option_and_then, option_map, slice_get}
use Rattle.std.specs.List.{AllByRecursion}
use Rattle.sql_base.specs.Tables.{all_differ, AreColumns, IsFilter}
use Rattle.sql_base.specs.declared.expressions.Expr.{Expr}
use Rattle.sql_base.specs.declared.lock_names.Access.{Access}
use Rattle.sql_base.specs.declared.statements.Statement.TheVariants as statement
use Rattle.sql_base.specs.declared.tables.Column.{Column}
use Rattle.sql_base.specs.declared.tables.TableDef.{TableDef}
use Rattle.statement_words.specs.declared.keywords.Keyword.TheVariants as keys
use Rattle.statement_words.specs.declared.tokens.Sign.TheVariants as signs
use Rattle.statement_words.specs.declared.tokens.Word.{Word}
use Rattle.statement_grammar.specs.Grammar.{behind, part}
use Rattle.statement_grammar.specs.Grammar as grammar
use Rattle.statement_grammar.specs.Machine.{advance}
use Rattle.statement_grammar.specs.declared.symbols.End.TheVariants as ends
use Rattle.statement_grammar.specs.declared.symbols.NameRole.TheVariants as roles
use Rattle.statement_grammar.specs.declared.symbols.Part.{Part}
use Rattle.statement_grammar.specs.declared.symbols.Part.TheVariants as parts
use Rattle.statement_grammar.specs.declared.symbols.Symbol.{Symbol}
use Rattle.statement_draft.specs.Faults.{noted}
use Rattle.statement_draft.specs.Judging.{all_ended, came, ended, read_from, word_read}
use Rattle.statement_draft.specs.Names.{column_named, is_long}
use Rattle.statement_draft.specs.StatementEvents.{names_judged, select_found, select_table_came, selected, selected_from, Selected}
use Rattle.statement_draft.specs.declared.draft.Draft.{Draft}
use Rattle.statement_draft.specs.declared.draft.NameAt.{NameAt}
use Rattle.statement_draft.specs.declared.draft.NewExpression.{NewExpression}
use Rattle.statement_draft.specs.declared.draft.Scope.TheVariants as scope
use Rattle.statement_draft.specs.declared.draft.StatementKind.TheVariants as kinds
use Rattle.statement_draft.specs.declared.faults.Fault.{Fault}
use Rattle.statement_draft.specs.declared.faults.Reason.TheVariants.{OverLimit, Repeated}
use Rattle.statement_printer.specs.Printing.{column_words, key, name, name_word, sign, with_commas, words_on}
use Rattle.statement_round_trip.specs.Onward.{ReadsOn}
use Rattle.statement_round_trip.specs.Rereading.{AreNamed}
use Rattle.statement_round_trip.proofs.Apart.{apart_more, apart_none, differing, Apart}
use Rattle.statement_round_trip.proofs.Beginning.{begun, done, on_table, table_is, Begins}
use Rattle.statement_round_trip.proofs.LocksRead.{from_steps, Behind}
use Rattle.statement_round_trip.proofs.Naming.{columns_named}
use Rattle.statement_round_trip.proofs.Onward.{end_before, from, skip, spelled, step, StepsTo}
use Rattle.statement_round_trip.proofs.TableNames.{Declared}
use Rattle.statement_round_trip.proofs.TailsRead.{accessed, read_access, tail_reads, with_filter}
use Rattle.sql_base.proofs.ListFacts.{map-push, some-at}

abbrev with_names : List NameAt → Draft → Draft
with_names ns d = record d { statement = record d.statement { names = ns } }

abbrev at_place : List ℕ → ℕ → NameAt
at_place n place = record { name = n; at = place }

-- the names are those of these columns
abbrev Name : List Column → List ℕ → List NameAt → Type 0
Name columns cs ns = map (λ n. column_named columns n.name) ns ≡ map (λ c. Some c) cs

abbrev noted_name : List ℕ → ℕ → Draft → Bool → Draft
noted_name n place d long = record d { first = noted long OverLimit place d.first; statement = record d.statement { names = d.statement.names ++ at_place n place ∷ [] } }

first_steps : (n : List ℕ) (s : List Symbol) (d : Draft) → StepsTo (part parts.Selected ∷ s) d (name n) (part parts.MoreSelected ∷ s) (λ place. noted_name n place d (is_long n))
unfolding read_from word_read advance all_ended came behind
first_steps n s d first end ts at = refl

comma_steps : (s : List Symbol) (d : Draft) → StepsTo (part parts.MoreSelected ∷ s) d (sign signs.Comma) (grammar.name roles.SelectColumn ∷ part parts.MoreSelected ∷ s) (λ place. d)
unfolding read_from word_read advance all_ended came behind
comma_steps s d first end ts at = refl

next_steps : (n : List ℕ) (s : List Symbol) (d : Draft) → StepsTo (grammar.name roles.SelectColumn ∷ s) d (name n) s (λ place. noted_name n place d (is_long n))
unfolding read_from word_read advance all_ended came behind
next_steps n s d first end ts at = refl

-- one name more
one_name : (columns : List Column) (cs : List ℕ) (ns : List NameAt) (c place : ℕ) (n : List ℕ) → column_named columns n ≡ Some c → Name columns cs ns
    → Name columns (cs ++ c ∷ []) (ns ++ at_place n place ∷ [])
one_name columns cs ns c place n found named =
    map-push (λ (n : NameAt). column_named columns n.name) ns (at_place n place)
    ∙ ap (λ (l : List (Option ℕ)). l ++ column_named columns n ∷ []) named ∙ ap (λ (o : Option ℕ). map (λ (c : ℕ). Some c) cs ++ o ∷ []) found
    ∙ sym (map-push (λ (c : ℕ). Some c) cs c)

abbrev others : List Column → List ℕ → List Word
others columns cs = flat_map (λ y. sign signs.Comma ∷ column_words columns y) cs

others_read : (columns : List Column) → AreNamed columns → (cs before : List ℕ) (ns : List NameAt) → AllByRecursion (λ c. c < length columns) cs → Name columns before ns
    → (s : List Symbol) (d : Draft) (ws : List Word) (Last : Draft → Type 0)
    → ((ms : List NameAt) → Name columns (before ++ cs) ms → ReadsOn (part parts.MoreSelected ∷ s) (with_names ms d) ws Last)
    → ReadsOn (part parts.MoreSelected ∷ s) (with_names ns d) (others columns cs ++ ws) Last
others_read columns named [] before ns within here s d ws Last more = more ns (subst (λ (l : List ℕ). Name columns l ns) (sym (append-nil before)) here)
others_read columns named (c ∷ cs) before ns within here s d ws Last more =
    let found = some-at columns c within.0 in
    let column = found.0 in
    let is = named c column found.1 in
    spelled _ (with_names ns d) _ _ Last (ap (λ (o : Option Column). sign signs.Comma ∷ name_word o ∷ (others columns cs ++ ws)) found.1)
    (step _ (with_names ns d) _ _ Last _ _ (comma_steps s (with_names ns d)) (λ a.
    step _ (with_names ns d) _ _ Last _ _ (next_steps column.name _ (with_names ns d)) (λ b.
    from _ _ (with_names (ns ++ at_place column.name b ∷ []) d) _ Last (ap (noted_name column.name b (with_names ns d)) is.1)
    (others_read columns named cs (before ++ c ∷ []) (ns ++ at_place column.name b ∷ []) within.1 (one_name columns before ns c b column.name is.0 here) s d ws Last
    (λ ms all. more ms (subst (λ (l : List ℕ). Name columns l ms) (append_assoc before (c ∷ []) cs) all))))))

-- the list, and what is behind it
list_reads : (columns : List Column) → AreNamed columns → (c : ℕ) (cs : List ℕ) → AllByRecursion (λ c. c < length columns) (c ∷ cs)
    → (s : List Symbol) (d : Draft) (ws : List Word) (Last : Draft → Type 0) → d.statement.names ≡ []
    → ((ms : List NameAt) → Name columns (c ∷ cs) ms → ReadsOn (part parts.MoreSelected ∷ s) (with_names ms d) ws Last)
    → ReadsOn (part parts.Selected ∷ s) d (with_commas (column_words columns) (c ∷ cs) ++ ws) Last
list_reads columns named c cs within s d ws Last none more =
    let found = some-at columns c within.0 in
    let column = found.0 in
    let is = named c column found.1 in
    spelled _ d _ _ Last (ap (λ (o : Option Column). name_word o ∷ (others columns cs ++ ws)) found.1)
    (step _ d _ _ Last _ _ (first_steps column.name s d) (λ a.
    from _ _ (with_names (at_place column.name a ∷ []) d) _ Last
    (ap (noted_name column.name a d) is.1 ∙ ap (λ (l : List NameAt). with_names (l ++ at_place column.name a ∷ []) d) none)
    (others_read columns named cs (c ∷ []) (at_place column.name a ∷ []) within.1 (ap (λ (o : Option ℕ). o ∷ []) is.0) s d ws Last more)))

-- ---- the names, once the table is known

abbrev so_far : List ℕ → Option Fault → Selected
so_far columns first = record { columns = columns; first = first }

abbrev again : List ℕ → ℕ → ℕ → Option Fault → Bool → Selected
again before c at first b = so_far (if b then before else before ++ c ∷ []) (noted b Repeated at first)

same_heads : (a b : Option ℕ) (xs ys : List (Option ℕ)) → a ∷ xs ≡ b ∷ ys → (a ≡ b) × (xs ≡ ys)
same_heads a b xs ys h = (cc, cc)

all_selected : (columns : List Column) (ns : List NameAt) (cs before : List ℕ) (first : Option Fault) → Name columns cs ns → all_differ nat_eq cs ≡ true → Apart before cs
    → selected_from columns ns (so_far before first) ≡ so_far (before ++ cs) first
unfolding selected_from
all_selected columns [] [] before first named differ apart = ap (λ (l : List ℕ). so_far l first) (sym (append-nil before))
all_selected columns [] (c ∷ cs) before first named differ apart = absurd (cc (named))
all_selected columns (n ∷ ns) [] before first named differ apart = absurd (cc (named))
all_selected columns (n ∷ ns) (c ∷ cs) before first named differ apart =
    let heads = same_heads (column_named columns n.name) (Some c) _ _ named in
    let d = differing c cs differ in
    ap (λ (o : Option ℕ). selected_from columns ns (select_found o n.at (so_far before first))) heads.0
    ∙ ap (λ (b : Bool). selected_from columns ns (again before c n.at first b)) apart.0
    ∙ all_selected columns ns cs (before ++ c ∷ []) first heads.1 d.1 (apart_more c before cs d.0 apart.1)
    ∙ ap (λ (l : List ℕ). so_far l first) (append_assoc before (c ∷ []) cs)

listed : (columns : List Column) (ns : List NameAt) (c : ℕ) (cs : List ℕ) (first : Option Fault) → Name columns (c ∷ cs) ns → all_differ nat_eq (c ∷ cs) ≡ true
    → selected columns ns first ≡ so_far (c ∷ cs) first
listed columns [] c cs first named differ = absurd (cc (named))
listed columns (n ∷ ns) c cs first named differ = all_selected columns (n ∷ ns) (c ∷ cs) [] first named differ (apart_none (c ∷ cs))

abbrev chosen : List ℕ → Draft → Draft
chosen cs d = record d { statement = record d.statement { columns = cs } }

abbrev judged : Selected → Draft → Draft
judged s d = record d { first = s.first; statement = record d.statement { columns = s.columns } }

table_selected : (t : ℕ) (table : TableDef) (c : ℕ) (cs : List ℕ) (at : ℕ) (d : Draft) → Declared d.tables t table → slice_get d.tables t ≡ Some table
    → Name table.columns (c ∷ cs) d.statement.names → all_differ nat_eq (c ∷ cs) ≡ true → select_table_came table.name at d ≡ chosen (c ∷ cs) (on_table t d)
table_selected t table c cs at d is here named differ =
    ap (λ (e : Draft). names_judged (option_and_then (slice_get e.tables) e.statement.table) e) (table_is t table at d is)
    ∙ ap (λ (o : Option TableDef). names_judged o (on_table t d)) here
    ∙ ap (λ (s : Selected). judged s (on_table t d)) (listed table.columns d.statement.names c cs d.first named differ)

table_steps : (n : List ℕ) (s : List Symbol) (d : Draft) → StepsTo (grammar.name roles.SelectTable ∷ s) d (name n) s (λ place. select_table_came n place d)
unfolding read_from word_read advance all_ended came
table_steps n s d first end ts at = refl

no_more : behind parts.MoreSelected (key keys.From) ≡ None
unfolding behind
no_more = refl

select_ends : (t : ℕ) (cs : List ℕ) (ms : List NameAt) (filter : Option Expr) (access : Access) (place at : ℕ) (e : NewExpression) (d : Draft)
    → ended ends.Statement (accessed access (with_filter at filter e (chosen cs (on_table t (with_names ms (begun kinds.Select place d))))))
    ≡ done (statement.Select t cs filter access) (scope.Table t) e d.row d
unfolding ended
select_ends t cs ms filter access place at e d = refl

-- SELECT k , .. FROM t WHERE .. FOR STABLE ACCESS ;
pub select_reads : (p : Part) (d after : Draft) → Begins p d after → (t : ℕ) (table : TableDef) (cs : List ℕ) (filter : Option Expr) (access : Access)
    → Declared after.tables t table → slice_get after.tables t ≡ Some table → AreColumns table cs → IsFilter table filter
    → (s : List Symbol) (w : Word) (ws : List Word) (Last : Draft → Type 0) → Behind (statement.Select t cs filter access) after s w ws Last
    → ReadsOn (part p ∷ s) d (words_on (Some table) (statement.Select t cs filter access) ++ w ∷ ws) Last
select_reads p d after begins t table [] filter access is here are suits s w ws Last more = absurd (omega (arith, are.some))
select_reads p d after begins t table (c ∷ cs) filter access is here are suits s w ws Last more =
    step _ d _ _ Last _ _ (begins kinds.Select s) (λ a.
    let d1 = begun kinds.Select a after in
    spelled _ d1 _ _ Last (append_assoc (with_commas (column_words table.columns) (c ∷ cs)) _ (w ∷ ws))
    (list_reads table.columns (columns_named table is.is) c cs are.within _ d1 _ Last refl (λ ms named.
    let d2 = with_names ms d1 in
    skip parts.MoreSelected _ d2 (key keys.From) _ Last refl no_more
    (step _ d2 _ _ Last _ _ (from_steps _ d2) (λ b.
    step _ d2 _ _ Last _ _ (table_steps table.name _ d2) (λ i.
    let d3 = chosen (c ∷ cs) (on_table t d2) in
    from _ _ d3 _ Last (table_selected t table c cs i d2 is here named are.differ)
    (tail_reads table is.is parts.ReadAccess filter access suits (read_access access) _ d3 (w ∷ ws) Last (ap (option_map (λ table. table.columns)) here) refl (λ at e.
    end_before ends.Statement _ (accessed access (with_filter at filter e d3)) w ws Last
    (from _ _ _ (w ∷ ws) Last (select_ends t (c ∷ cs) ms filter access a at e after) (more (scope.Table t) e after.row))))))))))
