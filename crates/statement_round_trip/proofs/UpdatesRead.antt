-- UPDATE is read as it is printed.
use Rattle.std.proofs.Common.{◌≡◌, ◌≤◌, ℕ, min, List, [], ◌∷◌, ◌++◌, length, map, Bool, true, false, Option, Some, None, refl, sym, ap, subst, ◌∙◌, append_assoc, append-nil, arith}
use Rattle.std.proofs.lemmas.Bool.Decides.{nat_tests}
use Rattle.std.proofs.lemmas.Option.{slice_get-map}
use Rattle.std.specs.Prelude.{flat_map, nat_eq, nat_lt, option_map, slice_get}
use Rattle.std.specs.List.{AllByRecursion}
use Rattle.sql_base.specs.Codes.{code_of, sets_code}
use Rattle.sql_base.specs.Rows.{kinds}
use Rattle.sql_base.specs.Tables.{all_differ, AreSets, IsAssign, IsFilter, IsTable, MayChange}
use Rattle.sql_base.specs.declared.expressions.Expr.{Expr}
use Rattle.sql_base.specs.declared.lock_names.Access.{Access}
use Rattle.sql_base.specs.declared.statements.Assign.{Assign}
use Rattle.sql_base.specs.declared.statements.Statement.TheVariants as statement
use Rattle.sql_base.specs.declared.tables.Column.{Column}
use Rattle.sql_base.specs.declared.tables.ColumnKind.{ColumnKind}
use Rattle.sql_base.specs.declared.tables.TableDef.{TableDef}
use Rattle.statement_words.specs.declared.keywords.Keyword.TheVariants as keys
use Rattle.statement_words.specs.declared.tokens.Sign.TheVariants as signs
use Rattle.statement_words.specs.declared.tokens.Word.{Word}
use Rattle.statement_grammar.specs.Grammar.{behind, part}
use Rattle.statement_grammar.specs.Machine.{advance}
use Rattle.statement_grammar.specs.declared.symbols.End.TheVariants as ends
use Rattle.statement_grammar.specs.declared.symbols.Part.{Part}
use Rattle.statement_grammar.specs.declared.symbols.Part.TheVariants as parts
use Rattle.statement_grammar.specs.declared.symbols.Symbol.{Symbol}
use Rattle.statement_draft.specs.Faults.{noted}
use Rattle.statement_draft.specs.Judging.{all_ended, came, ended, read_from, word_read}
use Rattle.statement_draft.specs.declared.draft.Draft.{Draft}
use Rattle.statement_draft.specs.declared.draft.NewExpression.{NewExpression}
use Rattle.statement_draft.specs.declared.draft.Scope.TheVariants as scope
use Rattle.statement_draft.specs.declared.draft.StatementKind.TheVariants as statement_kinds
use Rattle.statement_draft.specs.declared.faults.Reason.TheVariants.{OverLimit}
use Rattle.statement_printer.specs.Printing.{access_words, key, set_words, sign, with_commas, words_on}
use Rattle.statement_rules.proofs.StatementSteps.{code_counted, code_more}
use Rattle.statement_round_trip.specs.Onward.{ReadsOn}
use Rattle.statement_round_trip.specs.Rereading.{EndsExpression}
use Rattle.statement_round_trip.proofs.Apart.{apart_more, apart_none, differing, Apart}
use Rattle.statement_round_trip.proofs.AssignsRead.{assign_reads, set_symbols, setting}
use Rattle.statement_round_trip.proofs.Beginning.{begun, done, on_table, other_table, Begins}
use Rattle.statement_round_trip.proofs.Ends.{expressions_end}
use Rattle.statement_round_trip.proofs.LocksRead.{Behind}
use Rattle.statement_round_trip.proofs.Onward.{end_before, from, skip, spelled, step, StepsTo}
use Rattle.statement_round_trip.proofs.TableNames.{Declared}
use Rattle.statement_round_trip.proofs.TailsRead.{accessed, change_access, tail_reads, with_filter}

-- words that begin with one that ends an expression
record Next (words : List Word) : Type 0 where
  pub first : Word
  pub rest : List Word
  pub is : words ≡ first ∷ rest
  pub ends : EndsExpression first

-- and with one that is of no SET list
record Tail (words : List Word) : Type 0 where
  pub next : Next words
  pub other : behind parts.MoreSets next.first ≡ None

tail_of : (columns : List Column) (filter : Option Expr) (a : Access) (w : Word) (ws : List Word) → Tail (access_words columns filter a ++ w ∷ ws)
unfolding behind
tail_of columns None a w ws = record { next = record { first = key keys.For; rest = _; is = refl; ends = expressions_end.access }; other = refl }
tail_of columns (Some e) a w ws = record { next = record { first = key keys.Where; rest = _; is = refl; ends = expressions_end.filter }; other = refl }

abbrev others : List Column → List Assign → List Word
others columns sets = flat_map (λ y. sign signs.Comma ∷ set_words columns y) sets

behind_others : (columns : List Column) (sets : List Assign) (v : Word) (ws : List Word) → EndsExpression v → Next (others columns sets ++ v ∷ ws)
behind_others columns [] v ws ends_it = record { first = v; rest = ws; is = refl; ends = ends_it }
behind_others columns (set ∷ sets) v ws ends_it = record { first = sign signs.Comma; rest = _; is = refl; ends = expressions_end.comma }

-- ---- the list

abbrev Counts : ℕ → List Assign → Type 0
Counts code sets = code ≡ min 8193 (length (sets_code sets))

few : (code n : ℕ) → code ≡ min 8193 n → n ≤ 8192 → nat_lt 8192 code ≡ false
few code n h most = grind (arith, nat_tests, h, most)

is_there : (column : ColumnKind) (o : Option Column) → option_map (λ (c : Column). c.kind) o ≡ Some column → (c : Column) × (o ≡ Some c)
is_there column None h = absurd (cc (h))
is_there column (Some c) h = (c, refl)

pub column_of : (table : TableDef) (c : ℕ) (column : ColumnKind) → slice_get (kinds table) c ≡ Some column → (named : Column) × (slice_get table.columns c ≡ Some named)
column_of table c column h = is_there column (slice_get table.columns c) (sym (slice_get-map (λ (c : Column). c.kind) table.columns c) ∙ h)

comma_steps : (s : List Symbol) (d : Draft) → StepsTo (part parts.MoreSets ∷ s) d (sign signs.Comma) (set_symbols (part parts.MoreSets ∷ s)) (λ place. d)
unfolding read_from word_read advance all_ended came behind
comma_steps s d first end ts at = refl

-- what has been read when a SET list is read
abbrev Listed : ℕ → ℕ → List Assign → Draft → List Symbol → Word → List Word → (Draft → Type 0) → Type 0
Listed t at sets d s v ws Last =
    (column : Option ℕ) (place : ℕ) (columns : List ℕ) (code : ℕ) (e : NewExpression) → Counts code sets → ReadsOn s (setting at column place columns sets code e (on_table t d)) (v ∷ ws) Last

abbrev columns_set : List Assign → List ℕ
columns_set sets = map (λ set. set.column) sets

others_read : (t : ℕ) (table : TableDef) → IsTable table → (sets : List Assign) → AllByRecursion (IsAssign table) sets → all_differ nat_eq (columns_set sets) ≡ true
    → (at : ℕ) (column : Option ℕ) (place : ℕ) (before : List ℕ) (so_far : List Assign) (code : ℕ) (e : NewExpression) (d : Draft)
    → slice_get d.tables t ≡ Some table → Apart before (columns_set sets) → Counts code so_far
    → (s : List Symbol) (v : Word) (ws : List Word) (Last : Draft → Type 0) → EndsExpression v → behind parts.MoreSets v ≡ None
    → Listed t at (so_far ++ sets) d s v ws Last
    → ReadsOn (part parts.MoreSets ∷ s) (setting at column place before so_far code e (on_table t d)) (others table.columns sets ++ v ∷ ws) Last
others_read t table declared [] each differ at column place before so_far code e d here apart counts s v ws Last ends_it other more =
    let same = sym (append-nil so_far) in
    skip parts.MoreSets s _ v ws Last refl other
    (from s _ _ (v ∷ ws) Last (ap (λ (l : List Assign). setting at column place before l code e (on_table t d)) same) (more column place before code e (subst (Counts code) same counts)))
others_read t table declared (x ∷ sets) each differ at column place before so_far code e d here apart counts s v ws Last ends_it other more =
    let n = behind_others table.columns sets v ws ends_it in
    let named = column_of table x.column each.0.0 each.0.2 in
    let apart_on = differing x.column (columns_set sets) differ in
    let grouped = append_assoc so_far (x ∷ []) sets in
    step _ _ _ _ Last _ _ (comma_steps s (setting at column place before so_far code e (on_table t d))) (λ a.
    spelled _ _ _ _ Last (append_assoc (set_words table.columns x) (others table.columns sets) (v ∷ ws) ∙ ap (λ (l : List Word). set_words table.columns x ++ l) n.is)
    (assign_reads t table declared x each.0 at column place before so_far code e d here named.0 named.1 apart.0 (part parts.MoreSets ∷ s) n.first n.rest Last n.ends (λ p bytes long.
    spelled _ _ _ _ Last (sym n.is)
    (others_read t table declared sets each.1 apart_on.1 at (Some x.column) p (before ++ x.column ∷ []) (so_far ++ x ∷ []) _ _ d here
    (apart_more x.column before (columns_set sets) apart_on.0 apart.1)
    (code_counted code bytes (length (sets_code so_far)) (length (code_of x.value)) (length (sets_code (so_far ++ x ∷ []))) counts long (code_more so_far x))
    s v ws Last ends_it other
    (λ column place columns code e counts.
    from s _ _ (v ∷ ws) Last (ap (λ (l : List Assign). setting at column place columns l code e (on_table t d)) grouped) (more column place columns code e (subst (Counts code) grouped counts)))))))

set_steps : (s : List Symbol) (d : Draft)
    → StepsTo (part parts.Sets ∷ s) d (key keys.Set) (set_symbols (part parts.MoreSets ∷ s)) (λ place. record d { statement = record d.statement { sets_at = place } })
unfolding read_from word_read advance all_ended came behind
set_steps s d first end ts at = refl

abbrev noted_sets : Draft → Bool → Draft
noted_sets d over = record d { first = noted over OverLimit d.statement.sets_at d.first }

sets_end : (d : Draft) → nat_lt 8192 d.statement.code ≡ false → ended ends.Sets d ≡ d
unfolding ended
sets_end d h = ap (noted_sets d) h

update_ends : (t at : ℕ) (column : Option ℕ) (place : ℕ) (columns : List ℕ) (sets : List Assign) (code : ℕ) (old : NewExpression) (filter : Option Expr) (access : Access) (began where_at : ℕ) (e : NewExpression) (d : Draft)
    → ended ends.Statement (accessed access (with_filter where_at filter e (setting at column place columns sets code old (on_table t (begun statement_kinds.Update began d)))))
    ≡ done (statement.Update t sets filter access) (scope.Table t) e d.row d
unfolding ended
update_ends t at column place columns sets code old filter access began where_at e d = refl

-- UPDATE t SET k = .. , .. WHERE .. FOR STABLE ACCESS ;
pub update_reads : (p : Part) (d after : Draft) → Begins p d after → (t : ℕ) (table : TableDef) (sets : List Assign) (filter : Option Expr) (access : Access)
    → Declared after.tables t table → slice_get after.tables t ≡ Some table → AreSets table sets → IsFilter table filter → MayChange access
    → (s : List Symbol) (w : Word) (ws : List Word) (Last : Draft → Type 0) → Behind (statement.Update t sets filter access) after s w ws Last
    → ReadsOn (part p ∷ s) d (words_on (Some table) (statement.Update t sets filter access) ++ w ∷ ws) Last
update_reads p d after begins t table [] filter access is here are suits may s w ws Last more = absurd (omega (arith, are.some))
update_reads p d after begins t table (x ∷ sets) filter access is here are suits may s w ws Last more =
    let tail = tail_of table.columns filter access w ws in
    let z = tail.next in
    let n = behind_others table.columns sets z.first z.rest z.ends in
    let named = column_of table x.column are.each.0.0 are.each.0.2 in
    let apart_on = differing x.column (columns_set sets) are.differ in
    step _ d _ _ Last _ _ (begins statement_kinds.Update s) (λ a.
    let d1 = begun statement_kinds.Update a after in
    step _ d1 _ _ Last _ _ (other_table t table _ d1 is) (λ b.
    step _ (on_table t d1) _ _ Last _ _ (set_steps _ (on_table t d1)) (λ i.
    spelled _ _ _ _ Last
    (append_assoc (with_commas (set_words table.columns) (x ∷ sets)) (access_words table.columns filter access) (w ∷ ws)
    ∙ append_assoc (set_words table.columns x) (others table.columns sets) (access_words table.columns filter access ++ w ∷ ws)
    ∙ ap (λ (l : List Word). set_words table.columns x ++ (others table.columns sets ++ l)) z.is
    ∙ ap (λ (l : List Word). set_words table.columns x ++ l) n.is)
    (assign_reads t table is.is x are.each.0 i None 0 [] [] 1 after.expression d1 here named.0 named.1 refl _ n.first n.rest Last n.ends (λ p bytes long.
    spelled _ _ _ _ Last (sym n.is)
    (others_read t table is.is sets are.each.1 apart_on.1 i (Some x.column) p (x.column ∷ []) (x ∷ []) _ _ d1 here
    (apart_more x.column [] (columns_set sets) apart_on.0 (apart_none (columns_set sets)))
    (code_counted 1 bytes 1 (length (code_of x.value)) (length (sets_code (x ∷ []))) refl long (code_more [] x))
    _ z.first z.rest Last z.ends tail.other (λ column place columns code e counts.
    let d2 = setting i column place columns (x ∷ sets) code e (on_table t d1) in
    end_before ends.Sets _ d2 z.first z.rest Last
    (from _ _ d2 _ Last (sets_end d2 (few code (length (sets_code (x ∷ sets))) counts are.code))
    (spelled _ d2 _ _ Last (sym z.is)
    (tail_reads table is.is parts.ChangeAccess filter access suits (change_access access may) _ d2 (w ∷ ws) Last (ap (option_map (λ table. table.columns)) here) refl (λ at new.
    end_before ends.Statement _ (accessed access (with_filter at filter new d2)) w ws Last
    (from _ _ _ (w ∷ ws) Last (update_ends t i column place columns (x ∷ sets) code e filter access a at new after) (more (scope.Table t) new after.row)))))))))))))
