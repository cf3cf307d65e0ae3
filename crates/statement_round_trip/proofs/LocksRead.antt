-- LOCK TABLE and DELETE are read as they are printed.
use Rattle.std.proofs.Common.{◌≡◌, ℕ, List, ◌∷◌, ◌++◌, Option, Some, refl, ap}
use Rattle.std.specs.Prelude.{slice_get, option_map}
use Rattle.sql_base.specs.Tables.{IsFilter, MayChange}
use Rattle.sql_base.specs.declared.expressions.Expr.{Expr}
use Rattle.sql_base.specs.declared.lock_names.Access.{Access}
use Rattle.sql_base.specs.declared.lock_names.Mode.{Mode}
use Rattle.sql_base.specs.declared.lock_names.Mode.TheVariants as modes
use Rattle.sql_base.specs.declared.statements.Statement.{Statement}
use Rattle.sql_base.specs.declared.statements.Statement.TheVariants as statement
use Rattle.sql_base.specs.declared.tables.TableDef.{TableDef}
use Rattle.statement_words.specs.declared.keywords.Keyword.TheVariants as keys
use Rattle.statement_words.specs.declared.tokens.Word.{Word}
use Rattle.statement_grammar.specs.Grammar.{behind, part}
use Rattle.statement_grammar.specs.Grammar as grammar
use Rattle.statement_grammar.specs.Machine.{advance}
use Rattle.statement_grammar.specs.declared.symbols.End.TheVariants as ends
use Rattle.statement_grammar.specs.declared.symbols.Part.{Part}
use Rattle.statement_grammar.specs.declared.symbols.Part.TheVariants as parts
use Rattle.statement_grammar.specs.declared.symbols.Symbol.{Symbol}
use Rattle.statement_draft.specs.Judging.{all_ended, came, ended, read_from, word_read}
use Rattle.statement_draft.specs.declared.draft.Draft.{Draft}
use Rattle.statement_draft.specs.declared.draft.NewExpression.{NewExpression}
use Rattle.statement_draft.specs.declared.draft.NewRow.{NewRow}
use Rattle.statement_draft.specs.declared.draft.Scope.{Scope}
use Rattle.statement_draft.specs.declared.draft.Scope.TheVariants as scope
use Rattle.statement_draft.specs.declared.draft.StatementKind.TheVariants as kinds
use Rattle.statement_printer.specs.Printing.{key, mode_key, words_on}
use Rattle.statement_round_trip.specs.Onward.{ReadsOn}
use Rattle.statement_round_trip.proofs.Beginning.{begun, done, on_table, other_table, Begins}
use Rattle.statement_round_trip.proofs.LimitsRead.{semicolon_steps}
use Rattle.statement_round_trip.proofs.Onward.{end_before, from, step, StepsTo}
use Rattle.statement_round_trip.proofs.TableNames.{Declared}
use Rattle.statement_round_trip.proofs.TailsRead.{accessed, change_access, tail_reads, with_filter}

-- what is read behind a statement
abbrev pub Behind : Statement → Draft → List Symbol → Word → List Word → (Draft → Type 0) → Type 0
Behind st d s w ws Last = (names : Scope) (e : NewExpression) (row : NewRow) → ReadsOn (part parts.MoreStatements ∷ s) (done st names e row d) (w ∷ ws) Last

table_steps : (s : List Symbol) (d : Draft) → StepsTo (grammar.key keys.Table ∷ s) d (key keys.Table) s (λ place. d)
unfolding read_from word_read advance all_ended came
table_steps s d first end ts at = refl

in_steps : (s : List Symbol) (d : Draft) → StepsTo (grammar.key keys.In ∷ s) d (key keys.In) s (λ place. d)
unfolding read_from word_read advance all_ended came
in_steps s d first end ts at = refl

last_steps : (s : List Symbol) (d : Draft) → StepsTo (grammar.key keys.Mode ∷ s) d (key keys.Mode) s (λ place. d)
unfolding read_from word_read advance all_ended came
last_steps s d first end ts at = refl

pub from_steps : (s : List Symbol) (d : Draft) → StepsTo (grammar.key keys.From ∷ s) d (key keys.From) s (λ place. d)
unfolding read_from word_read advance all_ended came
from_steps s d first end ts at = refl

abbrev in_mode : Mode → Draft → Draft
in_mode mode d = record d { statement = record d.statement { mode = mode } }

mode_steps : (mode : Mode) (s : List Symbol) (d : Draft) → StepsTo (part parts.LockMode ∷ s) d (key (mode_key mode)) s (λ place. in_mode mode d)
unfolding read_from word_read advance all_ended came behind
mode_steps modes.S s d first end ts at = refl
mode_steps modes.X s d first end ts at = refl

lock_ends : (t : ℕ) (mode : Mode) (place : ℕ) (d : Draft)
    → ended ends.Statement (in_mode mode (on_table t (begun kinds.Lock place d))) ≡ done (statement.LockTable t mode) (scope.Table t) d.expression d.row d
unfolding ended
lock_ends t mode place d = refl

-- LOCK TABLE t IN SHARE MODE ;
pub lock_reads : (p : Part) (d after : Draft) → Begins p d after → (t : ℕ) (table : TableDef) (mode : Mode) → Declared after.tables t table
    → (s : List Symbol) (w : Word) (ws : List Word) (Last : Draft → Type 0) → Behind (statement.LockTable t mode) after s w ws Last
    → ReadsOn (part p ∷ s) d (words_on (Some table) (statement.LockTable t mode) ++ w ∷ ws) Last
lock_reads p d after begins t table mode is s w ws Last more =
    step _ d _ _ Last _ _ (begins kinds.Lock s) (λ a.
    let d1 = begun kinds.Lock a after in
    step _ d1 _ _ Last _ _ (table_steps _ d1) (λ b.
    step _ d1 _ _ Last _ _ (other_table t table _ d1 is) (λ c.
    let d2 = on_table t d1 in
    step _ d2 _ _ Last _ _ (in_steps _ d2) (λ i.
    step _ d2 _ _ Last _ _ (mode_steps mode _ d2) (λ j.
    let d3 = in_mode mode d2 in
    step _ d3 _ _ Last _ _ (last_steps _ d3) (λ k.
    step _ d3 _ _ Last _ _ (semicolon_steps _ d3) (λ l.
    end_before ends.Statement _ d3 w ws Last
    (from _ _ _ (w ∷ ws) Last (lock_ends t mode a after) (more (scope.Table t) after.expression after.row)))))))))

delete_ends : (t : ℕ) (filter : Option Expr) (access : Access) (place at : ℕ) (e : NewExpression) (d : Draft)
    → ended ends.Statement (accessed access (with_filter at filter e (on_table t (begun kinds.Delete place d)))) ≡ done (statement.Delete t filter access) (scope.Table t) e d.row d
unfolding ended
delete_ends t filter access place at e d = refl

-- DELETE FROM t WHERE .. FOR STABLE ACCESS ;
pub delete_reads : (p : Part) (d after : Draft) → Begins p d after → (t : ℕ) (table : TableDef) (filter : Option Expr) (access : Access)
    → Declared after.tables t table → slice_get after.tables t ≡ Some table → IsFilter table filter → MayChange access
    → (s : List Symbol) (w : Word) (ws : List Word) (Last : Draft → Type 0) → Behind (statement.Delete t filter access) after s w ws Last
    → ReadsOn (part p ∷ s) d (words_on (Some table) (statement.Delete t filter access) ++ w ∷ ws) Last
delete_reads p d after begins t table filter access is here suits may s w ws Last more =
    step _ d _ _ Last _ _ (begins kinds.Delete s) (λ a.
    let d1 = begun kinds.Delete a after in
    step _ d1 _ _ Last _ _ (from_steps _ d1) (λ b.
    step _ d1 _ _ Last _ _ (other_table t table _ d1 is) (λ c.
    let d2 = on_table t d1 in
    tail_reads table is.is parts.ChangeAccess filter access suits (change_access access may) _ d2 (w ∷ ws) Last (ap (option_map (λ table. table.columns)) here) refl (λ at e.
    end_before ends.Statement _ (accessed access (with_filter at filter e d2)) w ws Last
    (from _ _ _ (w ∷ ws) Last (delete_ends t filter access a at e after) (more (scope.Table t) e after.row))))))
