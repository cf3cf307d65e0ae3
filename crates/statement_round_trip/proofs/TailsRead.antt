-- The WHERE and the access of a statement are read as they are printed.
use Rattle.std.proofs.Common.{◌≡◌, ℕ, List, [], ◌∷◌, ◌++◌, Option, Some, None, refl, sym, ap, subst, append_assoc}
use Rattle.sql_base.specs.Tables.{IsFilter, IsTable, MayChange}
use Rattle.sql_base.specs.declared.expressions.Expr.{Expr}
use Rattle.sql_base.specs.declared.lock_names.Access.{Access}
use Rattle.sql_base.specs.declared.lock_names.Access.TheVariants as access
use Rattle.sql_base.specs.declared.tables.TableDef.{TableDef}
use Rattle.statement_words.specs.declared.keywords.Keyword.TheVariants as keys
use Rattle.statement_words.specs.declared.tokens.Sign.TheVariants as signs
use Rattle.statement_words.specs.declared.tokens.Word.{Word}
use Rattle.statement_grammar.specs.Grammar.{behind, part}
use Rattle.statement_grammar.specs.Grammar as grammar
use Rattle.statement_grammar.specs.Machine.{advance}
use Rattle.statement_grammar.specs.declared.symbols.Part.{Part}
use Rattle.statement_grammar.specs.declared.symbols.Part.TheVariants as parts
use Rattle.statement_grammar.specs.declared.symbols.Symbol.{Symbol}
use Rattle.statement_draft.specs.Expressions.{columns_in}
use Rattle.statement_draft.specs.Judging.{all_ended, came, read_from, word_read}
use Rattle.statement_draft.specs.StatementEvents.{where_came}
use Rattle.statement_draft.specs.declared.draft.Draft.{Draft}
use Rattle.statement_draft.specs.declared.draft.NewExpression.{NewExpression}
use Rattle.statement_printer.specs.Printing.{access_key, access_words, filter_words, key, sign}
use Rattle.statement_round_trip.specs.Onward.{ReadsOn}
use Rattle.statement_round_trip.specs.Rereading.{filtered, EndsExpression}
use Rattle.statement_round_trip.proofs.Ends.{expressions_end, filter_read_back}
use Rattle.statement_round_trip.proofs.LimitsRead.{semicolon_steps}
use Rattle.statement_round_trip.proofs.Onward.{from, skip, spelled, step, through, StepsTo}

-- a fixed keyword
pub key_steps_for : (s : List Symbol) (d : Draft) → StepsTo (grammar.key keys.For ∷ s) d (key keys.For) s (λ place. d)
unfolding read_from word_read advance all_ended came
key_steps_for s d first end ts at = refl

pub key_steps_access : (s : List Symbol) (d : Draft) → StepsTo (grammar.key keys.Access ∷ s) d (key keys.Access) s (λ place. d)
unfolding read_from word_read advance all_ended came
key_steps_access s d first end ts at = refl

abbrev pub accessed : Access → Draft → Draft
accessed a d = record d { statement = record d.statement { access = a } }

-- as SELECT may have it
pub read_access : (a : Access) (s : List Symbol) (d : Draft) → StepsTo (part parts.ReadAccess ∷ s) d (key (access_key a)) s (λ place. accessed a d)
unfolding read_from word_read advance all_ended came behind
read_access access.Browse s d first end ts at = refl
read_access access.Stable s d first end ts at = refl
read_access access.Repeatable s d first end ts at = refl

change_steps : (a : Access) (s : List Symbol) (d : Draft) → MayChange a → StepsTo (part parts.ChangeAccess ∷ s) d (key (access_key a)) s (λ place. accessed a d)
unfolding read_from word_read advance all_ended came behind
change_steps access.Browse s d may first end ts at = absurd may
change_steps access.Stable s d may first end ts at = refl
change_steps access.Repeatable s d may first end ts at = refl

-- FOR STABLE ACCESS ;
access_reads : (p : Part) (a : Access) (s : List Symbol) (d : Draft) (ws : List Word) (Last : Draft → Type 0)
    → ((s : List Symbol) (d : Draft) → StepsTo (part p ∷ s) d (key (access_key a)) s (λ place. accessed a d))
    → ReadsOn s (accessed a d) ws Last
    → ReadsOn (grammar.key keys.For ∷ part p ∷ grammar.key keys.Access ∷ grammar.sign signs.Semicolon ∷ s) d
    (key keys.For ∷ key (access_key a) ∷ key keys.Access ∷ sign signs.Semicolon ∷ ws) Last
access_reads p a s d ws Last steps more =
    step _ d _ _ Last _ _ (key_steps_for _ d) (λ i.
    step _ d _ _ Last _ _ (steps _ d) (λ j.
    step _ (accessed a d) _ _ Last _ _ (key_steps_access _ (accessed a d)) (λ k.
    step _ (accessed a d) _ _ Last _ _ (semicolon_steps s (accessed a d)) (λ l. more))))

-- what a WHERE leaves: its filter, and what isn't looked at any more
abbrev pub with_filter : ℕ → Option Expr → NewExpression → Draft → Draft
with_filter place filter e d = record d { statement = record d.statement { where_at = place; filter = filter }; expression = e }

no_where : behind parts.Where (key keys.For) ≡ None
unfolding behind
no_where = refl

filter_reads : (table : TableDef) → IsTable table → (filter : Option Expr) → IsFilter table filter → (s : List Symbol) (d : Draft) (ws : List Word) (Last : Draft → Type 0)
    → columns_in d.scope d ≡ Some table.columns → d.statement.filter ≡ None
    → ((place : ℕ) (e : NewExpression) → ReadsOn s (with_filter place filter e d) (key keys.For ∷ ws) Last)
    → ReadsOn (part parts.Where ∷ s) d (filter_words table.columns filter ++ key keys.For ∷ ws) Last
filter_reads table is None suits s d ws Last scope none more =
    skip parts.Where s d (key keys.For) ws Last refl no_where
    (from s d (with_filter d.statement.where_at None d.expression d) (key keys.For ∷ ws) Last
    (ap (λ (f : Option Expr). with_filter d.statement.where_at f d.expression d) none) (more d.statement.where_at d.expression))
filter_reads table is (Some e) suits s d ws Last scope none more =
    through (part parts.Where ∷ s) s d (filter_words table.columns (Some e)) (key keys.For) ws Last (λ place. filtered (Some e) (where_came place d))
    (λ tokens t ts at h word. filter_read_back table is e suits s d tokens t ts at scope (subst EndsExpression (sym word) expressions_end.access) h)
    (λ place. more place _)

-- WHERE .. FOR STABLE ACCESS ;
pub tail_reads : (table : TableDef) → IsTable table → (p : Part) (filter : Option Expr) (a : Access) → IsFilter table filter
    → ((s : List Symbol) (d : Draft) → StepsTo (part p ∷ s) d (key (access_key a)) s (λ place. accessed a d))
    → (s : List Symbol) (d : Draft) (ws : List Word) (Last : Draft → Type 0) → columns_in d.scope d ≡ Some table.columns → d.statement.filter ≡ None
    → ((place : ℕ) (e : NewExpression) → ReadsOn s (accessed a (with_filter place filter e d)) ws Last)
    → ReadsOn (part parts.Where ∷ grammar.key keys.For ∷ part p ∷ grammar.key keys.Access ∷ grammar.sign signs.Semicolon ∷ s) d
    (access_words table.columns filter a ++ ws) Last
tail_reads table is p filter a suits steps s d ws Last scope none more =
    spelled _ d _ _ Last (append_assoc (filter_words table.columns filter) (key keys.For ∷ key (access_key a) ∷ key keys.Access ∷ sign signs.Semicolon ∷ []) ws)
    (filter_reads table is filter suits _ d _ Last scope none (λ place e. access_reads p a s (with_filter place filter e d) ws Last steps (more place e)))

-- as a change may
pub change_access : (a : Access) → MayChange a → (s : List Symbol) (d : Draft) → StepsTo (part parts.ChangeAccess ∷ s) d (key (access_key a)) s (λ place. accessed a d)
change_access a may s d = change_steps a s d may
