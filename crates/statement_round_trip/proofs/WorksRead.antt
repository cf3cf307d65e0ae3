-- A work is read as it is printed.
use Rattle.std.proofs.Common.{◌≡◌, ℕ, ◌+◌, List, [], ◌∷◌, ◌++◌, length, Bool, true, false, refl}
use Rattle.std.specs.Prelude.{flat_map}
use Rattle.std.specs.List.{AllByRecursion}
use Rattle.sql_base.specs.Tables.{IsStatement}
use Rattle.sql_base.specs.declared.statements.Statement.{Statement}
use Rattle.statement_words.specs.declared.keywords.Keyword.TheVariants as keys
use Rattle.statement_words.specs.declared.tokens.Sign.TheVariants as signs
use Rattle.statement_words.specs.declared.tokens.Word.{Word}
use Rattle.statement_grammar.specs.Grammar.{behind, part}
use Rattle.statement_grammar.specs.Grammar as grammar
use Rattle.statement_grammar.specs.Machine.{advance}
use Rattle.statement_grammar.specs.declared.symbols.End.TheVariants as ends
use Rattle.statement_grammar.specs.declared.symbols.Part.TheVariants as parts
use Rattle.statement_grammar.specs.declared.symbols.Symbol.{Symbol}
use Rattle.statement_draft.specs.Judging.{all_ended, came, ended, read_from, word_read}
use Rattle.statement_draft.specs.declared.draft.Draft.{Draft}
use Rattle.statement_draft.specs.declared.draft.NewExpression.{NewExpression}
use Rattle.statement_draft.specs.declared.draft.NewRow.{NewRow}
use Rattle.statement_draft.specs.declared.draft.NewStatement.{NewStatement}
use Rattle.statement_draft.specs.declared.draft.Scope.{Scope}
use Rattle.statement_printer.specs.Printing.{end_key, key, sign, statement_words}
use Rattle.statement_round_trip.specs.Onward.{ReadsOn}
use Rattle.statement_round_trip.proofs.FollowingRead.{following_read, holding, records_of, Room}
use Rattle.statement_round_trip.proofs.LimitsRead.{semicolon_steps}
use Rattle.statement_round_trip.proofs.AtTheEnd.{end_then}
use Rattle.statement_round_trip.proofs.Onward.{from, step, StepsTo}
use Rattle.statement_round_trip.proofs.TableNames.{AreDeclared}

-- behind COMMIT or ROLLBACK
abbrev pub ending : List Symbol → List Symbol
ending s = grammar.key keys.Work ∷ grammar.sign signs.Semicolon ∷ grammar.ended ends.Work ∷ part parts.MoreWorks ∷ s

abbrev pub ending_as : Bool → Draft → Draft
ending_as commit d = record d { commit = commit }

end_steps : (commit : Bool) (s : List Symbol) (d : Draft) → StepsTo (part parts.MoreStatements ∷ s) d (key (end_key commit)) (ending s) (λ place. ending_as commit d)
unfolding read_from word_read advance all_ended came behind
end_steps true s d first end ts at = refl
end_steps false s d first end ts at = refl

pub work_steps : (s : List Symbol) (d : Draft) → StepsTo (grammar.key keys.Work ∷ s) d (key keys.Work) s (λ place. d)
unfolding read_from word_read advance all_ended came
work_steps s d first end ts at = refl

-- a work of the session
abbrev pub kept_work : Bool → Draft → Draft
kept_work commit d = record d { session = d.session ++ record { statements = d.work; commit = commit } ∷ []; work = []; commit = commit }

pub work_is : (commit : Bool) (d : Draft) → ended ends.Work (ending_as commit d) ≡ kept_work commit d
unfolding ended
work_is commit d = refl

-- COMMIT WORK ; and what is behind it
pub end_reads : (commit : Bool) (s : List Symbol) (d : Draft) (ws : List Word) (Last : Draft → Type 0)
    → ReadsOn (part parts.MoreWorks ∷ s) (kept_work commit d) ws Last
    → ReadsOn (part parts.MoreStatements ∷ s) d (key (end_key commit) ∷ key keys.Work ∷ sign signs.Semicolon ∷ ws) Last
end_reads commit s d ws Last more =
    let d1 = ending_as commit d in
    step _ d _ _ Last _ _ (end_steps commit s d) (λ a.
    step _ d1 _ _ Last _ _ (work_steps _ d1) (λ b.
    step _ d1 _ _ Last _ _ (semicolon_steps _ d1) (λ i.
    end_then ends.Work _ d1 ws Last
    (from _ _ _ ws Last (work_is commit d) more))))

-- the statements that are left of a work, its end, and what is behind it
pub rest_of_work_reads : (sts before : List Statement) (commit : Bool) (names : Scope) (e : NewExpression) (row : NewRow) (new : NewStatement) (d : Draft) (records count : ℕ)
    → AreDeclared d.tables → AllByRecursion (IsStatement d.tables) sts → Room sts records count d
    → (s : List Symbol) (ws : List Word) (Last : Draft → Type 0)
    → ((names : Scope) (e : NewExpression) (row : NewRow) (new : NewStatement)
    → ReadsOn (part parts.MoreWorks ∷ s) (kept_work commit (holding names e row new d (d.work ++ (before ++ sts)) (records + records_of sts) (count + length sts))) ws Last)
    → ReadsOn (part parts.MoreStatements ∷ s) (holding names e row new d (d.work ++ before) records count)
    (flat_map (statement_words d.tables) sts ++ key (end_key commit) ∷ key keys.Work ∷ sign signs.Semicolon ∷ ws) Last
rest_of_work_reads sts before commit names e row new d records count declared all room s ws Last more =
    following_read sts before names e row new d records count declared all room s (key (end_key commit)) _ Last (λ names1 e1 row1 new1.
    end_reads commit s _ ws Last (more names1 e1 row1 new1))
