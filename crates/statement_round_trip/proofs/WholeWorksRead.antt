-- A whole work is read as it is printed.
use Rattle.std.proofs.Common.{◌≡◌, ◌≤◌, ℕ, suc, ◌+◌, ◌*◌, min, List, [], ◌∷◌, ◌++◌, length, Bool, true, false, refl, sym, ap, subst, ◌∙◌, append_assoc, arith}
use Rattle.std.specs.Prelude.{flat_map, nat_lt}
use Rattle.std.specs.List.{AllByRecursion}
use Rattle.sql_base.specs.Tables.{IsStatement}
use Rattle.sql_base.specs.declared.statements.Statement.{Statement}
use Rattle.statement_words.specs.declared.keywords.Keyword.TheVariants as keys
use Rattle.statement_words.specs.declared.tokens.Sign.TheVariants as signs
use Rattle.statement_words.specs.declared.tokens.Word.{Word}
use Rattle.statement_grammar.specs.Grammar.{behind, part}
use Rattle.statement_grammar.specs.Machine.{advance}
use Rattle.statement_grammar.specs.declared.symbols.End.TheVariants as ends
use Rattle.statement_grammar.specs.declared.symbols.Part.{Part}
use Rattle.statement_grammar.specs.declared.symbols.Part.TheVariants as parts
use Rattle.statement_grammar.specs.declared.symbols.Symbol.{Symbol}
use Rattle.statement_draft.specs.Faults.{noted}
use Rattle.statement_draft.specs.Judging.{all_ended, came, read_from, word_read}
use Rattle.statement_draft.specs.StatementEvents.{no_statement, times}
use Rattle.statement_draft.specs.declared.draft.Draft.{Draft}
use Rattle.statement_draft.specs.declared.draft.NewExpression.{NewExpression}
use Rattle.statement_draft.specs.declared.draft.NewRow.{NewRow}
use Rattle.statement_draft.specs.declared.draft.NewStatement.{NewStatement}
use Rattle.statement_draft.specs.declared.draft.Scope.{Scope}
use Rattle.statement_draft.specs.declared.draft.StatementKind.TheVariants as kinds
use Rattle.statement_draft.specs.declared.faults.Reason.TheVariants.{OverLimit}
use Rattle.statement_printer.specs.Printing.{end_key, key, sign, statement_words}
use Rattle.statement_round_trip.specs.Onward.{ReadsOn}
use Rattle.statement_round_trip.specs.WholeScripts.{record_of}
use Rattle.statement_round_trip.proofs.Beginning.{more_works_begin, work_begin, work_counted, Begins, FewStatements, FewWorks}
use Rattle.statement_round_trip.proofs.FollowingRead.{at_most, emptied, few_statements, has_room, holding, next_of, one_read, records_of, Room}
use Rattle.statement_round_trip.proofs.LimitsRead.{semicolon_steps}
use Rattle.statement_round_trip.proofs.AtTheEnd.{end_then}
use Rattle.statement_round_trip.proofs.Onward.{from, spelled, step, StepsTo}
use Rattle.statement_round_trip.proofs.StatementsRead.{statement_reads}
use Rattle.statement_round_trip.proofs.TableNames.{AreDeclared}
use Rattle.statement_round_trip.proofs.WorksRead.{ending, ending_as, kept_work, rest_of_work_reads, work_is, work_steps}

-- a work has begun
abbrev pub opened : Draft → Draft
opened d = record d { works = min 1000 d.works + 1; work = [] }

-- a work begins in this part, with a statement or with its end
pub record Opens (p : Part) (d : Draft) : Type 0 where
  pub statement : FewStatements d → Begins p d (work_counted d)
  pub finish : (commit : Bool) (s : List Symbol) → StepsTo (part p ∷ s) d (key (end_key commit)) (ending s) (λ place. ending_as commit (opened d))

abbrev noted_end : Bool → Draft → ℕ → Bool → Draft
noted_end commit d place over = record (ending_as commit (opened d)) { first = noted over OverLimit place d.first }

first_end : (commit : Bool) (s : List Symbol) (d : Draft)
    → StepsTo (part parts.Work ∷ s) d (key (end_key commit)) (ending s) (λ place. noted_end commit d place (nat_lt 1000 ((min 1000 d.works + 1) * times d)))
unfolding read_from word_read advance all_ended came behind
first_end true s d first end ts at = refl
first_end false s d first end ts at = refl

next_end : (commit : Bool) (s : List Symbol) (d : Draft)
    → StepsTo (part parts.MoreWorks ∷ s) d (key (end_key commit)) (ending s) (λ place. noted_end commit d place (nat_lt 1000 ((min 1000 d.works + 1) * times d)))
unfolding read_from word_read advance all_ended came behind
next_end true s d first end ts at = refl
next_end false s d first end ts at = refl

pub first_opens : (d : Draft) → FewWorks d → Opens parts.Work d
first_opens d few = record {
  statement = λ f. work_begin d few f;
  finish = λ commit s first end ts at. first_end commit s d first end ts at ∙ ap (λ (b : Bool). read_from (ending s) (noted_end commit d first b) ts at) few;
}

pub next_opens : (d : Draft) → FewWorks d → Opens parts.MoreWorks d
next_opens d few = record {
  statement = λ f. more_works_begin d few f;
  finish = λ commit s first end ts at. next_end commit s d first end ts at ∙ ap (λ (b : Bool). read_from (ending s) (noted_end commit d first b) ts at) few;
}

abbrev end_words : Bool → List Word → List Word
end_words commit ws = key (end_key commit) ∷ key keys.Work ∷ sign signs.Semicolon ∷ ws

-- where a work has been read
abbrev pub WorkRead : List Statement → Bool → Draft → List Symbol → List Word → (Draft → Type 0) → Type 0
WorkRead sts commit d s ws Last = (names : Scope) (e : NewExpression) (row : NewRow) (new : NewStatement)
    → ReadsOn (part parts.MoreWorks ∷ s) (kept_work commit (holding names e row new (opened d) sts (d.records + records_of sts) (d.statements + length sts))) ws Last

none_more : (n : ℕ) → n ≡ n + 0
none_more n = omega arith

abbrev alone : Bool → Draft → ℕ → ℕ → Draft
alone commit d records count = kept_work commit (holding d.scope d.expression d.row d.statement (opened d) [] records count)

up : (a b t : ℕ) → (a + suc b) * t ≤ 500 → (a + 1 + b) * t ≤ 500
up a b t h = let same : a + 1 + b ≡ a + suc b = omega arith in subst (λ (k : ℕ). k * t ≤ 500) (sym same) h

plus : (a b c : ℕ) → a + b + c ≡ a + (b + c)
plus a b c = omega arith

beside : (a b : ℕ) → a + 1 + b ≡ a + suc b
beside a b = omega arith

-- a work, and what is behind it
pub work_reads : (p : Part) (d : Draft) → Opens p d → (sts : List Statement) (commit : Bool) → AreDeclared d.tables → AllByRecursion (IsStatement d.tables) sts
    → Room sts d.records d.statements d → (s : List Symbol) (ws : List Word) (Last : Draft → Type 0) → WorkRead sts commit d s ws Last
    → ReadsOn (part p ∷ s) d (flat_map (statement_words d.tables) sts ++ end_words commit ws) Last
work_reads p d opens [] commit declared all room s ws Last more =
    let d1 = ending_as commit (opened d) in
    step _ d _ _ Last _ _ (opens.finish commit s) (λ a.
    step _ d1 _ _ Last _ _ (work_steps _ d1) (λ b.
    step _ d1 _ _ Last _ _ (semicolon_steps _ d1) (λ i.
    end_then ends.Work _ d1 ws Last
    (from _ _ _ ws Last
    (work_is commit (opened d) ∙ ap (λ (n : ℕ). alone commit d n d.statements) (none_more d.records) ∙ ap (alone commit d (d.records + 0)) (none_more d.statements))
    (more d.scope d.expression d.row d.statement)))))
work_reads p d opens (st ∷ sts) commit declared all room s ws Last more =
    let n = next_of d.tables sts (key (end_key commit)) (key keys.Work ∷ sign signs.Semicolon ∷ ws) in
    let few : FewStatements d = few_statements d.statements (length sts) d.limits.restart room.statements in
    let first : d.records + record_of st ≤ 4000 = omega (arith, room.inserts) in
    spelled _ d _ _ Last
    (append_assoc (statement_words d.tables st) (flat_map (statement_words d.tables) sts) (end_words commit ws) ∙ ap (λ (l : List Word). statement_words d.tables st ++ l) n.is)
    (statement_reads p d (work_counted d) (opens.statement few) declared st all.0 (has_room st d.records (work_counted d) refl first) s n.first n.rest Last (λ names e row.
    spelled _ _ _ _ Last (sym n.is)
    (from _ _ _ _ Last (one_read st names d.scope e d.expression row d.row d.statement (opened d) [] d.records d.statements first (at_most d.statements (length sts) d.limits.restart room.statements))
    (rest_of_work_reads sts (st ∷ []) commit names e (emptied row) (no_statement kinds.Lock 0) (opened d) (d.records + record_of st) (d.statements + 1) declared all.1
    (record { statements = up d.statements (length sts) (times d) room.statements; inserts = omega (arith, room.inserts) }) s ws Last (λ names1 e1 row1 new1.
    from _ _ _ ws Last
    (ap (λ (k : ℕ). kept_work commit (holding names1 e1 row1 new1 (opened d) (st ∷ sts) k (d.statements + 1 + length sts))) (plus d.records (record_of st) (records_of sts))
    ∙ ap (λ (k : ℕ). kept_work commit (holding names1 e1 row1 new1 (opened d) (st ∷ sts) (d.records + (record_of st + records_of sts)) k)) (beside d.statements (length sts)))
    (more names1 e1 row1 new1))))))
