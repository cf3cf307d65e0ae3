-- A script that is read has no more records and statements than it may have.
use Rattle.std.proofs.Common.{◌≡◌, ◌≤◌, ℕ, ◌+◌, ◌*◌, List, [], ◌∷◌, length, Some, None, refl, sym, ap, subst, ◌∙◌, arith, true}
use Rattle.std.specs.List.{AllByRecursion}
use Rattle.statement_words.specs.Spans.{IsFormed, IsFormedWord}
use Rattle.statement_words.specs.declared.keywords.Keyword.TheVariants as keys
use Rattle.statement_words.specs.declared.tokens.Sign.TheVariants as signs
use Rattle.statement_words.specs.declared.tokens.Word.{Word}
use Rattle.statement_words.specs.declared.tokens.Word.TheVariants as word
use Rattle.statement_grammar.specs.Grammar as grammar
use Rattle.statement_grammar.specs.Grammar.{behind, is_comparison, may_be_empty}
use Rattle.statement_grammar.specs.declared.symbols.End.TheVariants as ends
use Rattle.statement_grammar.specs.declared.symbols.NameRole.TheVariants as roles
use Rattle.statement_grammar.specs.declared.symbols.Part.{Part}
use Rattle.statement_grammar.specs.declared.symbols.Part.TheVariants as parts
use Rattle.statement_grammar.specs.declared.symbols.Symbol.{Symbol}
use Rattle.statement_draft.specs.Judging.{ended, part_came}
use Rattle.statement_draft.specs.StatementEvents as statements
use Rattle.statement_draft.specs.declared.draft.Draft.{Draft}
use Rattle.statement_rules.proofs.Demands.{demands, weaker, Contracts}
use Rattle.statement_rules.proofs.Stays.{work_counted}
use Rattle.sql_base.specs.declared.scripts.Script.{Script}
use Rattle.statement_words.proofs.Formed.{words_formed}
use Rattle.statement_words.specs.declared.tokens.Token.{Token}
use Rattle.statement_draft.specs.Judging.{empty, read, script_of}
use Rattle.statement_printer.specs.Printing.{printed}
use Rattle.statement_reader.specs.Spells.{limit}
use Rattle.statement_rules.proofs.AllParts.{clean_is_script}
use Rattle.statement_rules.proofs.Demands.{read_meets}
use Rattle.statement_round_trip.specs.WholeScripts.{records_of, statements_of, MayBeRead, PrintedAgain, ReadMayBeRead}
use Rattle.statement_round_trip.proofs.BalancedParts.{as_same, end_same, if_some, inner_begins, is_inner_part, is_limit, limit_begins, name_same, load_rows_begin, loads_begin, none_more, session_begins, skipped, Post, Pre, Zero}
use Rattle.statement_round_trip.proofs.ScriptsRead.{printed_is_spelled}
use Rattle.statement_round_trip.proofs.SessionsRead.{less}
use Rattle.statement_round_trip.proofs.Tallies.{record_is_counted, statement_balances, statement_is_counted, weight, work_balances, Even, Same, Tally}

-- ---- statements

-- a statement that is no INSERT, where its words leave the tally as it is
statement_ends : (w : Word) (at : ℕ) (d e : Draft) → (statements.statement_begins w at d).first ≡ None → weight (statements.statement_begins w at d).statement.kind ≡ 0
    → Same (statements.statement_begins w at d) e → Even d → Even (ended ends.Statement e)
statement_ends w at d e clean light same b =
    let begun = statements.statement_begins w at d in
    let kind : weight e.statement.kind ≡ weight begun.statement.kind = ap (λ (t : Tally). weight t.kind) same in
    statement_balances 0 e (omega (arith, kind, light)) (as_same 0 1 begun e same (statement_is_counted w at d clean b))

-- a SELECT, an UPDATE, a DELETE and a LOCK TABLE
abbrev Keeps : Draft → Draft → Type 0
Keeps d e = Even d → Even e

select_goes : (w : Word) (at : ℕ) (d : Draft) → weight (statements.statement_begins w at d).statement.kind ≡ 0 → (statements.statement_begins w at d).first ≡ None
    → demands Pre Post
    (grammar.part parts.Selected ∷ grammar.key keys.From ∷ grammar.name roles.SelectTable ∷ grammar.part parts.Where ∷ grammar.key keys.For ∷ grammar.part parts.ReadAccess
    ∷ grammar.key keys.Access ∷ grammar.sign signs.Semicolon ∷ grammar.ended ends.Statement ∷ grammar.part parts.MoreStatements ∷ [])
    (Keeps d) (statements.statement_begins w at d)
select_goes w at d light clean = (
  tt,
  λ e1 s1. λ name place is clean2. (
    tt,
    λ e2 s2. (
      tt,
      λ e3 s3. λ clean3. (
        tt,
        λ e4 later. λ b.
            later (statement_ends w at d e3 clean light (s3 ∙ s2 ∙ name_same roles.SelectTable name place e1 refl ∙ s1) b),
      ),
    ),
  ),
)

update_goes : (w : Word) (at : ℕ) (d : Draft) → weight (statements.statement_begins w at d).statement.kind ≡ 0 → (statements.statement_begins w at d).first ≡ None
    → demands Pre Post
    (grammar.name roles.OtherTable ∷ grammar.part parts.Sets ∷ grammar.ended ends.Sets ∷ grammar.part parts.Where ∷ grammar.key keys.For ∷ grammar.part parts.ChangeAccess
    ∷ grammar.key keys.Access ∷ grammar.sign signs.Semicolon ∷ grammar.ended ends.Statement ∷ grammar.part parts.MoreStatements ∷ [])
    (Keeps d) (statements.statement_begins w at d)
update_goes w at d light clean = λ name place is clean2. (
  tt,
  λ e1 s1. λ clean3. (
    tt,
    λ e2 s2. (
      tt,
      λ e3 s3. λ clean4. (
        tt,
        λ e4 later. λ b.
            later (statement_ends w at d e3 clean light (s3 ∙ s2 ∙ end_same ends.Sets e1 refl ∙ s1) b),
      ),
    ),
  ),
)

delete_goes : (w : Word) (at : ℕ) (d : Draft) → weight (statements.statement_begins w at d).statement.kind ≡ 0 → (statements.statement_begins w at d).first ≡ None
    → demands Pre Post
    (grammar.key keys.From ∷ grammar.name roles.OtherTable ∷ grammar.part parts.Where ∷ grammar.key keys.For ∷ grammar.part parts.ChangeAccess
    ∷ grammar.key keys.Access ∷ grammar.sign signs.Semicolon ∷ grammar.ended ends.Statement ∷ grammar.part parts.MoreStatements ∷ [])
    (Keeps d) (statements.statement_begins w at d)
delete_goes w at d light clean = λ name place is clean2.
    (tt, λ e2 s2. (tt, λ e3 s3. λ clean3. (tt, λ e4 later. λ b. later (statement_ends w at d e3 clean light (s3 ∙ s2) b))))

lock_goes : (w : Word) (at : ℕ) (d : Draft) → weight (statements.statement_begins w at d).statement.kind ≡ 0 → (statements.statement_begins w at d).first ≡ None
    → demands Pre Post
    (grammar.key keys.Table ∷ grammar.name roles.OtherTable ∷ grammar.key keys.In ∷ grammar.part parts.LockMode ∷ grammar.key keys.Mode
    ∷ grammar.sign signs.Semicolon ∷ grammar.ended ends.Statement ∷ grammar.part parts.MoreStatements ∷ [])
    (Keeps d) (statements.statement_begins w at d)
lock_goes w at d light clean = λ name place is clean2.
    (tt, λ e1 s1. λ clean3. (tt, λ e2 later. λ b. later (statement_ends w at d e1 clean light s1 b)))

insert_ends : (w : Word) (at : ℕ) (d : Draft) (name : List ℕ) (place : ℕ) (e : Draft) → weight (statements.statement_begins w at d).statement.kind ≤ 1
    → (statements.statement_begins w at d).first ≡ None → Same (statements.insert_came name place (statements.statement_begins w at d)) e
    → (ended ends.InsertRow e).first ≡ None → Even d → Even (ended ends.Statement (ended ends.InsertRow e))
unfolding ended
insert_ends w at d name place e light clean row clean2 b =
    let begun = statements.statement_begins w at d in
    let kind : weight e.statement.kind ≡ weight begun.statement.kind = ap (λ (t : Tally). weight t.kind) row in
    statement_balances 1 (statements.insert_row_ends e) (omega (arith, kind, light))
    (record_is_counted e.statement.at 1 e clean2 (as_same 0 1 begun e row (statement_is_counted w at d clean b)))

-- an INSERT, whose row is counted before it is kept
insert_goes : (w : Word) (at : ℕ) (d : Draft) → (kind : weight (statements.statement_begins w at d).statement.kind ≤ 1) → (statements.statement_begins w at d).first ≡ None
    → demands Pre Post
    (grammar.key keys.Into ∷ grammar.name roles.InsertTable ∷ grammar.key keys.Values ∷ grammar.part parts.Row ∷ grammar.ended ends.InsertRow
    ∷ grammar.sign signs.Semicolon ∷ grammar.ended ends.Statement ∷ grammar.part parts.MoreStatements ∷ [])
    (Keeps d) (statements.statement_begins w at d)
insert_goes w at d light clean = λ name place is clean2.
    (tt, λ e row. λ clean3 clean4. (tt, λ g later. λ b. later (insert_ends w at d name place e light clean row clean3 b)))

end_goes : (d c : Draft) → (Even d → Even c) → demands Pre Post (grammar.key keys.Work ∷ grammar.sign signs.Semicolon ∷ grammar.ended ends.Work ∷ grammar.part parts.MoreWorks ∷ []) (Keeps d) c
end_goes d c from = λ clean. (tt, λ e later. λ b. later (work_balances c (from b)))

same_even : (d c : Draft) → Same d c → Even d → Even c
same_even d c same b = as_same 0 0 d c same b

abbrev Goes : Word → ℕ → Draft → List Symbol → Type 0
Goes w at d s = demands Pre Post s (Keeps d) (statements.statement_came w at d)

statement_goes : (w : Word) (at : ℕ) (more : List Symbol) (d : Draft) → grammar.work_behind w ≡ Some more → (statements.statement_came w at d).first ≡ None
    → demands Pre Post more (Keeps d) (statements.statement_came w at d)
statement_goes (word.Keyword keys.Select) at more d h clean =
    if_some true _ None more (Goes (word.Keyword keys.Select) at d)
    (select_goes (word.Keyword keys.Select) at d refl clean)
    (none_more more (Goes (word.Keyword keys.Select) at d)) h
statement_goes (word.Keyword keys.Update) at more d h clean =
    if_some true _ None more (Goes (word.Keyword keys.Update) at d)
    (update_goes (word.Keyword keys.Update) at d refl clean)
    (none_more more (Goes (word.Keyword keys.Update) at d)) h
statement_goes (word.Keyword keys.Delete) at more d h clean =
    if_some true _ None more (Goes (word.Keyword keys.Delete) at d)
    (delete_goes (word.Keyword keys.Delete) at d refl clean)
    (none_more more (Goes (word.Keyword keys.Delete) at d)) h
statement_goes (word.Keyword keys.Insert) at more d h clean =
    if_some true _ None more (Goes (word.Keyword keys.Insert) at d)
    (insert_goes (word.Keyword keys.Insert) at d (omega arith) clean)
    (none_more more (Goes (word.Keyword keys.Insert) at d)) h
statement_goes (word.Keyword keys.Lock) at more d h clean =
    if_some true _ None more (Goes (word.Keyword keys.Lock) at d)
    (lock_goes (word.Keyword keys.Lock) at d refl clean)
    (none_more more (Goes (word.Keyword keys.Lock) at d)) h
statement_goes (word.Keyword keys.Commit) at more d h clean =
    if_some true _ None more (Goes (word.Keyword keys.Commit) at d)
    (end_goes d (statements.statement_came (word.Keyword keys.Commit) at d) (same_even d (statements.statement_came (word.Keyword keys.Commit) at d) refl))
    (none_more more (Goes (word.Keyword keys.Commit) at d)) h
statement_goes (word.Keyword keys.Rollback) at more d h clean =
    if_some true _ None more (Goes (word.Keyword keys.Rollback) at d)
    (end_goes d (statements.statement_came (word.Keyword keys.Rollback) at d) (same_even d (statements.statement_came (word.Keyword keys.Rollback) at d) refl))
    (none_more more (Goes (word.Keyword keys.Rollback) at d)) h
statement_goes (word.Keyword k) at more d h clean = absurd (cc (h))
statement_goes (word.Name name) at more d h clean = absurd (cc (h))
statement_goes (word.Number n) at more d h clean = absurd (cc (h))
statement_goes (word.Text text) at more d h clean = absurd (cc (h))
statement_goes (word.Sign s) at more d h clean = absurd (cc (h))

-- a work begins
work_starts : (at : ℕ) (d : Draft) → Even d → Even (work_counted at d)
work_starts at d b = record { records = omega (arith, b.records); few_records = b.few_records; statements = omega (arith, b.statements); few_statements = b.few_statements }

work_goes : (w : Word) (at : ℕ) (more : List Symbol) (d : Draft) → grammar.work_behind w ≡ Some more → (statements.work_begins w at d).first ≡ None
    → demands Pre Post more (Keeps d) (statements.work_begins w at d)
work_goes w at more d h clean =
    weaker Pre Post more (Keeps (work_counted at d)) (Keeps d) (statements.work_begins w at d) (λ e keeps b. keeps (work_starts at d b))
    (statement_goes w at more (work_counted at d) h clean)

-- ---- every part

all_begin : (p : Part) (w : Word) (at : ℕ) (more : List Symbol) (d : Draft) → IsFormedWord w → behind p w ≡ Some more
    → (part_came p w at d).first ≡ None → Pre p d → demands Pre Post more (Post p d) (part_came p w at d)
unfolding behind
all_begin (parts.Limit l) w at more d f h c p = limit_begins l w more d h
all_begin parts.Loads w at more d f h c p = loads_begin w more d h
all_begin parts.MoreLoadRows w at more d f h c p = load_rows_begin w more d h
all_begin parts.Session w at more d f h c p = session_begins w at more d h
all_begin parts.MoreSessions w at more d f h c p = session_begins w at more d h
all_begin parts.Work w at more d f h c p = work_goes w at more d h c
all_begin parts.MoreStatements w at more d f h c p = statement_goes w at more d h c
all_begin parts.MoreWorks w at more d f h c p = work_goes w at more d h c
all_begin parts.Table w at more d f h c p = inner_begins parts.Table refl w at more d h
all_begin parts.MoreTables w at more d f h c p = inner_begins parts.MoreTables refl w at more d h
all_begin parts.ColumnKind w at more d f h c p = inner_begins parts.ColumnKind refl w at more d h
all_begin parts.ColumnOrKey w at more d f h c p = inner_begins parts.ColumnOrKey refl w at more d h
all_begin parts.MoreKeyColumns w at more d f h c p = inner_begins parts.MoreKeyColumns refl w at more d h
all_begin parts.MoreChecks w at more d f h c p = inner_begins parts.MoreChecks refl w at more d h
all_begin parts.Check w at more d f h c p = inner_begins parts.Check refl w at more d h
all_begin parts.FirstKeys w at more d f h c p = inner_begins parts.FirstKeys refl w at more d h
all_begin parts.MoreFirstKeys w at more d f h c p = inner_begins parts.MoreFirstKeys refl w at more d h
all_begin parts.Row w at more d f h c p = inner_begins parts.Row refl w at more d h
all_begin parts.Literal w at more d f h c p = inner_begins parts.Literal refl w at more d h
all_begin parts.MoreLiterals w at more d f h c p = inner_begins parts.MoreLiterals refl w at more d h
all_begin parts.Selected w at more d f h c p = inner_begins parts.Selected refl w at more d h
all_begin parts.MoreSelected w at more d f h c p = inner_begins parts.MoreSelected refl w at more d h
all_begin parts.Where w at more d f h c p = inner_begins parts.Where refl w at more d h
all_begin parts.Sets w at more d f h c p = inner_begins parts.Sets refl w at more d h
all_begin parts.MoreSets w at more d f h c p = inner_begins parts.MoreSets refl w at more d h
all_begin parts.ReadAccess w at more d f h c p = inner_begins parts.ReadAccess refl w at more d h
all_begin parts.ChangeAccess w at more d f h c p = inner_begins parts.ChangeAccess refl w at more d h
all_begin parts.LockMode w at more d f h c p = inner_begins parts.LockMode refl w at more d h
all_begin parts.Expression w at more d f h c p = inner_begins parts.Expression refl w at more d h
all_begin parts.Condition w at more d f h c p = inner_begins parts.Condition refl w at more d h
all_begin parts.Operand w at more d f h c p = inner_begins parts.Operand refl w at more d h
all_begin parts.ProductRest w at more d f h c p = inner_begins parts.ProductRest refl w at more d h
all_begin parts.SumRest w at more d f h c p = inner_begins parts.SumRest refl w at more d h
all_begin parts.CompareRest w at more d f h c p = inner_begins parts.CompareRest refl w at more d h
all_begin parts.AndRest w at more d f h c p = inner_begins parts.AndRest refl w at more d h
all_begin parts.OrRest w at more d f h c p = inner_begins parts.OrRest refl w at more d h

contracts : Contracts Pre Post
contracts = record { begins = all_begin; skips = λ p d e h. skipped (is_inner_part p) (is_limit p) d }

before_all : Zero empty
before_all = (record { records = omega arith; few_records = omega arith; statements = omega arith; few_statements = omega arith }, refl)

whole_script : demands Pre Post grammar.script Even empty
whole_script = (
  tt,
  λ e1 p1. (
    tt,
    λ e2 p2. (
      tt,
      λ e3 p3. (
        tt,
        λ e4 p4. (
          tt,
          λ e5 p5. (
            tt,
            λ e6 tables. (
              tt,
              λ e7 loads. (
                tt,
                λ e8 sessions.
                    sessions (loads (same_even e5 e6 tables (p5 (p4 (p3 (p2 (p1 before_all))))).0)),
              ),
            ),
          ),
        ),
      ),
    ),
  ),
)

-- what is read was counted
pub all_counted : (tokens : List Token) (at : ℕ) → AllByRecursion IsFormed tokens → (read tokens at).first ≡ None → Even (read tokens at)
all_counted tokens at formed clean = read_meets Pre Post contracts Even (λ d f b. b) grammar.script empty tokens at formed clean whole_script

counted_script : (d : Draft) → Even d → (records_of (script_of d) ≤ 4000) × (statements_of (script_of d) * (d.limits.restart + 1) ≤ 500)
counted_script d b =
    let few : statements_of (script_of d) ≤ d.statements = omega (arith, b.statements) in
    (omega (arith, b.records, b.few_records), less (statements_of (script_of d)) d.statements (d.limits.restart + 1) 500 few b.few_statements)

pub read_may_be_read : ReadMayBeRead
read_may_be_read text script spelled =
    let d = read spelled.tokens (length text) in
    let formed = words_formed text spelled.tokens spelled.words in
    let counts = counted_script d (all_counted spelled.tokens (length text) formed spelled.clean) in
    let prints : length (printed (script_of d)) ≤ limit = subst (λ (s : Script). length (printed s) ≤ limit) spelled.meant spelled.prints in
    subst MayBeRead (sym spelled.meant) (record {
      rules = clean_is_script spelled.tokens (length text) formed spelled.clean;
      records = counts.0;
      statements = counts.1;
      prints = prints;
    })

-- a script that is read is read again from its printed bytes
pub printed_again : PrintedAgain
printed_again text script spelled = printed_is_spelled script (read_may_be_read text script spelled)
