-- What sessions, works and statements leave.
use Rattle.std.proofs.Common.{◌≡◌, ◌≤◌, ◌<◌, ◌+◌, ◌*◌, ℕ, zero, suc, min, List, [], ◌∷◌, ◌++◌, length, Bool, true, false, Option, Some, None, refl, sym, ap, subst, ◌∙◌, arith}
use Rattle.std.specs.Prelude.{nat_lt, nat_le, sum_by, slice_get, option_map, if◌then◌else◌}
use Rattle.std.specs.List.{AllByRecursion}
use Rattle.std.proofs.lemmas.Bool.Decides.{nat_tests}
use Rattle.std.proofs.lemmas.List.{length-append}
use Rattle.std.proofs.lemmas.List.Sums.{sum_by-append}
use Rattle.sql_base.specs.Tables.{IsStatement, SuitsTable, table_of}
use Rattle.sql_base.specs.declared.scripts.Work.{Work}
use Rattle.sql_base.specs.declared.tables.TableDef.{TableDef}
use Rattle.sql_base.specs.declared.values.Value.{Value}
use Rattle.statement_draft.specs.Faults.{noted}
use Rattle.statement_draft.specs.Names.{is_long, table_named}
use Rattle.statement_draft.specs.StatementEvents.{session_begins, times, statement_drafted, statement_kept, statement_ends, work_ends, session_ends, table_found, table_came}
use Rattle.statement_draft.specs.Expressions.{columns_in}
use Rattle.statement_draft.specs.declared.draft.Draft.{Draft}
use Rattle.statement_draft.specs.declared.draft.NewStatement.{NewStatement}
use Rattle.statement_draft.specs.declared.draft.StatementKind.{StatementKind}
use Rattle.statement_draft.specs.declared.draft.StatementKind.TheVariants as statement_kind
use Rattle.statement_draft.specs.declared.faults.Reason.TheVariants.{OverLimit}
use Rattle.statement_draft.proofs.Clean.{noted-none}
use Rattle.statement_rules.proofs.Stays.{work_counted}
use Rattle.statement_rules.proofs.LoadSteps.{found_table, unknown_none}
use Rattle.statement_rules.proofs.ExpressionSteps.{Sees}
use Rattle.statement_rules.proofs.States.{Loading, WorkSound, Sessioned, Between, Working, Stating, Known}
use Rattle.sql_base.proofs.Truths.{plus-none}
use Rattle.sql_base.proofs.ListFacts.{all-push}

-- before the first session
pub sessions_begin : (d : Draft) → Loading d → Between d
sessions_begin d h = subst (λ (s : List (List Work)). Sessioned d.limits d.tables d.loads s d.works) (sym h.sessions)
    (subst (Sessioned d.limits d.tables d.loads []) (sym h.works) (record {
      limits = h.limits;
      tables = h.tables;
      some = h.some;
      loads = h.loads;
      few = omega arith;
      some_works = tt;
      counted = omega arith;
      within = omega arith;
      statements = tt;
    }))

-- SESSION
pub session_step : (at : ℕ) (d : Draft) → Between d → (session_begins at d).first ≡ None → Working 0 (session_begins at d)
session_step at d h clean =
    let room = (noted-none (nat_le 8 (length d.sessions)) OverLimit at d.first clean).0 in
    let counted = h.counted in
    record {
      limits = h.limits;
      tables = h.tables;
      some = h.some;
      loads = h.loads;
      few = grind (arith, nat_tests, room);
      some_works = h.some_works;
      counted = omega (arith, counted);
      within = h.within;
      statements = h.statements;
      works = tt;
    }

few_works : (n r : ℕ) → n * (r + 1) ≤ 1000 → n ≤ 1000
few_works n zero h = grind (arith, h)
few_works n (suc r) h = grind (arith, h)

pub work_step : (at : ℕ) (d : Draft) → Working 0 d → (work_counted at d).first ≡ None → Stating (work_counted at d)
work_step at d h clean =
    let fits = (noted-none (nat_lt 1000 ((min 1000 d.works + 1) * times d)) OverLimit at d.first clean).0 in
    let counted = h.counted in
    let few = few_works d.works d.limits.restart h.within in
    let more : min 1000 d.works ≡ d.works = grind (arith, few) in (
      record {
        limits = h.limits;
        tables = h.tables;
        some = h.some;
        loads = h.loads;
        few = h.few;
        some_works = h.some_works;
        counted = omega (arith, counted, more);
        within = grind (arith, nat_tests, fits);
        statements = h.statements;
        works = h.works;
      },
      tt,
    )

-- COMMIT WORK or ROLLBACK WORK
pub work_ended : (d : Draft) → Stating d → Working 0 (work_ends d) × (0 < length (work_ends d).session)
work_ended d h =
    let work : Work = record { statements = d.work; commit = d.commit } in
    let longer = length-append d.session (work ∷ []) in
    let counted = h.0.counted in (
      record {
        limits = h.0.limits;
        tables = h.0.tables;
        some = h.0.some;
        loads = h.0.loads;
        few = h.0.few;
        some_works = h.0.some_works;
        counted = omega (arith, counted, longer);
        within = h.0.within;
        statements = h.0.statements;
        works = all-push (WorkSound d.tables) d.session work h.0.works h.1;
      },
      omega (arith, longer),
    )

kept_session : (b : Bool) (d : Draft) → b ≡ true → Sessioned d.limits d.tables d.loads (d.sessions ++ d.session ∷ []) d.works
    → Sessioned d.limits d.tables d.loads (if b then d.sessions ++ d.session ∷ [] else d.sessions) d.works × (0 < length (if b then d.sessions ++ d.session ∷ [] else d.sessions))
kept_session true d h s = let longer = length-append d.sessions (d.session ∷ []) in (s, omega (arith, longer))
kept_session false d h s = absurd (cc (h))

-- a whole session
pub session_ended : (d : Draft) → Working 0 d → 0 < length d.session → Between (session_ends d) × (0 < length (session_ends d).sessions)
session_ended d h some =
    let few = h.few in
    let counted = h.counted in
    let longer = length-append d.sessions (d.session ∷ []) in
    let sum = sum_by-append (λ (works : List Work). length works) d.sessions (d.session ∷ []) in
    let one = plus-none (sum_by (λ (works : List Work). length works) d.sessions) (length d.session) in
    kept_session (nat_lt (length d.sessions) 8) d (grind (arith, nat_tests, few)) (record {
      limits = h.limits;
      tables = h.tables;
      some = h.some;
      loads = h.loads;
      few = omega (arith, longer, few);
      some_works = all-push (λ (works : List Work). 0 < length works) d.sessions d.session h.some_works some;
      counted = omega (arith, sum, one, counted);
      within = h.within;
      statements = all-push (λ (works : List Work). AllByRecursion (WorkSound d.tables) works) d.sessions d.session h.statements h.works;
    })

-- ---- statements

-- a whole statement that suits its table
abbrev pub Suits : Draft → Type 0
Suits d = (k : Known d) × SuitsTable k.table (statement_drafted d.statement.kind k.place d.statement d.row.values)

place_of : (k : StatementKind) (t : ℕ) (s : NewStatement) (row : List Value) → table_of (statement_drafted k t s row) ≡ t
place_of statement_kind.Select t s row = refl
place_of statement_kind.Update t s row = refl
place_of statement_kind.Delete t s row = refl
place_of statement_kind.Insert t s row = refl
place_of statement_kind.Lock t s row = refl

pub statement_ended : (d : Draft) → Stating d → Suits d → Stating (statement_ends d)
statement_ended d h s =
    let k = s.0 in
    let statement = statement_drafted d.statement.kind k.place d.statement d.row.values in
    let kept : statement_ends d ≡ statement_kept (Some k.place) d = ap (λ o. statement_kept o d) k.named in
    let there : slice_get d.tables (table_of statement) ≡ Some k.table = ap (slice_get d.tables) (place_of d.statement.kind k.place d.statement d.row.values) ∙ k.there in
    subst Stating (sym kept) (h.0, all-push (IsStatement d.tables) d.work statement h.1 (k.table, there, s.1))

-- the name of a statement's table
pub known : (name : List ℕ) (at : ℕ) (d : Draft) → (table_came name at d).first ≡ None → Known (table_came name at d)
known name at d h = by_place (table_named d.tables name) refl h
  where
    long : Draft
    long = record d { first = noted (is_long name) OverLimit at d.first }

    by_place : (o : Option ℕ) → table_named d.tables name ≡ o → (table_found o at long).first ≡ None → Known (table_found o at long)
    by_place None e h = absurd (unknown_none at long.first h)
    by_place (Some t) e h = let found = found_table d.tables name t e in record { place = t; named = refl; table = found.0; there = found.1; scope = refl }

pub known_sees : (d : Draft) (k : Known d) → Sees d k.table
known_sees d k = ap (λ s. columns_in s d) k.scope ∙ ap (option_map (λ (t : TableDef). t.columns)) k.there
