-- What a draft has read and counted of records and statements.
use Rattle.std.proofs.Common.{◌≡◌, ◌≤◌, ◌<◌, ℕ, ◌+◌, ◌*◌, min, List, [], ◌∷◌, ◌++◌, length, Bool, true, false, Option, Some, None, refl, arith}
use Rattle.std.proofs.lemmas.Bool.Decides.{nat_tests}
use Rattle.std.proofs.lemmas.List.{length-append}
use Rattle.std.proofs.lemmas.List.Sums.{sum_by_push}
use Rattle.std.specs.Prelude.{if◌then◌else◌, is_some, nat_le, nat_lt, option_and_then, slice_get, sum_by}
use Rattle.sql_base.specs.declared.scripts.Load.{Load}
use Rattle.sql_base.specs.declared.scripts.Work.{Work}
use Rattle.sql_base.specs.declared.statements.Statement.{Statement}
use Rattle.sql_base.specs.declared.tables.TableDef.{TableDef}
use Rattle.sql_base.specs.declared.values.Value.{Value}
use Rattle.statement_grammar.specs.declared.symbols.End.TheVariants as ends
use Rattle.statement_draft.proofs.Clean.{noted-none}
use Rattle.statement_draft.specs.Faults.{noted}
use Rattle.statement_draft.specs.Judging.{ended}
use Rattle.statement_draft.specs.RowEvents.{load_kept, miscounts, record_counted, row_judged, row_loaded}
use Rattle.statement_draft.specs.StatementEvents.{statement_begins, statement_kept, statement_drafted, times}
use Rattle.statement_draft.specs.declared.draft.Draft.{Draft}
use Rattle.statement_draft.specs.declared.draft.NewStatement.{NewStatement}
use Rattle.statement_draft.specs.declared.draft.StatementKind.{StatementKind}
use Rattle.statement_draft.specs.declared.draft.StatementKind.TheVariants as kinds
use Rattle.statement_draft.specs.declared.faults.Reason.TheVariants.{OverLimit, WrongType}
use Rattle.statement_words.specs.declared.tokens.Word.{Word}
use Rattle.statement_rules.proofs.Stays as stays
use Rattle.statement_round_trip.specs.WholeScripts.{inserts, record_of, statements_in}
use Rattle.statement_round_trip.proofs.SessionsRead.{at_most_by}

pub record Tally : Type 0 where
  pub records : ℕ
  pub statements : ℕ
  pub restart : ℕ
  pub loads : List Load
  pub rows : List (List Value)
  pub sessions : List (List Work)
  pub session : List Work
  pub work : List Statement
  pub kind : StatementKind

abbrev pub tally : Draft → Tally
tally d = record {
  records = d.records;
  statements = d.statements;
  restart = d.limits.restart;
  loads = d.loads;
  rows = d.load.rows;
  sessions = d.sessions;
  session = d.session;
  work = d.work;
  kind = d.statement.kind;
}

-- nothing of this has changed
abbrev pub Same : Draft → Draft → Type 0
Same d e = tally e ≡ tally d

-- all that was read was counted, with r records and n statements that aren't kept yet
pub record Balanced (r n : ℕ) (t : Tally) : Type 0 where
  pub records : sum_by (λ load. length load.rows) t.loads + length t.rows + sum_by inserts t.sessions + inserts t.session + sum_by record_of t.work + r ≤ t.records
  pub few_records : t.records ≤ 4000
  pub statements : sum_by statements_in t.sessions + statements_in t.session + length t.work + n ≤ t.statements
  pub few_statements : t.statements * (t.restart + 1) ≤ 500

abbrev pub Even : Draft → Type 0
Even d = Balanced 0 0 (tally d)

-- ---- records

-- a record is counted
pub record_is_counted : (at n : ℕ) (d : Draft) → (record_counted at d).first ≡ None → Balanced 0 n (tally d) → Balanced 1 n (tally (record_counted at d))
record_is_counted at n d clean b =
    let room = (noted-none (nat_le 4000 d.records) OverLimit at (noted (miscounts d.row) WrongType d.row.at d.first) clean).0 in
    let few : d.records < 4000 = grind (arith, nat_tests, room) in
    record { records = omega (arith, b.records, few); few_records = omega (arith, few); statements = b.statements; few_statements = b.few_statements }

kept_no_row : (t : Tally) → Balanced 1 0 t → Balanced 0 0 t
kept_no_row t b = record { records = omega (arith, b.records); few_records = b.few_records; statements = b.statements; few_statements = b.few_statements }

row_is_kept : (table : TableDef) (d : Draft) → Balanced 1 0 (tally d) → Even (row_loaded table d)
row_is_kept table d b =
    let long = length-append d.load.rows (d.row.values ∷ []) in
    record { records = omega (arith, b.records, long); few_records = b.few_records; statements = b.statements; few_statements = b.few_statements }

row_is_judged : (table : Option TableDef) (d : Draft) → Balanced 1 0 (tally d) → Even (row_judged table d)
row_is_judged None d b = kept_no_row (tally d) b
row_is_judged (Some table) d b = by_fault (is_some d.first)
  where
    by_fault : (faulty : Bool) → Even (if faulty then d else row_loaded table d)
    by_fault true = kept_no_row (tally d) b
    by_fault false = row_is_kept table d b

-- a row of a LOAD
pub load_row_balances : (d : Draft) → (ended ends.LoadRow d).first ≡ None → Even d → Even (ended ends.LoadRow d)
unfolding ended
load_row_balances d clean b =
    let table = option_and_then (slice_get d.tables) d.load.table in
    let counted = record_counted d.row.at d in
    row_is_judged table counted (record_is_counted d.row.at 0 d (stays.row_judged_stays table counted clean) b)

load_is_kept : (table : Option ℕ) (d : Draft) → Even d → Even (load_kept table d)
load_is_kept None d b = b
load_is_kept (Some t) d b =
    let pushed = sum_by_push (λ (load : Load). length load.rows) d.loads (record { table = t; rows = d.load.rows }) in
    record { records = omega (arith, b.records, pushed); few_records = b.few_records; statements = b.statements; few_statements = b.few_statements }

-- a whole LOAD
pub load_balances : (d : Draft) → Even d → Even (ended ends.Load d)
unfolding ended
load_balances d b = load_is_kept d.load.table d b

-- ---- statements

-- a statement is counted
pub statement_is_counted : (w : Word) (at : ℕ) (d : Draft) → (statement_begins w at d).first ≡ None → Even d → Balanced 0 1 (tally (statement_begins w at d))
statement_is_counted w at d clean b =
    let room = (noted-none (nat_lt 500 ((min 500 d.statements + 1) * times d)) OverLimit at d.first clean).0 in
    let few : d.statements ≤ 500 = at_most_by d.statements d.limits.restart b.few_statements in
    record { records = b.records; few_records = b.few_records; statements = omega (arith, b.statements, few); few_statements = within ((min 500 d.statements + 1) * times d) room }
  where
    within : (n : ℕ) → nat_lt 500 n ≡ false → n ≤ 500
    within n h = grind (arith, nat_tests, h)

-- an INSERT is a record
abbrev pub weight : StatementKind → ℕ
weight kinds.Insert = 1
weight kind = 0

weighs : (kind : StatementKind) (t : ℕ) (s : NewStatement) (row : List Value) → record_of (statement_drafted kind t s row) ≡ weight kind
weighs kinds.Select t s row = refl
weighs kinds.Update t s row = refl
weighs kinds.Delete t s row = refl
weighs kinds.Insert t s row = refl
weighs kinds.Lock t s row = refl

statement_is_kept : (table : Option ℕ) (r : ℕ) (d : Draft) → weight d.statement.kind ≤ r → Balanced r 1 (tally d) → Even (statement_kept table d)
statement_is_kept None r d light b = record { records = omega (arith, b.records); few_records = b.few_records; statements = omega (arith, b.statements); few_statements = b.few_statements }
statement_is_kept (Some t) r d light b =
    let st = statement_drafted d.statement.kind t d.statement d.row.values in
    let long = length-append d.work (st ∷ []) in
    let pushed = sum_by_push record_of d.work st in
    let weighed = weighs d.statement.kind t d.statement d.row.values in
    record {
      records = omega (arith, b.records, pushed, weighed, light);
      few_records = b.few_records;
      statements = omega (arith, b.statements, long);
      few_statements = b.few_statements;
    }

-- a whole statement
pub statement_balances : (r : ℕ) (d : Draft) → weight d.statement.kind ≤ r → Balanced r 1 (tally d) → Even (ended ends.Statement d)
unfolding ended
statement_balances r d light b = statement_is_kept d.statement.table r d light b

-- a whole work
pub work_balances : (d : Draft) → Even d → Even (ended ends.Work d)
unfolding ended
work_balances d b =
    let work : Work = record { statements = d.work; commit = d.commit } in
    let records = sum_by_push (λ (work : Work). sum_by record_of work.statements) d.session work in
    let statements = sum_by_push (λ (work : Work). length work.statements) d.session work in
    record {
      records = omega (arith, b.records, records);
      few_records = b.few_records;
      statements = omega (arith, b.statements, statements);
      few_statements = b.few_statements;
    }

-- a whole session
pub session_balances : (d : Draft) → Even d → Even (ended ends.Session d)
unfolding ended
session_balances d b = by_room (nat_lt (length d.sessions) 8)
  where
    by_room : (room : Bool) → Even (record d { sessions = if room then d.sessions ++ d.session ∷ [] else d.sessions; session = [] })
    by_room true =
        let records = sum_by_push inserts d.sessions d.session in
        let statements = sum_by_push statements_in d.sessions d.session in
        record {
          records = omega (arith, b.records, records);
          few_records = b.few_records;
          statements = omega (arith, b.statements, statements);
          few_statements = b.few_statements;
        }
    by_room false = record { records = omega (arith, b.records); few_records = b.few_records; statements = omega (arith, b.statements); few_statements = b.few_statements }
