-- What fits a partition suits it, since it reads codes back; so replies fit what was asked.
use Rattle.std.proofs.Common.{◌≡◌, ℕ, List, [], ◌∷◌, Option, Some, ap, ◌∙◌, refl}
use Rattle.std.specs.Prelude.{option_map}
use Rattle.std.specs.List.{AllByRecursion}
use Rattle.sql_base.specs.Scripts.{IsScript}
use Rattle.sql_base.specs.Tables.{IsFilter}
use Rattle.sql_base.specs.declared.expressions.Expr.{Expr}
use Rattle.sql_base.specs.declared.scripts.Script.{Script}
use Rattle.sql_base.specs.declared.tables.TableDef.{TableDef}
use Rattle.predicate_codes.specs.Decoding.{filter_of}
use Rattle.predicate_codes.specs.SetLists.{sets_of}
use Rattle.predicate_codes.proofs.Exact.{reads_filters}
use Rattle.predicate_codes.proofs.ExactSets.{reads_sets}
use Rattle.sql_base.specs.Codes.{sets_code}
use Rattle.quantum_core.specs.declared.works.Doing.{Doing}
use Rattle.quantum_core.specs.declared.works.Doing.TheVariants as doing
use Rattle.quantum_core.specs.declared.works.SetWork.{SetWork}
use Rattle.dp_messages.specs.declared.requests.Ask.{Ask}
use Rattle.dp_messages.specs.declared.requests.Ask.TheVariants as ask
use Rattle.partition_state.specs.State.{State}
use Rattle.partition_state.specs.Step.{set_work}
use Rattle.session_grammar.specs.Follows.{asker}
use Rattle.session_grammar.specs.Plans.{filter_code, plan_of, sents_of}
use Rattle.session_grammar.specs.declared.plans.Sent.{Sent}
use Rattle.session_grammar.specs.UnderWay.{UnderWay}
use Rattle.run_record.specs.declared.records.RunRecord.{RunRecord}
use Rattle.record_laws.specs.SoFar.{LegalSoFar, RepliesFit, SendsFit}
use Rattle.record_laws.specs.Suiting.{PlansSuit, Suits}
use Rattle.record_laws.proofs.Joined.{replies_fit-so_far, sends_fit-so_far}
use Rattle.plans_laws.specs.Scaffold.Fits.{CarriesFilter, Fits}
use Rattle.plans_laws.proofs.Plans.{FitsThere, plans_fit}

-- a partition reads back the code of a predicate, and of a SET list
filter-read : (table : TableDef) (predicate : Option Expr) → IsFilter table predicate → filter_of table (filter_code predicate) ≡ Some predicate
filter-read table predicate is = (reads_filters table (filter_code predicate) predicate).1 (is, refl)

work-read : (table : TableDef) (code : Option (List ℕ)) (d : Doing) → CarriesFilter table code → (work : SetWork) × (set_work (filter_of table code) (Some d) ≡ Some work)
work-read table code d (predicate, well, e) = (record { filter = predicate; doing = d }, ap (λ o. set_work o (Some d)) (ap (filter_of table) e ∙ filter-read table predicate well))

fits-suits : (p : State) (asks : Ask) → Fits p asks → Suits p asks
fits-suits p (ask.BeginRead access granule range predicate columns) h = let work = work-read p.table predicate (doing.Read columns) h.1 in (work.0, h.0, work.1)
fits-suits p (ask.BeginUpdate access granule range predicate code) (shape, carried, (assigns, are, e)) =
    let work = work-read p.table predicate (doing.Update assigns) carried in
    let read : option_map doing.Update (sets_of p.table code) ≡ Some (doing.Update assigns) = ap (λ c. option_map doing.Update (sets_of p.table c)) e ∙ ap (option_map doing.Update) ((reads_sets p.table (sets_code assigns) assigns).1 (are, refl)) in
    (work.0, shape, ap (set_work (filter_of p.table predicate)) read ∙ work.1)
fits-suits p (ask.BeginDelete access granule range predicate) h = let work = work-read p.table predicate doing.Delete h.1 in (work.0, h.0, work.1)
fits-suits p (ask.ReadKey access key predicate columns) h = let work = work-read p.table predicate (doing.Read columns) h.1 in (work.0, h.0, work.1)
fits-suits p (ask.Insert row) h = h
fits-suits p (ask.LockGranule prefix mode) h = h
fits-suits p (ask.Continue subset last) h = tt
fits-suits p ask.Prepare h = tt
fits-suits p (ask.EndCommit stamp) h = tt
fits-suits p ask.EndUndo h = tt

all-suit : (p : State) (part : ℕ) (sents : List Sent) → AllByRecursion (FitsThere p part) sents → AllByRecursion (λ (sent : Sent). sent.part ≡ part → Suits p sent.ask) sents
all-suit p part [] all = tt
all-suit p part (sent ∷ sents) all = (λ e. fits-suits p sent.ask (all.0 e), all-suit p part sents all.1)

pub plans_suit : (script : Script) → IsScript script → PlansSuit script
plans_suit script is session statement part p well opens =
    all-suit p part (sents_of (plan_of (asker script session) statement)) (plans_fit script is session statement part p well opens)

pub replies_fit : (script : Script) (kept : RunRecord) (ways : List UnderWay) → LegalSoFar script kept ways → RepliesFit kept
replies_fit script kept ways legal = replies_fit-so_far script kept ways (plans_suit script legal.script_runs) legal

pub sends_fit : (script : Script) (kept : RunRecord) (ways : List UnderWay) → LegalSoFar script kept ways → SendsFit script kept ways
sends_fit script kept ways legal = sends_fit-so_far script kept ways (plans_suit script legal.script_runs) legal
