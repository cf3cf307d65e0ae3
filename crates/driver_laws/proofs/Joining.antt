-- What is known of a run once its threads have ended makes its record legal so far.
use Rattle.std.proofs.Common.{◌≡◌, ◌<◌, ℕ, zero, suc, List, [], ◌∷◌, length, map, Some, Bool, true, false, refl, sym, ◌∙◌, subst, arith}
use Rattle.std.proofs.lemmas.Bool.{eq-eqb, eqb-true}
use Rattle.std.specs.Prelude.{filter, slice_get, Contains}
use Rattle.std.specs.List.{AllByRecursion}
use Rattle.sql_base.specs.Scripts.{Lies}
use Rattle.sql_base.specs.declared.scripts.Script.{Script}
use Rattle.partition_state.specs.History.{IsLegal}
use Rattle.partition_state.specs.declared.entries.Entry.{Entry}
use Rattle.session_grammar.specs.Rows.{is_for}
use Rattle.session_grammar.specs.declared.logs.Answer.TheVariants.{Reply, PathFailed, Stamp}
use Rattle.session_grammar.specs.declared.logs.LogEntry.{LogEntry}
use Rattle.session_grammar.specs.declared.logs.LogEntry.TheVariants.{Asked, Drew}
use Rattle.run_record.specs.Legal.{AreServed}
use Rattle.run_record.specs.Openings.{history_of, log_of, openings}
use Rattle.run_record.specs.declared.records.RunRecord.{RunRecord}
use Rattle.partition_laws.proofs.OpenerLaws.{syncs_rise}
use Rattle.state_facts.proofs.Openings.{opened-fresh}
use Rattle.record_laws.specs.SoFar.{LegalSoFar, way_of}
use Rattle.record_laws.proofs.Completing.{open_entry}
use Rattle.record_laws.proofs.FitsSoFar.{zip_at}
use Rattle.record_laws.proofs.Sessions.{by_opener}
use Rattle.driver_laws.specs.Gathering.{Gathered, HasEntry, IsAskedIn, HasItsEntry, SyncsClimb}
use Rattle.driver_laws.specs.Moves.{IsPosted, asked_so_far}
use Rattle.session_grammar.specs.UnderWay.{Sending, Awaiting, Drawing, UnderWay, unanswered}
use Rattle.driver_laws.proofs.Gathering.{gathered}
use Rattle.driver_laws.proofs.Journals.{stamps_gathered}
use Rattle.driver_laws.proofs.Seats.{contains_filter}
use Rattle.driver_laws.proofs.Serving.{asked_rises}
use Rattle.sql_base.proofs.ListFacts.{all-weaker, all_joined, all_places, all_through}

-- of one opener
abbrev SyncsRise : List Entry → Type 0
SyncsRise history = (i j : ℕ) (e f : Entry) → slice_get history i ≡ Some e → slice_get history j ≡ Some f → i < j → e.opener ≡ f.opener → e.sync < f.sync

own_climb : (session : ℕ) (history : List Entry) → SyncsRise history → SyncsClimb (filter (by_opener session) history)
own_climb session [] rise = tt
own_climb session (x ∷ history) rise = by_test (by_opener session x) refl (own_climb session history (λ i j e f a b lt same. rise (suc i) (suc j) e f a b (omega (arith, lt)) same))
  where
    by_test : (b : Bool) → by_opener session x ≡ b → SyncsClimb (filter (by_opener session) history) → SyncsClimb (filter (by_opener session) (x ∷ history))
    by_test true t rest =
        let here : x.opener ≡ session = eqb-true x.opener session t in
        rw t (
          all_through (by_opener session) (λ (f : Entry). x.sync < f.sync) history
              (all_places (λ (f : Entry). by_opener session f ≡ true → x.sync < f.sync) history (λ i f at own. rise zero (suc i) x f refl at (omega arith) (here ∙ sym (eqb-true f.opener session own)))),
          rest,
        )
    by_test false t rest = rw t rest

module _ (script : Script) (kept : RunRecord) (ways : List UnderWay) (g : Gathered script kept ways) (part session : ℕ) (within : part < length kept.histories) (lies : Lies 1 (length script.sessions) session) where
  abbrev es : List Entry
  es = filter (by_opener session) (history_of kept part)

  rises : SyncsClimb es
  rises =
      let found = zip_at IsLegal (openings script) kept.histories [] part g.histories_replay within in
      let keeps = (opened-fresh script part found.0 g.script_runs found.1).keeps in
      own_climb session (history_of kept part) (λ i j e f a b lt same. syncs_rise found.0 (history_of kept part) i j e f keeps found.2 a b lt same)

  asked : AllByRecursion (IsAskedIn part (filter (is_for part) (asked_so_far kept ways session))) es
  asked =
      all_through (by_opener session) (IsAskedIn part (filter (is_for part) (asked_so_far kept ways session))) (history_of kept part)
      (all-weaker (λ (e : Entry). IsPosted kept ways e.opener part e.sync e.request) (λ (e : Entry). by_opener session e ≡ true → IsAskedIn part (filter (is_for part) (asked_so_far kept ways session)) e) its (history_of kept part) (g.posted part within))
    where
      its : (e : Entry) → IsPosted kept ways e.opener part e.sync e.request → by_opener session e ≡ true → IsAskedIn part (filter (is_for part) (asked_so_far kept ways session)) e
      its e h own =
          let it = Asked part e.sync e.request h.0 h.1 in
          let here = subst (λ n. Contains (asked_so_far kept ways n) it) (eqb-true e.opener session own) h.2 in
          (h.0, h.1, contains_filter (is_for part) (asked_so_far kept ways session) it (eq-eqb part part refl) here)

  has : AllByRecursion (HasEntry es) (filter (is_for part) (asked_so_far kept ways session))
  has =
      all_through (is_for part) (HasEntry es) (asked_so_far kept ways session)
      (all_joined (λ z. is_for part z ≡ true → HasEntry es z) (log_of kept session) (unanswered (way_of ways session))
      (all-weaker (HasItsEntry kept session) (λ z. is_for part z ≡ true → HasEntry es z) told (log_of kept session) (g.heard session lies)) (not_told (way_of ways session)))
    where
      told : (z : LogEntry) → HasItsEntry kept session z → is_for part z ≡ true → HasEntry es z
      told (Asked p s q l (Reply r)) h here =
          (h.0, contains_filter (by_opener session) (history_of kept part) h.0 (eq-eqb h.0.opener session h.2) (subst (λ n. Contains (history_of kept n) h.0) (eqb-true p part here) h.1), h.3, h.4)
      told (Asked p s q l PathFailed) h here = tt
      told (Asked p s q l (Stamp stamp)) h here = absurd h
      told (Drew n f w) h here = tt

      of : (sends : List Sending) → AllByRecursion (λ z. is_for part z ≡ true → HasEntry es z) (map open_entry sends)
      of [] = tt
      of (s ∷ sends) = ((λ here. tt), of sends)

      not_told : (way : UnderWay) → AllByRecursion (λ z. is_for part z ≡ true → HasEntry es z) (unanswered way)
      not_told (Awaiting sends) = of sends
      not_told (Drawing name floor) = tt

  joined : AreServed (filter (is_for part) (asked_so_far kept ways session)) es
  joined =
      gathered part (filter (is_for part) (asked_so_far kept ways session)) es (asked_rises script session (log_of kept session) (way_of ways session) part (g.logs_begin.each session lies)) rises asked has

pub gathered-so_far : (script : Script) (kept : RunRecord) (ways : List UnderWay) → Gathered script kept ways → LegalSoFar script kept ways
gathered-so_far script kept ways g =
    record {
      script_runs = g.script_runs;
      histories_replay = g.histories_replay;
      stamps_drawn = stamps_gathered script kept ways g.script_runs g.logs_begin g.journal_drawn;
      entries_asked = record { openers = g.openers; served = λ part session within lies. joined script kept ways g part session within lies };
      logs_begin = g.logs_begin;
    }
