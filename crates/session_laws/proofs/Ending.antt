-- From every place a session can come to its end.
use Rattle.std.proofs.Common.{◌≡◌, ℕ, zero, suc, ◌+◌, List, [], ◌∷◌, Bool, true, false, refl, sym, subst, arith}
use Rattle.sql_base.specs.declared.lock_names.TxnName.{TxnName}
use Rattle.sql_base.specs.declared.scripts.Work.{Work}
use Rattle.sql_base.specs.declared.statements.Statement.{Statement}
use Rattle.dp_messages.specs.declared.replies.Reply.TheVariants as reply
use Rattle.dp_messages.specs.declared.requests.Ask.{Ask}
use Rattle.dp_messages.specs.declared.requests.Ask.TheVariants.{EndCommit, EndUndo, Prepare}
use Rattle.dp_messages.specs.declared.requests.Request.{Request}
use Rattle.session_grammar.specs.declared.logs.Answer.{Answer}
use Rattle.session_grammar.specs.declared.logs.Answer.TheVariants.{Reply, PathFailed, Stamp}
use Rattle.session_grammar.specs.declared.logs.LogEntry.{LogEntry}
use Rattle.session_grammar.specs.declared.logs.LogEntry.TheVariants.{Asked, Drew}
use Rattle.session_grammar.specs.Follows.{CountSyncs}
use Rattle.session_grammar.specs.Plans.{Asker, plan_of, sents_of}
use Rattle.session_grammar.specs.declared.plans.Sent.{Sent}
use Rattle.session_grammar.specs.Rows.{IsSent}
use Rattle.session_laws.specs.Scaffold.Machine.{Asks, At, Closes, Draw, Over, Place, Prepares, Send, Stamps, Trying, after, are_subsets, asking, behind, closes_at, closing, in_order, next, prepares_at, see, statements_at, task_at, trying, went_on, works_at}
use Rattle.session_laws.specs.Scaffold.Leading.{Does, Leads}

module _ (r : Asker) where
  pub record CanEnd (sync : ℕ) (p : Place) : Type 0 where
    pub rest : List LogEntry
    pub syncs : CountSyncs sync rest
    pub leads : Leads r p rest Over

  abbrev AlwaysEnds : Place → Type 0
  AlwaysEnds p = (sync : ℕ) → CanEnd sync p

  by_answer : (p : Place) (part : ℕ) (request : Request) (losses : ℕ) (answer : Answer) → task_at r p ≡ Send part request → IsSent request.ask losses answer → AlwaysEnds (after r p answer) → AlwaysEnds p
  by_answer p part request losses answer opened sent more sync =
      let m = more (sync + 1) in
      let e = Asked part sync request losses answer in
      let does : Does (task_at r p) e = subst (λ task. Does task e) (sym opened) (refl, refl, sent) in
      record { rest = e ∷ m.rest; syncs = (refl, m.syncs); leads = (does, m.leads) }

  by_stamp : (p : Place) (name : TxnName) (floor : ℕ) → task_at r p ≡ Draw name floor → AlwaysEnds (after r p (Stamp 0)) → AlwaysEnds p
  by_stamp p name floor opened more sync =
      let m = more sync in
      let e = Drew name floor (Stamp 0) in
      let does : Does (task_at r p) e = subst (λ task. Does task e) (sym opened) (refl, refl) in
      record { rest = e ∷ m.rest; syncs = m.syncs; leads = (does, m.leads) }

  module _ (t : Trying) (seen : List ℕ) where
    -- an End, answered as it may be
    by_end : (ask : Ask) (part : ℕ) (parts : List ℕ) (locked : Bool) → AlwaysEnds (closes_at t seen ask parts locked (behind r t locked)) → AlwaysEnds (At t seen (Closes ask part parts locked))
    by_end (EndCommit stamp) part parts locked more =
        by_answer (At t seen (Closes (EndCommit stamp) part parts locked)) part (asking t.ordinal (EndCommit stamp)) 0 (Reply reply.Done) refl (omega arith, refl) more
    by_end EndUndo part parts locked more = by_answer (At t seen (Closes EndUndo part parts locked)) part (asking t.ordinal EndUndo) 0 (Reply reply.Done) refl (omega arith, refl) more
    by_end ask part parts locked more = by_answer (At t seen (Closes ask part parts locked)) part (asking t.ordinal ask) 4 PathFailed refl (refl, refl) more

    closes_end : (ask : Ask) (parts : List ℕ) (locked : Bool) → AlwaysEnds (behind r t locked) → AlwaysEnds (closes_at t seen ask parts locked (behind r t locked))
    closes_end ask [] locked more = more
    closes_end ask (part ∷ parts) locked more = by_end ask part parts locked (closes_end ask parts locked more)

    stamps_end : (floor : ℕ) → AlwaysEnds (next r t) → AlwaysEnds (At t seen (Stamps floor))
    stamps_end floor more =
        by_stamp (At t seen (Stamps floor)) (record { session = r.number; ordinal = t.ordinal }) floor refl (closes_end (EndCommit 0) (in_order r seen) false more)

    prepares_end : (part : ℕ) (parts : List ℕ) (floor : ℕ) → AlwaysEnds (next r t) → AlwaysEnds (At t seen (Prepares part parts floor))
    prepares_end part parts floor more =
        by_answer (At t seen (Prepares part parts floor)) part (asking t.ordinal Prepare) 4 PathFailed refl (refl, refl) (closes_end EndUndo (in_order r seen) false more)

    closing_end : (commit : Bool) → AlwaysEnds (next r t) → AlwaysEnds (closing r t seen commit (next r t))
    closing_end false more = closes_end EndUndo (in_order r seen) false more
    closing_end true more = by_parts (in_order r seen)
      where
        by_parts : (parts : List ℕ) → AlwaysEnds (prepares_at t seen parts 0)
        by_parts [] = stamps_end 0 more
        by_parts (part ∷ parts) = prepares_end part parts 0 more

  module _ (t : Trying) (behind_it : AlwaysEnds (next r t)) where
    -- a request, whose path fails
    ask_end : (seen : List ℕ) (subset : Bool) (part : ℕ) (ask : Ask) (repeats : ℕ) (sents : List Sent) (statements : List Statement)
        → ((s : List ℕ) → AlwaysEnds (went_on r t s subset sents statements)) → AlwaysEnds (At t seen (Asks subset part ask repeats sents statements))
    ask_end seen subset part (EndCommit stamp) repeats sents statements more =
        by_answer (At t seen (Asks subset part (EndCommit stamp) repeats sents statements)) part (asking t.ordinal (EndCommit stamp)) 0 (Reply reply.Done) refl (omega arith, refl) (more (see part seen))
    ask_end seen subset part EndUndo repeats sents statements more =
        by_answer (At t seen (Asks subset part EndUndo repeats sents statements)) part (asking t.ordinal EndUndo) 0 (Reply reply.Done) refl (omega arith, refl) (more (see part seen))
    ask_end seen subset part ask repeats sents statements more =
        by_answer (At t seen (Asks subset part ask repeats sents statements)) part (asking t.ordinal ask) 4 PathFailed refl (refl, refl)
        (closes_end t (see part seen) EndUndo (in_order r (see part seen)) false behind_it)

    sents_end : (subset : Bool) (sents : List Sent) (statements : List Statement) → ((s : List ℕ) → AlwaysEnds (statements_at r t s statements (next r t))) → (seen : List ℕ) → AlwaysEnds (went_on r t seen subset sents statements)
    sents_end subset [] statements more seen = more seen
    sents_end subset (sent ∷ sents) statements more seen =
        ask_end seen subset sent.part sent.ask r.limits.patience sents statements (sents_end subset sents statements more)

    statements_end : (statements : List Statement) (seen : List ℕ) → AlwaysEnds (statements_at r t seen statements (next r t))
    statements_end [] seen = closing_end t seen t.work.commit behind_it
    statements_end (s ∷ statements) seen = sents_end (are_subsets (plan_of r s)) (sents_of (plan_of r s)) statements (statements_end statements) seen

  over_end : AlwaysEnds Over
  over_end sync = record { rest = []; syncs = tt; leads = refl }

  works_end : (works : List Work) (ordinal : ℕ) → AlwaysEnds (works_at r ordinal works)
  works_end [] ordinal = over_end
  works_end (work ∷ works) ordinal = statements_end (trying ordinal r.limits.restart work works) (works_end works (ordinal + 1)) work.statements []

  behind_end : (ordinal more : ℕ) (work : Work) (works : List Work) (locked : Bool) → AlwaysEnds (behind r (trying ordinal more work works) locked)
  behind_end ordinal more work works false = works_end works (ordinal + 1)
  behind_end ordinal zero work works true = works_end works (ordinal + 1)
  behind_end ordinal (suc more) work works true = statements_end (trying (ordinal + 1) more work works) (works_end works (ordinal + 1 + 1)) work.statements []

  -- whatever the place
  pub can_end : (p : Place) → AlwaysEnds p
  can_end Over = over_end
  can_end (At t seen (Asks subset part ask repeats sents statements)) =
      let more = works_end t.works (t.ordinal + 1) in
      ask_end t more seen subset part ask repeats sents statements (sents_end t more subset sents statements (statements_end t more statements))
  can_end (At t seen (Prepares part parts floor)) = prepares_end t seen part parts floor (works_end t.works (t.ordinal + 1))
  can_end (At t seen (Stamps floor)) = stamps_end t seen floor (works_end t.works (t.ordinal + 1))
  can_end (At t seen (Closes ask part parts locked)) = by_end t seen ask part parts locked (closes_end t seen ask parts locked (behind_end t.ordinal t.restarts t.work t.works locked))
