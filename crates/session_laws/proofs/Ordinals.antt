-- A session has no more attempts than its transactions and their restarts allow.
use Rattle.std.proofs.Common.{◌≤◌, ℕ, zero, suc, ◌+◌, List, [], ◌∷◌, length, Bool, true, false, subst, arith}
use Rattle.std.specs.Prelude.{max}
use Rattle.sql_base.specs.declared.scripts.Work.{Work}
use Rattle.sql_base.specs.declared.statements.Statement.{Statement}
use Rattle.dp_messages.specs.declared.replies.Reply.{Reply as PartitionReply}
use Rattle.dp_messages.specs.declared.replies.Reply.TheVariants as reply
use Rattle.dp_messages.specs.declared.requests.Ask.{Ask}
use Rattle.dp_messages.specs.declared.requests.Ask.TheVariants.{EndCommit, EndUndo}
use Rattle.session_grammar.specs.declared.logs.Answer.{Answer}
use Rattle.session_grammar.specs.declared.logs.Answer.TheVariants.{Reply, PathFailed, Stamp}
use Rattle.session_grammar.specs.declared.logs.LogEntry.{LogEntry}
use Rattle.session_grammar.specs.Plans.{Asker, plan_of, sents_of}
use Rattle.session_grammar.specs.declared.plans.Sent.{Sent}
use Rattle.session_laws.specs.Scaffold.Machine.{Asks, At, Closes, Doing, Over, Place, Prepares, Stamps, Trying, after, after_reply, are_subsets, behind, closes_at, closing, in_order, next, prepares_at, see, sents_at, statements_at, trying, undone, went_on, works_at}
use Rattle.session_laws.specs.Scaffold.Leading.{Leads, StandsAt, answer_of}
use Rattle.session_laws.specs.Scaffold.Left.{times}

module _ (r : Asker) (bound : ℕ) where
  -- the attempt, those that may follow it, and all of the transactions behind it
  abbrev pub Fits : Trying → Type 0
  Fits t = t.ordinal + t.restarts + times (length t.works) (r.limits.restart + 1) ≤ bound

  abbrev pub FitsAt : Place → Type 0
  FitsAt (At t seen doing) = Fits t
  FitsAt Over = Unit {0}

  closes_fit : (t : Trying) (seen : List ℕ) (ask : Ask) (parts : List ℕ) (locked : Bool) (p : Place) → Fits t → FitsAt p → FitsAt (closes_at t seen ask parts locked p)
  closes_fit t seen ask [] locked p h k = k
  closes_fit t seen ask (part ∷ parts) locked p h k = h

  prepares_fit : (t : Trying) (seen parts : List ℕ) (floor : ℕ) → Fits t → FitsAt (prepares_at t seen parts floor)
  prepares_fit t seen [] floor h = h
  prepares_fit t seen (part ∷ parts) floor h = h

  closing_fits : (t : Trying) (seen : List ℕ) (commit : Bool) (p : Place) → Fits t → FitsAt p → FitsAt (closing r t seen commit p)
  closing_fits t seen true p h k = prepares_fit t seen (in_order r seen) 0 h
  closing_fits t seen false p h k = closes_fit t seen EndUndo (in_order r seen) false p h k

  sents_fit : (t : Trying) (seen : List ℕ) (subset : Bool) (sents : List Sent) (statements : List Statement) (p : Place) → Fits t → FitsAt p → FitsAt (sents_at r t seen subset sents statements p)
  sents_fit t seen subset [] statements p h k = k
  sents_fit t seen subset (sent ∷ sents) statements p h k = h

  statements_fit : (t : Trying) (seen : List ℕ) (statements : List Statement) (p : Place) → Fits t → FitsAt p → FitsAt (statements_at r t seen statements p)
  statements_fit t seen [] p h k = closing_fits t seen t.work.commit p h k
  statements_fit t seen (s ∷ statements) p h k =
      sents_fit t seen (are_subsets (plan_of r s)) (sents_of (plan_of r s)) statements (statements_at r t seen statements p) h (statements_fit t seen statements p h k)

  pub works_fit : (works : List Work) (ordinal : ℕ) → ordinal + times (length works) (r.limits.restart + 1) ≤ bound + 1 → FitsAt (works_at r ordinal works)
  works_fit [] ordinal h = tt
  works_fit (work ∷ works) ordinal h =
      statements_fit (trying ordinal r.limits.restart work works) [] work.statements (works_at r (ordinal + 1) works) (omega (arith, h)) (works_fit works (ordinal + 1) (omega (arith, h)))

  behind_fits : (ordinal more : ℕ) (work : Work) (works : List Work) (locked : Bool) → Fits (trying ordinal more work works) → FitsAt (behind r (trying ordinal more work works) locked)
  behind_fits ordinal more work works false h = works_fit works (ordinal + 1) (omega (arith, h))
  behind_fits ordinal zero work works true h = works_fit works (ordinal + 1) (omega (arith, h))
  behind_fits ordinal (suc more) work works true h =
      statements_fit (trying (ordinal + 1) more work works) [] work.statements (works_at r (ordinal + 1 + 1) works) (omega (arith, h)) (works_fit works (ordinal + 1 + 1) (omega (arith, h)))

  next_fits : (t : Trying) → Fits t → FitsAt (next r t)
  next_fits t h = works_fit t.works (t.ordinal + 1) (omega (arith, h))

  undone_fits : (t : Trying) (seen : List ℕ) (locked : Bool) → Fits t → FitsAt (undone r t seen locked)
  undone_fits t seen locked h = closes_fit t seen EndUndo (in_order r seen) locked (behind r t locked) h (behind_fits t.ordinal t.restarts t.work t.works locked h)

  went_fits : (t : Trying) (seen : List ℕ) (subset : Bool) (sents : List Sent) (statements : List Statement) → Fits t → FitsAt (went_on r t seen subset sents statements)
  went_fits t seen subset sents statements h =
      sents_fit t seen subset sents statements (statements_at r t seen statements (next r t)) h (statements_fit t seen statements (next r t) h (next_fits t h))

  reply_fits : (t : Trying) (seen : List ℕ) (subset : Bool) (part : ℕ) (ask : Ask) (repeats : ℕ) (sents : List Sent) (statements : List Statement) (x : PartitionReply) → Fits t
      → FitsAt (after_reply r t seen subset part ask repeats sents statements x)
  reply_fits t seen true part ask repeats sents statements (reply.Redrive number last cause rows changed) h = h
  reply_fits t seen false part ask repeats sents statements (reply.Redrive number last cause rows changed) h = went_fits t seen false sents statements h
  reply_fits t seen subset part ask zero sents statements (reply.Locked lock) h = undone_fits t seen true h
  reply_fits t seen subset part ask (suc repeats) sents statements (reply.Locked lock) h = h
  reply_fits t seen subset part ask repeats sents statements (reply.Failed key fault) h = undone_fits t seen false h
  reply_fits t seen subset part ask repeats sents statements (reply.DuplicateKey key) h = undone_fits t seen false h
  reply_fits t seen subset part ask repeats sents statements other h = went_fits t seen subset sents statements h

  after_fits : (p : Place) (answer : Answer) → FitsAt p → FitsAt (after r p answer)
  after_fits (At t seen (Asks subset part ask repeats sents statements)) (Reply x) h = reply_fits t (see part seen) subset part ask repeats sents statements x h
  after_fits (At t seen (Asks subset part ask repeats sents statements)) PathFailed h = undone_fits t (see part seen) false h
  after_fits (At t seen (Asks subset part ask repeats sents statements)) (Stamp stamp) h = went_fits t (see part seen) subset sents statements h
  after_fits (At t seen (Prepares part parts floor)) (Reply (reply.Floor f)) h = prepares_fit t seen parts (max floor f) h
  after_fits (At t seen (Prepares part parts floor)) answer h = undone_fits t seen false h
  after_fits (At t seen (Stamps floor)) (Stamp stamp) h = closes_fit t seen (EndCommit stamp) (in_order r seen) false (next r t) h (next_fits t h)
  after_fits (At t seen (Stamps floor)) answer h = undone_fits t seen false h
  after_fits (At t seen (Closes ask part parts locked)) answer h = closes_fit t seen ask parts locked (behind r t locked) h (behind_fits t.ordinal t.restarts t.work t.works locked h)
  after_fits Over answer h = tt

  leads_fit : (es : List LogEntry) (p q : Place) → FitsAt p → Leads r p es q → FitsAt q
  leads_fit [] p q h led = subst FitsAt led h
  leads_fit (e ∷ es) p q h led = leads_fit es (after r p (answer_of e)) q (after_fits p (answer_of e) h) led.1

-- wherever a session stands
pub few_attempts : (r : Asker) (works : List Work) (log : List LogEntry) (t : Trying) (seen : List ℕ) (doing : Doing) → StandsAt r works log (At t seen doing)
    → t.ordinal + t.restarts + times (length t.works) (r.limits.restart + 1) ≤ times (length works) (r.limits.restart + 1)
few_attempts r works log t seen doing h =
    let all = times (length works) (r.limits.restart + 1) in
    leads_fit r all log (works_at r 1 works) (At t seen doing) (works_fit r all works 1 (omega arith)) h.led
