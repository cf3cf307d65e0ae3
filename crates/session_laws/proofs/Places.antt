-- What stands open at a place goes to a partition that is there.
use Rattle.std.proofs.Common.{◌≤◌, ◌<◌, ℕ, zero, suc, ◌+◌, List, [], ◌∷◌, cond, Bool, true, false, subst, arith}
use Rattle.std.specs.Prelude.{filter, max}
use Rattle.std.specs.List.{AllByRecursion, range_with_len}
use Rattle.sql_base.specs.Scripts.{parts_of}
use Rattle.sql_base.specs.declared.scripts.Work.{Work}
use Rattle.sql_base.specs.declared.statements.Statement.{Statement}
use Rattle.dp_messages.specs.declared.replies.Reply.{Reply as PartitionReply}
use Rattle.dp_messages.specs.declared.replies.Reply.TheVariants as reply
use Rattle.dp_messages.specs.declared.requests.Ask.{Ask}
use Rattle.dp_messages.specs.declared.requests.Ask.TheVariants.{EndCommit, EndUndo}
use Rattle.session_grammar.specs.declared.logs.Answer.{Answer}
use Rattle.session_grammar.specs.declared.logs.Answer.TheVariants.{Reply, PathFailed, Stamp}
use Rattle.session_grammar.specs.declared.logs.LogEntry.{LogEntry}
use Rattle.session_grammar.specs.Plans.{Asker, plan_of, sents_of}
use Rattle.session_grammar.specs.declared.plans.Sent.{Sent}
use Rattle.session_laws.specs.Scaffold.Machine.{Asks, At, Closes, Over, Place, Prepares, Stamps, Trying, after, after_reply, are_subsets, behind, closes_at, closing, has_seen, in_order, next, prepares_at, see, sents_at, statements_at, trying, undone, went_on, works_at}
use Rattle.session_laws.specs.Scaffold.Leading.{Leads, answer_of}
use Rattle.session_laws.proofs.Within.{Rise, plans_rise}

module _ (r : Asker) where
  abbrev There : ℕ → Type 0
  There part = part < parts_of r.tables

  abbrev AreThere : List Sent → Type 0
  AreThere sents = AllByRecursion (λ (sent : Sent). There sent.part) sents

  abbrev pub Within : Place → Type 0
  Within (At t seen (Asks subset part ask repeats sents statements)) = There part × AreThere sents
  Within (At t seen (Prepares part parts floor)) = There part × AllByRecursion There parts
  Within (At t seen (Stamps floor)) = Unit {0}
  Within (At t seen (Closes ask part parts locked)) = There part × AllByRecursion There parts
  Within Over = Unit {0}

  rise_there : (low : ℕ) (sents : List Sent) → Rise low (parts_of r.tables) sents → AreThere sents
  rise_there low [] h = tt
  rise_there low (sent ∷ sents) h = (h.1, rise_there (sent.part + 1) sents h.2)

  some_there : (f : ℕ → Bool) (n a : ℕ) → a + n ≤ parts_of r.tables → AllByRecursion There (filter f (range_with_len a n))
  some_there f zero a le = tt
  some_there f (suc n) a le = by_test (f a) (some_there f n (a + 1) (omega (arith, le)))
    where
      by_test : (b : Bool) → AllByRecursion There (filter f (range_with_len (a + 1) n)) → AllByRecursion There (cond b (a ∷ filter f (range_with_len (a + 1) n)) (filter f (range_with_len (a + 1) n)))
      by_test true rest = (omega (arith, le), rest)
      by_test false rest = rest

  order_there : (seen : List ℕ) → AllByRecursion There (in_order r seen)
  order_there seen = some_there (has_seen seen) (parts_of r.tables) 0 (omega arith)

  closes_there : (t : Trying) (seen : List ℕ) (ask : Ask) (parts : List ℕ) (locked : Bool) (then_at : Place) → AllByRecursion There parts → Within then_at → Within (closes_at t seen ask parts locked then_at)
  closes_there t seen ask [] locked then_at h k = k
  closes_there t seen ask (part ∷ parts) locked then_at h k = h

  prepares_there : (t : Trying) (seen parts : List ℕ) (floor : ℕ) → AllByRecursion There parts → Within (prepares_at t seen parts floor)
  prepares_there t seen [] floor h = tt
  prepares_there t seen (part ∷ parts) floor h = h

  closing_there : (t : Trying) (seen : List ℕ) (commit : Bool) (then_at : Place) → Within then_at → Within (closing r t seen commit then_at)
  closing_there t seen true then_at h = prepares_there t seen (in_order r seen) 0 (order_there seen)
  closing_there t seen false then_at h = closes_there t seen EndUndo (in_order r seen) false then_at (order_there seen) h

  sents_there : (t : Trying) (seen : List ℕ) (subset : Bool) (sents : List Sent) (statements : List Statement) (then_at : Place) → AreThere sents → Within then_at → Within (sents_at r t seen subset sents statements then_at)
  sents_there t seen subset [] statements then_at h k = k
  sents_there t seen subset (sent ∷ sents) statements then_at h k = h

  statements_there : (t : Trying) (seen : List ℕ) (statements : List Statement) (then_at : Place) → Within then_at → Within (statements_at r t seen statements then_at)
  statements_there t seen [] then_at h = closing_there t seen t.work.commit then_at h
  statements_there t seen (s ∷ statements) then_at h =
      sents_there t seen (are_subsets (plan_of r s)) (sents_of (plan_of r s)) statements (statements_at r t seen statements then_at) (rise_there 0 (sents_of (plan_of r s)) (plans_rise r s))
      (statements_there t seen statements then_at h)

  pub works_there : (works : List Work) (ordinal : ℕ) → Within (works_at r ordinal works)
  works_there [] ordinal = tt
  works_there (work ∷ works) ordinal = statements_there (trying ordinal r.limits.restart work works) [] work.statements (works_at r (ordinal + 1) works) (works_there works (ordinal + 1))

  behind_there : (ordinal more : ℕ) (work : Work) (works : List Work) (locked : Bool) → Within (behind r (trying ordinal more work works) locked)
  behind_there ordinal more work works false = works_there works (ordinal + 1)
  behind_there ordinal zero work works true = works_there works (ordinal + 1)
  behind_there ordinal (suc more) work works true =
      statements_there (trying (ordinal + 1) more work works) [] work.statements (works_at r (ordinal + 1 + 1) works) (works_there works (ordinal + 1 + 1))

  undone_there : (t : Trying) (seen : List ℕ) (locked : Bool) → Within (undone r t seen locked)
  undone_there t seen locked = closes_there t seen EndUndo (in_order r seen) locked (behind r t locked) (order_there seen) (behind_there t.ordinal t.restarts t.work t.works locked)

  went_there : (t : Trying) (seen : List ℕ) (subset : Bool) (sents : List Sent) (statements : List Statement) → AreThere sents → Within (went_on r t seen subset sents statements)
  went_there t seen subset sents statements h =
      sents_there t seen subset sents statements (statements_at r t seen statements (next r t)) h (statements_there t seen statements (next r t) (works_there t.works (t.ordinal + 1)))

  reply_there : (t : Trying) (seen : List ℕ) (subset : Bool) (part : ℕ) (ask : Ask) (repeats : ℕ) (sents : List Sent) (statements : List Statement) (x : PartitionReply) → There part → AreThere sents
      → Within (after_reply r t seen subset part ask repeats sents statements x)
  reply_there t seen true part ask repeats sents statements (reply.Redrive number last cause rows changed) h k = (h, k)
  reply_there t seen false part ask repeats sents statements (reply.Redrive number last cause rows changed) h k = went_there t seen false sents statements k
  reply_there t seen subset part ask zero sents statements (reply.Locked lock) h k = undone_there t seen true
  reply_there t seen subset part ask (suc repeats) sents statements (reply.Locked lock) h k = (h, k)
  reply_there t seen subset part ask repeats sents statements (reply.Failed key fault) h k = undone_there t seen false
  reply_there t seen subset part ask repeats sents statements (reply.DuplicateKey key) h k = undone_there t seen false
  reply_there t seen subset part ask repeats sents statements other h k = went_there t seen subset sents statements k

  after_there : (p : Place) (answer : Answer) → Within p → Within (after r p answer)
  after_there (At t seen (Asks subset part ask repeats sents statements)) (Reply x) h = reply_there t (see part seen) subset part ask repeats sents statements x h.0 h.1
  after_there (At t seen (Asks subset part ask repeats sents statements)) PathFailed h = undone_there t (see part seen) false
  after_there (At t seen (Asks subset part ask repeats sents statements)) (Stamp stamp) h = went_there t (see part seen) subset sents statements h.1
  after_there (At t seen (Prepares part parts floor)) (Reply (reply.Floor f)) h = prepares_there t seen parts (max floor f) h.1
  after_there (At t seen (Prepares part parts floor)) answer h = undone_there t seen false
  after_there (At t seen (Stamps floor)) (Stamp stamp) h = closes_there t seen (EndCommit stamp) (in_order r seen) false (next r t) (order_there seen) (works_there t.works (t.ordinal + 1))
  after_there (At t seen (Stamps floor)) answer h = undone_there t seen false
  after_there (At t seen (Closes ask part parts locked)) answer h = closes_there t seen ask parts locked (behind r t locked) h.1 (behind_there t.ordinal t.restarts t.work t.works locked)
  after_there Over answer h = tt

  pub leads_there : (es : List LogEntry) (p q : Place) → Within p → Leads r p es q → Within q
  leads_there [] p q h led = subst Within led h
  leads_there (e ∷ es) p q h led = leads_there es (after r p (answer_of e)) q (after_there p (answer_of e) h) led.1
