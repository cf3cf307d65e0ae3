-- The places of a session that works in line, and where answers lead from them.
use Rattle.std.specs.Prelude.{ℕ, zero, suc, ◌+◌, ◌==◌, List, [], ◌∷◌, filter, max, Bool, true, false, if◌then◌else◌}
use Rattle.std.specs.List.{list_any, range_with_len}
use Rattle.sql_base.specs.Scripts.{parts_of}
use Rattle.sql_base.specs.declared.lock_names.TxnName.{TxnName}
use Rattle.sql_base.specs.declared.scripts.Work.{Work}
use Rattle.sql_base.specs.declared.statements.Statement.{Statement}
use Rattle.dp_messages.specs.declared.replies.Reply.{Reply as PartitionReply}
use Rattle.dp_messages.specs.declared.replies.Reply.TheVariants as reply
use Rattle.dp_messages.specs.declared.requests.Ask.{Ask}
use Rattle.dp_messages.specs.declared.requests.Ask.TheVariants.{Continue, Prepare, EndCommit, EndUndo}
use Rattle.dp_messages.specs.declared.requests.Request.{Request}
use Rattle.session_grammar.specs.declared.logs.Answer.{Answer}
use Rattle.session_grammar.specs.declared.logs.Answer.TheVariants.{Reply, PathFailed, Stamp}
use Rattle.session_grammar.specs.Plans.{Asker, plan_of, sents_of}
use Rattle.session_grammar.specs.declared.plans.Plan.{Plan}
use Rattle.session_grammar.specs.declared.plans.Plan.TheVariants.{Singles, Subsets}
use Rattle.session_grammar.specs.declared.plans.Sent.{Sent}

-- an attempt: its ordinal, how many may follow it, its transaction, and the transactions behind that
pub record Trying : Type 0 where
  pub ordinal : ℕ
  pub restarts : ℕ
  pub work : Work
  pub works : List Work

-- what an attempt does
pub data Doing : Type 0 where
  -- it asks this of a partition, as a subset or not, as often again after Locked; then it takes these requests, and then these statements
  Asks : Bool → ℕ → Ask → ℕ → List Sent → List Statement → Doing
  -- it prepares this partition, then these; so far this is the greatest floor
  Prepares : ℕ → List ℕ → ℕ → Doing
  -- it draws its stamp above the floor
  Stamps : ℕ → Doing
  -- it ends so in this partition, then in these; by a lock or otherwise
  Closes : Ask → ℕ → List ℕ → Bool → Doing

-- where a session stands: in an attempt that has sent something to these partitions, or behind all
pub data Place : Type 0 where
  At : Trying → List ℕ → Doing → Place
  Over : Place

-- what stands open at a place
pub data Task : Type 0 where
  Send : ℕ → Request → Task
  Draw : TxnName → ℕ → Task
  Nothing : Task

abbrev pub asking : ℕ → Ask → Request
asking ordinal ask = record { ordinal = ordinal; ask = ask }

abbrev pub task_of : Asker → ℕ → Doing → Task
task_of r ordinal (Asks subset part ask repeats sents statements) = Send part (asking ordinal ask)
task_of r ordinal (Prepares part parts floor) = Send part (asking ordinal Prepare)
task_of r ordinal (Stamps floor) = Draw (record { session = r.number; ordinal = ordinal }) floor
task_of r ordinal (Closes ask part parts locked) = Send part (asking ordinal ask)

abbrev pub task_at : Asker → Place → Task
task_at r (At t seen doing) = task_of r t.ordinal doing
task_at r Over = Nothing

abbrev pub are_subsets : Plan → Bool
are_subsets (Subsets sents) = true
are_subsets (Singles sents) = false

-- one more partition was sent something
abbrev pub has_seen : List ℕ → ℕ → Bool
has_seen seen part = list_any (λ p. p == part) seen

abbrev pub see : ℕ → List ℕ → List ℕ
see part seen = if has_seen seen part then seen else part ∷ seen

-- those partitions in rising number
abbrev pub in_order : Asker → List ℕ → List ℕ
in_order r seen = filter (has_seen seen) (range_with_len 0 (parts_of r.tables))

-- an end for each of these partitions, and then what is behind them
abbrev pub closes_at : Trying → List ℕ → Ask → List ℕ → Bool → Place → Place
closes_at t seen ask [] locked behind = behind
closes_at t seen ask (part ∷ parts) locked behind = At t seen (Closes ask part parts locked)

abbrev pub prepares_at : Trying → List ℕ → List ℕ → ℕ → Place
prepares_at t seen [] floor = At t seen (Stamps floor)
prepares_at t seen (part ∷ parts) floor = At t seen (Prepares part parts floor)

-- the statements are done: the commit, or the undoing, behind which `next` comes
abbrev pub closing : Asker → Trying → List ℕ → Bool → Place → Place
closing r t seen true next = prepares_at t seen (in_order r seen) 0
closing r t seen false next = closes_at t seen EndUndo (in_order r seen) false next

-- the requests of a statement; where none is left, what is behind them
abbrev pub sents_at : Asker → Trying → List ℕ → Bool → List Sent → List Statement → Place → Place
sents_at r t seen subset [] statements behind = behind
sents_at r t seen subset (sent ∷ sents) statements behind = At t seen (Asks subset sent.part sent.ask r.limits.patience sents statements)

-- the statements, up to the first that asks anything
abbrev pub statements_at : Asker → Trying → List ℕ → List Statement → Place → Place
statements_at r t seen [] next = closing r t seen t.work.commit next
statements_at r t seen (s ∷ statements) next =
    sents_at r t seen (are_subsets (plan_of r s)) (sents_of (plan_of r s)) statements (statements_at r t seen statements next)

abbrev pub trying : ℕ → ℕ → Work → List Work → Trying
trying ordinal restarts work works = record { ordinal = ordinal; restarts = restarts; work = work; works = works }

-- the transactions, from this ordinal on
abbrev pub works_at : Asker → ℕ → List Work → Place
works_at r ordinal [] = Over
works_at r ordinal (work ∷ works) = statements_at r (trying ordinal r.limits.restart work works) [] work.statements (works_at r (ordinal + 1) works)

-- behind an attempt that was the last of its transaction
abbrev pub next : Asker → Trying → Place
next r t = works_at r (t.ordinal + 1) t.works

-- the transaction is tried again
abbrev pub retried : Asker → Trying → ℕ → Place
retried r t zero = next r t
retried r t (suc restarts) =
    statements_at r (trying (t.ordinal + 1) restarts t.work t.works) [] t.work.statements (works_at r (t.ordinal + 1 + 1) t.works)

-- behind an attempt that failed by a lock, or ended otherwise
abbrev pub behind : Asker → Trying → Bool → Place
behind r t true = retried r t t.restarts
behind r t false = next r t

abbrev pub undone : Asker → Trying → List ℕ → Bool → Place
undone r t seen locked = closes_at t seen EndUndo (in_order r seen) locked (behind r t locked)

-- after Locked the same goes out again, or the attempt fails
abbrev pub repeated : Asker → Trying → List ℕ → Bool → ℕ → Ask → ℕ → List Sent → List Statement → Place
repeated r t seen subset part ask zero sents statements = undone r t seen true
repeated r t seen subset part ask (suc repeats) sents statements = At t seen (Asks subset part ask repeats sents statements)

-- a request is done: the next one of its statement, or what is behind that
abbrev pub went_on : Asker → Trying → List ℕ → Bool → List Sent → List Statement → Place
went_on r t seen subset sents statements = sents_at r t seen subset sents statements (statements_at r t seen statements (next r t))

-- a subset goes on behind the last key of a redrive
abbrev pub redriven : Asker → Trying → List ℕ → Bool → ℕ → Ask → List Sent → List Statement → Place
redriven r t seen true part ask sents statements = At t seen (Asks true part ask r.limits.patience sents statements)
redriven r t seen false part ask sents statements = went_on r t seen false sents statements

abbrev pub after_reply : Asker → Trying → List ℕ → Bool → ℕ → Ask → ℕ → List Sent → List Statement → PartitionReply → Place
after_reply r t seen subset part ask repeats sents statements (reply.Redrive number last cause rows changed) =
    redriven r t seen subset part (Continue number last) sents statements
after_reply r t seen subset part ask repeats sents statements (reply.Locked lock) = repeated r t seen subset part ask repeats sents statements
after_reply r t seen subset part ask repeats sents statements (reply.Failed key fault) = undone r t seen false
after_reply r t seen subset part ask repeats sents statements (reply.DuplicateKey key) = undone r t seen false
after_reply r t seen subset part ask repeats sents statements other = went_on r t seen subset sents statements

abbrev pub after_ask : Asker → Trying → List ℕ → Bool → ℕ → Ask → ℕ → List Sent → List Statement → Answer → Place
after_ask r t seen subset part ask repeats sents statements (Reply x) = after_reply r t seen subset part ask repeats sents statements x
after_ask r t seen subset part ask repeats sents statements PathFailed = undone r t seen false
after_ask r t seen subset part ask repeats sents statements (Stamp stamp) = went_on r t seen subset sents statements

abbrev pub after_prepare : Asker → Trying → List ℕ → List ℕ → ℕ → Answer → Place
after_prepare r t seen parts floor (Reply (reply.Floor f)) = prepares_at t seen parts (max floor f)
after_prepare r t seen parts floor answer = undone r t seen false

abbrev pub after_stamp : Asker → Trying → List ℕ → Answer → Place
after_stamp r t seen (Stamp stamp) = closes_at t seen (EndCommit stamp) (in_order r seen) false (next r t)
after_stamp r t seen answer = undone r t seen false

abbrev pub after_doing : Asker → Trying → List ℕ → Doing → Answer → Place
after_doing r t seen (Asks subset part ask repeats sents statements) answer = after_ask r t (see part seen) subset part ask repeats sents statements answer
after_doing r t seen (Prepares part parts floor) answer = after_prepare r t seen parts floor answer
after_doing r t seen (Stamps floor) answer = after_stamp r t seen answer
after_doing r t seen (Closes ask part parts locked) answer = closes_at t seen ask parts locked (behind r t locked)

-- where an answer leads
abbrev pub after : Asker → Place → Answer → Place
after r (At t seen doing) answer = after_doing r t seen doing answer
after r Over answer = Over
