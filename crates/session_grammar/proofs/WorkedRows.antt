-- Worked rows of logs.
use Rattle.std.proofs.Common.{◌≡◌, ℕ, pos, List, [], ◌∷◌, Option, Some, None, true, refl, ap, sym, subst, inl, inr, lit≤}
use Rattle.std.specs.Prelude.{codes}
use Rattle.sql_base.proofs.Trees.{fold-Number, fold-Column, fold-Compare}
use Rattle.sql_base.specs.Codes.{code_of, sets_code}
use Rattle.sql_base.specs.Rows.{key_value}
use Rattle.range_finder.specs.Range.{Shape, ALiteral, AColumn, shape_step, shape_of_compare, range}
use Rattle.session_grammar.specs.Plans.{Asker, plan_of, begins_in}
use Rattle.session_grammar.specs.declared.plans.Plan.{Plan}
use Rattle.session_grammar.specs.declared.plans.Plan.TheVariants.{Subsets}
use Rattle.session_grammar.specs.Rows.{IsAsked, IsSent}
use Rattle.session_grammar.specs.Follows.{Attempt, IsInLine, InLineBy, FollowsInLine}
use Rattle.sql_base.specs.declared.expressions.ArithOp.TheVariants.{Add}
use Rattle.sql_base.specs.declared.expressions.CompareOp.TheVariants.{Eq}
use Rattle.sql_base.specs.declared.expressions.Expr.{Expr, fold-Expr}
use Rattle.sql_base.specs.declared.expressions.Expr.TheVariants as expr
use Rattle.sql_base.specs.declared.key_ranges.KeyRange.{KeyRange}
use Rattle.sql_base.specs.declared.lock_names.Access.TheVariants.{Repeatable}
use Rattle.sql_base.specs.declared.lock_names.Lock.{Lock}
use Rattle.sql_base.specs.declared.lock_names.Mode.TheVariants.{X}
use Rattle.sql_base.specs.declared.outcomes.Abort.TheVariants.{LockedOut}
use Rattle.sql_base.specs.declared.outcomes.Outcome.TheVariants.{Aborted}
use Rattle.sql_base.specs.declared.scripts.Work.{Work}
use Rattle.sql_base.specs.declared.statements.Assign.{Assign}
use Rattle.sql_base.specs.declared.statements.Statement.{Statement}
use Rattle.sql_base.specs.declared.statements.Statement.TheVariants.{Update}
use Rattle.sql_base.specs.declared.tables.ColumnKind.TheVariants.{Int}
use Rattle.sql_base.specs.declared.tables.TableDef.{TableDef}
use Rattle.sql_base.specs.declared.values.Value.TheVariants as value
use Rattle.dp_messages.specs.declared.replies.Reply.TheVariants as reply
use Rattle.dp_messages.specs.declared.requests.Ask.{Ask}
use Rattle.dp_messages.specs.declared.requests.Ask.TheVariants as ask
use Rattle.session_grammar.specs.declared.logs.Answer.{Answer}
use Rattle.session_grammar.specs.declared.logs.Answer.TheVariants.{Reply}
use Rattle.session_grammar.specs.declared.logs.LogEntry.{LogEntry}
use Rattle.session_grammar.specs.declared.logs.LogEntry.TheVariants.{Asked}

-- a table of two numbers in two partitions, cut at the key 1000, and PATIENCE 1
abbrev table : TableDef
table = record { name = codes "t"; columns = record { name = codes "k"; kind = Int } ∷ record { name = codes "v"; kind = Int } ∷ []; key = 0 ∷ []; checks = []; firsts = (value.Int (pos 1000) ∷ []) ∷ [] }

abbrev session : ℕ → Asker
session number = record { tables = table ∷ []; limits = record { quantum = 50; buffer = 4096; patience = 1; servers = 2; restart = 0 }; number = number }

abbrev key : ℕ → List ℕ
key k = key_value Int (value.Int (pos k))

-- k = n
abbrev named : ℕ → Expr
named n = expr.Compare Eq (expr.Column 0) (expr.Number (pos n))

-- v = v + 1
abbrev sets : List Assign
sets = record { column = 1; value = expr.Arith Add (expr.Column 1) (expr.Number (pos 1)) } ∷ []

abbrev update : ℕ → Statement
update n = Update 0 sets (Some (named n)) Repeatable

abbrev begin : ℕ → Ask
begin n = ask.BeginUpdate Repeatable (key n) (record { low = key n; high = key n }) (Some (code_of (named n))) (sets_code sets)

abbrev asked : ℕ → ℕ → Ask → Answer → LogEntry
asked part sync a answer = Asked part sync (record { ordinal = 1; ask = a }) 0 answer

shape-named : (n : ℕ) → fold-Expr Shape shape_step (named n) ≡ shape_of_compare Eq (AColumn 0) (ALiteral (value.Int (pos n)))
shape-named n = simp (fold-Compare Shape shape_step Eq (expr.Column 0) (expr.Number (pos n)), fold-Column Shape shape_step 0, fold-Number Shape shape_step (pos n)) refl

range-1 : range table (Some (named 1)) ≡ Some (record { low = key 1; high = key 1 })
range-1 = rw (shape-named 1) refl

range-1000 : range table (Some (named 1000)) ≡ Some (record { low = key 1000; high = key 1000 })
range-1000 = rw (shape-named 1000) refl

-- what an update of one key asks
abbrev plan_in : ℕ → Option KeyRange → Plan
plan_in n r = Subsets (begins_in (session 2) table 0 r (λ granule piece. ask.BeginUpdate Repeatable granule piece (Some (code_of (named n))) (sets_code sets)))

plan-1 : plan_of (session 2) (update 1) ≡ Subsets (record { part = 0; ask = begin 1 } ∷ [])
plan-1 = ap (plan_in 1) range-1

plan-1000 : plan_of (session 2) (update 1000) ≡ Subsets (record { part = 1; ask = begin 1000 } ∷ [])
plan-1000 = ap (plan_in 1000) range-1000

-- the second session changes 1000, is locked out at 1 by the first, and is undone in both partitions
abbrev blocker : Lock
blocker = record { holder = record { session = 1; ordinal = 1 }; prefix = key 1; mode = X }

abbrev log : List LogEntry
log = asked 1 1 (begin 1000) (Reply (reply.Ended [] 1)) ∷ asked 0 2 (begin 1) (Reply (reply.Locked blocker)) ∷ asked 0 3 (begin 1) (Reply (reply.Locked blocker))
    ∷ asked 0 4 ask.EndUndo (Reply reply.Done) ∷ asked 1 5 ask.EndUndo (Reply reply.Done) ∷ []

abbrev work : Work
work = record { statements = update 1000 ∷ update 1 ∷ []; commit = true }

abbrev attempt : Attempt
attempt = record {
  work = work;
  ordinal = 1;
  parts = (asked 1 1 (begin 1000) (Reply (reply.Ended [] 1)) ∷ []) ∷ (asked 0 2 (begin 1) (Reply (reply.Locked blocker)) ∷ asked 0 3 (begin 1) (Reply (reply.Locked blocker)) ∷ []) ∷ [];
  ending = asked 0 4 ask.EndUndo (Reply reply.Done) ∷ asked 1 5 ask.EndUndo (Reply reply.Done) ∷ [];
  outcome = Aborted LockedOut;
}

-- an entry without losses, with a reply that fits
sent : (part sync : ℕ) (a : Ask) (answer : Answer) → IsSent a 0 answer → IsAsked part (record { ordinal = 1; ask = a }) answer (asked part sync a answer)
sent part sync a answer h = (refl, refl, refl, h)

first_part : IsInLine (session 2) 1 (update 1000) (asked 1 1 (begin 1000) (Reply (reply.Ended [] 1)) ∷ []) None
first_part =
    subst (λ plan. InLineBy (session 2) 1 plan (asked 1 1 (begin 1000) (Reply (reply.Ended [] 1)) ∷ []) None) (sym plan-1000) (
      ((asked 1 1 (begin 1000) (Reply (reply.Ended [] 1)) ∷ []) ∷ []),
      refl,
      inl (
        (
          ((asked 1 1 (begin 1000) (Reply (reply.Ended [] 1)) ∷ []) ∷ []),
          refl,
          (Reply (reply.Ended [] 1), (sent 1 1 (begin 1000) (Reply (reply.Ended [] 1)) (lit≤ tt, refl), λ h. absurd (cc)), (refl, refl)),
        ),
        refl,
      ),
    )

second_part : IsInLine (session 2) 1 (update 1) (asked 0 2 (begin 1) (Reply (reply.Locked blocker)) ∷ asked 0 3 (begin 1) (Reply (reply.Locked blocker)) ∷ []) (Some LockedOut)
second_part =
    subst (λ plan. InLineBy (session 2) 1 plan (asked 0 2 (begin 1) (Reply (reply.Locked blocker)) ∷ asked 0 3 (begin 1) (Reply (reply.Locked blocker)) ∷ []) (Some LockedOut)) (sym plan-1) (
      ((asked 0 2 (begin 1) (Reply (reply.Locked blocker)) ∷ asked 0 3 (begin 1) (Reply (reply.Locked blocker)) ∷ []) ∷ []),
      refl,
      inr (
        (
          ((asked 0 2 (begin 1) (Reply (reply.Locked blocker)) ∷ asked 0 3 (begin 1) (Reply (reply.Locked blocker)) ∷ []) ∷ []),
          refl,
          (
            Reply (reply.Locked blocker),
            ((blocker, sent 0 2 (begin 1) (Reply (reply.Locked blocker)) (lit≤ tt, refl)), (sent 0 3 (begin 1) (Reply (reply.Locked blocker)) (lit≤ tt, refl), λ h. refl)),
            (refl, refl, refl),
          ),
        ),
        refl,
        refl,
      ),
    )

locked_out : FollowsInLine (session 2) (work ∷ []) log
locked_out = (
  attempt ∷ [],
  record {
    syncs = (refl, (refl, (refl, (refl, (refl, tt)))));
    entries = refl;
    attempts_are = (
      attempt ∷ [],
      [],
      refl,
      (
        record {
          of_work = refl;
          numbered = refl;
          parts_and_ending = (
            Some LockedOut,
            inl (first_part, inr (second_part, refl, refl)),
            ((sent 0 4 ask.EndUndo (Reply reply.Done) (lit≤ tt, refl), (sent 1 5 ask.EndUndo (Reply reply.Done) (lit≤ tt, refl), tt)), refl),
          );
        },
        λ h. refl,
      ),
      refl,
    );
  },
)
