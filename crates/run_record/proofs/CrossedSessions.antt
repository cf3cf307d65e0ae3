-- A record of two sessions that add 1 to two records in opposite orders: the second is locked out by the first, which commits.
use Rattle.std.proofs.Common.{ℕ, pos, List, [], ◌∷◌, Some, true}
use Rattle.std.specs.Prelude.{codes}
use Rattle.sql_base.specs.Codes.{code_of, sets_code}
use Rattle.sql_base.specs.Rows.{key_value}
use Rattle.sql_base.specs.declared.expressions.ArithOp.TheVariants.{Add}
use Rattle.sql_base.specs.declared.expressions.CompareOp.TheVariants.{Eq}
use Rattle.sql_base.specs.declared.expressions.Expr.{Expr}
use Rattle.sql_base.specs.declared.expressions.Expr.TheVariants as expr
use Rattle.sql_base.specs.declared.lock_names.Access.TheVariants.{Repeatable}
use Rattle.sql_base.specs.declared.lock_names.Lock.{Lock}
use Rattle.sql_base.specs.declared.lock_names.Mode.TheVariants.{X}
use Rattle.sql_base.specs.declared.lock_names.TxnName.{TxnName}
use Rattle.sql_base.specs.declared.outcomes.Abort.TheVariants.{LockedOut}
use Rattle.sql_base.specs.declared.outcomes.Outcome.TheVariants.{Aborted, Committed}
use Rattle.sql_base.specs.declared.scripts.Limits.{Limits}
use Rattle.sql_base.specs.declared.scripts.Script.{Script}
use Rattle.sql_base.specs.declared.scripts.Work.{Work}
use Rattle.sql_base.specs.declared.statements.Assign.{Assign}
use Rattle.sql_base.specs.declared.statements.Statement.{Statement}
use Rattle.sql_base.specs.declared.statements.Statement.TheVariants.{Update}
use Rattle.sql_base.specs.declared.tables.ColumnKind.TheVariants.{Int}
use Rattle.sql_base.specs.declared.tables.TableDef.{TableDef}
use Rattle.sql_base.specs.declared.values.Value.{Value}
use Rattle.sql_base.specs.declared.values.Value.TheVariants as value
use Rattle.commit_journal.specs.declared.Drawn.{Drawn}
use Rattle.dp_messages.specs.declared.replies.Reply.{Reply as PartitionReply}
use Rattle.dp_messages.specs.declared.replies.Reply.TheVariants as reply
use Rattle.dp_messages.specs.declared.requests.Ask.{Ask}
use Rattle.dp_messages.specs.declared.requests.Ask.TheVariants as ask
use Rattle.partition_state.specs.declared.entries.Entry.{Entry}
use Rattle.session_grammar.specs.Follows.{Attempt}
use Rattle.session_grammar.specs.declared.logs.Answer.TheVariants.{Reply, Stamp}
use Rattle.session_grammar.specs.declared.logs.LogEntry.{LogEntry}
use Rattle.session_grammar.specs.declared.logs.LogEntry.TheVariants.{Asked, Drew}
use Rattle.run_record.specs.declared.records.RunRecord.{RunRecord}

-- a table of two numbers in two partitions, cut at the key 1000, and PATIENCE 1
abbrev pub table : TableDef
table = record { name = codes "t"; columns = record { name = codes "k"; kind = Int } ∷ record { name = codes "v"; kind = Int } ∷ []; key = 0 ∷ []; checks = []; firsts = (value.Int (pos 1000) ∷ []) ∷ [] }

abbrev pub limits : Limits
limits = record { quantum = 50; buffer = 4096; patience = 1; servers = 2; restart = 0 }

abbrev pub key : ℕ → List ℕ
key k = key_value Int (value.Int (pos k))

abbrev pub row : ℕ → ℕ → List Value
row k v = value.Int (pos k) ∷ value.Int (pos v) ∷ []

-- k = n
abbrev pub named : ℕ → Expr
named n = expr.Compare Eq (expr.Column 0) (expr.Number (pos n))

-- v = v + 1
abbrev pub sets : List Assign
sets = record { column = 1; value = expr.Arith Add (expr.Column 1) (expr.Number (pos 1)) } ∷ []

abbrev pub update : ℕ → Statement
update n = Update 0 sets (Some (named n)) Repeatable

-- the first session goes up, the second down
abbrev pub upward : Work
upward = record { statements = update 1 ∷ update 1000 ∷ []; commit = true }

abbrev pub downward : Work
downward = record { statements = update 1000 ∷ update 1 ∷ []; commit = true }

abbrev pub script : Script
script = record {
  limits = limits;
  tables = table ∷ [];
  loads = record { table = 0; rows = row 1 10 ∷ row 1000 20 ∷ [] } ∷ [];
  sessions = (upward ∷ []) ∷ (downward ∷ []) ∷ [];
}

-- what they ask, and what they are answered
abbrev pub begin : ℕ → Ask
begin n = ask.BeginUpdate Repeatable (key n) (record { low = key n; high = key n }) (Some (code_of (named n))) (sets_code sets)

abbrev pub changed : PartitionReply
changed = reply.Ended [] 1

abbrev pub name : ℕ → TxnName
name session = record { session = session; ordinal = 1 }

abbrev pub lock : ℕ → ℕ → Lock
lock session k = record { holder = name session; prefix = key k; mode = X }

abbrev pub entry : ℕ → ℕ → Ask → PartitionReply → Entry
entry opener sync a r = record { opener = opener; sync = sync; request = record { ordinal = 1; ask = a }; reply = r }

abbrev pub asked : ℕ → ℕ → Ask → PartitionReply → LogEntry
asked part sync a r = Asked part sync (record { ordinal = 1; ask = a }) 0 (Reply r)

-- below the key 1000 the first session comes first, above it the second
abbrev pub low_history : List Entry
low_history = entry 1 1 (begin 1) changed ∷ entry 2 2 (begin 1) (reply.Locked (lock 1 1)) ∷ entry 2 3 (begin 1) (reply.Locked (lock 1 1)) ∷ entry 2 4 ask.EndUndo reply.Done
    ∷ entry 1 4 ask.Prepare (reply.Floor 0) ∷ entry 1 6 (ask.EndCommit 1) reply.Done ∷ []

abbrev pub high_history : List Entry
high_history = entry 2 1 (begin 1000) changed ∷ entry 1 2 (begin 1000) (reply.Locked (lock 2 1000)) ∷ entry 2 5 ask.EndUndo reply.Done ∷ entry 1 3 (begin 1000) changed
    ∷ entry 1 5 ask.Prepare (reply.Floor 0) ∷ entry 1 7 (ask.EndCommit 1) reply.Done ∷ []

abbrev pub draw : Drawn
draw = record { name = name 1; floor = 0; stamp = 1 }

-- the attempts of the two
abbrev pub committed : Attempt
committed = record {
  work = upward;
  ordinal = 1;
  parts = (asked 0 1 (begin 1) changed ∷ []) ∷ (asked 1 2 (begin 1000) (reply.Locked (lock 2 1000)) ∷ asked 1 3 (begin 1000) changed ∷ []) ∷ [];
  ending = asked 0 4 ask.Prepare (reply.Floor 0) ∷ asked 1 5 ask.Prepare (reply.Floor 0) ∷ Drew (name 1) 0 (Stamp 1)
      ∷ asked 0 6 (ask.EndCommit 1) reply.Done ∷ asked 1 7 (ask.EndCommit 1) reply.Done ∷ [];
  outcome = Committed 1;
}

abbrev pub locked_out : Attempt
locked_out = record {
  work = downward;
  ordinal = 1;
  parts = (asked 1 1 (begin 1000) changed ∷ []) ∷ (asked 0 2 (begin 1) (reply.Locked (lock 1 1)) ∷ asked 0 3 (begin 1) (reply.Locked (lock 1 1)) ∷ []) ∷ [];
  ending = asked 0 4 ask.EndUndo reply.Done ∷ asked 1 5 ask.EndUndo reply.Done ∷ [];
  outcome = Aborted LockedOut;
}

-- their logs
abbrev pub first_log : List LogEntry
first_log = asked 0 1 (begin 1) changed ∷ asked 1 2 (begin 1000) (reply.Locked (lock 2 1000)) ∷ asked 1 3 (begin 1000) changed
    ∷ asked 0 4 ask.Prepare (reply.Floor 0) ∷ asked 1 5 ask.Prepare (reply.Floor 0) ∷ Drew (name 1) 0 (Stamp 1)
    ∷ asked 0 6 (ask.EndCommit 1) reply.Done ∷ asked 1 7 (ask.EndCommit 1) reply.Done ∷ []

abbrev pub second_log : List LogEntry
second_log = asked 1 1 (begin 1000) changed ∷ asked 0 2 (begin 1) (reply.Locked (lock 1 1)) ∷ asked 0 3 (begin 1) (reply.Locked (lock 1 1))
    ∷ asked 0 4 ask.EndUndo reply.Done ∷ asked 1 5 ask.EndUndo reply.Done ∷ []

-- the record
abbrev pub kept : RunRecord
kept = record {
  histories = low_history ∷ high_history ∷ [];
  rows = (row 1 11 ∷ []) ∷ (row 1000 21 ∷ []) ∷ [];
  journal = draw ∷ [];
  logs = first_log ∷ second_log ∷ [];
  acts = [];
}
