-- A record of two sessions over three records: the second inserts one and commits, then the first reads all.
use Rattle.std.proofs.Common.{ℕ, ◌*◌, pos, List, [], ◌∷◌, None, true, map}
use Rattle.std.specs.Prelude.{codes}
use Rattle.sql_base.specs.Rows.{packed}
use Rattle.session_grammar.specs.Follows.{Attempt}
use Rattle.sql_base.specs.declared.lock_names.Access.TheVariants.{Repeatable}
use Rattle.sql_base.specs.declared.lock_names.TxnName.{TxnName}
use Rattle.sql_base.specs.declared.outcomes.Outcome.TheVariants.{Committed}
use Rattle.sql_base.specs.declared.scripts.Script.{Script}
use Rattle.sql_base.specs.declared.scripts.Work.{Work}
use Rattle.sql_base.specs.declared.statements.Statement.TheVariants.{Select, Insert}
use Rattle.sql_base.specs.declared.tables.ColumnKind.TheVariants.{Int}
use Rattle.sql_base.specs.declared.tables.TableDef.{TableDef}
use Rattle.sql_base.specs.declared.values.Value.{Value}
use Rattle.sql_base.specs.declared.values.Value.TheVariants as value
use Rattle.commit_journal.specs.declared.Drawn.{Drawn}
use Rattle.dp_messages.specs.declared.replies.Reply.{Reply as PartitionReply}
use Rattle.dp_messages.specs.declared.replies.Reply.TheVariants as reply
use Rattle.dp_messages.specs.declared.requests.Ask.{Ask}
use Rattle.dp_messages.specs.declared.requests.Ask.TheVariants as ask
use Rattle.partition_state.specs.declared.entries.Entry.{Entry}
use Rattle.session_grammar.specs.declared.logs.Answer.TheVariants.{Reply, Stamp}
use Rattle.session_grammar.specs.declared.logs.LogEntry.{LogEntry}
use Rattle.session_grammar.specs.declared.logs.LogEntry.TheVariants.{Asked, Drew}
use Rattle.run_record.specs.declared.records.RunRecord.{RunRecord}

-- a table of two numbers, the first of which is the key
abbrev pub table : TableDef
table = record { name = codes "t"; columns = record { name = codes "k"; kind = Int } ∷ record { name = codes "v"; kind = Int } ∷ []; key = 0 ∷ []; checks = []; firsts = [] }

-- the record of a key, as values and as the bytes of both columns
abbrev pub row : ℕ → List Value
row k = value.Int (pos k) ∷ value.Int (pos (10 * k)) ∷ []

abbrev pub both : ℕ → List ℕ
both k = packed (0 ∷ 1 ∷ []) (row k)

-- the first session reads all, the second inserts 9
abbrev pub reading : Work
reading = record { statements = Select 0 (0 ∷ 1 ∷ []) None Repeatable ∷ []; commit = true }

abbrev pub inserting : Work
inserting = record { statements = Insert 0 (row 9) ∷ []; commit = true }

abbrev pub script : Script
script = record {
  limits = record { quantum = 50; buffer = 4096; patience = 8; servers = 2; restart = 0 };
  tables = table ∷ [];
  loads = record { table = 0; rows = row 1 ∷ row 2 ∷ row 3 ∷ [] } ∷ [];
  sessions = (reading ∷ []) ∷ (inserting ∷ []) ∷ [];
}

-- what the reader asks, and what it is answered
abbrev pub scan : Ask
scan = ask.BeginRead Repeatable [] (record { low = 0 ∷ 0 ∷ 0 ∷ 0 ∷ 0 ∷ 0 ∷ 0 ∷ 0 ∷ []; high = 0xFF ∷ 0xFF ∷ 0xFF ∷ 0xFF ∷ 0xFF ∷ 0xFF ∷ 0xFF ∷ 0xFF ∷ [] }) None (0 ∷ 1 ∷ [])

abbrev pub all_four : PartitionReply
all_four = reply.Ended (both 1 ∷ both 2 ∷ both 3 ∷ both 9 ∷ []) 0

-- an entry of the history, and one of a log, of a session's first attempt
abbrev pub entry : ℕ → ℕ → Ask → PartitionReply → Entry
entry opener sync a r = record { opener = opener; sync = sync; request = record { ordinal = 1; ask = a }; reply = r }

abbrev pub asked : ℕ → Ask → PartitionReply → LogEntry
asked sync a r = Asked 0 sync (record { ordinal = 1; ask = a }) 0 (Reply r)

abbrev pub name : ℕ → TxnName
name session = record { session = session; ordinal = 1 }

-- the writer comes first
abbrev pub history : List Entry
history = entry 2 1 (ask.Insert (both 9)) reply.Done ∷ entry 2 2 ask.Prepare (reply.Floor 0) ∷ entry 2 3 (ask.EndCommit 1) reply.Done
    ∷ entry 1 1 scan all_four ∷ entry 1 2 ask.Prepare (reply.Floor 1) ∷ entry 1 3 (ask.EndCommit 2) reply.Done ∷ []

-- the writer's stamp, and the reader's above it
abbrev pub first_draw : Drawn
first_draw = record { name = name 2; floor = 0; stamp = 1 }

abbrev pub second_draw : Drawn
second_draw = record { name = name 1; floor = 1; stamp = 2 }

-- the attempts of the two
abbrev pub reader : Attempt
reader = record {
  work = reading;
  ordinal = 1;
  parts = (asked 1 scan all_four ∷ []) ∷ [];
  ending = asked 2 ask.Prepare (reply.Floor 1) ∷ Drew (name 1) 1 (Stamp 2) ∷ asked 3 (ask.EndCommit 2) reply.Done ∷ [];
  outcome = Committed 2;
}

abbrev pub writer : Attempt
writer = record {
  work = inserting;
  ordinal = 1;
  parts = (asked 1 (ask.Insert (both 9)) reply.Done ∷ []) ∷ [];
  ending = asked 2 ask.Prepare (reply.Floor 0) ∷ Drew (name 2) 0 (Stamp 1) ∷ asked 3 (ask.EndCommit 1) reply.Done ∷ [];
  outcome = Committed 1;
}

-- the record
abbrev pub kept : RunRecord
kept = record {
  histories = history ∷ [];
  rows = map row (1 ∷ 2 ∷ 3 ∷ 9 ∷ []) ∷ [];
  journal = first_draw ∷ second_draw ∷ [];
  logs = (asked 1 scan all_four ∷ asked 2 ask.Prepare (reply.Floor 1) ∷ Drew (name 1) 1 (Stamp 2) ∷ asked 3 (ask.EndCommit 2) reply.Done ∷ [])
      ∷ (asked 1 (ask.Insert (both 9)) reply.Done ∷ asked 2 ask.Prepare (reply.Floor 0) ∷ Drew (name 2) 0 (Stamp 1) ∷ asked 3 (ask.EndCommit 1) reply.Done ∷ []) ∷ [];
  acts = [];
}
