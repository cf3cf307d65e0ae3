-- What collectors see of a record.
use Rattle.std.specs.Prelude.{ℕ, ◌+◌, List, [], ◌∷◌, ◌++◌, length}
use Rattle.sql_base.specs.declared.faults.Cause.{Cause}
use Rattle.sql_base.specs.declared.faults.Cause.TheVariants.{Visits, Lock, Fault, Buffer}
use Rattle.sql_base.specs.declared.lock_names.Access.{Access}
use Rattle.sql_base.specs.declared.lock_names.Access.TheVariants.{Browse, Stable, Repeatable}
use Rattle.sql_base.specs.declared.lock_names.Mode.{Mode}
use Rattle.sql_base.specs.declared.lock_names.Mode.TheVariants.{S, X}
use Rattle.dp_messages.specs.declared.replies.Reply.{Reply}
use Rattle.dp_messages.specs.declared.replies.Reply.TheVariants as reply
use Rattle.dp_messages.specs.declared.requests.Ask.{Ask}
use Rattle.dp_messages.specs.declared.requests.Ask.TheVariants as ask
use Rattle.outside.specs.declared.collector.Seen.{Seen}
use Rattle.partition_state.specs.declared.entries.Entry.{Entry}
use Rattle.run_record.specs.Tiles.{reply_rows, reply_changed}
use Rattle.run_record.specs.declared.records.RunRecord.{RunRecord}

abbrev pub request_number : Ask → ℕ
request_number (ask.BeginRead access granule range predicate columns) = 1
request_number (ask.BeginUpdate access granule range predicate sets) = 2
request_number (ask.BeginDelete access granule range predicate) = 3
request_number (ask.Continue subset last) = 4
request_number (ask.ReadKey access key predicate columns) = 5
request_number (ask.Insert row) = 6
request_number (ask.LockGranule prefix mode) = 7
request_number ask.Prepare = 8
request_number (ask.EndCommit stamp) = 9
request_number ask.EndUndo = 10

abbrev pub reply_number : Reply → ℕ
reply_number (reply.Ended rows changed) = 1
reply_number (reply.Redrive subset last cause rows changed) = 2
reply_number (reply.Locked lock) = 3
reply_number (reply.Failed key fault) = 4
reply_number (reply.Row row) = 5
reply_number reply.NoRow = 6
reply_number reply.Done = 7
reply_number (reply.Floor floor) = 8
reply_number (reply.DuplicateKey key) = 9
reply_number (reply.AfterEnd ended) = 10
reply_number (reply.AfterPrepare floor) = 11
reply_number (reply.StillLive ordinal) = 12
reply_number reply.NotKnown = 13
reply_number reply.NotPrepared = 14
reply_number (reply.StampLow floor) = 15
reply_number reply.NoSubset = 16
reply_number (reply.WrongKey kept) = 17
reply_number reply.BadCode = 18
reply_number reply.BadShape = 19
reply_number reply.TooManySubsets = 20

abbrev pub cause_number : Cause → ℕ
cause_number Visits = 1
cause_number Lock = 2
cause_number Fault = 3
cause_number Buffer = 4

-- the cause of a redrive, else 0
abbrev pub reply_cause : Reply → ℕ
reply_cause (reply.Redrive subset last cause rows changed) = cause_number cause
reply_cause other = 0

abbrev pub mode_number : Mode → ℕ
mode_number S = 1
mode_number X = 2

abbrev pub under : Access → Mode → ℕ
under Repeatable mode = mode_number mode
under Stable mode = 0
under Browse mode = 0

-- the mode of the lock that a request asks for, else 0
abbrev pub request_mode : Ask → ℕ
request_mode (ask.BeginRead access granule range predicate columns) = under access S
request_mode (ask.BeginUpdate access granule range predicate sets) = under access X
request_mode (ask.BeginDelete access granule range predicate) = under access X
request_mode (ask.ReadKey access key predicate columns) = under access S
request_mode (ask.Insert row) = mode_number X
request_mode (ask.LockGranule prefix mode) = mode_number mode
request_mode other = 0

-- an entry at its place in the history of a partition
abbrev pub seen_entry : ℕ → ℕ → Entry → Seen
seen_entry part place e = record {
  part = part;
  place = place;
  opener = e.opener;
  sync = e.sync;
  ordinal = e.request.ordinal;
  request = request_number e.request.ask;
  reply = reply_number e.reply;
  cause = reply_cause e.reply;
  rows = length (reply_rows e.reply);
  changed = reply_changed e.reply;
  mode = request_mode e.request.ask;
}

abbrev pub seen_from : ℕ → ℕ → List Entry → List Seen
seen_from part place [] = []
seen_from part place (e ∷ es) = seen_entry part place e ∷ seen_from part (place + 1) es

abbrev pub seen_parts : ℕ → List (List Entry) → List Seen
seen_parts part [] = []
seen_parts part (history ∷ rest) = seen_from part 0 history ++ seen_parts (part + 1) rest

-- the entries of all histories, partition by partition
abbrev pub seen : RunRecord → List Seen
seen kept = seen_parts 0 kept.histories
