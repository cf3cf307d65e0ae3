-- A partition may go to another thread.
use denote.RattleType.{RattleType}
use denote.Plain.{UInt}
use mir.Syntax.{w32, w64}
use denote.Param.Send.{IsSend, view_send, recorded_send, struct_send, sendable}
use Rattle.std.proofs.Crossing.{crosses}
use Rattle.sql_base.proofs.expressions.Expr.TheLaws.TheKnot as knot
use Rattle.sql_base.specs.contracts.bytes.Key as Key
use Rattle.sql_base.specs.contracts.expressions.Expr as Expr
use Rattle.sql_base.specs.contracts.lists.List as List
use Rattle.sql_base.specs.contracts.tables.TableDef as TableDef
use Rattle.sql_base.specs.contracts.values.Row as Row
use Rattle.key_sequenced.specs.contracts.Cell as Cell
use Rattle.key_sequenced.specs.contracts.files.File as File
use Rattle.lock_tables.specs.contracts.tables.LockTable as LockTable
use Rattle.predicate_runner.specs.contracts.verifying.Verified as Verified
use Rattle.update_expressions.specs.contracts.verifying.VerifiedSet as VerifiedSet
use Rattle.update_expressions.specs.contracts.verifying.VerifiedSets as VerifiedSets
use Rattle.quantum_runner.specs.contracts.stores.Store as Store
use Rattle.quantum_runner.specs.contracts.tables.CheckedTable as CheckedTable
use Rattle.quantum_runner.specs.contracts.works.Task as Task
use Rattle.quantum_runner.specs.contracts.works.Work as Work
use Rattle.subset_blocks.specs.contracts.Numbered as Numbered
use Rattle.sync_messages.specs.contracts.Openers as Openers
use Rattle.dp_messages.specs.contracts.replies.Reply as Reply
use Rattle.dp_messages.specs.contracts.requests.Request as Request
use Rattle.partition_state.specs.contracts.entries.Entry as Entry
use Rattle.partition_core.specs.contracts.contents.Contents as Contents
use Rattle.partition_core.specs.contracts.partitions.Partition as Partition

list_send : (T : RattleType) → IsSend T → IsSend (List.the_row T)
list_send T s = search (crosses, sendable) depth 20

key_send : IsSend Key.the_row
key_send = search (crosses, sendable) depth 20

row_send : IsSend Row.the_row
row_send = search (crosses, sendable) depth 30

table_field : IsSend (TableDef.the_field).row
table_field = search (row_send, list_send, knot.crosses, crosses, sendable) depth 60

cell_send : IsSend Cell.the_row
cell_send = search (key_send, row_send, sendable) depth 20

file_send : IsSend File.the_row
file_send = search (cell_send, crosses, sendable) depth 30

locks_send : IsSend LockTable.the_row
locks_send = search (crosses, sendable) depth 30

store_field : IsSend (Store.the_field).row
store_field = search (file_send, locks_send, sendable) depth 10

verified_send : IsSend Verified.the_row
verified_send = search (knot.crosses, crosses, sendable) depth 60

checked_send : IsSend CheckedTable.the_row
checked_send = search (table_field, verified_send, list_send, sendable) depth 20

set_send : IsSend VerifiedSet.the_row
set_send = search (verified_send, sendable) depth 20

sets_send : IsSend VerifiedSets.the_row
sets_send = search (set_send, list_send, sendable) depth 20

task_field : IsSend (Task.the_field).row
task_field = search (sets_send, list_send, sendable) depth 20

work_send : IsSend Work.the_row
work_send = search (task_field, verified_send, sendable) depth 20

block_send : IsSend (Numbered.the_row Work.the_row)
block_send = search (work_send, key_send, sendable) depth 30

reply_field : IsSend (Reply.the_field).row
reply_field = search (crosses, sendable) depth 60 fits 20000

request_field : IsSend (Request.the_field).row
request_field = search (crosses, sendable) depth 60 fits 20000

entry_send : IsSend Entry.the_row
entry_send = search (request_field, reply_field, sendable) depth 20

contents_field : IsSend (Contents.the_field).row
contents_field = search (checked_send, store_field, block_send, entry_send, row_send, key_send, list_send, crosses, sendable) depth 40

pub partition_send : IsSend Partition.the_row
partition_send = search (contents_field, sendable) depth 10
