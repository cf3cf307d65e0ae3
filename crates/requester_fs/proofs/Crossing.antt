-- A session may go to another thread, and a script be shared.
use denote.Param.Send.{IsSend, IsSync, sendable}
use denote.RattleType.{RattleType}
use denote.Ref.{NamedLft}
use Rattle.std.proofs.Crossing.{crosses}
use Rattle.dp_messages.specs.contracts.requests.Request as Request
use Rattle.requester_fs.specs.contracts.sessions.Session as Session
use Rattle.requester_fs.specs.contracts.stages.Stage as Stage
use Rattle.requester_fs.specs.contracts.stages.Stand as Stand
use Rattle.requester_fs.specs.contracts.stages.Turn as Turn
use Rattle.session_grammar.specs.contracts.logs.LogEntry as LogEntry
use Rattle.sql_base.proofs.expressions.Expr.TheLaws.TheKnot as knot
use Rattle.sql_base.specs.contracts.bytes.Name as Name
use Rattle.sql_base.specs.contracts.bytes.Text as Text
use Rattle.sql_base.specs.contracts.expressions.Expr as Expr
use Rattle.sql_base.specs.contracts.lists.List as List
use Rattle.sql_base.specs.contracts.lock_names.Access as Access
use Rattle.sql_base.specs.contracts.lock_names.Mode as Mode
use Rattle.sql_base.specs.contracts.scripts.Limits as Limits
use Rattle.sql_base.specs.contracts.scripts.Load as Load
use Rattle.sql_base.specs.contracts.scripts.Script as Script
use Rattle.sql_base.specs.contracts.scripts.Work as Work
use Rattle.sql_base.specs.contracts.statements.Assign as Assign
use Rattle.sql_base.specs.contracts.statements.Statement as Statement
use Rattle.sql_base.specs.contracts.tables.Column as Column
use Rattle.sql_base.specs.contracts.tables.TableDef as TableDef
use Rattle.sql_base.specs.contracts.values.Row as Row
use Rattle.sql_base.specs.contracts.values.Value as Value

list_sync : (T : RattleType) → IsSync T → IsSync (List.the_row T)
list_sync T s = search (sendable, crosses) depth 20

expr_sync : IsSync Expr.the_row
expr_sync = search (crosses, knot.crosses, sendable) depth 60

value_sync : IsSync Value.the_row
value_sync = search (crosses, sendable) depth 20

row_sync : IsSync Row.the_row
row_sync = search (list_sync, value_sync, sendable) depth 20

name_sync : IsSync Name.the_row
name_sync = search (crosses, sendable) depth 20

column_sync : IsSync Column.the_row
column_sync = search (name_sync, sendable) depth 20

table_sync : IsSync TableDef.the_row
table_sync = search (name_sync, column_sync, row_sync, expr_sync, list_sync, sendable) depth 20

assign_sync : IsSync Assign.the_row
assign_sync = search (knot.crosses, crosses, sendable) depth 60

statement_sync : IsSync Statement.the_row
statement_sync = search (assign_sync, expr_sync, row_sync, list_sync, sendable) depth 20

work_sync : IsSync Work.the_row
work_sync = search (statement_sync, list_sync, sendable) depth 20

load_sync : IsSync Load.the_row
load_sync = search (row_sync, list_sync, sendable) depth 20

pub script_sync : IsSync Script.the_row
script_sync = search (work_sync, load_sync, table_sync, list_sync, sendable) depth 20

request_field : IsSend (Request.the_field).row
request_field = search (crosses, sendable) depth 60 fits 20000

entry_send : IsSend LogEntry.the_row
entry_send = search (crosses, sendable) depth 60 fits 20000

turn_field : IsSend (Turn.the_field).row
turn_field = search (request_field, crosses, sendable) depth 20

stage_field : IsSend (Stage.the_field).row
stage_field = search (request_field, turn_field, crosses, sendable) depth 30

stand_send : IsSend Stand.the_row
stand_send = search (stage_field, crosses, sendable) depth 30

pub session_send : (a : NamedLft) → IsSend (Session.the_row a)
session_send a = search (script_sync, stand_send, entry_send, crosses, sendable) depth 30
