-- Sessions may go to threads of their own, and what each allows of its log is that it is in line.
use denote.Param.Send.{sendable}
use Rattle.run_record.specs.declared.records.RunRecord.{RunRecord}
use Rattle.requester_fs.proofs.Crossing.{session_send}
use Rattle.requester_fs.proofs.LinesOfLogs.{if_lines}
use Rattle.executor_pool.proofs.runs.run_pool.Goals as goal

pub run_pool_with-requires-send-Q : goal.run_pool_with-requires-send-Q
run_pool_with-requires-send-Q g c κs within = search (session_send, sendable) depth 10

pub returns-clause-in_line : goal.returns-clause-in_line
returns-clause-in_line g c =
    if_lines (λ (kept : RunRecord). kept.logs) c.args.script.now c.in_ok-sessions.sessions.items c.run_pool_with.result c.in_ok-sessions.ensures c.run_pool_with.ensures.allowed
