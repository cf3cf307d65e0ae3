-- What each session allows of its log is that it is in line.
use Rattle.run_record.specs.declared.records.RunRecord.{RunRecord}
use Rattle.requester_fs.proofs.LinesOfLogs.{if_lines}
use Rattle.step_world.proofs.sessions.drive.Goals as goal

pub returns-clause-in_line : goal.returns-clause-in_line
returns-clause-in_line g c = if_lines (λ (kept : RunRecord). kept.logs) c.args.script.now c.in_ok-sessions.sessions.items c.drive_with.result c.in_ok-sessions.ensures c.drive_with.ensures.allowed
