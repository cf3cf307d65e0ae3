-- A job may go to another thread, and what jobs share may be shared.
use denote.RattleType.{RattleType}
use denote.Ref.{NamedLft, ShrRef}
use mathlib.Core.List.{[], ◌∷◌}
use denote.Param.Send.{IsSend, IsSync, sendable}
use denote.Struct.Tuple.{TupleAt}
use mir.Syntax.{Sym}
use Rattle.std.proofs.Crossing.{crosses}
use Rattle.std.specs.contracts.result.Result as Result
use Rattle.sql_base.specs.contracts.faults.NoMemory as NoMemory
use Rattle.turn_lock.proofs.pass.Pass.TheSendSync as pass
use Rattle.turn_lock.proofs.lock.TurnLock.TheSendSync as lock
use Rattle.mail_queue.proofs.mail.Mail.TheSendSync as mail
use Rattle.mail_queue.proofs.mail.Poster.TheSendSync as poster
use Rattle.mail_queue.proofs.mail.Taker.TheSendSync as taker
use Rattle.turn_lock.specs.contracts.lock.TurnLock as TurnLock
use Rattle.turn_lock.specs.declared.stands_for.StandsFor.{Ghosts}
use Rattle.executor_pool.specs.contracts.processes.DiskProcess as DiskProcess
use Rattle.executor_pool.specs.contracts.journals.SharedJournal as SharedJournal
use Rattle.executor_pool.specs.contracts.jobs.Done as Done
use Rattle.executor_pool.specs.contracts.jobs.Job as Job
use Rattle.executor_pool.specs.contracts.tokens.Server as Server
use Rattle.executor_pool.specs.contracts.jobs.Shared as Shared
use Rattle.executor_pool.specs.contracts.sessions.SessionJob as SessionJob
use Rattle.executor_pool.specs.contracts.jobs.Ticket as Ticket
use Rattle.executor_pool.specs.contracts.tokens.Tokens as Tokens
use Rattle.shared_partition.proofs.Crossing.{spelled_send}

tokens_send : IsSend Tokens.the_row
tokens_send = search (spelled_send, pass.the_send, poster.the_send, taker.the_send, crosses, sendable) depth 30

server_field : IsSend (Server.the_field).row
server_field = search (spelled_send, pass.the_send, taker.the_send, crosses, sendable) depth 30

journal_send : IsSend SharedJournal.the_row
journal_send = search (crosses, sendable) depth 30 fits 20000

ticket_field : IsSend (Ticket.the_field).row
ticket_field = search (crosses, sendable) depth 30

session_field : (Q : RattleType) → IsSend Q → IsSend (SessionJob.the_field Q).row
session_field Q s = search (tokens_send, journal_send, pass.the_send, crosses, sendable) depth 30

pub job_send : (Q W : RattleType) → IsSend Q → IsSend W → IsSend (Job.the_row Q W)
job_send Q W s t = search (session_field, ticket_field, server_field, sendable) depth 20

pub done_send : (Q : RattleType) → IsSend Q → IsSend (Done.the_row Q)
done_send Q s = search (session_field, server_field, sendable) depth 20

pub ended_send : (Q : RattleType) → IsSend Q → IsSend (Result.the_row (Done.the_row Q) NoMemory.the_row)
ended_send Q s = search (done_send, crosses, sendable) depth 20

pub process_sync : IsSync DiskProcess.the_row
process_sync = search (spelled_send, lock.the_sync, mail.the_sync, crosses, sendable) depth 30

pub journal_lock_sync : (E R : RattleType) (g : Ghosts (SharedJournal.the_row).Denot E.Denot R.Denot) → IsSync (TurnLock.the_row SharedJournal.the_row E R g)
journal_lock_sync E R g = search (journal_send, lock.the_sync, crosses, sendable) depth 30

pub shared_sync : (a : NamedLft) (G : RattleType) → IsSync G → IsSync (Shared.the_row a G)
shared_sync a G s = search (process_sync, journal_lock_sync, crosses, sendable) depth 40

-- what captures two references crosses as what they lead to does
pub captured_sync : (ν : Sym) (a b : NamedLft) (A B : RattleType) → IsSync A → IsSync B → IsSync (TupleAt ν (ShrRef a.mir a.lft A ∷ ShrRef b.mir b.lft B ∷ []))
captured_sync ν a b A B x y = search sendable depth 20
