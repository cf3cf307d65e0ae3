-- A server serves one message after the other.
use Rattle.std.proofs.Common.{◌≡◌, List, refl, sym, ◌∙◌, subst}
use Rattle.std.proofs.Math.ListN.{get_or}
use Rattle.std.proofs.lemmas.Option.{get_or_from_slice_get}
use Rattle.turn_lock.proofs.Seats.{IsPrefix-refl}
use Rattle.executor_pool.specs.Jobs.{KeepsMail}
use Rattle.executor_pool.specs.Tokens.{IsAt, IsSameServer, Serves}
use Rattle.executor_pool.specs.declared.processes.DiskProcess.{DiskProcess}
use Rattle.executor_pool.specs.declared.tokens.Server.{Server}
use Rattle.executor_pool.proofs.Stepping.{on_after}

-- it has served this process since it began
pub record IsServing (process : DiskProcess) (start now : Server) : Type 0 where
  pub serves : Serves process now
  pub same : IsSameServer start now
  pub keeps : KeepsMail start → KeepsMail now

-- the process that is read for a server is its own
pub its_process : (processes : List DiskProcess) (s : Server) (read : DiskProcess) → IsAt processes s → read ≡ get_or processes s.part read → Serves read s
its_process processes s read at is = subst (λ (d : DiskProcess). Serves d s) (sym (is ∙ get_or_from_slice_get processes s.part at.0 read at.1)) at.2

pub serving_begins : (process : DiskProcess) (s : Server) → Serves process s → IsServing process s s
serving_begins process s serves =
    record {
      serves = serves;
      same = record { part = refl; pass = record { lock = refl; number = refl; root = refl; idle = serves.idle; seen = IsPrefix-refl s.pass.seen }; taker_mail = refl; taker_number = refl };
      keeps = λ keeps. keeps;
    }

pub serving_goes : (process : DiskProcess) (start before after : Server) → IsServing process start before → IsSameServer before after → (KeepsMail before → KeepsMail after) → IsServing process start after
serving_goes process start before after h same keeps =
    record {
      serves = record { lock = same.pass.lock ∙ h.serves.lock; idle = same.pass.idle; takes = same.taker_mail ∙ h.serves.takes };
      same = record {
        part = same.part ∙ h.same.part;
        pass = on_after start.pass before.pass after.pass h.same.pass same.pass;
        taker_mail = same.taker_mail ∙ h.same.taker_mail;
        taker_number = same.taker_number ∙ h.same.taker_number;
      };
      keeps = λ at_start. keeps (h.keeps at_start);
    }
