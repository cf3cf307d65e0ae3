-- What a session's work gives is what is handed back of its job.
use Rattle.executor_pool.proofs.jobs.work_to_end.Goals as goal

pub returns : goal.returns
returns g c = record {
  goes = c.in_ok-work.ensures.goes;
  later = c.in_ok-work.ensures.later;
  ended = c.in_ok-work.ensures.ended;
  told = λ told was unstopped. (_, c.in_ok-work.ensures.told told was unstopped);
}
