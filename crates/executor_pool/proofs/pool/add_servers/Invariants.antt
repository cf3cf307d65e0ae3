use Rattle.std.proofs.Common.{◌≡◌, ◌++◌, map}
use Rattle.executor_pool.specs.declared.jobs.Job.TheVariants as job
use Rattle.executor_pool.proofs.pool.add_servers.Given as goal

-- the jobs so far
abbrev pub invariant-loop-server : goal.invariant-loop-server
invariant-loop-server g l = l.jobs.items ≡ l.fn.jobs.items ++ map (λ s. job.Server s) l.yielded
