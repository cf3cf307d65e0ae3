use Rattle.one_thread.specs.Scaffold.Loading.{Opens}
use Rattle.one_thread.proofs.loading.load.Given as goal

-- the tables so far
abbrev pub invariant-loop-place : goal.invariant-loop-place
invariant-loop-place l = Opens l.script l.place l.world.items
