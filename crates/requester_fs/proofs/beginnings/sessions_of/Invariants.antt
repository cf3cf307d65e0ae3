-- So many sessions are made, each at its beginning.
use Rattle.std.proofs.Common.{◌≡◌, suc, length}
use Rattle.requester_fs.specs.Beginnings.{EachAt, IsNew}
use Rattle.requester_fs.proofs.beginnings.sessions_of.Given as goal

abbrev pub invariant-loop-at : goal.invariant-loop-at
invariant-loop-at l = EachAt (λ at s. IsNew l.fn.script (suc at) s) l.sessions.items × (length l.sessions.items ≡ l.at)
