use Rattle.std.proofs.Common.{◌≡◌, ◌≤◌, ℕ, ◌+◌, drop}
use Rattle.session_grammar.specs.Follows.{asker}
use Rattle.session_laws.specs.Scaffold.Machine.{works_at}
use Rattle.requester_fs.proofs.walking.Planner.first.Given as goal

-- the transactions passed so far do nothing, and each has its ordinal
abbrev pub invariant-loop-work : goal.invariant-loop-work
invariant-loop-work l =
    (l.next + l.fn.from ≡ l.fn.ordinal + l.work)
    × ((number : ℕ) → works_at (asker l.self.script.now number) l.next (drop l.work l.works) ≡ works_at (asker l.self.script.now number) l.fn.ordinal (drop l.fn.from l.works))
    × (1 ≤ l.next)
