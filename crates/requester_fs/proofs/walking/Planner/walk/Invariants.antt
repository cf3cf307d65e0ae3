use Rattle.std.proofs.Common.{◌≡◌, ◌≤◌, ℕ, List, drop}
use Rattle.session_grammar.specs.Follows.{asker}
use Rattle.session_laws.specs.Scaffold.Machine.{Place, Trying, statements_at}
use Rattle.requester_fs.proofs.walking.Planner.walk.Given as goal

-- the statements passed so far ask nothing
abbrev pub invariant-loop-statement : goal.invariant-loop-statement
invariant-loop-statement l =
    (l.statement ≤ l.statement-end)
    × ((number : ℕ) (t : Trying) (seen : List ℕ) (next : Place)
    → statements_at (asker l.self.script.now number) t seen (drop l.statement l.statements) next ≡ statements_at (asker l.self.script.now number) t seen (drop l.fn.from l.statements) next)
