use Rattle.std.proofs.Common.{◌≡◌, ◌*◌}
use Rattle.script_maker.specs.Making.{after, in_line, loaded_account}
use Rattle.script_maker.proofs.accounts.rows.Given as goal

-- the rows so far, and the draws that they took
abbrev pub invariant-loop-number : goal.invariant-loop-number
invariant-loop-number l = (l.rows ≡ in_line 2 loaded_account l.number l.fn.draws.state) × (l.draws.state ≡ after (2 * l.number) l.fn.draws.state)
