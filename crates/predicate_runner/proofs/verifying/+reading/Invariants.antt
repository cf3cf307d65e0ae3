use Rattle.std.proofs.Common.{◌≡◌, ◌+◌, ◌*◌, ◌-◌, length}
use Rattle.predicate_codes.specs.Decoding.{decoded, operand, walk}
use Rattle.predicate_runner.specs.Stepping.{seen}
use Rattle.predicate_runner.proofs.verifying.+reading.Given as goal

abbrev pub decreases-step_right : goal.decreases-step_right
decreases-step_right l = 3 * l.room

abbrev pub decreases-step : goal.decreases-step
decreases-step l = 3 * l.room + 1

abbrev pub decreases-decoded : goal.decreases-decoded
decreases-decoded l = 3 * l.room + 2

-- what the machine still does is what it does with the whole code
abbrev pub invariant-decoded-loop-byte : goal.invariant-decoded-loop-byte
invariant-decoded-loop-byte l = walk (operand l.table l.room) (decoded l.table (l.room - 1)) 0 (seen l.stack.items) l.rest ≡ decoded l.table l.room l.fn.code

abbrev pub decreases-decoded-loop-byte : goal.decreases-decoded-loop-byte
decreases-decoded-loop-byte l = length l.rest
