use Rattle.std.proofs.Common.{◌≡◌, ◌++◌}
use Rattle.std.specs.Prelude.{replicate}
use Rattle.partition_core.proofs.firsts.append_padded.Given as goal

-- the text and the blanks so far stand behind what was there
abbrev pub invariant-loop : goal.invariant-loop
invariant-loop l = l.key.items ≡ l.fn.key.items ++ l.text ++ replicate l.counter 32
