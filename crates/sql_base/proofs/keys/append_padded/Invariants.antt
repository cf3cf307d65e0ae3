use Rattle.std.proofs.Common.{◌≡◌, ◌++◌}
use Rattle.std.specs.Prelude.{replicate}
use Rattle.sql_base.proofs.keys.append_padded.Given as goal

-- the text and the blanks so far stand behind what was there
abbrev pub invariant-loop : goal.invariant-loop
invariant-loop l = l.bytes.items ≡ l.fn.bytes.items ++ l.text ++ replicate l.counter 32
