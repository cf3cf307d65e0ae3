-- Those of the words so far.
use Rattle.std.proofs.Common.{◌≡◌, ◌≤◌, map, string_bytes, take}
use Rattle.std.specs.Prelude.{count_by}
use Rattle.nonstop_sql.specs.Commands.{is_trace}
use Rattle.nonstop_sql.proofs.commands.traces.Given as goal

abbrev pub invariant-loop-word : goal.invariant-loop-word
invariant-loop-word l = (l.count ≡ count_by is_trace (map string_bytes (take l.word-index l.fn.words))) × (l.count ≤ l.word-index)
