use Rattle.std.proofs.Common.{◌≡◌, ◌++◌, drop}
use Rattle.std.specs.Prelude.{flat_map}
use Rattle.statement_printer.specs.Bytes.{bytes_of}
use Rattle.statement_printer.specs.Printing.{session_words}
use Rattle.statement_printer.proofs.script.put_sessions.Given as goal

-- what is missing so far
abbrev pub invariant-loop-works : goal.invariant-loop-works
invariant-loop-works l = l.out.items ++ bytes_of (flat_map (session_words l.tables) (drop l.works-index l.sessions)) ≡ l.fn.out.items ++ bytes_of (flat_map (session_words l.tables) l.sessions)
