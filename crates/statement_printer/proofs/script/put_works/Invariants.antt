use Rattle.std.proofs.Common.{◌≡◌, ◌++◌, drop}
use Rattle.std.specs.Prelude.{flat_map}
use Rattle.statement_printer.specs.Bytes.{bytes_of}
use Rattle.statement_printer.specs.Printing.{work_words}
use Rattle.statement_printer.proofs.script.put_works.Given as goal

-- what is missing so far
abbrev pub invariant-loop-work : goal.invariant-loop-work
invariant-loop-work l = l.out.items ++ bytes_of (flat_map (work_words l.tables) (drop l.work-index l.works)) ≡ l.fn.out.items ++ bytes_of (flat_map (work_words l.tables) l.works)
