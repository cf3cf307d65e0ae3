use Rattle.std.proofs.Common.{◌≡◌, ◌++◌, drop}
use Rattle.std.specs.Prelude.{flat_map}
use Rattle.statement_printer.specs.Bytes.{bytes_of}
use Rattle.statement_printer.specs.Printing.{load_words}
use Rattle.statement_printer.proofs.script.put_loads.Given as goal

-- what is missing so far
abbrev pub invariant-loop-load : goal.invariant-loop-load
invariant-loop-load l = l.out.items ++ bytes_of (flat_map (load_words l.tables) (drop l.load-index l.loads)) ≡ l.fn.out.items ++ bytes_of (flat_map (load_words l.tables) l.loads)
