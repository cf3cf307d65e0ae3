use Rattle.std.proofs.Common.{◌≡◌, ◌++◌, drop, ◌∷◌}
use Rattle.std.specs.Prelude.{flat_map}
use Rattle.sql_base.specs.declared.statements.Assign.{Assign}
use Rattle.statement_words.specs.declared.tokens.Sign.TheVariants as signs
use Rattle.statement_printer.specs.Bytes.{bytes_of}
use Rattle.statement_printer.specs.Printing.{set_words, sign}
use Rattle.statement_printer.proofs.statements.put_another_sets.Given as goal

-- what is missing so far
abbrev pub invariant-loop-set : goal.invariant-loop-set
invariant-loop-set l = l.out.items ++ bytes_of (flat_map (λ (x : Assign). sign signs.Comma ∷ set_words l.columns x) (drop l.set-index l.sets)) ≡ l.fn.out.items ++ bytes_of (flat_map (λ (x : Assign). sign signs.Comma ∷ set_words l.columns x) l.sets)
