use Rattle.std.proofs.Common.{◌≡◌, ◌++◌, drop, ◌∷◌}
use Rattle.std.specs.Prelude.{flat_map}
use Rattle.sql_base.specs.declared.values.Value.{Value}
use Rattle.statement_words.specs.declared.tokens.Sign.TheVariants as signs
use Rattle.statement_printer.specs.Bytes.{bytes_of}
use Rattle.statement_printer.specs.Printing.{value_words, sign}
use Rattle.statement_printer.proofs.values.put_another_values.Given as goal

-- what is missing so far
abbrev pub invariant-loop-value : goal.invariant-loop-value
invariant-loop-value l = l.out.items ++ bytes_of (flat_map (λ (x : Value). sign signs.Comma ∷ value_words x) (drop l.value-index l.values)) ≡ l.fn.out.items ++ bytes_of (flat_map (λ (x : Value). sign signs.Comma ∷ value_words x) l.values)
