use Rattle.std.proofs.Common.{◌≡◌, ◌++◌, drop, ◌∷◌, List}
use Rattle.std.specs.Prelude.{flat_map}
use Rattle.sql_base.specs.declared.values.Value.{Value}
use Rattle.statement_words.specs.declared.tokens.Sign.TheVariants as signs
use Rattle.statement_printer.specs.Bytes.{bytes_of}
use Rattle.statement_printer.specs.Printing.{row_words, sign}
use Rattle.statement_printer.proofs.tables.put_another_rows.Given as goal

-- what is missing so far
abbrev pub invariant-loop-row : goal.invariant-loop-row
invariant-loop-row l = l.out.items ++ bytes_of (flat_map (λ (x : List Value). sign signs.Comma ∷ row_words x) (drop l.row-index l.rows)) ≡ l.fn.out.items ++ bytes_of (flat_map (λ (x : List Value). sign signs.Comma ∷ row_words x) l.rows)
