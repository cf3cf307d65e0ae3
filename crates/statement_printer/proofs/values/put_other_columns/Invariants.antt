use Rattle.std.proofs.Common.{◌≡◌, ◌++◌, drop, ◌∷◌, ℕ}
use Rattle.std.specs.Prelude.{flat_map}
use Rattle.statement_words.specs.declared.tokens.Sign.TheVariants as signs
use Rattle.statement_printer.specs.Bytes.{bytes_of}
use Rattle.statement_printer.specs.Printing.{column_words, sign}
use Rattle.statement_printer.proofs.values.put_other_columns.Given as goal

-- what is missing so far
abbrev pub invariant-loop-place : goal.invariant-loop-place
invariant-loop-place l = l.out.items ++ bytes_of (flat_map (λ (x : ℕ). sign signs.Comma ∷ column_words l.columns x) (drop l.place-index l.places)) ≡ l.fn.out.items ++ bytes_of (flat_map (λ (x : ℕ). sign signs.Comma ∷ column_words l.columns x) l.places)
