use Rattle.std.proofs.Common.{◌≡◌, ◌++◌, ◌∷◌, [], take}
use Rattle.std.specs.Prelude.{decimal}
use Rattle.sql_base.specs.declared.outcomes.Given.TheVariants.{Rows}
use Rattle.one_thread.specs.Text.{given_text}
use Rattle.one_thread.proofs.printing.results.put_rows.Given as goal

-- the rows so far
abbrev pub invariant-loop-row : goal.invariant-loop-row
invariant-loop-row l = l.out.items ≡ l.fn.out.items ++ given_text (decimal l.fn.place.session ∷ decimal l.fn.place.ordinal ∷ decimal l.fn.place.statement ∷ []) (Rows l.kinds (take l.row-index l.rows))
