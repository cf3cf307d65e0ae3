use Rattle.std.proofs.Common.{◌≡◌, ◌∷◌, [], length, true}
use Rattle.std.specs.Prelude.{All}
use Rattle.sql_base.specs.Tables.{are_leading}
use Rattle.sql_base.specs.declared.tables.ColumnKind.TheVariants.{Int}
use Rattle.worked_rows.proofs.maps.firsts_of.Given as goal

-- as many first keys so far as times that the loop has run
abbrev pub invariant-loop : goal.invariant-loop
invariant-loop l = All (λ first. are_leading (Int ∷ []) first ≡ true) l.firsts
