-- The tables have as many partitions as open.
use Rattle.std.proofs.Common.{List, [], arith, length, length-append, map, refl, ℕ, ◌+◌, ◌∷◌, ◌≡◌}
use Rattle.std.specs.List.{range_with_len}
use Rattle.std.proofs.lemmas.List.{length-map}
use Rattle.std.proofs.lemmas.List.Sums.{sum_by-cons}
use Rattle.sql_base.specs.Scripts.{parts_of}
use Rattle.sql_base.specs.declared.scripts.Limits.{Limits}
use Rattle.sql_base.specs.declared.tables.TableDef.{TableDef}
use Rattle.sql_base.specs.declared.values.Value.{Value}
use Rattle.partition_state.specs.State.{State, opening}
use Rattle.run_record.specs.Openings.{openings_from, rows_in_part}
use Rattle.sql_base.proofs.ListFacts.{range-length}

-- the tables have as many partitions as open
pub openings-length : (limits : Limits) (tables : List TableDef) (rows : List (List (List Value))) → length rows ≡ length tables → length (openings_from limits tables rows) ≡ parts_of tables
openings-length limits [] [] h = refl
openings-length limits [] (row ∷ rows) h = absurd (omega arith)
openings-length limits (table ∷ tables) [] h = absurd (omega arith)
openings-length limits (table ∷ tables) (row ∷ rows) h =
    let rest = openings-length limits tables rows (omega arith) in
    let here : List State = map (λ place. opening table place limits (rows_in_part table place row)) (range_with_len 0 (length table.firsts + 1)) in
    let mapped : length here ≡ length (range_with_len 0 (length table.firsts + 1)) = length-map (range_with_len 0 (length table.firsts + 1)) (λ place. opening table place limits (rows_in_part table place row)) in
    let ranged = range-length (length table.firsts + 1) 0 in
    let both = length-append here (openings_from limits tables rows) in
    let more = sum_by-cons (λ table. length table.firsts + 1) table tables in
    omega arith
