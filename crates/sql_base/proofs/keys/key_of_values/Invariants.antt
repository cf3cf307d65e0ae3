use Rattle.std.proofs.Common.{◌≡◌, take}
use Rattle.sql_base.specs.Rows.{chosen, kinds, key_values}
use Rattle.sql_base.proofs.keys.key_of_values.Given as goal

-- the key columns so far are encoded
abbrev pub invariant-loop-column : goal.invariant-loop-column
invariant-loop-column l =
    let places = take l.column-index l.column-items in
    l.key.items ≡ key_values (chosen places (kinds l.table)) (chosen places l.values)
