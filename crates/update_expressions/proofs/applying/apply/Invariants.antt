use Rattle.std.proofs.Common.{◌≡◌, drop, length, map}
use Rattle.sql_base.specs.OnRows.{assigned, updated}
use Rattle.sql_base.specs.Rows.{IsRow}
use Rattle.sql_base.specs.Tables.{AreSets}
use Rattle.sql_base.specs.declared.tables.TableDef.{TableDef}
use Rattle.update_expressions.specs.Entries.{set_in}
use Rattle.update_expressions.proofs.applying.apply.Given as goal

-- the row has its length, and what is left makes of it what all make of the old one
abbrev pub invariant-loop-set : goal.invariant-loop-set
invariant-loop-set l =
    (length l.values.items ≡ length l.old)
    × ((table : TableDef) → AreSets table (map set_in l.assignments) → IsRow table l.old → assigned table l.old (drop l.set-index (map set_in l.assignments)) l.values.items ≡ updated table (map set_in l.assignments) l.old)
