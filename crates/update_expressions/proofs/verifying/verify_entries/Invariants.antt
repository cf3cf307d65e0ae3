use Rattle.std.proofs.Common.{◌≡◌, ◌-◌, ◌++◌, map}
use Rattle.std.specs.Prelude.{option_map}
use Rattle.predicate_codes.specs.SetLists.{assigns_in}
use Rattle.update_expressions.specs.Entries.{set_in}
use Rattle.update_expressions.proofs.verifying.verify_entries.Given as goal

-- those so far, with what the rest is read as, are what the whole is read as
abbrev pub invariant-loop : goal.invariant-loop
invariant-loop l = option_map (λ rest. map set_in l.sets ++ rest) (assigns_in l.table (l.fn.count - l.counter) l.rest) ≡ assigns_in l.table l.fn.count l.fn.code
