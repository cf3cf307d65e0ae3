use Rattle.std.proofs.Common.{◌≡◌, ◌++◌, [], ◌∷◌, length, take}
use Rattle.std.specs.Prelude.{flat_map}
use Rattle.predicate_codes.proofs.ExactSets.{entry}
use Rattle.update_expressions.proofs.compiling.sets_code.Given as goal

-- the count, and the assignments so far behind it
abbrev pub invariant-loop-set : goal.invariant-loop-set
invariant-loop-set l = l.bytes.items ≡ length l.sets ∷ [] ++ flat_map entry (take l.set-index l.sets)
