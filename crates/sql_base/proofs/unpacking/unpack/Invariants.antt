use Rattle.std.proofs.Common.{◌≡◌, ◌++◌, List, drop, length}
use Rattle.std.specs.Prelude.{option_map, sum_by}
use Rattle.sql_base.specs.Rows.{unpacked, width}
use Rattle.sql_base.specs.declared.values.Value.{Value}
use Rattle.sql_base.proofs.unpacking.unpack.Given as goal

-- the rest has the length of the kinds that are left, and the row is the values so far and then those of the rest
abbrev pub invariant-loop-kind : goal.invariant-loop-kind
invariant-loop-kind l = record { room : length l.rest ≡ sum_by width (drop l.kind-index l.kinds); so_far : unpacked l.kinds l.packed ≡ option_map (λ (vs : List Value). l.values ++ vs) (unpacked (drop l.kind-index l.kinds) l.rest) }
