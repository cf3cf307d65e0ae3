use Rattle.std.proofs.Common.{◌≡◌, ◌++◌, ◌∷◌, take}
use Rattle.std.specs.Prelude.{flat_map}
use Rattle.one_thread.specs.Text.{value_text}
use Rattle.sql_base.specs.declared.values.Value.{Value}
use Rattle.one_thread.proofs.printing.words.put_values.Given as goal

-- the values so far
abbrev pub invariant-loop-value : goal.invariant-loop-value
invariant-loop-value l = l.out.items ≡ l.fn.out.items ++ flat_map (λ (value : Value). 0x20 ∷ value_text value) (take l.value-index l.values)
