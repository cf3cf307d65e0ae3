use Rattle.std.proofs.Common.{◌≡◌, take}
use Rattle.std.specs.Prelude.{◌==◌, false}
use Rattle.std.specs.List.{list_any}
use Rattle.subset_blocks.proofs.advance.Given as goal

-- nothing has changed, and none of those before has the number
abbrev pub invariant-loop-i : goal.invariant-loop-i
invariant-loop-i g l = record {
  same : l.blocks.items ≡ l.initial.blocks.items;
  before : list_any (λ b. b.number == l.number) (take l.i l.blocks.items) ≡ false;
}
