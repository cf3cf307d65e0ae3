use Rattle.std.proofs.Common.{◌≡◌, ◌-◌, ◌<◌, IfOk, length, Some, refl, subst, arith}
use Rattle.std.specs.Prelude.{slice_get}
use Rattle.std.proofs.lemmas.Option.{slice_get_read}
use Rattle.partition_cuts.proofs.Steps.{low_at}
use Rattle.partition_cuts.proofs.pieces.low_of.Goals as goal

pub returns-else-part-eq0 : goal.returns-else-part-eq0
returns-else-part-eq0 c =
    let table = c.args.table.now in
    let part = c.args.part in
    let within : part - 1 < length c.items.result.now = rw c.items.ensures (omega (arith, c.requires.part, c.if-part-eq0.false)) in
    let there : slice_get table.firsts (part - 1) ≡ Some c.index-items-part.result = rw (← c.items.ensures) (slice_get_read c.items.result.now _ _ _ refl within c.index-items-part.is) in
    subst (λ k. IfOk c.first_key.result (λ key. key ≡ k)) (low_at table part c.index-items-part.result c.if-part-eq0.false there) c.first_key.ensures
