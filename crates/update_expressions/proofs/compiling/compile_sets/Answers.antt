use Rattle.std.proofs.Common.{take, ap, sym, subst, ◌∙◌, arith}
use Rattle.std.proofs.lemmas.List.{length-take-le, drop_all}
use Rattle.sql_base.specs.Tables.{AreSets}
use Rattle.update_expressions.specs.Refusing.{AreTyped, fault_behind}
use Rattle.update_expressions.proofs.Refused.{are_sets}
use Rattle.update_expressions.proofs.Written.{some_bytes}
use Rattle.update_expressions.proofs.compiling.compile_sets.Goals as goal

pub fault_of-requires : goal.fault_of-requires
fault_of-requires c =
    let typed : AreTyped c.args.table.now c.items-sets.result.now = subst (AreTyped c.args.table.now) (sym c.items-sets.ensures) c.requires.sets in
    record { few = omega (arith, typed.code, some_bytes c.items-sets.result.now, c.loop-place-test.true, length-take-le c.loop-place.place c.items-sets.result.now (omega (arith, c.loop-place-test.true))) }

pub sets_code-requires-clause-sets : goal.sets_code-requires-clause-sets
sets_code-requires-clause-sets c =
    let table = c.args.table.now in
    let sets = c.items-sets.result.now in
    let typed : AreTyped table sets = subst (AreTyped table) (sym c.items-sets.ensures) c.requires.sets in
    are_sets table sets typed (sym c.loop-place.invariant ∙ ap (fault_behind table (take c.loop-place.place sets)) (drop_all c.loop-place.place sets c.loop-place-test.false))

pub returns-clause-sets : goal.returns-clause-sets
returns-clause-sets c =
    let table = c.args.table.now in
    let sets = c.items-sets.result.now in
    let typed : AreTyped table sets = subst (AreTyped table) (sym c.items-sets.ensures) c.requires.sets in
    subst (AreSets table) c.items-sets.ensures
    (are_sets table sets typed (sym c.loop-place.invariant ∙ ap (fault_behind table (take c.loop-place.place sets)) (drop_all c.loop-place.place sets c.loop-place-test.false)))
