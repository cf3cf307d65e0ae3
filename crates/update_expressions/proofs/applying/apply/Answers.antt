use Rattle.std.proofs.Common.{◌≡◌, ◌+◌, List, length, map, drop, Some, Ok, Err, refl, ap, sym, subst, ◌∙◌, arith}
use Rattle.std.specs.Prelude.{slice_get, slice_set}
use Rattle.std.specs.List.{AllByRecursion}
use Rattle.std.proofs.lemmas.List.{length-set}
use Rattle.std.proofs.lemmas.Option.{slice_get_read, slice_get_within}
use Rattle.sql_base.proofs.KeyColumns.{are_of_kinds-length}
use Rattle.sql_base.specs.OnRows.{assigned, updated}
use Rattle.sql_base.specs.Rows.{IsRow, kinds}
use Rattle.sql_base.specs.Tables.{AreSets, IsAssign}
use Rattle.sql_base.specs.Val.{val}
use Rattle.sql_base.specs.declared.statements.Assign.{Assign}
use Rattle.sql_base.specs.declared.values.Value.{Value}
use Rattle.predicate_runner.specs.Items.{item_in}
use Rattle.update_expressions.specs.Entries.{set_in}
use Rattle.update_expressions.proofs.Applied.{assigned-faults, assigned-goes, set_at}
use Rattle.update_expressions.proofs.applying.apply.Goals as goal
use Rattle.sql_base.proofs.ListFacts.{all_at}

pub run-requires : goal.run-requires
run-requires c =
    let sets = c.sets-assignments.result.now in
    let given = c.requires in
    let each : AllByRecursion (IsAssign given.0) (map set_in sets) = subst (AllByRecursion (IsAssign given.0)) (sym c.sets-assignments.ensures) given.1.each in
    let assign = all_at (IsAssign given.0) (map set_in sets) c.loop-set.set-index (set_in c.set-item.result) each (set_at sets c.loop-set.set-index c.set-item.result c.loop-set-test.true c.set-item.is) in
    (given.0, assign.1, assign.5, given.2)

pub bounds-old-column : goal.bounds-old-column
bounds-old-column c =
    let sets = c.sets-assignments.result.now in
    let given = c.requires in
    let each : AllByRecursion (IsAssign given.0) (map set_in sets) = subst (AllByRecursion (IsAssign given.0)) (sym c.sets-assignments.ensures) given.1.each in
    let assign = all_at (IsAssign given.0) (map set_in sets) c.loop-set.set-index (set_in c.set-item.result) each (set_at sets c.loop-set.set-index c.set-item.result c.loop-set-test.true c.set-item.is) in
    let within = slice_get_within (kinds given.0) c.set-item.result.column assign.0 assign.2 in
    omega (arith, within, are_of_kinds-length (kinds given.0) c.args.row.now given.2, ap length c.values-old.ensures)

pub returns-in-Err-clause-fault : goal.returns-in-Err-clause-fault
returns-in-Err-clause-fault c = λ fault same table are is_row.
    let sets = c.sets-assignments.result.now in
    let old = c.values-old.result.now in
    let kept : AreSets table (map set_in sets) = subst (AreSets table) (sym c.sets-assignments.ensures) are in
    let is_old : IsRow table old = subst (IsRow table) (sym c.values-old.ensures) is_row in
    let equal : c.in-Err.fault ≡ fault = cc in
    let value : val c.set-item.result.value.tree old ≡ Err fault = ap (val c.set-item.result.value.tree) c.values-old.ensures ∙ sym c.in-Err.ensures ∙ ap Err equal in
    ap (λ (xs : List Assign). updated table xs c.args.row.now) (sym c.sets-assignments.ensures) ∙ ap (updated table (map set_in sets)) (sym c.values-old.ensures)
    ∙ sym (c.loop-set.invariant.1 table kept is_old)
    ∙ assigned-faults table old (map set_in sets) c.loop-set.set-index (set_in c.set-item.result) fault c.loop-set.values.items
    (set_at sets c.loop-set.set-index c.set-item.result c.loop-set-test.true c.set-item.is) value

pub loop-set-preserved : goal.loop-set-preserved
loop-set-preserved c = (
  ap length c.put.ensures ∙ length-set _ _ _ ∙ c.loop-set.invariant.0,
  λ table are is_old.
      let sets = c.sets-assignments.result.now in
      let old = c.values-old.result.now in
      let set = c.set-item.result in
      let there = set_at sets c.loop-set.set-index set c.loop-set-test.true c.set-item.is in
      let assign = all_at (IsAssign table) (map set_in sets) c.loop-set.set-index (set_in set) are.each there in
      let within = slice_get_within (kinds table) set.column assign.0 assign.2 in
      let before : slice_get old set.column ≡ Some c.index-old-column.result = slice_get_read old (length old) set.column c.index-old-column.result refl (omega (arith, within, are_of_kinds-length (kinds table) old is_old)) c.index-old-column.is in
      let value : val set.value.tree old ≡ Ok (item_in c.in-Ok.item) = ap (val set.value.tree) c.values-old.ensures ∙ sym c.in-Ok.ensures in
      ap (λ (new : List Value). assigned table old (drop (c.loop-set.set-index + 1) (map set_in sets)) new) (c.put.ensures ∙ ap (slice_set c.loop-set.values.items set.column) c.in_ok-value_over-in-Ok.ensures)
      ∙ assigned-goes table old is_old (map set_in sets) c.loop-set.set-index (set_in set) (item_in c.in-Ok.item) c.index-old-column.result c.loop-set.values.items there assign value before
      ∙ c.loop-set.invariant.1 table are is_old,
)

pub put-requires : goal.put-requires
put-requires c =
    let sets = c.sets-assignments.result.now in
    let given = c.requires in
    let each : AllByRecursion (IsAssign given.0) (map set_in sets) = subst (AllByRecursion (IsAssign given.0)) (sym c.sets-assignments.ensures) given.1.each in
    let assign = all_at (IsAssign given.0) (map set_in sets) c.loop-set.set-index (set_in c.set-item.result) each (set_at sets c.loop-set.set-index c.set-item.result c.loop-set-test.true c.set-item.is) in
    let within = slice_get_within (kinds given.0) c.set-item.result.column assign.0 assign.2 in
    omega (arith, within, are_of_kinds-length (kinds given.0) c.args.row.now given.2, ap length c.values-old.ensures, c.loop-set.invariant.0)
