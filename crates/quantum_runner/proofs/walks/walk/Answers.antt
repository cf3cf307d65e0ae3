use Rattle.std.proofs.Common.{◌≡◌, ◌<◌, ◌∙◌, ◌++◌, ◌∷◌, [], List, append-nil, append_assoc, filter, map, sym, ap, arith, true, false, refl, subst}
use Rattle.std.proofs.lemmas.List.{map-append}
use Rattle.std.specs.Option.{option_copied}
use Rattle.sql_base.specs.Keys.{is_from}
use Rattle.key_sequenced.specs.Cells.{AreCells}
use Rattle.key_sequenced.specs.declared.Cell.{Cell}
use Rattle.key_sequenced.proofs.Rising.{rise-filter}
use Rattle.quantum_core.specs.declared.verdicts.Verdict.TheVariants.{PassedOver}
use Rattle.quantum_runner.specs.Scaffold.Plans.{halted}
use Rattle.quantum_runner.specs.Scaffold.Works.{HoldsRow}
use Rattle.quantum_runner.proofs.Walking.{at_next, end_seen, end_past, from-next, holds-next, if_both, more_next, stop_at_verdict, stop_at_visits, walk_from, IsAt}
use Rattle.quantum_runner.proofs.walks.walk.Goals as goal

pub returns-then-done-limits-clause-walk : goal.returns-then-done-limits-clause-walk
returns-then-done-limits-clause-walk c =
    let done = c.loop-cell.done in
    let seen : List Cell = map (λ x. x.now) c.loop-cell.yielded in
    let from : List Cell = filter (λ c'. is_from c.args.block.now.start c'.key) c.args.file.now.cells in
    let cells : seen ++ c.in-Some.cell.now ∷ c.next.new.self ≡ from = ap (λ cs. seen ++ cs) (sym c.in-Some.ensures.steps) ∙ c.loop-cell.invariant.2 in
    let at : IsAt c.args.limits c.args.table.now c.args.locks.now.locks c.args.block.now (seen ++ c.in-Some.cell.now ∷ c.next.new.self) _ c.in-Some.cell.now done.rows done.room done.visits done.changed done.plans (option_copied c.loop-cell.last) =
    at_next _ _ _ _ _ _ _ _ _ _ _ _ _ (sym c.sees.ensures ∙ c.if-not-sees.false) c.loop-cell.invariant.3 in
    if_both c.stop.result _ _ _
    (λ walk reply plans. walk_from _ _ _ _ c.args.file.now.cells _ cells walk
    (stop_at_visits _ _ _ _ _ _ _ _ _ _ _ _ _ at PassedOver c.if-done-limits.true c.requires.visits walk reply plans))
    c.stop.ensures.reply c.stop.ensures.plans

pub sees-requires-clause-from : goal.sees-requires-clause-from
sees-requires-clause-from c =
    let seen : List Cell = map (λ x. x.now) c.loop-cell.yielded in
    let from : List Cell = filter (λ c'. is_from c.args.block.now.start c'.key) c.args.file.now.cells in
    let cells : seen ++ c.in-Some.cell.now ∷ c.next.new.self ≡ from = ap (λ cs. seen ++ cs) (sym c.in-Some.ensures.steps) ∙ c.loop-cell.invariant.2 in
    from-next (λ c'. is_from c.args.block.now.start c'.key) c.args.file.now.cells seen c.in-Some.cell.now c.next.new.self cells

pub judge-requires-clause-row : goal.judge-requires-clause-row
judge-requires-clause-row c =
    let seen : List Cell = map (λ x. x.now) c.loop-cell.yielded in
    let from : List Cell = filter (λ c'. is_from c.args.block.now.start c'.key) c.args.file.now.cells in
    let cells : seen ++ c.in-Some.cell.now ∷ c.next.new.self ≡ from = ap (λ cs. seen ++ cs) (sym c.in-Some.ensures.steps) ∙ c.loop-cell.invariant.2 in
    holds-next (HoldsRow c.args.table.now) _ c.args.file.now.cells seen c.in-Some.cell.now c.next.new.self c.requires.rows cells

pub returns-in-Some-cause_to_stop-clause-walk : goal.returns-in-Some-cause_to_stop-clause-walk
returns-in-Some-cause_to_stop-clause-walk c =
    let done = c.loop-cell.done in
    let seen : List Cell = map (λ x. x.now) c.loop-cell.yielded in
    let from : List Cell = filter (λ c'. is_from c.args.block.now.start c'.key) c.args.file.now.cells in
    let cells : seen ++ c.in-Some.cell.now ∷ c.next.new.self ≡ from = ap (λ cs. seen ++ cs) (sym c.in-Some.ensures.steps) ∙ c.loop-cell.invariant.2 in
    let at : IsAt c.args.limits c.args.table.now c.args.locks.now.locks c.args.block.now (seen ++ c.in-Some.cell.now ∷ c.next.new.self) _ c.in-Some.cell.now done.rows done.room done.visits done.changed done.plans (option_copied c.loop-cell.last) =
    at_next _ _ _ _ _ _ _ _ _ _ _ _ _ (sym c.sees.ensures ∙ c.if-not-sees.false) c.loop-cell.invariant.3 in
    let lt : done.visits < c.args.limits.quantum = omega (arith, c.loop-cell.invariant.3.within, c.if-done-limits.false) in
    let found = c.in_ok-found.found in
    if_both c.stop-in-Some-cause_to_stop.result _ _ _
    (λ walk reply plans. walk_from _ _ _ _ c.args.file.now.cells _ cells walk
    (stop_at_verdict _ _ _ _ _ _ _ _ _ _ _ _ _ at found c.in_ok-found.ensures lt (λ both. let h : true ≡ false = c.in-Some-cause_to_stop.ensures.goes_on.1 both in cc) walk
    (reply ∙ ap (λ k. halted (option_copied c.loop-cell.last) k (record { key = c.in-Some.cell.now.key; verdict = found }) done.rows done.changed) c.in-Some-cause_to_stop.ensures.why) plans))
    c.stop-in-Some-cause_to_stop.ensures.reply c.stop-in-Some-cause_to_stop.ensures.plans

pub returns-then-is_past-clause-walk : goal.returns-then-is_past-clause-walk
returns-then-is_past-clause-walk c =
    let done = c.loop-cell.done in
    let seen : List Cell = map (λ x. x.now) c.loop-cell.yielded in
    let from : List Cell = filter (λ c'. is_from c.args.block.now.start c'.key) c.args.file.now.cells in
    let cells : seen ++ c.in-Some.cell.now ∷ c.next.new.self ≡ from = ap (λ cs. seen ++ cs) (sym c.in-Some.ensures.steps) ∙ c.loop-cell.invariant.2 in
    let rise : AreCells (seen ++ c.in-Some.cell.now ∷ c.next.new.self) = subst AreCells (sym cells) (rise-filter _ c.args.file.now.cells c.cells_from-cell-items.ensures.order) in
    walk_from _ _ _ _ c.args.file.now.cells _ cells _
    (end_past _ _ _ _ seen c.in-Some.cell.now c.next.new.self done.rows done.room done.visits done.changed done.plans (option_copied c.loop-cell.last) rise (sym c.is_past.ensures ∙ c.if-is_past.true) c.loop-cell.invariant.3 _ c.end.ensures.reply c.end.ensures.plans)

pub loop-cell-preserved : goal.loop-cell-preserved
loop-cell-preserved c =
    let done = c.loop-cell.done in
    let seen : List Cell = map (λ x. x.now) c.loop-cell.yielded in
    let from : List Cell = filter (λ c'. is_from c.args.block.now.start c'.key) c.args.file.now.cells in
    let cells : seen ++ c.in-Some.cell.now ∷ c.next.new.self ≡ from = ap (λ cs. seen ++ cs) (sym c.in-Some.ensures.steps) ∙ c.loop-cell.invariant.2 in
    let at : IsAt c.args.limits c.args.table.now c.args.locks.now.locks c.args.block.now (seen ++ c.in-Some.cell.now ∷ c.next.new.self) _ c.in-Some.cell.now done.rows done.room done.visits done.changed done.plans (option_copied c.loop-cell.last) =
    at_next _ _ _ _ _ _ _ _ _ _ _ _ _ (sym c.sees.ensures ∙ c.if-not-sees.false) c.loop-cell.invariant.3 in
    let lt : done.visits < c.args.limits.quantum = omega (arith, c.loop-cell.invariant.3.within, c.if-done-limits.false) in
    let goes = c.in_default.ensures.goes_on.0 refl in
    let added = c.in_ok-add.ensures in
    let further : map (λ x. x.now) (c.loop-cell.yielded ++ c.in-Some.cell ∷ []) ≡ seen ++ c.in-Some.cell.now ∷ [] = map-append (λ x. x.now) c.loop-cell.yielded (c.in-Some.cell ∷ []) in
    rw (added.rows, added.room, added.visits, added.changed, added.plans, further)
    (tt, tt, append_assoc seen (c.in-Some.cell.now ∷ []) c.next.new.self ∙ cells, more_next _ _ _ _ seen _ c.next.new.self _ _ _ _ _ _ at c.in_ok-found.found c.in_ok-found.ensures goes.0 goes.1 lt)

pub returns-clause-walk : goal.returns-clause-walk
returns-clause-walk c =
    let seen : List Cell = map (λ x. x.now) c.loop-cell.yielded in
    let from : List Cell = filter (λ c'. is_from c.args.block.now.start c'.key) c.args.file.now.cells in
    let cells : seen ≡ from = sym (append-nil seen) ∙ ap (λ cs. seen ++ cs) (sym c.in-None.ensures.steps.0) ∙ c.loop-cell.invariant.2 in
    walk_from _ _ _ _ c.args.file.now.cells _ cells _
    (end_seen c.args.limits c.args.table.now c.args.locks.now.locks c.args.block.now seen _ _ _ _ _ _ c.loop-cell.invariant.3 _ c.end-2.ensures.reply c.end-2.ensures.plans)
