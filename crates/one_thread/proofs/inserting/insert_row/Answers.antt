use Rattle.std.proofs.Common.{rules, ◌≡◌, Some, None, refl, ap, sym, ◌∙◌, subst}
use Rattle.sql_base.specs.OnRows.{first_failing}
use Rattle.one_thread.specs.Scaffold.Inserting.{Finds, Inserted}
use Rattle.one_thread.proofs.Spots.{fails_at, filled_at, taken_at}
use Rattle.one_thread.proofs.inserting.insert_row.Goals as goal

pub returns-in-Taken : goal.returns-in-Taken
returns-in-Taken c =
    let cells = c.args.cells.now.items in
    let key = c.in_ok-key.key in
    let found : Finds key cells c.spot_of-spot.result = subst (λ k. Finds k cells c.spot_of-spot.result) c.bytes.ensures (subst (λ cs. Finds c.bytes.result.now cs c.spot_of-spot.result) c.as_slice.ensures.value c.spot_of-spot.ensures) in
    (taken_at c.args.table.now c.args.row.now key cells c.in_ok-key.ensures c.requires.now (subst (Finds key cells) c.in-Taken.is found), refl)

pub returns-in-Some : goal.returns-in-Some
returns-in-Some c =
    let cells = c.args.cells.now.items in
    let key = c.in_ok-key.key in
    let spot = c.spot_of-spot.result in
    let found : Finds key cells spot = subst (λ k. Finds k cells spot) c.bytes.ensures (subst (λ cs. Finds c.bytes.result.now cs spot) c.as_slice.ensures.value c.spot_of-spot.ensures) in
    let fails : first_failing c.args.table.now.checks c.args.row.now ≡ Some c.in-Some.fault = search rules in
    (fails_at c.args.table.now c.args.row.now key cells spot c.in-Some.fault c.in_default.not-Taken c.in_ok-key.ensures c.requires.now found fails, refl)

pub returns : goal.returns
returns c =
    let cells = c.args.cells.now.items in
    let key = c.in_ok-key.key in
    let spot = c.spot_of-spot.result in
    let row = c.args.row.now in
    let found : Finds key cells spot = subst (λ k. Finds k cells spot) c.bytes.ensures (subst (λ cs. Finds c.bytes.result.now cs spot) c.as_slice.ensures.value c.spot_of-spot.ensures) in
    let passes : first_failing c.args.table.now.checks row ≡ None = search rules in
    subst (Inserted c.args.table.now row cells) (sym (c.in_ok-fill.ensures ∙ ap (λ r. Rattle.one_thread.specs.Scaffold.Inserting.filled key r spot cells) c.in_ok-copied.ensures))
    (filled_at c.args.table.now row key cells spot c.in_default.not-Taken c.in_ok-key.ensures c.requires.row c.requires.now found passes)
