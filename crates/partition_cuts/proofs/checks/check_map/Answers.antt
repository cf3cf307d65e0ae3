use Rattle.std.proofs.Common.{◌≡◌, ◌≤◌, ◌+◌, length, drop, Some, true, false, ap, sym, ◌∙◌, refl, arith}
use Rattle.std.specs.Prelude.{slice_get, if◌then◌else◌}
use Rattle.std.proofs.lemmas.Option.{slice_get_read}
use Rattle.sql_base.specs.Keys.{key_lt}
use Rattle.sql_base.specs.Tables.{first_key, first_keys}
use Rattle.partition_map.specs.Map.{least_key}
use Rattle.partition_cuts.specs.Checks.{falls}
use Rattle.partition_cuts.proofs.Falling.{falls_done, falls_more, rise_from}
use Rattle.partition_cuts.proofs.checks.check_map.Goals as goal

pub returns-then-not-is_below-clause-falls : goal.returns-then-not-is_below-clause-falls
returns-then-not-is_below-clause-falls c = λ place e.
    let table = c.args.table.now in
    let i = c.loop-place.place in
    let before = c.loop-place.before in
    let first = c.index-items-place.result in
    let there : slice_get table.firsts i ≡ Some first = rw (← c.items.ensures) (slice_get_read c.items.result.now _ _ _ refl (rw (c.items.ensures, ← c.items-count.ensures) c.loop-place-test.true) c.index-items-place.is) in
    let below : key_lt before (first_key table first) ≡ false = ap (key_lt before) (sym c.in_ok-key.ensures) ∙ sym c.is_below.ensures ∙ c.if-not-is_below.true in
    let same : i ≡ place = cc in
    c.loop-place.invariant ∙ falls_more table i before first there
    ∙ ap (λ b. if b then falls (i + 1) (first_key table first) (drop (i + 1) (first_keys table)) else Some i) below ∙ ap Some same

pub loop-place-preserved : goal.loop-place-preserved
loop-place-preserved c =
    let table = c.args.table.now in
    let i = c.loop-place.place in
    let before = c.loop-place.before in
    let first = c.index-items-place.result in
    let there : slice_get table.firsts i ≡ Some first = rw (← c.items.ensures) (slice_get_read c.items.result.now _ _ _ refl (rw (c.items.ensures, ← c.items-count.ensures) c.loop-place-test.true) c.index-items-place.is) in
    let below : key_lt before (first_key table first) ≡ true = ap (key_lt before) (sym c.in_ok-key.ensures) ∙ sym c.is_below.ensures ∙ c.if-not-is_below.false in
    c.loop-place.invariant ∙ falls_more table i before first there
    ∙ ap (λ b. if b then falls (i + 1) (first_key table first) (drop (i + 1) (first_keys table)) else Some i) below
    ∙ ap (λ k. falls (i + 1) k (drop (i + 1) (first_keys table))) (sym c.in_ok-key.ensures)

pub returns-clause-rise : goal.returns-clause-rise
returns-clause-rise c =
    let table = c.args.table.now in
    let done : length table.firsts ≤ c.loop-place.place = rw (← c.items-count.ensures) (omega (arith, c.loop-place-test.false)) in
    rise_from 0 (least_key table) (first_keys table) (c.loop-place.invariant ∙ falls_done table c.loop-place.place c.loop-place.before done)
