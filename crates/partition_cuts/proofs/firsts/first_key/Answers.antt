use Rattle.std.proofs.Common.{◌≡◌, ◌≤◌, ◌++◌, length, Some, ap, sym, ◌∙◌, refl, arith}
use Rattle.std.specs.Prelude.{slice_get}
use Rattle.std.proofs.lemmas.Option.{slice_get_read}
use Rattle.sql_base.specs.Rows.{key_kinds, key_value}
use Rattle.partition_cuts.proofs.firsts.first_key.Goals as goal
use Rattle.sql_base.proofs.RowFacts.{kinds-length, leading-few, literals_more, no_literals}

pub loop-at-init : goal.loop-at-init
loop-at-init c = c.new-key.ensures.items ∙ sym (no_literals (key_kinds c.args.table.now))

pub key_kind-requires-clause-at : goal.key_kind-requires-clause-at
key_kind-requires-clause-at c =
    let table = c.args.table.now in
    let few : length c.values-literals.result.now ≤ length (key_kinds table) = rw c.values-literals.ensures (leading-few (key_kinds table) c.args.first.now c.requires.leading) in
    omega (arith, few, kinds-length table.columns table.key c.requires.key, c.loop-at-test.true)

pub loop-at-preserved : goal.loop-at-preserved
loop-at-preserved c =
    let ks = key_kinds c.args.table.now in
    let vs = c.values-literals.result.now in
    let value : slice_get vs c.loop-at.at ≡ Some c.index-literals-at.result = slice_get_read vs _ _ _ refl c.loop-at-test.true c.index-literals-at.is in
    c.in_ok-append_key_value.ensures ∙ ap (λ bytes. bytes ++ key_value c.key_kind.result c.index-literals-at.result) c.loop-at.invariant
    ∙ sym (literals_more ks vs c.loop-at.at c.key_kind.result c.index-literals-at.result c.key_kind.ensures value)
