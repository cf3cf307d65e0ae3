use Rattle.std.proofs.Common.{◌≡◌, ◌≤◌, ◌<◌, ◌+◌, length, Some, ap, sym, ◌∙◌, refl, arith}
use Rattle.std.specs.Prelude.{slice_get}
use Rattle.std.specs.Cmp.Lexicographic.{slice_cmp}
use Rattle.std.specs.Ordering.{is_le, nat_cmp, ordering_then}
use Rattle.std.proofs.lemmas.Option.{slice_get_read}
use Rattle.sql_base.specs.Rows.{key_kinds}
use Rattle.partition_cuts.proofs.Comparing.{compared_at, first-long, literal_at, tail_end, tail_from, tail_wide, wide_at}
use Rattle.partition_cuts.proofs.parts.is_at_most.Goals as goal
use Rattle.sql_base.proofs.RowFacts.{kinds-length, leading-few}

pub loop-at-init : goal.loop-at-init
loop-at-init c = (refl, c.requires.long ∙ sym (first-long c.args.table.now c.args.first.now c.requires.leading))

pub key_kind-kind-requires-clause-at : goal.key_kind-kind-requires-clause-at
key_kind-kind-requires-clause-at c =
    let table = c.args.table.now in
    let few : length c.values-literals.result.now ≤ length (key_kinds table) = rw c.values-literals.ensures (leading-few (key_kinds table) c.args.first.now c.requires.leading) in
    omega (arith, few, kinds-length table.columns table.key c.requires.key, c.loop-at-test.true)

pub compare_literal-requires-clause-literal : goal.compare_literal-requires-clause-literal
compare_literal-requires-clause-literal c =
    let there : slice_get c.args.first.now c.loop-at.at ≡ Some c.index-literals-at.result =
    rw (← c.values-literals.ensures) (slice_get_read c.values-literals.result.now _ _ _ refl c.loop-at-test.true c.index-literals-at.is) in
    literal_at (key_kinds c.args.table.now) c.args.first.now c.loop-at.at c.key_kind-kind.result c.index-literals-at.result c.requires.leading c.key_kind-kind.ensures there

pub returns-in-Less : goal.returns-in-Less
returns-in-Less c =
    let table = c.args.table.now in
    let first = c.args.first.now in
    let at = c.loop-at.at in
    let there : slice_get first at ≡ Some c.index-literals-at.result = rw (← c.values-literals.ensures) (slice_get_read c.values-literals.result.now _ _ _ refl c.loop-at-test.true c.index-literals-at.is) in
    let is = literal_at (key_kinds table) first at c.key_kind-kind.result c.index-literals-at.result c.requires.leading c.key_kind-kind.ensures there in
    sym (c.loop-at.invariant.0
    ∙ compared_at table first at c.key_kind-kind.result c.index-literals-at.result c.loop-at.rest.now c.split_at.result.0.now c.split_at.result.1.now c.compare_literal.result
    is c.key_kind-kind.ensures there (c.split_at.ensures.front_len ∙ c.width_of.ensures) c.split_at.ensures.by_index.0 c.compare_literal.ensures
    ∙ ap (λ o. is_le (ordering_then o (slice_cmp nat_cmp (tail_from table first (at + 1)) c.split_at.result.1.now))) c.in-Less.is)

pub returns-in-Greater : goal.returns-in-Greater
returns-in-Greater c =
    let table = c.args.table.now in
    let first = c.args.first.now in
    let at = c.loop-at.at in
    let there : slice_get first at ≡ Some c.index-literals-at.result = rw (← c.values-literals.ensures) (slice_get_read c.values-literals.result.now _ _ _ refl c.loop-at-test.true c.index-literals-at.is) in
    let is = literal_at (key_kinds table) first at c.key_kind-kind.result c.index-literals-at.result c.requires.leading c.key_kind-kind.ensures there in
    sym (c.loop-at.invariant.0
    ∙ compared_at table first at c.key_kind-kind.result c.index-literals-at.result c.loop-at.rest.now c.split_at.result.0.now c.split_at.result.1.now c.compare_literal.result
    is c.key_kind-kind.ensures there (c.split_at.ensures.front_len ∙ c.width_of.ensures) c.split_at.ensures.by_index.0 c.compare_literal.ensures
    ∙ ap (λ o. is_le (ordering_then o (slice_cmp nat_cmp (tail_from table first (at + 1)) c.split_at.result.1.now))) c.in-Greater.is)

pub loop-at-preserved : goal.loop-at-preserved
loop-at-preserved c =
    let table = c.args.table.now in
    let first = c.args.first.now in
    let at = c.loop-at.at in
    let there : slice_get first at ≡ Some c.index-literals-at.result = rw (← c.values-literals.ensures) (slice_get_read c.values-literals.result.now _ _ _ refl c.loop-at-test.true c.index-literals-at.is) in
    let is = literal_at (key_kinds table) first at c.key_kind-kind.result c.index-literals-at.result c.requires.leading c.key_kind-kind.ensures there in (
      c.loop-at.invariant.0
          ∙ compared_at table first at c.key_kind-kind.result c.index-literals-at.result c.loop-at.rest.now c.split_at.result.0.now c.split_at.result.1.now c.compare_literal.result
          is c.key_kind-kind.ensures there (c.split_at.ensures.front_len ∙ c.width_of.ensures) c.split_at.ensures.by_index.0 c.compare_literal.ensures
          ∙ ap (λ o. is_le (ordering_then o (slice_cmp nat_cmp (tail_from table first (at + 1)) c.split_at.result.1.now))) c.in-Equal.is,
      omega (arith, c.loop-at.invariant.1, tail_wide table first at c.key_kind-kind.result c.index-literals-at.result is c.key_kind-kind.ensures there, c.split_at.ensures.back_len, c.width_of.ensures),
    )

pub split_at-requires : goal.split_at-requires
split_at-requires c =
    let table = c.args.table.now in
    let first = c.args.first.now in
    let at = c.loop-at.at in
    let within : at < length first = rw (← c.values-literals.ensures) c.loop-at-test.true in
    omega (arith, c.loop-at.invariant.1, c.width_of.ensures, wide_at table first at c.key_kind-kind.result c.requires.leading c.key_kind-kind.ensures within)

pub returns : goal.returns
returns c =
    let done : length c.args.first.now ≤ c.loop-at.at = rw (← c.values-literals.ensures) (omega (arith, c.loop-at-test.false)) in
    sym (c.loop-at.invariant.0 ∙ tail_end c.args.table.now c.args.first.now c.loop-at.at c.loop-at.rest.now done c.loop-at.invariant.1)
