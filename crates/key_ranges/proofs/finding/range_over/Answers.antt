use Rattle.std.proofs.Common.{◌≤◌, ◌+◌, ◌++◌, List, ℕ, length, drop, map, Option, ap, sym, ◌∙◌, arith}
use Rattle.std.specs.Prelude.{option_map, replicate}
use Rattle.range_finder.specs.Range.{key_columns, range_over}
use Rattle.key_ranges.specs.Bounds.{bound_of}
use Rattle.key_ranges.specs.Spans.{behind, in_front, with_kind}
use Rattle.key_ranges.specs.declared.spans.Span.{Span}
use Rattle.key_ranges.proofs.Columns.{all-taken, as_many, front-at, last-span, one-more}
use Rattle.key_ranges.proofs.finding.range_over.Goals as goal

pub returns-in-None : goal.returns-in-None
returns-in-None c =
    let bounds = map bound_of c.args.bounds.now in
    let columns = key_columns c.args.table.now in
    let column = with_kind c.key_column-column.result.place c.key_column-column.result.kind in
    let later = drop (c.loop-at.at + 1) columns in
    sym (ap (option_map (behind c.loop-at.low.items c.loop-at.high.items))
    (front-at bounds columns c.loop-at.at column c.key_column-column.ensures ∙ ap (λ (o : Option Span). in_front o later (range_over bounds later)) (sym c.in_ok-span.ensures ∙ c.in-None.is)))
    ∙ c.loop-at.invariant

pub returns-then-not-span : goal.returns-then-not-span
returns-then-not-span c =
    let bounds = map bound_of c.args.bounds.now in
    let columns = key_columns c.args.table.now in
    let column = with_kind c.key_column-column.result.place c.key_column-column.result.kind in
    let later = drop (c.loop-at.at + 1) columns in
    let low = c.loop-at.low.items in
    let high = c.loop-at.high.items in
    let span = c.in-Some.span in
    last-span low high span later (range_over bounds later) c.range_of.result c.if-not-span.true
    (c.range_of.ensures.low ∙ c.in_ok-fill-in-Some.ensures ∙ ap (λ (bs : List ℕ). bs ++ replicate c.width_from-left.result 0x00) (c.in_ok-extend_from_slice-in-Some.ensures.items ∙ ap (λ (bs : List ℕ). low ++ bs) c.bytes.ensures) ∙ ap (λ n. low ++ span.low ++ replicate n 0x00) c.width_from-left.ensures)
    (c.range_of.ensures.high ∙ c.in_ok-fill-in-Some-2.ensures ∙ ap (λ (bs : List ℕ). bs ++ replicate c.width_from-left.result 0xFF) (c.in_ok-extend_from_slice-in-Some-2.ensures.items ∙ ap (λ (bs : List ℕ). high ++ bs) c.bytes-in-Some.ensures) ∙ ap (λ n. high ++ span.high ++ replicate n 0xFF) c.width_from-left.ensures)
    ∙ sym (ap (option_map (behind low high))
    (front-at bounds columns c.loop-at.at column c.key_column-column.ensures ∙ ap (λ (o : Option Span). in_front o later (range_over bounds later)) (sym c.in_ok-span.ensures ∙ c.in-Some.is)))
    ∙ c.loop-at.invariant

pub loop-at-preserved : goal.loop-at-preserved
loop-at-preserved c =
    let bounds = map bound_of c.args.bounds.now in
    let columns = key_columns c.args.table.now in
    let column = with_kind c.key_column-column.result.place c.key_column-column.result.kind in
    let later = drop (c.loop-at.at + 1) columns in
    let low = c.loop-at.low.items in
    let high = c.loop-at.high.items in
    one-more low high c.extend_from_slice.new.self.items c.extend_from_slice-in-Some.new.self.items c.in-Some.span later (range_over bounds later) c.if-not-span.false
    (c.in_ok-extend_from_slice-in-Some.ensures.items ∙ ap (λ (bs : List ℕ). low ++ bs) c.bytes.ensures)
    (c.in_ok-extend_from_slice-in-Some-2.ensures.items ∙ ap (λ (bs : List ℕ). high ++ bs) c.bytes-in-Some.ensures)
    ∙ sym (ap (option_map (behind low high))
    (front-at bounds columns c.loop-at.at column c.key_column-column.ensures ∙ ap (λ (o : Option Span). in_front o later (range_over bounds later)) (sym c.in_ok-span.ensures ∙ c.in-Some.is)))
    ∙ c.loop-at.invariant

pub returns : goal.returns
returns c =
    let columns = key_columns c.args.table.now in
    let end : length columns ≤ c.loop-at.at = omega (arith, as_many c.args.table.now c.requires.key, c.loop-at-test.false, ap length c.items-count.ensures) in
    all-taken (map bound_of c.args.bounds.now) columns c.loop-at.at c.loop-at.low.items c.loop-at.high.items c.range_of-2.result end c.range_of-2.ensures.low c.range_of-2.ensures.high
    ∙ c.loop-at.invariant
