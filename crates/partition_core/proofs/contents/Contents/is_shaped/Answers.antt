use Rattle.std.proofs.Common.{◌&&◌, ap, sym, ◌∙◌}
use Rattle.std.specs.Prelude.{nat_eq}
use Rattle.std.specs.List.{starts_with}
use Rattle.sql_base.specs.Keys.{key_le}
use Rattle.partition_state.specs.Step.{is_key_here}
use Rattle.partition_core.specs.Scaffold.Contents.{parts_of, state_of}
use Rattle.partition_core.proofs.Told.{shaped-both, shaped-high, shaped-low}
use Rattle.partition_core.proofs.contents.Contents.is_shaped.Goals as goal

pub returns-then-not-is_key_here : goal.returns-then-not-is_key_here
returns-then-not-is_key_here c =
    let p = state_of (parts_of c.args.self.now) in
    let range = c.args.range.now in
    let granule = c.args.granule.now in
    shaped-low (is_key_here p range.low) (is_key_here p range.high) (key_le range.low range.high) (starts_with nat_eq range.low granule && starts_with nat_eq range.high granule)
    (ap (is_key_here p) (sym c.bytes.ensures) ∙ sym c.is_key_here.ensures ∙ c.if-not-is_key_here.true)

pub returns-then-not-is_key_here-2 : goal.returns-then-not-is_key_here-2
returns-then-not-is_key_here-2 c =
    let p = state_of (parts_of c.args.self.now) in
    let range = c.args.range.now in
    let granule = c.args.granule.now in
    shaped-high (is_key_here p range.low) (is_key_here p range.high) (key_le range.low range.high) (starts_with nat_eq range.low granule && starts_with nat_eq range.high granule)
    (ap (is_key_here p) (sym c.bytes.ensures) ∙ sym c.is_key_here.ensures ∙ c.if-not-is_key_here.false)
    (ap (is_key_here p) (sym c.bytes-2.ensures) ∙ sym c.is_key_here-2.ensures ∙ c.if-not-is_key_here-2.true)

pub returns : goal.returns
returns c =
    let p = state_of (parts_of c.args.self.now) in
    let range = c.args.range.now in
    let granule = c.args.granule.now in
    c.is_under.ensures
    ∙ shaped-both (is_key_here p range.low) (is_key_here p range.high) (key_le range.low range.high) (starts_with nat_eq range.low granule && starts_with nat_eq range.high granule)
    (ap (is_key_here p) (sym c.bytes.ensures) ∙ sym c.is_key_here.ensures ∙ c.if-not-is_key_here.false)
    (ap (is_key_here p) (sym c.bytes-2.ensures) ∙ sym c.is_key_here-2.ensures ∙ c.if-not-is_key_here-2.false)
