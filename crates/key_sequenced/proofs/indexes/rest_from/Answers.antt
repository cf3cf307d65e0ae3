use Rattle.std.proofs.Common.{drop, filter, ap, sym, ◌∙◌}
use Rattle.std.specs.List.{prefix_len}
use Rattle.sql_base.specs.Keys.{is_from, key_le, key_lt}
use Rattle.sql_base.specs.declared.key_ranges.Start.{Start}
use Rattle.key_sequenced.specs.declared.Cell.{Cell}
use Rattle.key_sequenced.proofs.Starts.{from-last, from-low}
use Rattle.key_sequenced.proofs.indexes.rest_from.Goals as goal

pub returns-in-At : goal.returns-in-At
returns-in-At c =
    let count = c.count_below.ensures.below ∙ ap (λ k. prefix_len (λ x. key_lt x.key k) c.args.cells.now) c.bytes.ensures in
    c.behind.ensures ∙ ap (λ n. drop n c.args.cells.now) count ∙ from-low c.in-At.key c.args.cells.now c.requires
    ∙ ap (λ (s : Start). filter (λ (x : Cell). is_from s x.key) c.args.cells.now) (sym c.in-At.is)

pub returns-in-After : goal.returns-in-After
returns-in-After c =
    let count = c.count_up_to.ensures.up_to ∙ ap (λ k. prefix_len (λ x. key_le x.key k) c.args.cells.now) c.bytes-in-After.ensures in
    c.behind-in-After.ensures ∙ ap (λ n. drop n c.args.cells.now) count ∙ from-last c.in-After.key c.args.cells.now c.requires
    ∙ ap (λ (s : Start). filter (λ (x : Cell). is_from s x.key) c.args.cells.now) (sym c.in-After.is)
