use Rattle.std.proofs.Common.{◌≡◌, false, ap, sym, ◌∙◌}
use Rattle.std.specs.Cmp.Lexicographic.{slice_cmp}
use Rattle.std.specs.Ordering.{is_eq, nat_cmp}
use Rattle.sql_base.specs.Keys.{key_eq}
use Rattle.statement_plans.proofs.Sents.{select_begins}
use Rattle.statement_plans.proofs.plans.select_in.Goals as goal

pub returns : goal.returns
returns c asker place predicate is code =
    let low = c.args.range.low in
    let compared = c.cmp.ensures ∙ ap (λ a. slice_cmp nat_cmp a c.bytes-2.result.now) c.bytes.ensures ∙ ap (slice_cmp nat_cmp low) c.bytes-2.ensures in
    let differ : key_eq low c.args.range.high ≡ false = sym (c.is_eq.ensures ∙ ap is_eq compared) ∙ c.if-is_eq.false in
    select_begins asker c.args.table.now place c.args.first c.args.range c.args.access predicate c.args.filter c.args.columns c.in_ok-begins.field-0 is code differ c.in_ok-begins.ensures
