use Rattle.std.proofs.Common.{◌≡◌, ◌<◌, length, take, Some, ap, sym, ◌∙◌, arith}
use Rattle.std.specs.Prelude.{slice_get}
use Rattle.std.proofs.lemmas.Option.{slice_get-get_or}
use Rattle.sql_base.specs.Scripts.{parts_of}
use Rattle.sql_base.specs.Tables.{table_of}
use Rattle.statement_plans.proofs.Sents.{plan_is}
use Rattle.statement_plans.proofs.plans.plan.Goals as goal
use Rattle.sql_base.proofs.RowFacts.{parts_within}
use Rattle.sql_base.proofs.ListFacts.{place-within}

pub plan_on-requires-clause-firsts : goal.plan_on-requires-clause-firsts
plan_on-requires-clause-firsts c =
    let tables = c.args.tables.now in
    let place = c.table_of-place.result in
    let table = c.index-tables-place.result in
    let named = c.requires.statement in
    let lt : place < length tables = omega (arith, place-within tables (table_of c.args.statement.now) named.0 named.1, c.table_of-place.ensures) in
    let here : slice_get tables place ≡ Some table = slice_get-get_or tables place table lt ∙ ap Some (sym c.index-tables-place.is) in
    omega (arith, parts_within tables place table here, c.requires.parts)

pub returns : goal.returns
returns c asker is =
    let s = c.args.statement.now in
    let tables = c.args.tables.now in
    let place = c.table_of-place.result in
    let table = c.index-tables-place.result in
    let named = c.requires.statement in
    let lt : place < length tables = omega (arith, place-within tables (table_of s) named.0 named.1, c.table_of-place.ensures) in
    let here : slice_get tables place ≡ Some table = slice_get-get_or tables place table lt ∙ ap Some (sym c.index-tables-place.is) in
    let there : slice_get asker.tables (table_of s) ≡ Some table = ap (λ ts. slice_get ts (table_of s)) is ∙ ap (slice_get tables) (sym c.table_of-place.ensures) ∙ here in
    let first = c.first_part-first.ensures ∙ ap (λ ts. parts_of (take place ts)) (sym is) ∙ ap (λ n. parts_of (take n asker.tables)) c.table_of-place.ensures in
    c.in_ok-plan.ensures asker first ∙ plan_is asker s table there
