use Rattle.std.proofs.Common.{◌≡◌, ◌<◌, ◌+◌, length, get_or, ap, sym, ◌∙◌, arith}
use Rattle.std.specs.List.{range_with_len}
use Rattle.std.proofs.lemmas.List.{length-map}
use Rattle.std.proofs.lemmas.List.FromFn.{get_or-range_with_len, length-range_with_len}
use Rattle.sql_base.specs.Rows.{kinds, packed}
use Rattle.sql_base.specs.declared.tables.Column.{Column}
use Rattle.sql_base.proofs.KeyColumns.{are_of_kinds-length}
use Rattle.dp_messages.specs.declared.requests.Ask.TheVariants as ask
use Rattle.partition_map.specs.Map.{part_of}
use Rattle.session_grammar.specs.Plans.{all_columns, first_part}
use Rattle.session_grammar.specs.declared.plans.Plan.TheVariants.{Singles}
use Rattle.ranges_laws.proofs.Ranges.{keys_are_keys}
use Rattle.statement_plans.proofs.Sents.{one_sent}
use Rattle.statement_plans.proofs.plans.insert.Goals as goal

pub all_columns-requires : goal.all_columns-requires
all_columns-requires c =
    let row = c.args.row.now in
    let table = c.args.table.now in
    let long : length row ≡ length table.columns = sym (are_of_kinds-length (kinds table) row c.requires.row) ∙ length-map table.columns (λ (k : Column). k.kind) in
    omega (arith, ap length c.values.ensures, long, c.requires.table.columns)

pub pack-requires : goal.pack-requires
pack-requires c k d lt =
    let columns : c.items.result.now ≡ range_with_len 0 (length c.args.row.now) = c.items.ensures ∙ c.in_ok-columns.ensures ∙ ap (λ row. range_with_len 0 (length row)) c.values.ensures in
    let within : k < length c.args.row.now = omega (arith, lt, ap length columns, length-range_with_len 0 (length c.args.row.now)) in
    let here = ap (λ xs. get_or xs k d) columns ∙ get_or-range_with_len 0 (length c.args.row.now) k d within in
    omega (arith, within, here)

pub part_of-requires-clause-long : goal.part_of-requires-clause-long
part_of-requires-clause-long c = ap length c.in_ok-key.ensures ∙ (keys_are_keys c.args.table.now c.args.row.now c.requires.row).0

pub returns : goal.returns
returns c asker place is =
    let table = c.args.table.now in
    let row = c.args.row.now in
    let columns : c.items.result.now ≡ all_columns row = c.items.ensures ∙ c.in_ok-columns.ensures ∙ ap (λ values. range_with_len 0 (length values)) c.values.ensures in
    let part = ap (λ n. n + c.part_of.result) is ∙ ap (λ p. first_part asker place + p) (c.part_of.ensures ∙ ap (part_of table) c.in_ok-key.ensures) in
    let packs = ap ask.Insert (c.in_ok-pack.ensures ∙ ap (λ cs. packed cs row) columns) in
    ap Singles (c.in_ok-one.ensures ∙ one_sent part packs)
