use Rattle.std.proofs.Common.{◌≡◌, ◌<◌, ◌++◌, length, get_or, All, refl, ap, sym, ◌∙◌, subst, Some}
use Rattle.std.specs.Prelude.{slice_get, option_map}
use Rattle.std.proofs.lemmas.List.{length-map}
use Rattle.std.proofs.lemmas.Option.{slice_get_read, slice_get-map}
use Rattle.sql_base.specs.Rows.{kinds, key_value}
use Rattle.sql_base.specs.declared.tables.Column.{Column}
use Rattle.sql_base.proofs.KeyColumns.{key_values_more}
use Rattle.sql_base.proofs.keys.key_of_values.Goals as goal

pub bounds-values-at : goal.bounds-values-at
bounds-values-at c =
    let places : All (λ p. p < length c.args.table.now.columns) c.items-column-items.result.now = rw c.items-column-items.ensures c.requires.key in
    let within = places c.loop-column.column-index 0 c.loop-column-test.true in
    rw c.values-values.ensures (subst (λ n. get_or c.items-column-items.result.now c.loop-column.column-index 0 < n) (sym c.requires.row) within)

pub loop-column-preserved : goal.loop-column-preserved
loop-column-preserved c =
    let i = c.loop-column.column-index in
    let places = c.items-column-items.result.now in
    let place = get_or places i 0 in
    let table = c.args.table.now in
    let row = c.values-values.result.now in
    let all : All (λ p. p < length table.columns) places = rw c.items-column-items.ensures c.requires.key in
    let within : place < length table.columns = all i 0 c.loop-column-test.true in
    let same : length (kinds table) ≡ length row = length-map table.columns (λ (k : Column). k.kind) ∙ sym (ap length c.values-values.ensures ∙ c.requires.row) in
    let in_row : place < length row = subst (λ n. place < n) (sym (length-map table.columns (λ (k : Column). k.kind)) ∙ same) within in
    let column : slice_get table.columns place ≡ Some c.index-columns-at.result =
    rw (← c.items-columns.ensures) (slice_get_read c.items-columns.result.now _ _ _ refl (rw c.items-columns.ensures within) c.index-columns-at.is) in
    let kind : slice_get (kinds table) place ≡ Some c.index-columns-at.result.kind =
    slice_get-map (λ (k : Column). k.kind) table.columns place ∙ ap (option_map (λ (k : Column). k.kind)) column in
    let there : Column = get_or c.items-columns.result.now place c.index-columns-at.result in
    let kind_there : slice_get (kinds table) place ≡ Some there.kind = kind ∙ ap (λ (k : Column). Some k.kind) c.index-columns-at.is in
    let value : slice_get row place ≡ Some c.index-values-at.result = slice_get_read row _ _ _ refl in_row c.index-values-at.is in
    c.in_ok-append_key_value.ensures ∙ ap (λ bytes. bytes ++ key_value there.kind c.index-values-at.result) c.loop-column.invariant
    ∙ sym (key_values_more (kinds table) row places i place there.kind c.index-values-at.result same c.loop-column-test.true refl kind_there value)
