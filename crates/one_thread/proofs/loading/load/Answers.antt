use Rattle.std.proofs.Common.{rules, ◌≡◌, ◌<◌, ◌+◌, ◌∷◌, ◌++◌, [], length, map, get_or, ap, sym, ◌∙◌, subst}
use Rattle.one_thread.specs.Scaffold.Loading.{cell_of, Opens}
use Rattle.one_thread.specs.One.{load_rows}
use Rattle.one_thread.proofs.Loaded.{opens}
use Rattle.one_thread.proofs.loading.load.Goals as goal

pub loop-place-preserved : goal.loop-place-preserved
loop-place-preserved c =
    let script = c.args.script.now in
    let i = c.loop-place.place in
    let lt : i < length script.tables = search rules in
    let here : c.table-item.result ≡ get_or script.tables i c.table-item.result = search rules in
    let pushed : c.push.new.self.items ≡ c.loop-place.world.items ++ c.in_ok-load_table.field-0 ∷ [] = search rules in
    subst (Opens script (i + 1)) (sym pushed) (opens script i c.table-item.result c.loop-place.world.items c.in_ok-load_table.field-0 c.requires lt c.loop-place.invariant
    (c.in_ok-load_table.ensures ∙ ap (λ t. map (cell_of t) (load_rows c.items-loads.result.now i)) here ∙ ap (λ ls. map (cell_of (get_or script.tables i c.table-item.result)) (load_rows ls i)) c.items-loads.ensures))
