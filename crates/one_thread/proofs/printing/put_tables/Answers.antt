use Rattle.std.proofs.Common.{◌≡◌, length, rules}
use Rattle.std.specs.Iterator.Adapters.{zip_first, zip_second}
use Rattle.std.specs.Slice.Iter.{iter_rest}
use Rattle.std.proofs.lemmas.Slice.Zip.{zip_end}
use Rattle.one_thread.proofs.Tables.{ended, whole}
use Rattle.one_thread.proofs.printing.put_tables.Goals as goal

pub returns : goal.returns
returns c =
    let first : iter_rest (zip_first c.into_iter-table-iterator.result) ≡ c.args.tables.now = search rules in
    let second : iter_rest (zip_second c.into_iter-table-iterator.result) ≡ c.args.records.now = search rules in
    let n = zip_end c.args.tables.now c.args.records.now c.loop-table.yielded c.into_iter-table-iterator.result c.loop-table.table-iterator c.next.new.self c.next.result first second c.loop-table.yielded_by c.in-None.is c.next.ensures.steps in
    whole _ _ _ _ (ended c.args.tables.now c.args.records.now (length c.loop-table.yielded) n) c.loop-table.invariant
