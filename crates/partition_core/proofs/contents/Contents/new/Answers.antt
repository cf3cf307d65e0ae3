use Rattle.partition_core.proofs.Opened.{IsServing-new}
use Rattle.partition_core.proofs.contents.Contents.new.Goals as goal

pub returns-clause-serving : goal.returns-clause-serving
returns-clause-serving c =
    rw (c.in_ok-new.ensures, c.key_width.ensures, c.in_ok-copy_kinds.ensures, c.in_ok-first_keys.ensures, c.in_ok-copy_rows.ensures, c.in_ok-new_file.ensures, c.new-2.ensures, c.new-3.ensures.items, c.in_ok-new-2.ensures, c.new-5.ensures.items, c.new-6.ensures.items)
    (IsServing-new c.args.table.now c.args.place c.args.limits c.args.rows.now c.requires.table c.requires.limits c.requires.rows)
