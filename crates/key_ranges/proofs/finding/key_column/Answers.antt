use Rattle.key_ranges.proofs.Columns.{column_read}
use Rattle.key_ranges.proofs.finding.key_column.Goals as goal

pub returns : goal.returns
returns c = column_read c.args.table.now c.requires.key c.items.result.now c.items-2.result.now c.args.at c.index-items-place.result c.items.ensures c.items-2.ensures c.requires.at
