use Rattle.partition_core.proofs.firsts.key_kind.Goals as goal
use Rattle.sql_base.proofs.RowFacts.{kind_at}

pub returns : goal.returns
returns c = rw (c.items.ensures, c.items-2.ensures) (kind_at c.args.table.now.columns c.args.table.now.key c.args.at c.index-items-column.result c.requires.key c.requires.at)
