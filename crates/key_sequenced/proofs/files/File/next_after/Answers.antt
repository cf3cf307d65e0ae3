use Rattle.sql_base.specs.Keys.{is_from}
use Rattle.key_sequenced.specs.declared.Cell.{Cell}
use Rattle.key_sequenced.proofs.Starts.{first-passing}
use Rattle.key_sequenced.proofs.files.File.next_after.Goals as goal

pub returns : goal.returns
returns c = first-passing (λ (x : Cell). is_from c.args.start.now x.key) c.args.self.now.cells (λ x. x.now) c.next.result c.cells_from.result c.next.new.self c.cells_from.ensures.cells c.next.ensures.steps
