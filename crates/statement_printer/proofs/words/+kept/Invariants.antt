use Rattle.std.proofs.Common.{length}
use Rattle.statement_printer.proofs.words.+kept.Given as goal

abbrev pub decreases-kept : goal.decreases-kept
decreases-kept l = length l.text.now
