use Rattle.std.proofs.Common.{◌≡◌, ◌-◌, drop, length}
use Rattle.statement_words.specs.Words.{words_from, words_of}
use Rattle.statement_words.proofs.scan.tokens_of.Given as goal

abbrev pub decreases-loop-at : goal.decreases-loop-at
decreases-loop-at l = length l.text - l.at

abbrev pub invariant-loop-at : goal.invariant-loop-at
invariant-loop-at l = words_from l.at (record { tokens = l.tokens; skip = 0 }) (drop l.at l.text) ≡ words_of l.text
