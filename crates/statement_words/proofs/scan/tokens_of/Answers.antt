use Rattle.statement_words.specs.Words.{words_of}
use Rattle.statement_words.proofs.WordsLoop.{words_taken}
use Rattle.statement_words.proofs.scan.tokens_of.Goals as goal

pub loop-at-preserved : goal.loop-at-preserved
loop-at-preserved c =
    words_taken c.args.text.now c.loop-at.at c.in_ok-skip.skip c.loop-at.tokens c.take_piece.new.tokens (words_of c.args.text.now)
    c.loop-at-test.true c.in_ok-skip.ensures.same c.loop-at.invariant
