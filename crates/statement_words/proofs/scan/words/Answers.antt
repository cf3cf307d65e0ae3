use Rattle.statement_words.proofs.Formed.{read_formed}
use Rattle.statement_words.proofs.Standing.{words_stand}
use Rattle.statement_words.proofs.scan.words.Goals as goal

pub returns-clause-stand : goal.returns-clause-stand
returns-clause-stand c = words_stand c.args.text.now c.tokens_of.result c.tokens_of.ensures

pub returns-clause-formed : goal.returns-clause-formed
returns-clause-formed c = read_formed c.args.text.now c.tokens_of.result c.tokens_of.ensures
