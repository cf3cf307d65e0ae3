use Rattle.std.proofs.Common.{◌∙◌, ap}
use Rattle.std.specs.Prelude.{is_some}
use Rattle.statement_words.specs.Keywords.{keyword_of}
use Rattle.statement_words.proofs.Formed.{keyword_of-known}
use Rattle.statement_words.proofs.Spelled.{keyword_of-spelling}
use Rattle.statement_words.proofs.keywords.keyword_of.Goals as goal

pub returns-clause-found : goal.returns-clause-found
returns-clause-found c k is = c.sought.ensures ∙ ap keyword_of is ∙ keyword_of-spelling k

pub returns-clause-known : goal.returns-clause-known
returns-clause-known c = ap is_some c.sought.ensures ∙ keyword_of-known c.args.bytes.now
