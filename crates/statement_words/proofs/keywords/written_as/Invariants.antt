use Rattle.std.proofs.Common.{◌≡◌, drop}
use Rattle.std.specs.List.{find}
use Rattle.std.specs.Str.{bytes_eq}
use Rattle.statement_words.specs.Keywords.{spelling}
use Rattle.statement_words.proofs.keywords.written_as.Given as goal

abbrev pub invariant-loop-keyword : goal.invariant-loop-keyword
invariant-loop-keyword l = find (λ k. bytes_eq l.bytes (spelling k)) (drop l.keyword-index l.keywords) ≡ find (λ k. bytes_eq l.bytes (spelling k)) l.keywords
