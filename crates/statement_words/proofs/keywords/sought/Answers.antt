use Rattle.std.proofs.Common.{rules, ◌≡◌, ◌∷◌, ap, sym, ◌∙◌}
use Rattle.std.specs.List.{find}
use Rattle.std.specs.Str.{bytes_eq}
use Rattle.statement_words.specs.Keywords.{spelling, keyword_of}
use Rattle.statement_words.proofs.keywords.sought.Goals as goal

pub returns-else-not-is_ascii_uppercase : goal.returns-else-not-is_ascii_uppercase
returns-else-not-is_ascii_uppercase c =
    let bytes = c.args.bytes.now in
    let split : bytes ≡ c.in-Some.first.now ∷ c.in-Some.behind.now = search rules in
    c.written_as.ensures ∙ ap (λ bs. find (λ k. bytes_eq bs (spelling k)) c.beginning_with.result.now) split
    ∙ c.beginning_with.ensures c.in-Some.behind.now ∙ ap keyword_of (sym split)
