-- No two keywords are written alike.
use Rattle.std.proofs.Common.{◌≡◌, Some, refl}
use Rattle.statement_words.specs.declared.keywords.Keyword.{Keyword}
use Rattle.statement_words.specs.declared.keywords.Keyword.TheVariants as keyword
use Rattle.statement_words.specs.Keywords.{spelling, keyword_of}

pub keyword_of-spelling : (k : Keyword) → keyword_of (spelling k) ≡ Some k
unfolding keyword_of
keyword_of-spelling keyword.Quantum = refl
keyword_of-spelling keyword.Buffer = refl
keyword_of-spelling keyword.Patience = refl
keyword_of-spelling keyword.Servers = refl
keyword_of-spelling keyword.Restart = refl
keyword_of-spelling keyword.Table = refl
keyword_of-spelling keyword.Int = refl
keyword_of-spelling keyword.Char = refl
keyword_of-spelling keyword.Primary = refl
keyword_of-spelling keyword.Key = refl
keyword_of-spelling keyword.Check = refl
keyword_of-spelling keyword.First = refl
keyword_of-spelling keyword.Load = refl
keyword_of-spelling keyword.Session = refl
keyword_of-spelling keyword.Select = refl
keyword_of-spelling keyword.From = refl
keyword_of-spelling keyword.Where = refl
keyword_of-spelling keyword.Update = refl
keyword_of-spelling keyword.Set = refl
keyword_of-spelling keyword.Delete = refl
keyword_of-spelling keyword.Insert = refl
keyword_of-spelling keyword.Into = refl
keyword_of-spelling keyword.Values = refl
keyword_of-spelling keyword.Lock = refl
keyword_of-spelling keyword.In = refl
keyword_of-spelling keyword.Share = refl
keyword_of-spelling keyword.Exclusive = refl
keyword_of-spelling keyword.Mode = refl
keyword_of-spelling keyword.For = refl
keyword_of-spelling keyword.Browse = refl
keyword_of-spelling keyword.Stable = refl
keyword_of-spelling keyword.Repeatable = refl
keyword_of-spelling keyword.Access = refl
keyword_of-spelling keyword.Commit = refl
keyword_of-spelling keyword.Rollback = refl
keyword_of-spelling keyword.Work = refl
keyword_of-spelling keyword.And = refl
keyword_of-spelling keyword.Or = refl
keyword_of-spelling keyword.Not = refl
