-- The keywords, and how each is written.
use Rattle.std.specs.Prelude.{ℕ, List, [], ◌∷◌, Option, codes}
use Rattle.std.specs.List.{find}
use Rattle.std.specs.Str.{bytes_eq}
use Rattle.statement_words.specs.declared.keywords.Keyword.{Keyword}
use Rattle.statement_words.specs.declared.keywords.Keyword.TheVariants as keyword

-- the bytes that a keyword is written as
abbrev pub spelling : Keyword → List ℕ
spelling keyword.Quantum = codes "QUANTUM"
spelling keyword.Buffer = codes "BUFFER"
spelling keyword.Patience = codes "PATIENCE"
spelling keyword.Servers = codes "SERVERS"
spelling keyword.Restart = codes "RESTART"
spelling keyword.Table = codes "TABLE"
spelling keyword.Int = codes "INT"
spelling keyword.Char = codes "CHAR"
spelling keyword.Primary = codes "PRIMARY"
spelling keyword.Key = codes "KEY"
spelling keyword.Check = codes "CHECK"
spelling keyword.First = codes "FIRST"
spelling keyword.Load = codes "LOAD"
spelling keyword.Session = codes "SESSION"
spelling keyword.Select = codes "SELECT"
spelling keyword.From = codes "FROM"
spelling keyword.Where = codes "WHERE"
spelling keyword.Update = codes "UPDATE"
spelling keyword.Set = codes "SET"
spelling keyword.Delete = codes "DELETE"
spelling keyword.Insert = codes "INSERT"
spelling keyword.Into = codes "INTO"
spelling keyword.Values = codes "VALUES"
spelling keyword.Lock = codes "LOCK"
spelling keyword.In = codes "IN"
spelling keyword.Share = codes "SHARE"
spelling keyword.Exclusive = codes "EXCLUSIVE"
spelling keyword.Mode = codes "MODE"
spelling keyword.For = codes "FOR"
spelling keyword.Browse = codes "BROWSE"
spelling keyword.Stable = codes "STABLE"
spelling keyword.Repeatable = codes "REPEATABLE"
spelling keyword.Access = codes "ACCESS"
spelling keyword.Commit = codes "COMMIT"
spelling keyword.Rollback = codes "ROLLBACK"
spelling keyword.Work = codes "WORK"
spelling keyword.And = codes "AND"
spelling keyword.Or = codes "OR"
spelling keyword.Not = codes "NOT"

-- every keyword
abbrev pub keywords : List Keyword
keywords =
    keyword.Quantum ∷ keyword.Buffer ∷ keyword.Patience ∷ keyword.Servers ∷ keyword.Restart ∷ keyword.Table ∷
    keyword.Int ∷ keyword.Char ∷ keyword.Primary ∷ keyword.Key ∷ keyword.Check ∷ keyword.First ∷ keyword.Load ∷
    keyword.Session ∷ keyword.Select ∷ keyword.From ∷ keyword.Where ∷ keyword.Update ∷ keyword.Set ∷ keyword.Delete ∷
    keyword.Insert ∷ keyword.Into ∷ keyword.Values ∷ keyword.Lock ∷ keyword.In ∷ keyword.Share ∷ keyword.Exclusive ∷
    keyword.Mode ∷ keyword.For ∷ keyword.Browse ∷ keyword.Stable ∷ keyword.Repeatable ∷ keyword.Access ∷
    keyword.Commit ∷ keyword.Rollback ∷ keyword.Work ∷ keyword.And ∷ keyword.Or ∷ keyword.Not ∷ []

-- the keyword that is written as these bytes, if there is one
unfoldable pub keyword_of : List ℕ → Option Keyword
keyword_of bytes = find (λ k. bytes_eq bytes (spelling k)) keywords
