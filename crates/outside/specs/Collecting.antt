-- What contracts see of a collector.
use Rattle.std.specs.Prelude.{ℕ, List}
use Rattle.outside.specs.declared.collector.Seen.{Seen}

-- its content, what an entry makes of a content, and the text of a content
pub record Collecting : Type 0 where
  pub content : List ℕ
  pub step : Seen → List ℕ → List ℕ
  pub form : List ℕ → List ℕ

-- it once it has seen one entry more
abbrev pub behind : Seen → Collecting → Collecting
behind entry c = record c { content = c.step entry c.content }

-- what it says
abbrev pub said : Collecting → List ℕ
said c = c.form c.content
