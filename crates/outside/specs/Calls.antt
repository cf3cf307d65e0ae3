-- The calls of a source or a sink in memory.
use Rattle.std.specs.Prelude.{ℕ, List, Contains}
use Rattle.outside.specs.Counter.{raised}

-- the numbers of the calls that fail, and how many calls were made and how many faults there were
pub record CallRecord : Type 0 where
  pub failing : List ℕ
  pub made : ℕ
  pub faults : ℕ

-- no call yet
abbrev pub no_call : List ℕ → CallRecord
no_call failing = record { failing = failing; made = 0; faults = 0 }

-- the number of the next call is one of those that fail
abbrev pub FailsNext : CallRecord → Type 0
FailsNext calls = Contains calls.failing (raised calls.made)

-- one call more
abbrev pub succeeded : CallRecord → CallRecord
succeeded calls = record calls { made = raised calls.made }

-- one call more, and one fault more
abbrev pub failed : CallRecord → CallRecord
failed calls = record calls { made = raised calls.made; faults = raised calls.faults }
