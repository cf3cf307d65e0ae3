-- The rows of a part, as the code gathers them.
use Rattle.std.specs.Prelude.{ℕ, List, flat_map}
use Rattle.session_grammar.specs.Follows.{projection}
use Rattle.session_grammar.specs.declared.plans.Sent.{Sent}
use Rattle.session_grammar.specs.declared.logs.LogEntry.{LogEntry}
use Rattle.run_record.specs.Serial.{entry_rows}

-- the rows of some partitions, one after the other
abbrev pub rows_for : List Sent → List LogEntry → List (List ℕ)
rows_for sents es = flat_map (λ sent. flat_map entry_rows (projection es sent)) sents
