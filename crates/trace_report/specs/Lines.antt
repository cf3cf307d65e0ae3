-- The collector of all numbers of each entry.
use Rattle.std.specs.Prelude.{ℕ, List, [], ◌∷◌, ◌++◌, codes}
use Rattle.outside.specs.Collecting.{Collecting}
use Rattle.outside.specs.declared.collector.Seen.{Seen}
use Rattle.trace_report.specs.Rows.{rows_text}

-- an entry adds its eleven numbers
abbrev pub lined : Seen → List ℕ → List ℕ
lined e content = content ++ e.part ∷ e.place ∷ e.opener ∷ e.sync ∷ e.ordinal ∷ e.request ∷ e.reply ∷ e.cause ∷ e.rows ∷ e.changed ∷ e.mode ∷ []

abbrev pub lines_text : List ℕ → List ℕ
lines_text content = codes "LINES\n" ++ rows_text 11 content

-- the collector with this content
abbrev pub lines : List ℕ → Collecting
lines content = record { content = content; step = lined; form = lines_text }
