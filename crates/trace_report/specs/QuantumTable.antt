-- The collector of the quanta.
use Rattle.std.specs.Prelude.{ℕ, List, [], ◌∷◌, ◌++◌, ◌==◌, ◌||◌, Bool, if◌then◌else◌, codes}
use Rattle.outside.specs.Collecting.{Collecting}
use Rattle.outside.specs.declared.collector.Seen.{Seen}
use Rattle.trace_report.specs.Rows.{rows_text}

-- it is answered Ended or Redrive
abbrev pub is_quantum : Seen → Bool
is_quantum e = (e.reply == 1) || (e.reply == 2)

abbrev pub tabled : Seen → List ℕ → List ℕ
tabled e content = if is_quantum e then content ++ e.part ∷ e.place ∷ e.rows ∷ e.changed ∷ e.cause ∷ [] else content

abbrev pub table_text : List ℕ → List ℕ
table_text content = codes "QUANTA\n" ++ rows_text 5 content

-- the collector with this content
abbrev pub quantum_table : List ℕ → Collecting
quantum_table content = record { content = content; step = tabled; form = table_text }
