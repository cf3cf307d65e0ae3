-- The collector of the locks that were asked for.
use Rattle.std.specs.Prelude.{ℕ, List, [], ◌∷◌, ◌++◌, ◌==◌, ◌||◌, Bool, not, if◌then◌else◌, codes}
use Rattle.outside.specs.Collecting.{Collecting}
use Rattle.outside.specs.declared.collector.Seen.{Seen}
use Rattle.trace_report.specs.Rows.{rows_text}

-- it asks for a lock, or is answered Locked
abbrev pub is_on_locks : Seen → Bool
is_on_locks e = not (e.mode == 0) || (e.reply == 3)

abbrev pub booked : Seen → List ℕ → List ℕ
booked e content = if is_on_locks e then content ++ e.part ∷ e.opener ∷ e.ordinal ∷ e.mode ∷ e.reply ∷ [] else content

abbrev pub book_text : List ℕ → List ℕ
book_text content = codes "LOCKS\n" ++ rows_text 5 content

-- the collector with this content
abbrev pub lock_book : List ℕ → Collecting
lock_book content = record { content = content; step = booked; form = book_text }
