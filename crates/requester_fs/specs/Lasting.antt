-- How many answers a session may still take.
use Rattle.std.specs.Prelude.{ℕ, List, [], ◌∷◌}
use Rattle.session_grammar.specs.Follows.{asker, works_of}
use Rattle.session_grammar.specs.Plans.{Asker}
use Rattle.session_grammar.specs.declared.logs.LogEntry.{LogEntry}
use Rattle.session_laws.specs.Scaffold.Leading.{answer_of}
use Rattle.session_laws.specs.Scaffold.Left.{left}
use Rattle.session_laws.specs.Scaffold.Machine.{Asks, At, Place, after, works_at}
use Rattle.requester_fs.specs.Asking.{Asking, spare_of}

-- the place where a log leads
abbrev pub led : Asker → Place → List LogEntry → Place
led r place [] = place
led r place (e ∷ log) = led r (after r place (answer_of e)) log

-- how often the subset that is open may be redriven
abbrev pub spare_at : (List ℕ → ℕ) → ℕ → Place → ℕ
spare_at above n (At t seen (Asks subset part ask repeats sents statements)) = spare_of above n ask
spare_at above n place = n

-- the answers that are left where its log leads
abbrev pub left_at : (List ℕ → ℕ) → ℕ → Asker → Place → ℕ
left_at above n r place = left r n (spare_at above n place) place

abbrev pub answers_left : (List ℕ → ℕ) → ℕ → Asking → ℕ
answers_left above n a = left_at above n (asker a.script a.number) (led (asker a.script a.number) (works_at (asker a.script a.number) 1 (works_of a.script a.number)) a.log)
