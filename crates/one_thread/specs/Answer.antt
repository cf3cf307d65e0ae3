-- What one thread shows of a script whose sessions it runs in number order.
use Rattle.std.specs.Prelude.{ℕ, ◌+◌, List, [], ◌∷◌, ◌++◌}
use Rattle.sql_base.specs.declared.outcomes.Outcome.{Outcome}
use Rattle.sql_base.specs.declared.outcomes.Outcome.TheVariants.{Committed, RolledBack, Aborted}
use Rattle.sql_base.specs.declared.scripts.Script.{Script}
use Rattle.sql_base.specs.declared.scripts.Work.{Work}
use Rattle.one_thread.specs.One.{World, Ending, Commits, RollsBack, Aborts, Ran, one_run, world_after, loaded}
use Rattle.one_thread.specs.Text.{run_text}
use Rattle.one_thread.specs.declared.shown.Shown.{Shown}

-- how a transaction ended, if its commit drew this stamp
abbrev pub outcome_of : ℕ → Ending → Outcome
outcome_of stamp Commits = Committed stamp
outcome_of stamp RollsBack = RolledBack
outcome_of stamp (Aborts abort) = Aborted abort

-- the stamp that the next commit draws; the stamps of one thread are 1, 2, 3 and so on
abbrev pub stamp_after : ℕ → Ending → ℕ
stamp_after stamp Commits = stamp + 1
stamp_after stamp RollsBack = stamp
stamp_after stamp (Aborts abort) = stamp

-- the transactions of a session, each in one attempt
abbrev pub session_shown : ℕ → ℕ → ℕ → List Ran → List Shown
session_shown session ordinal stamp [] = []
session_shown session ordinal stamp (ran ∷ rans) =
    record { session = session; ordinal = ordinal; outcome = outcome_of stamp ran.ending; given = ran.given } ∷ session_shown session (ordinal + 1) (stamp_after stamp ran.ending) rans

abbrev pub stamp_behind : ℕ → List Ran → ℕ
stamp_behind stamp [] = stamp
stamp_behind stamp (ran ∷ rans) = stamp_behind (stamp_after stamp ran.ending) rans

-- the sessions from this number on, one after the other
abbrev pub sessions_shown : ℕ → ℕ → List (List Work) → World → List Shown
sessions_shown session stamp [] w = []
sessions_shown session stamp (works ∷ rest) w =
    session_shown session 1 stamp (one_run works w) ++ sessions_shown (session + 1) (stamp_behind stamp (one_run works w)) rest (world_after works w)

abbrev pub world_behind : List (List Work) → World → World
world_behind [] w = w
world_behind (works ∷ rest) w = world_behind rest (world_after works w)

-- the text of one thread that runs the sessions of a script in number order, from its LOAD rows
abbrev pub answer_text : Script → List ℕ
answer_text script = run_text script.tables (sessions_shown 1 1 script.sessions (loaded script)) (world_behind script.sessions (loaded script)).records
