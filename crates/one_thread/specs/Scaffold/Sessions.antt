-- What the sessions of a script come to.
use Rattle.std.specs.Prelude.{◌≡◌, ◌≤◌, ◌+◌, ◌++◌, ℕ, List, length}
use Rattle.sql_base.specs.declared.outcomes.Outcome.{Outcome}
use Rattle.sql_base.specs.declared.outcomes.Outcome.TheVariants.{Committed, RolledBack, Aborted}
use Rattle.sql_base.specs.declared.scripts.Script.{Script}
use Rattle.sql_base.specs.declared.scripts.Work.{Work}
use Rattle.sql_base.specs.declared.tables.TableDef.{TableDef}
use Rattle.one_thread.specs.Answer.{session_shown, sessions_shown, stamp_behind, world_behind}
use Rattle.one_thread.specs.One.{one_run, world_after}
use Rattle.one_thread.specs.Scaffold.Worlds.{world_of, Settled}
use Rattle.one_thread.specs.declared.cells.Cell.{Cell}
use Rattle.one_thread.specs.declared.shown.Shown.{Shown}

-- the stamp that the next commit draws
abbrev pub next_stamp : ℕ → Outcome → ℕ
next_stamp stamp (Committed n) = stamp + 1
next_stamp stamp RolledBack = stamp
next_stamp stamp (Aborted abort) = stamp

-- a session: what it shows is added, and the next stamp is this
pub record HasRun (tables : List TableDef) (works : List Work) (session stamp : ℕ) (old new : List (List Cell)) (before after : List Shown) (next : ℕ) : Type 0 where
  pub shown : after ≡ before ++ session_shown session 1 stamp (one_run works (world_of tables old))
  pub stamps : next ≡ stamp_behind stamp (one_run works (world_of tables old))
  pub world : world_of tables new ≡ world_after works (world_of tables old)
  pub settled : Settled tables new
  pub few : next ≤ stamp + length works

-- all sessions of a script
pub record HaveRun (script : Script) (old new : List (List Cell)) (before after : List Shown) : Type 0 where
  pub shown : after ≡ before ++ sessions_shown 1 1 script.sessions (world_of script.tables old)
  pub world : world_of script.tables new ≡ world_behind script.sessions (world_of script.tables old)
