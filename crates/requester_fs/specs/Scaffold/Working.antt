-- What a session keeps, of what the code keeps.
use Rattle.std.specs.Prelude.{◌≡◌, ◌<◌, ◌^◌, ℕ, List, length, Option}
use Rattle.sql_base.specs.Scripts.{IsScript, Lies, parts_of}
use Rattle.sql_base.specs.declared.scripts.Script.{Script}
use Rattle.session_grammar.specs.Follows.{asker, works_of}
use Rattle.session_grammar.specs.Sessions.{sync_behind}
use Rattle.session_grammar.specs.declared.logs.LogEntry.{LogEntry}
use Rattle.session_laws.specs.Scaffold.Leading.{StandsAt}
use Rattle.requester_fs.specs.Scaffold.Stages.{IsStand, place_of}
use Rattle.requester_fs.specs.declared.stages.Stand.{Stand}

-- its log has led it where it stands
pub record IsWorking (script : Script) (number parts : ℕ) (stand : Option Stand) (sync : ℕ) (log : List LogEntry) : Type 0 where
  pub is_script : IsScript script
  pub session : Lies 1 (length script.sessions) number
  pub counted : parts ≡ parts_of script.tables
  pub stands : StandsAt (asker script number) (works_of script number) log (place_of (asker script number) (works_of script number) stand)
  pub kept : IsStand (works_of script number) stand
  pub sync_is : sync ≡ sync_behind 1 log
  pub few : sync < 2 ^ 64
