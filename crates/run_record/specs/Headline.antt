-- What holds of the record of a run.
use Rattle.std.specs.Prelude.{◌≡◌, ℕ, List, length}
use Rattle.std.specs.List.{AllByRecursion}
use Rattle.sql_base.specs.Scripts.{Lies}
use Rattle.sql_base.specs.declared.scripts.Script.{Script}
use Rattle.one_thread.specs.Answer.{answer_text}
use Rattle.session_grammar.specs.Follows.{in_line}
use Rattle.session_grammar.specs.declared.logs.Answer.TheVariants.{PathFailed}
use Rattle.session_grammar.specs.declared.logs.LogEntry.{LogEntry}
use Rattle.session_grammar.specs.declared.logs.LogEntry.TheVariants.{Asked}
use Rattle.run_record.specs.Legal.{Legal}
use Rattle.run_record.specs.Openings.{log_of}
use Rattle.run_record.specs.Serial.{Serial}
use Rattle.run_record.specs.Text.{IsText}
use Rattle.run_record.specs.Tiles.{FinishedTile}
use Rattle.run_record.specs.declared.records.RunRecord.{RunRecord}

-- the path of no request was lost
abbrev pub IsHeard : LogEntry → Type 0
IsHeard (Asked part sync request losses PathFailed) = ⊥
IsHeard entry = Unit {0}

abbrev pub AreHeard : List LogEntry → Type 0
AreHeard log = AllByRecursion IsHeard log

-- it is legal; each finished statement covered its key range once, with just the records that it was to show or change; each log is in line;
-- in the order of their stamps the committed REPEATABLE transactions and the final tables are those of one thread;
-- and where one session worked alone and lost no path, its text is that of one thread
pub record Headline (script : Script) (kept : RunRecord) : Type 0 where
  pub legal : Legal script kept
  pub tiles : FinishedTile script kept
  pub in_line_is : (session : ℕ) → Lies 1 (length script.sessions) session → in_line script session (log_of kept session)
  pub serial : Serial script kept
  pub alone : length script.sessions ≡ 1 → AreHeard (log_of kept 1) → IsText script kept (answer_text script)
