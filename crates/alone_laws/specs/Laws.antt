-- The law of a legal record with one session.
use Rattle.std.specs.Prelude.{◌≡◌, length}
use Rattle.sql_base.specs.declared.scripts.Script.{Script}
use Rattle.one_thread.specs.Answer.{answer_text}
use Rattle.run_record.specs.Headline.{AreHeard}
use Rattle.run_record.specs.Legal.{Legal}
use Rattle.run_record.specs.Openings.{log_of}
use Rattle.run_record.specs.Text.{IsText}
use Rattle.run_record.specs.declared.records.RunRecord.{RunRecord}

-- where one session worked alone and lost no path, its text is that of one thread
abbrev pub AloneIsOneThread : Type 0
AloneIsOneThread = (script : Script) (kept : RunRecord) → Legal script kept → length script.sessions ≡ 1 → AreHeard (log_of kept 1) → IsText script kept (answer_text script)
