-- A legal record whose logs are in line has the headline.
use Rattle.std.proofs.Common.{ℕ, Bool, List, [], length, Some, IfSome, IsSome, refl}
use Rattle.sql_base.specs.Scripts.{Lies}
use Rattle.sql_base.specs.declared.scripts.Script.{Script}
use Rattle.session_grammar.specs.Follows.{in_line}
use Rattle.run_record.specs.Headline.{Headline}
use Rattle.run_record.specs.Legal.{Legal}
use Rattle.run_record.specs.Openings.{log_of}
use Rattle.run_record.specs.Text.{IsText}
use Rattle.run_record.specs.declared.records.RunRecord.{RunRecord}
use Rattle.serial_laws.proofs.Finished.{finished_tile}
use Rattle.serial_passes.proofs.Serially.{legal_is_serial}
use Rattle.driver_laws.specs.Scheduling.{Scheduled}
use Rattle.record_text.specs.Summary.{IsSummary}
use Rattle.nonstop_sql.specs.Ends.{IsRun, IsSaid, Makes, Outside}
use Rattle.nonstop_sql.specs.declared.commands.Command.TheVariants.{Steps}
use Rattle.alone_laws.proofs.OneSession.{alone_is_one_thread}
use Rattle.driver_laws.specs.Carrying.{AllCarried, Telling}

pub headlined : (script : Script) (kept : RunRecord) → Legal script kept → ((session : ℕ) → Lies 1 (length script.sessions) session → in_line script session (log_of kept session)) → Headline script kept
headlined script kept legal lines =
    record {
      legal = legal;
      tiles = finished_tile script kept legal;
      in_line_is = lines;
      serial = legal_is_serial script kept legal;
      alone = λ one heard. alone_is_one_thread script kept legal one heard;
    }

-- so `steps` and `trial` make of a script what they should
pub made-run : (choices : List ℕ) (trace : Bool) (out : Outside) (script : Script) (kept : RunRecord) (text : List ℕ) → Headline script kept → Scheduled choices kept → AllCarried out.wires kept
    → IsSaid trace out.collectors out.collectors' script kept text → Makes (Steps choices trace) out script (Some kept) text
made-run choices trace out script kept text headline scheduled carried is_said = (refl, (record { headline = headline; scheduled = scheduled; carried = carried }, is_said))

pub made-trial : (wires : List Telling) (script : Script) (kept : RunRecord) (text : List ℕ) → Headline script kept → Scheduled [] kept → AllCarried wires kept → IsSummary script kept text
    → IsSome (Some kept) × IfSome (Some kept) (λ k. IsRun [] wires script k × IsSummary script k text)
made-trial wires script kept text headline scheduled carried is_summary = (refl, (record { headline = headline; scheduled = scheduled; carried = carried }, is_summary))
