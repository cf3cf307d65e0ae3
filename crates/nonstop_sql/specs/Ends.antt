-- How a command ends.
-- Each is told of what the sink took and of its faults, before and after.
use Rattle.std.specs.Prelude.{◌≡◌, ◌≢◌, ◌≤◌, ℕ, List, [], ◌++◌, map, take, drop, Bool, true, false, Option, Some, None, IsSome, IfSome, ◌↔◌, ◌⊎◌}
use Rattle.std.specs.Io.KnownBytes.{Appends, Keeps}
use Rattle.sql_base.specs.declared.scripts.Script.{Script}
use Rattle.outside.specs.Counter.{Rose}
use Rattle.one_thread.specs.Answer.{answer_text}
use Rattle.statement_printer.specs.Printing.{printed}
use Rattle.statement_reader.specs.Spells.{Spells, IsFault}
use Rattle.statement_reader.specs.declared.faults.ReadFault.{ReadFault}
use Rattle.statement_reader.specs.declared.faults.ReadFault.TheVariants as reads
use Rattle.run_record.specs.Headline.{Headline}
use Rattle.run_record.specs.Text.{IsText}
use Rattle.run_record.specs.declared.records.RunRecord.{RunRecord}
use Rattle.record_text.specs.Summary.{IsSummary}
use Rattle.script_maker.specs.Making.{made}
use Rattle.driver_laws.specs.Scheduling.{Scheduled}
use Rattle.outside.specs.Collecting.{Collecting}
use Rattle.run_record.specs.Seen.{seen}
use Rattle.trace_report.specs.Reports.{behind_all, texts}
use Rattle.nonstop_sql.specs.declared.commands.Command.{Command}
use Rattle.nonstop_sql.specs.declared.commands.Command.TheVariants as command
use Rattle.nonstop_sql.specs.declared.outcome.Outcome.{Outcome}
use Rattle.driver_laws.specs.Carrying.{AllCarried, Telling}

-- what was kept of a run has the headline; its acts are those that the choices picked, and its losses those that the wires told
pub record IsRun (choices : List ℕ) (wires : List Telling) (script : Script) (kept : RunRecord) : Type 0 where
  pub headline : Headline script kept
  pub scheduled : Scheduled choices kept
  pub carried : AllCarried wires kept

-- whether collectors see the record of its run
abbrev pub is_traced : Command → Bool
is_traced command.Check = false
is_traced command.Oracle = false
is_traced (command.Steps choices trace) = trace
is_traced (command.Make number) = false
is_traced (command.Trial number) = false

-- what `steps` writes of a record: its text, and with a trace what the collectors say behind it, once each has seen all entries
abbrev pub IsSaid : Bool → List Collecting → List Collecting → Script → RunRecord → List ℕ → Type 0
IsSaid false before after script kept text = IsText script kept text
IsSaid true before after script kept text =
    (after ≡ map (behind_all (seen kept)) before) × ((plain : List ℕ) × IsText script kept plain × (text ≡ plain ++ texts after))

-- what the wires of a run tell, and its collectors before and after it
pub record Outside : Type 0 where
  pub wires : List Telling
  pub collectors : List Collecting
  pub collectors' : List Collecting

-- what a command makes of a script: the record of a run, if it makes one, and a text; `trial` runs it without choices
abbrev pub Makes : Command → Outside → Script → Option RunRecord → List ℕ → Type 0
Makes command.Check out script kept text = (kept ≡ None) × (text ≡ printed script)
Makes command.Oracle out script kept text = (kept ≡ None) × (text ≡ answer_text script)
Makes (command.Steps choices trace) out script kept text = IsSome kept × IfSome kept (λ k. IsRun choices out.wires script k × IsSaid trace out.collectors out.collectors' script k text)
Makes (command.Make number) out script kept text = (kept ≡ None) × (text ≡ printed script)
Makes (command.Trial number) out script kept text = IsSome kept × IfSome kept (λ k. IsRun [] out.wires script k × IsSummary script k text)

-- whether it keeps the record of a run
abbrev pub KeepsRecord : Command → Type 0
KeepsRecord command.Check = ⊥
KeepsRecord command.Oracle = ⊥
KeepsRecord (command.Steps choices trace) = Unit {0}
KeepsRecord (command.Make number) = ⊥
KeepsRecord (command.Trial number) = Unit {0}

-- it is done: the text that it made of the script is written
abbrev pub IsDone : Command → Outside → Option (List ℕ) → Option (List ℕ) → Option RunRecord → Script → Type 0
IsDone asked out taken taken' kept script = (text : List ℕ) × Makes asked out script kept text × Appends taken taken' text

-- a write failed behind a front of such a text
abbrev pub IsCut : Command → Outside → Option (List ℕ) → Option (List ℕ) → Script → Type 0
IsCut asked out taken taken' script =
    (kept : Option RunRecord) × (text : List ℕ) × Makes asked out script kept text × ((count : ℕ) × Appends taken taken' (take count text))

abbrev pub SpellsNone : List ℕ → Type 0
SpellsNone bytes = (script : Script) → Spells bytes script → ⊥

-- the bytes spell a script of which this holds
abbrev pub SpellsSuch : List ℕ → (Script → Type 0) → Type 0
SpellsSuch bytes P = (script : Script) × Spells bytes script × P script

-- what was made of a script is written: all of it, or a front of it before a write failed
pub record Writes (asked : Command) (out : Outside) (script : Script) (taken taken' : Option (List ℕ)) (faults faults' : ℕ) (o : Outcome) : Type 0 where
  pub status : (o.status ≡ 0) ⊎ ((o.status ≡ 4) ⊎ (o.status ≡ 5))
  pub fault : o.fault ≡ None
  pub kept : IsSome o.kept ↔ ((o.status ≡ 0) × KeepsRecord asked)
  pub failed : o.status ≡ 4 → Rose faults faults'
  pub unwritten : o.status ≡ 5 → Keeps taken taken'
  pub done : o.status ≡ 0 → IsDone asked out taken taken' o.kept script
  pub cut : o.status ≡ 4 → IsCut asked out taken taken' script

-- bytes that were read: refused just where they spell no script, unless memory ran out, and else something is made of that script
pub record EndsOnBytes (asked : Command) (out : Outside) (bytes : List ℕ) (taken taken' : Option (List ℕ)) (faults faults' : ℕ) (o : Outcome) : Type 0 where
  pub status : (o.status ≡ 1) ⊎ ((o.status ≡ 0) ⊎ ((o.status ≡ 4) ⊎ (o.status ≡ 5)))
  pub fault : (o.status ≡ 1) ↔ IsSome o.fault
  pub kept : IsSome o.kept ↔ ((o.status ≡ 0) × KeepsRecord asked)
  pub refused : o.status ≡ 1 → SpellsNone bytes × IfSome o.fault (IsFault bytes)
  pub refuses : SpellsNone bytes → (o.status ≡ 1) ⊎ (o.status ≡ 5)
  pub failed : o.status ≡ 4 → Rose faults faults'
  pub unwritten : o.status ≢ 0 → o.status ≢ 4 → Keeps taken taken'
  pub done : o.status ≡ 0 → SpellsSuch bytes (IsDone asked out taken taken' o.kept)
  pub cut : o.status ≡ 4 → SpellsSuch bytes (IsCut asked out taken taken')

-- bytes that a source told: refused just where they spell no script, unless a read failed or memory ran out; done only once all of them were read,
-- and refused once they were read to their end, or one byte beyond the most that a script has
pub record EndsOnSource (bytes : List ℕ) (left' : Option (List ℕ)) (o : Outcome) : Type 0 where
  pub refused : o.status ≡ 1 → SpellsNone bytes × IfSome o.fault (IsFault bytes)
  pub refuses : SpellsNone bytes → (o.status ≡ 1) ⊎ ((o.status ≡ 3) ⊎ (o.status ≡ 5))
  pub read_whole : o.status ≡ 0 → left' ≡ Some []
  pub read_on : o.status ≡ 1 → left' ≡ Some (drop 4194305 bytes)

-- a script was read of which this holds: it is the one that the bytes spell that the source had left, if it told them
abbrev pub WasRead : Option (List ℕ) → (Script → Type 0) → Type 0
WasRead left P = (bytes : List ℕ) × IfSome left (λ told. told ≡ bytes) × SpellsSuch bytes P

-- the number that a command makes its script from; the others read theirs
abbrev pub number_of : Command → Option ℕ
number_of command.Check = None
number_of command.Oracle = None
number_of (command.Steps choices trace) = None
number_of (command.Make number) = Some number
number_of (command.Trial number) = Some number

-- this holds of the script that is made from the number, or of the one that was read
abbrev pub OnScript : Option ℕ → Option (List ℕ) → (Script → Type 0) → Type 0
OnScript (Some number) left P = P (made number)
OnScript None left P = WasRead left P

-- where the script is made nothing is read, and so nothing refused
pub record ReadsNothing (left left' : Option (List ℕ)) (faults faults' : ℕ) (o : Outcome) : Type 0 where
  pub left_as_it_was : left' ≡ left
  pub faults_as_they_were : faults' ≡ faults
  pub reads_on : o.status ≢ 3
  pub refuses_nothing : o.status ≢ 1

abbrev pub ReadsScript : Option ℕ → Option (List ℕ) → Option (List ℕ) → ℕ → ℕ → Outcome → Type 0
ReadsScript (Some number) left left' faults faults' o = ReadsNothing left left' faults faults' o
ReadsScript None left left' faults faults' o = IfSome left (λ bytes. EndsOnSource bytes left' o)

-- the whole: the bytes that the source had left, if it told them, and its faults come first
pub record Ends (asked : Command) (out : Outside) (left left' : Option (List ℕ)) (read_faults read_faults' : ℕ) (taken taken' : Option (List ℕ)) (write_faults write_faults' : ℕ) (o : Outcome) : Type 0 where
  pub status : o.status ≤ 5
  pub words_stand : o.status ≢ 2
  pub fault : (o.status ≡ 1) ↔ IsSome o.fault
  pub kept : IsSome o.kept ↔ ((o.status ≡ 0) × KeepsRecord asked)
  pub read_failed : o.status ≡ 3 → Rose read_faults read_faults'
  pub write_failed : o.status ≡ 4 → Rose write_faults write_faults'
  pub unwritten : o.status ≢ 0 → o.status ≢ 4 → Keeps taken taken'
  pub told : ReadsScript (number_of asked) left left' read_faults read_faults' o
  pub done : o.status ≡ 0 → OnScript (number_of asked) left (IsDone asked out taken taken' o.kept)
  pub cut : o.status ≡ 4 → OnScript (number_of asked) left (IsCut asked out taken taken')

-- how bytes end of which no script was read
abbrev pub refusal_of : ReadFault → Outcome
refusal_of (reads.Script fault) = record { status = 1; kept = None; fault = Some fault }
refusal_of reads.NoMemory = record { status = 5; kept = None; fault = None }

-- the collectors are left as they were: without a trace, and where no script was read
abbrev pub LeavesCollectors : Command → ℕ → Type 0
LeavesCollectors asked status = (is_traced asked ≡ false) ⊎ ((status ≡ 1) ⊎ (status ≡ 3))
