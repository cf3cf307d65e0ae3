-- Which bytes spell which script, and how all others are refused.
use Rattle.std.specs.Prelude.{◌≡◌, ◌≤◌, ◌<◌, ℕ, List, length, Option, Some, None, Result, Ok, Err}
use Rattle.sql_base.specs.declared.scripts.Script.{Script}
use Rattle.statement_words.specs.declared.faults.WordReason.{WordReason}
use Rattle.statement_words.specs.declared.faults.WordReason.TheVariants as words
use Rattle.statement_words.specs.declared.tokens.Token.{Token}
use Rattle.statement_words.specs.Reading.{Place}
use Rattle.statement_words.specs.Words.{words_of}
use Rattle.statement_printer.specs.Printing.{printed}
use Rattle.statement_draft.specs.Judging.{read, script_of}
use Rattle.statement_draft.specs.declared.draft.Draft.{Draft}
use Rattle.statement_draft.specs.declared.faults.Fault.{Fault}
use Rattle.statement_draft.specs.declared.faults.Reason.{Reason}
use Rattle.statement_draft.specs.declared.faults.Reason.TheVariants.{TooLarge, BadByte, OpenText, NumberTooWide, TextTooLong}
use Rattle.statement_reader.specs.Positions.{fault_at}
use Rattle.statement_reader.specs.declared.faults.ReadFault.{ReadFault}
use Rattle.statement_reader.specs.declared.faults.ReadFault.TheVariants as faults
use Rattle.statement_reader.specs.declared.faults.ScriptFault.{ScriptFault}

-- the most bytes that a script has, as it is written and as it is printed
abbrev pub limit : ℕ
limit = 4194304

-- the bytes are within the limit, they have words, the words have no fault, and this is what they say
pub record Spells (text : List ℕ) (script : Script) : Type 0 where
  pub within : length text ≤ limit
  pub tokens : List Token
  pub words : words_of text ≡ Ok tokens
  pub clean : (read tokens (length text)).first ≡ None
  pub meant : script ≡ script_of (read tokens (length text))
  pub prints : length (printed script) ≤ limit

-- the script was read, unless memory ran out
abbrev pub ReadsAs : Result Script ReadFault → Script → Type 0
ReadsAs (Ok read) script = read ≡ script
ReadsAs (Err faults.NoMemory) script = Unit {0}
ReadsAs (Err (faults.Script fault)) script = ⊥

abbrev pub reason_of : WordReason → Reason
reason_of words.BadByte = BadByte
reason_of words.OpenText = OpenText
reason_of words.NumberTooWide = NumberTooWide
reason_of words.TextTooLong = TextTooLong

-- the refusal of a script that has too many bytes as it is printed
abbrev pub PrintsTooMuch : Script → ScriptFault → Type 0
PrintsTooMuch script fault = (limit < length (printed script)) × (fault ≡ record { line = 1; column = 1; reason = TooLarge })

-- the first fault of what the words say, or else that of the whole script
abbrev pub FaultIn : List ℕ → ScriptFault → Option Fault → Script → Type 0
FaultIn text fault (Some first) script = fault ≡ fault_at text first.at first.reason
FaultIn text fault None script = PrintsTooMuch script fault

abbrev pub FaultOfDraft : List ℕ → ScriptFault → Draft → Type 0
FaultOfDraft text fault d = FaultIn text fault d.first (script_of d)

-- the fault of the words, or else that of what they say
abbrev pub FaultOf : List ℕ → ScriptFault → Result (List Token) Place → Type 0
FaultOf text fault (Err place) = fault ≡ fault_at text place.at (reason_of place.reason)
FaultOf text fault (Ok tokens) = FaultOfDraft text fault (read tokens (length text))

-- the one refusal of bytes that spell no script
pub record IsFault (text : List ℕ) (fault : ScriptFault) : Type 0 where
  pub beyond : limit < length text → fault ≡ fault_at text limit TooLarge
  pub within : length text ≤ limit → FaultOf text fault (words_of text)

-- want of memory may come at any time
abbrev pub IsRefusal : List ℕ → ReadFault → Type 0
IsRefusal text faults.NoMemory = Unit {0}
IsRefusal text (faults.Script fault) = IsFault text fault

-- the same of a script that is refused as a whole
abbrev pub RefusesWhole : Script → ReadFault → Type 0
RefusesWhole script faults.NoMemory = Unit {0}
RefusesWhole script (faults.Script fault) = PrintsTooMuch script fault

-- what comes of the draft of a text's words
abbrev pub Judges : List ℕ → Draft → Result Script ReadFault → Type 0
Judges text d (Ok script) = (d.first ≡ None) × (script ≡ script_of d) × (length (printed script) ≤ limit)
Judges text d (Err faults.NoMemory) = Unit {0}
Judges text d (Err (faults.Script fault)) = FaultOfDraft text fault d
