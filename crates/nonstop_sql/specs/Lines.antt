-- The line on standard error that says how a command ended.
use Rattle.std.specs.Prelude.{ℕ, List, ◌++◌, codes, Option, Some, None, ◌==◌, if◌then◌else◌}
use Rattle.std.specs.Fmt.{decimal}
use Rattle.statement_draft.specs.declared.faults.Reason.{Reason}
use Rattle.statement_draft.specs.declared.faults.Reason.TheVariants.{TooLarge, BadByte, OpenText, NumberTooWide, TextTooLong, Unexpected, UnknownName, Repeated, WrongType, OverLimit, NotRising, CheckFails}
use Rattle.statement_reader.specs.declared.faults.ScriptFault.{ScriptFault}

abbrev pub reason_name : Reason → List ℕ
reason_name TooLarge = codes "TooLarge"
reason_name BadByte = codes "BadByte"
reason_name OpenText = codes "OpenText"
reason_name NumberTooWide = codes "NumberTooWide"
reason_name TextTooLong = codes "TextTooLong"
reason_name Unexpected = codes "Unexpected"
reason_name UnknownName = codes "UnknownName"
reason_name Repeated = codes "Repeated"
reason_name WrongType = codes "WrongType"
reason_name OverLimit = codes "OverLimit"
reason_name NotRising = codes "NotRising"
reason_name CheckFails = codes "CheckFails"

abbrev pub fault_line : ScriptFault → List ℕ
fault_line fault = codes "nsq: line " ++ decimal fault.line ++ codes " column " ++ decimal fault.column ++ codes ": " ++ reason_name fault.reason

-- a status without a fault
abbrev pub status_line : ℕ → List ℕ
status_line status =
    if status == 0 then codes "nsq: done"
    else (if status == 2 then codes "nsq: bad command line"
    else (if status == 3 then codes "nsq: read failed"
    else (if status == 4 then codes "nsq: write failed" else codes "nsq: out of memory")))

abbrev pub line_of : ℕ → Option ScriptFault → List ℕ
line_of status (Some fault) = fault_line fault
line_of status None = status_line status
