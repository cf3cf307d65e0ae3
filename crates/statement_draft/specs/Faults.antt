-- Faults, and which of them counts.
use Rattle.std.specs.Prelude.{ℕ, Bool, true, ◌&&◌, ◌||◌, ◌==◌, nat_lt, nat_le, Option, Some, None, if◌then◌else◌}
use Rattle.statement_draft.specs.declared.faults.Reason.{Reason}
use Rattle.statement_draft.specs.declared.faults.Reason.TheVariants.{TooLarge, BadByte, OpenText, NumberTooWide, TextTooLong, Unexpected, UnknownName, Repeated, WrongType, OverLimit, NotRising, CheckFails}
use Rattle.statement_draft.specs.declared.faults.Fault.{Fault}

abbrev pub number : Reason → ℕ
number TooLarge = 1
number BadByte = 2
number OpenText = 3
number NumberTooWide = 4
number TextTooLong = 5
number Unexpected = 6
number UnknownName = 7
number Repeated = 8
number WrongType = 9
number OverLimit = 10
number NotRising = 11
number CheckFails = 12

-- the place that is first in the text counts, at one place the reason of the smaller number
abbrev pub stands_before : Fault → Fault → Bool
stands_before a b = nat_lt a.at b.at || (a.at == b.at && nat_le (number a.reason) (number b.reason))

abbrev pub sooner : Option Fault → Option Fault → Option Fault
sooner None b = b
sooner (Some a) None = Some a
sooner (Some a) (Some b) = if stands_before a b then Some a else Some b

-- the first fault, with one more where it holds
abbrev pub noted : Bool → Reason → ℕ → Option Fault → Option Fault
noted holds reason at first = if holds then sooner first (Some (record { at = at; reason = reason })) else first

-- with one more where there is a reason
abbrev pub noted_as : Option Reason → ℕ → Option Fault → Option Fault
noted_as None at first = first
noted_as (Some reason) at first = noted true reason at first
