-- The bytes of requests and replies, and the ranges in which they have such bytes.
use Rattle.std.specs.Prelude.{◌≡◌, ◌≤◌, ◌<◌, ◌^◌, ℕ, List, [], ◌∷◌, ◌++◌, length, flat_map, nat_eq, Option, Some, None, IfSome, true}
use Rattle.std.specs.List.{AllByRecursion}
use Rattle.std.specs.Int.{w16, w32, w64, to_be_bytes}
use Rattle.sql_base.specs.Codes.{counted}
use Rattle.sql_base.specs.Tables.{all_differ}
use Rattle.sql_base.specs.Scripts.{Lies}
use Rattle.sql_base.specs.declared.faults.Cause.{Cause}
use Rattle.sql_base.specs.declared.faults.Cause.TheVariants as cause
use Rattle.sql_base.specs.declared.faults.Fault.{Fault}
use Rattle.sql_base.specs.declared.faults.Fault.TheVariants as fault
use Rattle.sql_base.specs.declared.key_ranges.KeyRange.{KeyRange}
use Rattle.sql_base.specs.declared.lock_names.Access.{Access}
use Rattle.sql_base.specs.declared.lock_names.Access.TheVariants.{Browse, Stable, Repeatable}
use Rattle.sql_base.specs.declared.lock_names.Lock.{Lock}
use Rattle.sql_base.specs.declared.lock_names.Mode.{Mode}
use Rattle.sql_base.specs.declared.lock_names.Mode.TheVariants as mode
use Rattle.dp_messages.specs.declared.replies.Reply.{Reply}
use Rattle.dp_messages.specs.declared.replies.Reply.TheVariants.{Ended, Redrive, Locked, Failed, Row, NoRow, Done, Floor, DuplicateKey, AfterEnd, AfterPrepare, StillLive, NotKnown, NotPrepared, StampLow, NoSubset, WrongKey, BadCode, BadShape, TooManySubsets}
use Rattle.dp_messages.specs.declared.requests.Ask.{Ask}
use Rattle.dp_messages.specs.declared.requests.Ask.TheVariants.{BeginRead, BeginUpdate, BeginDelete, Continue, ReadKey, Insert, LockGranule, Prepare, EndCommit, EndUndo}
use Rattle.dp_messages.specs.declared.requests.Envelope.{Envelope}

-- numbers of four and of eight bytes, the highest byte first
abbrev pub four : ℕ → List ℕ
four n = to_be_bytes w32 n

abbrev pub eight : ℕ → List ℕ
eight n = to_be_bytes w64 n

-- a key, a prefix, or a list of columns: its length in one byte, and its bytes
abbrev pub sized : List ℕ → List ℕ
sized bytes = length bytes ∷ bytes

-- a flag, and the code where there is one
abbrev pub optional : Option (List ℕ) → List ℕ
optional None = 0 ∷ []
optional (Some code) = 1 ∷ counted code

-- how many rows in two bytes, and each row with its length in two bytes before it
abbrev pub rows_bytes : List (List ℕ) → List ℕ
rows_bytes rows = to_be_bytes w16 (length rows) ++ flat_map counted rows

abbrev pub access_byte : Access → ℕ
access_byte Browse = 1
access_byte Stable = 2
access_byte Repeatable = 3

abbrev pub mode_byte : Mode → ℕ
mode_byte mode.S = 1
mode_byte mode.X = 2

abbrev pub cause_byte : Cause → ℕ
cause_byte cause.Visits = 1
cause_byte cause.Lock = 2
cause_byte cause.Fault = 3
cause_byte cause.Buffer = 4

abbrev pub fault_bytes : Fault → List ℕ
fault_bytes fault.Overflow = 1 ∷ []
fault_bytes fault.ZeroDivide = 2 ∷ []
fault_bytes (fault.CheckFailed number) = 3 ∷ four number

abbrev pub lock_bytes : Lock → List ℕ
lock_bytes lock = four lock.holder.session ++ four lock.holder.ordinal ++ sized lock.prefix ++ mode_byte lock.mode ∷ []

-- what each request that begins a subset has first
abbrev pub begin_bytes : Access → List ℕ → KeyRange → Option (List ℕ) → List ℕ
begin_bytes access granule range filter = access_byte access ∷ sized granule ++ sized range.low ++ sized range.high ++ optional filter

-- a request is its kind and its fields
abbrev pub ask_bytes : Ask → List ℕ
ask_bytes (BeginRead access granule range filter columns) = 1 ∷ begin_bytes access granule range filter ++ sized columns
ask_bytes (BeginUpdate access granule range filter sets) = 2 ∷ begin_bytes access granule range filter ++ counted sets
ask_bytes (BeginDelete access granule range filter) = 3 ∷ begin_bytes access granule range filter
ask_bytes (Continue subset last) = 4 ∷ four subset ++ sized last
ask_bytes (ReadKey access key filter columns) = 5 ∷ access_byte access ∷ sized key ++ optional filter ++ sized columns
ask_bytes (Insert row) = 6 ∷ counted row
ask_bytes (LockGranule prefix mode) = 7 ∷ sized prefix ++ mode_byte mode ∷ []
ask_bytes Prepare = 8 ∷ []
ask_bytes (EndCommit stamp) = 9 ∷ eight stamp
ask_bytes EndUndo = 10 ∷ []

-- an envelope is its opener, its sync, the ordinal, and what is asked
abbrev pub request_bytes : Envelope → List ℕ
request_bytes e = four e.opener ++ eight e.sync ++ four e.request.ordinal ++ ask_bytes e.request.ask

-- a reply is its kind and its fields
abbrev pub reply_bytes : Reply → List ℕ
reply_bytes (Ended rows changed) = 1 ∷ rows_bytes rows ++ four changed
reply_bytes (Redrive subset last why rows changed) = 2 ∷ four subset ++ sized last ++ cause_byte why ∷ rows_bytes rows ++ four changed
reply_bytes (Locked lock) = 3 ∷ lock_bytes lock
reply_bytes (Failed key why) = 4 ∷ sized key ++ fault_bytes why
reply_bytes (Row row) = 5 ∷ counted row
reply_bytes NoRow = 6 ∷ []
reply_bytes Done = 7 ∷ []
reply_bytes (Floor floor) = 8 ∷ eight floor
reply_bytes (DuplicateKey key) = 9 ∷ sized key
reply_bytes (AfterEnd ended) = 10 ∷ four ended
reply_bytes (AfterPrepare floor) = 11 ∷ eight floor
reply_bytes (StillLive ordinal) = 12 ∷ four ordinal
reply_bytes NotKnown = 13 ∷ []
reply_bytes NotPrepared = 14 ∷ []
reply_bytes (StampLow floor) = 15 ∷ eight floor
reply_bytes NoSubset = 16 ∷ []
reply_bytes (WrongKey kept) = 17 ∷ sized kept
reply_bytes BadCode = 18 ∷ []
reply_bytes BadShape = 19 ∷ []
reply_bytes TooManySubsets = 20 ∷ []

-- a number that has four bytes, and one that has eight
abbrev pub HasFour : ℕ → Type 0
HasFour n = n < 2 ^ 32

abbrev pub HasEight : ℕ → Type 0
HasEight n = n < 2 ^ 64

-- a list whose length has one byte, and one whose length has two
abbrev pub IsShort : {A : Type 0} → List A → Type 0
IsShort xs = length xs ≤ 255

abbrev pub IsLong : {A : Type 0} → List A → Type 0
IsLong xs = length xs ≤ 65535

-- columns, none twice
abbrev pub AreDistinct : List ℕ → Type 0
AreDistinct columns = IsShort columns × (all_differ nat_eq columns ≡ true)

abbrev pub AreRowBytes : List (List ℕ) → Type 0
AreRowBytes rows = IsLong rows × AllByRecursion IsLong rows

abbrev pub IsFault : Fault → Type 0
IsFault fault.Overflow = Unit {0}
IsFault fault.ZeroDivide = Unit {0}
IsFault (fault.CheckFailed number) = HasFour number

abbrev pub IsLock : Lock → Type 0
IsLock lock = HasFour lock.holder.session × HasFour lock.holder.ordinal × IsShort lock.prefix

-- what can be asked in a message
abbrev pub IsAsk : Ask → Type 0
IsAsk (BeginRead access granule range filter columns) = IsShort granule × IsShort range.low × IsShort range.high × IfSome filter IsLong × AreDistinct columns
IsAsk (BeginUpdate access granule range filter sets) = IsShort granule × IsShort range.low × IsShort range.high × IfSome filter IsLong × IsLong sets
IsAsk (BeginDelete access granule range filter) = IsShort granule × IsShort range.low × IsShort range.high × IfSome filter IsLong
IsAsk (Continue subset last) = HasFour subset × IsShort last
IsAsk (ReadKey access key filter columns) = IsShort key × IfSome filter IsLong × AreDistinct columns
IsAsk (Insert row) = IsLong row
IsAsk (LockGranule prefix mode) = IsShort prefix
IsAsk Prepare = Unit {0}
IsAsk (EndCommit stamp) = HasEight stamp
IsAsk EndUndo = Unit {0}

-- an envelope that has a spelling
pub record IsEnvelope (e : Envelope) : Type 0 where
  pub opener : Lies 1 8 e.opener
  pub sync : (1 ≤ e.sync) × HasEight e.sync
  pub ordinal : (1 ≤ e.request.ordinal) × HasFour e.request.ordinal
  pub ask : IsAsk e.request.ask

-- a reply that has a spelling
abbrev pub IsReply : Reply → Type 0
IsReply (Ended rows changed) = AreRowBytes rows × HasFour changed
IsReply (Redrive subset last why rows changed) = HasFour subset × IsShort last × AreRowBytes rows × HasFour changed
IsReply (Locked lock) = IsLock lock
IsReply (Failed key why) = IsShort key × IsFault why
IsReply (Row row) = IsLong row
IsReply NoRow = Unit {0}
IsReply Done = Unit {0}
IsReply (Floor floor) = HasEight floor
IsReply (DuplicateKey key) = IsShort key
IsReply (AfterEnd ended) = HasFour ended
IsReply (AfterPrepare floor) = HasEight floor
IsReply (StillLive ordinal) = HasFour ordinal
IsReply NotKnown = Unit {0}
IsReply NotPrepared = Unit {0}
IsReply (StampLow floor) = HasEight floor
IsReply NoSubset = Unit {0}
IsReply (WrongKey kept) = IsShort kept
IsReply BadCode = Unit {0}
IsReply BadShape = Unit {0}
IsReply TooManySubsets = Unit {0}
