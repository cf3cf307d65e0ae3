-- Reading from left to right: a value and the bytes after it, or nothing.
use Rattle.std.specs.Prelude.{◌≡◌, ℕ, zero, suc, List, [], ◌∷◌, length, take, drop, nat_eq, nat_lt, nat_le, Bool, ◌&&◌, ◌==◌, Option, Some, None, Result, Ok, Err, if◌then◌else◌}
use Rattle.std.specs.Int.{Width, w16, w32, w64, byte_len, from_be_bytes}
use Rattle.sql_base.specs.Tables.{all_differ}
use Rattle.sql_base.specs.declared.faults.Cause.{Cause}
use Rattle.sql_base.specs.declared.faults.Cause.TheVariants as cause
use Rattle.sql_base.specs.declared.faults.Fault.{Fault}
use Rattle.sql_base.specs.declared.faults.Fault.TheVariants as fault
use Rattle.sql_base.specs.declared.lock_names.Access.{Access}
use Rattle.sql_base.specs.declared.lock_names.Access.TheVariants.{Browse, Stable, Repeatable}
use Rattle.sql_base.specs.declared.lock_names.Lock.{Lock}
use Rattle.sql_base.specs.declared.lock_names.Mode.{Mode}
use Rattle.sql_base.specs.declared.lock_names.Mode.TheVariants as mode
use Rattle.dp_messages.specs.declared.faults.BytesFault.{BytesFault}
use Rattle.dp_messages.specs.declared.faults.BytesFault.TheVariants.{Malformed, NoMemory}
use Rattle.dp_messages.specs.declared.replies.Reply.{Reply}
use Rattle.dp_messages.specs.declared.replies.Reply.TheVariants.{Ended, Redrive, Locked, Failed, Row, NoRow, Done, Floor, DuplicateKey, AfterEnd, AfterPrepare, StillLive, NotKnown, NotPrepared, StampLow, NoSubset, WrongKey, BadCode, BadShape, TooManySubsets}
use Rattle.dp_messages.specs.declared.requests.Ask.{Ask}
use Rattle.dp_messages.specs.declared.requests.Ask.TheVariants.{BeginRead, BeginUpdate, BeginDelete, Continue, ReadKey, Insert, LockGranule, Prepare, EndCommit, EndUndo}
use Rattle.dp_messages.specs.declared.requests.Envelope.{Envelope}

abbrev pub Reader : Type 0 → Type 0
Reader X = List ℕ → Option (X × List ℕ)

infixl 10 ◌>>=◌
abbrev pub ◌>>=◌ : {A B : Type 0} → Option A → (A → Option B) → Option B
(Some x) >>= f = f x
None >>= f = None

-- What a function returned, with the bytes that it left, is what reading gives, unless memory ran out.
abbrev pub Fails : {Y : Type 0} → BytesFault → Option Y → Type 0
Fails NoMemory read = Unit {0}
Fails Malformed read = read ≡ None

abbrev pub Gives : {X Y : Type 0} → (X → Y) → Result X BytesFault → List ℕ → Option (Y × List ℕ) → Type 0
Gives view (Ok x) left read = read ≡ Some (view x, left)
Gives view (Err e) left read = Fails e read

-- ---- ways to make readers

-- one field behind the other
abbrev pub then_at : {X Y : Type 0} → Reader X → Reader Y → Reader (X × Y)
then_at f g bytes = f bytes >>= λ x. g x.1 >>= λ y. Some ((x.0, y.0), y.1)

abbrev pub as_at : {X Y : Type 0} → (X → Y) → Reader X → Reader Y
as_at f r bytes = r bytes >>= λ x. Some (f x.0, x.1)

-- only what passes the test
abbrev pub tested_at : {X : Type 0} → (X → Bool) → Reader X → Reader X
tested_at test r bytes = r bytes >>= λ x. if test x.0 then Some x else None

-- no field
abbrev pub nothing_at : Reader (Unit {0})
nothing_at bytes = Some (tt, bytes)

-- ---- fields

unfoldable pub byte_at : Reader ℕ
byte_at [] = None
byte_at (b ∷ rest) = Some (b, rest)

unfoldable pub number_at : Width → Reader ℕ
number_at w bytes = if nat_lt (length bytes) (byte_len w) then None else Some (from_be_bytes w (take (byte_len w) bytes), drop (byte_len w) bytes)

unfoldable pub front_at : ℕ → Reader (List ℕ)
front_at n bytes = if nat_lt (length bytes) n then None else Some (take n bytes, drop n bytes)

unfoldable pub sized_at : Reader (List ℕ)
sized_at bytes = byte_at bytes >>= λ n. front_at n.0 n.1

unfoldable pub counted_at : Reader (List ℕ)
counted_at bytes = number_at w16 bytes >>= λ n. front_at n.0 n.1

unfoldable pub columns_at : Reader (List ℕ)
columns_at bytes = tested_at (all_differ nat_eq) sized_at bytes

abbrev pub flagged : ℕ → Reader (Option (List ℕ))
flagged flag rest = if flag == 0 then Some (None, rest) else if flag == 1 then as_at Some counted_at rest else None

unfoldable pub optional_at : Reader (Option (List ℕ))
optional_at bytes = byte_at bytes >>= λ b. flagged b.0 b.1

unfoldable pub rows_from : ℕ → Reader (List (List ℕ))
rows_from zero bytes = Some ([], bytes)
rows_from (suc n) bytes = counted_at bytes >>= λ row. rows_from n row.1 >>= λ rows. Some (row.0 ∷ rows.0, rows.1)

unfoldable pub rows_at : Reader (List (List ℕ))
rows_at bytes = number_at w16 bytes >>= λ n. rows_from n.0 n.1

abbrev pub access_of : ℕ → Reader Access
access_of b rest = if b == 1 then Some (Browse, rest) else if b == 2 then Some (Stable, rest) else if b == 3 then Some (Repeatable, rest) else None

unfoldable pub access_at : Reader Access
access_at bytes = byte_at bytes >>= λ b. access_of b.0 b.1

abbrev pub mode_of : ℕ → Reader Mode
mode_of b rest = if b == 1 then Some (mode.S, rest) else if b == 2 then Some (mode.X, rest) else None

unfoldable pub mode_at : Reader Mode
mode_at bytes = byte_at bytes >>= λ b. mode_of b.0 b.1

abbrev pub cause_of : ℕ → Reader Cause
cause_of b rest = if b == 1 then Some (cause.Visits, rest) else if b == 2 then Some (cause.Lock, rest) else if b == 3 then Some (cause.Fault, rest) else if b == 4 then Some (cause.Buffer, rest) else None

unfoldable pub cause_at : Reader Cause
cause_at bytes = byte_at bytes >>= λ b. cause_of b.0 b.1

abbrev pub fault_of : ℕ → Reader Fault
fault_of b rest = if b == 1 then Some (fault.Overflow, rest) else if b == 2 then Some (fault.ZeroDivide, rest) else if b == 3 then as_at fault.CheckFailed (number_at w32) rest else None

unfoldable pub fault_at : Reader Fault
fault_at bytes = byte_at bytes >>= λ b. fault_of b.0 b.1

unfoldable pub lock_at : Reader Lock
lock_at bytes =
    as_at (λ x. record { holder = record { session = x.0; ordinal = x.1.0 }; prefix = x.1.1.0; mode = x.1.1.1 })
    (then_at (number_at w32) (then_at (number_at w32) (then_at sized_at mode_at))) bytes

-- ---- requests

unfoldable pub begin_read_at : Reader Ask
begin_read_at bytes =
    as_at (λ x. BeginRead x.0 x.1.0 (record { low = x.1.1.0; high = x.1.1.1.0 }) x.1.1.1.1.0 x.1.1.1.1.1)
    (then_at access_at (then_at sized_at (then_at sized_at (then_at sized_at (then_at optional_at columns_at))))) bytes

unfoldable pub begin_update_at : Reader Ask
begin_update_at bytes =
    as_at (λ x. BeginUpdate x.0 x.1.0 (record { low = x.1.1.0; high = x.1.1.1.0 }) x.1.1.1.1.0 x.1.1.1.1.1)
    (then_at access_at (then_at sized_at (then_at sized_at (then_at sized_at (then_at optional_at counted_at))))) bytes

unfoldable pub begin_delete_at : Reader Ask
begin_delete_at bytes =
    as_at (λ x. BeginDelete x.0 x.1.0 (record { low = x.1.1.0; high = x.1.1.1.0 }) x.1.1.1.1)
    (then_at access_at (then_at sized_at (then_at sized_at (then_at sized_at optional_at)))) bytes

unfoldable pub continue_at : Reader Ask
continue_at bytes = as_at (λ x. Continue x.0 x.1) (then_at (number_at w32) sized_at) bytes

unfoldable pub read_key_at : Reader Ask
read_key_at bytes = as_at (λ x. ReadKey x.0 x.1.0 x.1.1.0 x.1.1.1) (then_at access_at (then_at sized_at (then_at optional_at columns_at))) bytes

unfoldable pub lock_granule_at : Reader Ask
lock_granule_at bytes = as_at (λ x. LockGranule x.0 x.1) (then_at sized_at mode_at) bytes

abbrev pub ask_of : ℕ → Reader Ask
ask_of kind rest =
    if kind == 1 then begin_read_at rest else
    if kind == 2 then begin_update_at rest else
    if kind == 3 then begin_delete_at rest else
    if kind == 4 then continue_at rest else
    if kind == 5 then read_key_at rest else
    if kind == 6 then as_at Insert counted_at rest else
    if kind == 7 then lock_granule_at rest else
    if kind == 8 then Some (Prepare, rest) else
    if kind == 9 then as_at EndCommit (number_at w64) rest else
    if kind == 10 then Some (EndUndo, rest) else None

unfoldable pub ask_at : Reader Ask
ask_at bytes = byte_at bytes >>= λ kind. ask_of kind.0 kind.1

unfoldable pub opener_at : Reader ℕ
opener_at bytes = tested_at (λ n. nat_le 1 n && nat_le n 8) (number_at w32) bytes

unfoldable pub sync_at : Reader ℕ
sync_at bytes = tested_at (nat_le 1) (number_at w64) bytes

unfoldable pub ordinal_at : Reader ℕ
ordinal_at bytes = tested_at (nat_le 1) (number_at w32) bytes

unfoldable pub envelope_at : Reader Envelope
envelope_at bytes =
    as_at (λ x. record { opener = x.0; sync = x.1.0; request = record { ordinal = x.1.1.0; ask = x.1.1.1 } })
    (then_at opener_at (then_at sync_at (then_at ordinal_at ask_at))) bytes

-- ---- replies

unfoldable pub ended_at : Reader Reply
ended_at bytes = as_at (λ x. Ended x.0 x.1) (then_at rows_at (number_at w32)) bytes

unfoldable pub redrive_at : Reader Reply
redrive_at bytes =
    as_at (λ x. Redrive x.0 x.1.0 x.1.1.0 x.1.1.1.0 x.1.1.1.1)
    (then_at (number_at w32) (then_at sized_at (then_at cause_at (then_at rows_at (number_at w32))))) bytes

unfoldable pub failed_at : Reader Reply
failed_at bytes = as_at (λ x. Failed x.0 x.1) (then_at sized_at fault_at) bytes

abbrev pub reply_of : ℕ → Reader Reply
reply_of kind rest =
    if kind == 1 then ended_at rest else
    if kind == 2 then redrive_at rest else
    if kind == 3 then as_at Locked lock_at rest else
    if kind == 4 then failed_at rest else
    if kind == 5 then as_at Row counted_at rest else
    if kind == 6 then Some (NoRow, rest) else
    if kind == 7 then Some (Done, rest) else
    if kind == 8 then as_at Floor (number_at w64) rest else
    if kind == 9 then as_at DuplicateKey sized_at rest else
    if kind == 10 then as_at AfterEnd (number_at w32) rest else
    if kind == 11 then as_at AfterPrepare (number_at w64) rest else
    if kind == 12 then as_at StillLive (number_at w32) rest else
    if kind == 13 then Some (NotKnown, rest) else
    if kind == 14 then Some (NotPrepared, rest) else
    if kind == 15 then as_at StampLow (number_at w64) rest else
    if kind == 16 then Some (NoSubset, rest) else
    if kind == 17 then as_at WrongKey sized_at rest else
    if kind == 18 then Some (BadCode, rest) else
    if kind == 19 then Some (BadShape, rest) else
    if kind == 20 then Some (TooManySubsets, rest) else None

unfoldable pub reply_at : Reader Reply
reply_at bytes = byte_at bytes >>= λ kind. reply_of kind.0 kind.1

-- ---- all of the bytes

abbrev pub ended_here : {X : Type 0} → X × List ℕ → Option X
ended_here x = if length x.1 == 0 then Some x.0 else None

abbrev pub whole : {X : Type 0} → Reader X → List ℕ → Option X
whole r bytes = r bytes >>= ended_here

-- What a function over all of the bytes returned.
abbrev pub GivesWhole : {X : Type 0} → Result X BytesFault → Option X → Type 0
GivesWhole (Ok x) read = read ≡ Some x
GivesWhole (Err e) read = Fails e read
