-- Worked rows of messages: the bytes of a request and a reply of each kind, and bytes that spell none.
use Rattle.std.proofs.Common.{◌≡◌, ℕ, List, [], ◌∷◌, ◌++◌, Some, None, refl}
use Rattle.std.specs.Prelude.{codes}
use Rattle.sql_base.specs.declared.faults.Cause.TheVariants as cause
use Rattle.sql_base.specs.declared.faults.Fault.TheVariants as fault
use Rattle.sql_base.specs.declared.lock_names.Access.TheVariants.{Browse, Stable, Repeatable}
use Rattle.sql_base.specs.declared.lock_names.Mode.TheVariants.{S, X}
use Rattle.dp_messages.specs.declared.replies.Reply.TheVariants as reply
use Rattle.dp_messages.specs.declared.requests.Ask.{Ask}
use Rattle.dp_messages.specs.declared.requests.Ask.TheVariants as ask
use Rattle.dp_messages.specs.declared.requests.Envelope.{Envelope}
use Rattle.dp_messages.specs.Laws.{IsNoReply, IsNoRequest}
use Rattle.dp_messages.specs.Spelling.{ask_bytes, reply_bytes, request_bytes}
use Rattle.dp_messages.specs.Reading.{byte_at, number_at, front_at, sized_at, counted_at, columns_at, optional_at, access_at, cause_at, ask_at, opener_at, sync_at, ordinal_at, envelope_at, read_key_at, redrive_at, reply_at}
use Rattle.dp_messages.proofs.Meanings.{no_reply, no_request}

-- attempt 3 of session 2 asks, as its request number 258
abbrev envelope : Ask → Envelope
envelope a = record { opener = 2; sync = 258; request = record { ordinal = 3; ask = a } }

-- the bytes in front of what it asks
abbrev head : List ℕ
head = 0 ∷ 0 ∷ 0 ∷ 2 ∷ 0 ∷ 0 ∷ 0 ∷ 0 ∷ 0 ∷ 0 ∷ 1 ∷ 2 ∷ 0 ∷ 0 ∷ 0 ∷ 3 ∷ []

goes_on : request_bytes (envelope (ask.Continue 1 (codes "k"))) ≡ head ++ 4 ∷ 0 ∷ 0 ∷ 0 ∷ 1 ∷ 1 ∷ 107 ∷ []
goes_on = refl

-- the granule is the file, the bounds are the keys 16 and 32, the filter is the code 2 1 65, and the columns are 1 and 0
reads : ask_bytes (ask.BeginRead Repeatable [] (record { low = 16 ∷ []; high = 32 ∷ [] }) (Some (2 ∷ 1 ∷ 65 ∷ [])) (1 ∷ 0 ∷ [])) ≡ 1 ∷ 3 ∷ 0 ∷ 1 ∷ 16 ∷ 1 ∷ 32 ∷ 1 ∷ 0 ∷ 3 ∷ 2 ∷ 1 ∷ 65 ∷ 2 ∷ 1 ∷ 0 ∷ []
reads = refl

updates : ask_bytes (ask.BeginUpdate Stable (7 ∷ []) (record { low = 7 ∷ 0 ∷ []; high = 7 ∷ 255 ∷ [] }) None (1 ∷ 1 ∷ 0 ∷ 2 ∷ 3 ∷ 1 ∷ [])) ≡ 2 ∷ 2 ∷ 1 ∷ 7 ∷ 2 ∷ 7 ∷ 0 ∷ 2 ∷ 7 ∷ 255 ∷ 0 ∷ 0 ∷ 6 ∷ 1 ∷ 1 ∷ 0 ∷ 2 ∷ 3 ∷ 1 ∷ []
updates = refl

deletes : ask_bytes (ask.BeginDelete Stable [] (record { low = 0 ∷ []; high = 9 ∷ [] }) None) ≡ 3 ∷ 2 ∷ 0 ∷ 1 ∷ 0 ∷ 1 ∷ 9 ∷ 0 ∷ []
deletes = refl

reads_a_key : ask_bytes (ask.ReadKey Browse (5 ∷ []) None (0 ∷ [])) ≡ 5 ∷ 1 ∷ 1 ∷ 5 ∷ 0 ∷ 1 ∷ 0 ∷ []
reads_a_key = refl

inserts : ask_bytes (ask.Insert (codes "row")) ≡ 6 ∷ 0 ∷ 3 ∷ 114 ∷ 111 ∷ 119 ∷ []
inserts = refl

locks : ask_bytes (ask.LockGranule [] X) ≡ 7 ∷ 0 ∷ 2 ∷ []
locks = refl

prepares : ask_bytes ask.Prepare ≡ 8 ∷ []
prepares = refl

commits : ask_bytes (ask.EndCommit 65536) ≡ 9 ∷ 0 ∷ 0 ∷ 0 ∷ 0 ∷ 0 ∷ 1 ∷ 0 ∷ 0 ∷ []
commits = refl

undoes : ask_bytes ask.EndUndo ≡ 10 ∷ []
undoes = refl

-- ---- replies

ended : reply_bytes (reply.Ended (codes "ab" ∷ [] ∷ []) 0) ≡ 1 ∷ 0 ∷ 2 ∷ 0 ∷ 2 ∷ 97 ∷ 98 ∷ 0 ∷ 0 ∷ 0 ∷ 0 ∷ 0 ∷ 0 ∷ []
ended = refl

redrives : reply_bytes (reply.Redrive 5 (9 ∷ []) cause.Lock [] 2) ≡ 2 ∷ 0 ∷ 0 ∷ 0 ∷ 5 ∷ 1 ∷ 9 ∷ 2 ∷ 0 ∷ 0 ∷ 0 ∷ 0 ∷ 0 ∷ 2 ∷ []
redrives = refl

-- the lock of attempt 4 of session 3: the session stands first
locked : reply_bytes (reply.Locked (record { holder = record { session = 3; ordinal = 4 }; prefix = 8 ∷ []; mode = S })) ≡ 3 ∷ 0 ∷ 0 ∷ 0 ∷ 3 ∷ 0 ∷ 0 ∷ 0 ∷ 4 ∷ 1 ∷ 8 ∷ 1 ∷ []
locked = refl

failed : reply_bytes (reply.Failed (8 ∷ []) (fault.CheckFailed 2)) ≡ 4 ∷ 1 ∷ 8 ∷ 3 ∷ 0 ∷ 0 ∷ 0 ∷ 2 ∷ []
failed = refl

divided_by_zero : reply_bytes (reply.Failed [] fault.ZeroDivide) ≡ 4 ∷ 0 ∷ 2 ∷ []
divided_by_zero = refl

row : reply_bytes (reply.Row (codes "r")) ≡ 5 ∷ 0 ∷ 1 ∷ 114 ∷ []
row = refl

floor : reply_bytes (reply.Floor 513) ≡ 8 ∷ 0 ∷ 0 ∷ 0 ∷ 0 ∷ 0 ∷ 0 ∷ 2 ∷ 1 ∷ []
floor = refl

after_end : reply_bytes (reply.AfterEnd 256) ≡ 10 ∷ 0 ∷ 0 ∷ 1 ∷ 0 ∷ []
after_end = refl

wrong_key : reply_bytes (reply.WrongKey (1 ∷ 2 ∷ [])) ≡ 17 ∷ 2 ∷ 1 ∷ 2 ∷ []
wrong_key = refl

too_many : reply_bytes reply.TooManySubsets ≡ 20 ∷ []
too_many = refl

-- ---- bytes that spell no request

no_byte : IsNoRequest []
unfolding envelope_at opener_at number_at
no_byte = no_request [] refl

-- a byte behind EndUndo
trailing_byte : IsNoRequest (head ++ 10 ∷ 0 ∷ [])
unfolding envelope_at opener_at sync_at ordinal_at number_at ask_at byte_at
trailing_byte = no_request (head ++ 10 ∷ 0 ∷ []) refl

-- EndCommit without the last byte of its stamp
cut_short : IsNoRequest (head ++ 9 ∷ 0 ∷ 0 ∷ 0 ∷ 0 ∷ 0 ∷ 0 ∷ 1 ∷ [])
unfolding envelope_at opener_at sync_at ordinal_at number_at ask_at byte_at
cut_short = no_request (head ++ 9 ∷ 0 ∷ 0 ∷ 0 ∷ 0 ∷ 0 ∷ 0 ∷ 1 ∷ []) refl

opener_0 : IsNoRequest (0 ∷ 0 ∷ 0 ∷ 0 ∷ 0 ∷ 0 ∷ 0 ∷ 0 ∷ 0 ∷ 0 ∷ 0 ∷ 1 ∷ 0 ∷ 0 ∷ 0 ∷ 1 ∷ 8 ∷ [])
unfolding envelope_at opener_at number_at
opener_0 = no_request (0 ∷ 0 ∷ 0 ∷ 0 ∷ 0 ∷ 0 ∷ 0 ∷ 0 ∷ 0 ∷ 0 ∷ 0 ∷ 1 ∷ 0 ∷ 0 ∷ 0 ∷ 1 ∷ 8 ∷ []) refl

opener_9 : IsNoRequest (0 ∷ 0 ∷ 0 ∷ 9 ∷ 0 ∷ 0 ∷ 0 ∷ 0 ∷ 0 ∷ 0 ∷ 0 ∷ 1 ∷ 0 ∷ 0 ∷ 0 ∷ 1 ∷ 8 ∷ [])
unfolding envelope_at opener_at number_at
opener_9 = no_request (0 ∷ 0 ∷ 0 ∷ 9 ∷ 0 ∷ 0 ∷ 0 ∷ 0 ∷ 0 ∷ 0 ∷ 0 ∷ 1 ∷ 0 ∷ 0 ∷ 0 ∷ 1 ∷ 8 ∷ []) refl

sync_0 : IsNoRequest (0 ∷ 0 ∷ 0 ∷ 1 ∷ 0 ∷ 0 ∷ 0 ∷ 0 ∷ 0 ∷ 0 ∷ 0 ∷ 0 ∷ 0 ∷ 0 ∷ 0 ∷ 1 ∷ 8 ∷ [])
unfolding envelope_at opener_at sync_at number_at
sync_0 = no_request (0 ∷ 0 ∷ 0 ∷ 1 ∷ 0 ∷ 0 ∷ 0 ∷ 0 ∷ 0 ∷ 0 ∷ 0 ∷ 0 ∷ 0 ∷ 0 ∷ 0 ∷ 1 ∷ 8 ∷ []) refl

-- a column that is named twice
column_twice : IsNoRequest (head ++ 5 ∷ 1 ∷ 1 ∷ 5 ∷ 0 ∷ 2 ∷ 0 ∷ 0 ∷ [])
unfolding envelope_at opener_at sync_at ordinal_at number_at ask_at byte_at read_key_at access_at sized_at front_at optional_at columns_at
column_twice = no_request (head ++ 5 ∷ 1 ∷ 1 ∷ 5 ∷ 0 ∷ 2 ∷ 0 ∷ 0 ∷ []) refl

-- a row of 65,535 bytes, of which there is one
long_row : IsNoRequest (head ++ 6 ∷ 255 ∷ 255 ∷ 1 ∷ [])
unfolding envelope_at opener_at sync_at ordinal_at number_at ask_at byte_at counted_at front_at
long_row = no_request (head ++ 6 ∷ 255 ∷ 255 ∷ 1 ∷ []) refl

-- ---- bytes that spell no reply

kind_21 : IsNoReply (21 ∷ [])
unfolding reply_at byte_at
kind_21 = no_reply (21 ∷ []) refl

done_twice : IsNoReply (7 ∷ 7 ∷ [])
unfolding reply_at byte_at
done_twice = no_reply (7 ∷ 7 ∷ []) refl

cause_5 : IsNoReply (2 ∷ 0 ∷ 0 ∷ 0 ∷ 5 ∷ 1 ∷ 9 ∷ 5 ∷ 0 ∷ 0 ∷ 0 ∷ 0 ∷ 0 ∷ 2 ∷ [])
unfolding reply_at byte_at redrive_at number_at sized_at front_at cause_at
cause_5 = no_reply (2 ∷ 0 ∷ 0 ∷ 0 ∷ 5 ∷ 1 ∷ 9 ∷ 5 ∷ 0 ∷ 0 ∷ 0 ∷ 0 ∷ 0 ∷ 2 ∷ []) refl
