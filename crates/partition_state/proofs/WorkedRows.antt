-- Worked rows of requests at a partition with the records 1 to 5, which hold 10 to 50.
use Rattle.std.proofs.Common.{◌≡◌, ℕ, ◌*◌, pos, List, [], ◌∷◌, ◌++◌, map, Option, Some, None, refl, lit≤}
use Rattle.sql_base.specs.Rows.{key_value, packed}
use Rattle.partition_state.specs.State.{State, opening}
use Rattle.partition_state.specs.Step.{step}
use Rattle.partition_state.specs.History.{IsLegal}
use Rattle.sql_base.specs.declared.faults.Cause.TheVariants as cause
use Rattle.sql_base.specs.declared.lock_names.Access.{Access}
use Rattle.sql_base.specs.declared.lock_names.Access.TheVariants.{Stable, Repeatable}
use Rattle.sql_base.specs.declared.lock_names.Mode.TheVariants.{S, X}
use Rattle.sql_base.specs.declared.lock_names.TxnName.{TxnName}
use Rattle.sql_base.specs.declared.scripts.Limits.{Limits}
use Rattle.sql_base.specs.declared.tables.ColumnKind.TheVariants.{Int}
use Rattle.sql_base.specs.declared.tables.TableDef.{TableDef}
use Rattle.sql_base.specs.declared.values.Value.{Value}
use Rattle.sql_base.specs.declared.values.Value.TheVariants as value
use Rattle.key_sequenced.specs.declared.Cell.{Cell}
use Rattle.dp_messages.specs.declared.replies.Reply.{Reply}
use Rattle.dp_messages.specs.declared.replies.Reply.TheVariants.{Ended, Redrive, Locked, Done, Floor, DuplicateKey, NotKnown, StampLow, AfterEnd, WrongKey}
use Rattle.dp_messages.specs.declared.requests.Ask.{Ask}
use Rattle.dp_messages.specs.declared.requests.Ask.TheVariants.{BeginRead, Continue, Insert, Prepare, EndCommit, EndUndo}
use Rattle.partition_state.specs.declared.entries.Entry.{Entry}

abbrev table : TableDef
table = record { name = []; columns = record { name = []; kind = Int } ∷ record { name = []; kind = Int } ∷ []; key = 0 ∷ []; checks = []; firsts = [] }

abbrev limits : ℕ → Limits
limits quantum = record { quantum = quantum; buffer = 4096; patience = 8; servers = 2; restart = 0 }

abbrev key : ℕ → List ℕ
key k = key_value Int (value.Int (pos k))

abbrev low : List ℕ
low = 0 ∷ 0 ∷ 0 ∷ 0 ∷ 0 ∷ 0 ∷ 0 ∷ 0 ∷ []

abbrev high : List ℕ
high = 0xFF ∷ 0xFF ∷ 0xFF ∷ 0xFF ∷ 0xFF ∷ 0xFF ∷ 0xFF ∷ 0xFF ∷ []

abbrev row_with : ℕ → ℕ → List Value
row_with k v = value.Int (pos k) ∷ value.Int (pos v) ∷ []

abbrev row : ℕ → List Value
row k = row_with k (10 * k)

abbrev both : ℕ → List ℕ
both k = packed (0 ∷ 1 ∷ []) (row k)

abbrev opened : ℕ → List ℕ → State
opened quantum ks = opening table 0 (limits quantum) (map row ks)

-- a request with its opener and sync
pub record Sent : Type 0 where
  pub opener : ℕ
  pub sync : ℕ
  pub ask : Ask

-- the replies to requests of each opener's first attempt
abbrev replies : State → List Sent → List (Option Reply)
replies p [] = []
replies p (s ∷ ss) =
    let stepped = step p s.opener s.sync (record { ordinal = 1; ask = s.ask }) in
    stepped.reply ∷ replies stepped.state ss

abbrev sent : ℕ → ℕ → Ask → Sent
sent opener sync ask = record { opener = opener; sync = sync; ask = ask }

abbrev scan : Access → List ℕ → Ask
scan access from = BeginRead access [] (record { low = from; high = high }) None (0 ∷ 1 ∷ [])

-- five records by quanta of two
scan_of_five : replies (opened 2 (1 ∷ 2 ∷ 3 ∷ 4 ∷ 5 ∷ [])) (sent 1 1 (scan Repeatable low) ∷ sent 1 2 (Continue 1 (key 2)) ∷ sent 1 3 (Continue 1 (key 4)) ∷ sent 1 4 Prepare ∷ sent 1 5 (EndCommit 1) ∷ [])
    ≡ Some (Redrive 1 (key 2) cause.Visits (both 1 ∷ both 2 ∷ []) 0) ∷ Some (Redrive 1 (key 4) cause.Visits (both 3 ∷ both 4 ∷ []) 0) ∷ Some (Ended (both 5 ∷ []) 0) ∷ Some (Floor 0) ∷ Some Done ∷ []
scan_of_five = refl

-- four records: the second quantum comes to the end
scan_of_four : replies (opened 2 (1 ∷ 2 ∷ 3 ∷ 4 ∷ [])) (sent 1 1 (scan Repeatable low) ∷ sent 1 2 (Continue 1 (key 2)) ∷ sent 1 3 Prepare ∷ sent 1 4 (EndCommit 1) ∷ [])
    ≡ Some (Redrive 1 (key 2) cause.Visits (both 1 ∷ both 2 ∷ []) 0) ∷ Some (Ended (both 3 ∷ both 4 ∷ []) 0) ∷ Some (Floor 0) ∷ Some Done ∷ []
scan_of_four = refl

-- no record
scan_of_none : replies (opened 2 []) (sent 1 1 (scan Repeatable low) ∷ sent 1 2 Prepare ∷ sent 1 3 (EndCommit 1) ∷ []) ≡ Some (Ended [] 0) ∷ Some (Floor 0) ∷ Some Done ∷ []
scan_of_none = refl

abbrev entry : ℕ → Ask → Reply → Entry
entry sync ask reply = record { opener = 1; sync = sync; request = record { ordinal = 1; ask = ask }; reply = reply }

-- the same as a history
history_of_none : IsLegal (opened 2 []) (entry 1 (scan Repeatable low) (Ended [] 0) ∷ entry 2 Prepare (Floor 0) ∷ entry 3 (EndCommit 1) Done ∷ [])
history_of_none = ((lit≤ tt, lit≤ tt), refl, ((lit≤ tt, lit≤ tt), refl, ((lit≤ tt, lit≤ tt), refl, tt)))

-- a repeat has no new reply, and a key that isn't the block's is refused
repeats_and_wrong_keys : replies (opened 2 (1 ∷ 2 ∷ 3 ∷ [])) (sent 1 1 (scan Repeatable low) ∷ sent 1 1 (scan Repeatable low) ∷ sent 1 2 (Continue 1 (key 1)) ∷ [])
    ≡ Some (Redrive 1 (key 2) cause.Visits (both 1 ∷ both 2 ∷ []) 0) ∷ None ∷ Some (WrongKey (key 2)) ∷ []
repeats_and_wrong_keys = refl

abbrev first : TxnName
first = record { session = 1; ordinal = 1 }

-- the partition in which the first transaction has changed the record 3
abbrev changed : State
changed =
    let p = opened 50 (1 ∷ 2 ∷ 3 ∷ 4 ∷ 5 ∷ []) in
    record p {
      cells = map plain (1 ∷ 2 ∷ []) ++ record { key = key 3; now = Some (row_with 3 31); was = Some (row 3); writer = Some first } ∷ map plain (4 ∷ 5 ∷ []);
      locks = record { holder = first; prefix = key 3; mode = X } ∷ [];
      lives = record { name = first; floor = None } ∷ [];
    }
  where
    plain : ℕ → Cell
    plain k = record { key = key k; now = Some (row k); was = None; writer = None }

-- a STABLE reader stops before the changed record, is blocked by it, and goes on once the change is undone
reader_waits_for_undo : replies changed (sent 2 1 (scan Stable low) ∷ sent 2 2 (Continue 1 (key 2)) ∷ sent 1 1 EndUndo ∷ sent 2 3 (Continue 1 (key 2)) ∷ [])
    ≡ Some (Redrive 1 (key 2) cause.Lock (both 1 ∷ both 2 ∷ []) 0) ∷ Some (Locked (record { holder = first; prefix = key 3; mode = X })) ∷ Some Done ∷ Some (Ended (both 3 ∷ both 4 ∷ both 5 ∷ []) 0) ∷ []
reader_waits_for_undo = refl

-- the granule of a REPEATABLE read of k >= 2 is the empty prefix, and bars an INSERT
granule_bars_insert : replies (opened 50 (1 ∷ 2 ∷ 3 ∷ 4 ∷ 5 ∷ [])) (sent 1 1 (scan Repeatable (key 2)) ∷ sent 2 1 (Insert (packed (0 ∷ 1 ∷ []) (row_with 9 1))) ∷ [])
    ≡ Some (Ended (both 2 ∷ both 3 ∷ both 4 ∷ both 5 ∷ []) 0) ∷ Some (Locked (record { holder = first; prefix = []; mode = S })) ∷ []
granule_bars_insert = refl

duplicate_key : replies (opened 50 (1 ∷ 2 ∷ 3 ∷ [])) (sent 1 1 (Insert (packed (0 ∷ 1 ∷ []) (row_with 3 1))) ∷ []) ≡ Some (DuplicateKey (key 3)) ∷ []
duplicate_key = refl

prepare_of_nobody : replies (opened 50 (1 ∷ [])) (sent 1 1 Prepare ∷ []) ≡ Some NotKnown ∷ []
prepare_of_nobody = refl

-- a second transaction prepares above the first one's stamp, which its own stamp has to exceed
floor_is_the_highest_stamp : replies (opened 50 (1 ∷ [])) (sent 1 1 (scan Repeatable low) ∷ sent 1 2 Prepare ∷ sent 1 3 (EndCommit 7) ∷ sent 2 1 (scan Repeatable low) ∷ sent 2 2 Prepare ∷ sent 2 3 (EndCommit 7) ∷ sent 2 4 (EndCommit 8) ∷ sent 2 5 Prepare ∷ [])
    ≡ Some (Ended (both 1 ∷ []) 0) ∷ Some (Floor 0) ∷ Some Done ∷ Some (Ended (both 1 ∷ []) 0) ∷ Some (Floor 7) ∷ Some (StampLow 7) ∷ Some Done ∷ Some (AfterEnd 1) ∷ []
floor_is_the_highest_stamp = refl
