-- Worked rows of one quantum over the records 1 to 5, which hold 10 to 50.
use Rattle.std.proofs.Common.{◌≡◌, ℕ, ◌*◌, pos, List, [], ◌∷◌, ◌++◌, Some, None, refl}
use Rattle.sql_base.specs.Rows.{key_value, packed_value}
use Rattle.quantum_core.specs.Quantum.{quantum, reply_to}
use Rattle.quantum_core.specs.Verdicts.{Judged}
use Rattle.sql_base.specs.declared.faults.Cause.TheVariants as cause
use Rattle.sql_base.specs.declared.faults.Fault.TheVariants as fault
use Rattle.sql_base.specs.declared.key_ranges.Start.{Start}
use Rattle.sql_base.specs.declared.key_ranges.Start.TheVariants.{At, After}
use Rattle.sql_base.specs.declared.lock_names.Access.{Access}
use Rattle.sql_base.specs.declared.lock_names.Access.TheVariants.{Browse, Stable, Repeatable}
use Rattle.sql_base.specs.declared.lock_names.Lock.{Lock}
use Rattle.sql_base.specs.declared.lock_names.Mode.TheVariants.{X}
use Rattle.sql_base.specs.declared.lock_names.TxnName.{TxnName}
use Rattle.sql_base.specs.declared.scripts.Limits.{Limits}
use Rattle.sql_base.specs.declared.tables.ColumnKind.TheVariants.{Int}
use Rattle.sql_base.specs.declared.tables.TableDef.{TableDef}
use Rattle.sql_base.specs.declared.values.Value.{Value}
use Rattle.sql_base.specs.declared.values.Value.TheVariants as value
use Rattle.key_sequenced.specs.declared.Cell.{Cell}
use Rattle.subset_blocks.specs.declared.Block.{Block}
use Rattle.quantum_core.specs.declared.replies.QuantumReply.TheVariants.{Ended, Redrive, Locked, Failed}
use Rattle.quantum_core.specs.declared.verdicts.Effect.TheVariants.{Gives}
use Rattle.quantum_core.specs.declared.verdicts.Verdict.TheVariants.{Faulty, Selected}
use Rattle.quantum_core.specs.declared.works.Doing.{Doing}
use Rattle.quantum_core.specs.declared.works.Doing.TheVariants.{Read, Delete}
use Rattle.quantum_core.specs.declared.works.SetWork.{SetWork}

abbrev table : TableDef
table = record { name = []; columns = record { name = []; kind = Int } ∷ record { name = []; kind = Int } ∷ []; key = 0 ∷ []; checks = []; firsts = [] }

abbrev limits : ℕ → ℕ → Limits
limits quantum buffer = record { quantum = quantum; buffer = buffer; patience = 8; servers = 2; restart = 0 }

abbrev key : ℕ → List ℕ
key k = key_value Int (value.Int (pos k))

abbrev high : List ℕ
high = 0xFF ∷ 0xFF ∷ 0xFF ∷ 0xFF ∷ 0xFF ∷ 0xFF ∷ 0xFF ∷ 0xFF ∷ []

abbrev row : ℕ → List Value
row k = value.Int (pos k) ∷ value.Int (pos (10 * k)) ∷ []

-- the packed row of both columns
abbrev both : ℕ → List ℕ
both k = packed_value (value.Int (pos k)) ++ packed_value (value.Int (pos (10 * k)))

abbrev cell : ℕ → Cell
cell k = record { key = key k; now = Some (row k); was = None; writer = None }

abbrev reader : TxnName
reader = record { session = 2; ordinal = 1 }

abbrev other : TxnName
other = record { session = 1; ordinal = 1 }

abbrev five : List Cell
five = cell 1 ∷ cell 2 ∷ cell 3 ∷ cell 4 ∷ cell 5 ∷ []

abbrev block : Start → Access → Doing → Block SetWork
block start access doing = record { holder = reader; start = start; high = high; access = access; work = record { filter = None; doing = doing } }

abbrev read_all : Start → Access → Block SetWork
read_all start access = block start access (Read (0 ∷ 1 ∷ []))

abbrev exclusive : TxnName → ℕ → Lock
exclusive t k = record { holder = t; prefix = key k; mode = X }

stops_by_visits : (quantum (limits 2 4096) table five [] (read_all (At (key 0)) Repeatable)).reply ≡ Redrive (key 2) cause.Visits (both 1 ∷ both 2 ∷ []) 0
stops_by_visits = refl

goes_on_behind_the_key : (quantum (limits 2 4096) table five [] (read_all (After (key 2)) Repeatable)).reply ≡ Redrive (key 4) cause.Visits (both 3 ∷ both 4 ∷ []) 0
goes_on_behind_the_key = refl

ends : (quantum (limits 2 4096) table five [] (read_all (After (key 4)) Repeatable)).reply ≡ Ended (both 5 ∷ []) 0
ends = refl

stops_by_lock : (quantum (limits 50 4096) table five (exclusive other 3 ∷ []) (read_all (At (key 0)) Stable)).reply ≡ Redrive (key 2) cause.Lock (both 1 ∷ both 2 ∷ []) 0
stops_by_lock = refl

first_is_blocked : (quantum (limits 50 4096) table five (exclusive other 3 ∷ []) (read_all (After (key 2)) Stable)).reply ≡ Locked (exclusive other 3)
first_is_blocked = refl

browse_sees_no_lock : (quantum (limits 50 4096) table five (exclusive other 3 ∷ []) (read_all (After (key 2)) Browse)).reply ≡ Ended (both 3 ∷ both 4 ∷ both 5 ∷ []) 0
browse_sees_no_lock = refl

-- a row of 16 bytes takes 18, so 40 bytes have room for two
stops_by_buffer : (quantum (limits 50 40) table five [] (read_all (At (key 0)) Stable)).reply ≡ Redrive (key 2) cause.Buffer (both 1 ∷ both 2 ∷ []) 0
stops_by_buffer = refl

abbrev gives : ℕ → Judged
gives k = record { key = key k; verdict = Selected (Gives (both k)) }

abbrev faults : ℕ → Judged
faults k = record { key = key k; verdict = Faulty fault.ZeroDivide }

stops_by_fault : reply_to (limits 50 4096) (gives 1 ∷ faults 2 ∷ gives 3 ∷ []) ≡ Redrive (key 1) cause.Fault (both 1 ∷ []) 0
stops_by_fault = refl

first_faults : reply_to (limits 50 4096) (faults 2 ∷ gives 3 ∷ []) ≡ Failed (key 2) fault.ZeroDivide
first_faults = refl

-- where Visits and a fault come together, it is Visits
visits_before_fault : reply_to (limits 1 4096) (gives 1 ∷ faults 2 ∷ []) ≡ Redrive (key 1) cause.Visits (both 1 ∷ []) 0
visits_before_fault = refl

abbrev deleted : TxnName → ℕ → Cell
deleted t k = record { key = key k; now = None; was = Some (row k); writer = Some t }

passes_over_own_deleted : (quantum (limits 50 4096) table (cell 1 ∷ deleted reader 2 ∷ cell 3 ∷ []) (exclusive reader 2 ∷ []) (read_all (At (key 0)) Repeatable)).reply ≡ Ended (both 1 ∷ both 3 ∷ []) 0
passes_over_own_deleted = refl

deleted_by_another_blocks : (quantum (limits 50 4096) table (cell 1 ∷ deleted other 2 ∷ cell 3 ∷ []) (exclusive other 2 ∷ []) (read_all (At (key 0)) Stable)).reply ≡ Redrive (key 1) cause.Lock (both 1 ∷ []) 0
deleted_by_another_blocks = refl

-- a delete of the first two records locks their keys and keeps what stood there
deletes_two : (quantum (limits 2 4096) table (cell 1 ∷ cell 2 ∷ cell 3 ∷ []) [] (block (At (key 0)) Stable Delete)).cells ≡ deleted reader 1 ∷ deleted reader 2 ∷ cell 3 ∷ []
deletes_two = refl

locks_what_it_deletes : (quantum (limits 2 4096) table (cell 1 ∷ cell 2 ∷ cell 3 ∷ []) [] (block (At (key 0)) Stable Delete)).locks ≡ exclusive reader 1 ∷ exclusive reader 2 ∷ []
locks_what_it_deletes = refl

counts_what_it_deletes : (quantum (limits 2 4096) table (cell 1 ∷ cell 2 ∷ cell 3 ∷ []) [] (block (At (key 0)) Stable Delete)).reply ≡ Redrive (key 2) cause.Visits [] 2
counts_what_it_deletes = refl
