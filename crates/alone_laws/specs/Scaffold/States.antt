-- All partitions, as the log of the one session leads them.
use Rattle.std.specs.Prelude.{◌≡◌, ◌≤◌, ◌<◌, ◌+◌, ℕ, suc, List, [], ◌∷◌, filter, length, map, take, slice_get, Some, None, Option, Ok, Err}
use Rattle.sql_base.specs.Scripts.{parts_of}
use Rattle.sql_base.specs.declared.lock_names.TxnName.{TxnName}
use Rattle.sql_base.specs.declared.outcomes.Abort.{Abort}
use Rattle.sql_base.specs.declared.outcomes.Abort.TheVariants.{LockedOut, PathLost, Faulted, Duplicate}
use Rattle.sql_base.specs.declared.scripts.Script.{Script}
use Rattle.sql_base.specs.declared.statements.Statement.{Statement}
use Rattle.sql_base.specs.declared.tables.TableDef.{TableDef}
use Rattle.key_sequenced.specs.Cells.{Keyed, records}
use Rattle.one_thread.specs.One.{World, one}
use Rattle.partition_state.specs.State.{State}
use Rattle.run_record.specs.Base.{by_table}
use Rattle.run_record.specs.Serial.{part_gives}
use Rattle.serial_laws.specs.Scaffold.Sound.{Sound}
use Rattle.session_grammar.specs.Follows.{asker}
use Rattle.session_grammar.specs.Rows.{is_for}
use Rattle.session_grammar.specs.declared.logs.LogEntry.{LogEntry}
use Rattle.alone_laws.specs.Scaffold.Served.{Calm, Lively, Replies, served_by}

-- the partitions from this number on, behind these entries of the log
abbrev pub behind : ℕ → List State → List LogEntry → List State
behind part [] es = []
behind part (q ∷ qs) es = served_by q (filter (is_for part) es) ∷ behind (suc part) qs es

abbrev pub views : List State → List (List Keyed)
views qs = map (λ q. records q.cells) qs

-- the tables that their records make
abbrev pub world_of : List TableDef → List State → World
world_of tables qs = record { tables = tables; records = by_table tables (views qs) }

-- a partition of a table of the script
pub record IsOpen (script : Script) (table : TableDef) (j : ℕ) (q : State) : Type 0 where
  pub sound : Sound q
  pub table_is : q.table ≡ table
  pub limits_is : q.limits ≡ script.limits
  pub place_is : q.place ≡ j

-- they are the partitions of the script
pub record AreOpen (script : Script) (qs : List State) : Type 0 where
  pub enough : parts_of script.tables ≤ length qs
  pub few : length qs ≤ parts_of script.tables
  pub here : (place j : ℕ) (table : TableDef) (q : State) → slice_get script.tables place ≡ Some table → j < length table.firsts + 1
      → slice_get qs (parts_of (take place script.tables) + j) ≡ Some q → IsOpen script table j q

abbrev pub AllCalm : ℕ → List State → Type 0
AllCalm top qs = (k : ℕ) (q : State) → slice_get qs k ≡ Some q → Calm top q

abbrev pub AllLively : TxnName → (ℕ → List Keyed) → ℕ → List State → Type 0
AllLively t bases top qs = (k : ℕ) (q : State) → slice_get qs k ≡ Some q → Lively t (bases k) top q

abbrev pub AllReply : List State → List LogEntry → Type 0
AllReply qs es = (k : ℕ) (q : State) → slice_get qs k ≡ Some q → Replies q (filter (is_for k) es)

-- a statement fails by a row
abbrev pub IsFault : Abort → Type 0
IsFault LockedOut = ⊥
IsFault PathLost = ⊥
IsFault (Faulted key fault) = Unit {0}
IsFault (Duplicate key) = Unit {0}

-- a part is what its statement comes to in one thread
abbrev pub ComesTo : Script → List State → Statement → List LogEntry → Option Abort → Type 0
ComesTo script qs statement es None = one (world_of script.tables qs) statement ≡ (Ok (part_gives (asker script 1) statement es), world_of script.tables (behind 0 qs es))
ComesTo script qs statement es (Some abort) = IsFault abort × ((one (world_of script.tables qs) statement).0 ≡ Err abort)
