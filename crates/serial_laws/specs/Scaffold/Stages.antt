-- How far a subset of a statement has come in a partition.
use Rattle.std.specs.Prelude.{◌≡◌, ◌<◌, ◌≤◌, ◌+◌, ℕ, List, length, Some}
use Rattle.sql_base.specs.Codes.{sets_code}
use Rattle.sql_base.specs.Rows.{packed}
use Rattle.sql_base.specs.Tables.{SuitsTable}
use Rattle.sql_base.specs.declared.key_ranges.KeyRange.{KeyRange}
use Rattle.sql_base.specs.declared.key_ranges.Start.{Start}
use Rattle.sql_base.specs.declared.key_ranges.Start.TheVariants.{At, After}
use Rattle.sql_base.specs.declared.lock_names.TxnName.{TxnName}
use Rattle.sql_base.specs.declared.scripts.Limits.{Limits}
use Rattle.sql_base.specs.declared.statements.Statement.{Statement}
use Rattle.sql_base.specs.declared.statements.Statement.TheVariants.{Select, Update, Delete}
use Rattle.sql_base.specs.declared.tables.TableDef.{TableDef}
use Rattle.sql_base.specs.declared.values.Value.{Value}
use Rattle.subset_blocks.specs.Blocks.{find_block}
use Rattle.subset_blocks.specs.declared.Numbered.{Numbered}
use Rattle.quantum_core.specs.declared.works.SetWork.{SetWork}
use Rattle.dp_messages.specs.declared.requests.Ask.{Ask}
use Rattle.dp_messages.specs.declared.requests.Ask.TheVariants as ask
use Rattle.session_grammar.specs.Plans.{filter_code}
use Rattle.serial_laws.specs.Scaffold.Exact.{IsUnder, IsWorkOf}
use Rattle.serial_laws.specs.Scaffold.Sound.{HasWidths}

-- nothing was handled yet, or it goes on as this subset after a key
pub data Stage : Type 0 where
  Fresh : Stage
  Onward : ℕ → List ℕ → Stage

-- the Begin of a statement's piece
abbrev pub begin_of : Statement → List ℕ → KeyRange → Ask
begin_of (Select t columns predicate access) granule range = ask.BeginRead access granule range (filter_code predicate) columns
begin_of (Update t sets predicate access) granule range = ask.BeginUpdate access granule range (filter_code predicate) (sets_code sets)
begin_of (Delete t predicate access) granule range = ask.BeginDelete access granule range (filter_code predicate)
begin_of other granule range = ask.EndUndo

abbrev pub ask_at : Statement → List ℕ → KeyRange → Stage → Ask
ask_at statement granule range Fresh = begin_of statement granule range
ask_at statement granule range (Onward subset last) = ask.Continue subset last

abbrev pub start_at : KeyRange → Stage → Start
start_at range Fresh = At range.low
start_at range (Onward subset last) = After last

-- the block that goes on
pub record IsBlock (blocks : List (Numbered SetWork)) (t : TxnName) (statement : Statement) (high : List ℕ) (subset : ℕ) (last : List ℕ) : Type 0 where
  pub block : Numbered SetWork
  pub found : find_block subset t blocks ≡ Some block
  pub number : block.number ≡ subset
  pub start : block.block.start ≡ After last
  pub high_is : block.block.high ≡ high
  pub work : IsWorkOf statement block.block.work
  pub holder : block.block.holder ≡ t
  pub under : IsUnder statement block.block.access

abbrev pub Awaits : List (Numbered SetWork) → TxnName → Statement → List ℕ → Stage → Type 0
Awaits blocks t statement high Fresh = Unit {0}
Awaits blocks t statement high (Onward subset last) = IsBlock blocks t statement high subset last

-- a row of the table that the statement reads fits an empty buffer
abbrev pub FitsStatement : ℕ → Statement → List Value → Type 0
FitsStatement buffer (Select t columns predicate access) row = length (packed columns row) + 2 ≤ buffer
FitsStatement buffer other row = Unit {0}

pub record RoomFor (limits : Limits) (table : TableDef) (statement : Statement) : Type 0 where
  pub suits : SuitsTable table statement
  pub visits : 0 < limits.quantum
  pub buffer : (row : List Value) → HasWidths table row → FitsStatement limits.buffer statement row
