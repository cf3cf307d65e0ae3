-- What the finished statements of a commit did.
use Rattle.std.specs.Prelude.{◌≡◌, ◌≢◌, ◌<◌, ℕ, ◌+◌, List, [], ◌∷◌, nat_eq, filter, length, take, slice_get, Option, Some, None, true, false, ◌⊎◌}
use Rattle.std.specs.List.{AllByRecursion, starts_with}
use Rattle.sql_base.specs.declared.key_ranges.KeyRange.{KeyRange}
use Rattle.session_grammar.specs.declared.plans.Sent.{Sent}
use Rattle.sql_base.specs.OnRows.{first_failing}
use Rattle.sql_base.specs.Rows.{IsRow, key_of}
use Rattle.sql_base.specs.Scripts.{parts_of}
use Rattle.sql_base.specs.Tables.{table_of}
use Rattle.sql_base.specs.declared.lock_names.TxnName.{TxnName}
use Rattle.sql_base.specs.declared.scripts.Script.{Script}
use Rattle.sql_base.specs.declared.statements.Statement.{Statement}
use Rattle.sql_base.specs.declared.statements.Statement.TheVariants.{Select, Update, Delete, Insert, LockTable}
use Rattle.sql_base.specs.declared.tables.TableDef.{TableDef}
use Rattle.sql_base.specs.declared.values.Value.{Value}
use Rattle.partition_map.specs.Map.{part_of}
use Rattle.session_grammar.specs.Follows.{AreTheirs, IsPart, asker}
use Rattle.session_grammar.specs.Plans.{Asker, plan_of, sents_of}
use Rattle.session_grammar.specs.Rows.{is_for}
use Rattle.session_grammar.specs.declared.logs.LogEntry.{LogEntry}
use Rattle.run_record.specs.Tiles.{Tiles, range_of}
use Rattle.run_record.specs.declared.records.RunRecord.{RunRecord}
use Rattle.serial_passes.specs.Scaffold.Inserts.{InsertsLast, IsStill}
use Rattle.serial_passes.specs.Scaffold.Pieces.{NoPiece, PieceOf, in_range, is_between}
use Rattle.record_laws.specs.Granting.{GrantsFirst, IsIdle}

-- the number of a table's first partition
abbrev pub first_of : Script → Statement → ℕ
first_of script statement = parts_of (take (table_of statement) script.tables)

-- a SELECT, UPDATE or DELETE covered its piece in each partition of its table, and asked no other
pub record Covered (script : Script) (kept : RunRecord) (r : Asker) (table : TableDef) (statement : Statement) (es : List LogEntry) : Type 0 where
  pub pieces : (j : ℕ) → j < length table.firsts + 1
      → PieceOf script kept r.number table statement j (filter (is_for (first_of script statement + j)) es) ⊎ NoPiece table statement j (filter (is_for (first_of script statement + j)) es)
  pub theirs : AreTheirs (sents_of (plan_of r statement)) es

-- an INSERT put its row into its partition, and asked no other
pub record Inserted (script : Script) (kept : RunRecord) (t : TxnName) (table : TableDef) (statement : Statement) (row : List Value) (es : List LogEntry) : Type 0 where
  pub within : part_of table (key_of table row) < length table.firsts + 1
  pub sound : first_failing table.checks row ≡ None
  pub last : InsertsLast script kept t (key_of table row) row (filter (is_for (first_of script statement + part_of table (key_of table row))) es)
  pub elsewhere : (part : ℕ) → part ≢ first_of script statement + part_of table (key_of table row) → filter (is_for part) es ≡ []

abbrev pub DidOn : Script → RunRecord → Asker → TxnName → TableDef → Statement → List LogEntry → Type 0
DidOn script kept r t table (Select place columns predicate access) es = Covered script kept r table (Select place columns predicate access) es
DidOn script kept r t table (Update place sets predicate access) es = Covered script kept r table (Update place sets predicate access) es
DidOn script kept r t table (Delete place predicate access) es = Covered script kept r table (Delete place predicate access) es
DidOn script kept r t table (Insert place row) es = Inserted script kept t table (Insert place row) row es
DidOn script kept r t table (LockTable place mode) es = (part : ℕ) → AllByRecursion IsStill (filter (is_for part) es)

abbrev pub Did : Script → RunRecord → Asker → TxnName → Statement → List LogEntry → Type 0
Did script kept r t statement es = (table : TableDef) × (slice_get script.tables (table_of statement) ≡ Some table) × DidOn script kept r t table statement es

abbrev pub AllDid : Script → RunRecord → Asker → TxnName → List Statement → List (List LogEntry) → Type 0
AllDid script kept r t [] [] = Unit {0}
AllDid script kept r t (statement ∷ statements) (es ∷ parts) = Did script kept r t statement es × AllDid script kept r t statements parts
AllDid script kept r t [] (es ∷ parts) = ⊥
AllDid script kept r t (statement ∷ statements) [] = ⊥

-- each statement has its part, which is whole and tiles its range
abbrev pub AllTile : Script → RunRecord → ℕ → ℕ → List Statement → List (List LogEntry) → Type 0
AllTile script kept session ordinal [] [] = Unit {0}
AllTile script kept session ordinal (statement ∷ statements) (es ∷ parts) =
    IsPart (asker script session) ordinal statement es None × Tiles script kept session statement es × AllTile script kept session ordinal statements parts
AllTile script kept session ordinal [] (es ∷ parts) = ⊥
AllTile script kept session ordinal (statement ∷ statements) [] = ⊥

-- what the entries of a piece were granted and left, beside what its tiling says
pub record Granted (script : Script) (kept : RunRecord) (session : ℕ) (range : KeyRange) (es : List LogEntry) : Type 0 where
  pub granule : List ℕ
  pub grants : GrantsFirst range.high granule es
  pub refused : AllByRecursion (IsIdle range.high) es
  pub under : (key : List ℕ) → is_between range.low range.high key ≡ true → starts_with nat_eq key granule ≡ true

-- which keys of rows of a partition lie in the range of a statement: those of its piece, or none
abbrev pub PieceLaw : TableDef → Statement → ℕ → Option Sent → Type 0
PieceLaw table statement j None = (row : List Value) → IsRow table row → part_of table (key_of table row) ≡ j → in_range table statement (key_of table row) ≡ false
PieceLaw table statement j (Some sent) =
    (range : KeyRange) → range_of sent.ask ≡ Some range → (row : List Value) → IsRow table row → part_of table (key_of table row) ≡ j
    → is_between range.low range.high (key_of table row) ≡ in_range table statement (key_of table row)
