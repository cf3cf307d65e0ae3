-- What a session asks for each of its statements.
use Rattle.std.specs.Prelude.{ℕ, ◌+◌, List, [], ◌∷◌, map, take, Option, Some, None, option_map, slice_get, unwrap_or, if◌then◌else◌}
use Rattle.std.specs.List.{range_with_len}
use Rattle.sql_base.specs.Codes.{code_of, sets_code}
use Rattle.sql_base.specs.Keys.{key_eq, common_prefix}
use Rattle.sql_base.specs.Rows.{key_of, packed}
use Rattle.sql_base.specs.Scripts.{parts_of}
use Rattle.sql_base.specs.Tables.{table_of}
use Rattle.partition_map.specs.Map.{part_of, cut}
use Rattle.range_finder.specs.Range.{range}
use Rattle.std.specs.Prelude.{length}
use Rattle.sql_base.specs.declared.expressions.Expr.{Expr}
use Rattle.sql_base.specs.declared.key_ranges.KeyRange.{KeyRange}
use Rattle.sql_base.specs.declared.lock_names.Access.{Access}
use Rattle.sql_base.specs.declared.scripts.Limits.{Limits}
use Rattle.sql_base.specs.declared.statements.Statement.{Statement}
use Rattle.sql_base.specs.declared.statements.Statement.TheVariants.{Select, Update, Delete, Insert, LockTable}
use Rattle.sql_base.specs.declared.tables.TableDef.{TableDef}
use Rattle.sql_base.specs.declared.values.Value.{Value}
use Rattle.dp_messages.specs.declared.requests.Ask.{Ask}
use Rattle.dp_messages.specs.declared.requests.Ask.TheVariants as ask
use Rattle.session_grammar.specs.declared.plans.Plan.{Plan}
use Rattle.session_grammar.specs.declared.plans.Plan.TheVariants.{Singles, Subsets}
use Rattle.session_grammar.specs.declared.plans.Sent.{Sent}

-- what the requests of a session are judged with: the tables, the limits and its number
pub record Asker : Type 0 where
  pub tables : List TableDef
  pub limits : Limits
  pub number : ℕ

-- the number of a table's first partition
abbrev pub first_part : Asker → ℕ → ℕ
first_part r table = parts_of (take table r.tables)

abbrev pub filter_code : Option Expr → Option (List ℕ)
filter_code filter = option_map code_of filter

-- the Begin of each piece of a range; the granule is the common prefix of the statement's bounds
abbrev pub begin_pieces : Asker → TableDef → ℕ → KeyRange → (List ℕ → KeyRange → Ask) → List Sent
begin_pieces r table place range begin =
    map (λ piece. record { part = first_part r place + piece.part; ask = begin (common_prefix range.low range.high) piece.range }) (cut table range)

abbrev pub begins_in : Asker → TableDef → ℕ → Option KeyRange → (List ℕ → KeyRange → Ask) → List Sent
begins_in r table place None begin = []
begins_in r table place (Some range) begin = begin_pieces r table place range begin

-- a SELECT of one whole key reads it; any other takes the pieces
abbrev pub select_plan : Asker → TableDef → ℕ → Access → Option Expr → List ℕ → Option KeyRange → Plan
select_plan r table place access predicate columns None = Subsets []
select_plan r table place access predicate columns (Some range) =
    if key_eq range.low range.high
    then Singles (record { part = first_part r place + part_of table range.low; ask = ask.ReadKey access range.low (filter_code predicate) columns } ∷ [])
    else Subsets (begin_pieces r table place range (λ granule piece. ask.BeginRead access granule piece (filter_code predicate) columns))

abbrev pub all_columns : List Value → List ℕ
all_columns row = range_with_len 0 (length row)

abbrev pub plan_on : Asker → TableDef → Statement → Plan
plan_on r table (Select place columns predicate access) = select_plan r table place access predicate columns (range table predicate)
plan_on r table (Update place sets predicate access) =
    Subsets (begins_in r table place (range table predicate) (λ granule piece. ask.BeginUpdate access granule piece (filter_code predicate) (sets_code sets)))
plan_on r table (Delete place predicate access) =
    Subsets (begins_in r table place (range table predicate) (λ granule piece. ask.BeginDelete access granule piece (filter_code predicate)))
plan_on r table (Insert place row) =
    Singles (record { part = first_part r place + part_of table (key_of table row); ask = ask.Insert (packed (all_columns row) row) } ∷ [])
plan_on r table (LockTable place mode) =
    Singles (map (λ part. record { part = first_part r place + part; ask = ask.LockGranule [] mode }) (range_with_len 0 (length table.firsts + 1)))

-- what a statement asks, in rising partitions
abbrev pub plan_of : Asker → Statement → Plan
plan_of r statement = unwrap_or (option_map (λ table. plan_on r table statement) (slice_get r.tables (table_of statement))) (Subsets [])

-- what a plan sends, whether one after the other or not
abbrev pub sents_of : Plan → List Sent
sents_of (Subsets sents) = sents
sents_of (Singles sents) = sents
