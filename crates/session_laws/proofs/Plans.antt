-- What a plan asks as subsets are subsets' requests.
use Rattle.std.proofs.Common.{◌≡◌, ℕ, ◌+◌, List, [], ◌∷◌, Option, Some, None, Bool, true, false, refl}
use Rattle.std.specs.Prelude.{slice_get, unwrap_or, option_map, if◌then◌else◌}
use Rattle.std.specs.List.{AllByRecursion}
use Rattle.sql_base.specs.Keys.{key_eq, common_prefix}
use Rattle.sql_base.specs.Codes.{sets_code}
use Rattle.sql_base.specs.Tables.{table_of}
use Rattle.sql_base.specs.declared.expressions.Expr.{Expr}
use Rattle.sql_base.specs.declared.key_ranges.KeyRange.{KeyRange}
use Rattle.sql_base.specs.declared.lock_names.Access.{Access}
use Rattle.sql_base.specs.declared.statements.Statement.{Statement}
use Rattle.sql_base.specs.declared.statements.Statement.TheVariants.{Select, Update, Delete, Insert, LockTable}
use Rattle.sql_base.specs.declared.tables.TableDef.{TableDef}
use Rattle.dp_messages.specs.declared.replies.Reply.{Reply as PartitionReply}
use Rattle.dp_messages.specs.declared.requests.Ask.{Ask}
use Rattle.partition_map.specs.Map.{cut, part_of}
use Rattle.range_finder.specs.Range.{range}
use Rattle.dp_messages.specs.declared.requests.Ask.TheVariants.{BeginRead, BeginUpdate, BeginDelete, ReadKey}
use Rattle.session_grammar.specs.Plans.{Asker, begin_pieces, begins_in, filter_code, first_part, plan_of, plan_on, select_plan, sents_of}
use Rattle.session_grammar.specs.declared.plans.Plan.{Plan}
use Rattle.session_grammar.specs.declared.plans.Plan.TheVariants.{Singles, Subsets}
use Rattle.session_grammar.specs.declared.plans.Sent.{Sent}
use Rattle.session_grammar.specs.Rows.{fits, fits_subset}
use Rattle.session_laws.specs.Scaffold.Machine.{are_subsets}
use Rattle.sql_base.proofs.ListFacts.{all-images}

-- the replies that may come are those of a subset, where it is one
abbrev pub Suits : Bool → Sent → Type 0
Suits true sent = (x : PartitionReply) → fits sent.ask x ≡ fits_subset x
Suits false sent = Unit {0}

all_single : (sents : List Sent) → AllByRecursion (Suits false) sents
all_single [] = tt
all_single (sent ∷ sents) = (tt, all_single sents)

abbrev PlanSuits : Plan → Type 0
PlanSuits plan = AllByRecursion (Suits (are_subsets plan)) (sents_of plan)

module _ (r : Asker) (table : TableDef) where
  begins_suit : (place : ℕ) (found : Option KeyRange) (begin : List ℕ → KeyRange → Ask) → ((granule : List ℕ) (piece : KeyRange) (x : PartitionReply) → fits (begin granule piece) x ≡ fits_subset x)
      → AllByRecursion (Suits true) (begins_in r table place found begin)
  begins_suit place None begin is = tt
  begins_suit place (Some range) begin is =
      all-images (Suits true) (λ piece. record { part = first_part r place + piece.part; ask = begin (common_prefix range.low range.high) piece.range }) (λ piece. is (common_prefix range.low range.high) piece.range) (cut table range)

  select_suits : (place : ℕ) (access : Access) (predicate : Option Expr) (columns : List ℕ) (found : Option KeyRange) → PlanSuits (select_plan r table place access predicate columns found)
  select_suits place access predicate columns None = tt
  select_suits place access predicate columns (Some range) = by_test (key_eq range.low range.high)
    where
      by_test : (b : Bool) → PlanSuits (if b then Singles (record { part = first_part r place + part_of table range.low; ask = ReadKey access range.low (filter_code predicate) columns } ∷ [])
          else Subsets (begin_pieces r table place range (λ granule piece. BeginRead access granule piece (filter_code predicate) columns)))
      by_test true = (tt, tt)
      by_test false = begins_suit place (Some range) (λ granule piece. BeginRead access granule piece (filter_code predicate) columns) (λ granule piece x. refl)

  plan_suits : (s : Statement) → PlanSuits (plan_on r table s)
  plan_suits (Select place columns predicate access) = select_suits place access predicate columns (range table predicate)
  plan_suits (Update place sets predicate access) =
      begins_suit place (range table predicate) (λ granule piece. BeginUpdate access granule piece (filter_code predicate) (sets_code sets)) (λ granule piece x. refl)
  plan_suits (Delete place predicate access) =
      begins_suit place (range table predicate) (λ granule piece. BeginDelete access granule piece (filter_code predicate)) (λ granule piece x. refl)
  plan_suits (Insert place row) = (tt, tt)
  plan_suits (LockTable place mode) = all_single (sents_of (plan_on r table (LockTable place mode)))

-- every plan suits
pub plans_suit : (r : Asker) (s : Statement) → AllByRecursion (Suits (are_subsets (plan_of r s))) (sents_of (plan_of r s))
plans_suit r s = found (slice_get r.tables (table_of s))
  where
    found : (o : Option TableDef) → PlanSuits (unwrap_or (option_map (λ table. plan_on r table s) o) (Subsets []))
    found None = tt
    found (Some table) = plan_suits r table s
