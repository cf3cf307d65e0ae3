-- A plan asks rising partitions, and all of them are there.
use Rattle.std.proofs.Common.{◌≡◌, ◌≤◌, ◌<◌, ℕ, zero, suc, ◌+◌, List, [], ◌∷◌, length, map, cond, Option, Some, None, Bool, true, false, refl, arith}
use Rattle.std.specs.Prelude.{slice_get, unwrap_or, option_map, filter_map, if◌then◌else◌}
use Rattle.std.specs.List.{range_with_len, cons_option}
use Rattle.sql_base.specs.Codes.{sets_code}
use Rattle.sql_base.specs.Keys.{key_eq, key_le, key_max, key_min, common_prefix}
use Rattle.sql_base.specs.Rows.{key_of, packed}
use Rattle.sql_base.specs.Scripts.{parts_of}
use Rattle.sql_base.specs.Tables.{table_of}
use Rattle.sql_base.specs.declared.expressions.Expr.{Expr}
use Rattle.sql_base.specs.declared.key_ranges.KeyRange.{KeyRange}
use Rattle.sql_base.specs.declared.lock_names.Access.{Access}
use Rattle.sql_base.specs.declared.statements.Statement.{Statement}
use Rattle.sql_base.specs.declared.statements.Statement.TheVariants.{Select, Update, Delete, Insert, LockTable}
use Rattle.sql_base.specs.declared.tables.TableDef.{TableDef}
use Rattle.dp_messages.specs.declared.requests.Ask.{Ask}
use Rattle.dp_messages.specs.declared.requests.Ask.TheVariants as ask
use Rattle.partition_map.specs.declared.Piece.{Piece}
use Rattle.partition_map.specs.Map.{high_of, low_of, part_of, piece_of}
use Rattle.range_finder.specs.Range.{range}
use Rattle.session_grammar.specs.Plans.{Asker, all_columns, begin_pieces, begins_in, filter_code, first_part, plan_of, plan_on, select_plan, sents_of}
use Rattle.session_grammar.specs.declared.plans.Plan.TheVariants.{Singles, Subsets}
use Rattle.session_grammar.specs.declared.plans.Sent.{Sent}
use Rattle.sql_base.proofs.RowFacts.{parts_within}
use Rattle.partition_map.proofs.PartsOfTables.{part_within}

-- the partitions rise from `low` on, and stay below `high`
abbrev pub Rise : ℕ → ℕ → List Sent → Type 0
Rise low high [] = Unit {0}
Rise low high (sent ∷ sents) = (low ≤ sent.part) × (sent.part < high) × Rise (sent.part + 1) high sents

pub rise_from : (low low' high high' : ℕ) (sents : List Sent) → low' ≤ low → high ≤ high' → Rise low high sents → Rise low' high' sents
rise_from low low' high high' [] l h rise = tt
rise_from low low' high high' (sent ∷ sents) l h rise = (omega (arith, rise.0), omega (arith, rise.1), rise_from (sent.part + 1) (sent.part + 1) high high' sents (omega arith) h rise.2)

module _ (r : Asker) (table : TableDef) (there : ℕ) where
  abbrev end : ℕ
  end = first_part r there + (length table.firsts + 1)

  module _ (ask_of : Piece → Ask) (whole : KeyRange) where
    abbrev sent_of : Piece → Sent
    sent_of piece = record { part = first_part r there + piece.part; ask = ask_of piece }

    abbrev sents_from : ℕ → ℕ → List Sent
    sents_from a n = map sent_of (filter_map (piece_of table whole) (range_with_len a n))

    sents_by : (a n : ℕ) (b : Bool) (found : KeyRange) → Rise (first_part r there + (a + 1)) (first_part r there + (a + 1 + n)) (sents_from (a + 1) n)
        → Rise (first_part r there + a) (first_part r there + (a + suc n)) (map sent_of (cons_option (cond b (Some (record { part = a; range = found })) None) (filter_map (piece_of table whole) (range_with_len (a + 1) n))))
    sents_by a n true found rest =
        (omega arith, omega arith, rise_from (first_part r there + (a + 1)) (first_part r there + a + 1) (first_part r there + (a + 1 + n)) (first_part r there + (a + suc n)) (sents_from (a + 1) n) (omega arith) (omega arith) rest)
    sents_by a n false found rest =
        rise_from (first_part r there + (a + 1)) (first_part r there + a) (first_part r there + (a + 1 + n)) (first_part r there + (a + suc n)) (sents_from (a + 1) n) (omega arith) (omega arith) rest

    sents_rise : (n a : ℕ) → Rise (first_part r there + a) (first_part r there + (a + n)) (sents_from a n)
    sents_rise zero a = tt
    sents_rise (suc n) a =
        let low = key_max whole.low (low_of table a) in
        let high = key_min whole.high (high_of table a) in
        sents_by a n (key_le low high) (record { low = low; high = high }) (sents_rise n (a + 1))

  begins_rise : (found : Option KeyRange) (begin : List ℕ → KeyRange → Ask) → Rise 0 end (begins_in r table there found begin)
  begins_rise None begin = tt
  begins_rise (Some whole) begin =
      rise_from (first_part r there + 0) 0 (first_part r there + (0 + (length table.firsts + 1))) end (begin_pieces r table there whole begin) (omega arith) (omega arith)
      (sents_rise (λ piece. begin (common_prefix whole.low whole.high) piece.range) whole (length table.firsts + 1) 0)

  one_rises : (a : Ask) (key : List ℕ) → Rise 0 end (record { part = first_part r there + part_of table key; ask = a } ∷ [])
  one_rises a key = (omega arith, omega (arith, part_within table key), tt)

  locks_rise : (f : ℕ → Ask) (n a : ℕ) → Rise (first_part r there + a) (first_part r there + (a + n)) (map (λ part. record { part = first_part r there + part; ask = f part }) (range_with_len a n))
  locks_rise f zero a = tt
  locks_rise f (suc n) a =
      let rest = locks_rise f n (a + 1) in
      (omega arith, omega arith, rise_from (first_part r there + (a + 1)) (first_part r there + a + 1) (first_part r there + (a + 1 + n)) (first_part r there + (a + suc n)) (map (λ part. record { part = first_part r there + part; ask = f part }) (range_with_len (a + 1) n)) (omega arith) (omega arith) rest)

  select_rises : (access : Access) (predicate : Option Expr) (columns : List ℕ) (found : Option KeyRange) → Rise 0 end (sents_of (select_plan r table there access predicate columns found))
  select_rises access predicate columns None = tt
  select_rises access predicate columns (Some whole) = by_test (key_eq whole.low whole.high)
    where
      by_test : (b : Bool) → Rise 0 end (sents_of (if b then Singles (record { part = first_part r there + part_of table whole.low; ask = ask.ReadKey access whole.low (filter_code predicate) columns } ∷ [])
          else Subsets (begin_pieces r table there whole (λ granule piece. ask.BeginRead access granule piece (filter_code predicate) columns))))
      by_test true = one_rises (ask.ReadKey access whole.low (filter_code predicate) columns) whole.low
      by_test false = begins_rise (Some whole) (λ granule piece. ask.BeginRead access granule piece (filter_code predicate) columns)

plan_rises : (r : Asker) (table : TableDef) (s : Statement) → Rise 0 (end r table (table_of s)) (sents_of (plan_on r table s))
plan_rises r table (Select there columns predicate access) = select_rises r table there access predicate columns (range table predicate)
plan_rises r table (Update there sets predicate access) =
    begins_rise r table there (range table predicate) (λ granule piece. ask.BeginUpdate access granule piece (filter_code predicate) (sets_code sets))
plan_rises r table (Delete there predicate access) = begins_rise r table there (range table predicate) (λ granule piece. ask.BeginDelete access granule piece (filter_code predicate))
plan_rises r table (Insert there row) = one_rises r table there (ask.Insert (packed (all_columns row) row)) (key_of table row)
plan_rises r table (LockTable there mode) =
    rise_from (first_part r there + 0) 0 (first_part r there + (0 + (length table.firsts + 1))) (end r table there) (sents_of (plan_on r table (LockTable there mode))) (omega arith) (omega arith)
    (locks_rise r table there (λ part. ask.LockGranule [] mode) (length table.firsts + 1) 0)

-- every plan does
pub plans_rise : (r : Asker) (s : Statement) → Rise 0 (parts_of r.tables) (sents_of (plan_of r s))
plans_rise r s = found (slice_get r.tables (table_of s)) refl
  where
    found : (o : Option TableDef) → slice_get r.tables (table_of s) ≡ o → Rise 0 (parts_of r.tables) (sents_of (unwrap_or (option_map (λ table. plan_on r table s) o) (Subsets [])))
    found None is = tt
    found (Some table) is =
        rise_from 0 0 (end r table (table_of s)) (parts_of r.tables) (sents_of (plan_on r table s)) (omega arith) (parts_within r.tables (table_of s) table is) (plan_rises r table s)
