-- What plans ask can be spelled.
use Rattle.std.proofs.Common.{◌≡◌, ◌≤◌, ◌<◌, ◌*◌, ◌||◌, ℕ, zero, suc, ◌+◌, List, [], ◌∷◌, length, map, Option, Some, None, Bool, true, false, refl, sym, subst, arith, length-append}
use Rattle.std.specs.Prelude.{filter_map, flat_map, nat_eq, option_map, slice_get, unwrap_or, if◌then◌else◌, IfSome}
use Rattle.std.specs.List.{AllByRecursion, common_prefix_len, cons_option, list_any, range_with_len}
use Rattle.std.proofs.lemmas.Bool.{and_parts, eqb-true, false≢true}
use Rattle.std.proofs.lemmas.List.{length-map, length-take}
use Rattle.std.proofs.lemmas.List.FromFn.{length-range_with_len}
use Rattle.sql_base.specs.Codes.{sets_code}
use Rattle.sql_base.specs.Keys.{common_prefix, key_eq}
use Rattle.sql_base.specs.Rows.{IsRow, are_of_kinds, is_of_kind, is_printable, kinds, packed, packed_value}
use Rattle.sql_base.specs.Scripts.{IsScript}
use Rattle.sql_base.specs.Tables.{AreColumns, IsFilter, IsStatement, IsTable, IsWidth, SuitsTable, table_of}
use Rattle.sql_base.specs.declared.expressions.Expr.{Expr}
use Rattle.sql_base.specs.declared.key_ranges.KeyRange.{KeyRange}
use Rattle.sql_base.specs.declared.lock_names.Access.{Access}
use Rattle.sql_base.specs.declared.scripts.Script.{Script}
use Rattle.sql_base.specs.declared.statements.Statement.{Statement}
use Rattle.sql_base.specs.declared.statements.Statement.TheVariants.{Select, Update, Delete, Insert, LockTable}
use Rattle.sql_base.specs.declared.tables.Column.{Column}
use Rattle.sql_base.specs.declared.tables.ColumnKind.{ColumnKind}
use Rattle.sql_base.specs.declared.tables.ColumnKind.TheVariants.{Int, Char}
use Rattle.sql_base.specs.declared.tables.TableDef.{TableDef}
use Rattle.sql_base.specs.declared.values.Value.{Value}
use Rattle.sql_base.specs.declared.values.Value.TheVariants as value
use Rattle.sql_base.proofs.KeyColumns.{are_of_kinds-length}
use Rattle.dp_messages.specs.Spelling.{AreDistinct, IsAsk, IsLong, IsShort}
use Rattle.dp_messages.specs.declared.requests.Ask.{Ask}
use Rattle.dp_messages.specs.declared.requests.Ask.TheVariants as ask
use Rattle.partition_map.specs.Map.{cut, part_of}
use Rattle.partition_map.specs.declared.Piece.{Piece}
use Rattle.range_finder.specs.Range.{range}
use Rattle.ranges_laws.specs.Bytes.{IsKey}
use Rattle.ranges_laws.specs.Pieces.{IsPiece}
use Rattle.ranges_laws.proofs.Pieces.{cut-is_pieces}
use Rattle.ranges_laws.proofs.Ranges.{ranges_are_bounds}
use Rattle.update_expressions.proofs.Differing.{few}
use Rattle.session_grammar.specs.Follows.{asker}
use Rattle.session_grammar.specs.Plans.{Asker, all_columns, begin_pieces, begins_in, filter_code, first_part, plan_of, plan_on, select_plan, sents_of}
use Rattle.session_grammar.specs.declared.plans.Plan.TheVariants.{Singles, Subsets}
use Rattle.session_grammar.specs.declared.plans.Sent.{Sent}
use Rattle.requester_fs.proofs.Lists.{all_at}

abbrev pub IsSpelledSent : Sent → Type 0
IsSpelledSent sent = IsAsk sent.ask

module _ (r : Asker) (table : TableDef) (is : IsTable table) where
  key_short : (key : List ℕ) → IsKey table key → IsShort key
  key_short key h = omega (arith, h.0, is.key_bytes)

  prefix_short : (low high : List ℕ) → IsKey table low → IsShort (common_prefix low high)
  prefix_short low high h = omega (arith, length-take (common_prefix_len nat_eq low high) low, key_short low h)

  filter_long : (predicate : Option Expr) → IsFilter table predicate → IfSome (filter_code predicate) IsLong
  filter_long None h = tt
  filter_long (Some e) h = omega (arith, h.code)

  held_below : (columns : List ℕ) → AllByRecursion (λ c. c < length table.columns) columns → (c : ℕ) → list_any (nat_eq c) columns ≡ true → c < length table.columns
  held_below [] within c held = absurd (false≢true held)
  held_below (d ∷ columns) within c held = by (nat_eq c d) refl held (held_below columns within.1 c)
    where
      by : (b : Bool) → nat_eq c d ≡ b → (b || list_any (nat_eq c) columns) ≡ true → (list_any (nat_eq c) columns ≡ true → c < length table.columns) → c < length table.columns
      by true e h rest = omega (arith, eqb-true c d e, within.0)
      by false e h rest = rest h

  columns_distinct : (columns : List ℕ) → AreColumns table columns → AreDistinct columns
  columns_distinct columns h = (omega (arith, few (length table.columns) columns h.differ (held_below columns h.within), is.columns), h.differ)

  -- a packed row has at most 255 bytes for each column
  value_short : (kind : ColumnKind) (v : Value) → IsWidth kind → is_of_kind kind v ≡ true → length (packed_value v) ≤ 255
  value_short Int (value.Int n) wide h = omega arith
  value_short (Char n) (value.Text text) wide h = omega (arith, eqb-true (length text) n (and_parts (nat_eq (length text) n) (is_printable text) h).0, wide.1)
  value_short Int (value.Text text) wide h = absurd (false≢true h)
  value_short (Char n) (value.Int m) wide h = absurd (false≢true h)

  values_short : (ks : List ColumnKind) (row : List Value) → AllByRecursion IsWidth ks → are_of_kinds ks row ≡ true → AllByRecursion (λ v. length (packed_value v) ≤ 255) row
  values_short [] [] wide h = tt
  values_short [] (v ∷ row) wide h = absurd (false≢true h)
  values_short (kind ∷ ks) [] wide h = absurd (false≢true h)
  values_short (kind ∷ ks) (v ∷ row) wide h = let parts = and_parts (is_of_kind kind v) (are_of_kinds ks row) h in (value_short kind v wide.0 parts.0, values_short ks row wide.1 parts.1)

  one_more : (o : Option Value) (rest : List Value) (n : ℕ) → IfSome o (λ v. length (packed_value v) ≤ 255) → length (flat_map packed_value rest) ≤ n → length (flat_map packed_value (cons_option o rest)) ≤ 255 + n
  one_more None rest n h le = omega (arith, le)
  one_more (Some v) rest n h le = omega (arith, length-append (packed_value v) (flat_map packed_value rest), h, le)

  packed_short : (row : List Value) → AllByRecursion (λ v. length (packed_value v) ≤ 255) row → (columns : List ℕ) → length (packed columns row) ≤ 255 * length columns
  packed_short row h [] = omega arith
  packed_short row h (c ∷ columns) =
      let rest = packed_short row h columns in
      omega (arith, one_more (slice_get row c) (filter_map (slice_get row) columns) (255 * length columns) (all_at (λ v. length (packed_value v) ≤ 255) row c h) rest)

  row_long : (row : List Value) → IsRow table row → IsLong (packed (all_columns row) row)
  row_long row h =
      let most = packed_short row (values_short (kinds table) row is.widths h) (all_columns row) in
      omega (arith, most, length-range_with_len 0 (length row), are_of_kinds-length (kinds table) row h, length-map table.columns (λ (k : Column). k.kind), is.columns)

  -- the Begins of a range
  pieces_spelled : (place : ℕ) (whole : KeyRange) (begin : List ℕ → KeyRange → Ask) → IsShort (common_prefix whole.low whole.high)
      → ((granule : List ℕ) (piece : KeyRange) → IsShort granule → IsShort piece.low → IsShort piece.high → IsAsk (begin granule piece)) → (pieces : List Piece) → AllByRecursion (IsPiece table whole) pieces
      → AllByRecursion IsSpelledSent (map (λ piece. record { part = first_part r place + piece.part; ask = begin (common_prefix whole.low whole.high) piece.range }) pieces)
  pieces_spelled place whole begin short spells [] h = tt
  pieces_spelled place whole begin short spells (piece ∷ pieces) h =
      (spells (common_prefix whole.low whole.high) piece.range short (key_short piece.range.low h.0.bounds.0) (key_short piece.range.high h.0.bounds.1), pieces_spelled place whole begin short spells pieces h.1)

  begins_spelled : (place : ℕ) (found : Option KeyRange) (predicate : Option Expr) (begin : List ℕ → KeyRange → Ask) → range table predicate ≡ found
      → ((granule : List ℕ) (piece : KeyRange) → IsShort granule → IsShort piece.low → IsShort piece.high → IsAsk (begin granule piece)) → AllByRecursion IsSpelledSent (begins_in r table place found begin)
  begins_spelled place None predicate begin e spells = tt
  begins_spelled place (Some whole) predicate begin e spells =
      let bounds = (ranges_are_bounds table predicate whole e).0 in
      pieces_spelled place whole begin (prefix_short whole.low whole.high bounds.0) spells (cut table whole) (cut-is_pieces table whole is.firsts bounds)

  select_spelled : (place : ℕ) (access : Access) (predicate : Option Expr) (columns : List ℕ) (found : Option KeyRange) → range table predicate ≡ found → AreColumns table columns → IsFilter table predicate
      → AllByRecursion IsSpelledSent (sents_of (select_plan r table place access predicate columns found))
  select_spelled place access predicate columns None e some filter = tt
  select_spelled place access predicate columns (Some whole) e some filter = by (key_eq whole.low whole.high)
    where
      code : IfSome (filter_code predicate) IsLong
      code = filter_long predicate filter

      named : AreDistinct columns
      named = columns_distinct columns some

      by : (b : Bool) → AllByRecursion IsSpelledSent (sents_of (if b then Singles (record { part = first_part r place + part_of table whole.low; ask = ask.ReadKey access whole.low (filter_code predicate) columns } ∷ [])
          else Subsets (begin_pieces r table place whole (λ granule piece. ask.BeginRead access granule piece (filter_code predicate) columns))))
      by true = ((key_short whole.low (ranges_are_bounds table predicate whole e).0.0, code, named), tt)
      by false = begins_spelled place (Some whole) predicate (λ granule piece. ask.BeginRead access granule piece (filter_code predicate) columns) e (λ granule piece short low high. (short, low, high, code, named))

  locks_spelled : (f : ℕ → Ask) → ((part : ℕ) → IsAsk (f part)) → (n a : ℕ) (place : ℕ) → AllByRecursion IsSpelledSent (map (λ part. record { part = first_part r place + part; ask = f part }) (range_with_len a n))
  locks_spelled f spells zero a place = tt
  locks_spelled f spells (suc n) a place = (spells a, locks_spelled f spells n (a + 1) place)

  on_spelled : (s : Statement) → SuitsTable table s → AllByRecursion IsSpelledSent (sents_of (plan_on r table s))
  on_spelled (Select place columns predicate access) suits = select_spelled place access predicate columns (range table predicate) refl suits.0 suits.1
  on_spelled (Update place sets predicate access) suits =
      let code = filter_long predicate suits.1 in
      let long : IsLong (sets_code sets) = omega (arith, suits.0.code) in
      begins_spelled place (range table predicate) predicate (λ granule piece. ask.BeginUpdate access granule piece (filter_code predicate) (sets_code sets)) refl (λ granule piece short low high. (short, low, high, code, long))
  on_spelled (Delete place predicate access) suits =
      let code = filter_long predicate suits.0 in
      begins_spelled place (range table predicate) predicate (λ granule piece. ask.BeginDelete access granule piece (filter_code predicate)) refl (λ granule piece short low high. (short, low, high, code))
  on_spelled (Insert place row) suits = (row_long row suits, tt)
  on_spelled (LockTable place mode) suits = locks_spelled (λ part. ask.LockGranule [] mode) (λ part. omega arith) (length table.firsts + 1) 0 place

pub plan_spelled : (script : Script) (number : ℕ) (s : Statement) → IsScript script → IsStatement script.tables s → AllByRecursion (λ sent. IsAsk sent.ask) (sents_of (plan_of (asker script number) s))
plan_spelled script number s is suits =
    let r = asker script number in
    let table = suits.0 in
    let is_table : IsTable table = subst (λ o. IfSome o IsTable) suits.1 (all_at IsTable script.tables (table_of s) is.tables) in
    subst (λ o. AllByRecursion IsSpelledSent (sents_of (unwrap_or (option_map (λ t. plan_on r t s) o) (Subsets [])))) (sym suits.1) (on_spelled r table is_table s suits.2)
