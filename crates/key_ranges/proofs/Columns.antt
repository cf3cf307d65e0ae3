-- The key columns of a table, one after the other.
use Rattle.std.proofs.Common.{◌≡◌, ◌<◌, ◌≤◌, ℕ, ◌+◌, zero, suc, List, [], ◌∷◌, ◌++◌, length, drop, get_or, map, All, Bool, true, false, Some, None, Option, refl, ap, sym, ◌∙◌, arith}
use Rattle.std.specs.Prelude.{filter_map, option_map, replicate, slice_get, sum_by, unwrap_or, if◌then◌else◌}
use Rattle.std.specs.List.{cons_option}
use Rattle.std.proofs.lemmas.List.{append-nil, append_assoc, drop_all, length-map}
use Rattle.std.proofs.lemmas.List.Sums.{sum_by-cons}
use Rattle.std.proofs.lemmas.Option.{slice_get-get_or, slice_get-map}
use Rattle.sql_base.specs.Rows.{chosen, kinds, width}
use Rattle.sql_base.specs.declared.key_ranges.KeyRange.{KeyRange}
use Rattle.sql_base.specs.declared.tables.Column.{Column}
use Rattle.sql_base.specs.declared.tables.ColumnKind.{ColumnKind}
use Rattle.sql_base.specs.declared.tables.TableDef.{TableDef}
use Rattle.range_finder.specs.Range.{Bound, ColumnInterval, KeyColumn, filled, interval, key_columns, range_over, usable}
use Rattle.key_ranges.specs.Spans.{behind, in_front, span_left, with_kind}
use Rattle.key_ranges.specs.declared.spans.Span.{Span}
use Rattle.sql_base.proofs.ListFacts.{none-there, drop-at}

abbrev columns_at : List ColumnKind → List ℕ → List KeyColumn
columns_at ks places = filter_map (λ c. option_map (λ kind. record { place = c; kind = kind }) (slice_get ks c)) places

column_at : (ks : List ColumnKind) (places : List ℕ) (i : ℕ) → All (λ c. c < length ks) places → i < length places
    → slice_get (columns_at ks places) i ≡ option_map (with_kind (get_or places i 0)) (slice_get ks (get_or places i 0))
column_at ks [] i h lt = absurd (omega arith)
column_at ks (p ∷ places) i h lt = at (slice_get ks p) refl i lt (λ j l. column_at ks places j (λ k d m. h (suc k) d (omega arith)) l)
  where
    within : p < length ks
    within = h 0 0 (omega arith)

    at : (o : Option ColumnKind) → slice_get ks p ≡ o → (j : ℕ) → j < suc (length places)
        → ((j : ℕ) → j < length places → slice_get (columns_at ks places) j ≡ option_map (with_kind (get_or places j 0)) (slice_get ks (get_or places j 0)))
        → slice_get (cons_option (option_map (with_kind p) o) (columns_at ks places)) j ≡ option_map (with_kind (get_or (p ∷ places) j 0)) (slice_get ks (get_or (p ∷ places) j 0))
    at None e j lt rest = absurd (none-there ks p e within)
    at (Some x) e zero lt rest = sym (ap (option_map (with_kind p)) e)
    at (Some x) e (suc j) lt rest = rest j (omega arith)

columns-length : (ks : List ColumnKind) (places : List ℕ) → All (λ c. c < length ks) places → length (columns_at ks places) ≡ length places
columns-length ks [] h = refl
columns-length ks (p ∷ places) h = at (slice_get ks p) refl (columns-length ks places (λ k d m. h (suc k) d (omega arith)))
  where
    at : (o : Option ColumnKind) → slice_get ks p ≡ o → length (columns_at ks places) ≡ length places → length (cons_option (option_map (with_kind p) o) (columns_at ks places)) ≡ suc (length places)
    at None e rest = absurd (none-there ks p e (h 0 0 (omega arith)))
    at (Some x) e rest = ap suc rest

module _ (table : TableDef) (within : All (λ c. c < length table.columns) table.key) where
  kinds_within : All (λ c. c < length (kinds table)) table.key
  kinds_within = λ j e l. omega (arith, within j e l, length-map table.columns (λ (c : Column). c.kind))

  key_column : (i : ℕ) (kind : ColumnKind) → i < length table.key → slice_get (kinds table) (get_or table.key i 0) ≡ Some kind → slice_get (key_columns table) i ≡ Some (with_kind (get_or table.key i 0) kind)
  key_column i kind lt is = column_at (kinds table) table.key i kinds_within lt ∙ ap (option_map (with_kind (get_or table.key i 0))) is

  -- as it is read from the table
  pub column_read : (key : List ℕ) (columns : List Column) (i : ℕ) (d : Column) → key ≡ table.key → columns ≡ table.columns → i < length table.key
      → slice_get (key_columns table) i ≡ Some (with_kind (get_or key i 0) (get_or columns (get_or key i 0) d).kind)
  column_read key columns i d same_key same_columns lt =
      key_column i (get_or table.columns (get_or table.key i 0) d).kind lt
      (slice_get-map (λ (c : Column). c.kind) table.columns (get_or table.key i 0) ∙ ap (option_map (λ (c : Column). c.kind)) (slice_get-get_or table.columns (get_or table.key i 0) d (within i 0 lt)))
      ∙ ap (λ (ks : List ℕ). Some (with_kind (get_or ks i 0) (get_or table.columns (get_or ks i 0) d).kind)) (sym same_key)
      ∙ ap (λ (cs : List Column). Some (with_kind (get_or key i 0) (get_or cs (get_or key i 0) d).kind)) (sym same_columns)

  pub as_many : length (key_columns table) ≡ length table.key
  as_many = columns-length (kinds table) table.key kinds_within

in_front-is : (bounds : List Bound) (column : KeyColumn) (columns : List KeyColumn) → range_over bounds (column ∷ columns) ≡ in_front (span_left bounds column.place column.kind) columns (range_over bounds columns)
in_front-is bounds column columns = at i.is_empty i.is_one
  where
    i : ColumnInterval
    i = interval column.kind (usable column.place column.kind bounds)

    low : List ℕ
    low = unwrap_or i.low (replicate (width column.kind) 0x00)

    high : List ℕ
    high = unwrap_or i.high (replicate (width column.kind) 0xFF)

    at : (empty one : Bool)
        → (if empty then None else (if one then option_map (λ (rest : KeyRange). record { low = low ++ rest.low; high = high ++ rest.high }) (range_over bounds columns) else Some (record { low = low ++ filled 0x00 columns; high = high ++ filled 0xFF columns })))
        ≡ in_front (if empty then None else Some (record { low = low; high = high; is_one = one })) columns (range_over bounds columns)
    at true one = refl
    at false one = refl

-- the column at a place, in front of those behind it
pub front-at : (bounds : List Bound) (columns : List KeyColumn) (i : ℕ) (column : KeyColumn) → slice_get columns i ≡ Some column
    → range_over bounds (drop i columns) ≡ in_front (span_left bounds column.place column.kind) (drop (i + 1) columns) (range_over bounds (drop (i + 1) columns))
front-at bounds columns i column at = ap (range_over bounds) (drop-at columns i column at) ∙ in_front-is bounds column (drop (i + 1) columns)

abbrev pub total : List KeyColumn → ℕ
total columns = sum_by (λ (column : KeyColumn). width column.kind) columns

pub total-at : (columns : List KeyColumn) (i : ℕ) (column : KeyColumn) → slice_get columns i ≡ Some column → total (drop i columns) ≡ width column.kind + total (drop (i + 1) columns)
total-at columns i column at = ap total (drop-at columns i column at) ∙ sum_by-cons (λ (c : KeyColumn). width c.kind) column (drop (i + 1) columns)

pub total-end : (columns : List KeyColumn) (i : ℕ) → length columns ≤ i → total (drop i columns) ≡ 0
total-end columns i end = ap total (drop_all i columns end)

kinds_at : (ks : List ColumnKind) (places : List ℕ) → map (λ (column : KeyColumn). column.kind) (columns_at ks places) ≡ chosen places ks
kinds_at ks [] = refl
kinds_at ks (c ∷ places) = at (slice_get ks c) (kinds_at ks places)
  where
    at : (o : Option ColumnKind) → map (λ (column : KeyColumn). column.kind) (columns_at ks places) ≡ chosen places ks
        → map (λ (column : KeyColumn). column.kind) (cons_option (option_map (with_kind c) o) (columns_at ks places)) ≡ cons_option o (chosen places ks)
    at None e = e
    at (Some kind) e = ap (λ rest. kind ∷ rest) e

total-kinds : (columns : List KeyColumn) → total columns ≡ sum_by width (map (λ (column : KeyColumn). column.kind) columns)
total-kinds [] = refl
total-kinds (column ∷ columns) =
    sum_by-cons (λ (c : KeyColumn). width c.kind) column columns ∙ ap (λ n. width column.kind + n) (total-kinds columns)
    ∙ sym (sum_by-cons width column.kind (map (λ (c : KeyColumn). c.kind) columns))

pub total-less : (columns : List KeyColumn) (i : ℕ) → total (drop i columns) ≤ total columns
total-less [] zero = omega arith
total-less [] (suc i) = omega arith
total-less (column ∷ columns) zero = omega arith
total-less (column ∷ columns) (suc i) = omega (arith, total-less columns i, sum_by-cons (λ (c : KeyColumn). width c.kind) column columns)

-- the last span, with what fills the columns behind it
pub last-span : (low high : List ℕ) (span : Span) (columns : List KeyColumn) (rest : Option KeyRange) (found : KeyRange) → span.is_one ≡ false
    → found.low ≡ low ++ span.low ++ replicate (total columns) 0x00 → found.high ≡ high ++ span.high ++ replicate (total columns) 0xFF
    → Some found ≡ option_map (behind low high) (in_front (Some span) columns rest)
last-span low high span columns rest found one is_low is_high =
    let filled_low : List ℕ = replicate (total columns) 0x00 in
    let filled_high : List ℕ = replicate (total columns) 0xFF in
    ap (λ l. Some (record { low = l; high = found.high })) (is_low ∙ append_assoc low span.low filled_low)
    ∙ ap (λ h. Some (record { low = low ++ (span.low ++ filled_low); high = h })) (is_high ∙ append_assoc high span.high filled_high)
    ∙ sym (ap (λ (b : Bool). option_map (behind low high) (if b then option_map (behind span.low span.high) rest else Some (record { low = span.low ++ filled_low; high = span.high ++ filled_high }))) one)

-- one value more in front of the rest
pub one-more : (low high new_low new_high : List ℕ) (span : Span) (columns : List KeyColumn) (rest : Option KeyRange) → span.is_one ≡ true → new_low ≡ low ++ span.low → new_high ≡ high ++ span.high
    → option_map (behind new_low new_high) rest ≡ option_map (behind low high) (in_front (Some span) columns rest)
one-more low high new_low new_high span columns rest one is_low is_high =
    ap (λ l. option_map (behind l new_high) rest) is_low ∙ ap (λ h. option_map (behind (low ++ span.low) h) rest) is_high ∙ at rest
    ∙ sym (ap (λ (b : Bool). option_map (behind low high) (if b then option_map (behind span.low span.high) rest else Some (record { low = span.low ++ filled 0x00 columns; high = span.high ++ filled 0xFF columns }))) one)
  where
    at : (o : Option KeyRange) → option_map (behind (low ++ span.low) (high ++ span.high)) o ≡ option_map (behind low high) (option_map (behind span.low span.high) o)
    at None = refl
    at (Some r) = ap (λ l. Some (record { low = l; high = high ++ span.high ++ r.high })) (append_assoc low span.low r.low) ∙ ap (λ h. Some (record { low = low ++ (span.low ++ r.low); high = h })) (append_assoc high span.high r.high)

-- all key columns are taken
pub all-taken : (bounds : List Bound) (columns : List KeyColumn) (i : ℕ) (low high : List ℕ) (found : KeyRange) → length columns ≤ i → found.low ≡ low → found.high ≡ high
    → Some found ≡ option_map (behind low high) (range_over bounds (drop i columns))
all-taken bounds columns i low high found end is_low is_high =
    ap (λ l. Some (record { low = l; high = found.high })) (is_low ∙ sym (append-nil low)) ∙ ap (λ h. Some (record { low = low ++ []; high = h })) (is_high ∙ sym (append-nil high))
    ∙ sym (ap (λ (cs : List KeyColumn). option_map (behind low high) (range_over bounds cs)) (drop_all i columns end))
