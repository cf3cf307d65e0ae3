-- The range of keys that a predicate leaves.
use Rattle.std.specs.Prelude.{◌≡◌, ◌≢◌, ℕ, ◌-◌, ◌^◌, ℤ, pos, negsuc, ◌+ℤ◌, ◌-ℤ◌, int_lt, List, [], ◌∷◌, ◌++◌, replicate, filter, filter_map, fold, sum_by, Option, Some, None, option_map, unwrap_or, slice_get, Bool, true, false, ◌&&◌, ◌==◌, Ok, if◌then◌else◌}
use Rattle.std.specs.Ordering.{int_eq}
use Rattle.sql_base.specs.Keys.{key_eq, key_lt, key_max, key_min, is_within}
use Rattle.sql_base.specs.Rows.{width, kinds, padded, key_value, key_of, IsRow}
use Rattle.sql_base.specs.Tables.{is_literal_of, IsTable, IsFilter}
use Rattle.sql_base.specs.Val.{filter_val, IsTruth}
use Rattle.sql_base.specs.declared.expressions.CompareOp.{CompareOp}
use Rattle.sql_base.specs.declared.expressions.CompareOp.TheVariants.{Eq, Ne, Lt, Le, Gt, Ge}
use Rattle.sql_base.specs.declared.expressions.Expr.{Expr, fold-Expr}
use Rattle.sql_base.specs.declared.expressions.Expr.TheOpen.{Expr-F, Number, Text, Column, Arith, Compare, And, Or, Not}
use Rattle.sql_base.specs.declared.key_ranges.KeyRange.{KeyRange}
use Rattle.sql_base.specs.declared.tables.ColumnKind.{ColumnKind}
use Rattle.sql_base.specs.declared.tables.ColumnKind.TheVariants.{Int, Char}
use Rattle.sql_base.specs.declared.tables.TableDef.{TableDef}
use Rattle.sql_base.specs.declared.values.Value.{Value}
use Rattle.sql_base.specs.declared.values.Value.TheVariants as value

-- a column compared with a literal, the column on the left
pub record Bound : Type 0 where
  pub column : ℕ
  pub op : CompareOp
  pub literal : Value

-- the operator with its sides exchanged
abbrev pub turned_round : CompareOp → CompareOp
turned_round Eq = Eq
turned_round Ne = Ne
turned_round Lt = Gt
turned_round Le = Ge
turned_round Gt = Lt
turned_round Ge = Le

-- an expression as it stands beside others: a column, a literal, or the bounds of the conjuncts at its top
pub data Shape : Type 0 where
  AColumn : ℕ → Shape
  ALiteral : Value → Shape
  Bounds : List Bound → Shape

abbrev pub bounds_in : Shape → List Bound
bounds_in (AColumn c) = []
bounds_in (ALiteral v) = []
bounds_in (Bounds bounds) = bounds

abbrev pub shape_of_compare : CompareOp → Shape → Shape → Shape
shape_of_compare op (AColumn c) (ALiteral v) = Bounds (record { column = c; op = op; literal = v } ∷ [])
shape_of_compare op (ALiteral v) (AColumn c) = Bounds (record { column = c; op = turned_round op; literal = v } ∷ [])
shape_of_compare op a b = Bounds []

abbrev pub shape_step : Expr-F Shape → Shape
shape_step (Number n) = ALiteral (value.Int n)
shape_step (Text text) = ALiteral (value.Text text)
shape_step (Column c) = AColumn c
shape_step (Arith op a b) = Bounds []
shape_step (Compare op a b) = shape_of_compare op a b
shape_step (And a b) = Bounds (bounds_in a ++ bounds_in b)
shape_step (Or a b) = Bounds []
shape_step (Not a) = Bounds []

-- the bounds that the conjuncts at the top of a predicate set
abbrev pub bounds_of : Option Expr → List Bound
bounds_of None = []
bounds_of (Some e) = bounds_in (fold-Expr Shape shape_step e)

-- what the bounds leave of a key column, as bytes; a side without a bound is none
pub record ColumnInterval : Type 0 where
  pub low : Option (List ℕ)
  pub high : Option (List ℕ)
  pub is_empty : Bool
  pub is_one : Bool

-- the numbers from low to high
pub record Numbers : Type 0 where
  pub low : ℤ
  pub high : ℤ

abbrev pub at_least : ℤ → Numbers → Numbers
at_least n i = record i { low = if int_lt i.low n then n else i.low }

abbrev pub at_most : ℤ → Numbers → Numbers
at_most n i = record i { high = if int_lt n i.high then n else i.high }

-- the numbers of an interval that meet a comparison
abbrev pub narrowed : CompareOp → ℤ → Numbers → Numbers
narrowed Eq n i = at_least n (at_most n i)
narrowed Ne n i = i
narrowed Lt n i = at_most (n -ℤ pos 1) i
narrowed Le n i = at_most n i
narrowed Gt n i = at_least (n +ℤ pos 1) i
narrowed Ge n i = at_least n i

abbrev pub number_bound : Numbers → Bound → Numbers
number_bound i bound = narrow bound.literal
  where
    narrow : Value → Numbers
    narrow (value.Int n) = narrowed bound.op n i
    narrow (value.Text text) = i

-- a number column begins with all 64 bit numbers
abbrev pub number_interval : List Bound → ColumnInterval
number_interval bounds =
    let i = fold number_bound (record { low = negsuc (2 ^ 63 - 1); high = pos (2 ^ 63 - 1) }) bounds in
    record { low = Some (key_value Int (value.Int i.low)); high = Some (key_value Int (value.Int i.high)); is_empty = int_lt i.high i.low; is_one = int_eq i.low i.high }

-- the texts, padded to their column, that bound it from below and from above; `<` counts as `<=`, and `>` as `>=`
abbrev pub low_text : ℕ → CompareOp → Value → Option (List ℕ)
low_text width Eq (value.Text text) = Some (padded width text)
low_text width Gt (value.Text text) = Some (padded width text)
low_text width Ge (value.Text text) = Some (padded width text)
low_text width op literal = None

abbrev pub high_text : ℕ → CompareOp → Value → Option (List ℕ)
high_text width Eq (value.Text text) = Some (padded width text)
high_text width Lt (value.Text text) = Some (padded width text)
high_text width Le (value.Text text) = Some (padded width text)
high_text width op literal = None

-- the one that `better` prefers over all others, if there are any
abbrev pub best : (List ℕ → List ℕ → List ℕ) → List (List ℕ) → Option (List ℕ)
best better [] = None
best better (text ∷ texts) = Some (fold better text texts)

abbrev pub on_both : (List ℕ → List ℕ → Bool) → Option (List ℕ) → Option (List ℕ) → Bool
on_both test (Some low) (Some high) = test low high
on_both test low high = false

-- a text column begins without bounds
abbrev pub text_interval : ℕ → List Bound → ColumnInterval
text_interval width bounds =
    let low = best key_max (filter_map (λ bound. low_text width bound.op bound.literal) bounds) in
    let high = best key_min (filter_map (λ bound. high_text width bound.op bound.literal) bounds) in
    record { low = low; high = high; is_empty = on_both (λ l h. key_lt h l) low high; is_one = on_both key_eq low high }

abbrev pub interval : ColumnKind → List Bound → ColumnInterval
interval Int bounds = number_interval bounds
interval (Char width) bounds = text_interval width bounds

-- the bounds that a key column can use: its own, with a literal of its type that isn't too long
abbrev pub usable : ℕ → ColumnKind → List Bound → List Bound
usable c kind bounds = filter (λ bound. (bound.column == c) && is_literal_of kind bound.literal) bounds

-- a key column: its place and its kind
pub record KeyColumn : Type 0 where
  pub place : ℕ
  pub kind : ColumnKind

abbrev pub key_columns : TableDef → List KeyColumn
key_columns table = filter_map (λ c. option_map (λ kind. record { place = c; kind = kind }) (slice_get (kinds table) c)) table.key

-- the bytes that stand for the columns that aren't taken
abbrev pub filled : ℕ → List KeyColumn → List ℕ
filled byte columns = replicate (sum_by (λ column. width column.kind) columns) byte

-- the columns are taken in order, up to the first whose interval isn't one value
abbrev pub range_over : List Bound → List KeyColumn → Option KeyRange
range_over bounds [] = Some (record { low = []; high = [] })
range_over bounds (column ∷ columns) =
    let i = interval column.kind (usable column.place column.kind bounds) in
    let low = unwrap_or i.low (replicate (width column.kind) 0x00) in
    let high = unwrap_or i.high (replicate (width column.kind) 0xFF) in
    if i.is_empty
    then None
    else if i.is_one
    then option_map (λ rest. record { low = low ++ rest.low; high = high ++ rest.high }) (range_over bounds columns)
    else Some (record { low = low ++ filled 0x00 columns; high = high ++ filled 0xFF columns })

-- the range of a predicate over a table, or none where it is empty
abbrev pub range : TableDef → Option Expr → Option KeyRange
range table filter = range_over (bounds_of filter) (key_columns table)

abbrev pub is_in : Option KeyRange → List ℕ → Bool
is_in None key = false
is_in (Some range) key = is_within range.low range.high key

-- the law: no row whose key lies outside the range meets the predicate
abbrev pub NoneOutside : Type 0
NoneOutside =
    (table : TableDef) (filter : Option Expr) (row : List Value) → IsTable table → IsFilter table filter → IsRow table row
    → is_in (range table filter) (key_of table row) ≡ false → filter_val filter row ≢ Ok (IsTruth true)
