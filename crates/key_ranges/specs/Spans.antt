-- What bounds leave of a key column, as bytes of a key.
use Rattle.std.specs.Prelude.{ℕ, List, ◌++◌, replicate, unwrap_or, Option, Some, None, option_map, if◌then◌else◌}
use Rattle.sql_base.specs.Rows.{width}
use Rattle.sql_base.specs.declared.key_ranges.KeyRange.{KeyRange}
use Rattle.sql_base.specs.declared.tables.ColumnKind.{ColumnKind}
use Rattle.range_finder.specs.Range.{Bound, ColumnInterval, KeyColumn, filled, interval, usable}
use Rattle.key_ranges.specs.declared.spans.Span.{Span}

abbrev pub span_in : ColumnKind → ColumnInterval → Option Span
span_in kind i =
    if i.is_empty
    then None
    else Some (record {
      low = unwrap_or i.low (replicate (width kind) 0x00);
      high = unwrap_or i.high (replicate (width kind) 0xFF);
      is_one = i.is_one;
    })

abbrev pub span_left : List Bound → ℕ → ColumnKind → Option Span
span_left bounds column kind = span_in kind (interval kind (usable column kind bounds))

-- a range with more bytes in front
abbrev pub behind : List ℕ → List ℕ → KeyRange → KeyRange
behind low high range = record { low = low ++ range.low; high = high ++ range.high }

-- a column with its span, in front of the range of the columns behind it
abbrev pub in_front : Option Span → List KeyColumn → Option KeyRange → Option KeyRange
in_front None columns rest = None
in_front (Some span) columns rest =
    if span.is_one
    then option_map (behind span.low span.high) rest
    else Some (record { low = span.low ++ filled 0x00 columns; high = span.high ++ filled 0xFF columns })

abbrev pub with_kind : ℕ → ColumnKind → KeyColumn
with_kind place kind = record { place = place; kind = kind }
