-- The texts that bound a column on one side.
use Rattle.std.specs.Prelude.{ℕ, List, filter_map, fold, length, nat_le, Option, Some, None, Bool, true, false, ◌&&◌, ◌==◌, if◌then◌else◌}
use Rattle.sql_base.specs.Keys.{key_max, key_min}
use Rattle.sql_base.specs.Rows.{is_printable, padded}
use Rattle.sql_base.specs.Tables.{is_literal_of}
use Rattle.sql_base.specs.declared.expressions.CompareOp.{CompareOp}
use Rattle.sql_base.specs.declared.expressions.CompareOp.TheVariants.{Eq, Ne, Lt, Le, Gt, Ge}
use Rattle.sql_base.specs.declared.tables.ColumnKind.TheVariants.{Char}
use Rattle.sql_base.specs.declared.values.Value.{Value}
use Rattle.range_finder.specs.Range.{Bound, best, high_text, low_text, usable}
use Rattle.key_ranges.specs.declared.texts.Side.{Side}
use Rattle.key_ranges.specs.declared.texts.Side.TheVariants.{Low, High}

-- the operators that bound a column on the side
abbrev pub sets : Side → CompareOp → Bool
sets Low Eq = true
sets Low Ne = false
sets Low Lt = false
sets Low Le = false
sets Low Gt = true
sets Low Ge = true
sets High Eq = true
sets High Ne = false
sets High Lt = true
sets High Le = true
sets High Gt = false
sets High Ge = false

abbrev pub side_text : Side → ℕ → CompareOp → Value → Option (List ℕ)
side_text Low width op literal = low_text width op literal
side_text High width op literal = high_text width op literal

-- of two texts the one that narrows the side more
abbrev pub better : Side → List ℕ → List ℕ → List ℕ
better Low a b = key_max a b
better High a b = key_min a b

-- the text, padded, if it is printable and not too long
abbrev pub fitting_text : ℕ → List ℕ → Option (List ℕ)
fitting_text width text = if nat_le (length text) width && is_printable text then Some (padded width text) else None

-- the text that a comparison with a literal of the column sets, and that one bound sets
abbrev pub literal_text : Side → ℕ → CompareOp → Value → Option (List ℕ)
literal_text side width op literal = if is_literal_of (Char width) literal then side_text side width op literal else None

abbrev pub bounding : Side → ℕ → ℕ → Bound → Option (List ℕ)
bounding side column width bound = if bound.column == column then literal_text side width bound.op bound.literal else None

abbrev pub kept_better : Side → Option (List ℕ) → Option (List ℕ) → Option (List ℕ)
kept_better side None text = text
kept_better side (Some kept) None = Some kept
kept_better side (Some kept) (Some text) = Some (better side kept text)

-- the texts that bounds set
abbrev pub texts_of : Side → ℕ → ℕ → List Bound → List (List ℕ)
texts_of side column width bounds = filter_map (λ (bound : Bound). side_text side width bound.op bound.literal) (usable column (Char width) bounds)

-- the best of a text that was kept and more texts
abbrev pub best_from : Side → Option (List ℕ) → List (List ℕ) → Option (List ℕ)
best_from side None texts = best (better side) texts
best_from side (Some kept) texts = Some (fold (better side) kept texts)
