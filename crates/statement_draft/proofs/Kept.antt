-- A fault stays: where there is none behind an event, there was none before it.
use Rattle.std.proofs.Common.{◌≡◌, ℕ, pos, ◌-◌, ◌^◌, min, not, ◌&&◌, List, Bool, true, Option, Some, None}
use Rattle.std.specs.Prelude.{nat_le}
use Rattle.sql_base.specs.declared.tables.ColumnKind.TheVariants.{Char}
use Rattle.statement_draft.specs.Names.{is_long, is_wide, column_named, table_named}
use Rattle.sql_base.specs.declared.values.Value.TheVariants as value
use Rattle.statement_draft.specs.declared.faults.Reason.TheVariants.{NumberTooWide, UnknownName, OverLimit}
use Rattle.sql_base.specs.declared.tables.ColumnKind.{ColumnKind}
use Rattle.sql_base.specs.declared.values.Value.{Value}
use Rattle.statement_words.specs.declared.tokens.Word.{Word}
use Rattle.statement_words.specs.declared.tokens.Word.TheVariants as word
use Rattle.statement_grammar.specs.declared.symbols.Limit.{Limit}
use Rattle.statement_draft.specs.Faults.{noted, noted_as}
use Rattle.statement_draft.specs.TableEvents as tables
use Rattle.statement_draft.specs.RowEvents as rows
use Rattle.statement_draft.specs.declared.faults.Fault.{Fault}
use Rattle.statement_draft.specs.declared.faults.Reason.{Reason}
use Rattle.statement_draft.specs.declared.draft.Draft.{Draft}
use Rattle.statement_draft.proofs.Clean.{noted-none}

abbrev pub Keeps : (Draft → Draft) → Type 0
Keeps event = (d : Draft) → (event d).first ≡ None → d.first ≡ None

pub one : (holds : Bool) (reason : Reason) (at : ℕ) (first : Option Fault) → noted holds reason at first ≡ None → first ≡ None
one holds reason at first h = (noted-none holds reason at first h).1

pub as_one : (reason : Option Reason) (at : ℕ) (first : Option Fault) → noted_as reason at first ≡ None → first ≡ None
as_one None at first h = h
as_one (Some reason) at first h = one true reason at first h

pub limit_keeps : (l : Limit) (n at : ℕ) → Keeps (tables.limit_came l n at)
limit_keeps l n at d h = one _ _ _ _ (one _ _ _ _ h)

pub table_begins_keeps : (at : ℕ) → Keeps (tables.table_begins at)
table_begins_keeps at d h = one _ _ _ _ h

pub table_keeps : (name : List ℕ) (at : ℕ) → Keeps (tables.table_came name at)
table_keeps name at d h = one _ _ _ _ (one _ _ _ _ h)

pub column_keeps : (name : List ℕ) (at : ℕ) → Keeps (tables.column_came name at)
column_keeps name at d h = one _ _ _ _ (one _ _ _ _ h)

pub kind_keeps : (kind : ColumnKind) (n : ℕ) → Keeps (tables.kind_came kind n)
kind_keeps kind n d h = one _ _ _ _ h

-- with the faults of a width itself
abbrev ranged : ℕ → ℕ → Draft → Draft
ranged n at d = record d { first = noted (not (nat_le 1 n && nat_le n 255)) OverLimit at (noted (is_wide n) NumberTooWide at d.first) }

pub width_keeps : (n at : ℕ) → Keeps (tables.width_came n at)
width_keeps n at d h =
    one (is_wide n) NumberTooWide at d.first
    (one (not (nat_le 1 n && nat_le n 255)) OverLimit at (noted (is_wide n) NumberTooWide at d.first) (kind_keeps (Char (min n 255)) n (ranged n at d) h))

pub key_found_keeps : (place : Option ℕ) (at : ℕ) → Keeps (tables.key_column_found place at)
key_found_keeps None at d h = one true UnknownName at d.first h
key_found_keeps (Some c) at d h = one _ _ _ _ (one _ _ _ _ h)

pub key_keeps : (name : List ℕ) (at : ℕ) → Keeps (tables.key_column_came name at)
key_keeps name at d h =
    one (is_long name) OverLimit at d.first
    (key_found_keeps (column_named d.table.def.columns name) at (record d { first = noted (is_long name) OverLimit at d.first }) h)

pub check_keeps : (at : ℕ) → Keeps (tables.check_begins at)
check_keeps at d h = one _ _ _ _ h

pub first_key_keeps : Keeps tables.first_key_ends
first_key_keeps d h = one _ _ _ _ (one _ _ _ _ h)

pub literal_keeps : (v : Value) (at : ℕ) → Keeps (rows.literal_came v at)
literal_keeps v at d h = as_one _ _ _ h

pub literal_begins_keeps : (w : Word) (at : ℕ) → Keeps (rows.literal_begins w at)
literal_begins_keeps (word.Number n) at d h =
    one (is_wide n) NumberTooWide at d.first
    (literal_keeps (value.Int (pos (min n (2 ^ 63 - 1)))) at (record d { first = noted (is_wide n) NumberTooWide at d.first }) h)
literal_begins_keeps (word.Text text) at d h = literal_keeps (value.Text text) at d h
literal_begins_keeps (word.Keyword k) at d h = h
literal_begins_keeps (word.Name name) at d h = h
literal_begins_keeps (word.Sign s) at d h = h

pub load_named_keeps : (table : Option ℕ) (at : ℕ) → Keeps (rows.load_named table at)
load_named_keeps table at d h = one _ _ _ _ (one _ _ _ _ h)

pub load_keeps : (name : List ℕ) (at : ℕ) → Keeps (rows.load_came name at)
load_keeps name at d h =
    one (is_long name) OverLimit at d.first
    (load_named_keeps (table_named d.tables name) at (record d { first = noted (is_long name) OverLimit at d.first }) h)

pub record_keeps : (at : ℕ) → Keeps (rows.record_counted at)
record_keeps at d h = one _ _ _ _ (one _ _ _ _ h)
