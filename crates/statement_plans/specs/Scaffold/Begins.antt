-- What a Begin asks for one piece of a range.
use Rattle.std.specs.Prelude.{ℕ, ◌+◌, List}
use Rattle.sql_base.specs.Keys.{common_prefix}
use Rattle.sql_base.specs.declared.key_ranges.KeyRange.{KeyRange}
use Rattle.dp_messages.specs.declared.requests.Ask.{Ask}
use Rattle.dp_messages.specs.declared.requests.Ask.TheVariants as ask
use Rattle.partition_map.specs.declared.Piece.{Piece}
use Rattle.session_grammar.specs.declared.plans.Sent.{Sent}
use Rattle.statement_plans.specs.declared.begins.Begin.{Begin}
use Rattle.statement_plans.specs.declared.begins.Begin.TheVariants.{Delete, Read, Update}

abbrev pub begin_of : Begin → List ℕ → KeyRange → Ask
begin_of (Read access filter columns) granule range = ask.BeginRead access granule range filter columns
begin_of (Update access filter sets) granule range = ask.BeginUpdate access granule range filter sets
begin_of (Delete access filter) granule range = ask.BeginDelete access granule range filter

-- the Begin of a piece, where the table's first partition has this number
abbrev pub sent_in : ℕ → KeyRange → Begin → Piece → Sent
sent_in first range begin piece = record { part = first + piece.part; ask = begin_of begin (common_prefix range.low range.high) piece.range }
