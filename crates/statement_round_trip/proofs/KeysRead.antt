-- PRIMARY KEY is read as it is printed.
use Rattle.std.proofs.Common.{◌≡◌, ◌≤◌, ◌<◌, ℕ, ◌+◌, List, [], ◌∷◌, ◌++◌, length, map, Bool, true, false, Option, Some, None, refl, sym, ap, ◌∙◌, append_assoc, append-nil, arith}
use Rattle.std.proofs.lemmas.Bool.Decides.{nat_tests}
use Rattle.std.proofs.lemmas.List.Sums.{sum_by-cons}
use Rattle.std.proofs.lemmas.Option.{slice_get-map}
use Rattle.std.specs.Prelude.{flat_map, if◌then◌else◌, nat_eq, nat_lt, option_map, slice_get, sum_by}
use Rattle.std.specs.List.{cons_option, list_any, AllByRecursion}
use Rattle.sql_base.specs.Rows.{chosen, width}
use Rattle.sql_base.specs.Tables.{all_differ}
use Rattle.sql_base.specs.declared.tables.Column.{Column}
use Rattle.sql_base.specs.declared.tables.ColumnKind.{ColumnKind}
use Rattle.statement_words.specs.declared.keywords.Keyword.TheVariants as keys
use Rattle.statement_words.specs.declared.tokens.Sign.TheVariants as signs
use Rattle.statement_words.specs.declared.tokens.Word.{Word}
use Rattle.statement_grammar.specs.Grammar.{behind, part}
use Rattle.statement_grammar.specs.Grammar as grammar
use Rattle.statement_grammar.specs.Machine.{advance}
use Rattle.statement_grammar.specs.declared.symbols.NameRole.TheVariants as roles
use Rattle.statement_grammar.specs.declared.symbols.Part.TheVariants as parts
use Rattle.statement_grammar.specs.declared.symbols.Symbol.{Symbol}
use Rattle.statement_draft.specs.Faults.{noted}
use Rattle.statement_draft.specs.Judging.{all_ended, came, read_from, word_read}
use Rattle.statement_draft.specs.Names.{column_named, is_long}
use Rattle.statement_draft.specs.TableEvents.{added_up_to, column_bytes, key_column_came, key_column_found}
use Rattle.statement_draft.specs.declared.draft.Draft.{Draft}
use Rattle.statement_draft.specs.declared.draft.NewTable.{NewTable}
use Rattle.statement_draft.specs.declared.faults.Reason.TheVariants.{OverLimit, Repeated}
use Rattle.statement_printer.specs.Printing.{column_words, key, key_words, name, name_word, place_words, sign}
use Rattle.statement_round_trip.specs.Onward.{ReadsOn}
use Rattle.statement_round_trip.specs.Rereading.{AreNamed}
use Rattle.statement_round_trip.proofs.Apart.{apart_more, apart_none, differing, Apart}
use Rattle.statement_round_trip.proofs.ColumnsRead.{open_steps, tabled}
use Rattle.statement_round_trip.proofs.Onward.{from, skip, spelled, step, StepsTo}
use Rattle.statement_round_trip.proofs.RowsRead.{close_steps}
use Rattle.sql_base.proofs.ListFacts.{some-at}

-- a table whose key columns are being read, and their bytes
abbrev pub keyed : List ℕ → ℕ → NewTable → NewTable
keyed places bytes table = record table { key_width = bytes; def = record table.def { key = places } }

primary_steps : (s : List Symbol) (d : Draft)
    → StepsTo (part parts.ColumnOrKey ∷ s) d (key keys.Primary)
    (grammar.key keys.Key ∷ grammar.sign signs.Open ∷ grammar.name roles.KeyColumn ∷ part parts.MoreKeyColumns ∷ grammar.sign signs.Close ∷ part parts.MoreChecks ∷ s) (λ place. d)
unfolding read_from word_read advance all_ended came behind
primary_steps s d first end ts at = refl

pub key_steps : (s : List Symbol) (d : Draft) → StepsTo (grammar.key keys.Key ∷ s) d (key keys.Key) s (λ place. d)
unfolding read_from word_read advance all_ended came
key_steps s d first end ts at = refl

name_steps : (c : List ℕ) (s : List Symbol) (d : Draft) → StepsTo (grammar.name roles.KeyColumn ∷ s) d (name c) s (λ place. key_column_came c place d)
unfolding read_from word_read advance all_ended came
name_steps c s d first end ts at = refl

comma_steps : (s : List Symbol) (d : Draft)
    → StepsTo (part parts.MoreKeyColumns ∷ s) d (sign signs.Comma) (grammar.name roles.KeyColumn ∷ part parts.MoreKeyColumns ∷ s) (λ place. d)
unfolding read_from word_read advance all_ended came behind
comma_steps s d first end ts at = refl

no_more : behind parts.MoreKeyColumns (sign signs.Close) ≡ None
unfolding behind
no_more = refl

abbrev noted_key : List ℕ → ℕ → ℕ → NewTable → Draft → ℕ → Bool → Bool → Draft
noted_key places c at table d bytes again many = record (tabled (keyed (if again then places else places ++ c ∷ []) bytes table) d) {
  first = noted again Repeated at (noted many OverLimit at d.first);
}

abbrev noted_name : List ℕ → ℕ → Option ℕ → ℕ → NewTable → Draft → Bool → Draft
noted_name places bytes found at table d long = key_column_found found at (record (tabled (keyed places bytes table) d) { first = noted long OverLimit at d.first })

key_is : (places : List ℕ) (bytes c : ℕ) (column : Column) (at : ℕ) (table : NewTable) (d : Draft) → column_named table.def.columns column.name ≡ Some c
    → is_long column.name ≡ false → slice_get table.def.columns c ≡ Some column → list_any (nat_eq c) places ≡ false → bytes + width column.kind ≤ 32
    → key_column_came column.name at (tabled (keyed places bytes table) d) ≡ tabled (keyed (places ++ c ∷ []) (bytes + width column.kind) table) d
key_is places bytes c column at table d named short here new fits =
    let again = list_any (nat_eq c) places in
    let sum : added_up_to 32 bytes (width column.kind) ≡ bytes + width column.kind = omega (arith, fits) in
    let within : nat_lt 32 (bytes + width column.kind) ≡ false = grind (arith, nat_tests, fits) in
    ap (noted_name places bytes (column_named table.def.columns column.name) at table d) short
    ∙ ap (λ (o : Option ℕ). noted_name places bytes o at table d false) named
    ∙ ap (λ (o : Option Column). noted_key places c at table d (added_up_to 32 bytes (column_bytes o)) again (nat_lt 32 (added_up_to 32 bytes (column_bytes o)))) here
    ∙ ap (λ (k : ℕ). noted_key places c at table d k again (nat_lt 32 k)) sum
    ∙ ap (λ (b : Bool). noted_key places c at table d (bytes + width column.kind) b (nat_lt 32 (bytes + width column.kind))) new
    ∙ ap (noted_key places c at table d (bytes + width column.kind) false) within

-- the columns' kinds, and the bytes of a key
abbrev kinds_of : List Column → List ColumnKind
kinds_of columns = map (λ column. column.kind) columns

abbrev bytes_at : List Column → List ℕ → ℕ
bytes_at columns places = sum_by width (chosen places (kinds_of columns))

bytes_on : (columns : List Column) (c : ℕ) (column : Column) (places : List ℕ) → slice_get columns c ≡ Some column → bytes_at columns (c ∷ places) ≡ width column.kind + bytes_at columns places
bytes_on columns c column places here =
    let some-at : slice_get (kinds_of columns) c ≡ Some column.kind =
    slice_get-map (λ (column : Column). column.kind) columns c ∙ ap (option_map (λ (column : Column). column.kind)) here in
    ap (λ (o : Option ColumnKind). sum_by width (cons_option o (chosen places (kinds_of columns)))) some-at
    ∙ sum_by-cons width column.kind (chosen places (kinds_of columns))

abbrev others : List Column → List ℕ → List Word
others columns places = flat_map (λ y. sign signs.Comma ∷ column_words columns y) places

-- columns that may be of the key behind others
record MayFollow (columns : List Column) (before places : List ℕ) (bytes total : ℕ) : Type 0 where
  within : AllByRecursion (λ c. c < length columns) places
  apart : Apart before places
  differ : all_differ nat_eq places ≡ true
  sum : bytes + bytes_at columns places ≡ total

-- a key column, and the others behind it
column_reads : (table : NewTable) → AreNamed table.def.columns → (c : ℕ) (places before : List ℕ) (bytes total : ℕ) (d : Draft)
    → MayFollow table.def.columns before (c ∷ places) bytes total → total ≤ 32
    → (s : List Symbol) (ws : List Word) (Last : Draft → Type 0)
    → ((bytes : ℕ) → MayFollow table.def.columns (before ++ c ∷ []) places bytes total → ReadsOn s (tabled (keyed (before ++ c ∷ []) bytes table) d) ws Last)
    → ReadsOn (grammar.name roles.KeyColumn ∷ s) (tabled (keyed before bytes table) d) (name_word (slice_get table.def.columns c) ∷ ws) Last
column_reads table named c places before bytes total d h most s ws Last more =
    let found = some-at table.def.columns c h.within.0 in
    let column = found.0 in
    let is = named c column found.1 in
    let on = bytes_on table.def.columns c column places found.1 in
    let split = differing c places h.differ in
    spelled _ _ _ _ Last (ap (λ (o : Option Column). name_word o ∷ ws) found.1)
    (step _ _ _ _ Last _ _ (name_steps column.name s (tabled (keyed before bytes table) d)) (λ i.
    from s _ _ ws Last (key_is before bytes c column i table d is.0 is.1 found.1 h.apart.0 (omega (arith, on, h.sum, most)))
    (more (bytes + width column.kind) (record {
      within = h.within.1;
      apart = apart_more c before places split.0 h.apart.1;
      differ = split.1;
      sum = omega (arith, on, h.sum);
    }))))

others_read : (table : NewTable) → AreNamed table.def.columns → (places before : List ℕ) (bytes total : ℕ) (d : Draft)
    → MayFollow table.def.columns before places bytes total → total ≤ 32
    → (s : List Symbol) (ws : List Word) (Last : Draft → Type 0) → ReadsOn s (tabled (keyed (before ++ places) total table) d) (sign signs.Close ∷ ws) Last
    → ReadsOn (part parts.MoreKeyColumns ∷ s) (tabled (keyed before bytes table) d) (others table.def.columns places ++ sign signs.Close ∷ ws) Last
others_read table named [] before bytes total d h most s ws Last more =
    let same : bytes ≡ total = omega (arith, h.sum) in
    skip parts.MoreKeyColumns s _ (sign signs.Close) ws Last refl no_more
    (from s _ _ _ Last
    (ap (λ (l : List ℕ). tabled (keyed l bytes table) d) (sym (append-nil before)) ∙ ap (λ (k : ℕ). tabled (keyed (before ++ []) k table) d) same) more)
others_read table named (c ∷ places) before bytes total d h most s ws Last more =
    step _ _ _ _ Last _ _ (comma_steps s (tabled (keyed before bytes table) d)) (λ i.
    column_reads table named c places before bytes total d h most _ _ Last (λ sum later.
    others_read table named places (before ++ c ∷ []) sum total d later most s ws Last
    (from s _ _ _ Last (ap (λ (l : List ℕ). tabled (keyed l total table) d) (append_assoc before (c ∷ []) places)) more)))

-- PRIMARY KEY ( k , .. )
pub key_reads : (table : NewTable) → AreNamed table.def.columns → (places : List ℕ) → 0 < length places → AllByRecursion (λ c. c < length table.def.columns) places
    → all_differ nat_eq places ≡ true → bytes_at table.def.columns places ≤ 32
    → (s : List Symbol) (d : Draft) (ws : List Word) (Last : Draft → Type 0)
    → ReadsOn (part parts.MoreChecks ∷ s) (tabled (keyed places (bytes_at table.def.columns places) table) d) ws Last
    → ReadsOn (part parts.ColumnOrKey ∷ s) (tabled (keyed [] 0 table) d) (key_words table.def.columns places ++ ws) Last
unfolding key_words place_words
key_reads table named [] some within differ most s d ws Last more = absurd (omega (arith, some))
key_reads table named (c ∷ places) some within differ most s d ws Last more =
    let d1 = tabled (keyed [] 0 table) d in
    let total = bytes_at table.def.columns (c ∷ places) in
    spelled _ d1 _ _ Last
    (ap (λ (l : List Word). key keys.Primary ∷ key keys.Key ∷ sign signs.Open ∷ l)
    (append_assoc (column_words table.def.columns c ++ others table.def.columns places) (sign signs.Close ∷ []) ws))
    (step _ d1 _ _ Last _ _ (primary_steps s d1) (λ i.
    step _ d1 _ _ Last _ _ (key_steps _ d1) (λ j.
    step _ d1 _ _ Last _ _ (open_steps _ d1) (λ k.
    column_reads table named c places [] 0 total d (record { within = within; apart = apart_none (c ∷ places); differ = differ; sum = omega arith }) most _ _ Last (λ sum later.
    others_read table named places (c ∷ []) sum total d later most _ ws Last
    (step _ _ _ _ Last _ _ (close_steps _ (tabled (keyed (c ∷ places) total table) d)) (λ l. more)))))))
