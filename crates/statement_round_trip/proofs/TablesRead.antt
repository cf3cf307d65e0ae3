-- TABLE is read as it is printed.
use Rattle.std.proofs.Common.{◌≡◌, ◌≤◌, ◌<◌, ℕ, ◌+◌, List, [], ◌∷◌, ◌++◌, length, map, replicate, Bool, true, false, ◌||◌, Option, None, refl, sym, ap, subst, ◌∙◌, append_assoc, append-nil, arith}
use Rattle.std.proofs.lemmas.Bool.Decides.{nat_tests}
use Rattle.std.proofs.lemmas.List.{length-append}
use Rattle.std.proofs.lemmas.List.Sums.{sum_by-cons, sum_by_push}
use Rattle.std.specs.Prelude.{flat_map, if◌then◌else◌, is_some, nat_le, nat_lt, sum_by}
use Rattle.std.specs.List.{AllByRecursion}
use Rattle.std.specs.Str.{bytes_eq}
use Rattle.sql_base.specs.Rows.{key_width, width}
use Rattle.sql_base.specs.Scripts.{parts_of}
use Rattle.sql_base.specs.Tables.{all_differ, IsTable, IsWidth}
use Rattle.sql_base.specs.declared.tables.Column.{Column}
use Rattle.sql_base.specs.declared.tables.TableDef.{TableDef}
use Rattle.statement_words.specs.declared.keywords.Keyword.TheVariants as keys
use Rattle.statement_words.specs.declared.tokens.Sign.TheVariants as signs
use Rattle.statement_words.specs.declared.tokens.Word.{Word}
use Rattle.statement_grammar.specs.Grammar.{behind, part}
use Rattle.statement_grammar.specs.Grammar as grammar
use Rattle.statement_grammar.specs.Machine.{advance}
use Rattle.statement_grammar.specs.declared.symbols.End.TheVariants as ends
use Rattle.statement_grammar.specs.declared.symbols.NameRole.TheVariants as roles
use Rattle.statement_grammar.specs.declared.symbols.Part.{Part}
use Rattle.statement_grammar.specs.declared.symbols.Part.TheVariants as parts
use Rattle.statement_grammar.specs.declared.symbols.Symbol.{Symbol}
use Rattle.statement_draft.specs.Faults.{noted}
use Rattle.statement_draft.specs.Judging.{all_ended, came, ended, read_from, word_read}
use Rattle.statement_draft.specs.Names.{is_long, table_named}
use Rattle.statement_draft.specs.TableEvents.{no_table, table_came}
use Rattle.statement_draft.specs.declared.draft.Draft.{Draft}
use Rattle.statement_draft.specs.declared.draft.NewExpression.{NewExpression}
use Rattle.statement_draft.specs.declared.draft.NewRow.{NewRow}
use Rattle.statement_draft.specs.declared.draft.Scope.{Scope}
use Rattle.statement_draft.specs.declared.faults.Reason.TheVariants.{OverLimit, Repeated}
use Rattle.statement_printer.specs.Printing.{check_words, declaration, declared_words, firsts_words, key, key_words, name, sign, table_words}
use Rattle.statement_round_trip.specs.Onward.{ReadsOn}
use Rattle.statement_round_trip.proofs.AtTheEnd.{end_then}
use Rattle.statement_round_trip.proofs.ChecksRead.{checking, checks_read, front_of}
use Rattle.statement_round_trip.proofs.ColumnsRead.{columned, columns_read, open_steps, tabled, MayFollow}
use Rattle.statement_round_trip.proofs.FirstsRead.{all_follow, divided, dividing, firsts_read}
use Rattle.statement_round_trip.proofs.KeysRead.{key_reads}
use Rattle.statement_round_trip.proofs.LimitsRead.{semicolon_steps}
use Rattle.statement_round_trip.proofs.NamesApart.{all_new, all_new_more, names_differ, undeclared, AllNew, New}
use Rattle.statement_round_trip.proofs.Naming.{columns_named, not_long}
use Rattle.statement_round_trip.proofs.Onward.{from, skip, spelled, step, StepsTo}
use Rattle.sql_base.proofs.ListFacts.{map-push}

-- behind TABLE
abbrev table_symbols : List Symbol → List Symbol
table_symbols s =
    grammar.name roles.NewTable ∷ grammar.sign signs.Open ∷ grammar.name roles.FirstColumn ∷ part parts.ColumnKind ∷ grammar.sign signs.Comma ∷ part parts.ColumnOrKey
    ∷ grammar.sign signs.Close ∷ part parts.FirstKeys ∷ grammar.sign signs.Semicolon ∷ grammar.ended ends.Table ∷ part parts.MoreTables ∷ s

-- where tables have been read, and what isn't looked at any more
abbrev pub declared : List TableDef → NewRow → Scope → NewExpression → Draft → Draft
declared tables row names e d = record d { tables = tables; table = no_table; row = row; scope = names; expression = e }

abbrev noted_table : Draft → ℕ → Bool → Draft
noted_table d place many = record d { first = noted many OverLimit place d.first; table = no_table }

abbrev pub begun : Draft → Draft
begun d = record d { table = no_table }

-- a table begins in this part
abbrev Starts : Part → Type 0
Starts p = (s : List Symbol) (d : Draft) → (nat_le 4 (length d.tables) || nat_le 16 (parts_of d.tables)) ≡ false
    → StepsTo (part p ∷ s) d (key keys.Table) (table_symbols s) (λ place. begun d)

first_steps : (s : List Symbol) (d : Draft)
    → StepsTo (part parts.Table ∷ s) d (key keys.Table) (table_symbols s) (λ place. noted_table d place (nat_le 4 (length d.tables) || nat_le 16 (parts_of d.tables)))
unfolding read_from word_read advance all_ended came behind
first_steps s d first end ts at = refl

next_steps : (s : List Symbol) (d : Draft)
    → StepsTo (part parts.MoreTables ∷ s) d (key keys.Table) (table_symbols s) (λ place. noted_table d place (nat_le 4 (length d.tables) || nat_le 16 (parts_of d.tables)))
unfolding read_from word_read advance all_ended came behind
next_steps s d first end ts at = refl

first_starts : Starts parts.Table
first_starts s d few first end ts at = first_steps s d first end ts at ∙ ap (λ (b : Bool). read_from (table_symbols s) (noted_table d first b) ts at) few

next_starts : Starts parts.MoreTables
next_starts s d few first end ts at = next_steps s d first end ts at ∙ ap (λ (b : Bool). read_from (table_symbols s) (noted_table d first b) ts at) few

name_steps : (n : List ℕ) (s : List Symbol) (d : Draft) → StepsTo (grammar.name roles.NewTable ∷ s) d (name n) s (λ place. table_came n place d)
unfolding read_from word_read advance all_ended came
name_steps n s d first end ts at = refl

abbrev noted_name : List ℕ → ℕ → Draft → Bool → Bool → Draft
noted_name n at d again long = record (tabled (columned n [] [] 0 0) d) { first = noted again Repeated at (noted long OverLimit at d.first) }

name_is : (n : List ℕ) (at : ℕ) (d : Draft) → table_named d.tables n ≡ None → is_long n ≡ false → table_came n at (begun d) ≡ tabled (columned n [] [] 0 0) d
name_is n at d new short =
    ap (λ (o : Option ℕ). noted_name n at d (is_some o) (is_long n)) new ∙ ap (noted_name n at d false) short

abbrev kept_if : Bool → List TableDef → TableDef → List TableDef
kept_if few tables table = if few then tables ++ table ∷ [] else tables

table_is : (table : TableDef) (column : List ℕ) (column_at bytes key_bytes check_at : ℕ) (last : List ℕ) (row : NewRow) (names : Scope) (e : NewExpression) (d : Draft) → length d.tables < 4
    → ended ends.Table (dividing (divided table.firsts last (front_of table table.checks check_at column column_at bytes key_bytes)) row (checking (front_of table table.checks check_at column column_at bytes key_bytes) names e d))
    ≡ declared (d.tables ++ table ∷ []) row names e d
unfolding ended
table_is table column column_at bytes key_bytes check_at last row names e d h =
    let few : nat_lt (length d.tables) 4 ≡ true = grind (arith, nat_tests, h) in
    ap (λ (b : Bool). declared (kept_if b d.tables table) row names e d) few

-- ---- what the rules of a table say of its columns

short_columns : (table : TableDef) → IsTable table → MayFollow [] table.columns 0
short_columns table is = record {
  few = omega (arith, is.columns);
  narrow = subst (λ (n : ℕ). 0 + n ≤ 256) (same_width table.columns) (omega (arith, is.row));
  short = is.column_names;
  widths = all_widths table.columns is.widths;
  new = all_new (map (λ column. column.name) table.columns);
  differ = is.names_differ;
}
  where
    same_width : (columns : List Column) → sum_by width (map (λ column. column.kind) columns) ≡ sum_by (λ column. width column.kind) columns
    same_width [] = refl
    same_width (column ∷ columns) =
        sum_by-cons width column.kind (map (λ column. column.kind) columns) ∙ ap (λ (n : ℕ). width column.kind + n) (same_width columns)
        ∙ sym (sum_by-cons (λ (column : Column). width column.kind) column columns)

    all_widths : (columns : List Column) → AllByRecursion IsWidth (map (λ column. column.kind) columns) → AllByRecursion (λ column. IsWidth column.kind) columns
    all_widths [] h = tt
    all_widths (column ∷ columns) h = (h.0, all_widths columns h.1)

some_column : (columns : List Column) (places : List ℕ) → 0 < length places → AllByRecursion (λ c. c < length columns) places → 0 < length columns
some_column columns [] some within = absurd (omega (arith, some))
some_column columns (c ∷ places) some within = omega (arith, within.0)

-- ---- a table

abbrev parts_words : TableDef → List Word → List Word
parts_words table ws =
    flat_map declared_words table.columns ++ (key_words table.columns table.key ++ (flat_map (check_words table.columns) table.checks
    ++ sign signs.Close ∷ (firsts_words table.firsts ++ sign signs.Semicolon ∷ ws)))

-- the words of a table, one part behind the other
in_parts : (table : TableDef) (ws : List Word) → table_words table ++ ws ≡ key keys.Table ∷ name table.name ∷ sign signs.Open ∷ parts_words table ws
in_parts table ws =
    let x = declaration table in
    let columns = flat_map declared_words table.columns in
    let keyed = key_words table.columns table.key in
    let checks = flat_map (check_words table.columns) table.checks in
    let firsts = firsts_words table.firsts in
    let semicolon = sign signs.Semicolon ∷ [] in
    let close = sign signs.Close ∷ [] in
    let tail = sign signs.Close ∷ (firsts ++ sign signs.Semicolon ∷ ws) in
    ap (λ (l : List Word). key keys.Table ∷ name table.name ∷ sign signs.Open ∷ l)
    (append_assoc (x ++ close) (firsts ++ semicolon) ws
    ∙ append_assoc x close ((firsts ++ semicolon) ++ ws)
    ∙ ap (λ (l : List Word). x ++ sign signs.Close ∷ l) (append_assoc firsts semicolon ws)
    ∙ append_assoc columns (keyed ++ checks) tail
    ∙ ap (λ (l : List Word). columns ++ l) (append_assoc keyed checks tail))

-- TABLE t ( k INT , .. ) FIRST KEY .. ; and what is behind it
table_reads : (p : Part) → Starts p → (table : TableDef) → IsTable table → (d : Draft) → d.first ≡ None → length d.tables < 4 → parts_of d.tables + length table.firsts + 1 ≤ 16
    → New (map (λ table. table.name) d.tables) table.name → (s : List Symbol) (ws : List Word) (Last : Draft → Type 0)
    → ((row : NewRow) (names : Scope) (e : NewExpression) → ReadsOn (part parts.MoreTables ∷ s) (declared (d.tables ++ table ∷ []) row names e d) ws Last)
    → ReadsOn (part p ∷ s) d (table_words table ++ ws) Last
table_reads p starts table is d clean few fits new s ws Last more =
    let tables : nat_le 4 (length d.tables) ≡ false = grind (arith, nat_tests, few) in
    let room : nat_le 16 (parts_of d.tables) ≡ false = under (parts_of d.tables) (omega (arith, fits)) in
    let total = key_width table in
    spelled _ d _ _ Last (in_parts table ws)
    (step _ d _ _ Last _ _ (starts s d (neither _ _ tables room)) (λ i.
    step _ (begun d) _ _ Last _ _ (name_steps table.name _ (begun d)) (λ j.
    from _ _ (tabled (columned table.name [] [] 0 0) d) _ Last (name_is table.name j d (undeclared d.tables table.name new) (not_long table.name is.name.short))
    (step _ _ _ _ Last _ _ (open_steps _ (tabled (columned table.name [] [] 0 0) d)) (λ k.
    columns_read table.columns table.name d (some_column table.columns table.key is.key.some is.key.within) (short_columns table is) _ _ Last (λ c at bytes.
    key_reads (columned table.name table.columns c at bytes) (columns_named table is) table.key is.key.some is.key.within is.key.differ is.key_bytes _ d _ Last
    (checks_read table c at bytes total d table.checks [] 0 d.scope d.expression is is.checks (omega (arith, is.few_checks)) _ _ Last (λ check_at names e.
    let front = front_of table table.checks check_at c at bytes total in
    let d1 = checking front names e d in
    firsts_read front d1 table.firsts [] d.row clean (omega (arith, fits)) (all_follow front (replicate total 0) table.firsts is.firsts.some is.firsts.leading is.firsts.rise) _ ws Last (λ last row.
    let d2 = dividing (divided table.firsts last front) row d1 in
    step _ d2 _ _ Last _ _ (semicolon_steps _ d2) (λ l.
    end_then ends.Table _ d2 ws Last
    (from _ _ _ ws Last (table_is table c at bytes total check_at last row names e d few) (more row names e))))))))))))
  where
    under : (n : ℕ) → n + 1 ≤ 16 → nat_le 16 n ≡ false
    under n h = grind (arith, nat_tests, h)

    neither : (a b : Bool) → a ≡ false → b ≡ false → (a || b) ≡ false
    neither true b h k = h
    neither false b h k = k

-- ---- tables

abbrev names_of : List TableDef → List (List ℕ)
names_of tables = map (λ table. table.name) tables

-- tables that a script may have behind others
record TablesFollow (before rest : List TableDef) : Type 0 where
  few : length before + length rest ≤ 4
  parts : parts_of before + parts_of rest ≤ 16
  new : AllNew (names_of before) (names_of rest)
  differ : all_differ bytes_eq (names_of rest) ≡ true

behind_first : (before : List TableDef) (table : TableDef) (rest : List TableDef) → TablesFollow before (table ∷ rest) → TablesFollow (before ++ table ∷ []) rest
behind_first before table rest h =
    let long = length-append before (table ∷ []) in
    let sum : parts_of (table ∷ rest) ≡ length table.firsts + 1 + parts_of rest = sum_by-cons (λ (table : TableDef). length table.firsts + 1) table rest in
    let pushed : parts_of (before ++ table ∷ []) ≡ parts_of before + (length table.firsts + 1) = sum_by_push (λ (table : TableDef). length table.firsts + 1) before table in
    let apart = names_differ table.name (names_of rest) h.differ in
    let moved : names_of (before ++ table ∷ []) ≡ names_of before ++ table.name ∷ [] = map-push (λ (table : TableDef). table.name) before table in
    record {
      few = omega (arith, long, h.few);
      parts = omega (arith, sum, pushed, h.parts);
      new = subst (λ (l : List (List ℕ)). AllNew l (names_of rest)) (sym moved) (all_new_more table.name (names_of before) (names_of rest) apart.0 h.new.1);
      differ = apart.1;
    }

first_fits : (before : List TableDef) (table : TableDef) (rest : List TableDef) → TablesFollow before (table ∷ rest) → (length before < 4) × (parts_of before + length table.firsts + 1 ≤ 16)
first_fits before table rest h =
    let sum : parts_of (table ∷ rest) ≡ length table.firsts + 1 + parts_of rest = sum_by-cons (λ (table : TableDef). length table.firsts + 1) table rest in
    (omega (arith, h.few), omega (arith, sum, h.parts))

-- what can't be the word behind the tables
abbrev pub BehindTables : Word → Type 0
BehindTables w = behind parts.MoreTables w ≡ None

others_read : (rest before : List TableDef) (row : NewRow) (names : Scope) (e : NewExpression) (d : Draft) → AllByRecursion IsTable rest → d.first ≡ None → TablesFollow before rest
    → (s : List Symbol) (w : Word) (ws : List Word) (Last : Draft → Type 0) → BehindTables w
    → ((row : NewRow) (names : Scope) (e : NewExpression) → ReadsOn s (declared (before ++ rest) row names e d) (w ∷ ws) Last)
    → ReadsOn (part parts.MoreTables ∷ s) (declared before row names e d) (flat_map table_words rest ++ w ∷ ws) Last
others_read [] before row names e d all clean h s w ws Last other more =
    skip parts.MoreTables s _ w ws Last refl other
    (from s _ _ (w ∷ ws) Last (ap (λ (l : List TableDef). declared l row names e d) (sym (append-nil before))) (more row names e))
others_read (table ∷ rest) before row names e d all clean h s w ws Last other more =
    let fits = first_fits before table rest h in
    spelled _ _ _ _ Last (append_assoc (table_words table) (flat_map table_words rest) (w ∷ ws))
    (table_reads parts.MoreTables next_starts table all.0 (declared before row names e d) clean fits.0 fits.1 h.new.0 s _ Last (λ row1 names1 e1.
    others_read rest (before ++ table ∷ []) row1 names1 e1 d all.1 clean (behind_first before table rest h) s w ws Last other (λ row2 names2 e2.
    from s _ _ (w ∷ ws) Last (ap (λ (l : List TableDef). declared l row2 names2 e2 d) (append_assoc before (table ∷ []) rest)) (more row2 names2 e2))))

-- the tables of a script, and the word behind them
pub tables_read : (tables : List TableDef) (d : Draft) → 0 < length tables → length tables ≤ 4 → AllByRecursion IsTable tables → parts_of tables ≤ 16
    → all_differ bytes_eq (map (λ table. table.name) tables) ≡ true → d.first ≡ None → d.tables ≡ []
    → (s : List Symbol) (w : Word) (ws : List Word) (Last : Draft → Type 0) → BehindTables w
    → ((row : NewRow) (names : Scope) (e : NewExpression) → ReadsOn s (declared tables row names e d) (w ∷ ws) Last)
    → ReadsOn (part parts.Table ∷ s) d (flat_map table_words tables ++ w ∷ ws) Last
tables_read [] d some most all few_parts differ clean none s w ws Last other more = absurd (omega (arith, some))
tables_read (table ∷ rest) d some most all few_parts differ clean none s w ws Last other more =
    let h : TablesFollow [] (table ∷ rest) = record { few = omega (arith, most); parts = omega (arith, few_parts); new = all_new (names_of (table ∷ rest)); differ = differ } in
    let fits = first_fits [] table rest h in
    let d0 : Draft = record d { tables = [] } in
    from _ d d0 _ Last (ap (λ (l : List TableDef). record d { tables = l }) none)
    (spelled _ d0 _ _ Last (append_assoc (table_words table) (flat_map table_words rest) (w ∷ ws))
    (table_reads parts.Table first_starts table all.0 d0 clean fits.0 fits.1 tt s _ Last (λ row1 names1 e1.
    others_read rest (table ∷ []) row1 names1 e1 d all.1 clean (behind_first [] table rest h) s w ws Last other more)))
