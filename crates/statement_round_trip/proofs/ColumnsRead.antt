-- The columns of a table are read as they are printed.
use Rattle.std.proofs.Common.{◌≡◌, ◌≤◌, ◌<◌, ℕ, ◌+◌, min, List, [], ◌∷◌, ◌++◌, length, map, Bool, true, false, Option, None, refl, sym, ap, subst, ◌∙◌, append_assoc, append-nil, arith}
use Rattle.std.proofs.lemmas.Bool.Decides.{nat_tests}
use Rattle.std.proofs.lemmas.List.{length-append}
use Rattle.std.proofs.lemmas.List.Sums.{sum_by-cons}
use Rattle.std.specs.Prelude.{flat_map, if◌then◌else◌, is_some, nat_le, nat_lt, not, sum_by, ◌&&◌, ◌||◌}
use Rattle.std.specs.List.{AllByRecursion}
use Rattle.std.specs.Str.{bytes_eq}
use Rattle.sql_base.specs.Names.{IsShortName}
use Rattle.sql_base.specs.Rows.{width}
use Rattle.sql_base.specs.Tables.{all_differ, IsWidth}
use Rattle.sql_base.specs.declared.tables.Column.{Column}
use Rattle.sql_base.specs.declared.tables.ColumnKind.{ColumnKind}
use Rattle.sql_base.specs.declared.tables.ColumnKind.TheVariants.{Int, Char}
use Rattle.statement_words.specs.declared.keywords.Keyword.TheVariants as keys
use Rattle.statement_words.specs.declared.tokens.Sign.TheVariants as signs
use Rattle.statement_words.specs.declared.tokens.Word.{Word}
use Rattle.statement_words.specs.declared.tokens.Word.TheVariants as word
use Rattle.statement_grammar.specs.Grammar.{behind, part}
use Rattle.statement_grammar.specs.Grammar as grammar
use Rattle.statement_grammar.specs.Machine.{advance}
use Rattle.statement_grammar.specs.declared.symbols.NameRole.TheVariants as roles
use Rattle.statement_grammar.specs.declared.symbols.NumberRole.TheVariants as numbers
use Rattle.statement_grammar.specs.declared.symbols.Part.TheVariants as parts
use Rattle.statement_grammar.specs.declared.symbols.Symbol.{Symbol}
use Rattle.statement_draft.specs.Faults.{noted}
use Rattle.statement_draft.specs.Judging.{all_ended, came, read_from, word_read}
use Rattle.statement_draft.specs.Names.{column_named, is_long, is_wide}
use Rattle.statement_draft.specs.TableEvents.{added_up_to, column_came, kind_came, width_came}
use Rattle.statement_draft.specs.declared.draft.Draft.{Draft}
use Rattle.statement_draft.specs.declared.draft.NewTable.{NewTable}
use Rattle.statement_draft.specs.declared.faults.Reason.TheVariants.{NumberTooWide, OverLimit, Repeated}
use Rattle.statement_printer.specs.Printing.{declared_words, key, kind_words, name, sign}
use Rattle.statement_round_trip.specs.Onward.{ReadsOn}
use Rattle.statement_round_trip.proofs.Naming.{not_long}
use Rattle.statement_round_trip.proofs.NamesApart.{all_new_more, names_differ, unnamed, AllNew}
use Rattle.statement_round_trip.proofs.Onward.{from, spelled, step, StepsTo}
use Rattle.statement_round_trip.proofs.RowsRead.{close_steps}
use Rattle.sql_base.proofs.ListFacts.{map-push}

-- a table whose columns are being read: the last one's name and its place, and the bytes of a row
abbrev pub columned : List ℕ → List Column → List ℕ → ℕ → ℕ → NewTable
columned n columns column at bytes = record {
  def = record { name = n; columns = columns; key = []; checks = []; firsts = [] };
  column = column;
  column_at = at;
  width = bytes;
  key_width = 0;
  check_at = 0;
  last = [];
}

abbrev pub tabled : NewTable → Draft → Draft
tabled table d = record d { table = table }

-- ---- a name

abbrev noted_column : List ℕ → List Column → List ℕ → ℕ → ℕ → Draft → Bool → Bool → Draft
noted_column n columns c at bytes d again long = record (tabled (columned n columns c at bytes) d) {
  first = noted again Repeated at (noted long OverLimit at d.first);
}

few_columns : (long : Bool) (columns : ℕ) → long ≡ false → columns < 32 → (long || nat_le 32 columns) ≡ false
few_columns true columns h few = absurd (cc (h))
few_columns false columns h few = grind (arith, nat_tests, few)

column_is : (n : List ℕ) (columns : List Column) (c : List ℕ) (at : ℕ) (old : List ℕ) (a bytes : ℕ) (d : Draft) → column_named columns c ≡ None → is_long c ≡ false
    → length columns < 32 → column_came c at (tabled (columned n columns old a bytes) d) ≡ tabled (columned n columns c at bytes) d
column_is n columns c at old a bytes d new short few =
    ap (λ (o : Option ℕ). noted_column n columns c at bytes d (is_some o) (is_long c || nat_le 32 (length columns))) new
    ∙ ap (noted_column n columns c at bytes d false) (few_columns (is_long c) (length columns) short few)

first_steps : (c : List ℕ) (s : List Symbol) (d : Draft) → StepsTo (grammar.name roles.FirstColumn ∷ s) d (name c) s (λ place. column_came c place d)
unfolding read_from word_read advance all_ended came
first_steps c s d first end ts at = refl

next_steps : (c : List ℕ) (s : List Symbol) (d : Draft)
    → StepsTo (part parts.ColumnOrKey ∷ s) d (name c) (part parts.ColumnKind ∷ grammar.sign signs.Comma ∷ part parts.ColumnOrKey ∷ s) (λ place. column_came c place d)
unfolding read_from word_read advance all_ended came behind
next_steps c s d first end ts at = refl

-- ---- a kind

abbrev one_column : List ℕ → ColumnKind → Column
one_column c kind = record { name = c; kind = kind }

abbrev noted_kind : List ℕ → List Column → List ℕ → ℕ → ColumnKind → Draft → ℕ → Bool → Bool → Draft
noted_kind n columns c at kind d bytes many few = record (tabled (columned n (if few then columns ++ one_column c kind ∷ [] else columns) c at bytes) d) {
  first = noted many OverLimit at d.first;
}

kind_is : (n : List ℕ) (columns : List Column) (c : List ℕ) (at bytes : ℕ) (kind : ColumnKind) (more : ℕ) (d : Draft) → bytes + more ≤ 256 → length columns < 32
    → kind_came kind more (tabled (columned n columns c at bytes) d) ≡ tabled (columned n (columns ++ one_column c kind ∷ []) c at (bytes + more)) d
kind_is n columns c at bytes kind more d fits few =
    let sum : added_up_to 256 bytes more ≡ bytes + more = omega (arith, fits) in
    let within : nat_lt 256 (bytes + more) ≡ false = grind (arith, nat_tests, fits) in
    let room : nat_lt (length columns) 32 ≡ true = grind (arith, nat_tests, few) in
    ap (λ (k : ℕ). noted_kind n columns c at kind d k (nat_lt 256 k) (nat_lt (length columns) 32)) sum
    ∙ ap (λ (b : Bool). noted_kind n columns c at kind d (bytes + more) b (nat_lt (length columns) 32)) within
    ∙ ap (noted_kind n columns c at kind d (bytes + more) false) room

abbrev noted_width : ℕ → ℕ → Draft → ℕ → Bool → Bool → Draft
noted_width n at d kept out wide = kind_came (Char kept) n (record d { first = noted out OverLimit at (noted wide NumberTooWide at d.first) })

width_is : (n at : ℕ) (d : Draft) → 1 ≤ n → n ≤ 255 → width_came n at d ≡ kind_came (Char n) n d
width_is n at d low high =
    let kept : min n 255 ≡ n = omega (arith, high) in
    let out : not (nat_le 1 n && nat_le n 255) ≡ false = grind (arith, nat_tests, low, high) in
    let wide : is_wide n ≡ false = grind (arith, nat_tests, high) in
    ap (λ (k : ℕ). noted_width n at d k (not (nat_le 1 n && nat_le n 255)) (is_wide n)) kept
    ∙ ap (λ (b : Bool). noted_width n at d n b (is_wide n)) out ∙ ap (noted_width n at d n false) wide

int_steps : (s : List Symbol) (d : Draft) → StepsTo (part parts.ColumnKind ∷ s) d (key keys.Int) s (λ place. kind_came Int 8 d)
unfolding read_from word_read advance all_ended came behind
int_steps s d first end ts at = refl

char_steps : (s : List Symbol) (d : Draft)
    → StepsTo (part parts.ColumnKind ∷ s) d (key keys.Char) (grammar.sign signs.Open ∷ grammar.number numbers.Width ∷ grammar.sign signs.Close ∷ s) (λ place. d)
unfolding read_from word_read advance all_ended came behind
char_steps s d first end ts at = refl

pub open_steps : (s : List Symbol) (d : Draft) → StepsTo (grammar.sign signs.Open ∷ s) d (sign signs.Open) s (λ place. d)
unfolding read_from word_read advance all_ended came
open_steps s d first end ts at = refl

width_steps : (n : ℕ) (s : List Symbol) (d : Draft) → StepsTo (grammar.number numbers.Width ∷ s) d (word.Number n) s (λ place. width_came n place d)
unfolding read_from word_read advance all_ended came
width_steps n s d first end ts at = refl

-- INT, or CHAR ( 10 )
kind_reads : (n : List ℕ) (columns : List Column) (c : List ℕ) (at bytes : ℕ) (kind : ColumnKind) (d : Draft) → IsWidth kind → bytes + width kind ≤ 256 → length columns < 32
    → (s : List Symbol) (ws : List Word) (Last : Draft → Type 0)
    → ReadsOn s (tabled (columned n (columns ++ one_column c kind ∷ []) c at (bytes + width kind)) d) ws Last
    → ReadsOn (part parts.ColumnKind ∷ s) (tabled (columned n columns c at bytes) d) (kind_words kind ++ ws) Last
kind_reads n columns c at bytes Int d is fits few s ws Last more =
    step _ _ _ _ Last _ _ (int_steps s (tabled (columned n columns c at bytes) d)) (λ i.
    from s _ _ ws Last (kind_is n columns c at bytes Int 8 d fits few) more)
kind_reads n columns c at bytes (Char m) d is fits few s ws Last more =
    let d1 = tabled (columned n columns c at bytes) d in
    step _ d1 _ _ Last _ _ (char_steps s d1) (λ i.
    step _ d1 _ _ Last _ _ (open_steps _ d1) (λ j.
    step _ d1 _ _ Last _ _ (width_steps m _ d1) (λ k.
    from _ _ _ _ Last (width_is m k d1 is.0 is.1 ∙ kind_is n columns c at bytes (Char m) m d fits few)
    (step _ _ _ _ Last _ _ (close_steps s (tabled (columned n (columns ++ one_column c (Char m) ∷ []) c at (bytes + m)) d)) (λ l. more)))))

comma_steps : (s : List Symbol) (d : Draft) → StepsTo (grammar.sign signs.Comma ∷ s) d (sign signs.Comma) s (λ place. d)
unfolding read_from word_read advance all_ended came
comma_steps s d first end ts at = refl

-- the kind of a column, and the comma behind it
rest_of_column : (n : List ℕ) (columns : List Column) (column : Column) (at bytes : ℕ) (d : Draft) → IsWidth column.kind → bytes + width column.kind ≤ 256 → length columns < 32
    → (s : List Symbol) (ws : List Word) (Last : Draft → Type 0)
    → ReadsOn s (tabled (columned n (columns ++ column ∷ []) column.name at (bytes + width column.kind)) d) ws Last
    → ReadsOn (part parts.ColumnKind ∷ grammar.sign signs.Comma ∷ s) (tabled (columned n columns column.name at bytes) d) ((kind_words column.kind ++ sign signs.Comma ∷ []) ++ ws) Last
rest_of_column n columns column at bytes d is fits few s ws Last more =
    spelled _ _ _ _ Last (append_assoc (kind_words column.kind) (sign signs.Comma ∷ []) ws)
    (kind_reads n columns column.name at bytes column.kind d is fits few _ _ Last
    (step _ _ _ _ Last _ _ (comma_steps s (tabled (columned n (columns ++ column ∷ []) column.name at (bytes + width column.kind)) d)) (λ i. more)))

-- ---- columns

abbrev pub names_of : List Column → List (List ℕ)
names_of columns = map (λ column. column.name) columns

abbrev pub bytes_of_columns : List Column → ℕ
bytes_of_columns columns = sum_by (λ column. width column.kind) columns

-- columns that a table may have behind others
pub record MayFollow (before rest : List Column) (bytes : ℕ) : Type 0 where
  pub few : length before + length rest ≤ 32
  pub narrow : bytes + bytes_of_columns rest ≤ 256
  pub short : AllByRecursion (λ column. IsShortName column.name) rest
  pub widths : AllByRecursion (λ column. IsWidth column.kind) rest
  pub new : AllNew (names_of before) (names_of rest)
  pub differ : all_differ bytes_eq (names_of rest) ≡ true

-- so do the others behind the first
behind_first : (before : List Column) (column : Column) (rest : List Column) (bytes : ℕ) → MayFollow before (column ∷ rest) bytes
    → MayFollow (before ++ column ∷ []) rest (bytes + width column.kind)
behind_first before column rest bytes h =
    let long = length-append before (column ∷ []) in
    let sum : bytes_of_columns (column ∷ rest) ≡ width column.kind + bytes_of_columns rest = sum_by-cons (λ (column : Column). width column.kind) column rest in
    let apart = names_differ column.name (names_of rest) h.differ in
    let moved : names_of (before ++ column ∷ []) ≡ names_of before ++ column.name ∷ [] = map-push (λ (column : Column). column.name) before column in
    record {
      few = omega (arith, long, h.few);
      narrow = omega (arith, sum, h.narrow);
      short = h.short.1;
      widths = h.widths.1;
      new = subst (λ (l : List (List ℕ)). AllNew l (names_of rest)) (sym moved) (all_new_more column.name (names_of before) (names_of rest) apart.0 h.new.1);
      differ = apart.1;
    }

-- one column has room
room_for : (before : List Column) (column : Column) (rest : List Column) (bytes : ℕ) → MayFollow before (column ∷ rest) bytes → (bytes + width column.kind ≤ 256) × (length before < 32)
room_for before column rest bytes h =
    let sum : bytes_of_columns (column ∷ rest) ≡ width column.kind + bytes_of_columns rest = sum_by-cons (λ (column : Column). width column.kind) column rest in
    (omega (arith, sum, h.narrow), omega (arith, h.few))

-- where all columns have been read
abbrev Columned : List ℕ → List Column → Draft → List Symbol → List Word → (Draft → Type 0) → Type 0
Columned n columns d s ws Last = (c : List ℕ) (at bytes : ℕ) → ReadsOn (part parts.ColumnOrKey ∷ s) (tabled (columned n columns c at bytes) d) ws Last

others_read : (rest before : List Column) (n c : List ℕ) (at bytes : ℕ) (d : Draft) → MayFollow before rest bytes
    → (s : List Symbol) (ws : List Word) (Last : Draft → Type 0) → Columned n (before ++ rest) d s ws Last
    → ReadsOn (part parts.ColumnOrKey ∷ s) (tabled (columned n before c at bytes) d) (flat_map declared_words rest ++ ws) Last
others_read [] before n c at bytes d h s ws Last more =
    from _ _ _ ws Last (ap (λ (l : List Column). tabled (columned n l c at bytes) d) (sym (append-nil before))) (more c at bytes)
others_read (column ∷ rest) before n c at bytes d h s ws Last more =
    let room = room_for before column rest bytes h in
    let d1 = tabled (columned n before c at bytes) d in
    spelled _ d1 _ _ Last (append_assoc (declared_words column) (flat_map declared_words rest) ws)
    (step _ d1 _ _ Last _ _ (next_steps column.name s d1) (λ i.
    from _ _ (tabled (columned n before column.name i bytes) d) _ Last
    (column_is n before column.name i c at bytes d (unnamed before column.name h.new.0) (not_long column.name h.short.0.short) room.1)
    (rest_of_column n before column i bytes d h.widths.0 room.0 room.1 _ _ Last
    (others_read rest (before ++ column ∷ []) n column.name i (bytes + width column.kind) d (behind_first before column rest bytes h) s ws Last (λ e j k.
    from _ _ _ ws Last (ap (λ (l : List Column). tabled (columned n l e j k) d) (append_assoc before (column ∷ []) rest)) (more e j k))))))

-- k INT , .. with a comma behind each
pub columns_read : (columns : List Column) (n : List ℕ) (d : Draft) → 0 < length columns → MayFollow [] columns 0
    → (s : List Symbol) (ws : List Word) (Last : Draft → Type 0) → Columned n columns d s ws Last
    → ReadsOn (grammar.name roles.FirstColumn ∷ part parts.ColumnKind ∷ grammar.sign signs.Comma ∷ part parts.ColumnOrKey ∷ s) (tabled (columned n [] [] 0 0) d)
    (flat_map declared_words columns ++ ws) Last
columns_read [] n d some h s ws Last more = absurd (omega (arith, some))
columns_read (column ∷ rest) n d some h s ws Last more =
    let room = room_for [] column rest 0 h in
    let d1 = tabled (columned n [] [] 0 0) d in
    spelled _ d1 _ _ Last (append_assoc (declared_words column) (flat_map declared_words rest) ws)
    (step _ d1 _ _ Last _ _ (first_steps column.name _ d1) (λ i.
    from _ _ (tabled (columned n [] column.name i 0) d) _ Last
    (column_is n [] column.name i [] 0 0 d (unnamed [] column.name h.new.0) (not_long column.name h.short.0.short) room.1)
    (rest_of_column n [] column i 0 d h.widths.0 room.0 room.1 _ _ Last
    (others_read rest (column ∷ []) n column.name i (0 + width column.kind) d (behind_first [] column rest 0 h) s ws Last more))))
