-- A packed row, column by column.
use Rattle.std.proofs.Common.{◌≡◌, ◌<◌, ◌+◌, ℕ, List, [], ◌∷◌, ◌++◌, length, take, drop, get_or, Option, Some, None, Bool, true, false, refl, ap, sym, ◌∙◌, append_assoc}
use Rattle.std.specs.Prelude.{is_some, nat_lt, option_and_then, option_map, option_to_list, map, codes, flat_map}
use Rattle.std.proofs.lemmas.Grind.{flat_map-append}
use Rattle.std.proofs.lemmas.List.{append-nil, take_more}
use Rattle.std.proofs.lemmas.List.Folds.{flat_map-map}
use Rattle.sql_base.specs.Rows.{unpacked, unpacked_value, width}
use Rattle.sql_base.specs.declared.tables.ColumnKind.{ColumnKind}
use Rattle.sql_base.specs.declared.values.Value.{Value}
use Rattle.one_thread.specs.Scaffold.Columns.{spaced_values}
use Rattle.sql_base.specs.declared.outcomes.Given.TheVariants.{Rows}
use Rattle.one_thread.specs.Text.{given_text, line, value_text, values_of}
use Rattle.one_thread.proofs.Lines.{behind_three, line_written, spaced}

is_joined : (rest : Option (List Value)) (o : Option Value) → is_some (option_and_then (λ (v : Value). option_map (λ (vs : List Value). v ∷ vs) rest) o) ≡ true → is_some o ≡ true
is_joined rest (Some v) e = refl
is_joined rest None e = e

values_joined : (rest : Option (List Value)) (o : Option Value) → is_some (option_and_then (λ (v : Value). option_map (λ (vs : List Value). v ∷ vs) rest) o) ≡ true
    → values_of (option_and_then (λ (v : Value). option_map (λ (vs : List Value). v ∷ vs) rest) o) ≡ option_to_list o ++ values_of rest
values_joined (Some vs) (Some v) e = refl
values_joined None (Some v) e = absurd cc
values_joined rest None e = absurd cc

by_room : (kind : ColumnKind) (rest : List ColumnKind) (bytes : List ℕ) (short : Bool) → nat_lt (length bytes) (width kind) ≡ short → is_some (unpacked (kind ∷ rest) bytes) ≡ true
    → (unpacked (kind ∷ rest) bytes ≡ option_and_then (λ (v : Value). option_map (λ (vs : List Value). v ∷ vs) (unpacked rest (drop (width kind) bytes))) (unpacked_value kind (take (width kind) bytes)))
by_room kind rest bytes true e some = absurd (let none : is_some (unpacked (kind ∷ rest) bytes) ≡ false = rw e refl in cc)
by_room kind rest bytes false e some = rw e refl

-- a row begins with the value of its first column
pub first_is_value : (kind : ColumnKind) (rest : List ColumnKind) (bytes : List ℕ) → is_some (unpacked (kind ∷ rest) bytes) ≡ true → is_some (unpacked_value kind (take (width kind) bytes)) ≡ true
first_is_value kind rest bytes some = is_joined (unpacked rest (drop (width kind) bytes)) _ (ap is_some (sym (by_room kind rest bytes _ refl some)) ∙ some)

-- and those of the other columns follow
pub values_more : (kind : ColumnKind) (rest : List ColumnKind) (bytes : List ℕ) → is_some (unpacked (kind ∷ rest) bytes) ≡ true
    → spaced_values (values_of (unpacked (kind ∷ rest) bytes)) ≡ spaced_values (option_to_list (unpacked_value kind (take (width kind) bytes))) ++ spaced_values (values_of (unpacked rest (drop (width kind) bytes)))
values_more kind rest bytes some =
    let is = by_room kind rest bytes _ refl some in
    ap (λ row. spaced_values (values_of row)) is
    ∙ ap spaced_values (values_joined (unpacked rest (drop (width kind) bytes)) (unpacked_value kind (take (width kind) bytes)) (ap is_some (sym is) ∙ some))
    ∙ flat_map-append (λ (value : Value). 0x20 ∷ value_text value) (option_to_list (unpacked_value kind (take (width kind) bytes))) (values_of (unpacked rest (drop (width kind) bytes)))

-- the line of a row, of which the first words are written already
pub row_line : (session ordinal statement : List ℕ) (values : List Value)
    → (codes "ROW" ++ 0x20 ∷ session ++ 0x20 ∷ ordinal ++ 0x20 ∷ statement) ++ spaced_values values ++ 0x0A ∷ [] ≡ line ((codes "ROW" ∷ session ∷ ordinal ∷ statement ∷ []) ++ map value_text values)
row_line session ordinal statement values =
    let words = map value_text values in
    let head = ((codes "ROW" ++ 0x20 ∷ session) ++ 0x20 ∷ ordinal) ++ 0x20 ∷ statement in
    let spaces : spaced_values values ≡ spaced words = sym (flat_map-map (λ (word : List ℕ). 0x20 ∷ word) value_text values) in
    line_written [] (codes "ROW") (head ++ spaced_values values) ((head ++ spaced_values values) ++ 0x0A ∷ []) (codes "ROW") (session ∷ ordinal ∷ statement ∷ words) refl
    (behind_three (codes "ROW") head (head ++ spaced_values values) session ordinal statement words refl (ap (λ (bytes : List ℕ). head ++ bytes) spaces)) refl

-- one row more
pub rows_more : (session ordinal statement : List ℕ) (kinds kinds2 : List ColumnKind) (rows : List (List ℕ)) (row : List ℕ) (i : ℕ) (old out new head : List ℕ) → i < length rows → row ≡ get_or rows i row → kinds2 ≡ kinds
    → head ≡ codes "ROW" ++ 0x20 ∷ session ++ 0x20 ∷ ordinal ++ 0x20 ∷ statement → out ≡ old ++ given_text (session ∷ ordinal ∷ statement ∷ []) (Rows kinds (take i rows))
    → new ≡ out ++ (head ++ spaced_values (values_of (unpacked kinds2 row)) ++ 0x0A ∷ []) → new ≡ old ++ given_text (session ∷ ordinal ∷ statement ∷ []) (Rows kinds (take (i + 1) rows))
rows_more session ordinal statement kinds kinds2 rows row i old out new head lt here same head-is so_far written =
    let f : List ℕ → List ℕ = λ r. line ((codes "ROW" ∷ session ∷ ordinal ∷ statement ∷ []) ++ map value_text (values_of (unpacked kinds r))) in
    let front = flat_map f (take i rows) in
    let one : head ++ spaced_values (values_of (unpacked kinds2 row)) ++ 0x0A ∷ [] ≡ f (get_or rows i row) =
    ap (λ (bytes : List ℕ). bytes ++ spaced_values (values_of (unpacked kinds2 row)) ++ 0x0A ∷ []) head-is
    ∙ row_line session ordinal statement (values_of (unpacked kinds2 row)) ∙ ap (λ ks. line ((codes "ROW" ∷ session ∷ ordinal ∷ statement ∷ []) ++ map value_text (values_of (unpacked ks row)))) same ∙ ap f here in
    let more : flat_map f (take (i + 1) rows) ≡ front ++ f (get_or rows i row) =
    ap (flat_map f) (take_more rows i row lt) ∙ flat_map-append f (take i rows) (get_or rows i row ∷ []) ∙ ap (λ (bytes : List ℕ). front ++ bytes) (append-nil (f (get_or rows i row))) in
    written ∙ ap (λ (bytes : List ℕ). out ++ bytes) one ∙ ap (λ (bytes : List ℕ). bytes ++ f (get_or rows i row)) so_far ∙ append_assoc old front (f (get_or rows i row)) ∙ ap (λ (bytes : List ℕ). old ++ bytes) (sym more)
