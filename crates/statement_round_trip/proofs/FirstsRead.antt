-- FIRST KEY is read as it is printed.
use Rattle.std.proofs.Common.{◌≡◌, ◌≤◌, ◌<◌, ℕ, suc, ◌+◌, List, [], ◌∷◌, ◌++◌, length, map, replicate, Bool, true, false, Some, None, cond, refl, sym, ap, subst, ◌∙◌, append_assoc, append-nil, arith}
use Rattle.std.proofs.lemmas.Bool.Decides.{nat_tests}
use Rattle.std.proofs.lemmas.List.{length-append}
use Rattle.std.specs.Prelude.{flat_map, is_some, nat_le, nat_lt, not, slice_get, ◌&&◌}
use Rattle.std.specs.List.{AllByRecursion}
use Rattle.sql_base.specs.Keys.{key_lt, Rise}
use Rattle.sql_base.specs.Rows.{is_printable, key_kinds, key_values}
use Rattle.sql_base.specs.Scripts.{parts_of}
use Rattle.sql_base.specs.Tables.{are_leading, is_literal_of}
use Rattle.sql_base.specs.declared.tables.ColumnKind.{ColumnKind}
use Rattle.sql_base.specs.declared.tables.ColumnKind.TheVariants.{Int, Char}
use Rattle.sql_base.specs.declared.values.Value.{Value}
use Rattle.sql_base.specs.declared.values.Value.TheVariants as value
use Rattle.statement_words.specs.declared.keywords.Keyword.TheVariants as keys
use Rattle.statement_words.specs.declared.tokens.Sign.TheVariants as signs
use Rattle.statement_words.specs.declared.tokens.Word.{Word}
use Rattle.statement_grammar.specs.Grammar.{behind, part}
use Rattle.statement_grammar.specs.Grammar as grammar
use Rattle.statement_grammar.specs.Machine.{advance}
use Rattle.statement_grammar.specs.declared.symbols.End.TheVariants as ends
use Rattle.statement_grammar.specs.declared.symbols.Part.TheVariants as parts
use Rattle.statement_grammar.specs.declared.symbols.Symbol.{Symbol}
use Rattle.statement_draft.specs.Faults.{noted}
use Rattle.statement_draft.specs.Judging.{all_ended, came, ended, read_from, word_read}
use Rattle.statement_draft.specs.TableEvents.{filled_key, first_keys_begin}
use Rattle.statement_draft.specs.declared.draft.Draft.{Draft}
use Rattle.statement_draft.specs.declared.draft.NewRow.{NewRow}
use Rattle.statement_draft.specs.declared.draft.NewTable.{NewTable}
use Rattle.statement_draft.specs.declared.draft.RowOf.TheVariants as row_of
use Rattle.statement_draft.specs.declared.faults.Reason.TheVariants.{NotRising, OverLimit, TextTooLong}
use Rattle.statement_printer.specs.Printing.{first_words, firsts_words, key, literal_words, sign}
use Rattle.statement_round_trip.specs.Onward.{ReadsOn}
use Rattle.statement_round_trip.proofs.KeysRead.{key_steps}
use Rattle.statement_round_trip.proofs.Onward.{end_before, from, skip, spelled, step, StepsTo}
use Rattle.statement_round_trip.proofs.RowsFit.{at_front, one_longer}
use Rattle.statement_round_trip.proofs.RowsRead.{new_row, row_reads, AllFit, Fits, IsShort, PrintsAs}
use Rattle.sql_base.proofs.Truths.{both_hold}

-- ---- literals

abbrev itself : Value → Value
itself v = v

prints_itself : PrintsAs literal_words itself
prints_itself v = refl

fits_leading : (k : ColumnKind) (v : Value) → is_literal_of k v ≡ true → Fits row_of.FirstKey k v v × IsShort v
fits_leading Int (value.Int n) h = (record { fault = refl; fills = refl }, h)
fits_leading Int (value.Text text) h = absurd (cc (h))
fits_leading (Char n) (value.Int m) h = absurd (cc (h))
fits_leading (Char n) (value.Text text) h =
    let most = (both_hold (nat_le (length text) n) (is_printable text) h).0 in
    let short : nat_lt n (length text) ≡ false = grind (arith, nat_tests, most) in
    (record { fault = ap (λ (b : Bool). cond b (Some TextTooLong) None) short; fills = refl }, tt)

fit_behind : (front rest : List ColumnKind) (before vs : List Value) → length front ≡ length before → are_leading rest vs ≡ true
    → AllFit row_of.FirstKey itself (front ++ rest) before vs
fit_behind front rest before [] same h = tt
fit_behind front [] before (v ∷ vs) same h = absurd (cc (h))
fit_behind front (k ∷ rest) before (v ∷ vs) same h =
    let both = both_hold (is_literal_of k v) (are_leading rest vs) h in
    let f = fits_leading k v both.0 in
    let long : length (front ++ k ∷ []) ≡ length (before ++ v ∷ []) = one_longer front k ∙ ap suc same ∙ sym (one_longer before v) in
    let more = fit_behind (front ++ k ∷ []) rest (before ++ v ∷ []) vs long both.1 in (
      (k, subst (λ (n : ℕ). slice_get (front ++ k ∷ rest) n ≡ Some k) same (at_front front k rest), f.0, f.1),
      subst (λ (ks : List ColumnKind). AllFit row_of.FirstKey itself ks (before ++ v ∷ []) vs) (append_assoc front (k ∷ []) rest) more,
    )

-- ---- a first key

-- a table whose first keys are being read, and the last of them
abbrev pub divided : List (List Value) → List ℕ → NewTable → NewTable
divided firsts last table = record table { last = last; def = record table.def { firsts = firsts } }

abbrev pub dividing : NewTable → NewRow → Draft → Draft
dividing table row d = record d { table = table; row = row }

-- the first key that literals give
abbrev pub key_from : NewTable → List Value → List ℕ
key_from table first = filled_key table.key_width (key_values (key_kinds table.def) first)

-- literals that a first key may have behind others
pub record Follows (table : NewTable) (last : List ℕ) (first : List Value) : Type 0 where
  pub some : 0 < length first
  pub leading : are_leading (key_kinds table.def) first ≡ true
  pub above : key_lt last (key_from table first) ≡ true

abbrev pub AllFollow : NewTable → List ℕ → List (List Value) → Type 0
AllFollow table last [] = Unit {0}
AllFollow table last (first ∷ firsts) = Follows table last first × AllFollow table (key_from table first) firsts

pub all_follow : (table : NewTable) (last : List ℕ) (firsts : List (List Value)) → AllByRecursion (λ first. 0 < length first) firsts
    → AllByRecursion (λ first. are_leading (key_kinds table.def) first ≡ true) firsts → Rise (last ∷ map (key_from table) firsts) → AllFollow table last firsts
all_follow table last [] some leading rise = tt
all_follow table last (first ∷ firsts) some leading rise =
    (record { some = some.0; leading = leading.0; above = rise.0 }, all_follow table (key_from table first) firsts some.1 leading.1 rise.1)

module _ (table : NewTable) (d : Draft) where
  abbrev of_key : ℕ → ℕ → List Value → NewRow
  of_key at minus values = new_row row_of.FirstKey (key_kinds table.def) at minus values

  abbrev at_firsts : List (List Value) → List ℕ → ℕ → ℕ → List Value → Draft
  at_firsts firsts last at minus values = dividing (divided firsts last table) (of_key at minus values) d

  abbrev noted_first : List (List Value) → List ℕ → ℕ → ℕ → List Value → Bool → Bool → Bool → Draft
  noted_first firsts last at minus vs many faulty rises = record (at_firsts (firsts ++ vs ∷ []) (key_from table vs) at minus []) {
    first = noted (not faulty && not rises) NotRising at (noted many OverLimit at d.first);
  }

  first_is : (firsts : List (List Value)) (last : List ℕ) (at minus : ℕ) (vs : List Value) → d.first ≡ None → parts_of d.tables + length firsts < 15 → Follows table last vs
      → ended ends.FirstKey (at_firsts firsts last at minus vs) ≡ at_firsts (firsts ++ vs ∷ []) (key_from table vs) at minus []
  unfolding ended
  first_is firsts last at minus vs clean few h =
      let room : nat_le 15 (parts_of d.tables + length firsts) ≡ false = grind (arith, nat_tests, few) in
      ap (λ (b : Bool). noted_first firsts last at minus vs b (is_some (noted b OverLimit at d.first)) (key_lt last (key_from table vs))) room
      ∙ ap (λ (b : Bool). noted_first firsts last at minus vs false b (key_lt last (key_from table vs))) (ap is_some clean)
      ∙ ap (noted_first firsts last at minus vs false false) h.above

  -- a first key, and the word behind it
  one_reads : (firsts : List (List Value)) (last : List ℕ) (at minus : ℕ) (old vs : List Value) → d.first ≡ None → parts_of d.tables + length firsts < 15 → Follows table last vs
      → (s : List Symbol) (w : Word) (ws : List Word) (Last : Draft → Type 0)
      → ((at minus : ℕ) → ReadsOn s (at_firsts (firsts ++ vs ∷ []) (key_from table vs) at minus []) (w ∷ ws) Last)
      → ReadsOn (part parts.Row ∷ grammar.ended ends.FirstKey ∷ s) (at_firsts firsts last at minus old) (first_words vs ++ w ∷ ws) Last
  unfolding first_words
  one_reads firsts last at minus old [] clean few h s w ws Last more = absurd (omega (arith, h.some))
  one_reads firsts last at minus old (v ∷ vs) clean few h s w ws Last more =
      row_reads literal_words itself prints_itself row_of.FirstKey (key_kinds table.def) at minus old v vs (at_firsts firsts last at minus old)
      (fit_behind [] (key_kinds table.def) [] (v ∷ vs) refl h.leading) _ (w ∷ ws) Last (λ i j.
      end_before ends.FirstKey s (at_firsts firsts last i j (v ∷ vs)) w ws Last
      (from s _ _ (w ∷ ws) Last (first_is firsts last i j (v ∷ vs) clean few h) (more i j)))

  comma_steps : (s : List Symbol) (e : Draft)
      → StepsTo (part parts.MoreFirstKeys ∷ s) e (sign signs.Comma) (part parts.Row ∷ grammar.ended ends.FirstKey ∷ part parts.MoreFirstKeys ∷ s) (λ place. e)
  unfolding read_from word_read advance all_ended came behind
  comma_steps s e first end ts at = refl

  no_more : behind parts.MoreFirstKeys (sign signs.Semicolon) ≡ None
  unfolding behind
  no_more = refl

  abbrev others : List (List Value) → List Word
  others firsts = flat_map (λ y. sign signs.Comma ∷ first_words y) firsts

  behind_others : (firsts : List (List Value)) (ws : List Word) → (w : Word) × (rest : List Word) × (others firsts ++ sign signs.Semicolon ∷ ws ≡ w ∷ rest)
  behind_others [] ws = (sign signs.Semicolon, ws, refl)
  behind_others (first ∷ firsts) ws = (sign signs.Comma, _, refl)

  longer : (before : List (List Value)) (vs : List Value) (parts more : ℕ) → parts + length before + suc more ≤ 15 → parts + length (before ++ vs ∷ []) + more ≤ 15
  longer before vs parts more h = let long = length-append before (vs ∷ []) in omega (arith, long, h)

  -- where all first keys have been read
  abbrev Divided : List (List Value) → List Symbol → List Word → (Draft → Type 0) → Type 0
  Divided firsts s ws Last = (last : List ℕ) (row : NewRow) → ReadsOn s (dividing (divided firsts last table) row d) (sign signs.Semicolon ∷ ws) Last

  others_read : (firsts before : List (List Value)) (last : List ℕ) (at minus : ℕ) → d.first ≡ None → parts_of d.tables + length before + length firsts ≤ 15
      → AllFollow table last firsts → (s : List Symbol) (ws : List Word) (Last : Draft → Type 0) → Divided (before ++ firsts) s ws Last
      → ReadsOn (part parts.MoreFirstKeys ∷ s) (at_firsts before last at minus []) (others firsts ++ sign signs.Semicolon ∷ ws) Last
  others_read [] before last at minus clean few h s ws Last more =
      skip parts.MoreFirstKeys s _ (sign signs.Semicolon) ws Last refl no_more
      (from s _ _ _ Last (ap (λ (l : List (List Value)). at_firsts l last at minus []) (sym (append-nil before))) (more last (of_key at minus [])))
  others_read (vs ∷ firsts) before last at minus clean few h s ws Last more =
      let n = behind_others firsts ws in
      step _ _ _ _ Last _ _ (comma_steps s (at_firsts before last at minus [])) (λ i.
      spelled _ _ _ _ Last (append_assoc (first_words vs) (others firsts) (sign signs.Semicolon ∷ ws) ∙ ap (λ (l : List Word). first_words vs ++ l) n.2)
      (one_reads before last at minus [] vs clean (omega (arith, few)) h.0 _ n.0 n.1 Last (λ j k.
      spelled _ _ _ _ Last (sym n.2)
      (others_read firsts (before ++ vs ∷ []) (key_from table vs) j k clean (longer before vs (parts_of d.tables) (length firsts) few) h.1 s ws Last (λ l row.
      from s _ _ _ Last (ap (λ (f : List (List Value)). dividing (divided f l table) row d) (append_assoc before (vs ∷ []) firsts)) (more l row))))))

  first_steps : (s : List Symbol) (e : Draft)
      → StepsTo (part parts.FirstKeys ∷ s) e (key keys.First) (grammar.key keys.Key ∷ part parts.Row ∷ grammar.ended ends.FirstKey ∷ part parts.MoreFirstKeys ∷ s) (λ place. first_keys_begin e)
  unfolding read_from word_read advance all_ended came behind
  first_steps s e first end ts at = refl

  no_firsts : behind parts.FirstKeys (sign signs.Semicolon) ≡ None
  unfolding behind
  no_firsts = refl

  -- FIRST KEY ( .. ) , .. and the `;` behind it
  pub firsts_read : (firsts : List (List Value)) (old : List ℕ) (row : NewRow) → d.first ≡ None → parts_of d.tables + length firsts ≤ 15
      → AllFollow table (replicate table.key_width 0) firsts → (s : List Symbol) (ws : List Word) (Last : Draft → Type 0) → Divided firsts s ws Last
      → ReadsOn (part parts.FirstKeys ∷ s) (dividing (divided [] old table) row d) (firsts_words firsts ++ sign signs.Semicolon ∷ ws) Last
  firsts_read [] old row clean few h s ws Last more = skip parts.FirstKeys s _ (sign signs.Semicolon) ws Last refl no_firsts (more old row)
  firsts_read (vs ∷ firsts) old row clean few h s ws Last more =
      let n = behind_others firsts ws in
      let d1 = at_firsts [] (replicate table.key_width 0) row.at row.minus row.values in
      step _ _ _ _ Last _ _ (first_steps s (dividing (divided [] old table) row d)) (λ i.
      step _ d1 _ _ Last _ _ (key_steps _ d1) (λ j.
      spelled _ d1 _ _ Last (append_assoc (first_words vs) (others firsts) (sign signs.Semicolon ∷ ws) ∙ ap (λ (l : List Word). first_words vs ++ l) n.2)
      (one_reads [] (replicate table.key_width 0) row.at row.minus row.values vs clean (omega (arith, few)) h.0 _ n.0 n.1 Last (λ k l.
      spelled _ _ _ _ Last (sym n.2)
      (others_read firsts (vs ∷ []) (key_from table vs) k l clean (omega (arith, few)) h.1 s ws Last more)))))
