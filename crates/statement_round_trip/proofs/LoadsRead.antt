-- LOAD is read as it is printed.
use Rattle.std.proofs.Common.{◌≡◌, ◌≤◌, ◌<◌, ℕ, suc, ◌+◌, min, List, [], ◌∷◌, ◌++◌, length, map, Bool, true, false, Option, Some, None, cond, refl, sym, ap, subst, ◌∙◌, append_assoc, append-nil, arith}
use Rattle.std.proofs.lemmas.Bool.Decides.{nat_tests}
use Rattle.std.proofs.lemmas.List.Sums.{sum_by-cons}
use Rattle.std.specs.Prelude.{flat_map, is_some, nat_eq, nat_le, not, option_map, slice_get, sum_by, ◌||◌}
use Rattle.std.specs.List.{list_any, AllByRecursion}
use Rattle.sql_base.specs.Keys.{key_lt, Rise}
use Rattle.sql_base.specs.OnRows.{first_failing}
use Rattle.sql_base.specs.Rows.{are_of_kinds, key_of, kinds, IsRow}
use Rattle.sql_base.specs.Scripts.{IsLoad}
use Rattle.sql_base.specs.Tables.{all_differ}
use Rattle.sql_base.specs.declared.scripts.Load.{Load}
use Rattle.sql_base.specs.declared.tables.ColumnKind.{ColumnKind}
use Rattle.sql_base.specs.declared.tables.TableDef.{TableDef}
use Rattle.sql_base.specs.declared.values.Value.{Value}
use Rattle.statement_words.specs.declared.keywords.Keyword.TheVariants as keys
use Rattle.statement_words.specs.declared.tokens.Sign.TheVariants as signs
use Rattle.statement_words.specs.declared.tokens.Word.{Word}
use Rattle.statement_grammar.specs.Grammar.{behind, part}
use Rattle.statement_grammar.specs.Grammar as grammar
use Rattle.statement_grammar.specs.Machine.{advance}
use Rattle.statement_grammar.specs.declared.symbols.End.TheVariants as ends
use Rattle.statement_grammar.specs.declared.symbols.NameRole.TheVariants as roles
use Rattle.statement_grammar.specs.declared.symbols.Part.TheVariants as parts
use Rattle.statement_grammar.specs.declared.symbols.Symbol.{Symbol}
use Rattle.statement_draft.specs.Faults.{noted}
use Rattle.statement_draft.specs.Judging.{all_ended, came, ended, read_from, word_read}
use Rattle.statement_draft.specs.Names.{is_long}
use Rattle.statement_draft.specs.RowEvents.{is_above, is_loaded, load_came, load_named, no_load, row_judged, row_kept, row_loaded}
use Rattle.statement_draft.specs.declared.draft.Draft.{Draft}
use Rattle.statement_draft.specs.declared.draft.NewLoad.{NewLoad}
use Rattle.statement_draft.specs.declared.draft.NewRow.{NewRow}
use Rattle.statement_draft.specs.declared.draft.RowOf.TheVariants as row_of
use Rattle.sql_base.specs.declared.faults.Fault.{Fault}
use Rattle.statement_draft.specs.declared.faults.Reason.TheVariants.{CheckFails, NotRising, OverLimit, Repeated, WrongType}
use Rattle.statement_printer.specs.Printing.{key, load_words, name, row_words, sign, table_name, value_words, with_commas}
use Rattle.statement_round_trip.specs.Onward.{ReadsOn}
use Rattle.statement_round_trip.proofs.Apart.{apart_more, apart_none, differing, Apart}
use Rattle.statement_round_trip.proofs.FollowingRead.{one_more}
use Rattle.statement_round_trip.proofs.LimitsRead.{semicolon_steps}
use Rattle.statement_round_trip.proofs.Onward.{end_before, from, skip, spelled, step, StepsTo}
use Rattle.statement_round_trip.proofs.RowsFit.{all_fit, counts, load_fills, prints_unpadded, some_value, unpadded}
use Rattle.statement_round_trip.proofs.RowsRead.{new_row, row_reads}
use Rattle.statement_round_trip.proofs.TableNames.{AreDeclared, Declared}
use Rattle.sql_base.proofs.ListFacts.{map-push}

-- where loads have been read, and rows of another
abbrev pub loaded : List Load → NewLoad → NewRow → ℕ → Draft → Draft
loaded loads load row records d = record d { loads = loads; load = load; row = row; records = records }

abbrev loading : ℕ → Option (List ℕ) → List (List Value) → NewLoad
loading t last rows = record { table = Some t; last = last; rows = rows }

-- a row of a table, with these values so far
abbrev of_table : TableDef → ℕ → ℕ → List Value → NewRow
of_table table at minus values = new_row row_of.Load (kinds table) at minus values

-- ---- the table

load_steps : (s : List Symbol) (d : Draft)
    → StepsTo (part parts.Loads ∷ s) d (key keys.Load)
    (grammar.name roles.LoadTable ∷ part parts.Row ∷ grammar.ended ends.LoadRow ∷ part parts.MoreLoadRows ∷ grammar.sign signs.Semicolon ∷ grammar.ended ends.Load ∷ part parts.Loads ∷ s)
    (λ place. d)
unfolding read_from word_read advance all_ended came behind
load_steps s d first end ts at = refl

table_steps : (n : List ℕ) (s : List Symbol) (d : Draft) → StepsTo (grammar.name roles.LoadTable ∷ s) d (name n) s (λ place. load_came n place d)
unfolding read_from word_read advance all_ended came
table_steps n s d first end ts at = refl

abbrev noted_load : List Load → NewRow → ℕ → Draft → ℕ → ℕ → Option (List ColumnKind) → Bool → Draft
noted_load loads row records d t at ks again = record d {
  first = noted again Repeated at d.first;
  loads = loads;
  load = loading t None [];
  row = record row { of = row_of.Load; kinds = ks };
  records = records;
}

any_table : (t : ℕ) (loads : List Load) → list_any (λ load. nat_eq t load.table) loads ≡ list_any (nat_eq t) (map (λ load. load.table) loads)
any_table t [] = refl
any_table t (load ∷ loads) = ap (λ (b : Bool). nat_eq t load.table || b) (any_table t loads)

table_is : (loads : List Load) (load : NewLoad) (row : NewRow) (records t : ℕ) (table : TableDef) (at : ℕ) (d : Draft) → Declared d.tables t table
    → slice_get d.tables t ≡ Some table → list_any (nat_eq t) (map (λ load. load.table) loads) ≡ false
    → load_came table.name at (loaded loads load row records d) ≡ loaded loads (loading t None []) (of_table table row.at row.minus row.values) records d
table_is loads load row records t table at d is here new =
    let e = loaded loads load row records d in
    ap (λ (o : Option ℕ). load_named o at (record e { first = noted (is_long table.name) OverLimit at e.first })) is.named
    ∙ ap (λ (b : Bool). load_named (Some t) at (record e { first = noted b OverLimit at e.first })) is.short
    ∙ ap (λ (o : Option TableDef). noted_load loads row records d t at (option_map kinds o) (is_loaded loads (Some t))) here
    ∙ ap (noted_load loads row records d t at (Some (kinds table))) (any_table t loads ∙ new)

-- ---- a row

abbrev noted_row : List Load → ℕ → TableDef → Option (List ℕ) → List (List Value) → ℕ → ℕ → List Value → ℕ → Draft → Bool → Bool → Draft
noted_row loads t table last rows at minus vs records d many other = record (loaded loads (loading t last rows) (of_table table at minus vs) (min 4000 records + 1) d) {
  first = noted many OverLimit at (noted other WrongType at d.first);
}

abbrev judged_row : List Load → ℕ → TableDef → Option (List ℕ) → List (List Value) → ℕ → ℕ → List Value → ℕ → Draft → Bool → Bool → Draft
judged_row loads t table last rows at minus vs records d low fails =
    row_kept (key_of table vs) (record (loaded loads (loading t last rows) (of_table table at minus vs) (min 4000 records + 1) d) {
      first = noted low NotRising at (noted fails CheckFails at d.first);
    })

-- a row that its table may hold, behind those that are loaded
pub record Follows (table : TableDef) (last : Option (List ℕ)) (vs : List Value) : Type 0 where
  pub fits : are_of_kinds (kinds table) vs ≡ true
  pub above : is_above last (key_of table vs) ≡ true
  pub meets : first_failing table.checks vs ≡ None

row_is : (loads : List Load) (t : ℕ) (table : TableDef) (last : Option (List ℕ)) (rows : List (List Value)) (at minus : ℕ) (vs : List Value) (records : ℕ) (d : Draft)
    → d.first ≡ None → slice_get d.tables t ≡ Some table → records + 1 ≤ 4000 → Follows table last vs
    → ended ends.LoadRow (loaded loads (loading t last rows) (of_table table at minus vs) records d)
    ≡ loaded loads (loading t (Some (key_of table vs)) (rows ++ vs ∷ [])) (of_table table at minus []) (records + 1) d
unfolding ended
row_is loads t table last rows at minus vs records d clean here few h =
    let noted_as = noted_row loads t table last rows at minus vs records d in
    let judged_as = judged_row loads t table last rows at minus vs records d in
    let none : is_some d.first ≡ false = ap is_some clean in
    let many : nat_le 4000 records ≡ false = grind (arith, nat_tests, few) in
    ap (λ (o : Option TableDef). row_judged o (noted_as (nat_le 4000 records) (not (nat_eq (length vs) (length (kinds table)))))) here
    ∙ ap (λ (b : Bool). row_judged (Some table) (noted_as b (not (nat_eq (length vs) (length (kinds table)))))) many
    ∙ ap (λ (b : Bool). row_judged (Some table) (noted_as false b)) (counts (kinds table) vs h.fits)
    ∙ ap (λ (b : Bool). cond b (noted_as false false) (row_loaded table (noted_as false false))) none
    ∙ ap (λ (b : Bool). judged_as (not b) (is_some (first_failing table.checks vs))) h.above
    ∙ ap (λ (o : Option Fault). judged_as false (is_some o)) h.meets
    ∙ ap (λ (k : ℕ). loaded loads (loading t (Some (key_of table vs)) (rows ++ vs ∷ [])) (of_table table at minus []) k d) (one_more 4000 records (omega (arith, few)))

-- a row, and the word behind it
row_is_read : (loads : List Load) (t : ℕ) (table : TableDef) (last : Option (List ℕ)) (rows : List (List Value)) (at minus : ℕ) (old vs : List Value) (records : ℕ) (d : Draft)
    → d.first ≡ None → Declared d.tables t table → slice_get d.tables t ≡ Some table → records + 1 ≤ 4000 → Follows table last vs
    → (s : List Symbol) (w : Word) (ws : List Word) (Last : Draft → Type 0)
    → ((at minus : ℕ) → ReadsOn s (loaded loads (loading t (Some (key_of table vs)) (rows ++ vs ∷ [])) (of_table table at minus []) (records + 1) d) (w ∷ ws) Last)
    → ReadsOn (part parts.Row ∷ grammar.ended ends.LoadRow ∷ s) (loaded loads (loading t last rows) (of_table table at minus old) records d) (row_words vs ++ w ∷ ws) Last
unfolding row_words
row_is_read loads t table last rows at minus old [] records d clean is here few h s w ws Last more = absurd (some_value table is.is.key h.fits)
row_is_read loads t table last rows at minus old (v ∷ vs) records d clean is here few h s w ws Last more =
    let d1 = loaded loads (loading t last rows) (of_table table at minus old) records d in
    row_reads value_words unpadded prints_unpadded row_of.Load (kinds table) at minus old v vs d1
    (all_fit row_of.Load load_fills (kinds table) (v ∷ vs) h.fits) _ (w ∷ ws) Last (λ i j.
    end_before ends.LoadRow s (loaded loads (loading t last rows) (of_table table i j (v ∷ vs)) records d) w ws Last
    (from s _ _ (w ∷ ws) Last (row_is loads t table last rows i j (v ∷ vs) records d clean here few h) (more i j)))

-- ---- rows

comma_steps : (s : List Symbol) (d : Draft)
    → StepsTo (part parts.MoreLoadRows ∷ s) d (sign signs.Comma) (part parts.Row ∷ grammar.ended ends.LoadRow ∷ part parts.MoreLoadRows ∷ s) (λ place. d)
unfolding read_from word_read advance all_ended came behind
comma_steps s d first end ts at = refl

no_row : behind parts.MoreLoadRows (sign signs.Semicolon) ≡ None
unfolding behind
no_row = refl

-- rows that their table may hold, one behind the other
abbrev AllFollow : TableDef → Option (List ℕ) → List (List Value) → Type 0
AllFollow table last [] = Unit {0}
AllFollow table last (vs ∷ rows) = Follows table last vs × AllFollow table (Some (key_of table vs)) rows

rise_on : (a b : List ℕ) (ks : List (List ℕ)) → Rise (a ∷ b ∷ ks) → (key_lt a b ≡ true) × Rise (b ∷ ks)
rise_on a b ks h = h

follow_from : (table : TableDef) (last : List ℕ) (rows : List (List Value)) → AllByRecursion (IsRow table) rows → Rise (last ∷ map (key_of table) rows)
    → AllByRecursion (λ row. first_failing table.checks row ≡ None) rows → AllFollow table (Some last) rows
follow_from table last [] fit rise meet = tt
follow_from table last (vs ∷ rows) fit rise meet = (record { fits = fit.0; above = rise.0; meets = meet.0 }, follow_from table (key_of table vs) rows fit.1 rise.1 meet.1)

all_follow : (table : TableDef) (rows : List (List Value)) → AllByRecursion (IsRow table) rows → Rise (map (key_of table) rows)
    → AllByRecursion (λ row. first_failing table.checks row ≡ None) rows → AllFollow table None rows
all_follow table [] fit rise meet = tt
all_follow table (vs ∷ rows) fit rise meet = (record { fits = fit.0; above = refl; meets = meet.0 }, follow_from table (key_of table vs) rows fit.1 rise meet.1)

abbrev others : List (List Value) → List Word
others rows = flat_map (λ y. sign signs.Comma ∷ row_words y) rows

behind_others : (rows : List (List Value)) (ws : List Word) → (w : Word) × (rest : List Word) × (others rows ++ sign signs.Semicolon ∷ ws ≡ w ∷ rest)
behind_others [] ws = (sign signs.Semicolon, ws, refl)
behind_others (vs ∷ rows) ws = (sign signs.Comma, _, refl)

rows_read : (rows before : List (List Value)) (loads : List Load) (t : ℕ) (table : TableDef) (last : Option (List ℕ)) (at minus records : ℕ) (d : Draft)
    → d.first ≡ None → Declared d.tables t table → slice_get d.tables t ≡ Some table → records + length rows ≤ 4000 → AllFollow table last rows
    → (s : List Symbol) (ws : List Word) (Last : Draft → Type 0)
    → ((last : Option (List ℕ)) (at minus : ℕ) → ReadsOn s (loaded loads (loading t last (before ++ rows)) (of_table table at minus []) (records + length rows) d) (sign signs.Semicolon ∷ ws) Last)
    → ReadsOn (part parts.MoreLoadRows ∷ s) (loaded loads (loading t last before) (of_table table at minus []) records d) (others rows ++ sign signs.Semicolon ∷ ws) Last
rows_read [] before loads t table last at minus records d clean is here few fit s ws Last more =
    skip parts.MoreLoadRows s _ (sign signs.Semicolon) ws Last refl no_row
    (from s _ _ _ Last
    (ap (λ (l : List (List Value)). loaded loads (loading t last l) (of_table table at minus []) records d) (sym (append-nil before))
    ∙ ap (λ (k : ℕ). loaded loads (loading t last (before ++ [])) (of_table table at minus []) k d) (none_more records)) (more last at minus))
  where
    none_more : (n : ℕ) → n ≡ n + 0
    none_more n = omega arith
rows_read (vs ∷ rows) before loads t table last at minus records d clean is here few fit s ws Last more =
    let n = behind_others rows ws in
    step _ _ _ _ Last _ _ (comma_steps s (loaded loads (loading t last before) (of_table table at minus []) records d)) (λ i.
    spelled _ _ _ _ Last (append_assoc (row_words vs) (others rows) (sign signs.Semicolon ∷ ws) ∙ ap (λ (l : List Word). row_words vs ++ l) n.2)
    (row_is_read loads t table last before at minus [] vs records d clean is here (omega (arith, few)) fit.0 _ n.0 n.1 Last (λ j k.
    spelled _ _ _ _ Last (sym n.2)
    (rows_read rows (before ++ vs ∷ []) loads t table (Some (key_of table vs)) j k (records + 1) d clean is here (omega (arith, few)) fit.1 s ws Last (λ last a m.
    from s _ _ _ Last
    (ap (λ (l : List (List Value)). loaded loads (loading t last l) (of_table table a m []) (records + 1 + length rows) d) (append_assoc before (vs ∷ []) rows)
    ∙ ap (λ (k : ℕ). loaded loads (loading t last (before ++ vs ∷ rows)) (of_table table a m []) k d) (beside records (length rows))) (more last a m))))))
  where
    beside : (a b : ℕ) → a + 1 + b ≡ a + suc b
    beside a b = omega arith

-- ---- loads

load_is : (loads : List Load) (t : ℕ) (last : Option (List ℕ)) (rows : List (List Value)) (row : NewRow) (records : ℕ) (d : Draft)
    → ended ends.Load (loaded loads (loading t last rows) row records d) ≡ loaded (loads ++ record { table = t; rows = rows } ∷ []) no_load row records d
unfolding ended
load_is loads t last rows row records d = refl

-- LOAD t ( .. ) , .. ; and the word behind it
load_reads : (loads : List Load) (load : NewLoad) (row : NewRow) (records : ℕ) (d : Draft) (t : ℕ) (table : TableDef) (rows : List (List Value))
    → d.first ≡ None → Declared d.tables t table → slice_get d.tables t ≡ Some table → 0 < length rows → AllFollow table None rows
    → list_any (nat_eq t) (map (λ load. load.table) loads) ≡ false → records + length rows ≤ 4000
    → (s : List Symbol) (w : Word) (ws : List Word) (Last : Draft → Type 0)
    → ((row : NewRow) → ReadsOn (part parts.Loads ∷ s) (loaded (loads ++ record { table = t; rows = rows } ∷ []) no_load row (records + length rows) d) (w ∷ ws) Last)
    → ReadsOn (part parts.Loads ∷ s) (loaded loads load row records d) (load_words d.tables (record { table = t; rows = rows }) ++ w ∷ ws) Last
load_reads loads load row records d t table [] clean is here some fit new few s w ws Last more = absurd (omega (arith, some))
load_reads loads load row records d t table (vs ∷ rows) clean is here some fit new few s w ws Last more =
    let n = behind_others rows (w ∷ ws) in
    let d1 = loaded loads load row records d in
    let behind = λ (l : List Word). key keys.Load ∷ name table.name ∷ l in
    spelled _ d1 _ _ Last
    (ap (λ (o : Option TableDef). key keys.Load ∷ table_name o ∷ ((with_commas row_words (vs ∷ rows) ++ sign signs.Semicolon ∷ []) ++ w ∷ ws)) here
    ∙ ap behind (append_assoc (row_words vs ++ others rows) (sign signs.Semicolon ∷ []) (w ∷ ws) ∙ append_assoc (row_words vs) (others rows) (sign signs.Semicolon ∷ w ∷ ws)
    ∙ ap (λ (l : List Word). row_words vs ++ l) n.2))
    (step _ d1 _ _ Last _ _ (load_steps s d1) (λ i.
    step _ d1 _ _ Last _ _ (table_steps table.name _ d1) (λ j.
    from _ _ (loaded loads (loading t None []) (of_table table row.at row.minus row.values) records d) _ Last (table_is loads load row records t table j d is here new)
    (row_is_read loads t table None [] row.at row.minus row.values vs records d clean is here (omega (arith, few)) fit.0 _ n.0 n.1 Last (λ a m.
    spelled _ _ _ _ Last (sym n.2)
    (rows_read rows (vs ∷ []) loads t table (Some (key_of table vs)) a m (records + 1) d clean is here (omega (arith, few)) fit.1 _ (w ∷ ws) Last (λ last b k.
    let d2 = loaded loads (loading t last (vs ∷ rows)) (of_table table b k []) (records + 1 + length rows) d in
    step _ d2 _ _ Last _ _ (semicolon_steps _ d2) (λ l.
    end_before ends.Load _ d2 w ws Last
    (from _ _ _ (w ∷ ws) Last
    (load_is loads t last (vs ∷ rows) (of_table table b k []) (records + 1 + length rows) d
    ∙ ap (λ (n : ℕ). loaded (loads ++ record { table = t; rows = vs ∷ rows } ∷ []) no_load (of_table table b k []) n d) (beside records (length rows)))
    (more (of_table table b k [])))))))))))
  where
    beside : (a b : ℕ) → a + 1 + b ≡ a + suc b
    beside a b = omega arith

no_load_behind : behind parts.Loads (key keys.Session) ≡ None
unfolding behind
no_load_behind = refl

-- the loads that are left, and the sessions behind them
loads_left : (some before : List Load) (load : NewLoad) (row : NewRow) (records : ℕ) (d : Draft) → d.first ≡ None → AreDeclared d.tables
    → AllByRecursion (IsLoad d.tables) some → all_differ nat_eq (map (λ load. load.table) some) ≡ true → Apart (map (λ load. load.table) before) (map (λ load. load.table) some)
    → records + sum_by (λ load. length load.rows) some ≤ 4000
    → (s : List Symbol) (ws : List Word) (Last : Draft → Type 0)
    → ((load : NewLoad) (row : NewRow) → ReadsOn s (loaded (before ++ some) load row (records + sum_by (λ load. length load.rows) some) d) (key keys.Session ∷ ws) Last)
    → ReadsOn (part parts.Loads ∷ s) (loaded before load row records d) (flat_map (load_words d.tables) some ++ key keys.Session ∷ ws) Last
loads_left [] before load row records d clean declared all differ apart few s ws Last more =
    skip parts.Loads s _ (key keys.Session) ws Last refl no_load_behind
    (from s _ _ _ Last
    (ap (λ (l : List Load). loaded l load row records d) (sym (append-nil before)) ∙ ap (λ (k : ℕ). loaded (before ++ []) load row k d) (none_more records)) (more load row))
  where
    none_more : (n : ℕ) → n ≡ n + 0
    none_more n = omega arith
loads_left (one ∷ some) before load row records d clean declared all differ apart few s ws Last more =
    let is = all.0 in
    let cons : sum_by (λ (load : Load). length load.rows) (one ∷ some) ≡ length one.rows + sum_by (λ (load : Load). length load.rows) some =
    sum_by-cons (λ (load : Load). length load.rows) one some in
    let apart_on = differing one.table (map (λ load. load.table) some) differ in
    let n = next_load d.tables some ws in
    let front = before ++ one ∷ [] in
    let moved : map (λ (load : Load). load.table) front ≡ map (λ (load : Load). load.table) before ++ one.table ∷ [] = map-push (λ (load : Load). load.table) before one in
    let later : Apart (map (λ (load : Load). load.table) front) (map (λ (load : Load). load.table) some) =
    subst (λ (l : List ℕ). Apart l (map (λ (load : Load). load.table) some)) (sym moved) (apart_more one.table (map (λ load. load.table) before) (map (λ load. load.table) some) apart_on.0 apart.1) in
    spelled _ _ _ _ Last (append_assoc (load_words d.tables one) (flat_map (load_words d.tables) some) (key keys.Session ∷ ws) ∙ ap (λ (l : List Word). load_words d.tables one ++ l) n.2)
    (load_reads before load row records d one.table is.0 one.rows clean (declared one.table is.0 is.1) is.1 is.2 (all_follow is.0 one.rows is.3.0 is.3.1 is.4) apart.0
    (omega (arith, cons, few)) s n.0 n.1 Last (λ row1.
    spelled _ _ _ _ Last (sym n.2)
    (loads_left some front no_load row1 (records + length one.rows) d clean declared all.1 apart_on.1 later (omega (arith, cons, few)) s ws Last (λ load2 row2.
    from s _ _ _ Last
    (ap (λ (l : List Load). loaded l load2 row2 (records + length one.rows + sum_by (λ (load : Load). length load.rows) some) d) (append_assoc before (one ∷ []) some)
    ∙ ap (λ (k : ℕ). loaded (before ++ one ∷ some) load2 row2 k d) (omega (arith, cons))) (more load2 row2)))))
  where
    next_load : (tables : List TableDef) (some : List Load) (ws : List Word) → (w : Word) × (rest : List Word) × (flat_map (load_words tables) some ++ key keys.Session ∷ ws ≡ w ∷ rest)
    next_load tables [] ws = (key keys.Session, ws, refl)
    next_load tables (load ∷ some) ws = (key keys.Load, _, refl)

-- all loads of a script, and the sessions behind them
pub loads_read : (some : List Load) (row : NewRow) (d : Draft) → d.first ≡ None → AreDeclared d.tables → AllByRecursion (IsLoad d.tables) some
    → all_differ nat_eq (map (λ load. load.table) some) ≡ true → sum_by (λ load. length load.rows) some ≤ 4000
    → (s : List Symbol) (ws : List Word) (Last : Draft → Type 0)
    → ((load : NewLoad) (row : NewRow) → ReadsOn s (loaded some load row (sum_by (λ load. length load.rows) some) d) (key keys.Session ∷ ws) Last)
    → ReadsOn (part parts.Loads ∷ s) (loaded [] no_load row 0 d) (flat_map (load_words d.tables) some ++ key keys.Session ∷ ws) Last
loads_read some row d clean declared all differ few s ws Last more =
    loads_left some [] no_load row 0 d clean declared all differ (apart_none (map (λ load. load.table) some)) (omega (arith, few)) s ws Last (λ load1 row1.
    from s _ _ _ Last (ap (λ (k : ℕ). loaded some load1 row1 k d) (none_before (sum_by (λ load. length load.rows) some))) (more load1 row1))
  where
    none_before : (n : ℕ) → 0 + n ≡ n
    none_before n = omega arith
