-- The parts of sessions, works and statements keep their contracts.
use Rattle.std.proofs.Common.{◌≡◌, ◌<◌, ℕ, List, [], ◌∷◌, length, Bool, true, false, Option, Some, None, refl, sym, ap, subst, ◌∙◌}
use Rattle.std.specs.Prelude.{nat_le, option_map, option_and_then, slice_get, if◌then◌else◌}
use Rattle.sql_base.specs.Rows.{kinds, IsRow}
use Rattle.sql_base.specs.Tables.{AreColumns, AreSets, IsFilter, SuitsTable}
use Rattle.sql_base.specs.declared.expressions.Expr.{Expr}
use Rattle.sql_base.specs.declared.statements.Assign.{Assign}
use Rattle.sql_base.specs.declared.tables.TableDef.{TableDef}
use Rattle.statement_words.specs.declared.keywords.Keyword.TheVariants as keyword
use Rattle.statement_words.specs.declared.tokens.Sign.TheVariants as sign
use Rattle.statement_words.specs.declared.tokens.Word.{Word}
use Rattle.statement_words.specs.declared.tokens.Word.TheVariants as word
use Rattle.statement_grammar.specs.WordsAt.{is_key, is_sign}
use Rattle.statement_grammar.specs.Grammar as grammar
use Rattle.statement_grammar.specs.Grammar.{session_behind, work_behind, selected_behind, more_selected_behind, where_behind, sets_behind, more_sets_behind, change_behind, read_behind, mode_behind}
use Rattle.statement_grammar.specs.declared.symbols.End.TheVariants as ends
use Rattle.statement_grammar.specs.declared.symbols.NameRole.TheVariants as names
use Rattle.statement_grammar.specs.declared.symbols.Part.TheVariants as parts
use Rattle.statement_grammar.specs.declared.symbols.Symbol.{Symbol}
use Rattle.statement_draft.specs.Judging.{ended, part_came}
use Rattle.statement_draft.specs.RowEvents.{miscounts}
use Rattle.statement_draft.specs.StatementEvents.{session_begins, statement_drafted, statement_came, work_begins, table_came, insert_came, selected_came, select_table_came, names_judged, where_came, sets_begin, set_came, access_came, access_named, mode_came, insert_row_ends}
use Rattle.statement_draft.specs.declared.draft.Draft.{Draft}
use Rattle.statement_draft.specs.declared.draft.NewStatement.{NewStatement}
use Rattle.statement_draft.specs.declared.draft.RowOf.{RowOf}
use Rattle.statement_draft.specs.declared.draft.RowOf.TheVariants as row_of
use Rattle.statement_draft.specs.declared.draft.StatementKind.{StatementKind}
use Rattle.statement_draft.specs.declared.draft.StatementKind.TheVariants as statement_kind
use Rattle.statement_draft.specs.declared.faults.Reason.TheVariants.{WrongType, OverLimit}
use Rattle.statement_draft.proofs.Clean.{noted-none}
use Rattle.statement_rules.proofs.Stays as stays
use Rattle.statement_rules.proofs.Stays.{work_counted}
use Rattle.statement_rules.proofs.LoadSteps.{counted_all}
use Rattle.statement_rules.proofs.PartContracts.{NamesStep, AccessStep, ChangeStep, ModeStep, Updating, Setting, Set, Worked, Demand, by_if, by_some}
use Rattle.statement_rules.proofs.RowSteps.{fits_row, row_of_kinds, row_for_insert, RowRead}
use Rattle.statement_rules.proofs.SessionSteps.{session_step, work_step, work_ended, session_ended, statement_ended, Suits, known, known_sees}
use Rattle.statement_rules.proofs.States.{Between, Working, Stating, Known, SetsSound}
use Rattle.statement_rules.proofs.StatementSteps.{select_step, FilterStep, filter_step, SetColumn, set_step, assign_step, sets_step}
use Rattle.statement_rules.proofs.TableParts.{begun_more}
use Rattle.statement_rules.proofs.WholeSteps.{Begun, still}

-- ---- SELECT lists, WHERE, access and modes

names_more : (d e g : Draft) → NamesStep d e → NamesStep e g → NamesStep d g
names_more d e g a b = record {
  names = b.names;
  first = b.first;
  same = b.same ∙ ap (λ (x : Draft). record x { statement = record x.statement { names = b.names }; first = b.first }) a.same;
}

selected_step : (name : List ℕ) (at : ℕ) (d : Draft) → NamesStep d (selected_came name at d)
selected_step name at d = record { names = _; first = _; same = refl }

pub no_names : (d : Draft) → NamesStep d d
no_names d = record { names = d.statement.names; first = d.first; same = refl }

pub selected_meets : (w : Word) (at : ℕ) (more : List Symbol) (d : Draft) → selected_behind w ≡ Some more → Demand more (NamesStep d) (part_came parts.Selected w at d)
selected_meets (word.Name name) at more d h =
    by_some _ more (λ m. Demand m (NamesStep d) (selected_came name at d)) h (tt, λ e s. names_more d (selected_came name at d) e (selected_step name at d) s)
selected_meets (word.Sign s) at more d h = by_if (is_sign (word.Sign s) sign.Times) [] more (λ m. Demand m (NamesStep d) d) h (no_names d)
selected_meets (word.Keyword k) at more d h = absurd (cc (h))
selected_meets (word.Number n) at more d h = absurd (cc (h))
selected_meets (word.Text text) at more d h = absurd (cc (h))

pub more_selected_meets : (w : Word) (more : List Symbol) (d : Draft) → more_selected_behind w ≡ Some more → Demand more (NamesStep d) d
more_selected_meets w more d h =
    by_if (is_sign w sign.Comma) _ more (λ m. Demand m (NamesStep d) d) h
    (λ name at is clean. (tt, λ e s. names_more d (selected_came name at d) e (selected_step name at d) s))

filter_over : (at : ℕ) (d e : Draft) → Begun (where_came at d) e → (ended ends.Filter e).first ≡ None → FilterStep d (ended ends.Filter e)
unfolding ended
filter_over at d e b clean = filter_step at d e b clean

pub where_meets : (w : Word) (at : ℕ) (more : List Symbol) (d : Draft) → where_behind w ≡ Some more → Demand more (FilterStep d) (where_came at d)
where_meets w at more d h =
    by_if (is_key w keyword.Where) _ more (λ m. Demand m (FilterStep d) (where_came at d)) h
    (tt, λ e b. (tt, λ e2 c2. (tt, λ e3 c3. λ clean. filter_over at d e3 (begun_more _ e2 e3 (begun_more _ e e2 b c2) c3) clean)))

pub change_meets : (w : Word) (more : List Symbol) (d : Draft) → change_behind w ≡ Some more → Demand more (ChangeStep d) (access_came w d)
change_meets (word.Keyword keyword.Stable) more d h = by_some [] more (λ m. Demand m (ChangeStep d) (access_came (word.Keyword keyword.Stable) d)) h (record { access = _; same = refl; changes = tt })
change_meets (word.Keyword keyword.Repeatable) more d h =
    by_some [] more (λ m. Demand m (ChangeStep d) (access_came (word.Keyword keyword.Repeatable) d)) h (record { access = _; same = refl; changes = tt })
change_meets (word.Keyword k) more d h = absurd (cc (h))
change_meets (word.Name name) more d h = absurd (cc (h))
change_meets (word.Number n) more d h = absurd (cc (h))
change_meets (word.Text text) more d h = absurd (cc (h))
change_meets (word.Sign s) more d h = absurd (cc (h))

access_step : (w : Word) (d : Draft) → AccessStep d (access_came w d)
access_step w d = record { access = access_named w; same = refl }

nothing_more : (b c : Bool) (more : List Symbol) (P : List Symbol → Type 0) → (if b then Some [] else (if c then Some [] else None)) ≡ Some more → P [] → P more
nothing_more true c more P h p = by_some [] more P h p
nothing_more false c more P h p = by_if c [] more P h p

pub read_meets_access : (w : Word) (more : List Symbol) (d : Draft) → read_behind w ≡ Some more → Demand more (AccessStep d) (access_came w d)
read_meets_access w more d h = nothing_more (is_key w keyword.Browse) _ more (λ m. Demand m (AccessStep d) (access_came w d)) h (access_step w d)

mode_step : (w : Word) (d : Draft) → ModeStep d (mode_came w d)
mode_step w d = record { mode = _; same = refl }

pub mode_meets : (w : Word) (more : List Symbol) (d : Draft) → mode_behind w ≡ Some more → Demand more (ModeStep d) (mode_came w d)
mode_meets w more d h = by_if _ [] more (λ m. Demand m (ModeStep d) (mode_came w d)) h (mode_step w d)

-- ---- SET

assign_over : (d e : Draft) (k : Known d) → Updating d → SetColumn k.table d.statement → Begun d e → (ended ends.Assign e).first ≡ None → Set (ended ends.Assign e)
unfolding ended
assign_over d e k u s b clean =
    let u2 : Updating e = still Updating d e (λ x f. u) b in
    (u2, assign_step d e k s b clean)

-- a column, `=` and its value
assign_meets : (d : Draft) → Updating d → (k : Known d) → SetsSound k.table d.statement.sets d.statement.columns d.statement.code
    → Demand (grammar.name names.SetColumn ∷ grammar.sign sign.Equal ∷ grammar.part parts.Expression ∷ grammar.part parts.AndRest ∷ grammar.part parts.OrRest ∷ grammar.ended ends.Assign ∷ grammar.part parts.MoreSets ∷ []) Set d
assign_meets d u k sets = λ name at is clean.
    let d2 = set_came name at d in
    let s = set_step name at d k sets clean in
    let k2 : Known d2 = record { place = k.place; named = k.named; table = k.table; there = k.there; scope = k.scope } in
    (tt, λ e b. (tt, λ e2 c2. (tt, λ e3 c3. λ clean2. (assign_over d2 e3 k2 u s (begun_more d2 e2 e3 (begun_more d2 e e2 b c2) c3) clean2, λ e4 set. set))))

pub sets_meets : (w : Word) (at : ℕ) (more : List Symbol) (d : Draft) → sets_behind w ≡ Some more → Setting d → Demand more Set (sets_begin at d)
sets_meets w at more d h s =
    let k : Known (sets_begin at d) = record { place = s.1.0.place; named = s.1.0.named; table = s.1.0.table; there = s.1.0.there; scope = s.1.0.scope } in
    by_if (is_key w keyword.Set) _ more (λ m. Demand m Set (sets_begin at d)) h (assign_meets (sets_begin at d) s.0 k s.1.1)

pub more_sets_meets : (w : Word) (more : List Symbol) (d : Draft) → more_sets_behind w ≡ Some more → Set d → Demand more Set d
more_sets_meets w more d h s = by_if (is_sign w sign.Comma) _ more (λ m. Demand m Set d) h (assign_meets d s.0 s.1.0 s.1.1.sets)

-- ---- statements

statement_over : (d : Draft) → Stating d → Suits d → Stating (ended ends.Statement d)
unfolding ended
statement_over d s f = statement_ended d s f

-- of the kind that it began as
suits_as : (d : Draft) (kind : StatementKind) (k : Known d) → d.statement.kind ≡ kind → SuitsTable k.table (statement_drafted kind k.place d.statement d.row.values) → Suits d
suits_as d kind k is h = (k, subst (λ (x : StatementKind). SuitsTable k.table (statement_drafted x k.place d.statement d.row.values)) (sym is) h)

no_filter_there : (table : TableDef) (f : Option Expr) → f ≡ None → IsFilter table f
no_filter_there table f h = subst (IsFilter table) (sym h) tt

abbrev Selecting : Draft → Type 0
Selecting d = Stating d × (d.statement.kind ≡ statement_kind.Select) × (d.statement.filter ≡ None)

judged_selecting : (o : Option TableDef) (d : Draft) → Selecting d → Selecting (names_judged o d)
judged_selecting None d s = s
judged_selecting (Some table) d s = s

abbrev SelectReady : Draft → Type 0
SelectReady d = Stating d × (d.statement.kind ≡ statement_kind.Select) × ((k : Known d) × AreColumns k.table d.statement.columns × IsFilter k.table d.statement.filter)

select_ready : (d e : Draft) → Selecting d → (k : Known d) → AreColumns k.table d.statement.columns → FilterStep d e → SelectReady e
select_ready d e s k columns f =
    let e0 : Draft = record d { statement = record d.statement { where_at = f.place; filter = f.filter }; expression = f.expression; first = f.first } in
    let k0 : Known e0 = record { place = k.place; named = k.named; table = k.table; there = k.there; scope = k.scope } in
    let filter = f.judged k.table (known_sees d k) (no_filter_there k.table d.statement.filter s.2) in
    subst SelectReady (sym f.same) (s.0, s.1, (k0, columns, filter))

select_over : (d e : Draft) → SelectReady d → AccessStep d e → Stating (ended ends.Statement e)
select_over d e r a =
    let e0 : Draft = record d { statement = record d.statement { access = a.access } } in
    let k : Known e0 = record { place = r.2.0.place; named = r.2.0.named; table = r.2.0.table; there = r.2.0.there; scope = r.2.0.scope } in
    subst (λ (x : Draft). Stating (ended ends.Statement x)) (sym a.same) (statement_over e0 r.0 (suits_as e0 statement_kind.Select k r.1 (r.2.1, r.2.2)))

abbrev pub select_list : List Symbol
select_list = grammar.part parts.Selected ∷ grammar.key keyword.From ∷ grammar.name names.SelectTable ∷ grammar.part parts.Where ∷ grammar.key keyword.For ∷ grammar.part parts.ReadAccess ∷ grammar.key keyword.Access
    ∷ grammar.sign sign.Semicolon ∷ grammar.ended ends.Statement ∷ grammar.part parts.MoreStatements ∷ []

select_meets : (d : Draft) → Selecting d → Demand select_list Worked d
select_meets d s = (
  tt,
  λ e1 n. λ name at is clean.
      let s1 : Selecting e1 = subst Selecting (sym n.same) s in
      let e2 = select_table_came name at e1 in
      let named = table_came name at e1 in
      let s2 : Selecting e2 = judged_selecting (option_and_then (slice_get named.tables) named.statement.table) named s1 in
      let c = select_step name at e1 s1.0.0.tables.all clean in
      (tt, λ e3 f. (tt, λ e4 a. λ clean2. (select_over e3 e4 (select_ready e2 e3 s2 c.0 c.1 f) a, λ e5 w. w))),
)

abbrev UpdateReady : Draft → Type 0
UpdateReady d = Stating d × (d.statement.kind ≡ statement_kind.Update) × ((k : Known d) × AreSets k.table d.statement.sets × IsFilter k.table d.statement.filter)

sets_over : (d : Draft) → Set d → (ended ends.Sets d).first ≡ None → Updating (ended ends.Sets d) × ((k : Known (ended ends.Sets d)) × AreSets k.table (ended ends.Sets d).statement.sets)
unfolding ended
sets_over d s clean = let k = s.1.0 in
    (s.0, (record { place = k.place; named = k.named; table = k.table; there = k.there; scope = k.scope }, sets_step d k s.1.1 clean))

update_ready : (d e : Draft) → Updating d → (k : Known d) → AreSets k.table d.statement.sets → FilterStep d e → UpdateReady e
update_ready d e s k sets f =
    let e0 : Draft = record d { statement = record d.statement { where_at = f.place; filter = f.filter }; expression = f.expression; first = f.first } in
    let k0 : Known e0 = record { place = k.place; named = k.named; table = k.table; there = k.there; scope = k.scope } in
    let filter = f.judged k.table (known_sees d k) (no_filter_there k.table d.statement.filter s.2) in
    subst UpdateReady (sym f.same) (s.0, s.1, (k0, sets, filter))

update_over : (d e : Draft) → UpdateReady d → ChangeStep d e → Stating (ended ends.Statement e)
update_over d e r a =
    let e0 : Draft = record d { statement = record d.statement { access = a.access } } in
    let k : Known e0 = record { place = r.2.0.place; named = r.2.0.named; table = r.2.0.table; there = r.2.0.there; scope = r.2.0.scope } in
    subst (λ (x : Draft). Stating (ended ends.Statement x)) (sym a.same) (statement_over e0 r.0 (suits_as e0 statement_kind.Update k r.1 (r.2.1, r.2.2, a.changes)))

-- an UPDATE without assignments yet
record Fresh (s : NewStatement) : Type 0 where
  pub sets : s.sets ≡ []
  pub columns : s.columns ≡ []
  pub code : s.code ≡ 1

setting : (d : Draft) → Updating d → (k : Known d) → Fresh d.statement → Setting d
setting d u k f = (
  u,
  (
    k,
    subst (λ (l : List Assign). SetsSound k.table l d.statement.columns d.statement.code) (sym f.sets)
        (subst (λ (l : List ℕ). SetsSound k.table [] l d.statement.code) (sym f.columns)
        (subst (SetsSound k.table [] []) (sym f.code) (record { each = tt; columns = refl; differ = refl; code = refl }))),
  ),
)

abbrev pub update_list : List Symbol
update_list = grammar.name names.OtherTable ∷ grammar.part parts.Sets ∷ grammar.ended ends.Sets ∷ grammar.part parts.Where ∷ grammar.key keyword.For ∷ grammar.part parts.ChangeAccess ∷ grammar.key keyword.Access
    ∷ grammar.sign sign.Semicolon ∷ grammar.ended ends.Statement ∷ grammar.part parts.MoreStatements ∷ []

update_meets : (d : Draft) → Updating d → Fresh d.statement → Demand update_list Worked d
update_meets d u f = λ name at is clean.
    let e1 = table_came name at d in
    let f1 : Fresh e1.statement = record { sets = f.sets; columns = f.columns; code = f.code } in (
      setting e1 u (known name at d clean) f1,
      λ e2 s. λ clean2.
          let r = sets_over e2 s clean2 in
          (tt, λ e3 w. (tt, λ e4 a. λ clean3. (update_over e3 e4 (update_ready (ended ends.Sets e2) e3 r.0 r.1.0 r.1.1 w) a, λ e5 done. done))),
    )

abbrev Deleting : Draft → Type 0
Deleting d = Stating d × (d.statement.kind ≡ statement_kind.Delete) × (d.statement.filter ≡ None)

abbrev DeleteReady : Draft → Type 0
DeleteReady d = Stating d × (d.statement.kind ≡ statement_kind.Delete) × ((k : Known d) × IsFilter k.table d.statement.filter)

delete_ready : (d e : Draft) → Deleting d → (k : Known d) → FilterStep d e → DeleteReady e
delete_ready d e s k f =
    let e0 : Draft = record d { statement = record d.statement { where_at = f.place; filter = f.filter }; expression = f.expression; first = f.first } in
    let k0 : Known e0 = record { place = k.place; named = k.named; table = k.table; there = k.there; scope = k.scope } in
    let filter = f.judged k.table (known_sees d k) (no_filter_there k.table d.statement.filter s.2) in
    subst DeleteReady (sym f.same) (s.0, s.1, (k0, filter))

delete_over : (d e : Draft) → DeleteReady d → ChangeStep d e → Stating (ended ends.Statement e)
delete_over d e r a =
    let e0 : Draft = record d { statement = record d.statement { access = a.access } } in
    let k : Known e0 = record { place = r.2.0.place; named = r.2.0.named; table = r.2.0.table; there = r.2.0.there; scope = r.2.0.scope } in
    subst (λ (x : Draft). Stating (ended ends.Statement x)) (sym a.same) (statement_over e0 r.0 (suits_as e0 statement_kind.Delete k r.1 (r.2.1, a.changes)))

abbrev pub delete_list : List Symbol
delete_list = grammar.key keyword.From ∷ grammar.name names.OtherTable ∷ grammar.part parts.Where ∷ grammar.key keyword.For ∷ grammar.part parts.ChangeAccess ∷ grammar.key keyword.Access
    ∷ grammar.sign sign.Semicolon ∷ grammar.ended ends.Statement ∷ grammar.part parts.MoreStatements ∷ []

delete_meets : (d : Draft) → Deleting d → Demand delete_list Worked d
delete_meets d s = λ name at is clean.
    (tt, λ e3 w. (tt, λ e4 a. λ clean3. (delete_over e3 e4 (delete_ready (table_came name at d) e3 s (known name at d clean) w) a, λ e5 done. done)))

abbrev Inserting : Draft → Type 0
Inserting d = Stating d × (d.statement.kind ≡ statement_kind.Insert)

insert_over : (d e : Draft) → Inserting d → (k : Known d) → d.row.of ≡ row_of.Insert → d.row.kinds ≡ Some (kinds k.table) → RowRead d e → (ended ends.InsertRow e).first ≡ None
    → Stating (ended ends.Statement (ended ends.InsertRow e))
unfolding ended
insert_over d e s k of ks r clean =
    let e0 : Draft = record d { row = r.row; first = r.first } in
    let clean0 : (insert_row_ends e0).first ≡ None = ap (λ (x : Draft). (insert_row_ends x).first) (sym r.same) ∙ clean in
    let e1 = insert_row_ends e0 in
    let k1 : Known e1 = record { place = k.place; named = k.named; table = k.table; there = k.there; scope = k.scope } in
    let outer = noted-none (nat_le 4000 e0.records) OverLimit e0.statement.at _ clean0 in
    let counts = (noted-none (miscounts r.row) WrongType r.row.at r.first outer.1).0 in
    let fits : fits_row row_of.Insert (kinds k.table) r.row.values ≡ true =
    subst (λ (o : RowOf). fits_row o (kinds k.table) r.row.values ≡ true) of (r.fits (kinds k.table) ks) in
    let row : IsRow k.table r.row.values = row_of_kinds (kinds k.table) r.row.values (row_for_insert (kinds k.table) r.row.values fits) (counted_all r.row (kinds k.table) (r.kinds ∙ ks) counts) in
    subst (λ (x : Draft). Stating (ended ends.Statement (insert_row_ends x))) (sym r.same) (statement_over e1 s.0 (suits_as e1 statement_kind.Insert k1 s.1 row))

abbrev pub insert_list : List Symbol
insert_list = grammar.key keyword.Into ∷ grammar.name names.InsertTable ∷ grammar.key keyword.Values ∷ grammar.part parts.Row ∷ grammar.ended ends.InsertRow
    ∷ grammar.sign sign.Semicolon ∷ grammar.ended ends.Statement ∷ grammar.part parts.MoreStatements ∷ []

insert_meets : (d : Draft) → Inserting d → Demand insert_list Worked d
insert_meets d s = λ name at is clean.
    let e1 = insert_came name at d in
    let k = known name at d clean in
    let k1 : Known e1 = record { place = k.place; named = k.named; table = k.table; there = k.there; scope = k.scope } in
    let found : option_and_then (slice_get e1.tables) e1.statement.table ≡ Some k.table = ap (option_and_then (slice_get e1.tables)) k.named ∙ k.there in
    (tt, λ e2 r. λ clean2. λ clean3. (insert_over e1 e2 s k1 refl (ap (option_map kinds) found) r clean2, λ e3 done. done))

abbrev Locking : Draft → Type 0
Locking d = Stating d × (d.statement.kind ≡ statement_kind.Lock)

lock_over : (d e : Draft) → Locking d → Known d → ModeStep d e → Stating (ended ends.Statement e)
lock_over d e s k m =
    let e0 : Draft = record d { statement = record d.statement { mode = m.mode } } in
    let k0 : Known e0 = record { place = k.place; named = k.named; table = k.table; there = k.there; scope = k.scope } in
    subst (λ (x : Draft). Stating (ended ends.Statement x)) (sym m.same) (statement_over e0 s.0 (suits_as e0 statement_kind.Lock k0 s.1 tt))

abbrev pub lock_list : List Symbol
lock_list = grammar.key keyword.Table ∷ grammar.name names.OtherTable ∷ grammar.key keyword.In ∷ grammar.part parts.LockMode ∷ grammar.key keyword.Mode
    ∷ grammar.sign sign.Semicolon ∷ grammar.ended ends.Statement ∷ grammar.part parts.MoreStatements ∷ []

lock_meets : (d : Draft) → Locking d → Demand lock_list Worked d
lock_meets d s = λ name at is clean. (tt, λ e m. λ clean2. (lock_over (table_came name at d) e s (known name at d clean) m, λ e2 done. done))

work_over : (d : Draft) → Stating d → Worked (ended ends.Work d)
unfolding ended
work_over d s = work_ended d s

abbrev end_list : List Symbol
end_list = grammar.key keyword.Work ∷ grammar.sign sign.Semicolon ∷ grammar.ended ends.Work ∷ grammar.part parts.MoreWorks ∷ []

end_meets : (d : Draft) → Stating d → Demand end_list Worked d
end_meets d s = λ clean. (work_over d s, λ e done. done)

pub statement_meets : (w : Word) (at : ℕ) (more : List Symbol) (d : Draft) → work_behind w ≡ Some more → Stating d → Demand more Worked (statement_came w at d)
statement_meets (word.Keyword keyword.Select) at more d h s =
    by_some select_list more (λ m. Demand m Worked (statement_came (word.Keyword keyword.Select) at d)) h (select_meets (statement_came (word.Keyword keyword.Select) at d) (s, refl, refl))
statement_meets (word.Keyword keyword.Update) at more d h s =
    by_some update_list more (λ m. Demand m Worked (statement_came (word.Keyword keyword.Update) at d)) h
    (update_meets (statement_came (word.Keyword keyword.Update) at d) (s, refl, refl) (record { sets = refl; columns = refl; code = refl }))
statement_meets (word.Keyword keyword.Delete) at more d h s =
    by_some delete_list more (λ m. Demand m Worked (statement_came (word.Keyword keyword.Delete) at d)) h (delete_meets (statement_came (word.Keyword keyword.Delete) at d) (s, refl, refl))
statement_meets (word.Keyword keyword.Insert) at more d h s =
    by_some insert_list more (λ m. Demand m Worked (statement_came (word.Keyword keyword.Insert) at d)) h (insert_meets (statement_came (word.Keyword keyword.Insert) at d) (s, refl))
statement_meets (word.Keyword keyword.Lock) at more d h s =
    by_some lock_list more (λ m. Demand m Worked (statement_came (word.Keyword keyword.Lock) at d)) h (lock_meets (statement_came (word.Keyword keyword.Lock) at d) (s, refl))
statement_meets (word.Keyword keyword.Commit) at more d h s =
    by_some end_list more (λ m. Demand m Worked (statement_came (word.Keyword keyword.Commit) at d)) h (end_meets (statement_came (word.Keyword keyword.Commit) at d) s)
statement_meets (word.Keyword keyword.Rollback) at more d h s =
    by_some end_list more (λ m. Demand m Worked (statement_came (word.Keyword keyword.Rollback) at d)) h (end_meets (statement_came (word.Keyword keyword.Rollback) at d) s)
statement_meets (word.Keyword k) at more d h s = absurd (cc (h))
statement_meets (word.Name name) at more d h s = absurd (cc (h))
statement_meets (word.Number n) at more d h s = absurd (cc (h))
statement_meets (word.Text text) at more d h s = absurd (cc (h))
statement_meets (word.Sign g) at more d h s = absurd (cc (h))

-- ---- works and sessions

pub work_meets : (w : Word) (at : ℕ) (more : List Symbol) (d : Draft) → work_behind w ≡ Some more → (work_begins w at d).first ≡ None → Working 0 d → Demand more Worked (work_begins w at d)
work_meets w at more d h clean k = statement_meets w at more (work_counted at d) h (work_step at d k (stays.statement_came_stays w at (work_counted at d) clean))

abbrev Sessions : Draft → Type 0
Sessions d = Between d × (0 < length d.sessions)

session_over : (d : Draft) → Worked d → Sessions (ended ends.Session d)
unfolding ended
session_over d w = session_ended d w.0 w.1

pub session_meets : (w : Word) (at : ℕ) (more : List Symbol) (d : Draft) → session_behind w ≡ Some more → (session_begins at d).first ≡ None → Between d → Demand more Sessions (session_begins at d)
session_meets w at more d h clean b =
    by_if (is_key w keyword.Session) _ more (λ m. Demand m Sessions (session_begins at d)) h
    (session_step at d b clean, λ e worked. λ clean2. (session_over e worked, λ e2 done. done))
