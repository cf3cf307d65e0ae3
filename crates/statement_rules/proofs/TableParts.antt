-- The parts of limits, tables, rows and LOADs keep their contracts.
use Rattle.std.proofs.Common.{◌≡◌, ◌<◌, ℕ, List, [], ◌∷◌, length, Bool, true, false, Option, Some, None, refl, sym, ap, subst, ◌∙◌, arith}
use Rattle.std.specs.Prelude.{is_some, slice_get, option_and_then, if◌then◌else◌}
use Rattle.sql_base.specs.Names.{IsName}
use Rattle.sql_base.specs.Rows.{kinds, key_kinds}
use Rattle.sql_base.specs.declared.tables.ColumnKind.TheVariants.{Int}
use Rattle.sql_base.specs.declared.tables.TableDef.{TableDef}
use Rattle.sql_base.specs.declared.values.Value.TheVariants as value
use Rattle.statement_words.specs.Spans.{IsFormedWord}
use Rattle.statement_words.specs.declared.keywords.Keyword.TheVariants as keyword
use Rattle.statement_words.specs.declared.tokens.Sign.TheVariants as sign
use Rattle.statement_words.specs.declared.tokens.Word.{Word}
use Rattle.statement_words.specs.declared.tokens.Word.TheVariants as word
use Rattle.statement_grammar.specs.WordsAt.{is_key, is_sign}
use Rattle.statement_grammar.specs.Grammar.{limit_key, limit_behind, table_behind, kind_behind, column_or_key_behind, more_keys_behind, more_checks_behind, check_behind, first_keys_behind, more_firsts_behind, row_behind, literal_behind, more_literals_behind, loads_behind, more_rows_behind}
use Rattle.statement_grammar.specs.Grammar as grammar
use Rattle.statement_grammar.specs.declared.symbols.NumberRole.TheVariants as numbers
use Rattle.statement_grammar.specs.declared.symbols.End.TheVariants as ends
use Rattle.statement_grammar.specs.declared.symbols.Limit.{Limit}
use Rattle.statement_grammar.specs.declared.symbols.Part.TheVariants as parts
use Rattle.statement_grammar.specs.declared.symbols.Symbol.{Symbol}
use Rattle.statement_draft.specs.Judging.{ended, part_came}
use Rattle.statement_draft.specs.TableEvents.{limit_came, table_begins, table_came, column_came, key_column_came, kind_came, check_begins, first_keys_begin, first_key_ends}
use Rattle.statement_draft.specs.RowEvents.{row_begins, literal_begins, number_came, negative_came, literal_came, record_counted, row_loaded, row_judged, load_row_ends}
use Rattle.statement_draft.specs.declared.draft.Draft.{Draft}
use Rattle.statement_draft.specs.declared.draft.NewRow.{NewRow}
use Rattle.statement_draft.specs.declared.draft.RowOf.{RowOf}
use Rattle.statement_draft.proofs.Clean.{limit_kept}
use Rattle.statement_rules.proofs.ExpressionSteps.{TopChanged, changed_after}
use Rattle.statement_rules.proofs.FirstSteps.{ForKeys, firsts_begin, first_step}
use Rattle.statement_rules.proofs.LoadSteps.{load_begins, load_row_read, load_row_step, load_step}
use Rattle.statement_rules.proofs.PartContracts.{Demand, by_if, by_some}
use Rattle.statement_rules.proofs.RowSteps.{fits_row, row_of_literals, RowStep, Longer, RowRead, steps, literal_step, number_step, negative_step, behind_minus}
use Rattle.statement_rules.proofs.States.{Tabling, Tabled, NextColumn, Columning, Keying, Declared, Firsting, Whole, Loading, InLoadOf}
use Rattle.statement_rules.proofs.TableSteps.{may_begin, table_named_so, column_named_so, kind_kept, width_kept, key_begins, key_kept, key_ends, table_kept}
use Rattle.statement_rules.proofs.WholeSteps.{Begun, check_step}

-- ---- limits

limit_read : (l : Limit) (n at : ℕ) (d : Draft) → (limit_came l n at d).first ≡ None → Tabling d → Tabling (limit_came l n at d)
limit_read l n at d clean t = record { limits = limit_kept l n at d clean t.limits; tables = t.tables; loads = t.loads; sessions = t.sessions; works = t.works }

pub limit_meets : (l : Limit) (w : Word) (more : List Symbol) (d : Draft) → limit_behind l w ≡ Some more → Tabling d → Demand more Tabling d
limit_meets l w more d h t = by_if (is_key w (limit_key l)) _ more (λ m. Demand m Tabling d) h (λ n at fits clean. limit_read l n at d clean t)

-- ---- tables

first_column : (at at1 at2 : ℕ) (name cname : List ℕ) (d : Draft) → Tabling d → IsName name → IsName cname → (table_begins at d).first ≡ None
    → (table_came name at1 (table_begins at d)).first ≡ None → Columning (column_came cname at2 (table_came name at1 (table_begins at d)))
first_column at at1 at2 name cname d t is is2 c0 c1 =
    let named = table_named_so name at1 (table_begins at d) is c1 (may_begin at d c0) in (
      t,
      record {
        short = named.0;
        room = named.1;
        columns = record { few = omega arith; names = tt; differ = refl; widths = tt; counted = omega arith; bytes = omega arith };
        bare = record { key = refl; checks = refl; firsts = refl; bytes = refl };
      },
    )

table_over : (d : Draft) → Whole d → Tabled (ended ends.Table d)
unfolding ended
table_over d w = table_kept d w

pub table_meets : (w : Word) (at : ℕ) (more : List Symbol) (d : Draft) → table_behind w ≡ Some more → (table_begins at d).first ≡ None → Tabling d → Demand more Tabled (table_begins at d)
table_meets w at more d h c0 t =
    by_if (is_key w keyword.Table) _ more (λ m. Demand m Tabled (table_begins at d)) h
    (λ name at1 is c1 cname at2 is2 c2. (
      (first_column at at1 at2 name cname d t is is2 c0 c1, column_named_so cname at2 (table_came name at1 (table_begins at d)) is2 c2),
      λ e columns. (columns, λ e2 declared. (declared, λ e3 whole. λ c3. (table_over e3 whole, λ e4 tabled. tabled))),
    ))

-- ( 10 )
abbrev width_of_char : List Symbol
width_of_char = grammar.sign sign.Open ∷ grammar.number numbers.Width ∷ grammar.sign sign.Close ∷ []

kind_tested : (b : Bool) (w : Word) (more : List Symbol) (d : Draft)
    → (if b then Some [] else (if is_key w keyword.Char then Some width_of_char else None)) ≡ Some more
    → (if b then kind_came Int 8 d else d).first ≡ None → Columning d → NextColumn d.table.def.columns d.table.column → Demand more Columning (if b then kind_came Int 8 d else d)
kind_tested true w more d h clean c next = by_some [] more (λ m. Demand m Columning (kind_came Int 8 d)) h (kind_kept Int 8 d tt (omega arith) clean c next)
kind_tested false w more d h clean c next =
    by_if (is_key w keyword.Char) width_of_char more (λ m. Demand m Columning d) h (λ n at fits clean2. width_kept n at d clean2 c next)

pub kind_meets : (w : Word) (at : ℕ) (more : List Symbol) (d : Draft) → kind_behind w ≡ Some more → (part_came parts.ColumnKind w at d).first ≡ None
    → Columning d → NextColumn d.table.def.columns d.table.column → Demand more Columning (part_came parts.ColumnKind w at d)
kind_meets w at more d h clean c next = kind_tested (is_key w keyword.Int) w more d h clean c next

pub column_or_key_meets : (w : Word) (at : ℕ) (more : List Symbol) (d : Draft) → IsFormedWord w → column_or_key_behind w ≡ Some more → (part_came parts.ColumnOrKey w at d).first ≡ None
    → Columning d → Demand more Declared (part_came parts.ColumnOrKey w at d)
column_or_key_meets (word.Name name) at more d f h clean c =
    by_some _ more (λ m. Demand m Declared (column_came name at d)) h ((c, column_named_so name at d f clean), λ e columns. (columns, λ e2 declared. declared))
column_or_key_meets (word.Keyword keyword.Primary) at more d f h clean c =
    by_some _ more (λ m. Demand m Declared d) h
    (λ name at2 is clean2. (key_kept name at2 0 d clean2 (key_begins d c), λ e k. (key_ends 0 e k, λ e2 declared. declared)))
column_or_key_meets (word.Keyword k) at more d f h clean c = absurd (cc (h))
column_or_key_meets (word.Number n) at more d f h clean c = absurd (cc (h))
column_or_key_meets (word.Text text) at more d f h clean c = absurd (cc (h))
column_or_key_meets (word.Sign s) at more d f h clean c = absurd (cc (h))

fewer : (d : Draft) → Keying 2 d → Keying 1 d
fewer d k = let some = k.1.some in (
  k.0,
  record {
    short = k.1.short;
    room = k.1.room;
    columns = k.1.columns;
    key = k.1.key;
    some = omega (arith, some);
    checks = k.1.checks;
    firsts = k.1.firsts;
  },
)

pub more_keys_meets : (w : Word) (more : List Symbol) (d : Draft) → more_keys_behind w ≡ Some more → Keying 1 d → Demand more (Keying 1) d
more_keys_meets w more d h k =
    by_if (is_sign w sign.Comma) _ more (λ m. Demand m (Keying 1) d) h (λ name at is clean. (fewer (key_column_came name at d) (key_kept name at 1 d clean k), λ e k2. k2))

pub more_checks_meets : (w : Word) (more : List Symbol) (d : Draft) → more_checks_behind w ≡ Some more → Declared d → Demand more Declared d
more_checks_meets w more d h dd = by_if (is_sign w sign.Comma) _ more (λ m. Demand m Declared d) h (dd, λ e d1. (d1, λ e2 d2. d2))

pub begun_more : (d e g : Draft) → Begun d e → TopChanged e g → Begun d g
begun_more d e g b c = record { place = b.place; read = changed_after _ e g b.read c }

check_over : (at : ℕ) (d e : Draft) → Declared d → (check_begins at d).first ≡ None → Begun (check_begins at d) e → (ended ends.Check e).first ≡ None → Declared (ended ends.Check e)
unfolding ended
check_over at d e dd c0 b clean = check_step at d e dd c0 b clean

pub check_meets : (w : Word) (at : ℕ) (more : List Symbol) (d : Draft) → check_behind w ≡ Some more → (check_begins at d).first ≡ None → Declared d → Demand more Declared (check_begins at d)
check_meets w at more d h c0 dd =
    by_if (is_key w keyword.Check) _ more (λ m. Demand m Declared (check_begins at d)) h
    (tt, λ e b. (tt, λ e2 c2. (tt, λ e3 c3. λ clean. check_over at d e3 dd c0 (begun_more _ e2 e3 (begun_more _ e e2 b c2) c3) clean)))

-- ---- first keys

first_over : (d e : Draft) → Firsting d → ForKeys d → RowRead d e → (ended ends.FirstKey e).first ≡ None → Firsting (ended ends.FirstKey e) × ForKeys (ended ends.FirstKey e)
unfolding ended
first_over d e h f r clean =
    let e0 : Draft = record d { row = r.row; first = r.first } in
    let clean0 : (first_key_ends e0).first ≡ None = ap (λ (x : Draft). (first_key_ends x).first) (sym r.same) ∙ clean in
    let ks = key_kinds d.table.def in
    let leading = row_of_literals ks r.row.values (subst (λ (o : RowOf). fits_row o ks r.row.values ≡ true) f.0 (r.fits ks f.1)) in
    let done = first_step e0 h (r.of ∙ f.0, r.kinds ∙ f.1) r.some leading clean0 in
    subst (λ (x : Draft). Firsting (first_key_ends x) × ForKeys (first_key_ends x)) (sym r.same) done

pub first_keys_meets : (w : Word) (more : List Symbol) (d : Draft) → first_keys_behind w ≡ Some more → Declared d → Demand more Whole (first_keys_begin d)
first_keys_meets w more d h dd =
    let b = firsts_begin d dd in
    by_if (is_key w keyword.First) _ more (λ m. Demand m Whole (first_keys_begin d)) h
    (tt, λ e r. λ clean. (first_over (first_keys_begin d) e b.0 b.1 r clean, λ e2 whole. whole))

pub more_firsts_meets : (w : Word) (more : List Symbol) (d : Draft) → more_firsts_behind w ≡ Some more → Firsting d → ForKeys d → Demand more Whole d
more_firsts_meets w more d h f k =
    by_if (is_sign w sign.Comma) _ more (λ m. Demand m Whole d) h (tt, λ e r. λ clean. (first_over d e f k r clean, λ e2 whole. whole))

-- ---- rows

row_read : (at : ℕ) (d e g : Draft) → Longer (row_begins at d) e → RowStep e g → RowRead d g
row_read at d e g l s =
    let t = steps (row_begins at d) e g l.step s in
    let is : e.row ≡ l.step.row = ap (λ (x : Draft). x.row) l.step.same in
    let long : length e.row.values ≡ length l.step.row.values = ap (λ (r : NewRow). length r.values) is in
    let one = l.one in
    let more = s.more in
    record {
      row = t.row;
      first = t.first;
      same = t.same;
      of = t.of;
      kinds = t.kinds;
      some = omega (arith, long, one, more);
      fits = λ ks k. t.fits ks k refl;
    }

pub row_meets : (w : Word) (at : ℕ) (more : List Symbol) (d : Draft) → row_behind w ≡ Some more → Demand more (RowRead d) (row_begins at d)
row_meets w at more d h = by_if (is_sign w sign.Open) _ more (λ m. Demand m (RowRead d) (row_begins at d)) h (tt, λ e l. (tt, λ g s. row_read at d e g l s))

pub literal_meets : (w : Word) (at : ℕ) (more : List Symbol) (d : Draft) → IsFormedWord w → literal_behind w ≡ Some more → (literal_begins w at d).first ≡ None
    → Demand more (Longer d) (literal_begins w at d)
literal_meets (word.Number n) at more d f h clean = by_some [] more (λ m. Demand m (Longer d) (number_came n at d)) h (number_step n at d clean)
literal_meets (word.Text text) at more d f h clean = by_some [] more (λ m. Demand m (Longer d) (literal_came (value.Text text) at d)) h (literal_step (value.Text text) at d f.1 clean)
literal_meets (word.Sign sign.Minus) at more d f h clean =
    let d1 : Draft = record d { row = record d.row { minus = at } } in
    by_some _ more (λ m. Demand m (Longer d) d1) h (λ n at2 le clean2. behind_minus d at (negative_came n d1) (negative_step n d1 clean2))
literal_meets (word.Sign s) at more d f h clean = absurd (cc (h))
literal_meets (word.Keyword k) at more d f h clean = absurd (cc (h))
literal_meets (word.Name name) at more d f h clean = absurd (cc (h))

pub more_literals_meets : (w : Word) (more : List Symbol) (d : Draft) → more_literals_behind w ≡ Some more → Demand more (RowStep d) d
more_literals_meets w more d h = by_if (is_sign w sign.Comma) _ more (λ m. Demand m (RowStep d) d) h (tt, λ e l. (tt, λ g s. steps d e g l.step s))

-- ---- LOADs

loading_kept : (o : Option TableDef) (c : Draft) → Loading c → Loading (row_judged o c)
loading_kept None c l = l
loading_kept (Some table) c l = by_fault (is_some c.first)
  where
    by_fault : (b : Bool) → Loading (if b then c else row_loaded table c)
    by_fault true = l
    by_fault false = l

abbrev Rows : Draft → Type 0
Rows d = Loading d × InLoadOf d × (0 < length d.load.rows)

row_over : (d e : Draft) → Loading d → InLoadOf d → RowRead d e → (ended ends.LoadRow e).first ≡ None → Rows (ended ends.LoadRow e)
unfolding ended
row_over d e l h r clean =
    let e0 : Draft = record d { row = r.row; first = r.first } in
    let clean0 : (load_row_ends e0).first ≡ None = ap (λ (x : Draft). (load_row_ends x).first) (sym r.same) ∙ clean in
    let h0 : InLoadOf e0 = load_row_read d r.row r.first r.of r.kinds h in
    let fits : fits_row e0.row.of (kinds h0.table) e0.row.values ≡ true =
    subst (λ (o : RowOf). fits_row o (kinds h.table) r.row.values ≡ true) (sym r.of) (r.fits (kinds h.table) h.kinds) in
    let done = load_row_step e0 h0 fits clean0 in
    let still : Loading (load_row_ends e0) = loading_kept (option_and_then (slice_get e0.tables) e0.load.table) (record_counted e0.row.at e0) l in
    subst (λ (x : Draft). Rows (load_row_ends x)) (sym r.same) (still, done.0, done.1)

load_over : (d : Draft) → Rows d → Loading (ended ends.Load d)
unfolding ended
load_over d r = load_step d r.0 r.1 r.2

pub loads_meets : (w : Word) (more : List Symbol) (d : Draft) → loads_behind w ≡ Some more → Loading d → Demand more Loading d
loads_meets w more d h l =
    by_if (is_key w keyword.Load) _ more (λ m. Demand m Loading d) h
    (λ name at is clean. (tt, λ e r. λ clean2. (row_over _ e l (load_begins name at d clean) r clean2, λ e2 rows. λ clean3. (load_over e2 rows, λ e3 l3. l3))))

pub more_rows_meets : (w : Word) (more : List Symbol) (d : Draft) → more_rows_behind w ≡ Some more → Rows d → Demand more Rows d
more_rows_meets w more d h r =
    by_if (is_sign w sign.Comma) _ more (λ m. Demand m Rows d) h (tt, λ e read. λ clean. (row_over d e r.0 r.1 read clean, λ e2 rows. rows))
