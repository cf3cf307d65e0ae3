-- The LOAD rows of a table are records of it, and what they make.
use Rattle.std.proofs.Common.{◌≡◌, ◌<◌, ◌+◌, ℕ, zero, suc, List, [], ◌∷◌, ◌++◌, length, map, take, get_or, Bool, true, false, not, cond, eqb, Option, Some, refl, ap, sym, ◌∙◌, subst, arith}
use Rattle.std.specs.Prelude.{nat_eq, slice_get, ◌==◌, IfSome}
use Rattle.std.specs.List.{AllByRecursion, list_any, range_with_len}
use Rattle.std.proofs.lemmas.Bool.{and_parts, eqb-true, or_parts}
use Rattle.std.proofs.lemmas.List.{append-nil}
use Rattle.sql_base.specs.Keys.{Rise}
use Rattle.sql_base.specs.Rows.{key_of, AreRecords, IsRow}
use Rattle.sql_base.specs.Scripts.{IsLoad, IsScript}
use Rattle.sql_base.specs.Tables.{all_differ}
use Rattle.sql_base.specs.declared.scripts.Load.{Load}
use Rattle.sql_base.specs.declared.scripts.Script.{Script}
use Rattle.sql_base.specs.declared.tables.TableDef.{TableDef}
use Rattle.sql_base.specs.declared.values.Value.{Value}
use Rattle.one_thread.specs.Scaffold.Cells.{before_of, befores, now_of, nows, AreCells, IsKeyed}
use Rattle.one_thread.specs.Scaffold.Loading.{cell_of, Opens}
use Rattle.one_thread.specs.One.{load_rows, Records}
use Rattle.one_thread.specs.Scaffold.Worlds.{AreAll}
use Rattle.one_thread.specs.declared.cells.Cell.{Cell}
use Rattle.one_thread.proofs.Rising.{keys}
use Rattle.one_thread.proofs.Spots.{row-length}
use Rattle.sql_base.proofs.Truths.{eqb-swapped, not-true}
use Rattle.sql_base.proofs.ListFacts.{map-push}

-- ---- the LOAD rows

-- the rows of no LOAD
pub no_load : (loads : List Load) (n : ℕ) → list_any (nat_eq n) (map (λ load. load.table) loads) ≡ false → load_rows loads n ≡ []
no_load [] n h = refl
no_load (load ∷ loads) n h =
    let parts = or_parts (eqb n load.table) (list_any (nat_eq n) (map (λ l. l.table) loads)) h in
    rw (eqb-swapped n load.table parts.0) (no_load loads n parts.1)

pub load_by : (tables : List TableDef) (load : Load) (loads : List Load) (n : ℕ) (table : TableDef) (b : Bool) → (load.table == n) ≡ b → slice_get tables n ≡ Some table → IsLoad tables load
    → list_any (nat_eq load.table) (map (λ l. l.table) loads) ≡ false → AreRecords table (load_rows loads n) → AreRecords table ((cond b load.rows []) ++ load_rows loads n)
load_by tables load loads n table true e is h differ rest =
    let at : load.table ≡ n = eqb-true load.table n e in
    let none : load_rows loads n ≡ [] = no_load loads n (subst (λ m. list_any (nat_eq m) (map (λ l. l.table) loads) ≡ false) at differ) in
    let found : slice_get tables n ≡ Some h.0 = ap (slice_get tables) (sym at) ∙ h.1 in
    let same : h.0 ≡ table = cc (sym found ∙ is) in
    subst (AreRecords table) (sym (ap (λ l. load.rows ++ l) none ∙ append-nil load.rows)) (subst (λ t. AreRecords t load.rows) same h.3)
load_by tables load loads n table false e is h differ rest = rest

-- the LOAD rows of a table are records of it
pub load-records : (tables : List TableDef) (loads : List Load) (n : ℕ) (table : TableDef) → slice_get tables n ≡ Some table → AllByRecursion (IsLoad tables) loads → all_differ nat_eq (map (λ load. load.table) loads) ≡ true
    → AreRecords table (load_rows loads n)
load-records tables [] n table is h differ = (tt, tt)
load-records tables (load ∷ loads) n table is h differ =
    let parts = and_parts (not (list_any (nat_eq load.table) (map (λ l. l.table) loads))) (all_differ nat_eq (map (λ l. l.table) loads)) differ in
    load_by tables load loads n table (load.table == n) refl is h.0 (not-true (list_any (nat_eq load.table) (map (λ l. l.table) loads)) parts.0) (load-records tables loads n table is h.1 parts.1)

-- ---- the cells of rows

rows_of : (table : TableDef) (rows : Records) → nows (map (cell_of table) rows) ≡ rows
rows_of table [] = refl
rows_of table (row ∷ rows) = ap (λ rs. row ∷ rs) (rows_of table rows)

rows_before : (table : TableDef) (rows : Records) → befores (map (cell_of table) rows) ≡ rows
rows_before table [] = refl
rows_before table (row ∷ rows) = ap (λ rs. row ∷ rs) (rows_before table rows)

keys_of : (table : TableDef) (rows : Records) → keys (map (cell_of table) rows) ≡ map (key_of table) rows
keys_of table [] = refl
keys_of table (row ∷ rows) = ap (λ ks. key_of table row ∷ ks) (keys_of table rows)

keyed : (table : TableDef) (rows : Records) → AllByRecursion (IsRow table) rows → AllByRecursion (λ cell. IfSome (now_of cell) (IsKeyed table cell.key)) (map (cell_of table) rows)
keyed table [] h = tt
keyed table (row ∷ rows) h = ((refl, row-length table row h.0), keyed table rows h.1)

keyed_before : (table : TableDef) (rows : Records) → AllByRecursion (IsRow table) rows → AllByRecursion (λ cell. IfSome (before_of cell) (IsKeyed table cell.key)) (map (cell_of table) rows)
keyed_before table [] h = tt
keyed_before table (row ∷ rows) h = ((refl, row-length table row h.0), keyed_before table rows h.1)

-- ---- one table more

all_push : (row_of : Cell → Option (List Value)) (tables : List TableDef) (world : List (List Cell)) (table : TableDef) (cells : List Cell) → AreAll row_of tables world → AreCells table row_of cells → AreAll row_of (tables ++ table ∷ []) (world ++ cells ∷ [])
all_push row_of [] [] table cells are is = (is, tt)
all_push row_of (t ∷ tables) (cs ∷ world) table cells are is = (are.0, all_push row_of tables world table cells are.1 is)
all_push row_of [] (cs ∷ world) table cells are is = absurd are
all_push row_of (t ∷ tables) [] table cells are is = absurd are

take_push : {A : Type 0} (xs : List A) (i : ℕ) (d : A) → i < length xs → take (suc i) xs ≡ take i xs ++ get_or xs i d ∷ []
take_push [] i d lt = absurd (omega arith)
take_push (x ∷ xs) zero d lt = refl
take_push (x ∷ xs) (suc i) d lt = ap (λ ys. x ∷ ys) (take_push xs i d (omega arith))

range_push : (a n : ℕ) → range_with_len a (suc n) ≡ range_with_len a n ++ (a + n) ∷ []
range_push a zero = ap (λ k. k ∷ []) (omega arith)
range_push a (suc n) = ap (λ ks. a ∷ ks) (range_push (a + 1) n ∙ ap (λ k. range_with_len (a + 1) n ++ k ∷ []) (omega arith))

get_at : {A : Type 0} (xs : List A) (i : ℕ) (d : A) → i < length xs → slice_get xs i ≡ Some (get_or xs i d)
get_at [] i d lt = absurd (omega arith)
get_at (x ∷ xs) zero d lt = refl
get_at (x ∷ xs) (suc i) d lt = get_at xs i d (omega arith)

pub opens : (script : Script) (i : ℕ) (d : TableDef) (world : List (List Cell)) (cells : List Cell) → IsScript script → i < length script.tables → Opens script i world → cells ≡ map (cell_of (get_or script.tables i d)) (load_rows script.loads i)
    → Opens script (i + 1) (world ++ cells ∷ [])
opens script i d world cells is lt so_far made =
    let table = get_or script.tables i d in
    let rows = load_rows script.loads i in
    let next : suc i ≡ i + 1 = omega arith in
    let are = load-records script.tables script.loads i table (get_at script.tables i d lt) is.loads is.loads_differ in
    let rise : Rise (keys (map (cell_of table) rows)) = subst Rise (sym (keys_of table rows)) are.1 in
    let now : AreCells table now_of cells = subst (AreCells table now_of) (sym made) (record { rise = rise; keyed = keyed table rows are.0 }) in
    let before : AreCells table before_of cells = subst (AreCells table before_of) (sym made) (record { rise = rise; keyed = keyed_before table rows are.0 }) in
    let tables : take (i + 1) script.tables ≡ take i script.tables ++ table ∷ [] = ap (λ n. take n script.tables) (sym next) ∙ take_push script.tables i d lt in
    let range : range_with_len 0 (i + 1) ≡ range_with_len 0 i ++ i ∷ [] = ap (range_with_len 0) (sym next) ∙ range_push 0 i ∙ ap (λ k. range_with_len 0 i ++ k ∷ []) (omega arith) in
    let its : nows cells ≡ rows = ap nows made ∙ rows_of table rows in
    record {
      records = map-push nows world cells ∙ ap (λ rs. rs ++ nows cells ∷ []) so_far.records ∙ ap (λ r. map (load_rows script.loads) (range_with_len 0 i) ++ r ∷ []) its
          ∙ sym (ap (map (load_rows script.loads)) range ∙ map-push (load_rows script.loads) (range_with_len 0 i) i);
      settled = record {
        now = subst (λ ts. AreAll now_of ts (world ++ cells ∷ [])) (sym tables) (all_push now_of (take i script.tables) world table cells so_far.settled.now now);
        before = subst (λ ts. AreAll before_of ts (world ++ cells ∷ [])) (sym tables) (all_push before_of (take i script.tables) world table cells so_far.settled.before before);
        same = map-push befores world cells ∙ ap (λ rs. rs ++ befores cells ∷ []) so_far.settled.same ∙ ap (λ r. map nows world ++ r ∷ []) (ap befores made ∙ rows_before table rows ∙ sym its) ∙ sym (map-push nows world cells);
      };
    }
