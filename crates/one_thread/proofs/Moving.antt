-- One statement in a world of tables, and the end of a transaction.
use Rattle.std.proofs.Common.{◌≡◌, ◌<◌, ℕ, zero, suc, List, [], ◌∷◌, length, map, get_or, Bool, true, false, Option, Some, refl, ap, sym, ◌∙◌, subst, arith}
use Rattle.std.specs.Prelude.{slice_get, slice_set, unwrap_or, Result, Ok, Err, IfSome}
use Rattle.std.specs.List.{AllByRecursion, cons_option, filter_map}
use Rattle.sql_base.specs.Keys.{Rise}
use Rattle.sql_base.specs.Tables.{table_of}
use Rattle.sql_base.specs.declared.outcomes.Abort.{Abort}
use Rattle.sql_base.specs.declared.outcomes.Given.{Given}
use Rattle.sql_base.specs.declared.statements.Statement.{Statement}
use Rattle.sql_base.specs.declared.tables.TableDef.{TableDef}
use Rattle.sql_base.specs.declared.values.Value.{Value}
use Rattle.one_thread.specs.One.{on_table, one, one_on, Done, World}
use Rattle.one_thread.specs.Scaffold.Cells.{before_of, befores, ended, now_of, nows, AreCells, IsKeyed}
use Rattle.one_thread.specs.Scaffold.Statements.{Does, Restorable}
use Rattle.one_thread.specs.Scaffold.Worlds.{world_of, AreAll, Keeps, Moves, Settled}
use Rattle.one_thread.specs.declared.cells.Cell.{Cell}
use Rattle.one_thread.proofs.Rising.{keys}
use Rattle.sql_base.proofs.ListFacts.{map_set}

-- ---- tables at a place

pub all_at : (row_of : Cell → Option (List Value)) (tables : List TableDef) (world : List (List Cell)) (t : ℕ) (table : TableDef) (d : List Cell) → AreAll row_of tables world → slice_get tables t ≡ Some table → (t < length world) × AreCells table row_of (get_or world t d)
all_at row_of [] world t table d are at = absurd cc
all_at row_of (x ∷ tables) [] t table d are at = absurd are
all_at row_of (x ∷ tables) (cells ∷ world) zero table d are at = let same : x ≡ table = cc in (omega arith, subst (λ y. AreCells y row_of cells) same are.0)
all_at row_of (x ∷ tables) (cells ∷ world) (suc t) table d are at = let rest = all_at row_of tables world t table d are.1 at in (omega (arith, rest.0), rest.1)

pub all_set : (row_of : Cell → Option (List Value)) (tables : List TableDef) (world : List (List Cell)) (t : ℕ) (table : TableDef) (new : List Cell) → AreAll row_of tables world → slice_get tables t ≡ Some table → AreCells table row_of new → AreAll row_of tables (slice_set world t new)
all_set row_of [] world t table new are at is = absurd cc
all_set row_of (x ∷ tables) [] t table new are at is = absurd are
all_set row_of (x ∷ tables) (cells ∷ world) zero table new are at is = let same : x ≡ table = cc in (subst (λ y. AreCells y row_of new) (sym same) is, are.1)
all_set row_of (x ∷ tables) (cells ∷ world) (suc t) table new are at is = (are.0, all_set row_of tables world t table new are.1 at is)

map_get : {A B : Type 0} (f : A → B) (xs : List A) (i : ℕ) (d : A) → i < length xs → slice_get (map f xs) i ≡ Some (f (get_or xs i d))
map_get f [] i d lt = absurd (omega arith)
map_get f (y ∷ ys) zero d lt = refl
map_get f (y ∷ ys) (suc i) d lt = map_get f ys i d (omega arith)

set_same : {A B : Type 0} (f : A → B) (xs : List A) (i : ℕ) (d x : A) → i < length xs → f x ≡ f (get_or xs i d) → map f (slice_set xs i x) ≡ map f xs
set_same f [] i d x lt e = refl
set_same f (y ∷ ys) zero d x lt e = ap (λ z. z ∷ map f ys) e
set_same f (y ∷ ys) (suc i) d x lt e = ap (λ zs. f y ∷ zs) (set_same f ys i d x (omega arith) e)

-- ---- one statement

kept : (tables : List TableDef) (world : List (List Cell)) (t : ℕ) (table : TableDef) (d new : List Cell) → t < length world → slice_get tables t ≡ Some table → Restorable table (get_or world t d) new → Keeps tables world (slice_set world t new)
kept tables world t table d new lt at is = record {
  before = set_same befores world t d new lt is.before;
  keeps = λ are. all_set before_of tables world t table new are at (is.keeps (all_at before_of tables world t table d are at).1);
}

pub moves : (tables : List TableDef) (s : Statement) (world : List (List Cell)) (table : TableDef) (d new : List Cell) (came : Result Given Abort) → slice_get tables (table_of s) ≡ Some table → AreAll now_of tables world → Does table s (get_or world (table_of s) d) new came
    → Moves tables s world (slice_set world (table_of s) new) came
moves tables s world table d new (Ok given) at are done =
    let t = table_of s in
    let here = all_at now_of tables world t table d are at in
    let w : World = world_of tables world in
    let found : unwrap_or (slice_get w.records t) [] ≡ nows (get_or world t d) = ap (λ o. unwrap_or o []) (map_get nows world t d here.0) in
    let on : one w s ≡ (let result = one_on table s (nows (get_or world t d)) in (result.given, record w { records = slice_set w.records t result.records })) =
    ap (on_table w s) at ∙ ap {B = Result Given Abort × World} (λ rows. let result = one_on table s rows in (result.given, record w { records = slice_set w.records t result.records })) found in
    let comes : one w s ≡ (Ok given, record w { records = slice_set w.records t (nows new) }) = on ∙ ap {B = Result Given Abort × World} (λ (result : Done). (result.given, record w { records = slice_set w.records t result.records })) done.0 in (
      comes ∙ ap {B = Result Given Abort × World} (λ records. (Ok given, record { tables = tables; records = records })) (sym (map_set nows world t new)),
      all_set now_of tables world t table new are at done.1,
      kept tables world t table d new here.0 at done.2,
    )
moves tables s world table d new (Err abort) at are done =
    let t = table_of s in
    let here = all_at now_of tables world t table d are at in
    let w : World = world_of tables world in
    let found : unwrap_or (slice_get w.records t) [] ≡ nows (get_or world t d) = ap (λ o. unwrap_or o []) (map_get nows world t d here.0) in
    (ap (λ o. (on_table w s o).0) at ∙ ap (λ rows. (one_on table s rows).given) found ∙ done.0, kept tables world t table d new here.0 at done.1)

-- ---- the end of a transaction

-- what stands at a cell after it
abbrev pub view : Bool → Cell → Option (List Value)
view true cell = now_of cell
view false cell = before_of cell

ended-now : (b : Bool) (cell : Cell) → now_of (ended b cell) ≡ view b cell
ended-now true cell = refl
ended-now false cell = refl

ended-before : (b : Bool) (cell : Cell) → before_of (ended b cell) ≡ view b cell
ended-before true cell = refl
ended-before false cell = refl

ended-key : (b : Bool) (cell : Cell) → (ended b cell).key ≡ cell.key
ended-key true cell = refl
ended-key false cell = refl

module _ (b : Bool) (row_of : Cell → Option (List Value)) (same : (cell : Cell) → row_of (ended b cell) ≡ view b cell) where
  ended_rows : (cells : List Cell) → filter_map row_of (map (ended b) cells) ≡ filter_map (view b) cells
  ended_rows [] = refl
  ended_rows (c ∷ cells) = ap (λ o. cons_option o (filter_map row_of (map (ended b) cells))) (same c) ∙ ap (cons_option (view b c)) (ended_rows cells)

  ended_keys : (cells : List Cell) → keys (map (ended b) cells) ≡ keys cells
  ended_keys [] = refl
  ended_keys (c ∷ cells) = ap (λ k. k ∷ keys (map (ended b) cells)) (ended-key b c) ∙ ap (λ ks. c.key ∷ ks) (ended_keys cells)

  ended_keyed : (table : TableDef) (cells : List Cell) → AllByRecursion (λ c. IfSome (view b c) (IsKeyed table c.key)) cells → AllByRecursion (λ c. IfSome (row_of c) (IsKeyed table c.key)) (map (ended b) cells)
  ended_keyed table [] h = tt
  ended_keyed table (c ∷ cells) h =
      (subst (λ k. IfSome (row_of (ended b c)) (IsKeyed table k)) (sym (ended-key b c)) (subst (λ o. IfSome o (IsKeyed table c.key)) (sym (same c)) h.0), ended_keyed table cells h.1)

  pub ended_all : (tables : List TableDef) (world : List (List Cell)) → AreAll (view b) tables world → AreAll row_of tables (map (map (ended b)) world)
  ended_all [] [] are = tt
  ended_all (table ∷ tables) (cells ∷ world) are =
      (record { rise = subst Rise (sym (ended_keys cells)) are.0.rise; keyed = ended_keyed table cells are.0.keyed }, ended_all tables world are.1)
  ended_all [] (cells ∷ world) are = absurd are
  ended_all (table ∷ tables) [] are = absurd are

  pub ended_worlds : (world : List (List Cell)) → map (filter_map row_of) (map (map (ended b)) world) ≡ map (filter_map (view b)) world
  ended_worlds [] = refl
  ended_worlds (cells ∷ world) = ap (λ rows. rows ∷ map (filter_map row_of) (map (map (ended b)) world)) (ended_rows cells) ∙ ap (λ rest. filter_map (view b) cells ∷ rest) (ended_worlds world)

pub settled : (b : Bool) (tables : List TableDef) (world : List (List Cell)) → AreAll (view b) tables world → Settled tables (map (map (ended b)) world)
settled b tables world are = record {
  now = ended_all b now_of (ended-now b) tables world are;
  before = ended_all b before_of (ended-before b) tables world are;
  same = ended_worlds b before_of (ended-before b) world ∙ sym (ended_worlds b now_of (ended-now b) world);
}

-- the world after a commit, and after a rollback
pub after_commit : (world : List (List Cell)) → map nows (map (map (ended true)) world) ≡ map nows world
after_commit world = ended_worlds true now_of (ended-now true) world

pub after_undo : (world : List (List Cell)) → map nows (map (map (ended false)) world) ≡ map befores world
after_undo world = ended_worlds false now_of (ended-now false) world
