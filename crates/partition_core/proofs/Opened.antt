-- A partition as it begins.
use Rattle.std.proofs.Common.{◌≡◌, ◌<◌, ◌+◌, ℕ, zero, suc, List, [], ◌∷◌, ◌++◌, length, map, take, get_or, true, None, refl, ap, sym, ◌∙◌, subst, arith}
use Rattle.std.specs.Prelude.{replicate}
use Rattle.std.specs.List.{AllByRecursion}
use Rattle.std.specs.Ordering.{nat_cmp}
use Rattle.std.specs.Cmp.Lexicographic.{slice_cmp}
use Rattle.std.proofs.lemmas.List.{map-append, take_more}
use Rattle.sql_base.specs.Keys.{key_lt, Rise}
use Rattle.sql_base.specs.Rows.{AreRecords, IsRow, key_of, key_width, kinds}
use Rattle.sql_base.specs.Scripts.{AreLimits}
use Rattle.sql_base.specs.Tables.{IsTable, first_keys}
use Rattle.sql_base.specs.declared.scripts.Limits.{Limits}
use Rattle.sql_base.specs.declared.tables.ColumnKind.{ColumnKind}
use Rattle.sql_base.specs.declared.tables.TableDef.{TableDef}
use Rattle.sql_base.specs.declared.values.Value.{Value}
use Rattle.key_sequenced.specs.Cells.{AreCells, find_cell}
use Rattle.key_sequenced.specs.declared.Cell.{Cell}
use Rattle.quantum_core.proofs.Windows.{Ascends, Ascends-from_rise}
use Rattle.sync_messages.specs.Openers.{new_seat}
use Rattle.partition_state.specs.State.{new_cell, opening}
use Rattle.partition_laws.specs.Keeping.{CellHas}
use Rattle.partition_laws.proofs.Steps.{Keeps-opening}
use Rattle.partition_core.specs.Scaffold.Contents.{Parts, IsRowAt, IsSeat, IsServing, kept_of}
use Rattle.partition_core.specs.Kept.{opened_with}
use Rattle.sql_base.proofs.Orderings.{less-differs}

-- nothing served yet
abbrev pub new_parts : TableDef → ℕ → Limits → ℕ → List ColumnKind → List (List ℕ) → List (List Value) → List Cell → Parts
new_parts table place limits width kinds firsts rows cells =
    record { table = table; place = place; limits = limits; width = width; kinds = kinds; firsts = firsts; rows = rows; cells = cells; locks = []; blocks = []; seats = replicate 8 new_seat; ended = replicate 8 0; lives = []; high = 0; history = [] }

rows-new : (table : TableDef) (rows : List (List Value)) → AllByRecursion (IsRow table) rows → AllByRecursion (CellHas (IsRowAt table)) (map (new_cell table) rows)
rows-new table [] h = tt
rows-new table (row ∷ rows) h = ((h.0, tt), rows-new table rows h.1)

seat-new : IsSeat [] new_seat
seat-new = record { place = tt; last = omega arith; unmarked = λ _. refl }

pub kept-new : (table : TableDef) (place : ℕ) (limits : Limits) (width : ℕ) (ks : List ColumnKind) (firsts : List (List ℕ)) (rows : List (List Value)) → kept_of (new_parts table place limits width ks firsts rows (map (new_cell table) rows)) ≡ opened_with (opening table place limits rows)
kept-new table place limits width ks firsts rows = refl

pub IsServing-new : (table : TableDef) (place : ℕ) (limits : Limits) (rows : List (List Value)) → IsTable table → AreLimits limits → AreRecords table rows
    → IsServing (new_parts table place limits (key_width table) (kinds table) (first_keys table) rows (map (new_cell table) rows))
IsServing-new table place limits rows is_table are_limits are_rows =
    record {
      replayed = record { legal = tt; replayed = refl };
      formed = record { table = is_table; limits = are_limits; width = refl; kinds = refl; firsts = refl };
      keeps = Keeps-opening table place limits rows are_rows.1;
      rows = record { rows = rows-new table rows are_rows.0; works = tt };
      works = tt;
      seats = (seat-new, (seat-new, (seat-new, (seat-new, (seat-new, (seat-new, (seat-new, (seat-new, tt))))))));
      eight = refl;
      eight_ended = refl;
    }

all-last : (key : List ℕ) (cells : List Cell) (c : Cell) → AllByRecursion (λ other. key_lt key other.key ≡ true) (cells ++ c ∷ []) → key_lt key c.key ≡ true
all-last key [] c h = h.0
all-last key (x ∷ cells) c h = all-last key cells c h.1

below-last : (cells : List Cell) (c : Cell) → Ascends (cells ++ c ∷ []) → AllByRecursion (λ x. key_lt x.key c.key ≡ true) cells
below-last [] c h = tt
below-last (x ∷ cells) c h = (all-last x.key cells c h.0, below-last cells c h.1)

-- the cells before the last of rising ones are below it
pub below : (cells : List Cell) (c : Cell) → AreCells (cells ++ c ∷ []) → AllByRecursion (λ x. key_lt x.key c.key ≡ true) cells
below cells c h = below-last cells c (Ascends-from_rise (cells ++ c ∷ []) h)

pub none-below : (key : List ℕ) (cells : List Cell) → AllByRecursion (λ x. key_lt x.key key ≡ true) cells → find_cell key cells ≡ None
none-below key [] h = refl
none-below key (x ∷ cells) h = rw (less-differs (slice_cmp nat_cmp x.key key) h.0) (none-below key cells h.1)

rise-take : (table : TableDef) (n : ℕ) (rows : List (List Value)) → Rise (map (key_of table) rows) → AreCells (map (new_cell table) (take n rows))
rise-take table zero rows h = tt
rise-take table (suc n) [] h = tt
rise-take table (suc zero) (row ∷ rows) h = tt
rise-take table (suc (suc n)) (row ∷ []) h = tt
rise-take table (suc (suc n)) (row ∷ other ∷ rows) h = (h.0, rise-take table (suc n) (other ∷ rows) h.1)

-- one more row of rising ones
pub map-more : {A B : Type 0} (f : A → B) (xs : List A) (i : ℕ) (x : A) → i < length xs → x ≡ get_or xs i x → map f (take (i + 1) xs) ≡ map f (take i xs) ++ f x ∷ []
map-more f xs i x lt is = ap (map f) (take_more xs i x lt ∙ ap (λ y. take i xs ++ y ∷ []) (sym is)) ∙ map-append f (take i xs) (x ∷ [])

pub rise-more : (table : TableDef) (rows : List (List Value)) (i : ℕ) (row : List Value) → i < length rows → row ≡ get_or rows i row → Rise (map (key_of table) rows) → AreCells (map (new_cell table) (take i rows) ++ new_cell table row ∷ [])
rise-more table rows i row lt is h = subst AreCells (map-more (new_cell table) rows i row lt is) (rise-take table (i + 1) rows h)
