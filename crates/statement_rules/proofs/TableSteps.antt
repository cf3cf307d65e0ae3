-- What the words of a table leave.
use Rattle.std.proofs.Common.{◌≡◌, ◌≤◌, ◌<◌, ◌+◌, ℕ, min, not, ◌&&◌, ◌||◌, List, [], ◌∷◌, ◌++◌, length, Bool, true, false, Option, Some, None, refl, sym, ap, subst, ◌∙◌, arith}
use Rattle.std.specs.Prelude.{nat_eq, nat_lt, nat_le, is_some, sum_by, slice_get, if◌then◌else◌}
use Rattle.std.specs.List.{AllByRecursion, list_any}
use Rattle.std.proofs.lemmas.Bool.Decides.{nat_tests}
use Rattle.std.proofs.lemmas.List.{length-append, map-append}
use Rattle.std.proofs.lemmas.List.Sums.{sum_by-append}
use Rattle.sql_base.specs.Kinds.{OfTruth, IsExpr}
use Rattle.sql_base.specs.Names.{IsName, IsShortName}
use Rattle.sql_base.specs.Rows.{width, chosen}
use Rattle.sql_base.specs.Scripts.{parts_of}
use Rattle.sql_base.specs.Tables.{IsTable, IsWidth}
use Rattle.sql_base.specs.declared.tables.Column.{Column}
use Rattle.sql_base.specs.declared.tables.ColumnKind.{ColumnKind}
use Rattle.sql_base.specs.declared.tables.ColumnKind.TheVariants.{Char}
use Rattle.sql_base.specs.declared.tables.TableDef.{TableDef}
use Rattle.statement_draft.specs.Faults.{noted}
use Rattle.statement_draft.specs.Names.{is_long, is_wide, column_named, table_named}
use Rattle.statement_draft.specs.TableEvents.{table_begins, table_came, column_came, kind_came, width_came, added_up_to, column_bytes, key_column_found, key_column_came, table_ends}
use Rattle.statement_draft.specs.declared.faults.Reason.TheVariants.{NumberTooWide, UnknownName, Repeated, OverLimit}
use Rattle.statement_draft.specs.declared.draft.Draft.{Draft}
use Rattle.statement_draft.proofs.Clean.{noted-none, lies}
use Rattle.statement_rules.proofs.Listing.{place_within, below, key_more, key_differs}
use Rattle.statement_rules.proofs.Listing.{bytes_more}
use Rattle.statement_rules.proofs.Differing.{columns_differ, tables_differ}
use Rattle.statement_rules.proofs.States.{TablesSound, Tabled, Room, kinds_in, ColumnsSound, NextColumn, InColumns, Columning, KeySound, Keying, Declared, Whole}
use Rattle.sql_base.proofs.Truths.{not-false, or_left, or_right, plus-none, none-is}
use Rattle.sql_base.proofs.ListFacts.{all-push}

pub short_name : (name : List ℕ) → IsName name → is_long name ≡ false → IsShortName name
short_name name is h = record { name = is; short = grind (arith, nat_tests, h) }

-- TABLE: there is room for one
pub record MayBegin (tables : List TableDef) : Type 0 where
  pub few : length tables < 4
  pub parts : parts_of tables < 16

pub may_begin : (at : ℕ) (d : Draft) → (table_begins at d).first ≡ None → MayBegin d.tables
may_begin at d h =
    let no = (noted-none (nat_le 4 (length d.tables) || nat_le 16 (parts_of d.tables)) OverLimit at d.first h).0 in
    let few = or_left (nat_le 4 (length d.tables)) (nat_le 16 (parts_of d.tables)) no in
    let parts = or_right (nat_le 4 (length d.tables)) (nat_le 16 (parts_of d.tables)) no in
    record { few = grind (arith, nat_tests, few); parts = grind (arith, nat_tests, parts) }

-- its name
pub table_named_so : (name : List ℕ) (at : ℕ) (d : Draft) → IsName name → (table_came name at d).first ≡ None → MayBegin d.tables → IsShortName name × Room d.tables name 0
table_named_so name at d is h m =
    let inner = noted (is_long name) OverLimit at d.first in
    let outer = noted-none (is_some (table_named d.tables name)) Repeated at inner h in
    let few = m.few in
    let parts = m.parts in (
      short_name name is (noted-none (is_long name) OverLimit at d.first outer.1).0,
      record { new = none-is (table_named d.tables name) outer.0; few = m.few; parts = omega (arith, parts) },
    )

-- the name of a column
pub column_named_so : (name : List ℕ) (at : ℕ) (d : Draft) → IsName name → (column_came name at d).first ≡ None → NextColumn d.table.def.columns name
column_named_so name at d is h =
    let columns = d.table.def.columns in
    let full = is_long name || nat_le 32 (length columns) in
    let inner = noted full OverLimit at d.first in
    let outer = noted-none (is_some (column_named columns name)) Repeated at inner h in
    let fits = (noted-none full OverLimit at d.first outer.1).0 in
    let room = or_right (is_long name) (nat_le 32 (length columns)) fits in
    record {
      short = short_name name is (or_left (is_long name) (nat_le 32 (length columns)) fits);
      new = none-is (column_named columns name) outer.0;
      room = grind (arith, nat_tests, room);
    }

kept_column : (b : Bool) (cs : List Column) (x : Column) (w : ℕ) → b ≡ true → ColumnsSound (cs ++ x ∷ []) w → ColumnsSound (if b then cs ++ x ∷ [] else cs) w
kept_column true cs x w h s = s
kept_column false cs x w h s = absurd (cc (h))

row_more : (cs : List Column) (x : Column) → sum_by width (kinds_in (cs ++ x ∷ [])) ≡ sum_by width (kinds_in cs) + width x.kind
row_more cs x =
    ap (sum_by width) (map-append (λ (c : Column). c.kind) cs (x ∷ []))
    ∙ sum_by-append width (kinds_in cs) (x.kind ∷ [])
    ∙ plus-none (sum_by width (kinds_in cs)) (width x.kind)

column_added : (cs : List Column) (x : Column) (w n : ℕ) → ColumnsSound cs w → NextColumn cs x.name → IsWidth x.kind → width x.kind ≤ n
    → nat_lt 256 (added_up_to 256 w n) ≡ false → ColumnsSound (if nat_lt (length cs) 32 then cs ++ x ∷ [] else cs) (added_up_to 256 w n)
column_added cs x w n s next is le fits =
    let room = next.room in
    let more = row_more cs x in
    let longer = length-append cs (x ∷ []) in
    let old = s.counted in
    kept_column (nat_lt (length cs) 32) cs x (added_up_to 256 w n) (grind (arith, nat_tests, room)) (record {
      few = omega (arith, longer, room);
      names = all-push (λ (c : Column). IsShortName c.name) cs x s.names next.short;
      differ = columns_differ cs x s.few next.new s.differ;
      widths = subst (AllByRecursion IsWidth) (sym (map-append (λ (c : Column). c.kind) cs (x ∷ []))) (all-push IsWidth (kinds_in cs) x.kind s.widths is);
      counted = grind (arith, nat_tests, more, old, le, fits);
      bytes = grind (arith, nat_tests, more, old, le, fits);
    })

-- a table with one column more
with_column : (tables : List TableDef) (def : TableDef) (columns : List Column) (row_bytes more key_bytes : ℕ) → InColumns tables def row_bytes key_bytes
    → ColumnsSound columns more → InColumns tables (record def { columns = columns }) more key_bytes
with_column tables def columns row_bytes more key_bytes h s = record {
  short = h.short;
  room = h.room;
  columns = s;
  bare = record { key = h.bare.key; checks = h.bare.checks; firsts = h.bare.firsts; bytes = h.bare.bytes };
}

pub kind_kept : (kind : ColumnKind) (n : ℕ) (d : Draft) → IsWidth kind → width kind ≤ n → (kind_came kind n d).first ≡ None
    → Columning d → NextColumn d.table.def.columns d.table.column → Columning (kind_came kind n d)
kind_kept kind n d is le h c next =
    let fits = (noted-none (nat_lt 256 (added_up_to 256 d.table.width n)) OverLimit d.table.column_at d.first h).0 in (
      c.0,
      with_column d.tables d.table.def _ d.table.width _ d.table.key_width c.1
          (column_added d.table.def.columns (record { name = d.table.column; kind = kind }) d.table.width n c.1.columns next is le fits),
    )

width_of_char : (n : ℕ) → nat_le 1 n && nat_le n 255 ≡ true → IsWidth (Char (min n 255)) × (width (Char (min n 255)) ≤ n)
width_of_char n h = let l = lies 1 255 n h in let low = l.0 in ((grind (arith, low), grind (arith)), grind (arith))

pub width_kept : (n at : ℕ) (d : Draft) → (width_came n at d).first ≡ None → Columning d → NextColumn d.table.def.columns d.table.column → Columning (width_came n at d)
width_kept n at d h c next =
    let wide = noted (is_wide n) NumberTooWide at d.first in
    let first = noted (not (nat_le 1 n && nat_le n 255)) OverLimit at wide in
    let before = (noted-none (nat_lt 256 (added_up_to 256 d.table.width n)) OverLimit d.table.column_at first h).1 in
    let within = width_of_char n (not-false (nat_le 1 n && nat_le n 255) (noted-none (not (nat_le 1 n && nat_le n 255)) OverLimit at wide before).0) in
    kind_kept (Char (min n 255)) n (record d { first = first }) within.0 within.1 h c next

-- PRIMARY KEY
pub key_begins : (d : Draft) → Columning d → Keying 0 d
key_begins d c = let bare = c.1.bare in (
  c.0,
  record {
    short = c.1.short;
    room = c.1.room;
    columns = c.1.columns;
    key = subst (λ (k : List ℕ). KeySound d.table.def.columns k d.table.key_width) (sym bare.key)
        (subst (KeySound d.table.def.columns []) (sym bare.bytes) (record { within = tt; differ = refl; counted = refl; bytes = omega arith }));
    some = omega arith;
    checks = bare.checks;
    firsts = bare.firsts;
  },
)

key_longer : (again : Bool) (key : List ℕ) (c : ℕ) → again ≡ false → length (if again then key else key ++ c ∷ []) ≡ length key + 1
key_longer true key c h = absurd (cc (h))
key_longer false key c h = length-append key (c ∷ [])

key_counted : (again : Bool) (cs : List Column) (key : List ℕ) (c w : ℕ) → again ≡ false → w ≡ sum_by width (chosen key (kinds_in cs))
    → nat_lt 32 (added_up_to 32 w (column_bytes (slice_get cs c))) ≡ false
    → added_up_to 32 w (column_bytes (slice_get cs c)) ≡ sum_by width (chosen (if again then key else key ++ c ∷ []) (kinds_in cs))
key_counted true cs key c w a h e = absurd (cc (a))
key_counted false cs key c w a h e = let more = bytes_more cs key c in grind (arith, nat_tests, more, h, e)

-- a column of the key
key_found : (c at least : ℕ) (d : Draft) → c < length d.table.def.columns → (key_column_found (Some c) at d).first ≡ None → Keying least d → Keying (least + 1) (key_column_found (Some c) at d)
key_found c at least d there h k =
    let bytes = added_up_to 32 d.table.key_width (column_bytes (slice_get d.table.def.columns c)) in
    let again = list_any (nat_eq c) d.table.def.key in
    let outer = noted-none again Repeated at (noted (nat_lt 32 bytes) OverLimit at d.first) h in
    let fits = (noted-none (nat_lt 32 bytes) OverLimit at d.first outer.1).0 in
    let longer = key_longer again d.table.def.key c outer.0 in
    let some = k.1.some in (
      k.0,
      record {
        short = k.1.short;
        room = k.1.room;
        columns = k.1.columns;
        key = record {
          within = key_more again (length d.table.def.columns) c d.table.def.key outer.0 there k.1.key.within;
          differ = key_differs again c d.table.def.key refl k.1.key.differ;
          counted = key_counted again d.table.def.columns d.table.def.key c d.table.key_width outer.0 k.1.key.counted fits;
          bytes = grind (arith, nat_tests, fits);
        };
        some = omega (arith, longer, some);
        checks = k.1.checks;
        firsts = k.1.firsts;
      },
    )

pub key_kept : (name : List ℕ) (at least : ℕ) (d : Draft) → (key_column_came name at d).first ≡ None → Keying least d → Keying (least + 1) (key_column_came name at d)
key_kept name at least d h k = by_place (column_named d.table.def.columns name) refl h
  where
    long : Draft
    long = record d { first = noted (is_long name) OverLimit at d.first }

    by_place : (o : Option ℕ) → column_named d.table.def.columns name ≡ o → (key_column_found o at long).first ≡ None → Keying (least + 1) (key_column_found o at long)
    by_place None e h = absurd (unknown h)
      where
        unknown : noted true UnknownName at long.first ≡ None → ⊥
        unknown h = absurd (cc ((noted-none true UnknownName at long.first h).0))
    by_place (Some c) e h = key_found c at least long (below c (length d.table.def.columns) (place_within 0 d.table.def.columns name c e)) h k

-- behind the key
pub key_ends : (least : ℕ) (d : Draft) → Keying (least + 1) d → Declared d
key_ends least d k = let firsts = k.1.firsts in let some = k.1.some in (
  k.0,
  record {
    short = k.1.short;
    room = subst (λ (n : List (List _)). Room d.tables d.table.def.name (length n)) (sym firsts) k.1.room;
    columns = k.1.columns;
    key = k.1.key;
    some = omega (arith, some);
    few_checks = subst (λ (l : List _). length l ≤ 8) (sym k.1.checks) (omega arith);
    checks = subst (AllByRecursion (IsExpr d.table.def OfTruth)) (sym k.1.checks) tt;
  },
  firsts,
)

-- a table that is kept
kept_table : (b : Bool) (tables : List TableDef) (def : TableDef) → b ≡ true → TablesSound (tables ++ def ∷ []) → TablesSound (if b then tables ++ def ∷ [] else tables)
kept_table true tables def h s = s
kept_table false tables def h s = absurd (cc (h))

some_table : (b : Bool) (tables : List TableDef) (def : TableDef) → b ≡ true → 0 < length (if b then tables ++ def ∷ [] else tables)
some_table true tables def h = let longer = length-append tables (def ∷ []) in omega (arith, longer)
some_table false tables def h = absurd (cc (h))

parts_more : (tables : List TableDef) (def : TableDef) → parts_of (tables ++ def ∷ []) ≡ parts_of tables + (length def.firsts + 1)
parts_more tables def = sum_by-append (λ (t : TableDef). length t.firsts + 1) tables (def ∷ []) ∙ plus-none (parts_of tables) (length def.firsts + 1)

pub table_kept : (d : Draft) → Whole d → Tabled (table_ends d)
table_kept d w =
    let room = w.2 in
    let few = room.few in
    let test : nat_lt (length d.tables) 4 ≡ true = grind (arith, nat_tests, few) in
    let longer = length-append d.tables (d.table.def ∷ []) in
    let parts = room.parts in
    let more = parts_more d.tables d.table.def in (
      record {
        limits = w.0.limits;
        tables = kept_table (nat_lt (length d.tables) 4) d.tables d.table.def test (record {
          few = omega (arith, longer, few);
          all = all-push IsTable d.tables d.table.def w.0.tables.all w.1;
          differ = tables_differ d.tables d.table.def w.0.tables.few room.new w.0.tables.differ;
          parts = omega (arith, more, parts);
        });
        loads = w.0.loads;
        sessions = w.0.sessions;
        works = w.0.works;
      },
      some_table (nat_lt (length d.tables) 4) d.tables d.table.def test,
    )
