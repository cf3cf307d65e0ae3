-- What the words of a LOAD leave: records of its table that meet its CHECKs.
use Rattle.std.proofs.Common.{◌≡◌, ◌<◌, ℕ, zero, suc, not, ◌||◌, List, [], ◌∷◌, ◌++◌, length, map, true, false, Option, Some, None, refl, sym, ap, subst, ◌∙◌, arith}
use Rattle.std.specs.Prelude.{nat_eq, nat_le, is_some, slice_get, option_map, option_and_then, if◌then◌else◌}
use Rattle.std.specs.List.{list_any}
use Rattle.std.proofs.lemmas.Bool.Decides.{nat_tests}
use Rattle.std.proofs.lemmas.List.{length-append, map-append}
use Rattle.sql_base.specs.Keys.{Rise, key_lt}
use Rattle.sql_base.specs.OnRows.{first_failing}
use Rattle.sql_base.specs.Rows.{kinds, key_of, IsRow}
use Rattle.sql_base.specs.Scripts.{IsLoad}
use Rattle.sql_base.specs.Tables.{all_differ}
use Rattle.sql_base.specs.declared.scripts.Load.{Load}
use Rattle.sql_base.specs.declared.tables.ColumnKind.{ColumnKind}
use Rattle.sql_base.specs.declared.tables.TableDef.{TableDef}
use Rattle.sql_base.specs.declared.values.Value.{Value}
use Rattle.statement_draft.specs.Faults.{noted}
use Rattle.statement_draft.specs.Names.{is_long, table_named}
use Rattle.statement_draft.specs.RowEvents.{is_loaded, load_named, load_came, miscounts, record_counted, is_above, row_loaded, row_judged, load_row_ends, load_kept, load_ends}
use Rattle.statement_draft.specs.declared.draft.Draft.{Draft}
use Rattle.statement_draft.specs.declared.draft.NewRow.{NewRow}
use Rattle.statement_draft.specs.declared.draft.RowOf.{RowOf}
use Rattle.statement_draft.specs.declared.draft.RowOf.TheVariants as row_of
use Rattle.statement_draft.specs.declared.faults.Fault.{Fault}
use Rattle.statement_draft.specs.declared.faults.Reason.TheVariants.{UnknownName, Repeated, WrongType, OverLimit, NotRising, CheckFails}
use Rattle.statement_draft.proofs.Clean.{noted-none}
use Rattle.statement_rules.proofs.Listing.{differ_more}
use Rattle.statement_rules.proofs.Listing.{table_within}
use Rattle.statement_rules.proofs.Stays as stays
use Rattle.statement_rules.proofs.RowSteps.{fits_row, row_of_kinds}
use Rattle.statement_rules.proofs.States.{Tabled, last_of, LoadsSound, Loading, LastKey, InLoadOf}
use Rattle.sql_base.proofs.Truths.{not-false, none-is}
use Rattle.sql_base.proofs.ListFacts.{all-push}

pub unknown_none : (at : ℕ) (f : Option Fault) → noted true UnknownName at f ≡ None → ⊥
unknown_none at f h = stays.unknown UnknownName at f h

pub at_place : (ts : List TableDef) (t : ℕ) → t < length ts → (table : TableDef) × (slice_get ts t ≡ Some table)
at_place [] t h = absurd (omega (arith, h))
at_place (x ∷ ts) zero h = (x, refl)
at_place (x ∷ ts) (suc t) h = at_place ts t (omega (arith, h))

-- a table that is found by its name
pub found_table : (ts : List TableDef) (name : List ℕ) (t : ℕ) → table_named ts name ≡ Some t → (table : TableDef) × (slice_get ts t ≡ Some table)
found_table ts name t h = at_place ts t (let within = table_within 0 ts name t h in omega (arith, within))

-- the tables are all there
pub loads_begin : (d : Draft) → Tabled d → Loading d
loads_begin d h = record {
  limits = h.0.limits;
  tables = h.0.tables;
  some = h.1;
  loads = subst (LoadsSound d.tables) (sym h.0.loads) (record { all = tt; differ = refl });
  sessions = h.0.sessions;
  works = h.0.works;
}

-- LOAD and the name of its table
pub load_begins : (name : List ℕ) (at : ℕ) (d : Draft) → (load_came name at d).first ≡ None → InLoadOf (load_came name at d)
load_begins name at d h = by_place (table_named d.tables name) refl h
  where
    long : Draft
    long = record d { first = noted (is_long name) OverLimit at d.first }

    by_place : (o : Option ℕ) → table_named d.tables name ≡ o → (load_named o at long).first ≡ None → InLoadOf (load_named o at long)
    by_place None e h = absurd (unknown_none at (noted (is_loaded d.loads None) Repeated at long.first) h)
    by_place (Some t) e h = let found = found_table d.tables name t e in record {
      place = t;
      named = refl;
      table = found.0;
      there = found.1;
      new = (noted-none (is_loaded d.loads (Some t)) Repeated at long.first h).0;
      of = refl;
      kinds = ap (option_map kinds) found.1;
      rows = tt;
      rise = tt;
      last = tt;
      checks = tt;
    }

-- another row in its place
abbrev pub load_row_read : (d : Draft) (row : NewRow) (f : Option Fault) → row.of ≡ d.row.of → row.kinds ≡ d.row.kinds → InLoadOf d → InLoadOf (record d { row = row; first = f })
load_row_read d row f of ks h = record {
  place = h.place;
  named = h.named;
  table = h.table;
  there = h.there;
  new = h.new;
  of = of ∙ h.of;
  kinds = ks ∙ h.kinds;
  rows = h.rows;
  rise = h.rise;
  last = h.last;
  checks = h.checks;
}

rise_last : (last : Option (List ℕ)) (keys : List (List ℕ)) (new : List ℕ) → LastKey last keys → Rise keys → is_above last new ≡ true → Rise (keys ++ new ∷ []) × LastKey (Some new) (keys ++ new ∷ [])
rise_last None [] new l r a = (tt, refl)
rise_last None (k ∷ keys) new l r a = absurd l
rise_last (Some last) [] new l r a = absurd l
rise_last (Some last) (k ∷ keys) new l r a = (risen k keys r (ap (λ x. key_lt x new) (sym l) ∙ a), sym (ended k keys))
  where
    risen : (k : List ℕ) (ks : List (List ℕ)) → Rise (k ∷ ks) → key_lt (last_of k ks) new ≡ true → Rise (k ∷ (ks ++ new ∷ []))
    risen k [] r a = (a, tt)
    risen k (next ∷ ks) r a = (r.0, risen next ks r.1 a)

    ended : (k : List ℕ) (ks : List (List ℕ)) → last_of k (ks ++ new ∷ []) ≡ new
    ended k [] = refl
    ended k (next ∷ ks) = ended next ks

pub counted_all : (row : NewRow) (ks : List ColumnKind) → row.kinds ≡ Some ks → miscounts row ≡ false → length row.values ≡ length ks
counted_all row ks h e =
    let same : not (nat_eq (length row.values) (length ks)) ≡ false = sym (ap (λ (o : Option (List ColumnKind)). elim o [ None ↦ false | Some kinds ↦ not (nat_eq (length row.values) (length kinds)) ]) h) ∙ e in
    grind (arith, nat_tests, not-false (nat_eq (length row.values) (length ks)) same)

load_fits : (d : Draft) (h : InLoadOf d) → fits_row d.row.of (kinds h.table) d.row.values ≡ true → fits_row row_of.Load (kinds h.table) d.row.values ≡ true
load_fits d h f = subst (λ (o : RowOf). fits_row o (kinds h.table) d.row.values ≡ true) h.of f

-- a row that is judged without fault
loaded_row : (d : Draft) (h : InLoadOf d) → fits_row d.row.of (kinds h.table) d.row.values ≡ true → miscounts d.row ≡ false
    → (c : Draft) → c ≡ record d { first = c.first; records = c.records } → (row_loaded h.table c).first ≡ None
    → InLoadOf (row_loaded h.table (record d { first = c.first; records = c.records })) × (0 < length (row_loaded h.table (record d { first = c.first; records = c.records })).load.rows)
loaded_row d h fits counts c is clean =
    let table = h.table in
    let row = d.row in
    let e : Draft = record d { first = c.first; records = c.records } in
    let clean2 : (row_loaded table e).first ≡ None = ap (λ (x : Draft). (row_loaded table x).first) (sym is) ∙ clean in
    let inner = noted (is_some (first_failing table.checks row.values)) CheckFails row.at c.first in
    let outer = noted-none (not (is_above d.load.last (key_of table row.values))) NotRising row.at inner clean2 in
    let above = not-false (is_above d.load.last (key_of table row.values)) outer.0 in
    let passes = (noted-none (is_some (first_failing table.checks row.values)) CheckFails row.at c.first outer.1).0 in
    let keys : map (key_of table) d.load.rows ++ key_of table row.values ∷ [] ≡ map (key_of table) (d.load.rows ++ row.values ∷ []) = sym (map-append (key_of table) d.load.rows (row.values ∷ [])) in
    let risen = rise_last d.load.last (map (key_of table) d.load.rows) (key_of table row.values) h.last h.rise above in
    let longer = length-append d.load.rows (row.values ∷ []) in (
      record {
        place = h.place;
        named = h.named;
        table = table;
        there = h.there;
        new = h.new;
        of = h.of;
        kinds = h.kinds;
        rows = all-push (IsRow table) d.load.rows row.values h.rows (row_of_kinds (kinds table) row.values (load_fits d h fits) (counted_all row (kinds table) h.kinds counts));
        rise = subst Rise keys risen.0;
        last = subst (LastKey (Some (key_of table row.values))) keys risen.1;
        checks = all-push (λ (r : List Value). first_failing table.checks r ≡ None) d.load.rows row.values h.checks (none-is (first_failing table.checks row.values) passes);
      },
      omega (arith, longer),
    )

-- a whole row of a LOAD
pub load_row_step : (d : Draft) (h : InLoadOf d) → fits_row d.row.of (kinds h.table) d.row.values ≡ true → (load_row_ends d).first ≡ None
    → InLoadOf (load_row_ends d) × (0 < length (load_row_ends d).load.rows)
load_row_step d h fits clean =
    let c = record_counted d.row.at d in
    let some : option_and_then (slice_get d.tables) d.load.table ≡ Some h.table = ap (option_and_then (slice_get d.tables)) h.named ∙ h.there in
    let judged : load_row_ends d ≡ row_judged (Some h.table) c = ap (λ o. row_judged o c) some in
    let clean2 : (row_judged (Some h.table) c).first ≡ None = ap (λ (x : Draft). x.first) (sym judged) ∙ clean in
    let before = stays.row_judged_stays (Some h.table) c clean2 in
    let loaded : row_judged (Some h.table) c ≡ row_loaded h.table c = ap (λ b. if b then c else row_loaded h.table c) (stays.is_none c.first before) in
    let outer = noted-none (nat_le 4000 d.records) OverLimit d.row.at (noted (miscounts d.row) WrongType d.row.at d.first) before in
    let counts = (noted-none (miscounts d.row) WrongType d.row.at d.first outer.1).0 in
    let all : load_row_ends d ≡ row_loaded h.table c = judged ∙ loaded in
    let r = loaded_row d h fits counts c refl (ap (λ (x : Draft). x.first) (sym all) ∙ clean) in
    subst (λ (x : Draft). InLoadOf x × (0 < length x.load.rows)) (sym all) r

loads_differ : (loads : List Load) (load : Load) → all_differ nat_eq (map (λ (l : Load). l.table) loads) ≡ true → list_any (λ (l : Load). nat_eq load.table l.table) loads ≡ false
    → all_differ nat_eq (map (λ (l : Load). l.table) (loads ++ load ∷ [])) ≡ true
loads_differ loads load h e =
    ap (all_differ nat_eq) (map-append (λ (l : Load). l.table) loads (load ∷ [])) ∙ differ_more (map (λ (l : Load). l.table) loads) load.table h (mapped loads ∙ e)
  where
    mapped : (ls : List Load) → list_any (nat_eq load.table) (map (λ (l : Load). l.table) ls) ≡ list_any (λ (l : Load). nat_eq load.table l.table) ls
    mapped [] = refl
    mapped (l ∷ ls) = ap (λ b. nat_eq load.table l.table || b) (mapped ls)

-- a whole LOAD
pub load_step : (d : Draft) → Loading d → InLoadOf d → 0 < length d.load.rows → Loading (load_ends d)
load_step d l h some =
    let kept : load_ends d ≡ load_kept (Some h.place) d = ap (λ o. load_kept o d) h.named in
    let load : Load = record { table = h.place; rows = d.load.rows } in
    subst Loading (sym kept) (record {
      limits = l.limits;
      tables = l.tables;
      some = l.some;
      loads = record {
        all = all-push (IsLoad d.tables) d.loads load l.loads.all (h.table, h.there, some, (h.rows, h.rise), h.checks);
        differ = loads_differ d.loads load l.loads.differ h.new;
      };
      sessions = l.sessions;
      works = l.works;
    })
