-- What SELECT lists, filters and assignments leave.
use Rattle.std.proofs.Common.{◌≡◌, ◌≤◌, ◌<◌, ◌+◌, ℕ, zero, suc, min, ◌||◌, List, [], ◌∷◌, ◌++◌, length, map, Bool, true, false, Option, Some, None, refl, sym, ap, subst, ◌∙◌, arith}
use Rattle.std.specs.Prelude.{nat_lt, nat_le, nat_eq, is_some, slice_get, flat_map, option_map, option_and_then, if◌then◌else◌}
use Rattle.std.specs.Int.{w16, to_be_bytes}
use Rattle.std.specs.List.{AllByRecursion, list_any}
use Rattle.std.proofs.lemmas.Bool.Decides.{nat_tests}
use Rattle.std.proofs.lemmas.Grind.{flat_map-append}
use Rattle.std.proofs.lemmas.List.{length-append, map-append}
use Rattle.std.proofs.lemmas.Option.{slice_get-map}
use Rattle.sql_base.specs.Codes.{code_of, counted, sets_code}
use Rattle.sql_base.specs.Kinds.{OfTruth, IsExpr, depth_of}
use Rattle.sql_base.specs.Rows.{kinds}
use Rattle.sql_base.specs.Tables.{all_differ, AreColumns, AreSets, IsAssign, IsFilter, IsTable, Stores}
use Rattle.sql_base.specs.declared.expressions.Expr.{Expr}
use Rattle.sql_base.specs.declared.statements.Assign.{Assign}
use Rattle.sql_base.specs.declared.tables.Column.{Column}
use Rattle.sql_base.specs.declared.tables.ColumnKind.{ColumnKind}
use Rattle.sql_base.specs.declared.tables.ColumnKind.TheVariants.{Int, Char}
use Rattle.sql_base.specs.declared.tables.TableDef.{TableDef}
use Rattle.statement_draft.specs.Describing.{meant}
use Rattle.statement_draft.specs.declared.draft.Scope.{Scope}
use Rattle.statement_draft.specs.declared.draft.Scope.TheVariants as scope
use Rattle.statement_draft.specs.Expressions.{columns_in, whole, no_expression, expression_begins, expression_judged, filter_ends}
use Rattle.statement_draft.specs.Faults.{noted}
use Rattle.statement_draft.specs.Names.{is_long, column_named}
use Rattle.statement_draft.specs.StatementEvents.{Selected, select_found, selected, selected_from, places_from, names_judged, table_came, select_table_came, where_came, statement_table, set_found, column_set, set_named, set_came, set_fault, set_kind, with_assign, assign_ends, sets_end}
use Rattle.statement_draft.specs.declared.draft.Draft.{Draft}
use Rattle.statement_draft.specs.declared.draft.NameAt.{NameAt}
use Rattle.statement_draft.specs.declared.draft.NewExpression.{NewExpression}
use Rattle.statement_draft.specs.declared.draft.NewStatement.{NewStatement}
use Rattle.statement_draft.specs.declared.faults.Fault.{Fault}
use Rattle.statement_draft.specs.declared.faults.Reason.TheVariants.{TextTooLong, UnknownName, Repeated, WrongType, OverLimit}
use Rattle.statement_draft.specs.declared.kinds.Kind.{Kind}
use Rattle.statement_draft.specs.declared.kinds.Kind.TheVariants as kind
use Rattle.statement_draft.specs.declared.kinds.Operand.{Operand}
use Rattle.statement_draft.proofs.Clean.{noted-none}
use Rattle.statement_draft.proofs.Kept.{as_one}
use Rattle.statement_rules.proofs.Listing.{differ_more, place_within, below}
use Rattle.statement_rules.proofs.Listing.{names_differ}
use Rattle.statement_rules.proofs.Stays as stays
use Rattle.statement_rules.proofs.ExpressionSteps.{Sees}
use Rattle.statement_rules.proofs.WholeSteps.{Begun, Expressed, expressed, predicate}
use Rattle.statement_rules.proofs.SessionSteps.{known, known_sees}
use Rattle.statement_rules.proofs.States.{Known, SetsSound}
use Rattle.statement_rules.proofs.RowSteps.{as_none, no_reason as no_long}
use Rattle.sql_base.proofs.Truths.{counted as most, or_left, or_right}
use Rattle.sql_base.proofs.ListFacts.{all-push}

-- ---- SELECT lists

grows_once : (c : Option ℕ) (at : ℕ) (s : Selected) → length s.columns ≤ length (select_found c at s).columns
grows_once None at s = omega arith
grows_once (Some c) at s = by_again (list_any (nat_eq c) s.columns)
  where
    by_again : (again : Bool) → length s.columns ≤ length (if again then s.columns else s.columns ++ c ∷ [])
    by_again true = omega arith
    by_again false = let longer = length-append s.columns (c ∷ []) in omega (arith, longer)

grows : (cs : List Column) (names : List NameAt) (s : Selected) → length s.columns ≤ length (selected_from cs names s).columns
unfolding selected_from
grows cs [] s = omega arith
grows cs (n ∷ names) s =
    let once = grows_once (column_named cs n.name) n.at s in
    let later = grows cs names (select_found (column_named cs n.name) n.at s) in
    omega (arith, once, later)

some_found : (o : Option ℕ) (at : ℕ) (f : Option Fault) → (select_found o at (record { columns = []; first = f })).first ≡ None → 0 < length (select_found o at (record { columns = []; first = f })).columns
some_found None at f h = absurd (stays.unknown UnknownName at f h)
some_found (Some c) at f h = omega arith

-- a list of columns has one at least
pub selected_some : (cs : List Column) (names : List NameAt) (f : Option Fault) → 0 < length cs → (selected cs names f).first ≡ None → 0 < length (selected cs names f).columns
unfolding selected_from places_from
selected_some [] [] f some h = absurd (omega (arith, some))
selected_some (c ∷ cs) [] f some h = omega arith
selected_some cs (n ∷ names) f some h =
    let once = select_found (column_named cs n.name) n.at (record { columns = []; first = f }) in
    let found = some_found (column_named cs n.name) n.at f (stays.selected_from_stays cs names once h) in
    let later = grows cs names once in
    omega (arith, found, later)

all_places : (n : ℕ) (cs : List Column) (most : ℕ) → n + length cs ≤ most → AllByRecursion (λ c. c < most) (places_from n cs)
unfolding places_from
all_places n [] most h = tt
all_places n (c ∷ cs) most h = by_full (nat_le 32 n) (all_places (n + 1) cs most (omega (arith, h)))
  where
    by_full : (b : Bool) → AllByRecursion (λ c. c < most) (places_from (n + 1) cs) → AllByRecursion (λ c. c < most) (if b then [] else n ∷ places_from (n + 1) cs)
    by_full true later = tt
    by_full false later = (omega (arith, h), later)

found_within : (cs : List Column) (name : List ℕ) (o : Option ℕ) (at : ℕ) (s : Selected) → column_named cs name ≡ o → AllByRecursion (λ c. c < length cs) s.columns
    → AllByRecursion (λ c. c < length cs) (select_found o at s).columns
found_within cs name None at s e h = h
found_within cs name (Some c) at s e h = by_again (list_any (nat_eq c) s.columns)
  where
    by_again : (again : Bool) → AllByRecursion (λ c. c < length cs) (if again then s.columns else s.columns ++ c ∷ [])
    by_again true = h
    by_again false = all-push (λ c. c < length cs) s.columns c h (below c (length cs) (place_within 0 cs name c e))

all_within : (cs : List Column) (names : List NameAt) (s : Selected) → AllByRecursion (λ c. c < length cs) s.columns → AllByRecursion (λ c. c < length cs) (selected_from cs names s).columns
unfolding selected_from
all_within cs [] s h = h
all_within cs (n ∷ names) s h = all_within cs names (select_found (column_named cs n.name) n.at s) (found_within cs n.name (column_named cs n.name) n.at s refl h)

selected_within : (cs : List Column) (names : List NameAt) (f : Option Fault) → AllByRecursion (λ c. c < length cs) (selected cs names f).columns
selected_within cs [] f = all_places 0 cs (length cs) (omega arith)
selected_within cs (n ∷ names) f = all_within cs (n ∷ names) (record { columns = []; first = f }) tt

pub table_sound : (ts : List TableDef) (t : ℕ) (table : TableDef) → AllByRecursion IsTable ts → slice_get ts t ≡ Some table → IsTable table
table_sound [] t table all h = absurd (cc (h))
table_sound (x ∷ ts) zero table all h = subst IsTable (some_is x table h) all.0
  where
    some_is : (x y : TableDef) → Some x ≡ Some y → x ≡ y
    some_is x y e = cc
table_sound (x ∷ ts) (suc t) table all h = table_sound ts t table all.1 h

within_some : (n : ℕ) (xs : List ℕ) → 0 < length xs → AllByRecursion (λ c. c < n) xs → 0 < n
within_some n [] some all = absurd (omega (arith, some))
within_some n (x ∷ xs) some all = let first = all.0 in omega (arith, first)

pub some_columns : (table : TableDef) → IsTable table → 0 < length table.columns
some_columns table h = within_some (length table.columns) table.key h.key.some h.key.within

-- the list of a SELECT, once its table is known
pub select_step : (name : List ℕ) (at : ℕ) (d : Draft) → AllByRecursion IsTable d.tables → (select_table_came name at d).first ≡ None
    → (k : Known (select_table_came name at d)) × AreColumns k.table (select_table_came name at d).statement.columns
select_step name at d sound clean =
    let e = table_came name at d in
    let clean_table = stays.names_judged_stays (option_and_then (slice_get e.tables) e.statement.table) e clean in
    let k = known name at d clean_table in
    let is : option_and_then (slice_get e.tables) e.statement.table ≡ Some k.table = ap (option_and_then (slice_get e.tables)) k.named ∙ k.there in
    let judged : select_table_came name at d ≡ names_judged (Some k.table) e = ap (λ o. names_judged o e) is in
    let clean2 : (selected k.table.columns e.statement.names e.first).first ≡ None = ap (λ (x : Draft). x.first) (sym judged) ∙ clean in
    let table = table_sound e.tables k.place k.table sound k.there in
    let there : (j : Known (names_judged (Some k.table) e)) × AreColumns j.table (names_judged (Some k.table) e).statement.columns = (
      record { place = k.place; named = k.named; table = k.table; there = k.there; scope = k.scope },
      record {
        some = selected_some k.table.columns e.statement.names e.first (some_columns k.table table) clean2;
        within = selected_within k.table.columns e.statement.names e.first;
        differ = names_differ k.table.columns e.statement.names e.first;
      },
    ) in
    subst (λ (x : Draft). (j : Known x) × AreColumns j.table x.statement.columns) (sym judged) there

-- ---- WHERE

-- the filter was read, and nothing else but faults
pub record FilterStep (d e : Draft) : Type 0 where
  pub place : ℕ
  pub filter : Option Expr
  pub expression : NewExpression
  pub first : Option Fault
  pub same : e ≡ record d { statement = record d.statement { where_at = place; filter = filter }; expression = expression; first = first }
  pub judged : (table : TableDef) → Sees d table → IsFilter table d.statement.filter → IsFilter table filter

pub no_filter : (d : Draft) → FilterStep d d
no_filter d = record { place = d.statement.where_at; filter = d.statement.filter; expression = d.expression; first = d.first; same = refl; judged = λ table sees h. h }

is_filter : (table : TableDef) (t : Option Expr) → ((e : Expr) → t ≡ Some e → IsExpr table OfTruth e) → IsFilter table t
is_filter table None f = tt
is_filter table (Some e) f = f e refl

-- the draft as its parts are
abbrev pub as_read : (d e : Draft) → Begun d e → Draft
as_read d e b = record (expression_begins b.place d) { expression = b.read.expression; first = b.read.first }

pub begun_there : (d e : Draft) (b : Begun d e) → Begun d (as_read d e b)
begun_there d e b = record {
  place = b.place;
  read = record {
    expression = b.read.expression;
    first = b.read.first;
    same = refl;
    top = b.read.top;
    operands = b.read.operands;
    operators = b.read.operators;
    sound = b.read.sound;
    typed = b.read.typed;
  };
}

sees_where : (s : Scope) (d : Draft) (at : ℕ) → columns_in s (where_came at d) ≡ columns_in s d
sees_where scope.NewTable d at = refl
sees_where (scope.Table t) d at = refl
sees_where scope.Unknown d at = refl

pub filter_step : (at : ℕ) (d e : Draft) → Begun (where_came at d) e → (filter_ends e).first ≡ None → FilterStep d (filter_ends e)
filter_step at d e b clean =
    let d1 = where_came at d in
    let e0 = as_read d1 e b in
    let b0 = begun_there d1 e b in
    let clean0 : (filter_ends e0).first ≡ None = ap (λ (x : Draft). (filter_ends x).first) (sym b.read.same) ∙ clean in
    record {
      place = at;
      filter = (whole b.read.expression).tree;
      expression = no_expression 0;
      first = (filter_ends e0).first;
      same = ap filter_ends b.read.same;
      judged = λ table sees h. is_filter table (whole b.read.expression).tree (λ t is. predicate d1 e0 b0 table at (sees_where d.scope d at ∙ sees) clean0 t is);
    }

-- ---- SET

-- the column of an assignment, before its value
pub record SetColumn (table : TableDef) (s : NewStatement) : Type 0 where
  pub c : ℕ
  pub column : s.column ≡ Some c
  pub within : c < length table.columns
  pub free : list_any (nat_eq c) table.key ≡ false
  pub before : List ℕ
  pub columns : s.columns ≡ before ++ c ∷ []
  pub new : list_any (nat_eq c) before ≡ false
  pub sets : SetsSound table s.sets before s.code

pub set_step : (name : List ℕ) (at : ℕ) (d : Draft) (k : Known d) → SetsSound k.table d.statement.sets d.statement.columns d.statement.code
    → (set_came name at d).first ≡ None → SetColumn k.table (set_came name at d).statement
set_step name at d k sets clean =
    let F = noted (is_long name) OverLimit at d.first in
    let is : statement_table d ≡ Some k.table = ap (option_and_then (slice_get d.tables)) k.named ∙ k.there in
    let same : set_came name at d ≡ set_named (column_set (Some k.table) name at d.statement.columns F) at d = ap (λ o. set_named (column_set o name at d.statement.columns F) at d) is in
    subst (λ (x : Draft). SetColumn k.table x.statement) (sym same) (by_place F (column_named k.table.columns name) refl (ap (λ (x : Draft). x.first) (sym same) ∙ clean))
  where
    by_place : (F : Option Fault) (o : Option ℕ) → column_named k.table.columns name ≡ o → (set_named (set_found k.table o at d.statement.columns F) at d).first ≡ None
        → SetColumn k.table (set_named (set_found k.table o at d.statement.columns F) at d).statement
    by_place F None e h = absurd (stays.unknown UnknownName at F h)
    by_place F (Some c) e h =
        let outer = noted-none (list_any (nat_eq c) k.table.key) WrongType at (noted (list_any (nat_eq c) d.statement.columns) Repeated at F) h in
        record {
          c = c;
          column = refl;
          within = below c (length k.table.columns) (place_within 0 k.table.columns name c e);
          free = outer.0;
          before = d.statement.columns;
          columns = refl;
          new = (noted-none (list_any (nat_eq c) d.statement.columns) Repeated at F outer.1).0;
          sets = sets;
        }

-- a value without fault can be stored
stores : (column : ColumnKind) (k : Kind) → set_fault (Some column) (Some k) ≡ None → Stores column (meant k)
stores Int kind.Number h = tt
stores Int (kind.Text n) h = absurd (cc (h))
stores Int kind.Truth h = absurd (cc (h))
stores (Char n) kind.Number h = absurd (cc (h))
stores (Char n) (kind.Text m) h = let short = no_long (nat_lt n m) TextTooLong h in grind (arith, nat_tests, short)
stores (Char n) kind.Truth h = absurd (cc (h))

-- a whole expression without fault is one of its kind
expression_is : (table : TableDef) (x : Operand) (t : Expr) (k : Kind) → Expressed table x → x.tree ≡ Some t → x.kind ≡ Some k → IsExpr table (meant k) t
expression_is table x t k h is kinded = let d = h.describes t is in record {
  typed = d.typed ∙ ap (option_map meant) kinded;
  depth = most 32 x.depth (depth_of t) d.depth (or_left _ _ h.small);
  code = most 8192 x.code (length (code_of t)) d.code (or_right _ _ h.small);
}

there_is : {A : Type 0} (o : Option A) → is_some o ≡ true → (x : A) × (o ≡ Some x)
there_is (Some x) h = (x, refl)
there_is None h = absurd (cc (h))

column_at : (cs : List Column) (c : ℕ) → c < length cs → (column : Column) × (slice_get cs c ≡ Some column)
column_at [] c h = absurd (omega (arith, h))
column_at (x ∷ cs) zero h = (x, refl)
column_at (x ∷ cs) (suc c) h = column_at cs c (omega (arith, h))

piece_length : (set : Assign) → length (set.column ∷ counted (code_of set.value)) ≡ 3 + length (code_of set.value)
piece_length set = let inner = length-append (to_be_bytes w16 (length (code_of set.value))) (code_of set.value) in omega (arith, inner)

abbrev piece : Assign → List ℕ
piece set = set.column ∷ counted (code_of set.value)

no_more : (xs : List ℕ) → length (xs ++ []) ≡ length xs
no_more xs = let both = length-append xs [] in omega (arith, both)

pub code_more : (sets : List Assign) (set : Assign) → length (sets_code (sets ++ set ∷ [])) ≡ length (sets_code sets) + 3 + length (code_of set.value)
code_more sets set =
    let all : length (flat_map piece (sets ++ set ∷ [])) ≡ length (flat_map piece sets ++ flat_map piece (set ∷ [])) = ap length (flat_map-append piece sets (set ∷ [])) in
    let both = length-append (flat_map piece sets) (flat_map piece (set ∷ [])) in
    let one : length (flat_map piece (set ∷ [])) ≡ length (piece set) = no_more (piece set) in
    let len = piece_length set in
    omega (arith, all, both, one, len)

pub code_counted : (m v n l : ℕ) (total : ℕ) → m ≡ min 8193 n → v ≡ min 8193 l → total ≡ n + 3 + l → min 8193 (m + 3 + v) ≡ min 8193 total
code_counted m v n l total h k e = grind (arith, h, k, e)

-- the assignments and their code, and nothing else but faults and the value
pub record AssignStep (table : TableDef) (s : NewStatement) : Type 0 where
  pub sets : SetsSound table s.sets s.columns s.code
  pub some : 0 < length s.sets

assigned_one : (c : Option ℕ) (v : Option Expr) (sets : List Assign) (d : ℕ) (t : Expr) → c ≡ Some d → v ≡ Some t → with_assign c v sets ≡ sets ++ record { column = d; value = t } ∷ []
assigned_one c v sets d t h k = ap (λ o. with_assign o v sets) h ∙ ap (λ o. with_assign (Some d) o sets) k

assign_of : (e : Draft) (k : Known e) → SetColumn k.table e.statement → Expressed k.table (whole e.expression) → (assign_ends e).first ≡ None
    → AssignStep k.table (assign_ends e).statement
assign_of e k set x clean =
    let table = k.table in
    let value = whole e.expression in
    let t = there_is value.tree x.tree in
    let kd = there_is value.kind x.kind in
    let column = column_at table.columns set.c set.within in
    let kind_at : slice_get (kinds table) set.c ≡ Some column.0.kind = slice_get-map (λ (y : Column). y.kind) table.columns set.c ∙ ap (option_map (λ (y : Column). y.kind)) column.1 in
    let tables_is : statement_table e ≡ Some table = ap (option_and_then (slice_get e.tables)) k.named ∙ k.there in
    let set_kind_is : set_kind e ≡ Some column.0.kind =
    ap (option_and_then (λ c. option_and_then (λ (y : TableDef). option_map (λ (z : Column). z.kind) (slice_get y.columns c)) (statement_table e))) set.column
    ∙ ap (option_and_then (λ (y : TableDef). option_map (λ (z : Column). z.kind) (slice_get y.columns set.c))) tables_is
    ∙ ap (option_map (λ (z : Column). z.kind)) column.1 in
    let right = as_none (set_fault (set_kind e) value.kind) e.statement.column_at (expression_judged e).first clean in
    let fault_none : set_fault (Some column.0.kind) (Some kd.0) ≡ None = ap (λ o. set_fault o (Some kd.0)) (sym set_kind_is) ∙ ap (set_fault (set_kind e)) (sym kd.1) ∙ right in
    let new : Assign = record { column = set.c; value = t.0 } in
    let sets_are : (assign_ends e).statement.sets ≡ e.statement.sets ++ new ∷ [] = assigned_one e.statement.column value.tree e.statement.sets set.c t.0 set.column t.1 in
    let longer = length-append e.statement.sets (new ∷ []) in
    let described = x.describes t.0 t.1 in
    let S = set.sets in
    record {
      sets = record {
        each = subst (AllByRecursion (IsAssign table)) (sym sets_are)
            (all-push (IsAssign table) e.statement.sets new S.each (column.0.kind, meant kd.0, kind_at, set.free, stores column.0.kind kd.0 fault_none, expression_is table value t.0 kd.0 x t.1 kd.1));
        columns = ap (map (λ (y : Assign). y.column)) sets_are ∙ map-append (λ (y : Assign). y.column) e.statement.sets (new ∷ []) ∙ ap (λ (l : List ℕ). l ++ set.c ∷ []) S.columns ∙ sym set.columns;
        differ = subst (λ (l : List ℕ). all_differ nat_eq l ≡ true) (sym set.columns) (differ_more set.before set.c S.differ set.new);
        code = code_counted e.statement.code value.code (length (sets_code e.statement.sets)) (length (code_of t.0)) (length (sets_code (e.statement.sets ++ new ∷ []))) S.code described.code (code_more e.statement.sets new)
            ∙ ap (λ (l : List Assign). min 8193 (length (sets_code l))) (sym sets_are);
      };
      some = subst (λ (l : List Assign). 0 < length l) (sym sets_are) (omega (arith, longer));
    }

-- a whole assignment
pub assign_step : (d e : Draft) (k : Known d) → SetColumn k.table d.statement → Begun d e → (assign_ends e).first ≡ None
    → (k : Known (assign_ends e)) × AssignStep k.table (assign_ends e).statement
assign_step d e k set b clean =
    let e0 = as_read d e b in
    let b0 = begun_there d e b in
    let clean0 : (assign_ends e0).first ≡ None = ap (λ (x : Draft). (assign_ends x).first) (sym b.read.same) ∙ clean in
    let judged : (expression_judged e0).first ≡ None =
    as_one (set_fault (set_kind e0) (whole e0.expression).kind) e0.statement.column_at (expression_judged e0).first clean0 in
    let x = expressed d e0 b0 k.table (known_sees d k) judged in
    let k0 : Known e0 = record { place = k.place; named = k.named; table = k.table; there = k.there; scope = k.scope } in
    let r : (k : Known (assign_ends e0)) × AssignStep k.table (assign_ends e0).statement =
    (record { place = k.place; named = k.named; table = k.table; there = k.there; scope = k.scope }, assign_of e0 k0 set x clean0) in
    subst (λ (y : Draft). (k : Known (assign_ends y)) × AssignStep k.table (assign_ends y).statement) (sym b.read.same) r

-- all assignments
pub sets_step : (d : Draft) (k : Known d) → AssignStep k.table d.statement → (sets_end d).first ≡ None → AreSets k.table d.statement.sets
sets_step d k h clean =
    let fits = (noted-none (nat_lt 8192 d.statement.code) OverLimit d.statement.sets_at d.first clean).0 in
    record {
      some = h.some;
      each = h.sets.each;
      differ = ap (all_differ nat_eq) h.sets.columns ∙ h.sets.differ;
      code = most 8192 d.statement.code (length (sets_code d.statement.sets)) h.sets.code fits;
    }
