-- What SELECT, UPDATE and DELETE come to, from what they do at the cells of their range.
use Rattle.std.proofs.Common.{◌≡◌, ℕ, List, ◌++◌, length, map, take, drop, Bool, true, false, cond, Option, Some, None, refl, ap, sym, ◌∙◌, subst}
use Rattle.std.specs.Prelude.{filter, Result, Ok, Err, IfOk, IfSome}
use Rattle.std.specs.List.{AllByRecursion, filter_map}
use Rattle.std.proofs.lemmas.List.{take-append-drop}
use Rattle.std.proofs.lemmas.List.Sums.{length-filter}
use Rattle.sql_base.specs.Keys.{Rise}
use Rattle.sql_base.specs.Rows.{chosen, kinds, packed}
use Rattle.sql_base.specs.Tables.{SuitsTable}
use Rattle.sql_base.specs.Val.{filter_val}
use Rattle.sql_base.specs.declared.expressions.Expr.{Expr}
use Rattle.sql_base.specs.declared.faults.NoMemory.{NoMemory}
use Rattle.sql_base.specs.declared.key_ranges.KeyRange.{KeyRange}
use Rattle.sql_base.specs.declared.lock_names.Access.{Access}
use Rattle.sql_base.specs.declared.outcomes.Abort.{Abort}
use Rattle.sql_base.specs.declared.outcomes.Given.{Given}
use Rattle.sql_base.specs.declared.outcomes.Given.TheVariants.{Rows, Count}
use Rattle.sql_base.specs.declared.statements.Statement.{Statement}
use Rattle.sql_base.specs.declared.statements.Statement.TheVariants.{Select, Update, Delete, Insert, LockTable}
use Rattle.sql_base.specs.declared.tables.TableDef.{TableDef}
use Rattle.range_finder.specs.Range.{is_in, range}
use Rattle.one_thread.specs.One.{done_unless, fate, fault_in, given_of, one_on, predicate_of, selects, Done, IsScan, Records}
use Rattle.one_thread.specs.Scaffold.Cells.{now_of, nows, AreCells, IsKeyed}
use Rattle.one_thread.specs.Scaffold.Scans.{abort_by, abort_on, change_abort, changed, fate_at, first_abort, is_changed, read_abort, shown, ChangesIn, ReadsIn}
use Rattle.one_thread.specs.Scaffold.Statements.{Changing, Does, Selects}
use Rattle.one_thread.specs.declared.cells.Cell.{Cell}
use Rattle.one_thread.proofs.Changed.{records_abort, records_changed, records_read}
use Rattle.one_thread.proofs.Fates.{kept_all, scans_are_one}
use Rattle.one_thread.proofs.Keeping.{alike_both, alike_changed, alike_keys, alike_same, now_changed, restorable, Alike}
use Rattle.one_thread.proofs.Sweeps.{change_fault, read_fault, window_abort, window_filter, window_map, window_values}
use Rattle.sql_base.proofs.ListFacts.{all_joined, all_left, all_right}

is_scan : (s : Statement) → Changing s → IsScan s
is_scan (Update t sets predicate access) h = tt
is_scan (Delete t predicate access) h = tt
is_scan (Select t columns predicate access) h = absurd h
is_scan (Insert t row) h = absurd h
is_scan (LockTable t mode) h = absurd h

counts : (table : TableDef) (s : Statement) (rows : Records) → Changing s → given_of table s rows ≡ Count (length rows)
counts table (Update t sets predicate access) rows h = refl
counts table (Delete t predicate access) rows h = refl
counts table (Select t columns predicate access) rows h = absurd h
counts table (Insert t row) rows h = absurd h
counts table (LockTable t mode) rows h = absurd h

-- a change that doesn't fail, and one that does
done_by : (table : TableDef) (s : Statement) (rows more : Records) (n : ℕ) → Changing s → fault_in table s rows ≡ None → length (filter (selects table (predicate_of s)) rows) ≡ n → filter_map (fate table s) rows ≡ more
    → one_on table s rows ≡ record { given = Ok (Count n); records = more }
done_by table s rows more n is none count becomes =
    scans_are_one table s rows (is_scan s is)
    ∙ ap (λ o. done_unless o rows (record { given = Ok (given_of table s (filter (selects table (predicate_of s)) rows)); records = filter_map (fate table s) rows })) none
    ∙ ap {B = Done} (λ (g : Given). record { given = Ok g; records = filter_map (fate table s) rows }) (counts table s (filter (selects table (predicate_of s)) rows) is ∙ ap Count count)
    ∙ ap {B = Done} (λ (rs : Records). record { given = Ok (Count n); records = rs }) becomes

fails_by : (table : TableDef) (s : Statement) (rows : Records) (abort : Abort) → IsScan s → fault_in table s rows ≡ Some abort → one_on table s rows ≡ record { given = Err abort; records = rows }
fails_by table s rows abort is some =
    scans_are_one table s rows is
    ∙ ap (λ o. done_unless o rows (record { given = Ok (given_of table s (filter (selects table (predicate_of s)) rows)); records = filter_map (fate table s) rows })) some

pub change_done : (table : TableDef) (s : Statement) (found : Option KeyRange) (old new : List Cell) (n : ℕ) → Changing s → SuitsTable table s → found ≡ range table (predicate_of s) → AreCells table now_of old → ChangesIn table s found old new (Ok n)
    → Does table s old new (Ok (Count n))
change_done table s found old new n is suits found-is are (A, W, Z, W2, (whole, out, into, behind), made, (none, count, mapped)) =
    let IsNow : Cell → Type 0 = λ c. IfSome (now_of c) (IsKeyed table c.key) in
    let inside : Cell → Bool = λ c. is_in (range table (predicate_of s)) c.key in
    let a = subst (λ r. AllByRecursion (λ (c : Cell). is_in r c.key ≡ false) A) found-is out in
    let w = subst (λ r. AllByRecursion (λ (c : Cell). is_in r c.key ≡ true) W) found-is into in
    let z = subst (λ r. AllByRecursion (λ (c : Cell). is_in r c.key ≡ false) Z) found-is behind in
    let cells = A ++ (W ++ Z) in
    let keyed : AllByRecursion IsNow cells = subst (AllByRecursion IsNow) whole are.keyed in
    let gated : first_abort (λ c. cond (inside c) (change_abort table s c) None) cells ≡ None = window_abort inside (change_abort table s) A W Z a w z ∙ none in
    let fault : fault_in table s (nows cells) ≡ None = records_abort table s (λ key o. abort_by key (fate_at table s o)) (λ key. refl) (λ key row. change_fault table s key row is) cells keyed ∙ gated in
    let both = records_changed table s is cells keyed gated in
    let number : length (filter (selects table (predicate_of s)) (nows cells)) ≡ n =
    both.0 ∙ ap length (window_filter inside (is_changed table s) A W Z a w z) ∙ length-filter (is_changed table s) W ∙ sym count in
    let result : A ++ (map (changed table s) W ++ Z) ≡ new = ap (λ cs. A ++ (cs ++ Z)) (sym mapped) ∙ sym made in
    let becomes : filter_map (fate table s) (nows cells) ≡ nows new = both.1 ∙ ap nows (window_map inside (changed table s) A W Z a w z) ∙ ap nows result in
    let alike : Alike cells (A ++ (map (changed table s) W ++ Z)) = alike_both A A (W ++ Z) (map (changed table s) W ++ Z) (alike_same A) (alike_both W (map (changed table s) W) Z Z (alike_changed table s W) (alike_same Z)) in
    let likes : Alike old new = subst (λ cs. Alike cs new) (sym whole) (subst (Alike cells) result alike) in
    let rest = all_right IsNow A (W ++ Z) keyed in
    let new_keyed : AllByRecursion IsNow (A ++ (map (changed table s) W ++ Z)) = all_joined IsNow A (map (changed table s) W ++ Z) (all_left IsNow A (W ++ Z) keyed) (all_joined IsNow (map (changed table s) W) Z (now_changed table s W suits (all_left IsNow W Z rest)) (all_right IsNow W Z rest)) in (
      ap (λ cs. one_on table s (nows cs)) whole ∙ done_by table s (nows cells) (nows new) n is fault number becomes,
      record { rise = subst Rise (sym (alike_keys old new likes)) are.rise; keyed = subst (AllByRecursion IsNow) result new_keyed },
      restorable table old new likes,
    )

pub change_fails : (table : TableDef) (s : Statement) (found : Option KeyRange) (old new : List Cell) (abort : Abort) → Changing s → found ≡ range table (predicate_of s) → AreCells table now_of old → ChangesIn table s found old new (Err abort)
    → Does table s old new (Err abort)
change_fails table s found old new abort is found-is are (A, W, Z, W2, (whole, out, into, behind), made, (some, (i, partly))) =
    let IsNow : Cell → Type 0 = λ c. IfSome (now_of c) (IsKeyed table c.key) in
    let inside : Cell → Bool = λ c. is_in (range table (predicate_of s)) c.key in
    let a = subst (λ r. AllByRecursion (λ (c : Cell). is_in r c.key ≡ false) A) found-is out in
    let w = subst (λ r. AllByRecursion (λ (c : Cell). is_in r c.key ≡ true) W) found-is into in
    let z = subst (λ r. AllByRecursion (λ (c : Cell). is_in r c.key ≡ false) Z) found-is behind in
    let cells = A ++ (W ++ Z) in
    let keyed : AllByRecursion IsNow cells = subst (AllByRecursion IsNow) whole are.keyed in
    let fault : fault_in table s (nows cells) ≡ Some abort =
    records_abort table s (λ key o. abort_by key (fate_at table s o)) (λ key. refl) (λ key row. change_fault table s key row is) cells keyed ∙ window_abort inside (change_abort table s) A W Z a w z ∙ some in
    let part : Alike W W2 = subst (λ cs. Alike cs W2) (take-append-drop i W) (subst (Alike (take i W ++ drop i W)) (sym partly) (alike_both (take i W) (map (changed table s) (take i W)) (drop i W) (drop i W) (alike_changed table s (take i W)) (alike_same (drop i W)))) in
    let likes : Alike old new = subst (λ cs. Alike cs new) (sym whole) (subst (Alike cells) (sym made) (alike_both A A (W ++ Z) (W2 ++ Z) (alike_same A) (alike_both W W2 Z Z part (alike_same Z)))) in
    (ap (λ d. d.given) (ap (λ cs. one_on table s (nows cs)) whole ∙ fails_by table s (nows cells) abort (is_scan s is) fault), restorable table old new likes)

-- ---- SELECT

module _ (table : TableDef) (columns : List ℕ) (predicate : Option Expr) (found : Option KeyRange) (cells : List Cell) (found-is : found ≡ range table predicate) (are : AreCells table now_of cells) (t : ℕ) (access : Access) where
  abbrev s : Statement
  s = Select t columns predicate access

  abbrev IsNow : Cell → Type 0
  IsNow c = IfSome (now_of c) (IsKeyed table c.key)

  abbrev inside : Cell → Bool
  inside c = is_in (range table predicate) c.key

  fault_is : (A W Z : List Cell) → AllByRecursion (λ c. inside c ≡ false) A → AllByRecursion (λ c. inside c ≡ true) W → AllByRecursion (λ c. inside c ≡ false) Z → AllByRecursion IsNow (A ++ (W ++ Z))
      → fault_in table s (nows (A ++ (W ++ Z))) ≡ first_abort (read_abort predicate) W
  fault_is A W Z a w z keyed =
      records_abort table s (λ key o. abort_on key predicate o) (λ key. refl) (λ key row. read_fault key (filter_val predicate row)) (A ++ (W ++ Z)) keyed ∙ window_abort inside (read_abort predicate) A W Z a w z

  pub select_done : (rows : List (List ℕ)) → ReadsIn columns predicate found cells (Ok rows) → one_on table s (nows cells) ≡ record { given = Ok (Rows (chosen columns (kinds table)) rows); records = nows cells }
  select_done rows (A, W, Z, (whole, out, into, behind), (none, rows-are)) =
      let a = subst (λ r. AllByRecursion (λ (c : Cell). is_in r c.key ≡ false) A) found-is out in
      let w = subst (λ r. AllByRecursion (λ (c : Cell). is_in r c.key ≡ true) W) found-is into in
      let z = subst (λ r. AllByRecursion (λ (c : Cell). is_in r c.key ≡ false) Z) found-is behind in
      let keyed : AllByRecursion IsNow (A ++ (W ++ Z)) = subst (AllByRecursion IsNow) whole are.keyed in
      let fault : fault_in table s (nows cells) ≡ None = ap (λ cs. fault_in table s (nows cs)) whole ∙ fault_is A W Z a w z keyed ∙ none in
      let shows : map (packed columns) (filter (selects table predicate) (nows cells)) ≡ rows =
      ap (λ cs. map (packed columns) (filter (selects table predicate) (nows cs))) whole ∙ records_read table t columns predicate access (A ++ (W ++ Z)) keyed
      ∙ window_values inside (shown columns predicate) A W Z a w z ∙ sym rows-are in
      let kept : filter_map (fate table s) (nows cells) ≡ nows cells = kept_all (selects table predicate) (nows cells) in
      scans_are_one table s (nows cells) tt
      ∙ ap (λ o. done_unless o (nows cells) (record { given = Ok (given_of table s (filter (selects table predicate) (nows cells))); records = filter_map (fate table s) (nows cells) })) fault
      ∙ ap {B = Done} (λ (rs : List (List ℕ)). record { given = Ok (Rows (chosen columns (kinds table)) rs); records = filter_map (fate table s) (nows cells) }) shows
      ∙ ap {B = Done} (λ (rs : Records). record { given = Ok (Rows (chosen columns (kinds table)) rows); records = rs }) kept

  pub select_fails : (abort : Abort) → ReadsIn columns predicate found cells (Err abort) → one_on table s (nows cells) ≡ record { given = Err abort; records = nows cells }
  select_fails abort (A, W, Z, (whole, out, into, behind), some) =
      let a = subst (λ r. AllByRecursion (λ (c : Cell). is_in r c.key ≡ false) A) found-is out in
      let w = subst (λ r. AllByRecursion (λ (c : Cell). is_in r c.key ≡ true) W) found-is into in
      let z = subst (λ r. AllByRecursion (λ (c : Cell). is_in r c.key ≡ false) Z) found-is behind in
      let keyed : AllByRecursion IsNow (A ++ (W ++ Z)) = subst (AllByRecursion IsNow) whole are.keyed in
      fails_by table s (nows cells) abort tt (ap (λ cs. fault_in table s (nows cs)) whole ∙ fault_is A W Z a w z keyed ∙ some)

-- ---- every statement

does_select : (table : TableDef) (columns : List ℕ) (predicate : Option Expr) (cells : List Cell) (t : ℕ) (access : Access) (came : Result Given Abort) → AreCells table now_of cells → Selects table columns predicate cells came
    → Does table (Select t columns predicate access) cells cells came
does_select table columns predicate cells t access (Ok given) are h = (h t access, are, restorable table cells cells (alike_same cells))
does_select table columns predicate cells t access (Err abort) are h = (ap (λ d. d.given) (h t access), restorable table cells cells (alike_same cells))

pub does : (table : TableDef) (columns : List ℕ) (predicate : Option Expr) (s : Statement) (cells : List Cell) (t : ℕ) (access : Access) → s ≡ Select t columns predicate access → AreCells table now_of cells
    → (result : Result (Result Given Abort) NoMemory) → IfOk result (λ came. Selects table columns predicate cells came) → IfOk result (λ came. Does table s cells cells came)
does table columns predicate s cells t access is are (Ok came) h = subst (λ x. Does table x cells cells came) (sym is) (does_select table columns predicate cells t access came are h)
does table columns predicate s cells t access is are (Err e) h = tt
