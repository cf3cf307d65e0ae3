-- The cells of a range stand between others.
use Rattle.std.proofs.Common.{◌≡◌, ◌+◌, ◌-◌, ◌<◌, ℕ, List, [], ◌∷◌, ◌++◌, length, take, drop, true, false, Option, Some, None, ap, sym, ◌∙◌, subst, arith, length-drop}
use Rattle.std.specs.Prelude.{All, IfOk, IfSome, Result, Ok, Err}
use Rattle.std.specs.List.{AllByRecursion}
use Rattle.std.proofs.lemmas.List.{get_or-drop, take-append-drop}
use Rattle.std.proofs.lemmas.List.Elements.{All-from_recursion}
use Rattle.sql_base.specs.Tables.{AreColumns}
use Rattle.sql_base.specs.declared.key_ranges.KeyRange.{KeyRange}
use Rattle.sql_base.specs.declared.tables.TableDef.{TableDef}
use Rattle.sql_base.specs.declared.values.Value.{Value}
use Rattle.range_finder.specs.Range.{is_in}
use Rattle.one_thread.specs.Scaffold.Cells.{now_of, IsKeyed}
use Rattle.sql_base.specs.declared.expressions.Expr.{Expr}
use Rattle.sql_base.specs.declared.faults.NoMemory.{NoMemory}
use Rattle.sql_base.specs.declared.outcomes.Abort.{Abort}
use Rattle.one_thread.specs.Scaffold.Scans.{HasColumns, ScansRows, ReadsIn, Splits}
use Rattle.one_thread.specs.Scaffold.Windows.{IsWindow}
use Rattle.one_thread.specs.declared.cells.Cell.{Cell}
use Rattle.one_thread.proofs.Parts.{all_drop, all_take}

pub splits : (range : Option KeyRange) (cells : List Cell) (first end : ℕ) → IsWindow range cells first end
    → Splits range cells (take first cells) (take (end - first) (drop first cells)) (drop (end - first) (drop first cells))
splits range cells first end w =
    let from = drop first cells in
    let n = end - first in
    let order = w.order in
    let within = w.within in
    let whole : cells ≡ take first cells ++ (take n from ++ drop n from) = sym (ap (λ cs. take first cells ++ cs) (take-append-drop n from) ∙ take-append-drop first cells) in (
      whole,
      all_take (λ c. is_in range c.key ≡ false) cells first (omega arith) (λ k d lt. w.before k d (omega arith) lt),
      all_take (λ c. is_in range c.key ≡ true) from n (omega (arith, length-drop first cells)) (λ k d lt. rw (get_or-drop first cells k d) (w.inside (first + k) d (omega arith) (omega arith))),
      all_drop (λ c. is_in range c.key ≡ false) from n (λ k d le lt. rw (get_or-drop first cells k d) (w.behind (first + k) d (omega arith) (omega (arith, length-drop first cells)))),
    )

-- rows with a value for each column have the columns of the table
keyed_columns : (table : TableDef) (columns : List ℕ) (key : List ℕ) (o : Option (List Value)) → AreColumns table columns → IfSome o (IsKeyed table key) → IfSome o (λ row. All (λ c. c < length row) columns)
keyed_columns table columns key None are is = tt
keyed_columns table columns key (Some row) are is = subst (λ n. All (λ c. c < n) columns) (sym is.1) (All-from_recursion (λ c. c < length table.columns) columns are.within)

pub have_columns : (table : TableDef) (columns : List ℕ) (cells : List Cell) → AreColumns table columns → AllByRecursion (λ c. IfSome (now_of c) (IsKeyed table c.key)) cells → AllByRecursion (HasColumns columns) cells
have_columns table columns [] are is = tt
have_columns table columns (c ∷ cells) are is = (keyed_columns table columns c.key c.row are is.0, have_columns table columns cells are is.1)

pub reads_in : (columns : List ℕ) (predicate : Option Expr) (range : Option KeyRange) (cells : List Cell) (first end : ℕ) → IsWindow range cells first end → (result : Result (Result (List (List ℕ)) Abort) NoMemory)
    → IfOk result (λ came. ScansRows columns predicate (take (end - first) (drop first cells)) came) → IfOk result (λ came. ReadsIn columns predicate range cells came)
reads_in columns predicate range cells first end w (Ok came) reads = (take first cells, take (end - first) (drop first cells), drop (end - first) (drop first cells), splits range cells first end w, reads)
reads_in columns predicate range cells first end w (Err e) reads = tt
