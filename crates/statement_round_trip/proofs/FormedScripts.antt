-- All words of a script that meets the rules are formed words.
use Rattle.std.proofs.Common.{◌≡◌, ◌≤◌, ℕ, zero, suc, List, [], ◌∷◌, map, Bool, true, false, Option, Some, None, cond, refl, sym, subst, arith}
use Rattle.std.specs.Prelude.{flat_map, slice_get, ◌==◌}
use Rattle.std.specs.List.{cons_option, AllByRecursion}
use Rattle.sql_base.specs.Kinds.{OfTruth, IsExpr}
use Rattle.sql_base.specs.Names.{IsShortName}
use Rattle.sql_base.specs.Rows.{chosen, key_kinds, kinds}
use Rattle.sql_base.specs.Scripts.{AreLimits, IsLoad, IsScript}
use Rattle.sql_base.specs.Tables.{are_leading, table_of, IsAssign, IsFilter, IsStatement, IsTable, IsWidth, SuitsTable}
use Rattle.sql_base.specs.declared.expressions.Expr.{Expr}
use Rattle.sql_base.specs.declared.lock_names.Access.{Access}
use Rattle.sql_base.specs.declared.scripts.Limits.{Limits}
use Rattle.sql_base.specs.declared.scripts.Load.{Load}
use Rattle.sql_base.specs.declared.scripts.Script.{Script}
use Rattle.sql_base.specs.declared.scripts.Work.{Work}
use Rattle.sql_base.specs.declared.statements.Assign.{Assign}
use Rattle.sql_base.specs.declared.statements.Statement.{Statement}
use Rattle.sql_base.specs.declared.statements.Statement.TheVariants as statement
use Rattle.sql_base.specs.declared.tables.Column.{Column}
use Rattle.sql_base.specs.declared.tables.ColumnKind.{ColumnKind}
use Rattle.sql_base.specs.declared.tables.ColumnKind.TheVariants as column_kinds
use Rattle.sql_base.specs.declared.tables.TableDef.{TableDef}
use Rattle.sql_base.specs.declared.values.Value.{Value}
use Rattle.statement_words.specs.declared.keywords.Keyword.{Keyword}
use Rattle.statement_words.specs.declared.keywords.Keyword.TheVariants as keys
use Rattle.statement_words.specs.declared.tokens.Sign.TheVariants as signs
use Rattle.statement_words.specs.Spans.{IsFormedWord}
use Rattle.statement_printer.specs.Printing.{access_words, check_words, column_words, declaration, declared_words, expr_words, filter_words, first_words, firsts_words, insert_words, in_parentheses, into_words, key_words, kind_words, limit_words, limits_words, load_words, name_word, place_words, row_words, script_words, session_words, set_words, sign, statement_words, table_name, table_words, with_commas, work_words, words_on}
use Rattle.statement_round_trip.proofs.FormedExpressions.{formed_expression}
use Rattle.statement_round_trip.proofs.FormedParts.{formed_all, formed_both, formed_commas, formed_first, formed_inside, formed_places, formed_row, AreFormed}
use Rattle.statement_round_trip.proofs.Naming.{name_at}
use Rattle.statement_round_trip.proofs.TableNames.{AreDeclared}
use Rattle.statement_round_trip.proofs.UpdatesRead.{column_of}
use Rattle.sql_base.proofs.ListFacts.{all-weaker}

-- ---- limits

formed_limit : (k : Keyword) (n : ℕ) → n ≤ 32768 → AreFormed (limit_words k n)
unfolding limit_words
formed_limit k n h = (tt, (omega (arith, h), (tt, tt)))

formed_restart : (n : ℕ) (none : Bool) → n ≤ 32768 → AreFormed (cond none [] (limit_words keys.Restart n))
formed_restart n true h = tt
formed_restart n false h = formed_limit keys.Restart n h

formed_limits : (l : Limits) → AreLimits l → AreFormed (limits_words l)
formed_limits l are =
    formed_both (limit_words keys.Quantum l.quantum) _ (formed_limit keys.Quantum l.quantum (omega (arith, are.quantum.1)))
    (formed_both (limit_words keys.Buffer l.buffer) _ (formed_limit keys.Buffer l.buffer are.buffer.1)
    (formed_both (limit_words keys.Patience l.patience) _ (formed_limit keys.Patience l.patience (omega (arith, are.patience)))
    (formed_both (limit_words keys.Servers l.servers) _ (formed_limit keys.Servers l.servers (omega (arith, are.servers.1)))
    (formed_restart l.restart (l.restart == 0) (omega (arith, are.restart))))))

-- ---- tables

formed_kind : (k : ColumnKind) → IsWidth k → AreFormed (kind_words k)
formed_kind column_kinds.Int w = (tt, tt)
formed_kind (column_kinds.Char n) w = (tt, (tt, (omega (arith, w.1), (tt, tt))))

formed_columns : (columns : List Column) → AllByRecursion (λ column. IsShortName column.name) columns → AllByRecursion IsWidth (map (λ column. column.kind) columns)
    → AreFormed (flat_map declared_words columns)
formed_columns [] named wide = tt
formed_columns (column ∷ columns) named wide =
    formed_both (declared_words column) (flat_map declared_words columns)
    (named.0.name, formed_both (kind_words column.kind) (sign signs.Comma ∷ []) (formed_kind column.kind wide.0) (tt, tt))
    (formed_columns columns named.1 wide.1)

formed_key : (table : TableDef) → IsTable table → AreFormed (key_words table.columns table.key)
unfolding key_words place_words
formed_key table is = (tt, (tt, formed_inside (with_commas (column_words table.columns) table.key) (formed_places table.columns is.column_names table.key is.key.within)))

formed_check : (table : TableDef) → IsTable table → (e : Expr) → IsExpr table OfTruth e → AreFormed (check_words table.columns e)
formed_check table is e suits = (tt, (tt, formed_inside (expr_words table.columns e) (formed_expression table is.column_names e OfTruth suits.typed)))

found_wide : (ks : List ColumnKind) (c : ℕ) (k : ColumnKind) → AllByRecursion IsWidth ks → slice_get ks c ≡ Some k → IsWidth k
found_wide [] zero k w h = absurd (cc (h))
found_wide [] (suc c) k w h = absurd (cc (h))
found_wide (x ∷ ks) zero k w h = subst IsWidth (same x k h) w.0
  where
    same : (x k : ColumnKind) → Some x ≡ Some k → x ≡ k
    same x k h = cc
found_wide (x ∷ ks) (suc c) k w h = found_wide ks c k w.1 h

wide_found : (o : Option ColumnKind) (rest : List ColumnKind) → ((k : ColumnKind) → o ≡ Some k → IsWidth k) → AllByRecursion IsWidth rest → AllByRecursion IsWidth (cons_option o rest)
wide_found None rest f w = w
wide_found (Some k) rest f w = (f k refl, w)

wide_at : (places : List ℕ) (ks : List ColumnKind) → AllByRecursion IsWidth ks → AllByRecursion IsWidth (chosen places ks)
wide_at [] ks w = tt
wide_at (c ∷ places) ks w = wide_found (slice_get ks c) (chosen places ks) (λ k h. found_wide ks c k w h) (wide_at places ks w)

formed_firsts : (table : TableDef) → IsTable table → (firsts : List (List Value)) → AllByRecursion (λ first. are_leading (key_kinds table) first ≡ true) firsts → AreFormed (firsts_words firsts)
formed_firsts table is [] h = tt
formed_firsts table is (first ∷ firsts) h =
    (tt, (tt, formed_commas first_words (first ∷ firsts) (all-weaker _ _ (λ vs leading. formed_first (key_kinds table) vs (wide_at table.key (kinds table) is.widths) leading) (first ∷ firsts) h)))

formed_table : (table : TableDef) → IsTable table → AreFormed (table_words table)
formed_table table is =
    let columns = flat_map declared_words table.columns in
    let checks = flat_map (check_words table.columns) table.checks in
    let declared = formed_both columns _ (formed_columns table.columns is.column_names is.widths)
    (formed_both (key_words table.columns table.key) checks (formed_key table is) (formed_all (check_words table.columns) table.checks (all-weaker _ _ (λ e suits. formed_check table is e suits) table.checks is.checks))) in (
      tt,
      (
        is.name.name,
        formed_both (in_parentheses (declaration table)) _ (formed_inside (declaration table) declared)
            (formed_both (firsts_words table.firsts) (sign signs.Semicolon ∷ []) (formed_firsts table is table.firsts is.firsts.leading) (tt, tt)),
      ),
    )

-- ---- loads

formed_load : (tables : List TableDef) → AreDeclared tables → (load : Load) → IsLoad tables load → AreFormed (load_words tables load)
formed_load tables declared load is =
    let table = is.0 in
    let fits = (declared load.table table is.1).is in (
      tt,
      (
        subst (λ (o : Option TableDef). IsFormedWord (table_name o)) (sym is.1) fits.name.name,
        formed_both (with_commas row_words load.rows) (sign signs.Semicolon ∷ [])
            (formed_commas row_words load.rows (all-weaker _ _ (λ row h. formed_row (kinds table) row fits.widths h) load.rows is.3.0)) (tt, tt),
      ),
    )

-- ---- statements

formed_filter : (table : TableDef) → IsTable table → (filter : Option Expr) → IsFilter table filter → AreFormed (filter_words table.columns filter)
formed_filter table is None suits = tt
formed_filter table is (Some e) suits = (tt, formed_expression table is.column_names e OfTruth suits.typed)

formed_access : (table : TableDef) → IsTable table → (filter : Option Expr) (a : Access) → IsFilter table filter → AreFormed (access_words table.columns filter a)
formed_access table is filter a suits = formed_both (filter_words table.columns filter) _ (formed_filter table is filter suits) (tt, (tt, (tt, (tt, tt))))

formed_sets : (table : TableDef) → IsTable table → (sets : List Assign) → AllByRecursion (IsAssign table) sets → AreFormed (with_commas (set_words table.columns) sets)
formed_sets table is sets all = formed_commas (set_words table.columns) sets (all-weaker _ _ formed_set sets all)
  where
    formed_set : (set : Assign) → IsAssign table set → AreFormed (set_words table.columns set)
    formed_set set suits =
        let named = column_of table set.column suits.0 suits.2 in (
          subst (λ (o : Option Column). IsFormedWord (name_word o)) (sym named.1) (name_at table.columns set.column named.0 is.column_names named.1),
          (tt, formed_expression table is.column_names set.value suits.1 suits.5.typed),
        )

formed_on : (table : TableDef) → IsTable table → (st : Statement) → SuitsTable table st → AreFormed (words_on (Some table) st)
unfolding insert_words into_words
formed_on table is (statement.Select t columns filter access) suits = (
  tt,
  formed_both (with_commas (column_words table.columns) columns) _ (formed_places table.columns is.column_names columns suits.0.within)
      (tt, (is.name.name, formed_access table is filter access suits.1)),
)
formed_on table is (statement.Update t sets filter access) suits =
    (tt, (is.name.name, (tt, formed_both (with_commas (set_words table.columns) sets) _ (formed_sets table is sets suits.0.each) (formed_access table is filter access suits.1))))
formed_on table is (statement.Delete t filter access) suits = (tt, (tt, (is.name.name, formed_access table is filter access suits.0)))
formed_on table is (statement.Insert t row) suits =
    (tt, (tt, (is.name.name, (tt, formed_both (row_words row) (sign signs.Semicolon ∷ []) (formed_row (kinds table) row is.widths suits) (tt, tt)))))
formed_on table is (statement.LockTable t mode) suits = (tt, (tt, (is.name.name, (tt, (tt, (tt, (tt, tt)))))))

formed_statement : (tables : List TableDef) → AreDeclared tables → (st : Statement) → IsStatement tables st → AreFormed (statement_words tables st)
formed_statement tables declared st is =
    subst (λ (o : Option TableDef). AreFormed (words_on o st)) (sym is.1) (formed_on is.0 (declared (table_of st) is.0 is.1).is st is.2)

formed_work : (tables : List TableDef) → AreDeclared tables → (work : Work) → AllByRecursion (IsStatement tables) work.statements → AreFormed (work_words tables work)
formed_work tables declared work all =
    formed_both (flat_map (statement_words tables) work.statements) _
    (formed_all (statement_words tables) work.statements (all-weaker _ _ (λ st is. formed_statement tables declared st is) work.statements all)) (tt, (tt, (tt, tt)))

formed_session : (tables : List TableDef) → AreDeclared tables → (works : List Work) → AllByRecursion (λ work. AllByRecursion (IsStatement tables) work.statements) works
    → AreFormed (session_words tables works)
formed_session tables declared works all =
    (tt, (tt, formed_all (work_words tables) works (all-weaker _ _ (λ work each_is. formed_work tables declared work each_is) works all)))

-- ---- the whole

pub formed_script : (script : Script) → IsScript script → AreDeclared script.tables → AreFormed (script_words script)
formed_script script is declared =
    let tables = flat_map table_words script.tables in
    let loads = flat_map (load_words script.tables) script.loads in
    let sessions = flat_map (session_words script.tables) script.sessions in
    formed_both (limits_words script.limits) _ (formed_limits script.limits is.limits)
    (formed_both tables _ (formed_all table_words script.tables (all-weaker _ _ (λ table suits. formed_table table suits) script.tables is.tables))
    (formed_both loads sessions (formed_all (load_words script.tables) script.loads (all-weaker _ _ (λ load suits. formed_load script.tables declared load suits) script.loads is.loads))
    (formed_all (session_words script.tables) script.sessions (all-weaker _ _ (λ works suits. formed_session script.tables declared works suits) script.sessions is.statements))))
