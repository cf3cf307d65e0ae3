-- Each statement of the one session comes to what it comes to in one thread.
use Rattle.std.proofs.Common.{◌≡◌, ℕ, List, Option, Some, refl}
use Rattle.std.specs.Prelude.{slice_get}
use Rattle.sql_base.specs.Scripts.{IsScript}
use Rattle.sql_base.specs.Tables.{SuitsTable, table_of}
use Rattle.sql_base.specs.declared.lock_names.TxnName.{TxnName}
use Rattle.sql_base.specs.declared.outcomes.Abort.{Abort}
use Rattle.sql_base.specs.declared.scripts.Script.{Script}
use Rattle.sql_base.specs.declared.statements.Statement.{Statement}
use Rattle.sql_base.specs.declared.statements.Statement.TheVariants.{Select, Update, Delete, Insert, LockTable}
use Rattle.sql_base.specs.declared.tables.TableDef.{TableDef}
use Rattle.dp_messages.specs.declared.requests.Ask.TheVariants as ask
use Rattle.key_sequenced.specs.Cells.{Keyed}
use Rattle.partition_state.specs.State.{State}
use Rattle.range_finder.specs.Range.{range}
use Rattle.session_grammar.specs.Follows.{IsPart, asker}
use Rattle.session_grammar.specs.Plans.{filter_code}
use Rattle.session_grammar.specs.declared.logs.LogEntry.{LogEntry}
use Rattle.alone_laws.specs.Scaffold.States.{AllLively, AllReply, AreOpen, ComesTo}
use Rattle.sql_base.specs.Codes.{sets_code}
use Rattle.alone_laws.proofs.ScanPlans.{plan_is, range_comes, select_comes}
use Rattle.alone_laws.proofs.InsertSteps.{insert_comes}
use Rattle.alone_laws.proofs.LockSteps.{lock_comes}

-- each statement
pub statement_comes : (script : Script) (is : IsScript script) (statement : Statement) (table : TableDef) → slice_get script.tables (table_of statement) ≡ Some table → SuitsTable table statement
    → (qs : List State) → AreOpen script qs → (ordinal : ℕ) (t : TxnName) → t ≡ record { session = 1; ordinal = ordinal } → (bases : ℕ → List Keyed) (top : ℕ) → AllLively t bases top qs → (es : List LogEntry) → AllReply qs es
    → (end : Option Abort) → IsPart (asker script 1) ordinal statement es end → ComesTo script qs statement es end
statement_comes script is (Select n columns predicate access) table at suits qs open_qs ordinal t own bases top lively es replies end part =
    select_comes script is n columns predicate access table at suits qs open_qs ordinal t own bases top lively es replies end part
statement_comes script is (Update n sets predicate access) table at suits qs open_qs ordinal t own bases top lively es replies end part =
    range_comes script is (Update n sets predicate access) table at suits qs open_qs ordinal t own bases top lively es replies tt tt (range table predicate)
    (λ granule piece. ask.BeginUpdate access granule piece (filter_code predicate) (sets_code sets)) (λ granule piece. refl) (plan_is script (Update n sets predicate access) table at) end part
statement_comes script is (Delete n predicate access) table at suits qs open_qs ordinal t own bases top lively es replies end part =
    range_comes script is (Delete n predicate access) table at suits qs open_qs ordinal t own bases top lively es replies tt tt (range table predicate)
    (λ granule piece. ask.BeginDelete access granule piece (filter_code predicate)) (λ granule piece. refl) (plan_is script (Delete n predicate access) table at) end part
statement_comes script is (Insert n row) table at suits qs open_qs ordinal t own bases top lively es replies end part =
    insert_comes script is n row table at suits qs open_qs ordinal t own bases top lively es replies end part
statement_comes script is (LockTable n mode) table at suits qs open_qs ordinal t own bases top lively es replies end part =
    lock_comes script is n mode table at qs open_qs ordinal t own bases top lively es replies end part
