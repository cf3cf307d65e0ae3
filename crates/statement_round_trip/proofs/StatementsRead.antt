-- Every statement is read as it is printed.
use Rattle.std.proofs.Common.{◌≡◌, List, ◌∷◌, ◌++◌, Option, Some, ap}
use Rattle.std.specs.Prelude.{slice_get}
use Rattle.sql_base.specs.Tables.{table_of, IsStatement, SuitsTable}
use Rattle.sql_base.specs.declared.statements.Statement.{Statement}
use Rattle.sql_base.specs.declared.statements.Statement.TheVariants as statement
use Rattle.sql_base.specs.declared.tables.TableDef.{TableDef}
use Rattle.statement_words.specs.declared.tokens.Word.{Word}
use Rattle.statement_grammar.specs.Grammar.{part}
use Rattle.statement_grammar.specs.declared.symbols.Part.{Part}
use Rattle.statement_grammar.specs.declared.symbols.Symbol.{Symbol}
use Rattle.statement_draft.specs.declared.draft.Draft.{Draft}
use Rattle.statement_printer.specs.Printing.{statement_words, words_on}
use Rattle.statement_round_trip.specs.Onward.{ReadsOn}
use Rattle.statement_round_trip.proofs.Beginning.{Begins}
use Rattle.statement_round_trip.proofs.InsertsRead.{insert_reads, recorded, FewRecords}
use Rattle.statement_round_trip.proofs.LocksRead.{delete_reads, lock_reads, Behind}
use Rattle.statement_round_trip.proofs.Onward.{spelled}
use Rattle.statement_round_trip.proofs.SelectsRead.{select_reads}
use Rattle.statement_round_trip.proofs.TableNames.{AreDeclared, Declared}
use Rattle.statement_round_trip.proofs.UpdatesRead.{update_reads}

-- an INSERT counts as a record
abbrev pub with_record : Statement → Draft → Draft
with_record (statement.Insert t row) d = recorded d
with_record st d = d

-- and there must be room for it
abbrev pub HasRoom : Statement → Draft → Type 0
HasRoom (statement.Insert t row) d = FewRecords d
HasRoom st d = Unit {0}

on_its_table : (p : Part) (d after : Draft) → Begins p d after → (st : Statement) (table : TableDef) → Declared after.tables (table_of st) table
    → slice_get after.tables (table_of st) ≡ Some table → SuitsTable table st → HasRoom st after
    → (s : List Symbol) (w : Word) (ws : List Word) (Last : Draft → Type 0) → Behind st (with_record st after) s w ws Last
    → ReadsOn (part p ∷ s) d (words_on (Some table) st ++ w ∷ ws) Last
on_its_table p d after begins (statement.Select t columns filter access) table is here suits room s w ws Last more =
    select_reads p d after begins t table columns filter access is here suits.0 suits.1 s w ws Last more
on_its_table p d after begins (statement.Update t sets filter access) table is here suits room s w ws Last more =
    update_reads p d after begins t table sets filter access is here suits.0 suits.1 suits.2 s w ws Last more
on_its_table p d after begins (statement.Delete t filter access) table is here suits room s w ws Last more =
    delete_reads p d after begins t table filter access is here suits.0 suits.1 s w ws Last more
on_its_table p d after begins (statement.Insert t row) table is here suits room s w ws Last more =
    insert_reads p d after begins t table row is here suits room s w ws Last more
on_its_table p d after begins (statement.LockTable t mode) table is here suits room s w ws Last more =
    lock_reads p d after begins t table mode is s w ws Last more

-- a statement of the script, and what is behind it
pub statement_reads : (p : Part) (d after : Draft) → Begins p d after → AreDeclared after.tables → (st : Statement) → IsStatement after.tables st → HasRoom st after
    → (s : List Symbol) (w : Word) (ws : List Word) (Last : Draft → Type 0) → Behind st (with_record st after) s w ws Last
    → ReadsOn (part p ∷ s) d (statement_words after.tables st ++ w ∷ ws) Last
statement_reads p d after begins declared st is room s w ws Last more =
    spelled _ d _ _ Last (ap (λ (o : Option TableDef). words_on o st ++ w ∷ ws) is.1)
    (on_its_table p d after begins st is.0 (declared (table_of st) is.0 is.1) is.1 is.2 room s w ws Last more)
