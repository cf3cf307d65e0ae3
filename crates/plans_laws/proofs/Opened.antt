-- The partitions of a script as they open.
use Rattle.std.proofs.Common.{◌≡◌, ◌<◌, ◌+◌, ℕ, [], ◌∷◌, length, Some, take, ap, sym, ◌∙◌}
use Rattle.std.specs.Prelude.{slice_get}
use Rattle.sql_base.specs.Scripts.{IsScript, parts_of}
use Rattle.sql_base.specs.Tables.{IsTable}
use Rattle.sql_base.specs.declared.scripts.Script.{Script}
use Rattle.sql_base.specs.declared.tables.TableDef.{TableDef}
use Rattle.partition_state.specs.State.{State, opening}
use Rattle.one_thread.specs.One.{load_rows}
use Rattle.run_record.specs.Openings.{openings, rows_in_part}
use Rattle.serial_laws.proofs.Opened.{opened-as}
use Rattle.sql_base.proofs.ListFacts.{all_at}

-- a partition of the script is one of its table, by its number among the table's
pub opens-here : (script : Script) (place j part : ℕ) (table : TableDef) (p : State) → slice_get script.tables place ≡ Some table → j < length table.firsts + 1
    → parts_of (take place script.tables) + j ≡ part → slice_get (openings script) part ≡ Some p → (p.table ≡ table) × (p.place ≡ j)
opens-here script place j part table p at lt is opens =
    let same : opening table j script.limits (rows_in_part table j (load_rows script.loads place)) ≡ p = cc (sym (opened-as script place j table at lt) ∙ ap (slice_get (openings script)) is ∙ opens) in
    (ap (λ (q : State). q.table) (sym same), ap (λ (q : State). q.place) (sym same))

pub table_is : (script : Script) (place : ℕ) (table : TableDef) → IsScript script → slice_get script.tables place ≡ Some table → IsTable table
table_is script place table is at = all_at IsTable script.tables place table is.tables at
