-- Each opening of a script can be spelled, and so can all replies of a history from it.
use Rattle.std.proofs.Common.{◌≡◌, ◌+◌, ℕ, zero, suc, List, [], ◌∷◌, ◌++◌, length, map, replicate, Some, refl, ap, sym, ◌∙◌, arith}
use Rattle.std.specs.Prelude.{slice_get}
use Rattle.std.specs.List.{AllByRecursion, range_with_len}
use Rattle.sql_base.specs.Scripts.{AreLimits, IsScript}
use Rattle.sql_base.specs.Tables.{IsTable}
use Rattle.sql_base.specs.declared.scripts.Limits.{Limits}
use Rattle.sql_base.specs.declared.scripts.Script.{Script}
use Rattle.sql_base.specs.declared.tables.TableDef.{TableDef}
use Rattle.sql_base.specs.declared.values.Value.{Value}
use Rattle.dp_messages.specs.Spelling.{HasFour, IsReply, IsShort}
use Rattle.one_thread.specs.One.{load_rows}
use Rattle.partition_state.specs.History.{IsLegal, replay}
use Rattle.partition_state.specs.State.{Opener, State, new_cell, new_opener, opening}
use Rattle.partition_state.specs.Step.{step}
use Rattle.partition_state.specs.declared.entries.Entry.{Entry}
use Rattle.partition_laws.specs.Keeping.{CellHas}
use Rattle.ranges_laws.proofs.Ranges.{keys_are_keys}
use Rattle.run_record.specs.Openings.{openings, openings_from, rows_in_part}
use Rattle.serial_laws.specs.Scaffold.Sound.{FitsHere, Sound}
use Rattle.serial_laws.proofs.Opened.{sound-at, sound-opening}
use Rattle.plans_laws.specs.Spelled.{CameSpelled, HistoriesSpelled, OpensSpelled, Spelled, envelope_of}
use Rattle.plans_laws.proofs.Opened.{table_is}
use Rattle.plans_laws.proofs.SpelledSteps.{replies_spelled, steps_spelled}
use Rattle.sql_base.proofs.ListFacts.{all-map, all_at, all_of, all_joined}

all-replicate : {X : Type 0} (P : X → Type 0) (n : ℕ) (x : X) → P x → AllByRecursion P (replicate n x)
all-replicate P zero x h = tt
all-replicate P (suc n) x h = (h, all-replicate P n x h)

-- the keys of records of the table
keys-short : (table : TableDef) (place : ℕ) (rows : List (List Value)) → IsTable table → AllByRecursion (CellHas (FitsHere table place)) (map (new_cell table) rows) → AllByRecursion (λ cell. IsShort cell.key) (map (new_cell table) rows)
keys-short table place [] is h = tt
keys-short table place (row ∷ rows) is h =
    let long = (keys_are_keys table row h.0.0.2).0 in
    let few = is.key_bytes in
    (omega (arith, long, few), keys-short table place rows is h.1)

opened-spelled : (table : TableDef) (place : ℕ) (limits : Limits) (rows : List (List Value)) → IsTable table → AreLimits limits → Sound (opening table place limits rows) → Spelled (opening table place limits rows)
opened-spelled table place limits rows is are sound =
    let none : HasFour 0 = omega arith in
    record {
      table = is;
      limits = are;
      keeps = sound.keeps;
      parts = record { keys = keys-short table place rows is sound.rows.rows; locks = tt; starts = tt; lives = tt; ended = all-replicate (λ (o : Opener). HasFour o.ended) 8 new_opener none; high = omega arith };
    }

pub opens_spelled : OpensSpelled
opens_spelled table place limits rows is are records = opened-spelled table place limits (rows_in_part table place rows) is are (sound-opening table place limits rows records)

openings-spelled : (script : Script) → IsScript script → (tables : List TableDef) (a : ℕ) → ((i : ℕ) (table : TableDef) → slice_get tables i ≡ Some table → slice_get script.tables (a + i) ≡ Some table)
    → AllByRecursion Spelled (openings_from script.limits tables (map (load_rows script.loads) (range_with_len a (length tables))))
openings-spelled script is [] a at = tt
openings-spelled script is (table ∷ tables) a at =
    let zero_more : a + 0 ≡ a = omega arith in
    let here : slice_get script.tables a ≡ Some table = ap (slice_get script.tables) (sym zero_more) ∙ at 0 table refl in
    let open_at : ℕ → State = λ place. opening table place script.limits (rows_in_part table place (load_rows script.loads a)) in
    let places = range_with_len 0 (length table.firsts + 1) in
    all_joined Spelled (map open_at places) (openings_from script.limits tables (map (load_rows script.loads) (range_with_len (a + 1) (length tables))))
    (all-map Spelled open_at places (all_of (λ place. Spelled (open_at place)) (λ place. opened-spelled table place script.limits (rows_in_part table place (load_rows script.loads a)) (table_is script a table is here) is.limits (sound-at script a place table is here)) places))
    (openings-spelled script is tables (a + 1) (λ i t e. let more : a + suc i ≡ a + 1 + i = omega arith in ap (slice_get script.tables) (sym more) ∙ at (suc i) t e))

pub opening-spelled : (script : Script) (part : ℕ) (p : State) → IsScript script → slice_get (openings script) part ≡ Some p → Spelled p
opening-spelled script part p is there =
    all_at Spelled (openings script) part p (openings-spelled script is script.tables 0 (λ i table e. let same : 0 + i ≡ i = omega arith in ap (slice_get script.tables) same ∙ e)) there

pub history-spelled : (p : State) (history : List Entry) → Spelled p → IsLegal p history → CameSpelled history → Spelled (replay p history) × AllByRecursion (λ e. IsReply e.reply) history
history-spelled p [] h legal came = (h, tt)
history-spelled p (e ∷ es) h legal came =
    let next = steps_spelled p (envelope_of e) h came.0 in
    let rest = history-spelled (step p e.opener e.sync e.request).state es next legal.2 came.1 in
    (rest.0, (replies_spelled p (envelope_of e) e.reply h came.0 legal.1, rest.1))

pub histories_spelled : HistoriesSpelled
histories_spelled script part p history is there legal came = history-spelled p history (opening-spelled script part p is there) legal came
