-- The partitions of a script as they open make the tables that the LOAD rows make.
use Rattle.std.proofs.Common.{◌≡◌, ◌≤◌, ◌+◌, ℕ, List, [], ◌∷◌, length, map, Some, refl, ap, sym, ◌∙◌, subst, arith}
use Rattle.std.specs.List.{AllByRecursion, range_with_len}
use Rattle.sql_base.specs.Scripts.{IsScript, parts_of}
use Rattle.sql_base.specs.declared.scripts.Limits.{Limits}
use Rattle.sql_base.specs.declared.scripts.Script.{Script}
use Rattle.sql_base.specs.declared.tables.TableDef.{TableDef}
use Rattle.sql_base.specs.declared.values.Value.{Value}
use Rattle.one_thread.specs.One.{load_rows, loaded}
use Rattle.partition_state.specs.State.{State, opening}
use Rattle.run_record.specs.Openings.{openings, openings_from, rows_in_part}
use Rattle.serial_laws.proofs.Opened.{opened-as, sound-at}
use Rattle.serial_passes.proofs.LoadedTables.{opened_tables}
use Rattle.alone_laws.specs.Scaffold.States.{AllCalm, AreOpen, IsOpen, world_of}
use Rattle.partition_laws.specs.Keeping.{lives_in}
use Rattle.state_facts.proofs.Openings.{opened-fresh}
use Rattle.sql_base.proofs.ListFacts.{all_at, all_joined}

-- the tables as they open are those of the LOAD rows
pub opened_world : (script : Script) → IsScript script → world_of script.tables (openings script) ≡ loaded script
opened_world script is = let again = opened_tables script is in λ i. record { tables = script.tables; records = again i }

-- they are the partitions of the script
pub opened_open : (script : Script) → IsScript script → parts_of script.tables ≤ length (openings script) → length (openings script) ≤ parts_of script.tables → AreOpen script (openings script)
opened_open script is enough few = record {
  enough = enough;
  few = few;
  here = λ place j table q at less there.
      let opened : State = opening table j script.limits (rows_in_part table j (load_rows script.loads place)) in
      let same : opened ≡ q = some_same opened q (sym (opened-as script place j table at less) ∙ there) in
      subst (IsOpen script table j) same (record { sound = sound-at script place j table is at; table_is = refl; limits_is = refl; place_is = refl });
}
  where
    some_same : (a b : State) → Some a ≡ Some b → a ≡ b
    some_same a b e = cc

-- nobody is live, and no stamp has come
low_places : (table : TableDef) (limits : Limits) (rows : List (List Value)) (places : List ℕ) → AllByRecursion (λ (q : State). q.high ≡ 0) (map (λ j. opening table j limits (rows_in_part table j rows)) places)
low_places table limits rows [] = tt
low_places table limits rows (j ∷ places) = (refl, low_places table limits rows places)

low_opening : (limits : Limits) (tables : List TableDef) (loads : List (List (List Value))) → AllByRecursion (λ (q : State). q.high ≡ 0) (openings_from limits tables loads)
low_opening limits [] loads = tt
low_opening limits (table ∷ tables) [] = tt
low_opening limits (table ∷ tables) (rows ∷ loads) =
    all_joined (λ (q : State). q.high ≡ 0) (map (λ j. opening table j limits (rows_in_part table j rows)) (range_with_len 0 (length table.firsts + 1))) (openings_from limits tables loads)
    (low_places table limits rows (range_with_len 0 (length table.firsts + 1))) (low_opening limits tables loads)

pub opened_calm : (script : Script) → IsScript script → AllCalm 0 (openings script)
opened_calm script is k q there =
    let fresh = opened-fresh script k q is there in
    let low : q.high ≡ 0 = all_at (λ (x : State). x.high ≡ 0) (openings script) k q (low_opening script.limits script.tables (loaded script).records) there in
    record { keeps = fresh.keeps; unlive = λ u. ap (λ lives. lives_in lives u) fresh.unlive; top_is = omega arith }
