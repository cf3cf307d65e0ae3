use Rattle.std.proofs.Common.{rules, ◌≡◌, ◌-◌, ◌+◌, ◌++◌, [], ◌∷◌, List, suc, drop, map, Err, ap, sym, ◌∙◌, arith}
use Rattle.std.specs.Prelude.{option_map}
use Rattle.std.proofs.lemmas.List.{map-append, take_rest}
use Rattle.sql_base.specs.declared.statements.Assign.{Assign}
use Rattle.predicate_codes.specs.SetLists.{assigns_in}
use Rattle.predicate_runner.specs.declared.steps.CodeFault.TheVariants.{BadCode}
use Rattle.update_expressions.specs.Entries.{entry_of, set_in}
use Rattle.update_expressions.specs.declared.verifying.VerifiedSet.{VerifiedSet}
use Rattle.update_expressions.proofs.Reading.{assigns-goes, assigns-stop}
use Rattle.update_expressions.proofs.verifying.verify_entries.Goals as goal

pub returns-in_err-entry-clause-bad : goal.returns-in_err-entry-clause-bad
returns-in_err-entry-clause-bad c = λ e.
    let fault : c.verify_entry.result ≡ Err BadCode = search rules in
    let left = c.args.count - (c.loop.counter + 1) in
    let counts : c.args.count - c.loop.counter ≡ suc left = omega (arith, c.loop-test.true) in
    sym c.loop.invariant ∙ ap (λ n. option_map (λ rest. map set_in c.loop.sets ++ rest) (assigns_in c.args.table.now n c.loop.rest.now)) counts
    ∙ assigns-stop c.args.table.now left c.loop.rest.now (map set_in c.loop.sets) (c.verify_entry.ensures.bad fault)

pub loop-preserved : goal.loop-preserved
loop-preserved c =
    let table = c.args.table.now in
    let rest = c.loop.rest.now in
    let done = map set_in c.loop.sets in
    let entry = c.in_ok-entry.entry in
    let left = c.args.count - (c.loop.counter + 1) in
    let counts : c.args.count - c.loop.counter ≡ suc left = omega (arith, c.loop-test.true) in
    ap (λ bytes. option_map (λ later. map set_in c.push.new.self ++ later) (assigns_in table left bytes)) (take_rest rest entry.size)
    ∙ ap (λ (sets : List VerifiedSet). option_map (λ later. map set_in sets ++ later) (assigns_in table left (drop entry.size rest))) c.in_ok-push.ensures.ok
    ∙ ap (λ (sets : List Assign). option_map (λ later. sets ++ later) (assigns_in table left (drop entry.size rest))) (map-append set_in c.loop.sets (entry.set ∷ []))
    ∙ assigns-goes table left rest done (entry_of entry) c.in_ok-entry.ensures.ok
    ∙ ap (λ n. option_map (λ later. done ++ later) (assigns_in table n rest)) (sym counts)
    ∙ c.loop.invariant
