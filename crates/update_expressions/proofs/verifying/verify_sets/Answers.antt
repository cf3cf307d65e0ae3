use Rattle.std.proofs.Common.{rules, ◌≡◌, ◌≤◌, ◌∷◌, length, map, Err, ap, sym, ◌∙◌, arith}
use Rattle.predicate_codes.specs.SetLists.{are_sets, sets_of}
use Rattle.predicate_runner.specs.declared.steps.CodeFault.TheVariants.{BadCode}
use Rattle.update_expressions.specs.Entries.{set_in}
use Rattle.update_expressions.proofs.Reading.{no_sets, sets-not, sets-read, sets-unread}
use Rattle.update_expressions.proofs.verifying.verify_sets.Goals as goal

pub returns-in_err-sets-clause-bad_code : goal.returns-in_err-sets-clause-bad_code
returns-in_err-sets-clause-bad_code c = λ e.
    let split : c.args.code.now ≡ c.in-Some.count.now ∷ c.in-Some.entries.now = search rules in
    let fault : c.verify_entries.result ≡ Err BadCode = search rules in
    no_sets c.args.table.now c.args.code.now (ap (sets_of c.args.table.now) split ∙ sets-unread c.args.table.now c.in-Some.count.now c.in-Some.entries.now (c.verify_entries.ensures.bad fault))

pub returns-then-are_sets-clause-verified : goal.returns-then-are_sets-clause-verified
returns-then-are_sets-clause-verified c =
    let split : c.args.code.now ≡ c.in-Some.count.now ∷ c.in-Some.entries.now = search rules in
    let short : length (c.in-Some.count.now ∷ c.in-Some.entries.now) ≤ 8192 = omega (arith, ap length split, c.if-code-gt8192.false) in
    let read = sets-read c.args.table.now c.in-Some.count.now c.in-Some.entries.now (map set_in c.in_ok-sets.sets) c.in_ok-sets.ensures.ok (ap (λ sets. are_sets (map set_in sets)) (sym c.items.ensures) ∙ sym c.are_sets.ensures ∙ c.if-are_sets.true) short in
    (read.0, split ∙ read.1)

pub returns-else-are_sets-clause-bad_code : goal.returns-else-are_sets-clause-bad_code
returns-else-are_sets-clause-bad_code c = λ e.
    let split : c.args.code.now ≡ c.in-Some.count.now ∷ c.in-Some.entries.now = search rules in
    no_sets c.args.table.now c.args.code.now
    (ap (sets_of c.args.table.now) split ∙ sets-not c.args.table.now c.in-Some.count.now c.in-Some.entries.now (map set_in c.in_ok-sets.sets) c.in_ok-sets.ensures.ok (ap (λ sets. are_sets (map set_in sets)) (sym c.items.ensures) ∙ sym c.are_sets.ensures ∙ c.if-are_sets.false))
