use Rattle.std.proofs.Common.{◌≡◌, List, Option, Some, None, Err, IfOk, ap, sym, ◌∙◌, subst}
use Rattle.std.specs.Option.{option_map}
use Rattle.sql_base.specs.declared.statements.Assign.{Assign}
use Rattle.predicate_codes.specs.Decoding.{filter_of}
use Rattle.predicate_codes.specs.SetLists.{sets_of}
use Rattle.quantum_core.specs.declared.works.Doing.TheVariants.{Update}
use Rattle.partition_state.specs.Step.{set_work}
use Rattle.partition_core.proofs.Coded.{no-doing, sets-none, sets-read}
use Rattle.partition_core.proofs.codes.read_update.Goals as goal
use Rattle.quantum_runner.proofs.Walking.{if_both}

pub returns-in-Ok-clause-work : goal.returns-in-Ok-clause-work
returns-in-Ok-clause-work c =
    let table = c.args.table.now in
    let is = c.in-Ok.ensures.verified in
    let read : sets_of table c.args.sets.now ≡ Some c.in-Ok.sets = sets-read table c.args.sets.now c.in-Ok.sets is.0 (sym c.bytes.ensures ∙ is.1) in
    subst (λ (o : Option (List Assign)). IfOk c.read_work.result (λ work. work ≡ set_work (filter_of table c.args.filter.now) (option_map Update o))) (sym read) c.read_work.ensures.work

pub returns-in-Err-clause-work : goal.returns-in-Err-clause-work
returns-in-Err-clause-work c =
    let table = c.args.table.now in
    if_both c.no_work.result _ _ _
    (λ work is bad.
    let none : sets_of table c.args.sets.now ≡ None = sets-none table c.args.sets.now (λ sets are same. c.verify_sets.ensures.bad_code (c.in-Err.is ∙ ap Err bad) sets are (c.bytes.ensures ∙ same)) in
    is ∙ sym (ap (λ (o : Option (List Assign)). set_work (filter_of table c.args.filter.now) (option_map Update o)) none ∙ no-doing (filter_of table c.args.filter.now)))
    c.no_work.ensures.none c.no_work.ensures.bad
