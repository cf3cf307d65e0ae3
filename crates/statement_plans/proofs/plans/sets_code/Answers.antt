use Rattle.statement_plans.proofs.Sets.{memory_is, no_fault}
use Rattle.statement_plans.proofs.Tables.{sets_typed}
use Rattle.statement_plans.proofs.plans.sets_code.Goals as goal

pub compile_sets-requires-clause-sets : goal.compile_sets-requires-clause-sets
compile_sets-requires-clause-sets c = sets_typed c.args.table.now c.args.sets.now c.requires.sets

pub no_memory-requires : goal.no_memory-requires
no_memory-requires c =
    memory_is c.in-Err.fault (λ other. no_fault c.args.table.now c.args.sets.now c.in-Err.fault c.requires.sets (c.compile_sets.ensures.refused c.in-Err.fault c.in-Err.is other))
