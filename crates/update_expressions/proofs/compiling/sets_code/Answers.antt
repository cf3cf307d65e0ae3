use Rattle.std.proofs.Common.{◌≤◌, length, arith}
use Rattle.update_expressions.proofs.Written.{few_sets}
use Rattle.update_expressions.proofs.compiling.sets_code.Goals as goal

pub overflow_cast-sets : goal.overflow_cast-sets
overflow_cast-sets c =
    let few : length c.args.sets.now ≤ length c.args.table.now.columns = few_sets c.args.table.now c.args.sets.now c.requires.sets in
    omega (arith, c.requires.columns)
