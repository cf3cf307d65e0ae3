use Rattle.std.proofs.Common.{◌≡◌, ◌++◌, filter, map}
use Rattle.std.specs.Option.{option_copied}
use Rattle.sql_base.specs.Keys.{is_from}
use Rattle.quantum_core.specs.Verdicts.{judged}
use Rattle.quantum_runner.proofs.Walking.{Walked}
use Rattle.quantum_runner.proofs.walks.walk.Given as goal

-- the candidates among the cells from the start so far are handled
abbrev pub invariant-loop-cell : goal.invariant-loop-cell
invariant-loop-cell l =
    goal.iterator-loop-cell.can_next l.cell-iterator × goal.iterator-loop-cell.is_finite l.cell-iterator
    × (map (λ x. x.now) l.yielded ++ l.cell-iterator ≡ filter (λ c. is_from l.block.start c.key) l.file.cells)
    × Walked l.limits l.block.holder (judged l.table l.locks.locks l.block (map (λ x. x.now) l.yielded)) l.done.rows l.done.room l.done.visits l.done.changed l.done.plans (option_copied l.last)
