use Rattle.std.proofs.Common.{◌≡◌, ◌++◌, ◌+◌, length, map}
use Rattle.std.specs.List.{AllByRecursion}
use Rattle.std.specs.Vec.Iter.{into_iter_items}
use Rattle.partition_map.specs.Map.{cut}
use Rattle.statement_plans.specs.Scaffold.Begins.{sent_in}
use Rattle.statement_plans.proofs.Pieces.{IsBelow}
use Rattle.statement_plans.proofs.begins.begins.Given as goal

-- the Begins so far, with those of the pieces that are left
abbrev pub invariant-loop-piece : goal.invariant-loop-piece
invariant-loop-piece l =
    (l.sents ++ map (sent_in l.first l.range l.begin) (into_iter_items l.piece-iterator) ≡ map (sent_in l.first l.range l.begin) (cut l.table l.range))
    × AllByRecursion (IsBelow (length l.table.firsts + 1)) (into_iter_items l.piece-iterator)
