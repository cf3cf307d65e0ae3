use Rattle.std.proofs.Common.{◌≡◌, ◌++◌, ◌+◌, length, map, ap, sym, ◌∙◌, subst, arith}
use Rattle.std.specs.List.{AllByRecursion}
use Rattle.std.specs.Vec.Iter.{into_iter_items}
use Rattle.partition_map.specs.Map.{cut}
use Rattle.statement_plans.specs.Scaffold.Begins.{sent_in}
use Rattle.statement_plans.proofs.Pieces.{IsBelow, pieces_below}
use Rattle.statement_plans.proofs.Sents.{begins_more}
use Rattle.statement_plans.proofs.begins.begins.Goals as goal

pub loop-piece-init : goal.loop-piece-init
loop-piece-init c =
    let table = c.args.table.now in
    let range = c.args.range.now in
    let gives : into_iter_items c.into_iter-piece-iterator.result ≡ c.into_vec-piece-items.result.items = c.into_iter-piece-iterator.ensures.into_iter_gives.0 in
    let items : into_iter_items c.into_iter-piece-iterator.result ≡ cut table range = gives ∙ c.into_vec-piece-items.ensures ∙ c.in_ok-cut.ensures in (
      ap (λ xs. xs ++ map (sent_in c.args.first range c.args.begin.now) (into_iter_items c.into_iter-piece-iterator.result)) c.new-sents.ensures ∙ ap (map (sent_in c.args.first range c.args.begin.now)) items,
      subst (AllByRecursion (IsBelow (length table.firsts + 1))) (sym items) (pieces_below table range),
    )

pub loop-piece-preserved : goal.loop-piece-preserved
loop-piece-preserved c =
    let table = c.args.table.now in
    let range = c.args.range.now in
    let next = c.in-Some.ensures.steps.0 in
    let below = subst (AllByRecursion (IsBelow (length table.firsts + 1))) next c.loop-piece.invariant.1 in (
      begins_more c.args.first range c.args.begin.now c.loop-piece.sents c.push.new.self c.in-Some.piece (into_iter_items c.next.new.self) (into_iter_items c.loop-piece.piece-iterator) (cut table range)
          c.in_ok-ask.ask c.in_ok-granule.granule c.in_ok-push.ensures.ok c.in_ok-ask.ensures c.in_ok-granule.ensures next c.loop-piece.invariant.0,
      below.1,
    )

pub overflow_add-first : goal.overflow_add-first
overflow_add-first c =
    let below = subst (AllByRecursion (IsBelow (length c.args.table.now.firsts + 1))) c.in-Some.ensures.steps.0 c.loop-piece.invariant.1 in
    omega (arith, below.0, c.requires.firsts, c.requires.few)
