use Rattle.std.proofs.Common.{rules, ◌≡◌, ◌<◌, ◌∷◌, length, map, ap, sym, ◌∙◌, arith}
use Rattle.std.specs.Vec.Iter.{into_iter_items, into_iter_len}
use Rattle.std.proofs.lemmas.List.{length-map}
use Rattle.executor_pool.proofs.Closings.{closed_last, closed_more, closed_start, next_one, ready_next, servers_there, some_later}
use Rattle.executor_pool.proofs.Sharing.{none_left}
use Rattle.executor_pool.proofs.returned.close_all.Goals as goal

pub loop-process-init : goal.loop-process-init
loop-process-init c opened ready = closed_start c.args.crew opened _ _ _ _ _ _ (search rules) (search rules) (search rules) ready

pub split_off-requires : goal.split_off-requires
split_off-requires c =
    let so_far = c.loop-process.invariant c.requires.0 c.requires.1 in
    let there = servers_there c.args.crew c.requires.0 _ _ _ _ _ _ _ so_far c.in-Some.ensures.steps.0 in
    let long = c.loop-process.servers.ok in
    omega (arith, there, long)

pub unwrap-requires : goal.unwrap-requires
unwrap-requires c =
    let so_far = c.loop-process.invariant c.requires.0 c.requires.1 in
    let some = some_later c.args.crew c.requires.0 _ _ _ _ _ _ _ so_far c.in-Some.ensures.steps.0 in
    let long = ap length some.2 in
    let mapped = length-map (into_iter_items c.loop-process.columns) (λ list. list.items) in
    let len = c.loop-process.columns.rest.ok.0 in
    let lt : 0 < into_iter_len c.loop-process.columns = omega (arith, long, mapped, len) in
    search (rules, lt)

pub close-requires : goal.close-requires
close-requires c =
    let so_far = c.loop-process.invariant c.requires.0 c.requires.1 in
    let front : into_iter_items c.loop-process.columns ≡ c.unwrap.result ∷ into_iter_items c.next-in-loop-process.new.self = search rules in (
      c.args.crew,
      length so_far.done,
      (next_one c.args.crew c.requires.0 _ _ _ _ _ _ _ so_far c.in-Some.ensures.steps.0).o,
      ready_next c.args.crew c.requires.0 _ _ _ _ _ _ _ so_far c.in-Some.ensures.steps.0 c.unwrap.result.items _ _ (ap (map (λ list. list.items)) front) c.in_ok-later.ensures.items,
    )

pub loop-process-preserved : goal.loop-process-preserved
loop-process-preserved c opened ready =
    let so_far = c.loop-process.invariant opened ready in
    let front : into_iter_items c.loop-process.columns ≡ c.unwrap.result ∷ into_iter_items c.next-in-loop-process.new.self = search rules in
    closed_more c.args.crew opened _ _ _ _ _ _ _ so_far c.in-Some.ensures.steps.0 c.unwrap.result.items _ _ _ _ _ (ap (map (λ list. list.items)) front) c.in_ok-later.ensures.items c.in_ok-later.ensures.tail c.in_ok-push.ensures.items
    (λ part o is_ready. c.in_ok-close.ensures c.args.crew part o is_ready)

pub returns : goal.returns
returns c opened ready = closed_last c.args.crew opened _ _ _ _ _ (c.loop-process.invariant opened ready) (none_left _ (sym c.loop-process.process-iterator.rest.ok.0 ∙ c.in-None.ensures.steps.0))
