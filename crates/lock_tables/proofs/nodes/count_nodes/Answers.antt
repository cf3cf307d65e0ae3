use Rattle.std.proofs.Common.{◌≡◌, ◌∙◌, ap, arith, rules, ◌+◌, get_or}
use Rattle.std.specs.Prelude.{slice_get}
use Rattle.std.specs.Option.{option_copied}
use Rattle.lock_tables.specs.Nodes.{fresh}
use Rattle.lock_tables.proofs.FreshNodes.{found_at, fresh_at}
use Rattle.lock_tables.proofs.nodes.count_nodes.Goals as goal

pub loop-at-preserved : goal.loop-at-preserved
loop-at-preserved c =
    let locks = c.args.locks.now in
    let next : option_copied c.get.result ≡ slice_get c.args.locks.now (c.loop-at.at + 1) =
    found_at locks (c.loop-at.at + 1) c.get.result c.get.ensures.lookup.0 c.get.ensures.lookup.1 in
    let own : c.count_fresh.result ≡ fresh (get_or c.args.locks.now c.loop-at.at c.index-locks-at.result).prefix (slice_get c.args.locks.now (c.loop-at.at + 1)) =
    c.count_fresh.ensures ∙ ap (λ bytes. fresh bytes (option_copied c.get.result)) c.bytes.ensures ∙ ap (fresh (get_or c.args.locks.now c.loop-at.at c.index-locks-at.result).prefix) next in
    let more = fresh_at locks c.loop-at.at c.index-locks-at.result c.requires (search rules) in
    let before = c.loop-at.invariant in
    (omega (arith, own, more, before.0), omega (arith, before.1, c.count_fresh.type_inv))
