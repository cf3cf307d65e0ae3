use Rattle.std.proofs.Common.{[], ◌+◌, length, refl, ap, sym, ◌∙◌, arith}
use Rattle.std.specs.List.{range_with_len}
use Rattle.std.proofs.lemmas.List.{length-map}
use Rattle.mail_queue.specs.Tokens.{new_poster, new_taker}
use Rattle.partition_core.specs.Kept.{opened_with}
use Rattle.turn_lock.specs.Pass.{new_pass}
use Rattle.sql_base.proofs.ListFacts.{range-length}
use Rattle.executor_pool.specs.Dealing.{Opened}
use Rattle.executor_pool.proofs.Sharing.{first_many, later_many, servers_dealt, tokens_dealt}
use Rattle.executor_pool.proofs.processes.share.Goals as goal

pub split_off-requires : goal.split_off-requires
split_off-requires g c =
    let passes = c.in_ok-partition.ensures.passes in
    let many = ap length passes ∙ length-map (range_with_len 0 (c.args.crew.sessions + c.args.crew.servers)) (new_pass c.in_ok-partition.partition (opened_with c.args.partition.opening)) ∙ range-length (c.args.crew.sessions + c.args.crew.servers) 0 in
    let long = c.in_ok-partition.passes.ok in
    omega (arith, many, long)

pub deal_tokens-requires-clause-posters : goal.deal_tokens-requires-clause-posters
deal_tokens-requires-clause-posters g c =
    let o : Opened = record { process = record { partition = c.in_ok-partition.partition; mail = c.in_ok-mail.mail }; opening = c.args.partition.opening } in
    let posters = ap length c.in_ok-mail.ensures.posters ∙ length-map (range_with_len 0 c.args.crew.sessions) (new_poster c.in_ok-mail.mail) ∙ range-length c.args.crew.sessions 0 in
    let own = first_many c.args.crew o c.in_ok-partition.passes.items [] [] c.in_ok-mail.takers.items [] [] c.in_ok-partition.ensures.passes c.in_ok-mail.ensures.takers (new_pass o.process.partition (opened_with o.opening)) _ _ c.in_ok-partition.ensures.passes c.in_ok-later_passes.ensures.items in
    posters ∙ sym own

pub deal_tokens-requires-clause-takers : goal.deal_tokens-requires-clause-takers
deal_tokens-requires-clause-takers g c =
    let o : Opened = record { process = record { partition = c.in_ok-partition.partition; mail = c.in_ok-mail.mail }; opening = c.args.partition.opening } in
    let takers = first_many c.args.crew o c.in_ok-partition.passes.items [] [] c.in_ok-mail.takers.items [] [] c.in_ok-partition.ensures.passes c.in_ok-mail.ensures.takers (new_taker o.process.mail) _ _ c.in_ok-mail.ensures.takers c.in_ok-later_takers.ensures.items in
    let own = first_many c.args.crew o c.in_ok-partition.passes.items [] [] c.in_ok-mail.takers.items [] [] c.in_ok-partition.ensures.passes c.in_ok-mail.ensures.takers (new_pass o.process.partition (opened_with o.opening)) _ _ c.in_ok-partition.ensures.passes c.in_ok-later_passes.ensures.items in
    takers ∙ sym own

pub deal_servers-requires : goal.deal_servers-requires
deal_servers-requires g c =
    let o : Opened = record { process = record { partition = c.in_ok-partition.partition; mail = c.in_ok-mail.mail }; opening = c.args.partition.opening } in
    let takers = later_many c.args.crew o c.in_ok-partition.passes.items [] [] c.in_ok-mail.takers.items [] [] c.in_ok-partition.ensures.passes c.in_ok-mail.ensures.takers (new_taker o.process.mail) _ _ c.in_ok-mail.ensures.takers c.in_ok-later_takers.ensures.tail in
    let own = later_many c.args.crew o c.in_ok-partition.passes.items [] [] c.in_ok-mail.takers.items [] [] c.in_ok-partition.ensures.passes c.in_ok-mail.ensures.takers (new_pass o.process.partition (opened_with o.opening)) _ _ c.in_ok-partition.ensures.passes c.in_ok-later_passes.ensures.tail in
    takers ∙ sym own

pub returns : goal.returns
returns g c =
    let o : Opened = record { process = record { partition = c.in_ok-partition.partition; mail = c.in_ok-mail.mail }; opening = c.args.partition.opening } in (
      o,
      refl,
      refl,
      record { passes = c.in_ok-partition.ensures.lock; posters = c.in_ok-mail.ensures.mail.0; takers = c.in_ok-mail.ensures.mail.1 },
      tokens_dealt c.args.crew o _ _ [] _ _ [] c.in_ok-partition.ensures.passes c.in_ok-mail.ensures.takers _ _ c.in_ok-mail.ensures.posters c.in_ok-later_passes.ensures.items c.in_ok-later_takers.ensures.items c.in_ok-tokens.ensures,
      servers_dealt c.args.crew o _ [] _ _ [] _ c.in_ok-partition.ensures.passes c.in_ok-mail.ensures.takers _ _ c.in_ok-later_passes.ensures.tail c.in_ok-later_takers.ensures.tail c.in_ok-servers.ensures,
    )
