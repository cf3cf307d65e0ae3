use Rattle.std.proofs.Common.{length, ap, sym, ◌∙◌}
use Rattle.std.specs.List.{range_with_len}
use Rattle.std.proofs.lemmas.List.{length-map}
use Rattle.sql_base.proofs.ListFacts.{range-length}
use Rattle.executor_pool.specs.Dealing.{tokens_to}
use Rattle.executor_pool.proofs.Sharing.{rows_many, shared_more}
use Rattle.executor_pool.proofs.processes.share_one.Goals as goal

pub lengthen-requires : goal.lengthen-requires
lengthen-requires g c =
    let e = c.in_ok-process.ensures in
    let so_far = c.requires.so_far in
    ap length e.4 ∙ length-map (range_with_len 0 c.args.crew.sessions) (λ n. tokens_to n e.0) ∙ range-length c.args.crew.sessions 0 ∙ sym (rows_many c.args.crew so_far.0 c.args.shares so_far.2)

pub returns : goal.returns
returns g c =
    let e = c.in_ok-process.ensures in (
      e.0,
      e.1,
      λ opened many are. shared_more c.args.crew opened c.args.part c.args.shares _ e.0 c.in_ok-process.process c.in_ok-process.own.items c.in_ok-process.rest.items many are e.3 e.2 e.4 e.5 c.in_ok-push.ensures.items c.in_ok-lengthen.ensures c.in_ok-append.ensures.items,
    )
