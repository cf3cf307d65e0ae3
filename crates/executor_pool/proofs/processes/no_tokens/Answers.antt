use Rattle.std.proofs.Common.{◌+◌, ◌∷◌, ◌++◌, [], List, ℕ, map, ap, sym, ◌∙◌}
use Rattle.std.specs.List.{range_with_len}
use Rattle.sql_base.proofs.ListFacts.{map-push, range-push}
use Rattle.executor_pool.specs.declared.tokens.Tokens.{Tokens}
use Rattle.executor_pool.proofs.processes.no_tokens.Goals as goal

pub loop-preserved : goal.loop-preserved
loop-preserved c =
    let none : ℕ → List Tokens = λ n. [] in
    let numbers = range_with_len 0 c.loop.counter in
    ap (map (λ row. row.items)) c.in_ok-push.ensures.items ∙ map-push (λ row. row.items) c.loop.rows.items _ ∙ (λ i. c.loop.invariant i ++ c.new.ensures.items i ∷ [])
    ∙ sym (ap (map none) (range-push 0 c.loop.counter) ∙ map-push none numbers (0 + c.loop.counter))
