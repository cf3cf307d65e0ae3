use Rattle.std.proofs.Common.{◌≡◌, ◌+◌, ◌++◌, ◌∷◌, [], length, map, ap, sym, ◌∙◌, append_assoc, arith}
use Rattle.std.specs.List.{range_with_len}
use Rattle.std.proofs.lemmas.List.{length-map}
use Rattle.sql_base.proofs.ListFacts.{map-push, range-length}
use Rattle.executor_pool.specs.Closing.{column}
use Rattle.executor_pool.specs.Dealing.{lengthened}
use Rattle.executor_pool.proofs.Closings.{columns_more, session_long}
use Rattle.executor_pool.proofs.returned.take_apart.Goals as goal

pub lengthen-requires : goal.lengthen-requires
lengthen-requires g c =
    let at = c.loop-session in
    let columns = sym (length-map at.columns.items (λ list. list.items)) ∙ ap length at.invariant.0 ∙ length-map (range_with_len 0 c.args.parts) (column (map (λ s. s.tokens.items) at.yielded)) ∙ range-length c.args.parts 0 in
    session_long c.args.parts c.args.sessions.items at.yielded _ _ c.in-Some.session c.requires at.invariant.3 c.in-Some.ensures.steps.0 ∙ sym columns

pub loop-session-preserved : goal.loop-session-preserved
loop-session-preserved g c =
    let at = c.loop-session in
    let s = c.in-Some.session in
    let rows = map (λ s. s.tokens.items) at.yielded in
    let long = session_long c.args.parts c.args.sessions.items at.yielded _ _ s c.requires at.invariant.3 c.in-Some.ensures.steps.0 in
    let none : c.args.parts ≡ 0 + c.args.parts = omega arith in (
      c.in_ok-columns-2.ensures ∙ ap (λ cs. lengthened cs s.tokens.items) at.invariant.0 ∙ columns_more rows s.tokens.items 0 c.args.parts (long ∙ none)
          ∙ ap (λ rs. map (column rs) (range_with_len 0 c.args.parts)) (sym (map-push (λ s. s.tokens.items) at.yielded s)),
      c.in_ok-push.ensures.items ∙ ap (λ ps. ps ++ s.commits ∷ []) at.invariant.1 ∙ sym (map-push (λ s. s.commits) at.yielded s),
      c.in_ok-push-2.ensures.items ∙ ap (λ qs. qs ++ s.requester ∷ []) at.invariant.2 ∙ sym (map-push (λ s. s.requester) at.yielded s),
      at.invariant.3 ∙ ap (λ rest. at.yielded ++ rest) c.in-Some.ensures.steps.0 ∙ sym (append_assoc at.yielded (s ∷ []) _),
    )
