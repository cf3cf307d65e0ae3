use Rattle.std.proofs.Common.{List, [], ◌∷◌, ◌++◌, map, ap, sym, ◌∙◌, subst, append_assoc}
use Rattle.std.specs.List.{AllZip}
use Rattle.std.proofs.lemmas.List.{map-append}
use Rattle.session_grammar.specs.declared.logs.LogEntry.{LogEntry}
use Rattle.executor_pool.proofs.ending.logs_of.Goals as goal
use Rattle.sql_base.proofs.ListFacts.{zip-push}

pub loop-requester-preserved : goal.loop-requester-preserved
loop-requester-preserved g c =
    let at = c.loop-requester in
    let q = c.in-Some.requester in
    let log_in : g.row.Q.Denot → List LogEntry = λ x. (g.Q.Requester.asking x).log in
    let pushed = c.in_ok-push.ensures.ok in (
      pushed ∙ ap (λ logs. logs ++ c.ended.result ∷ []) at.invariant.0 ∙ ap (λ log. map log_in at.yielded ++ log ∷ []) c.ended.ensures.log
          ∙ sym (map-append log_in at.yielded (q ∷ [])),
      subst (λ logs. AllZip g.Q.Requester.allows (at.yielded ++ q ∷ []) logs) (sym pushed)
          (zip-push g.Q.Requester.allows at.yielded at.logs q c.ended.result at.invariant.1 c.ended.ensures.allowed),
      at.invariant.2 ∙ ap (λ rest. at.yielded ++ rest) c.in-Some.ensures.steps.0 ∙ sym (append_assoc at.yielded (q ∷ []) _),
    )
