use Rattle.std.proofs.Common.{List, [], ◌∷◌, ◌++◌, map, ap, sym, ◌∙◌, subst, append_assoc}
use Rattle.std.specs.List.{AllZip}
use Rattle.std.proofs.lemmas.List.{map-append}
use Rattle.session_grammar.specs.declared.logs.LogEntry.{LogEntry}
use Rattle.step_world.specs.declared.seats.Seat.{Seat}
use Rattle.step_world.proofs.ending.logs_of.Goals as goal
use Rattle.sql_base.proofs.ListFacts.{zip-push}

pub loop-seat-preserved : goal.loop-seat-preserved
loop-seat-preserved g c =
    let at = c.loop-seat in
    let seat = c.in-Some.seat in
    let log_in : Seat g.row.Q.Denot → List LogEntry = λ s. (g.Q.Requester.asking s.requester).log in
    let pushed = c.in_ok-push.ensures.ok in (
      pushed ∙ ap (λ logs. logs ++ c.ended.result ∷ []) at.invariant.0 ∙ ap (λ log. map log_in at.yielded ++ log ∷ []) c.ended.ensures.log
          ∙ sym (map-append log_in at.yielded (seat ∷ [])),
      subst (λ logs. AllZip (λ s log. g.Q.Requester.allows s.requester log) (at.yielded ++ seat ∷ []) logs) (sym pushed)
          (zip-push (λ s log. g.Q.Requester.allows s.requester log) at.yielded at.logs seat c.ended.result at.invariant.1 c.ended.ensures.allowed),
      at.invariant.2 ∙ ap (λ rest. at.yielded ++ rest) c.in-Some.ensures.steps.0 ∙ sym (append_assoc at.yielded (seat ∷ []) _),
    )
