use Rattle.std.proofs.Common.{rules, ◌≡◌, ◌∷◌, ◌++◌, [], Ok, map, ap, sym, ◌∙◌, append_assoc}
use Rattle.std.specs.List.{flat_map}
use Rattle.std.specs.Vec.Iter.{into_iter_items}
use Rattle.std.proofs.lemmas.Grind.{flat_map-append}
use Rattle.std.proofs.lemmas.List.{append-nil}
use Rattle.sql_base.proofs.ListFacts.{map-push}
use Rattle.executor_pool.specs.Closing.{server_in, session_in}
use Rattle.executor_pool.proofs.Sharing.{none_left}
use Rattle.executor_pool.proofs.returned.take_back.Goals as goal

pub loop-done-preserved : goal.loop-done-preserved
loop-done-preserved g c =
    let at = c.loop-done.invariant in
    let d = c.in_ok-done.field-0 in
    let same : c.in-Some.done ≡ Ok d = search rules in (
      at.0 ++ d ∷ [],
      ap (λ rs. rs ++ into_iter_items c.next.new.self) (map-push Ok at.0 d) ∙ append_assoc (map Ok at.0) (Ok d ∷ []) (into_iter_items c.next.new.self)
          ∙ ap (λ r. map Ok at.0 ++ r ∷ into_iter_items c.next.new.self) (sym same) ∙ ap (λ rs. map Ok at.0 ++ rs) (sym c.in-Some.ensures.steps.0) ∙ at.1,
      c.in_ok-take_one.ensures.sessions ∙ ap (λ ss. ss ++ session_in d) at.2 ∙ ap (λ ss. flat_map session_in at.0 ++ ss) (sym (append-nil (session_in d))) ∙ sym (flat_map-append session_in at.0 (d ∷ [])),
      c.in_ok-take_one.ensures.servers ∙ ap (λ ss. ss ++ server_in d) at.3 ∙ ap (λ ss. flat_map server_in at.0 ++ ss) (sym (append-nil (server_in d))) ∙ sym (flat_map-append server_in at.0 (d ∷ [])),
    )

pub returns : goal.returns
returns g c =
    let at = c.loop-done.invariant in
    let none = none_left _ (sym c.loop-done.done-iterator.rest.ok.0 ∙ c.in-None.ensures.steps.0) in
    (at.0, sym at.1 ∙ ap (λ rs. map Ok at.0 ++ rs) none ∙ append-nil (map Ok at.0), at.2, at.3)
