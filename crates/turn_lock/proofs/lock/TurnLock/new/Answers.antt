use Rattle.std.proofs.Common.{[], ◌∷◌, ◌++◌, Some, sym, ap, ◌∙◌, subst, map, arith, refl, ◌-◌}
use Rattle.atomic_table.specs.Table.{opening}
use Rattle.turn_lock.specs.Rule.{Kept}
use Rattle.turn_lock.specs.View.{first_view, start_of}
use Rattle.std.specs.List.{range_with_len}
use Rattle.turn_lock.specs.declared.view.Opening.{Opening}
use Rattle.turn_lock.proofs.Making.{all_of, new_pass-same}
use Rattle.turn_lock.proofs.Steps.{starts}
use Rattle.turn_lock.proofs.lock.TurnLock.new.Goals as goal

pub new-requires : goal.new-requires
new-requires g c =
    let one = c.in_ok-push.ensures.items ∙ ap (λ xs. xs ++ Some c.args.value ∷ []) c.new-slots.ensures.items in
    let start = start_of g.V.StandsFor.root record { value = c.of.result; passes = c.args.passes } in
    subst (λ xs. Kept g.V.StandsFor.history g.V.StandsFor.root start (opening (0 ∷ 0 ∷ 1 ∷ []) xs (first_view start))) (sym one)
    (starts g.V.StandsFor.history g.V.StandsFor.root start c.args.value c.requires.empty (ap g.V.StandsFor.root (sym c.of.ensures)) c.requires.some (omega arith))

pub returns-clause-passes : goal.returns-clause-passes
returns-clause-passes g c =
    let made = c.in-Ok.ensures.ok in
    let rest = c.in_ok-rest.ensures in
    let items = c.in_ok-append.ensures.items ∙ ap (λ l. l ++ c.in_ok-rest.rest.items) (c.in_ok-push-2.ensures.items ∙ ap (λ l. l ++ c.pass_of.result ∷ []) c.in_ok-list.ensures.items) in
    let passes = ap (λ (o : Opening _). o.passes) (sym made.5) in
    let root = ap g.V.StandsFor.root c.of.ensures in
    let first_is = c.pass_of.ensures ∙ ap (λ f. f 0) (new_pass-same _ _ _ _ _ _ (rest.first.0 ∙ made.2) passes root) in
    let rest_is = rest.passes ∙ ap (λ f. map f (range_with_len 1 (c.args.passes - 1))) (new_pass-same _ _ _ _ _ _ refl passes root) in
    items ∙ all_of _ c.args.passes c.in_ok-rest.rest.items c.pass_of.result c.requires.some first_is rest_is
