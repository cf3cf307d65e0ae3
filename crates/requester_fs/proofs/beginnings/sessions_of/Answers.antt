-- One session more, at its beginning.
use Rattle.std.proofs.Common.{◌≡◌, ◌+◌, ◌∙◌, List, suc, length, ap, arith, sym, subst}
use Rattle.std.proofs.lemmas.List.{length_push}
use Rattle.requester_fs.specs.Asking.{Asking}
use Rattle.requester_fs.specs.Beginnings.{EachAt, IsNew}
use Rattle.requester_fs.proofs.Lists.{each_more}
use Rattle.requester_fs.proofs.beginnings.sessions_of.Goals as goal

pub loop-at-preserved : goal.loop-at-preserved
loop-at-preserved c =
    let items = c.loop-at.sessions.items in
    let s = c.in_ok-new.field-0 in
    let number : s.number ≡ suc (length items) = c.in_ok-new.ensures.number ∙ omega (arith, c.loop-at.invariant.1) in
    let new : IsNew c.args.script.now (suc (length items)) s = record { script_is = c.in_ok-new.ensures.script; number_is = number; log = c.in_ok-new.ensures.begins; asking = c.in_ok-new.ensures.asking; one = c.in_ok-new.ensures.one } in
    subst (λ (xs : List Asking). EachAt (λ at a. IsNew c.args.script.now (suc at) a) xs × (length xs ≡ c.loop-at.at + 1)) (sym c.in_ok-push.ensures.items)
    (each_more (λ at a. IsNew c.args.script.now (suc at) a) items s c.loop-at.invariant.0 new, length_push items s ∙ ap (λ n. n + 1) c.loop-at.invariant.1)
