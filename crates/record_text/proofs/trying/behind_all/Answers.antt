use Rattle.std.proofs.Common.{rules, ◌≡◌, ◌<◌, ◌+◌, ◌-◌, drop, ap, sym, ◌∙◌}
use Rattle.record_text.specs.Scaffold.Reading.{behind, behind_all}
use Rattle.record_text.proofs.Loops.{behind-more}
use Rattle.record_text.proofs.trying.behind_all.Goals as goal

pub loop-place-preserved : goal.loop-place-preserved
loop-place-preserved c =
    let ordinal = c.args.ordinal in
    let many = c.args.many in
    let place = c.loop-place.place in
    let rest = c.loop-place.rest.now in
    let lt : place < many = search rules in
    let left : behind (ordinal + place) rest ≡ c.split_at.result.1.now = sym (c.split_at.ensures.back ∙ ap (λ n. drop n rest) c.own_length.ensures.length) in
    c.loop-place.invariant ∙ behind-more ordinal many place rest lt ∙ ap (behind_all (ordinal + (place + 1)) (many - (place + 1))) left
