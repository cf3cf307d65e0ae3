use Rattle.std.proofs.Common.{rules, cond, ap, ◌∙◌, ◌≡◌, ◌<◌, ◌-◌, suc, length, get_or}
use Rattle.record_text.specs.Scaffold.Reading.{closes}
use Rattle.record_text.proofs.Loops.{part-more}
use Rattle.record_text.proofs.finished.part_length.Goals as goal

pub loop-place-preserved : goal.loop-place-preserved
loop-place-preserved c =
    let es = c.args.entries.now in
    let i = c.loop-place.place in
    let e = c.index-entries-place.result in
    let within : i < length es = search rules in
    let is : e ≡ get_or es i e = search rules in
    let some : c.loop-place.left ≡ suc (c.loop-place.left - 1) = search rules in
    part-more c.args.many c.loop-place.left es i c.loop-place.invariant e within is (c.loop-place.left - 1) c.left_behind-left.result some
    (c.left_behind-left.ensures ∙ ap (λ n. cond (closes e) (c.loop-place.left - 1) n) some)
