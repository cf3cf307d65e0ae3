-- What the sink took in this turn makes the front longer.
use Rattle.std.proofs.Common.{rules, ◌+◌, ◌∙◌, ap, drop}
use Rattle.std.proofs.lemmas.List.{take_rest, drop-drop}
use Rattle.nonstop_sql.proofs.Known.{front_grows}
use Rattle.nonstop_sql.proofs.output.write_all.Goals as goal

pub loop-rest-preserved : goal.loop-rest-preserved
loop-rest-preserved g c =
    let before = c.loop-rest.invariant in
    let count = c.in_ok-count.count in
    record {
      written = before.written + count;
      rest = take_rest _ count ∙ ap (drop count) before.rest ∙ drop-drop count before.written c.args.bytes.now;
      taken = front_grows _ _ _ _ _ _ _ _ before.rest (search rules) before.taken c.in_ok-count.ensures.taken;
      counted = search rules;
    }
