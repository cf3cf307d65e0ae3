use Rattle.std.proofs.Common.{◌∷◌}
use Rattle.std.specs.Prelude.{codes, decimal}
use Rattle.one_thread.specs.Text.{outcome_words}
use Rattle.one_thread.proofs.Lines.{behind_two, line_written}
use Rattle.one_thread.proofs.printing.lines.put_attempt.Goals as goal

pub returns : goal.returns
returns c =
    let session = decimal c.args.shown.now.session in
    let ordinal = decimal c.args.shown.now.ordinal in
    let words = outcome_words c.args.shown.now.outcome in
    line_written c.args.out.now.items c.extend_from_slice.new.self.items c.put_outcome.new.out.items _ (codes "TXN") (session ∷ ordinal ∷ words) c.in_ok-extend_from_slice.ensures.items
    (behind_two c.extend_from_slice.new.self.items c.put_name.new.out.items c.put_outcome.new.out.items session ordinal words c.in_ok-put_name.ensures c.in_ok-put_outcome.ensures) c.in_ok-push.ensures.items
