-- A transaction that draws isn't in the journal.
use Rattle.std.proofs.Common.{Err, ap, sym, ◌∙◌}
use Rattle.std.specs.Prelude.{option_map}
use Rattle.step_world.proofs.actions.draw.Goals as goal

pub unreachable-requires : goal.unreachable-requires
unreachable-requires c =
    let found = (c.commit.ensures.already c.in-Err-AlreadyCommitted.field-0-0).0 (c.in-Err-AlreadyCommitted.is ∙ ap Err c.in-Err-AlreadyCommitted.field-0-is) in
    absurd (cc (sym (ap (option_map (λ d. d.stamp)) c.requires.fresh) ∙ found))
