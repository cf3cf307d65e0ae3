use Rattle.std.proofs.Common.{◌≡◌, take}
use Rattle.std.specs.Prelude.{flat_map}
use Rattle.one_thread.specs.Text.{shown_text}
use Rattle.one_thread.proofs.printing.print_run.Given as goal

-- the attempts so far
abbrev pub invariant-loop-attempt : goal.invariant-loop-attempt
invariant-loop-attempt l = l.out.items ≡ flat_map shown_text (take l.attempt-index l.shown)
