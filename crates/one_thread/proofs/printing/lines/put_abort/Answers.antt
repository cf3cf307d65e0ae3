use Rattle.std.proofs.lemmas.Result.{IfOk-equal}
use Rattle.one_thread.proofs.Lines.{then_key}
use Rattle.one_thread.proofs.printing.lines.put_abort.Goals as goal

pub returns-in_ok-extend_from_slice-in-Duplicate :
    goal.returns-in_ok-extend_from_slice-in-Duplicate
returns-in_ok-extend_from_slice-in-Duplicate c =
    rw c.in-Duplicate.is (IfOk-equal _ _ _ _ c.put_key-in-Duplicate.ensures (then_key _ _ _ _ c.in_ok-extend_from_slice-in-Duplicate.ensures.items))
