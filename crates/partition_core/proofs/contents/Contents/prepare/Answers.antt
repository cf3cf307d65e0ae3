use Rattle.std.proofs.Common.{ap, sym, ◌∙◌}
use Rattle.std.specs.Prelude.{find, option_and_then}
use Rattle.sql_base.specs.Locks.{same_txn}
use Rattle.partition_state.specs.declared.lives.Live.{Live}
use Rattle.partition_core.specs.Scaffold.Contents.{parts_of, state_of}
use Rattle.partition_core.proofs.Rooms.{settles-prepared}
use Rattle.partition_core.proofs.contents.Contents.prepare.Goals as goal

pub returns-in-Some-clause-settled : goal.returns-in-Some-clause-settled
returns-in-Some-clause-settled c = λ s.
    let floor = sym c.in-Some.is ∙ c.floor_of.ensures ∙ ap (λ ls. option_and_then (λ (l : Live). l.floor) (find (λ (l : Live). same_txn l.name c.args.t) ls)) c.deref-2.ensures.value in
    absurd (settles-prepared (state_of (parts_of c.args.self.now)) c.args.t c.in-Some.floor (sym floor) s)
