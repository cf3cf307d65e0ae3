use Rattle.std.proofs.Common.{◌≡◌, None, ap, sym, ◌∙◌, arith}
use Rattle.std.specs.Prelude.{find, option_and_then}
use Rattle.std.proofs.lemmas.Grind.{common_steps}
use Rattle.sql_base.specs.Locks.{same_txn}
use Rattle.partition_state.specs.declared.lives.Live.{Live}
use Rattle.partition_core.specs.Scaffold.Contents.{parts_of, state_of}
use Rattle.partition_core.proofs.Rooms.{settles-low, settles-no_floor}
use Rattle.partition_core.proofs.contents.Contents.end_commit.Goals as goal

pub returns-in_default-clause-settled : goal.returns-in_default-clause-settled
returns-in_default-clause-settled c = λ s.
    let none : None ≡ c.floor_of.result = grind (arith, common_steps) in
    let floor = none ∙ c.floor_of.ensures ∙ ap (λ ls. option_and_then (λ (l : Live). l.floor) (find (λ (l : Live). same_txn l.name c.args.t) ls)) c.deref-2.ensures.value in
    absurd (settles-no_floor (state_of (parts_of c.args.self.now)) c.args.t c.args.stamp (sym floor) s)

pub returns-then-stamp-floor-clause-settled : goal.returns-then-stamp-floor-clause-settled
returns-then-stamp-floor-clause-settled c = λ s.
    let floor = sym c.in-Some.is ∙ c.floor_of.ensures ∙ ap (λ ls. option_and_then (λ (l : Live). l.floor) (find (λ (l : Live). same_txn l.name c.args.t) ls)) c.deref-2.ensures.value in
    absurd (settles-low (state_of (parts_of c.args.self.now)) c.args.t c.args.stamp c.in-Some.floor (sym floor) c.if-stamp-floor.true s)
