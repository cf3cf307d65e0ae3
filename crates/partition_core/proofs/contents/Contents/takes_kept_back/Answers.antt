use Rattle.std.proofs.Common.{ap, sym, ◌∙◌, ◌&&◌}
use Rattle.std.specs.Prelude.{find, is_none, option_and_then}
use Rattle.std.specs.List.{list_any}
use Rattle.sql_base.specs.Locks.{same_txn}
use Rattle.partition_state.specs.declared.lives.Live.{Live}
use Rattle.partition_core.specs.Scaffold.Contents.{parts_of, state_of}
use Rattle.partition_core.specs.Rooms.{takes_kept_back}
use Rattle.partition_core.proofs.contents.Contents.takes_kept_back.Goals as goal

pub returns-in-Prepares : goal.returns-in-Prepares
returns-in-Prepares c =
    c.is_unprepared.ensures
    ∙ ap (λ ls. list_any (λ (l : Live). same_txn l.name c.args.t) ls && is_none (option_and_then (λ (l : Live). l.floor) (find (λ (l : Live). same_txn l.name c.args.t) ls))) c.deref.ensures.value
    ∙ sym (ap (takes_kept_back (state_of (parts_of c.args.self.now)) c.args.t) c.in-Prepares.is)
