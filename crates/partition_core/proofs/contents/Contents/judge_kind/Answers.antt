use Rattle.std.proofs.Common.{◌≡◌, IfOk, ap, sym, subst}
use Rattle.dp_messages.specs.declared.requests.Ask.{Ask}
use Rattle.partition_state.specs.Step.{by_kind}
use Rattle.partition_core.specs.Scaffold.Changes.{tells}
use Rattle.partition_core.specs.Scaffold.Contents.{parts_of, state_of}
use Rattle.partition_state.specs.Step.{is_closing}
use Rattle.partition_core.specs.Settling.{settles}
use Rattle.partition_core.proofs.Rooms.{if_unsettled}
use Rattle.partition_core.proofs.contents.Contents.judge_kind.Goals as goal
use Rattle.sql_base.proofs.Truths.{on_err}

pub returns-in-BeginRead-clause-told : goal.returns-in-BeginRead-clause-told
returns-in-BeginRead-clause-told c =
    subst (λ (ask : Ask). IfOk c.begin_read.result (λ j. tells (state_of (parts_of c.args.self.now)) c.args.t j ≡ by_kind (state_of (parts_of c.args.self.now)) c.args.t ask)) (sym c.in-BeginRead.is) c.begin_read.ensures.told

pub returns-in-BeginUpdate-clause-told : goal.returns-in-BeginUpdate-clause-told
returns-in-BeginUpdate-clause-told c =
    subst (λ (ask : Ask). IfOk c.begin_update.result (λ j. tells (state_of (parts_of c.args.self.now)) c.args.t j ≡ by_kind (state_of (parts_of c.args.self.now)) c.args.t ask)) (sym c.in-BeginUpdate.is) c.begin_update.ensures.told

pub returns-in-BeginDelete-clause-told : goal.returns-in-BeginDelete-clause-told
returns-in-BeginDelete-clause-told c =
    subst (λ (ask : Ask). IfOk c.begin_delete.result (λ j. tells (state_of (parts_of c.args.self.now)) c.args.t j ≡ by_kind (state_of (parts_of c.args.self.now)) c.args.t ask)) (sym c.in-BeginDelete.is) c.begin_delete.ensures.told

pub returns-in-ReadKey-clause-told : goal.returns-in-ReadKey-clause-told
returns-in-ReadKey-clause-told c =
    subst (λ (ask : Ask). IfOk c.read_key.result (λ j. tells (state_of (parts_of c.args.self.now)) c.args.t j ≡ by_kind (state_of (parts_of c.args.self.now)) c.args.t ask)) (sym c.in-ReadKey.is) c.read_key.ensures.told

pub returns-in-BeginRead-clause-settled : goal.returns-in-BeginRead-clause-settled
returns-in-BeginRead-clause-settled c = let q = parts_of c.args.self.now in if_unsettled (state_of q) c.args.t c.args.ask.now c.begin_read.result (ap (settles (state_of q) c.args.t) c.in-BeginRead.is)

pub returns-in-BeginRead-clause-closing : goal.returns-in-BeginRead-clause-closing
returns-in-BeginRead-clause-closing c = on_err c.begin_read.result (ap is_closing c.in-BeginRead.is)

pub returns-in-BeginUpdate-clause-settled : goal.returns-in-BeginUpdate-clause-settled
returns-in-BeginUpdate-clause-settled c = let q = parts_of c.args.self.now in if_unsettled (state_of q) c.args.t c.args.ask.now c.begin_update.result (ap (settles (state_of q) c.args.t) c.in-BeginUpdate.is)

pub returns-in-BeginUpdate-clause-closing : goal.returns-in-BeginUpdate-clause-closing
returns-in-BeginUpdate-clause-closing c = on_err c.begin_update.result (ap is_closing c.in-BeginUpdate.is)

pub returns-in-BeginDelete-clause-settled : goal.returns-in-BeginDelete-clause-settled
returns-in-BeginDelete-clause-settled c = let q = parts_of c.args.self.now in if_unsettled (state_of q) c.args.t c.args.ask.now c.begin_delete.result (ap (settles (state_of q) c.args.t) c.in-BeginDelete.is)

pub returns-in-BeginDelete-clause-closing : goal.returns-in-BeginDelete-clause-closing
returns-in-BeginDelete-clause-closing c = on_err c.begin_delete.result (ap is_closing c.in-BeginDelete.is)

pub returns-in-Continue-clause-settled : goal.returns-in-Continue-clause-settled
returns-in-Continue-clause-settled c = let q = parts_of c.args.self.now in if_unsettled (state_of q) c.args.t c.args.ask.now c.go_on.result (ap (settles (state_of q) c.args.t) c.in-Continue.is)

pub returns-in-Continue-clause-closing : goal.returns-in-Continue-clause-closing
returns-in-Continue-clause-closing c = on_err c.go_on.result (ap is_closing c.in-Continue.is)

pub returns-in-ReadKey-clause-settled : goal.returns-in-ReadKey-clause-settled
returns-in-ReadKey-clause-settled c = let q = parts_of c.args.self.now in if_unsettled (state_of q) c.args.t c.args.ask.now c.read_key.result (ap (settles (state_of q) c.args.t) c.in-ReadKey.is)

pub returns-in-ReadKey-clause-closing : goal.returns-in-ReadKey-clause-closing
returns-in-ReadKey-clause-closing c = on_err c.read_key.result (ap is_closing c.in-ReadKey.is)

pub returns-in-Insert-clause-settled : goal.returns-in-Insert-clause-settled
returns-in-Insert-clause-settled c = let q = parts_of c.args.self.now in if_unsettled (state_of q) c.args.t c.args.ask.now c.insert.result (ap (settles (state_of q) c.args.t) c.in-Insert.is)

pub returns-in-Insert-clause-closing : goal.returns-in-Insert-clause-closing
returns-in-Insert-clause-closing c = on_err c.insert.result (ap is_closing c.in-Insert.is)

pub returns-in-LockGranule-clause-settled : goal.returns-in-LockGranule-clause-settled
returns-in-LockGranule-clause-settled c = let q = parts_of c.args.self.now in if_unsettled (state_of q) c.args.t c.args.ask.now c.lock_granule.result (ap (settles (state_of q) c.args.t) c.in-LockGranule.is)

pub returns-in-LockGranule-clause-closing : goal.returns-in-LockGranule-clause-closing
returns-in-LockGranule-clause-closing c = on_err c.lock_granule.result (ap is_closing c.in-LockGranule.is)
