-- A partition as the log of the one session leads it.
use Rattle.std.specs.Prelude.{◌≡◌, ◌≤◌, ℕ, List, [], ◌∷◌, Some, false}
use Rattle.sql_base.specs.Locks.{same_txn}
use Rattle.sql_base.specs.declared.lock_names.TxnName.{TxnName}
use Rattle.key_sequenced.specs.Cells.{Keyed}
use Rattle.partition_state.specs.Commits.{committed}
use Rattle.partition_state.specs.State.{State, is_live}
use Rattle.partition_state.specs.Step.{step}
use Rattle.partition_laws.specs.Keeping.{Keeps}
use Rattle.session_grammar.specs.declared.logs.Answer.TheVariants.{Reply, PathFailed, Stamp}
use Rattle.session_grammar.specs.declared.logs.LogEntry.{LogEntry}
use Rattle.session_grammar.specs.declared.logs.LogEntry.TheVariants.{Asked, Drew}

-- the partition behind these entries of session 1
abbrev pub served_by : State → List LogEntry → State
served_by p [] = p
served_by p (Asked part sync request losses (Reply r) ∷ log) = served_by (step p 1 sync request).state log
served_by p (Asked part sync request losses PathFailed ∷ log) = served_by p log
served_by p (Asked part sync request losses (Stamp stamp) ∷ log) = served_by p log
served_by p (Drew name floor answer ∷ log) = served_by p log

-- it replies to each of them as the log says
abbrev pub Replies : State → List LogEntry → Type 0
Replies p [] = Unit {0}
Replies p (Asked part sync request losses (Reply r) ∷ log) = ((step p 1 sync request).reply ≡ Some r) × Replies (step p 1 sync request).state log
Replies p (Asked part sync request losses PathFailed ∷ log) = ⊥
Replies p (Asked part sync request losses (Stamp stamp) ∷ log) = ⊥
Replies p (Drew name floor answer ∷ log) = Replies p log

-- no transaction is under way, and no stamp above this has come
pub record Calm (top : ℕ) (q : State) : Type 0 where
  pub keeps : Keeps q
  pub unlive : (u : TxnName) → is_live q u ≡ false
  pub top_is : q.high ≤ top

-- no transaction but this is under way, on these records
pub record Lively (t : TxnName) (base : List Keyed) (top : ℕ) (q : State) : Type 0 where
  pub keeps : Keeps q
  pub alone : (u : TxnName) → same_txn u t ≡ false → is_live q u ≡ false
  pub base_is : committed q ≡ base
  pub top_is : q.high ≤ top
