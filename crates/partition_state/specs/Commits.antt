-- What the commits of a history have left of a partition's records.
use Rattle.std.specs.Prelude.{ℕ, List, [], ◌∷◌, take, Bool, true, false, ◌&&◌, ◌==◌, if◌then◌else◌}
use Rattle.sql_base.specs.declared.lock_names.TxnName.{TxnName}
use Rattle.key_sequenced.specs.Cells.{Keyed, records}
use Rattle.key_sequenced.specs.Changes.{Change, committed_in, laid, pending_in}
use Rattle.dp_messages.specs.declared.requests.Ask.{Ask}
use Rattle.dp_messages.specs.declared.requests.Ask.TheVariants.{EndCommit}
use Rattle.partition_state.specs.State.{State}
use Rattle.partition_state.specs.Step.{step}
use Rattle.partition_state.specs.History.{before}
use Rattle.partition_state.specs.declared.entries.Entry.{Entry}
use Rattle.dp_messages.specs.Replies.{is_done}

-- the attempt that an entry was served for
abbrev pub name_of : Entry → TxnName
name_of e = record { session = e.opener; ordinal = e.request.ordinal }

-- the entry is one of the attempt
abbrev pub is_of : TxnName → Entry → Bool
is_of t e = (e.opener == t.session) && (e.request.ordinal == t.ordinal)

abbrev pub is_commit : Ask → Bool
is_commit (EndCommit stamp) = true
is_commit ask = false

-- the entry ends its attempt by commit
abbrev pub commits_here : Entry → Bool
commits_here e = is_commit e.request.ask && is_done e.reply

-- the changes that t has made in a partition and not ended
abbrev pub pending : TxnName → State → List Change
pending t p = pending_in t p.cells

-- the records with every live writer's change undone
abbrev pub committed : State → List Keyed
committed p = committed_in p.cells

-- records with the changes of each commit of a history laid over them, in its order
abbrev pub ended_from : State → List Keyed → List Entry → List Keyed
ended_from p held [] = held
ended_from p held (e ∷ es) = ended_from (step p e.opener e.sync e.request).state (if commits_here e then laid held (pending (name_of e) p) else held) es

-- the opening records with the commits before a place laid over them
abbrev pub ended : State → List Entry → ℕ → List Keyed
ended p history i = ended_from p (records p.cells) (take i history)

-- and with what t itself has made there and not ended
abbrev pub settled : State → List Entry → ℕ → TxnName → List Keyed
settled p history i t = laid (ended p history i) (pending t (before p history i))
