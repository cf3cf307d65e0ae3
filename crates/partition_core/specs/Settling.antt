-- The requests that settle a live transaction: the Prepare that prepares it, and the End that ends it.
use Rattle.std.specs.Prelude.{◌≡◌, ◌<◌, ℕ, Option, Some, None, Bool, true, false, is_none, nat_le, not, ◌&&◌}
use Rattle.sql_base.specs.declared.lock_names.TxnName.{TxnName}
use Rattle.dp_messages.specs.declared.requests.Ask.{Ask}
use Rattle.dp_messages.specs.declared.requests.Ask.TheVariants.{Prepare, EndCommit, EndUndo}
use Rattle.dp_messages.specs.declared.requests.Request.{Request}
use Rattle.partition_state.specs.State.{State, floor_of, is_live}
use Rattle.partition_core.specs.Kept.{Kept, opener_in}
use Rattle.partition_core.specs.declared.partitions.Served.{Served}
use Rattle.partition_core.specs.declared.partitions.Served.TheVariants.{New}

-- t has prepared, and the stamp is above its floor
abbrev pub is_above : ℕ → Option ℕ → Bool
is_above stamp None = false
is_above stamp (Some floor) = not (nat_le stamp floor)

-- t is live, and this prepares or ends it
abbrev pub settles : State → TxnName → Ask → Bool
settles p t Prepare = is_live p t && is_none (floor_of p t)
settles p t (EndCommit stamp) = is_live p t && is_above stamp (floor_of p t)
settles p t EndUndo = is_live p t
settles p t ask = false

-- such a request, with a new sync, is served however short memory is
abbrev pub ServesSettling : Kept → ℕ → ℕ → Request → Served → Type 0
ServesSettling k opener sync request result =
    (opener_in k opener).last < sync → settles k.now (record { session = opener; ordinal = request.ordinal }) request.ask ≡ true → result ≡ New
