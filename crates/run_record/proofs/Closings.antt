-- Which requests close an attempt.
use Rattle.std.proofs.Common.{◌≡◌, false, refl}
use Rattle.dp_messages.specs.declared.requests.Ask.{Ask}
use Rattle.dp_messages.specs.declared.requests.Ask.TheVariants as ask
use Rattle.partition_state.specs.Step.{is_closing}
use Rattle.session_grammar.specs.Rows.{is_end}

-- a request that closes nothing is no End
pub open_is_no_end : (a : Ask) → is_closing a ≡ false → is_end a ≡ false
open_is_no_end ask.Prepare h = refl
open_is_no_end (ask.EndCommit stamp) h = h
open_is_no_end ask.EndUndo h = h
open_is_no_end a h = refl
