-- A history goes on by one.
use Rattle.std.proofs.Common.{◌≡◌, ◌<◌, ℕ, List, [], ◌∷◌, ◌++◌, Some, refl}
use Rattle.sql_base.specs.Scripts.{Lies}
use Rattle.dp_messages.specs.declared.requests.Request.{Request}
use Rattle.partition_state.specs.State.{State, opener_of}
use Rattle.partition_state.specs.Step.{step, answered, noted}
use Rattle.partition_state.specs.History.{replay, IsLegal}
use Rattle.partition_state.specs.declared.entries.Entry.{Entry}
use Rattle.sql_base.proofs.Truths.{lt-not_le}

pub replay-push : (p : State) (es : List Entry) (e : Entry) → replay p (es ++ e ∷ []) ≡ (step (replay p es) e.opener e.sync e.request).state
replay-push p [] e = refl
replay-push p (x ∷ es) e = replay-push (step p x.opener x.sync x.request).state es e

pub IsLegal-push : (p : State) (es : List Entry) (e : Entry) → IsLegal p es → Lies 1 8 e.opener → (step (replay p es) e.opener e.sync e.request).reply ≡ Some e.reply → IsLegal p (es ++ e ∷ [])
IsLegal-push p [] e legal lies answered = (lies, answered, tt)
IsLegal-push p (x ∷ es) e legal lies answered =
    (legal.0, legal.1, IsLegal-push (step p x.opener x.sync x.request).state es e legal.2 lies answered)

-- what a step makes of a new sync
pub step-new : (p : State) (opener sync : ℕ) (request : Request) → (opener_of p opener).last < sync → step p opener sync request ≡ record { state = noted (answered p (record { session = opener; ordinal = request.ordinal }) request.ask).state opener sync (answered p (record { session = opener; ordinal = request.ordinal }) request.ask).reply; reply = Some (answered p (record { session = opener; ordinal = request.ordinal }) request.ask).reply }
step-new p opener sync request fresh = rw (lt-not_le sync (opener_of p opener).last fresh) refl
