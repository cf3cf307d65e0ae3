-- What is kept of a request that was served.
use Rattle.std.proofs.Common.{◌≡◌, ◌<◌, ◌-◌, ℕ, zero, suc, List, [], ◌∷◌, length, Option, Some, None, false, refl, ap, ◌∙◌}
use Rattle.std.specs.Prelude.{slice_get, slice_set, unwrap_or}
use Rattle.sql_base.specs.Scripts.{Lies}
use Rattle.dp_messages.specs.declared.requests.Request.{Request}
use Rattle.partition_state.specs.State.{Opener, opener_of}
use Rattle.partition_state.specs.Step.{Answered, Stepped, answered, step}
use Rattle.partition_core.specs.Kept.{Kept, entry_of, marked, opener_in, served}
use Rattle.partition_core.proofs.OpenersKept.{counts-answered, opener_of-with}
use Rattle.partition_state.proofs.Replays.{step-new}

-- what was unmarked stays so
pub unmarked : (marks : List (Option ℕ)) (i : ℕ) → unwrap_or (slice_get (slice_set marks i None) i) None ≡ None
unmarked [] i = refl
unmarked (m ∷ marks) zero = refl
unmarked (m ∷ marks) (suc i) = unmarked marks i

-- a request with a new sync is kept with its reply
pub kept_reply : (k : Kept) (opener sync : ℕ) (request : Request) → Lies 1 8 opener → length k.now.openers ≡ 8 → (opener_of k.now opener).last < sync
    → let o = opener_in (served k opener sync request) opener in (o.last ≡ sync) × (o.starved ≡ false) × (o.kept ≡ Some (entry_of k.now opener sync request).reply)
kept_reply k opener sync request lies eight fresh =
    let a : Answered = answered k.now (record { session = opener; ordinal = request.ordinal }) request.ask in
    let told : opener_of (step k.now opener sync request).state opener ≡ record (opener_of a.state opener) { last = sync; starved = false; kept = Some a.reply } =
    ap (λ (s : Stepped). opener_of s.state opener) (step-new k.now opener sync request fresh)
    ∙ opener_of-with a.state opener (record (opener_of a.state opener) { last = sync; starved = false; kept = Some a.reply }) lies (counts-answered k.now _ request.ask ∙ eight) in
    let o : opener_in (served k opener sync request) opener ≡ record (opener_of a.state opener) { last = sync; starved = false; kept = Some a.reply } =
    ap (λ m. marked m (opener_of (step k.now opener sync request).state opener)) (unmarked k.marks (opener - 1)) ∙ told in
    (ap (λ (o : Opener). o.last) o, ap (λ (o : Opener). o.starved) o, ap (λ (o : Opener). o.kept) o)
