-- One turn of a pass, by what the lock's calls tell and what became of the partition under it.
use Rattle.std.proofs.Common.{◌≡◌, ℕ, List, [], ◌∷◌, ◌++◌, Option, Some, None, refl, ap, sym, ◌∙◌, subst, append_assoc}
use mathlib.Core.List.{IsPrefix}
use Rattle.dp_messages.specs.declared.requests.Request.{Request}
use Rattle.partition_state.specs.History.{IsLegal}
use Rattle.partition_state.specs.State.{State}
use Rattle.partition_state.specs.declared.entries.Entry.{Entry}
use Rattle.partition_core.specs.Kept.{Kept, opened_with}
use Rattle.partition_core.specs.declared.partitions.Served.{Served}
use Rattle.partition_core.specs.declared.partitions.Served.TheVariants.{New, Repeat, Old, Starved}
use Rattle.turn_lock.specs.Pass.{HasRoot, with_entry, with_turn, without_turn}
use Rattle.shared_partition.specs.Sharing.{Answers, AnswersMessage, GoesOn, HasLater, IsLast, IsTurn, PartitionPass, turned}
use Rattle.shared_partition.specs.Spelled.{Adds, AddsMessage}

-- the pass after a turn
turned_goes_on : (pass : PartitionPass) (losses : List ℕ) (found : Kept) (added : Option Entry) → IsPrefix pass.seen found.history → GoesOn pass (turned pass losses found added)
turned_goes_on pass losses found None begins = record { lock = refl; number = refl; root = refl; idle = refl; seen = begins }
turned_goes_on pass losses found (Some e) begins =
    record { lock = refl; number = refl; root = refl; idle = refl; seen = (begins.0 ++ e ∷ [], sym (append_assoc pass.seen begins.0 (e ∷ [])) ∙ ap (λ (es : List Entry). es ++ e ∷ []) begins.1) }

pub turn_goes_on : (before after : PartitionPass) (added : Option Entry) → IsTurn before after added → GoesOn before after
turn_goes_on before after added is = subst (GoesOn before) (sym is.adds) (turned_goes_on before after.losses is.found added is.begins)

pub answer_goes_on : (before after : PartitionPass) (opener sync : ℕ) (request : Request) (answer : Served) → Answers before opener sync request answer after → GoesOn before after
answer_goes_on before after opener sync request New h = turn_goes_on before after (Some h.0) h.1
answer_goes_on before after opener sync request Repeat h = turn_goes_on before after None h.0
answer_goes_on before after opener sync request Old h = turn_goes_on before after None h.0
answer_goes_on before after opener sync request Starved h = turn_goes_on before after None h.0

pub message_goes_on : (before after : PartitionPass) (message : List ℕ) (answer : Served) → AnswersMessage before message answer after → GoesOn before after
message_goes_on before after message answer h = answer_goes_on before after h.0.opener h.0.sync h.0.request answer h.3

-- a pass that took the turn and found this, and what became of both by the time it was given
pub record Taken (before holding after : PartitionPass) (k k' : Kept) : Type 0 where
  pub losses : List ℕ
  pub takes : holding ≡ with_turn (record before { losses = losses }) k.history k
  pub begins : IsPrefix before.seen k.history
  pub rooted : HasRoot before (opened_with k.opening)
  pub opening : k'.opening ≡ k.opening
  pub legal : IsLegal k'.opening k'.history
  pub same : k'.history ≡ holding.seen → after ≡ without_turn holding
  pub added : (entry : Entry) → k'.history ≡ holding.seen ++ entry ∷ [] → after ≡ without_turn (with_entry holding entry)

module _ (before holding after : PartitionPass) (k k' : Kept) (is : Taken before holding after k k') where
  saw : holding.seen ≡ k.history
  saw = ap (λ (p : PartitionPass). p.seen) is.takes

  -- a turn that added nothing
  pub kept_turn : k'.history ≡ k.history → IsTurn before after None
  kept_turn stays =
      let gives = is.same (stays ∙ sym saw) in
      let lost : after.losses ≡ is.losses = ap (λ (p : PartitionPass). p.losses) gives ∙ ap (λ (p : PartitionPass). p.losses) is.takes in
      let shows : after.seen ≡ k'.history = ap (λ (p : PartitionPass). p.seen) gives ∙ saw ∙ sym stays in
      record {
        found = k;
        begins = is.begins;
        rooted = is.rooted;
        adds = gives ∙ ap without_turn is.takes ∙ ap (λ (ls : List ℕ). turned before ls k None) (sym lost);
        legal = subst (λ (s : State). IsLegal s after.seen) is.opening (subst (IsLegal k'.opening) (sym shows) is.legal);
      }

  -- a turn that added this entry
  pub adding_turn : (e : Entry) → k'.history ≡ k.history ++ e ∷ [] → IsTurn before after (Some e)
  adding_turn e grows =
      let gives = is.added e (grows ∙ ap (λ (es : List Entry). es ++ e ∷ []) (sym saw)) in
      let lost : after.losses ≡ is.losses = ap (λ (p : PartitionPass). p.losses) gives ∙ ap (λ (p : PartitionPass). p.losses) is.takes in
      let shows : after.seen ≡ k'.history = ap (λ (p : PartitionPass). p.seen) gives ∙ ap (λ (es : List Entry). es ++ e ∷ []) saw ∙ sym grows in
      record {
        found = k;
        begins = is.begins;
        rooted = is.rooted;
        adds = gives ∙ ap (λ (p : PartitionPass). without_turn (with_entry p e)) is.takes ∙ ap (λ (ls : List ℕ). turned before ls k (Some e)) (sym lost);
        legal = subst (λ (s : State). IsLegal s after.seen) is.opening (subst (IsLegal k'.opening) (sym shows) is.legal);
      }

  -- what the pass has seen of a history that stayed
  pub seen_stayed : k'.history ≡ k.history → after.seen ≡ k.history
  seen_stayed stays = ap (λ (p : PartitionPass). p.seen) (is.same (stays ∙ sym saw)) ∙ saw

  -- the answer of the turn is that of the partition
  pub answered_turn : (opener sync : ℕ) (request : Request) (answer : Served) → Adds k opener sync request answer k' → Answers before opener sync request answer after
  unfolding kept_turn adding_turn
  answered_turn opener sync request New h = (h.0, adding_turn h.0 h.1, h.2, h.3, h.4, h.5)
  answered_turn opener sync request Repeat h = (kept_turn h.0, h.1, subst (λ (es : List Entry). IsLast es opener sync h.1) (sym (seen_stayed h.0)) h.2, h.3)
  answered_turn opener sync request Old h = (kept_turn h.0, subst (λ (es : List Entry). HasLater es opener sync) (sym (seen_stayed h.0)) h.1, h.2)
  answered_turn opener sync request Starved h = (kept_turn h.0, h.1)

  pub answered_message : (message : List ℕ) (answer : Served) → AddsMessage k message answer k' → AnswersMessage before message answer after
  answered_message message answer h = (h.0, h.1, h.2, answered_turn h.0.opener h.0.sync h.0.request answer h.3)
