-- What the wire of a session told, along its log.
use Rattle.std.proofs.Common.{◌≡◌, ◌+◌, ℕ, zero, suc, List, [], ◌∷◌, ◌++◌, replicate, Bool, true, refl, ap, sym, ◌∙◌, subst, arith}
use Rattle.std.proofs.lemmas.List.{append-nil}
use Rattle.outside.specs.Wire.{Answers, is_loss}
use Rattle.outside.specs.declared.wire.Passage.{Passage}
use Rattle.sql_base.specs.declared.lock_names.TxnName.{TxnName}
use Rattle.dp_messages.specs.declared.requests.Request.{Request}
use Rattle.dp_messages.specs.declared.replies.Reply.{Reply as PartitionReply}
use Rattle.session_grammar.specs.declared.logs.Answer.{Answer}
use Rattle.session_grammar.specs.declared.logs.Answer.TheVariants.{PathFailed, Reply}
use Rattle.session_grammar.specs.declared.logs.LogEntry.{LogEntry}
use Rattle.session_grammar.specs.declared.logs.LogEntry.TheVariants.{Asked, Drew}
use Rattle.driver_laws.specs.Carrying.{Telling}
use Rattle.driver_laws.proofs.Carrying.{carried_drawn, carried_sent, carried_taken}
use Rattle.executor_pool.specs.Sessions.{IsTold, carried_now}

-- it is asked once more
pub told_sent : (told before after : Telling) (tail : List Bool) (log : List LogEntry) (p : Passage) → IsTold told before tail log → Answers before.first before.round p after.first → after.round ≡ before.round → IsTold told after (tail ++ is_loss p ∷ []) log
told_sent told before after tail log p h answers round =
    let a = subst (λ (rs : List Passage). Answers before.first rs p after.first) h.2 answers in
    (h.0 ++ p ∷ [], carried_sent told.first told.round h.0 before.first log tail h.1 p after.first a, round ∙ h.2)

-- the request is answered
pub told_replied : (told now : Telling) (log : List LogEntry) (part sync : ℕ) (request : Request) (losses : ℕ) (r : PartitionReply) → IsTold told now (replicate losses true ++ carried_now losses) log
    → IsTold told now [] (log ++ Asked part sync request losses (Reply r) ∷ [])
told_replied told now log part sync request losses r h =
    (h.0, carried_taken told.first told.round h.0 now.first log (replicate losses true ++ carried_now losses) h.1 part sync request losses (Reply r) refl, h.2)

-- its path failed
pub told_failed : (told now : Telling) (log : List LogEntry) (part sync : ℕ) (request : Request) (losses : ℕ) → IsTold told now (replicate losses true) log → IsTold told now [] (log ++ Asked part sync request losses PathFailed ∷ [])
told_failed told now log part sync request losses h =
    (h.0, carried_taken told.first told.round h.0 now.first log (replicate losses true) h.1 part sync request losses PathFailed (sym (append-nil (replicate losses true))), h.2)

-- a commit is drawn
pub told_drawn : (told now : Telling) (tail : List Bool) (log : List LogEntry) (name : TxnName) (floor : ℕ) (answer : Answer) → IsTold told now tail log → IsTold told now tail (log ++ Drew name floor answer ∷ [])
told_drawn told now tail log name floor answer h = (h.0, carried_drawn told.first told.round h.0 now.first log tail h.1 name floor answer, h.2)

-- so many losses, and one more
pub one_more : (losses : ℕ) → replicate losses true ++ true ∷ [] ≡ replicate (losses + 1) true
one_more zero = refl
one_more (suc losses) =
    let count : suc (losses + 1) ≡ suc losses + 1 = omega arith in
    ap (λ (bs : List Bool). true ∷ bs) (one_more losses) ∙ ap (λ n. replicate n true) count
