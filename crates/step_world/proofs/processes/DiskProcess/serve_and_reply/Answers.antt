-- A request that was just served, or was served before, is the opener's last.
use Rattle.std.proofs.Common.{◌≡◌, ◌<◌, ◌-◌, ℕ, List, Option, None, ap, subst, ◌∙◌, arith, inl, inr}
use Rattle.std.specs.Prelude.{slice_get, unwrap_or}
use Rattle.sql_base.specs.Scripts.{Lies}
use Rattle.dp_messages.specs.declared.requests.Request.{Request}
use Rattle.partition_core.specs.Kept.{Kept, marked, opener_in}
use Rattle.partition_core.proofs.KeptReplies.{kept_reply}
use Rattle.partition_state.specs.State.{Opener, opener_of}
use Rattle.step_world.specs.Scaffold.Mails.{CanReply, Handles}
use Rattle.step_world.proofs.Marks.{none_at}
use Rattle.step_world.proofs.processes.DiskProcess.serve_and_reply.Goals as goal

unmarked_is : (k : Kept) (opener sync : ℕ) → CanReply k opener sync → opener_in k opener ≡ opener_of k.now opener
unmarked_is k opener sync can =
    ap (λ (ms : List (Option ℕ)). marked (unwrap_or (slice_get ms (opener - 1)) None) (opener_of k.now opener)) can.marks ∙ ap (λ m. marked m (opener_of k.now opener)) (none_at 8 (opener - 1))

last_is : (k after : Kept) (opener sync : ℕ) (request : Request) → Lies 1 8 opener → CanReply k opener sync → Handles k opener sync request after → (opener_in after opener).last ≡ sync
last_is k after opener sync request lies can handled =
    elim handled [
      | inl new ↦
          (let fresh : (opener_of k.now opener).last < sync = subst (λ (o : Opener). o.last < sync) (unmarked_is k opener sync can) new.0 in
          ap (λ (x : Kept). (opener_in x opener).last) new.1 ∙ (kept_reply k opener sync request lies can.openers fresh).0)
      | inr old ↦
          (let same = ap (λ (o : Opener). o.last) (unmarked_is k opener sync can) in
          ap (λ (x : Kept). (opener_in x opener).last) old.1 ∙ (let least = can.last in let most = old.0 in omega (arith, same)))
    ]

pub reply-requires-clause-last : goal.reply-requires-clause-last
reply-requires-clause-last c = last_is c.args.self.now.partition c.serve.new.self.partition c.args.envelope.opener c.args.envelope.sync c.args.envelope.request c.requires.opener c.requires.last c.in_ok-serve.ensures.handled
