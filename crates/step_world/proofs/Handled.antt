-- What a request does to the history of a partition.
use Rattle.std.proofs.Common.{◌≡◌, ◌<◌, ◌-◌, ℕ, zero, suc, List, [], ◌∷◌, ◌++◌, map, replicate, Option, Some, refl, ap, sym, ◌∙◌, subst}
use Rattle.std.specs.Prelude.{slice_get, slice_set}
use Rattle.dp_messages.specs.Spelling.{IsEnvelope}
use Rattle.dp_messages.specs.declared.requests.Request.{Request}
use Rattle.partition_core.specs.Kept.{IsReplayed, Kept, entry_of, opener_in, served}
use Rattle.partition_state.specs.History.{replay}
use Rattle.partition_state.specs.State.{Opener, State, opener_of}
use Rattle.partition_state.specs.Step.{Stepped, step}
use Rattle.partition_state.specs.declared.entries.Entry.{Entry}
use Rattle.partition_state.proofs.Replays.{IsLegal-push, replay-push, step-new}
use Rattle.plans_laws.specs.Spelled.{CameSpelled}
use Rattle.driver_laws.specs.Moves.{IsNext, with_entry}
use Rattle.driver_laws.specs.Carrying.{Telling}
use Rattle.step_world.specs.Scaffold.Worlds.{Driving, Scene, Setting, record_of}
use Rattle.step_world.specs.declared.processes.DiskProcess.{DiskProcess}
use Rattle.step_world.proofs.Marks.{no_mark}
use Rattle.step_world.proofs.Replies.{history_is, now_is, unmarked_at}
use Rattle.sql_base.proofs.ListFacts.{map_set}

unmarked_set : (count i : ℕ) → slice_set (replicate count no_mark) i no_mark ≡ replicate count no_mark
unmarked_set zero i = refl
unmarked_set (suc count) zero = refl
unmarked_set (suc count) (suc i) = ap (λ (ms : List (Option ℕ)). no_mark ∷ ms) (unmarked_set count i)

came_push : (es : List Entry) (e : Entry) → CameSpelled es → IsEnvelope (record { opener = e.opener; sync = e.sync; request = e.request }) → CameSpelled (es ++ e ∷ [])
came_push [] e all last = (last, tt)
came_push (x ∷ es) e all last = (all.0, came_push es e all.1 last)

module _ (setting : Setting) (tellings : List Telling) (w : Scene) (part : ℕ) (d : DiskProcess) (run : Driving setting tellings w) (found : slice_get w.processes part ≡ Some d) (opener sync : ℕ) (request : Request)
    (spelled : IsEnvelope (record { opener = opener; sync = sync; request = request })) where
  abbrev k : Kept
  k = d.partition

  abbrev e : Entry
  e = entry_of k.now opener sync request

  module _ (new : (opener_in k opener).last < sync) where
    fresh : (opener_of k.now opener).last < sync
    fresh = subst (λ (o : Opener). o.last < sync) (unmarked_at setting tellings w part d run found opener) new

    replies : (step k.now opener sync request).reply ≡ Some e.reply
    replies = ap (λ (s : Stepped). s.reply) (step-new k.now opener sync request fresh)

    replies_there : (step (replay k.opening k.history) opener sync request).reply ≡ Some e.reply
    replies_there = subst (λ (p : State). (step p opener sync request).reply ≡ Some e.reply) (run.processes part d found).replayed.replayed replies

    pub is_next : IsNext setting.script (record_of w) part e
    is_next = (k.opening, (run.processes part d found).opened, subst (λ (p : State). (step p opener sync request).reply ≡ Some e.reply) (sym (now_is setting tellings w part d run found)) replies)

    pub replayed_on : IsReplayed (served k opener sync request)
    replayed_on =
        let is = (run.processes part d found).replayed in
        record {
          legal = IsLegal-push k.opening k.history e is.legal spelled.opener replies_there;
          replayed = ap (λ (p : State). (step p opener sync request).state) is.replayed ∙ sym (replay-push k.opening k.history e);
        }

    pub unmarked_on : (served k opener sync request).marks ≡ replicate 8 no_mark
    unmarked_on = ap (λ (ms : List (Option ℕ)). slice_set ms (opener - 1) no_mark) (run.processes part d found).unmarked ∙ unmarked_set 8 (opener - 1)

    pub came_on : CameSpelled (k.history ++ e ∷ [])
    came_on = came_push k.history e (run.processes part d found).came spelled

    -- the histories with the entry
    pub histories_on : (after : DiskProcess) → after.partition.history ≡ k.history ++ e ∷ [] → map (λ (x : DiskProcess). x.partition.history) (slice_set w.processes part after) ≡ (with_entry (record_of w) part e).histories
    histories_on after is =
        map_set (λ (x : DiskProcess). x.partition.history) w.processes part after
        ∙ ap (λ (h : List Entry). slice_set (record_of w).histories part h) (is ∙ ap (λ (h : List Entry). h ++ e ∷ []) (sym (history_is setting tellings w part d run found)))
