-- Each action of a world leaves less of its run.
use Rattle.std.proofs.Common.{◌≡◌, ◌≤◌, ◌<◌, ◌+◌, ◌++◌, ℕ, zero, suc, List, [], ◌∷◌, length, length-append, Ok, Err, Bool, true, false, Some, refl, ap, sym, ◌∙◌, subst, arith}
use Rattle.std.specs.Prelude.{◌==◌, Result, OnOk, slice_get, slice_set}
use Rattle.std.proofs.lemmas.Bool.{eqb-true}
use Rattle.outside.specs.declared.wire.Passage.{Passage}
use Rattle.outside.specs.declared.wire.Passage.TheVariants.{Carry, Repeat, LoseRequest, LoseReply}
use Rattle.dp_messages.specs.declared.replies.Reply.{Reply as PartitionReply}
use Rattle.requester_fs.specs.Asking.{Advances, Asking, next_at}
use Rattle.session_grammar.specs.Rows.{fits, is_end}
use Rattle.session_grammar.specs.Sessions.{Next}
use Rattle.session_grammar.specs.UnderWay.{Sending}
use Rattle.session_grammar.specs.declared.logs.Answer.{Answer}
use Rattle.session_grammar.specs.declared.logs.Answer.TheVariants.{Reply}
use Rattle.ending_laws.specs.Keys.{above_in, keys_count}
use Rattle.ending_laws.specs.Measures.{run_left}
use Rattle.ending_laws.proofs.Acts.{by_hand_falls, ends_advance, serving_falls, taking_falls}
use Rattle.ending_laws.proofs.Advancing.{few_above, redrives_advance}
use Rattle.ending_laws.proofs.Measures.{runs_fall}
use Rattle.driver_laws.specs.Carrying.{Telling}
use Rattle.step_world.specs.Scaffold.Mails.{TakesOldest, copies_of}
use Rattle.step_world.specs.Scaffold.Measures.{Spends, mail_left, seat_left}
use Rattle.step_world.specs.Scaffold.Seats.{IsAnswered, seen}
use Rattle.step_world.specs.Scaffold.Worlds.{Driving, Scene, Setting, Stands, record_of, ways_of}
use Rattle.step_world.specs.declared.processes.DiskProcess.{DiskProcess}
use Rattle.step_world.specs.declared.processes.Sender.{Sender}
use Rattle.step_world.specs.declared.seats.Seat.{Seat}
use Rattle.step_world.proofs.Opened.{OpenSeat, lies_at}
use Rattle.step_world.proofs.Replies.{may_answer, way_was, within_histories}
use Rattle.partition_core.specs.Kept.{opener_in}

-- at most two messages more
pub posts-few : (passage : Passage) (d after : DiskProcess) (bytes : List ℕ) → after.mail ≡ d.mail ++ copies_of passage bytes → mail_left after ≤ mail_left d + 2
posts-few passage d after bytes mail = let long = ap length mail ∙ length-append d.mail (copies_of passage bytes) in omega (arith, long, few passage)
  where
    few : (p : Passage) → length (copies_of p bytes) ≤ 2
    few Carry = omega arith
    few Repeat = omega arith
    few LoseRequest = omega arith
    few LoseReply = omega arith

module _ {Q : Type 0} (asking : Q → Asking) (left : Q → (List ℕ → ℕ) → ℕ → ℕ) (w : Scene) (seats : List (Seat Q)) (processes : List DiskProcess) where
  -- less is left, whatever run it is
  abbrev pub LessWith : List (Seat Q) → List DiskProcess → Type 0
  LessWith now then_processes = (setting : Setting) (tellings : List Telling) → Driving setting tellings w
      → run_left (seat_left (λ q. left q (above_in setting.script) (keys_count setting.script))) mail_left now then_processes
      < run_left (seat_left (λ q. left q (above_in setting.script) (keys_count setting.script))) mail_left seats processes

  abbrev pub Fewer : Next → Answer → Q → Q → Type 0
  Fewer next answer a b = (above : List ℕ → ℕ) (n : ℕ) → ((key : List ℕ) → above key ≤ n) → Advances above n next answer → left b above n < left a above n

  abbrev pub AlwaysAdvances : Next → Answer → Type 0
  AlwaysAdvances next answer = (setting : Setting) (tellings : List Telling) → Driving setting tellings w → Advances (above_in setting.script) (keys_count setting.script) next answer

  module _ {T E : Type 0} (result : Result T E) (at : ℕ) (q new : Seat Q) (here : slice_get seats at ≡ Some q) where
    pub taken-less : (answer : Answer) → OnOk result (IsAnswered answer (seen asking q) (seen asking new)) → OnOk result (Fewer (next_at (asking q.requester).way 0) answer q.requester new.requester)
        → AlwaysAdvances (next_at (asking q.requester).way 0) answer → OnOk result (LessWith (slice_set seats at new) processes)
    taken-less answer answered fewer advances = by_result result answered fewer
      where
        by_result : (r : Result T E) → OnOk r (IsAnswered answer (seen asking q) (seen asking new)) → OnOk r (Fewer (next_at (asking q.requester).way 0) answer q.requester new.requester) → OnOk r (LessWith (slice_set seats at new) processes)
        by_result (Err e) is f = tt
        by_result (Ok u) is f = λ setting tellings run.
            taking_falls (λ (s : Seat Q). left s.requester (above_in setting.script) (keys_count setting.script)) (λ (s : Seat Q). s.losses) (λ (s : Seat Q). s.waits) mail_left seats processes at q new here
            (f (above_in setting.script) (keys_count setting.script) (few_above setting.script) (advances setting tellings run)) is.unlost is.goes

    module _ (part : ℕ) (d after : DiskProcess) (there : slice_get processes part ≡ Some d) where
      pub handed-less : (answer : Answer) → after.mail ≡ d.mail → OnOk result (IsAnswered answer (seen asking q) (seen asking new))
          → OnOk result (Fewer (next_at (asking q.requester).way 0) answer q.requester new.requester) → AlwaysAdvances (next_at (asking q.requester).way 0) answer
          → OnOk result (LessWith (slice_set seats at new) (slice_set processes part after))
      handed-less answer mail answered fewer advances = by_result result answered fewer
        where
          by_result : (r : Result T E) → OnOk r (IsAnswered answer (seen asking q) (seen asking new)) → OnOk r (Fewer (next_at (asking q.requester).way 0) answer q.requester new.requester)
              → OnOk r (LessWith (slice_set seats at new) (slice_set processes part after))
          by_result (Err e) is f = tt
          by_result (Ok u) is f = λ setting tellings run.
              by_hand_falls (λ (s : Seat Q). left s.requester (above_in setting.script) (keys_count setting.script)) (λ (s : Seat Q). s.losses) (λ (s : Seat Q). s.waits) mail_left seats processes at q new here part d after there
              (f (above_in setting.script) (keys_count setting.script) (few_above setting.script) (advances setting tellings run)) is.unlost is.goes (ap length mail)

      pub sent-less : (passage : Passage) (bytes : List ℕ) → after.mail ≡ d.mail ++ copies_of passage bytes → q.waits ≡ false → OnOk result (q.waits ≡ false → Spends left q new)
          → OnOk result (LessWith (slice_set seats at new) (slice_set processes part after))
      sent-less passage bytes mail idle spends = by_result result spends
        where
          by_result : (r : Result T E) → OnOk r (q.waits ≡ false → Spends left q new) → OnOk r (LessWith (slice_set seats at new) (slice_set processes part after))
          by_result (Err e) f = tt
          by_result (Ok u) f = λ setting tellings run.
              let three = f idle (above_in setting.script) (keys_count setting.script) (few_above setting.script) in
              (runs_fall (Seat Q) DiskProcess (seat_left (λ q. left q (above_in setting.script) (keys_count setting.script))) mail_left seats processes at q new here).1 part d after there (omega (arith, three, posts-few passage d after bytes mail))

  -- a message is served
  pub served-less : (at : ℕ) (q new : Seat Q) → slice_get seats at ≡ Some q → (part : ℕ) (d after : DiskProcess) → slice_get processes part ≡ Some d → (sender : Sender) → TakesOldest d after sender
      → new.requester ≡ q.requester → new.losses ≡ q.losses → new.waits ≡ q.waits → LessWith (slice_set seats at new) (slice_set processes part after)
  served-less at q new here part d after there sender takes same losses waits = λ setting tellings run.
      let shorter = ap length takes.oldest in
      serving_falls (λ (s : Seat Q). left s.requester (above_in setting.script) (keys_count setting.script)) (λ (s : Seat Q). s.losses) (λ (s : Seat Q). s.waits) mail_left seats processes at q new here part d after there
      (omega (arith, shorter)) (ap (λ r. left r (above_in setting.script) (keys_count setting.script)) same) losses waits

-- the reply that a session waited for is one with which it advances
pub reply-advances : (w : Scene) (at : ℕ) (s : Seat Asking) (o : OpenSeat w at s) (d : DiskProcess) (reply : PartitionReply) → slice_get w.processes o.r.part ≡ Some d → (opener_in d.partition (suc at)).last ≡ o.r.sync
    → (opener_in d.partition (suc at)).kept ≡ Some reply → (setting : Setting) (tellings : List Telling) → Driving setting tellings w → Advances (above_in setting.script) (keys_count setting.script) (next_at s.requester.way 0) (Reply reply)
reply-advances w at s o d reply found last told setting tellings run =
    subst (λ next. Advances (above_in setting.script) (keys_count setting.script) next (Reply reply)) (sym o.sends)
    (redrives_advance setting.script (record_of w) (ways_of w) run.so_far (suc at) (lies_at setting tellings w at s run o.here) (o.r ∷ []) o.r s.losses (Reply reply)
    (way_was setting tellings w at s o d run found) (zero, omega arith, refl) (within_histories setting tellings w o.r.part d run found) (may_answer setting tellings w at s o d run found s.losses reply last told))

-- and so is that to the End that it serves itself
hand-end : (s : Seat Asking) (r : Sending) → Stands s (Some r) → (s.losses == 4) ≡ true → is_end r.request.ask ≡ true
hand-end s r stands four = at (is_end r.request.ask) refl
  where
    at : (b : Bool) → is_end r.request.ask ≡ b → b ≡ true
    at true e = refl
    at false e = let few = stands.2 e in absurd (omega (arith, few, eqb-true s.losses 4 four))

pub hand-advances : (w : Scene) (at : ℕ) (s : Seat Asking) (o : OpenSeat w at s) (reply : PartitionReply) → (s.losses == 4) ≡ true → fits o.r.request.ask reply ≡ true
    → (setting : Setting) (tellings : List Telling) → Driving setting tellings w → Advances (above_in setting.script) (keys_count setting.script) (next_at s.requester.way 0) (Reply reply)
hand-advances w at s o reply four fit setting tellings run =
    subst (λ next. Advances (above_in setting.script) (keys_count setting.script) next (Reply reply)) (sym o.sends)
    (ends_advance (above_in setting.script) (keys_count setting.script) o.r.part o.r.sync o.r.request reply (hand-end s o.r o.stands four) fit)
