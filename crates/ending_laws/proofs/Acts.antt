-- Each kind of action of a run leaves less to do, over what is kept of its sessions and partitions.
use Rattle.std.proofs.Common.{◌≡◌, ◌≤◌, ◌<◌, ◌+◌, ℕ, List, Bool, true, false, Some, refl, sym, subst, arith}
use Rattle.std.specs.Prelude.{slice_get, slice_set}
use Rattle.std.proofs.lemmas.Bool.{false≢true}
use Rattle.dp_messages.specs.declared.replies.Reply.{Reply as PartitionReply}
use Rattle.dp_messages.specs.declared.replies.Reply.TheVariants as reply
use Rattle.dp_messages.specs.declared.requests.Ask.{Ask}
use Rattle.dp_messages.specs.declared.requests.Ask.TheVariants as ask
use Rattle.dp_messages.specs.declared.requests.Request.{Request}
use Rattle.session_grammar.specs.Rows.{fits, is_end}
use Rattle.session_grammar.specs.Sessions.{Sends}
use Rattle.session_grammar.specs.declared.logs.Answer.TheVariants.{Reply}
use Rattle.requester_fs.specs.Asking.{Advances}
use Rattle.ending_laws.specs.Measures.{run_left, session_left}
use Rattle.ending_laws.proofs.Measures.{answers_fall, runs_fall, sendings_fall}

-- what is kept of a session: how many answers it may still take, how often its request was lost, and whether it waits for the reply
module _ {S D : Type 0} (answers losses : S → ℕ) (waits : S → Bool) (mail : D → ℕ) where
  abbrev pub left_of : S → ℕ
  left_of s = session_left (answers s) (losses s) (waits s)

  parts-left : (s : S) (a l : ℕ) (w : Bool) → answers s ≡ a → losses s ≡ l → waits s ≡ w → left_of s ≡ session_left a l w
  parts-left s a l w answer loss wait = (λ i. session_left (answer i) (loss i) (wait i))

  module _ (sessions : List S) (partitions : List D) (at : ℕ) (s after : S) (here : slice_get sessions at ≡ Some s) where
    answered-less : answers after < answers s → losses after ≡ 0 → waits after ≡ false → left_of after < left_of s
    answered-less fewer unlost goes =
        subst (λ n. n < left_of s) (sym (parts-left after (answers after) 0 false refl unlost goes)) (answers_fall (answers s) (losses s) (waits s) (answers after) fewer)

    -- it takes a reply that it waited for, or the stamp of its commit
    pub taking_falls : answers after < answers s → losses after ≡ 0 → waits after ≡ false
        → run_left left_of mail (slice_set sessions at after) partitions < run_left left_of mail sessions partitions
    taking_falls fewer unlost goes = (runs_fall S D left_of mail sessions partitions at s after here).0 (answered-less fewer unlost goes)

    module _ (part : ℕ) (d now : D) (there : slice_get partitions part ≡ Some d) where
      falls : left_of after + mail now < left_of s + mail d → run_left left_of mail (slice_set sessions at after) (slice_set partitions part now) < run_left left_of mail sessions partitions
      falls less = (runs_fall S D left_of mail sessions partitions at s after here).1 part d now there less

      was : waits s ≡ false → left_of s ≡ session_left (answers s) (losses s) false
      was idle = parts-left s (answers s) (losses s) false refl refl idle

      -- it sends its request, which is carried
      pub carrying_falls : losses s < 4 → waits s ≡ false → mail now ≤ mail d + 2 → answers after ≡ answers s → losses after ≡ losses s → waits after ≡ true
          → run_left left_of mail (slice_set sessions at after) (slice_set partitions part now) < run_left left_of mail sessions partitions
      carrying_falls few idle posts same unlost goes =
          let sent = (sendings_fall (answers s) (losses s) few).0 in
          let less = parts-left after (answers s) (losses s) true same unlost goes in
          falls (omega (arith, sent, was idle, less, posts))

      -- or is lost, and stays under way
      pub losing_falls : losses s < 4 → waits s ≡ false → mail now ≤ mail d + 2 → answers after ≡ answers s → losses after ≡ losses s + 1 → waits after ≡ false
          → run_left left_of mail (slice_set sessions at after) (slice_set partitions part now) < run_left left_of mail sessions partitions
      losing_falls few idle posts same lost still =
          let sent = (sendings_fall (answers s) (losses s) few).1 in
          let less = parts-left after (answers s) (losses s + 1) false same lost still in
          falls (omega (arith, sent, was idle, less, posts))

      -- or is lost the last time, and the path has failed
      pub failing_falls : losses s < 4 → waits s ≡ false → mail now ≤ mail d + 2 → answers after < answers s → losses after ≡ 0 → waits after ≡ false
          → run_left left_of mail (slice_set sessions at after) (slice_set partitions part now) < run_left left_of mail sessions partitions
      failing_falls few idle posts fewer unlost goes =
          let sent = (sendings_fall (answers s) (losses s) few).2 (answers after) fewer in
          let less = parts-left after (answers after) 0 false refl unlost goes in
          falls (omega (arith, sent, was idle, less, posts))

      -- it serves its End by hand, and no mail changes
      pub by_hand_falls : answers after < answers s → losses after ≡ 0 → waits after ≡ false → mail now ≡ mail d
          → run_left left_of mail (slice_set sessions at after) (slice_set partitions part now) < run_left left_of mail sessions partitions
      by_hand_falls fewer unlost goes same = falls (omega (arith, answered-less fewer unlost goes, same))

      -- the partition serves a message of the session, of which only that is noted
      pub serving_falls : mail now < mail d → answers after ≡ answers s → losses after ≡ losses s → waits after ≡ waits s
          → run_left left_of mail (slice_set sessions at after) (slice_set partitions part now) < run_left left_of mail sessions partitions
      serving_falls shorter same lost wait = falls (omega (arith, shorter, parts-left after (answers s) (losses s) (waits s) same lost wait))

-- the reply to an End is no redrive
ends-done : (a : Ask) (above : List ℕ → ℕ) (n part sync ordinal : ℕ) (r : PartitionReply) → is_end a ≡ true → fits a r ≡ true → Advances above n (Sends part sync (record { ordinal = ordinal; ask = a })) (Reply r)
ends-done (ask.EndCommit stamp) above n part sync ordinal (reply.Redrive subset last cause rows changed) e f = absurd (false≢true f)
ends-done ask.EndUndo above n part sync ordinal (reply.Redrive subset last cause rows changed) e f = absurd (false≢true f)
ends-done other above n part sync ordinal (reply.Redrive subset last cause rows changed) e f = absurd (false≢true e)
ends-done a above n part sync ordinal other e f = tt

pub ends_advance : (above : List ℕ → ℕ) (n part sync : ℕ) (request : Request) (r : PartitionReply) → is_end request.ask ≡ true → fits request.ask r ≡ true → Advances above n (Sends part sync request) (Reply r)
ends_advance above n part sync request r e f = ends-done request.ask above n part sync request.ordinal r e f
