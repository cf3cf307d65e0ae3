-- What a spelled partition keeps of an opener is what its history has of it.
use Rattle.std.proofs.Common.{◌≡◌, ◌≤◌, ◌<◌, ◌-◌, ℕ, List, [], ◌∷◌, Option, Some, None, false, refl, ap, sym, ◌∙◌, subst, inl, inr, arith}
use Rattle.std.proofs.lemmas.Bool.{false≢true}
use Rattle.std.specs.Prelude.{slice_get, unwrap_or}
use Rattle.std.specs.List.{AllByRecursion}
use Rattle.sql_base.specs.Scripts.{Lies}
use Rattle.sql_base.proofs.ListFacts.{all-weaker, all_in, all_joined}
use Rattle.sql_base.proofs.Truths.{some-same}
use Rattle.dp_messages.specs.Spelling.{IsEnvelope, IsReply}
use Rattle.dp_messages.specs.declared.replies.Reply.{Reply}
use Rattle.dp_messages.specs.declared.requests.Request.{Request}
use Rattle.partition_state.specs.State.{Opener, State, new_opener, opener_of}
use Rattle.partition_state.specs.declared.entries.Entry.{Entry}
use Rattle.partition_laws.proofs.LastEntries.{IsOfLast, fresh_at, of_last, up_to_last}
use Rattle.partition_core.specs.Kept.{AreMarked, IsReplayed, Kept, Serves, entry_of, marked, opener_in, served}
use Rattle.partition_core.specs.declared.partitions.Served.{Served}
use Rattle.partition_core.specs.declared.partitions.Served.TheVariants.{New, Repeat, Old, Starved}
use Rattle.partition_core.proofs.Replays.{IsReplayed-served}
use Rattle.plans_laws.specs.Spelled.{envelope_of}
use Rattle.plans_laws.proofs.SpelledHistories.{history-spelled}
use Rattle.shared_partition.specs.Sharing.{Finds, HasLater, HasNoneFrom, IsLast}
use Rattle.shared_partition.specs.Spelled.{Adds, IsSpelled, IsSpelling}
use Rattle.shared_partition.specs.declared.picked.Picked.{Picked}
use Rattle.shared_partition.specs.declared.picked.Picked.TheVariants as picked

-- without a mark an opener is as the history leaves it
unmarked : (mark : Option ℕ) (o : Opener) → (marked mark o).starved ≡ false → marked mark o ≡ o
unmarked None o h = refl
unmarked (Some sync) o h = absurd (false≢true (sym h))

module _ (k : Kept) (is : IsSpelled k) (told : IsReplayed k) (n : ℕ) (lies : Lies 1 8 n) where
  fresh : opener_of k.opening n ≡ new_opener
  fresh = ap (λ (os : List Opener). unwrap_or (slice_get os (n - 1)) new_opener) is.opening.openers ∙ fresh_at 8 (n - 1)

  its_last : IsOfLast n k.history new_opener (opener_of k.now n)
  its_last =
      subst (λ (o : Opener). IsOfLast n k.history o (opener_of k.now n)) fresh
      (subst (λ (q : State). IsOfLast n k.history (opener_of k.opening n) (opener_of q n)) (sym told.replayed)
      (of_last k.opening k.history n is.opening.spelled.keeps told.legal lies))

  up_to : AllByRecursion (λ (e : Entry). e.opener ≡ n → e.sync ≤ (opener_of k.now n).last) k.history
  up_to =
      subst (λ (q : State). AllByRecursion (λ (e : Entry). e.opener ≡ n → e.sync ≤ (opener_of q n).last) k.history) (sym told.replayed)
      (up_to_last k.opening k.history n is.opening.spelled.keeps told.legal lies)

  -- what is kept is the reply of its last entry
  last_entry : (sync : ℕ) → 0 < sync → (opener_of k.now n).last ≡ sync → (e : Entry) × IsLast k.history n sync e × ((opener_of k.now n).kept ≡ Some e.reply)
  last_entry sync some last = of its_last
    where
      of : IsOfLast n k.history new_opener (opener_of k.now n) → (e : Entry) × IsLast k.history n sync e × ((opener_of k.now n).kept ≡ Some e.reply)
      of (inl none) = absurd (let same = none.0 in omega (arith, some, same, last))
      of (inr one) = (
        one.0,
        record {
          stands = one.1;
          of_opener = one.2;
          has_sync = sym one.3 ∙ last;
          none_later = subst (λ m. AllByRecursion (λ (e : Entry). e.opener ≡ n → e.sync ≤ m) k.history) last up_to;
        },
        one.4,
      )

  -- a sync below its last one was passed by
  later_entry : (sync : ℕ) → sync < (opener_of k.now n).last → HasLater k.history n sync
  later_entry sync lower = of its_last
    where
      of : IsOfLast n k.history new_opener (opener_of k.now n) → HasLater k.history n sync
      of (inl none) = absurd (let same = none.0 in omega (arith, same, lower))
      of (inr one) = (one.0, one.1, one.2, let is = one.3 in omega (arith, is, lower))

  unstarved : (opener_in k n).starved ≡ false → opener_in k n ≡ opener_of k.now n
  unstarved h = unmarked (unwrap_or (slice_get k.marks (n - 1)) None) (opener_of k.now n) h

  -- the opener's last sync, which isn't starved, is that of its last entry, whose reply is kept and can be spelled
  pub has_last : (sync : ℕ) → 0 < sync → sync ≡ (opener_in k n).last → (opener_in k n).starved ≡ false
      → (e : Entry) × IsLast k.history n sync e × IsReply e.reply × ((opener_in k n).kept ≡ Some e.reply)
  has_last sync some same live =
      let one = last_entry sync some (ap (λ (o : Opener). o.last) (sym (unstarved live)) ∙ sym same) in
      let spelled = all_in (λ (e : Entry). IsReply e.reply) one.0 k.history one.1.stands (history-spelled k.opening k.history is.opening.spelled told.legal is.came).1 in
      (one.0, one.1, spelled, ap (λ (o : Opener). o.kept) (unstarved live) ∙ one.2)

  -- a sync below it was passed by
  pub has_later : (sync : ℕ) → sync < (opener_in k n).last → (opener_in k n).starved ≡ false → HasLater k.history n sync
  has_later sync lower live = later_entry sync (subst (λ (o : Opener). sync < o.last) (unstarved live) lower)

  -- nothing was served from a sync above it on
  pub has_none : AreMarked k → (sync : ℕ) → (opener_in k n).last < sync → HasNoneFrom k.history n sync
  has_none marks sync above =
      let low = marks n in
      let higher : (opener_of k.now n).last < sync = omega (arith, low, above) in
      all-weaker (λ (e : Entry). e.opener ≡ n → e.sync ≤ (opener_of k.now n).last) (λ (e : Entry). e.opener ≡ n → e.sync < sync) (λ e up own. let le = up own in omega (arith, le, higher)) k.history up_to

-- the kept reply to the opener's last sync is that of its last entry
pub found_reply : (k : Kept) → IsSpelled k → IsReplayed k → (n : ℕ) → Lies 1 8 n → (sync : ℕ) → 0 < sync → (reply : Reply) → (opener_in k n).last ≡ sync → (opener_in k n).starved ≡ false → (opener_in k n).kept ≡ Some reply
    → (e : Entry) × IsLast k.history n sync e × IsReply reply × (reply ≡ e.reply)
found_reply k is told n lies sync some reply last live kept =
    let one = has_last k is told n lies sync some (sym last) live in
    let both : Some reply ≡ Some one.0.reply = sym kept ∙ one.3 in
    let same : reply ≡ one.0.reply = some-same reply one.0.reply both in
    (one.0, one.1, subst IsReply (sym same) one.2, same)

-- one more request that came spelled
module _ (k : Kept) (is : IsSpelled k) (told : IsReplayed k) (marks : AreMarked k) (n sync : ℕ) (request : Request) (came : IsEnvelope (record { opener = n; sync = sync; request = request })) (new : (opener_in k n).last < sync) where
  pub replayed_more : IsReplayed (served k n sync request)
  replayed_more =
      let low = marks n in
      let higher : (opener_of k.now n).last < sync = omega (arith, low, new) in
      IsReplayed-served k n sync request told came.opener higher

  pub spelled_more : IsSpelled (served k n sync request)
  spelled_more = record {
    opening = is.opening;
    came = all_joined (λ (e : Entry). IsEnvelope (envelope_of e)) k.history (entry_of k.now n sync request ∷ []) is.came (came, tt);
  }

-- the bytes of the reply to an opener's last entry are what it finds
pub finds_reply : (history : List Entry) (n sync : ℕ) (e : Entry) → IsLast history n sync e → IsReply e.reply → (found : Picked) → IsSpelling e.reply found → Finds history n sync found
finds_reply history n sync e last spelled (picked.Reply bytes) h = (e, last, spelled, h)
finds_reply history n sync e last spelled picked.Pending h = absurd h
finds_reply history n sync e last spelled picked.Passed h = absurd h
finds_reply history n sync e last spelled picked.Starved h = tt
finds_reply history n sync e last spelled picked.NoMemory h = tt

abbrev NotOld : Served → Type 0
NotOld Old = ⊥
NotOld other = Unit {0}

-- what a request leaves of the history, by each answer of the partition but Old
pub serves_adds : (k k' : Kept) (is : IsSpelled k) (told : IsReplayed k) (n sync : ℕ) (request : Request) → Lies 1 8 n → 0 < sync → (answer : Served) → NotOld answer → Serves k n sync request answer k' → Adds k n sync request answer k'
serves_adds k k' is told n sync request lies some New not h = (entry_of k.now n sync request, ap (λ (q : Kept). q.history) h.1, refl, refl, refl, h.0)
serves_adds k k' is told n sync request lies some Repeat not h = let one = has_last k is told n lies sync some h.0 h.1 in (ap (λ (q : Kept). q.history) h.2, one.0, one.1, (h.0, h.1))
serves_adds k k' is told n sync request lies some Old not h = absurd not
serves_adds k k' is told n sync request lies some Starved not (inl h) = (ap (λ (q : Kept). q.history) h.1, inl h.0)
serves_adds k k' is told n sync request lies some Starved not (inr h) = let same = h.0 in (ap (λ (q : Kept). q.history) h.2, inr (omega (arith, same), h.1))

-- what holds of the partition behind each answer but Old
pub record HasServed (k k' : Kept) (n sync : ℕ) (request : Request) (answer : Served) : Type 0 where
  pub opening : k'.opening ≡ k.opening
  pub replayed : IsReplayed k'
  pub spelled : IsSpelled k'
  pub adds : Adds k n sync request answer k'

pub has_served : (k k' : Kept) (is : IsSpelled k) (told : IsReplayed k) (marks : AreMarked k) (n sync : ℕ) (request : Request) (came : IsEnvelope (record { opener = n; sync = sync; request = request }))
    → (answer : Served) → NotOld answer → Serves k n sync request answer k' → HasServed k k' n sync request answer
has_served k k' is told marks n sync request came answer not h =
    let some : 0 < sync = let least = came.sync.0 in omega (arith, least) in
    by_answer answer h (serves_adds k k' is told n sync request came.opener some answer not h)
  where
    as_it_was : (answer : Served) → k' ≡ k → Adds k n sync request answer k' → HasServed k k' n sync request answer
    as_it_was answer same adds = record { opening = ap (λ (q : Kept). q.opening) same; replayed = subst IsReplayed (sym same) told; spelled = subst IsSpelled (sym same) is; adds = adds }

    by_answer : (answer : Served) → Serves k n sync request answer k' → Adds k n sync request answer k' → HasServed k k' n sync request answer
    by_answer New h adds = record {
      opening = ap (λ (q : Kept). q.opening) h.1;
      replayed = subst IsReplayed (sym h.1) (replayed_more k is told marks n sync request came h.0);
      spelled = subst IsSpelled (sym h.1) (spelled_more k is told marks n sync request came h.0);
      adds = adds;
    }
    by_answer Repeat h adds = as_it_was Repeat h.2 adds
    by_answer Old h adds = as_it_was Old h.1 adds
    by_answer Starved (inl h) adds = record {
      opening = ap (λ (q : Kept). q.opening) h.1;
      replayed = subst IsReplayed (sym h.1) (record { legal = told.legal; replayed = told.replayed });
      spelled = subst IsSpelled (sym h.1) (record { opening = is.opening; came = is.came });
      adds = adds;
    }
    by_answer Starved (inr h) adds = as_it_was Starved h.2 adds
