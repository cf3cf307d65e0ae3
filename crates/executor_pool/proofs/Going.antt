-- What the calls on a partition and its mail leave of a job's tokens.
use Rattle.std.proofs.Common.{◌≡◌, ℕ, List, [], ◌∷◌, ◌++◌, length, Option, Some, None, false, refl, ap, sym, ◌∙◌, subst, inl, inr, Contains}
use Rattle.std.specs.Prelude.{IfNone, IfSome}
use Rattle.std.specs.List.{AllByRecursion}
use Rattle.std.proofs.lemmas.List.Elements.{Contains-append_left, Contains-push}
use Rattle.turn_lock.proofs.Seats.{IsPrefix-refl}
use Rattle.sql_base.proofs.ListFacts.{all-weaker, all_joined}
use Rattle.sql_base.proofs.Truths.{some-same}
use Rattle.dp_messages.specs.Spelling.{IsEnvelope, request_bytes}
use Rattle.dp_messages.specs.declared.requests.Envelope.{Envelope}
use Rattle.dp_messages.specs.declared.requests.Request.{Request}
use Rattle.dp_messages.proofs.Meanings.{one_envelope}
use Rattle.mail_queue.specs.Tokens.{PosterToken, TakerToken, with_posted, with_taken}
use Rattle.partition_state.specs.declared.entries.Entry.{Entry}
use Rattle.partition_core.specs.declared.partitions.Served.{Served}
use Rattle.partition_core.specs.declared.partitions.Served.TheVariants.{New, Repeat, Old, Starved}
use Rattle.plans_laws.specs.Spelled.{envelope_of}
use Rattle.requester_fs.specs.Asking.{Asking}
use Rattle.shared_partition.specs.Sharing.{Answers, AnswersMessage, GoesOn, IsTurn, PartitionPass}
use Rattle.executor_pool.specs.Jobs.{HasAsked, IsOfMessage, IsOfSession, IsOwnMessage, KeepsMail, KeepsPart}
use Rattle.executor_pool.specs.Tokens.{AreSame, AsksNothing, HasAskedAs, Leaves}
use Rattle.executor_pool.specs.declared.tokens.Server.{Server}
use Rattle.executor_pool.specs.declared.tokens.Tokens.{Tokens}

-- what holds of the entries of a pass, and of one that it may add, holds of them after a turn
module _ (P : Entry → Type 0) where
  abbrev IsMine : ℕ × Entry → Type 0
  IsMine placed = P placed.1

  abbrev Mine : PartitionPass → Type 0
  Mine pass = AllByRecursion IsMine pass.mine

  pub turn_keeps : (before after : PartitionPass) (added : Option Entry) → IsTurn before after added → ((e : Entry) → added ≡ Some e → P e) → Mine before → Mine after
  turn_keeps before after None t own all = subst Mine (sym t.adds) all
  turn_keeps before after (Some e) t own all = subst Mine (sym t.adds) (all_joined IsMine before.mine ((length t.found.history, e) ∷ []) all (own e refl, tt))

  pub answer_keeps : (before after : PartitionPass) (opener sync : ℕ) (request : Request) (served : Served) → Answers before opener sync request served after
      → ((e : Entry) → e.opener ≡ opener → e.sync ≡ sync → e.request ≡ request → P e) → Mine before → Mine after
  answer_keeps before after opener sync request New h own all = turn_keeps before after (Some h.0) h.1 (λ e is. subst P (some-same h.0 e is) (own h.0 h.2 h.3 h.4)) all
  answer_keeps before after opener sync request Repeat h own all = turn_keeps before after None h.0 (λ e is. absurd (cc is)) all
  answer_keeps before after opener sync request Old h own all = turn_keeps before after None h.0 (λ e is. absurd (cc is)) all
  answer_keeps before after opener sync request Starved h own all = turn_keeps before after None h.0 (λ e is. absurd (cc is)) all

-- the envelope of an entry that has these parts
its_envelope : (e : Entry) (m : Envelope) → e.opener ≡ m.opener → e.sync ≡ m.sync → e.request ≡ m.request → envelope_of e ≡ m
its_envelope e m opener sync request = (λ i. record { opener = opener i; sync = sync i; request = request i })

-- it is of a message that was taken
of_taken : (taken : List (List ℕ)) (message : List ℕ) (m : Envelope) → IsEnvelope m → message ≡ request_bytes m → Contains taken message → (e : Entry) → e.opener ≡ m.opener → e.sync ≡ m.sync → e.request ≡ m.request → IsOfMessage taken e
of_taken taken message m spelled bytes there e opener sync request =
    let same : m ≡ envelope_of e = sym (its_envelope e m opener sync request) in
    (subst IsEnvelope same spelled, subst (Contains taken) (bytes ∙ ap request_bytes same) there)

more_taken : (taken : List (List ℕ)) (message : List ℕ) (e : Entry) → IsOfMessage taken e → IsOfMessage (taken ++ message ∷ []) e
more_taken taken message e h = (h.0, Contains-append_left taken (message ∷ []) (request_bytes (envelope_of e)) h.1)

still : (pass : PartitionPass) → pass.holds ≡ false → GoesOn pass pass
still pass idle = record { lock = refl; number = refl; root = refl; idle = idle; seen = IsPrefix-refl pass.seen }

-- a message is posted
pub posted_leaves : (t : Tokens) (message : List ℕ) (poster : PosterToken) → t.pass.holds ≡ false → poster ≡ with_posted t.poster message → Leaves (λ a part. IsOwnMessage a part message) t (record t { poster = poster })
posted_leaves t message poster idle is =
    record {
      same = record {
        pass = still t.pass idle;
        poster_mail = ap (λ (p : PosterToken). p.mail) is;
        poster_number = ap (λ (p : PosterToken). p.number) is;
        taker_mail = refl;
        taker_number = refl;
      };
      keeps = λ a part own k.
          record {
            posted = subst (λ (p : PosterToken). AllByRecursion (IsOwnMessage a part) p.posted) (sym is) (all_joined (IsOwnMessage a part) t.poster.posted (message ∷ []) k.posted (own, tt));
            served = k.served;
          };
    }

-- only the pass is another
same_but_pass : (t : Tokens) (pass : PartitionPass) → GoesOn t.pass pass → AreSame t (record t { pass = pass })
same_but_pass t pass on = record { pass = on; poster_mail = refl; poster_number = refl; taker_mail = refl; taker_number = refl }

-- one's own message is served by hand
pub handed_leaves : (t : Tokens) (message : List ℕ) (pass : PartitionPass) (served : Served) → GoesOn t.pass pass → AnswersMessage t.pass message served pass → Leaves (λ a part. IsOwnMessage a part message) t (record t { pass = pass })
handed_leaves t message pass served on h = record { same = same_but_pass t pass on; keeps = keeps }
  where
    keeps : (a : Asking) (part : ℕ) → IsOwnMessage a part message → KeepsPart a part t → KeepsPart a part (record t { pass = pass })
    keeps a part own k =
        let same : h.0 ≡ own.0 = one_envelope h.0 own.0 h.1 own.1 (sym h.2 ∙ own.2) in
        let asked : HasAskedAs h.0.opener h.0.sync h.0.request a part = subst (λ (m : Envelope). HasAskedAs m.opener m.sync m.request a part) (sym same) (own.3, own.4) in
        record { posted = k.posted; served = answer_keeps (IsOfSession a part t.taker.taken) t.pass pass h.0.opener h.0.sync h.0.request served h.3 (of asked) k.served }
      where
        of : HasAskedAs h.0.opener h.0.sync h.0.request a part → (e : Entry) → e.opener ≡ h.0.opener → e.sync ≡ h.0.sync → e.request ≡ h.0.request → IsOfSession a part t.taker.taken e
        of asked e opener sync request = inr (opener ∙ asked.0, subst (λ (q : Request). HasAsked a part e.sync q) (sym request) (subst (λ (n : ℕ). HasAsked a part n h.0.request) (sym sync) asked.1))

-- a request of one's own is served by hand
pub served_leaves : (t : Tokens) (opener sync : ℕ) (request : Request) (pass : PartitionPass) (served : Served) → GoesOn t.pass pass → Answers t.pass opener sync request served pass → Leaves (HasAskedAs opener sync request) t (record t { pass = pass })
served_leaves t opener sync request pass served on h =
    record {
      same = same_but_pass t pass on;
      keeps = λ a part asked k.
          record {
            posted = k.posted;
            served = answer_keeps (IsOfSession a part t.taker.taken) t.pass pass opener sync request served h
                (λ e o s q. inr (o ∙ asked.0, subst (λ (r : Request). HasAsked a part e.sync r) (sym q) (subst (λ (n : ℕ). HasAsked a part n request) (sym s) asked.1))) k.served;
          };
    }

-- the reply to a sync is looked for
pub heard_leaves : (t : Tokens) (pass : PartitionPass) → GoesOn t.pass pass → IsTurn t.pass pass None → Leaves AsksNothing t (record t { pass = pass })
heard_leaves t pass on turn =
    record {
      same = same_but_pass t pass on;
      keeps = λ a part nothing k. record { posted = k.posted; served = turn_keeps (IsOfSession a part t.taker.taken) t.pass pass None turn (λ e is. absurd (cc is)) k.served };
    }

-- a message is taken and served
pub took_leaves : (t : Tokens) (message : List ℕ) (pass : PartitionPass) (taker : TakerToken) (served : Served) → GoesOn t.pass pass → taker ≡ with_taken t.taker message → AnswersMessage t.pass message served pass
    → Leaves AsksNothing t (record t { pass = pass; taker = taker })
took_leaves t message pass taker served on is h =
    subst (λ (k : TakerToken). Leaves AsksNothing t (record t { pass = pass; taker = k })) (sym is)
    record {
      same = record { pass = on; poster_mail = refl; poster_number = refl; taker_mail = refl; taker_number = refl };
      keeps = λ a part nothing k.
          record {
            posted = k.posted;
            served = answer_keeps (IsOfSession a part (t.taker.taken ++ message ∷ [])) t.pass pass h.0.opener h.0.sync h.0.request served h.3
                (λ e o s q. inl (of_taken (t.taker.taken ++ message ∷ []) message h.0 h.1 h.2 (Contains-push t.taker.taken message) e o s q))
                (all-weaker (λ placed. IsOfSession a part t.taker.taken placed.1) (λ placed. IsOfSession a part (t.taker.taken ++ message ∷ []) placed.1) (λ placed o. more a part placed.1 o) t.pass.mine k.served);
          };
    }
  where
    more : (a : Asking) (part : ℕ) (e : Entry) → IsOfSession a part t.taker.taken e → IsOfSession a part (t.taker.taken ++ message ∷ []) e
    more a part e (inl m) = inl (more_taken t.taker.taken message e m)
    more a part e (inr own) = inr own

-- nothing was there to be taken
pub none_leaves : (t : Tokens) (pass : PartitionPass) (taker : TakerToken) → t.pass.holds ≡ false → pass ≡ t.pass → taker ≡ t.taker → Leaves AsksNothing t (record t { pass = pass; taker = taker })
none_leaves t pass taker idle same_pass same_taker =
    subst (λ (p : PartitionPass). Leaves AsksNothing t (record t { pass = p; taker = taker })) (sym same_pass)
    (subst (λ (k : TakerToken). Leaves AsksNothing t (record t { pass = t.pass; taker = k })) (sym same_taker)
    record { same = record { pass = still t.pass idle; poster_mail = refl; poster_number = refl; taker_mail = refl; taker_number = refl }; keeps = λ a part nothing k. k })

-- a server serves a message that it took
pub mail_kept : (s : Server) (message : List ℕ) (pass : PartitionPass) (taker : TakerToken) (served : Served) → taker ≡ with_taken s.taker message → AnswersMessage s.pass message served pass → KeepsMail s
    → KeepsMail (record s { pass = pass; taker = taker })
mail_kept s message pass taker served is h keeps =
    let taken = s.taker.taken ++ message ∷ [] in
    let all = answer_keeps (IsOfMessage taken) s.pass pass h.0.opener h.0.sync h.0.request served h.3 (λ e o sy q. of_taken taken message h.0 h.1 h.2 (Contains-push s.taker.taken message) e o sy q)
    (all-weaker (λ placed. IsOfMessage s.taker.taken placed.1) (λ placed. IsOfMessage taken placed.1) (λ placed o. more_taken s.taker.taken message placed.1 o) s.pass.mine keeps) in
    subst (λ (k : TakerToken). AllByRecursion (λ placed. IsOfMessage k.taken placed.1) pass.mine) (sym is) all

-- whether there was a message or none
pub turned_leaves : (t : Tokens) (served : Option Served) (pass : PartitionPass) (taker : TakerToken) → t.pass.holds ≡ false → GoesOn t.pass pass
    → IfSome served (λ s. (message : List ℕ) × (taker ≡ with_taken t.taker message) × AnswersMessage t.pass message s pass) → IfNone served ((pass ≡ t.pass) × (taker ≡ t.taker)) → Leaves AsksNothing t (record t { pass = pass; taker = taker })
turned_leaves t (Some s) pass taker idle on h stays = took_leaves t h.0 pass taker s on h.1 h.2
turned_leaves t None pass taker idle on h stays = none_leaves t pass taker idle stays.0 stays.1

pub turned_keeps_mail : (s : Server) (served : Option Served) (pass : PartitionPass) (taker : TakerToken)
    → IfSome served (λ w. (message : List ℕ) × (taker ≡ with_taken s.taker message) × AnswersMessage s.pass message w pass) → IfNone served ((pass ≡ s.pass) × (taker ≡ s.taker)) → KeepsMail s → KeepsMail (record s { pass = pass; taker = taker })
turned_keeps_mail s (Some w) pass taker h stays keeps = mail_kept s h.0 pass taker w h.1 h.2 keeps
turned_keeps_mail s None pass taker h stays keeps =
    subst (λ (p : PartitionPass). KeepsMail (record s { pass = p; taker = taker })) (sym stays.0) (subst (λ (k : TakerToken). KeepsMail (record s { taker = k })) (sym stays.1) keeps)
