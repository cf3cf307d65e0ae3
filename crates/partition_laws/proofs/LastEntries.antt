-- What a partition keeps for an opener: the sync and the reply of its last entry.
use Rattle.std.proofs.Common.{◌≡◌, ◌≢◌, ◌≤◌, ℕ, zero, suc, List, [], ◌∷◌, length, replicate, Some, false, refl, ap, sym, ◌∙◌, subst, inl, inr, arith}
use Rattle.std.proofs.lemmas.Bool.{cases_eq}
use Rattle.std.specs.Prelude.{◌⊎◌, ◌-◌, Contains, slice_get, take, unwrap_or}
use Rattle.std.specs.List.{AllByRecursion}
use Rattle.sql_base.specs.Scripts.{Lies}
use Rattle.dp_messages.specs.declared.replies.Reply.{Reply}
use Rattle.dp_messages.specs.declared.requests.Request.{Request}
use Rattle.partition_state.specs.History.{IsLegal, before, replay}
use Rattle.partition_state.specs.State.{Opener, State, new_opener, opener_of}
use Rattle.partition_state.specs.Step.{step}
use Rattle.partition_state.specs.declared.entries.Entry.{Entry}
use Rattle.partition_laws.specs.Keeping.{Keeps}
use Rattle.partition_laws.specs.Moves.{by}
use Rattle.partition_laws.proofs.OpenerLaws.{last-between, last-rises, opener-others}
use Rattle.partition_laws.proofs.Openers.{seat-set}
use Rattle.partition_laws.proofs.Stepped.{IsNew, answer_to, replied-new}
use Rattle.partition_laws.proofs.Steps.{Keeps-answered, Keeps-step}

-- the reply of a new request is kept
pub told_kept : (p : State) (opener sync : ℕ) (request : Request) (reply : Reply) → Keeps p → Lies 1 8 opener → (step p opener sync request).reply ≡ Some reply → (opener_of (step p opener sync request).state opener).kept ≡ Some reply
told_kept p opener sync request reply k lies told =
    let new : IsNew p opener sync request reply = replied-new p opener sync request reply told in
    let a = answer_to p opener request in
    let eight = (Keeps-answered p (by opener request) request.ask lies k).openers in
    ap (λ (q : State). (opener_of q opener).kept) new.state
    ∙ ap (λ (o : Opener). o.kept) (seat-set a.state.openers opener (record (opener_of a.state opener) { last = sync; starved = false; kept = Some reply }) lies eight)

-- it is that of an entry of the history, or what was kept before
abbrev pub IsOfLast : ℕ → List Entry → Opener → Opener → Type 0
IsOfLast n history before now = ((now.last ≡ before.last) × (now.kept ≡ before.kept)) ⊎ ((e : Entry) × Contains history e × (e.opener ≡ n) × (now.last ≡ e.sync) × (now.kept ≡ Some e.reply))

pub of_last : (p : State) (history : List Entry) (n : ℕ) → Keeps p → IsLegal p history → Lies 1 8 n → IsOfLast n history (opener_of p n) (opener_of (replay p history) n)
of_last p [] n k legal lies = inl (refl, refl)
of_last p (e ∷ es) n k legal lies =
    by_rest (opener_of (replay q es) n) (of_last q es n (Keeps-step p e.opener e.sync e.request legal.0 k) legal.2 lies)
  where
    q : State
    q = (step p e.opener e.sync e.request).state

    first : (now : Opener) → (now.last ≡ (opener_of q n).last) × (now.kept ≡ (opener_of q n).kept) → (n ≡ e.opener) ⊎ (n ≢ e.opener) → IsOfLast n (e ∷ es) (opener_of p n) now
    first now same (inl own) =
        let r = last-rises p e.opener e.sync e.request e.reply k legal.0 legal.1 in
        let kept = told_kept p e.opener e.sync e.request e.reply k legal.0 legal.1 in
        let last_is : (opener_of q n).last ≡ e.sync = subst (λ m. (opener_of q m).last ≡ e.sync) (sym own) r.1 in
        let kept_is : (opener_of q n).kept ≡ Some e.reply = subst (λ m. (opener_of q m).kept ≡ Some e.reply) (sym own) kept in
        inr (e, (zero, omega arith, refl), sym own, same.0 ∙ last_is, same.1 ∙ kept_is)
    first now same (inr other) =
        let stays = opener-others p e.opener e.sync e.request n legal.0 lies other in
        inl (same.0 ∙ ap (λ (o : Opener). o.last) stays, same.1 ∙ ap (λ (o : Opener). o.kept) stays)

    by_rest : (now : Opener) → IsOfLast n es (opener_of q n) now → IsOfLast n (e ∷ es) (opener_of p n) now
    by_rest now (inl same) = first now same (cases_eq n e.opener)
    by_rest now (inr one) = inr (one.0, (suc one.1.0, omega (arith, one.1.1), one.1.2), one.2, one.3, one.4)

pub take_none : {X : Type 0} (xs : List X) → take 0 xs ≡ []
take_none [] = refl
take_none (x ∷ xs) = refl

pub take_whole : {X : Type 0} (xs : List X) → take (length xs) xs ≡ xs
take_whole [] = refl
take_whole (x ∷ xs) = ap (λ (ys : List _). x ∷ ys) (take_whole xs)

-- no entry of an opener is later than its last sync
pub up_to_last : (p : State) (history : List Entry) (n : ℕ) → Keeps p → IsLegal p history → Lies 1 8 n → AllByRecursion (λ (e : Entry). e.opener ≡ n → e.sync ≤ (opener_of (replay p history) n).last) history
up_to_last p [] n k legal lies = tt
up_to_last p (e ∷ es) n k legal lies = (own, up_to_last q es n keeps legal.2 lies)
  where
    q : State
    q = (step p e.opener e.sync e.request).state

    keeps : Keeps q
    keeps = Keeps-step p e.opener e.sync e.request legal.0 k

    own : e.opener ≡ n → e.sync ≤ (opener_of (replay q es) n).last
    own same =
        let r = last-rises p e.opener e.sync e.request e.reply k legal.0 legal.1 in
        let is : (opener_of q n).last ≡ e.sync = subst (λ m. (opener_of q m).last ≡ e.sync) same r.1 in
        let rise = (last-between q es 0 (length es) n keeps legal.2 lies (omega arith)).0 in
        let from : (opener_of (before q es 0) n).last ≡ (opener_of q n).last = ap (λ (h : List Entry). (opener_of (replay q h) n).last) (take_none es) in
        let to : (opener_of (before q es (length es)) n).last ≡ (opener_of (replay q es) n).last = ap (λ (h : List Entry). (opener_of (replay q h) n).last) (take_whole es) in
        omega (arith, is, rise, from, to)

-- an opener that was served nothing
pub fresh_at : (m k : ℕ) → unwrap_or (slice_get (replicate m new_opener) k) new_opener ≡ new_opener
fresh_at zero k = refl
fresh_at (suc m) zero = refl
fresh_at (suc m) (suc k) = fresh_at m k
