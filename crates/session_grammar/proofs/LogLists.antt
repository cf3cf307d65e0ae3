-- Logs joined end to end, and lists of one thing.
use Rattle.std.proofs.Common.{List, None, Option, Some, [], ap, false, inl, inr, refl, subst, suc, sym, true, zero, ℕ, ◌++◌, ◌+◌, ◌∙◌, ◌∷◌, ◌≡◌}
use Rattle.std.proofs.lemmas.List.{append-nil}
use Rattle.sql_base.specs.declared.outcomes.Abort.{Abort}
use Rattle.session_grammar.specs.declared.logs.LogEntry.{LogEntry}
use Rattle.session_grammar.specs.declared.logs.LogEntry.TheVariants.{Asked, Drew}
use Rattle.session_grammar.specs.Follows.{AreTheirs, CountSyncs, InTurn, joined}
use Rattle.session_grammar.specs.Sessions.{sync_behind}
use Rattle.session_grammar.specs.declared.logs.Answer.{Answer}
use Rattle.dp_messages.specs.declared.requests.Ask.{Ask}
use Rattle.dp_messages.specs.declared.requests.Request.{Request}
use Rattle.session_grammar.specs.Rows.{IsAsked, IsExchange, IsSent, is_end, is_for}
use Rattle.std.proofs.lemmas.Bool.{eq-eqb, eqb-true, ne_eqb, or_right}
use Rattle.session_grammar.specs.UnderWay.{IsFilled}
use Rattle.std.specs.List.{list_any}
use Rattle.session_grammar.specs.declared.plans.Sent.{Sent}

pub CountSyncs-append : (next : ℕ) (xs ys : List LogEntry) → CountSyncs next xs → CountSyncs (sync_behind next xs) ys → CountSyncs next (xs ++ ys)
CountSyncs-append next [] ys a b = b
CountSyncs-append next (Asked p s q l w ∷ xs) ys a b = (a.0, CountSyncs-append (next + 1) xs ys a.1 b)
CountSyncs-append next (Drew n f w ∷ xs) ys a b = CountSyncs-append next xs ys a b

-- the syncs behind a part of a log count on from it
pub CountSyncs-rest : (next : ℕ) (xs ys : List LogEntry) → CountSyncs next (xs ++ ys) → CountSyncs (sync_behind next xs) ys
CountSyncs-rest next [] ys h = h
CountSyncs-rest next (Asked p s q l w ∷ xs) ys h = CountSyncs-rest (next + 1) xs ys h.1
CountSyncs-rest next (Drew n f w ∷ xs) ys h = CountSyncs-rest next xs ys h

pub sync_behind-append : (next : ℕ) (xs ys : List LogEntry) → sync_behind next (xs ++ ys) ≡ sync_behind (sync_behind next xs) ys
sync_behind-append next [] ys = refl
sync_behind-append next (Asked p s q l w ∷ xs) ys = sync_behind-append (next + 1) xs ys
sync_behind-append next (Drew n f w ∷ xs) ys = sync_behind-append next xs ys

module _ {A : Type 0} (R : A → List LogEntry → Option Abort → Type 0) (x : A) where
  -- in turn over one thing is one list of it
  pub one_of : (lists : List (List LogEntry)) (end : Option Abort) → InTurn R (x ∷ []) lists end → (list : List LogEntry) × (lists ≡ list ∷ []) × R x list end
  one_of [] end h = absurd h
  one_of (list ∷ []) end h = (list, refl, elim h [ inl p ↦ subst (R x list) (sym p.1) p.0 | inr p ↦ p.0 ])
  one_of (list ∷ more ∷ lists) end h = elim h [ inl p ↦ absurd p.1 | inr p ↦ absurd (cc p.2) ]

  pub one_to : (list : List LogEntry) (end : Option Abort) → R x list end → InTurn R (x ∷ []) (list ∷ []) end
  one_to list None h = inl (h, refl)
  one_to list (Some abort) h = inr (h, search, refl)

pub joined-one : (list : List LogEntry) → joined (list ∷ []) ≡ list
joined-one list = append-nil list

pub syncs_front : (n : ℕ) (xs ys : List LogEntry) → CountSyncs n (xs ++ ys) → CountSyncs n xs
syncs_front n [] ys h = tt
syncs_front n (Asked p s q l a ∷ xs) ys h = (h.0, syncs_front (n + 1) xs ys h.1)
syncs_front n (Drew m f a ∷ xs) ys h = syncs_front n xs ys h

pub asked_for : (part : ℕ) (request : Request) (answer : Answer) (e : LogEntry) → IsAsked part request answer e → is_for part e ≡ true
asked_for part request answer (Asked p s q l a) h = eq-eqb p part h.0
asked_for part request answer (Drew n f a) h = absurd h

-- a log with nothing under way
pub none_filled : (log : List LogEntry) → IsFilled [] log log
none_filled log =
    record { front = log; tail = []; back = []; answered = []; log_is = sym (append-nil log); whole_is = sym (append-nil log); draws_nothing = tt; answers = tt; merged = (refl, refl) }

-- the answer of a row fits what it asks
pub row_sent : (patience part : ℕ) (request : Request) (row : List LogEntry) (answer : Answer) → IsExchange patience part request row answer → (losses : ℕ) × IsSent request.ask losses answer
row_sent patience part request [] answer h = absurd h
row_sent patience part request (Asked p sync q losses w ∷ []) answer h =
    (losses, subst (λ (a : Ask). IsSent a losses answer) (ap (λ (x : Request). x.ask) h.0.1) (subst (IsSent q.ask losses) h.0.2 h.0.3))
row_sent patience part request (Drew n f w ∷ []) answer h = absurd h.0
row_sent zero part request (e ∷ f ∷ es) answer h = absurd h
row_sent (suc patience) part request (e ∷ f ∷ es) answer h = row_sent patience part request (f ∷ es) answer h.1

-- an entry for one partition is for no other
pub other_for : (m n : ℕ) (e : LogEntry) → (m ≡ n → ⊥) → is_for m e ≡ true → is_for n e ≡ false
other_for m n (Asked p sync q losses a) differ h = ne_eqb p n (λ same. differ (sym (eqb-true p m h) ∙ same))
other_for m n (Drew name floor a) differ h = refl

-- what is theirs stays so with one more
pub theirs_more : (sent : Sent) (sents : List Sent) (entries : List LogEntry) → AreTheirs sents entries → AreTheirs (sent ∷ sents) entries
theirs_more sent sents [] h = tt
theirs_more sent sents (e ∷ es) h = (or_right (is_for sent.part e) (list_any (λ (s : Sent). is_for s.part e) sents) h.0, theirs_more sent sents es h.1)
