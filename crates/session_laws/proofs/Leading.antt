-- Logs joined end to end lead on, and what they have sent to.
use Rattle.std.proofs.Common.{◌≡◌, ℕ, List, [], ◌∷◌, ◌++◌, refl, ap, sym, ◌∙◌, subst}
use Rattle.dp_messages.specs.declared.requests.Request.{Request}
use Rattle.session_grammar.specs.declared.logs.Answer.{Answer}
use Rattle.session_grammar.specs.declared.logs.LogEntry.{LogEntry}
use Rattle.session_grammar.specs.declared.logs.LogEntry.TheVariants.{Asked, Drew}
use Rattle.session_grammar.specs.Plans.{Asker}
use Rattle.session_grammar.specs.Rows.{IsAsked, IsSent}
use Rattle.session_laws.specs.Scaffold.Machine.{Over, Place, Send, after, see}
use Rattle.session_laws.specs.Scaffold.Leading.{Does, Leads, answer_of}

module _ (r : Asker) where
  -- a log leads as far as its parts lead one after the other
  pub Leads-append : (xs ys : List LogEntry) (p q t : Place) → Leads r p xs q → Leads r q ys t → Leads r p (xs ++ ys) t
  Leads-append [] ys p q t a b = subst (λ (x : Place). Leads r x ys t) (sym a) b
  Leads-append (e ∷ xs) ys p q t a b = (a.0, Leads-append xs ys (after r p (answer_of e)) q t a.1 b)

  -- each front of a log that leads on leads to a place
  pub Leads-split : (xs ys : List LogEntry) (p t : Place) → Leads r p (xs ++ ys) t → (q : Place) × Leads r p xs q × Leads r q ys t
  Leads-split [] ys p t h = (p, refl, h)
  Leads-split (e ∷ xs) ys p t h = let rest = Leads-split xs ys (after r p (answer_of e)) t h.1 in (rest.0, (h.0, rest.1), rest.2)

  -- a log leads to one place
  pub one_end : (xs : List LogEntry) (p q t : Place) → Leads r p xs q → Leads r p xs t → q ≡ t
  one_end [] p q t a b = sym a ∙ b
  one_end (e ∷ xs) p q t a b = one_end xs (after r p (answer_of e)) q t a.1 b.1

  -- nothing leads on from the end
  pub over_none : (xs : List LogEntry) (p : Place) → Leads r Over xs p → xs ≡ []
  over_none [] p h = refl
  over_none (e ∷ xs) p h = absurd h.0

-- the partitions that were sent something, with those of more entries
abbrev pub walk : List ℕ → List LogEntry → List ℕ
walk seen [] = seen
walk seen (Asked part sync request losses answer ∷ es) = walk (see part seen) es
walk seen (Drew name floor answer ∷ es) = walk seen es

pub walk-append : (seen : List ℕ) (xs ys : List LogEntry) → walk seen (xs ++ ys) ≡ walk (walk seen xs) ys
walk-append seen [] ys = refl
walk-append seen (Asked p s q l a ∷ xs) ys = walk-append (see p seen) xs ys
walk-append seen (Drew n f a ∷ xs) ys = walk-append seen xs ys

-- what was asked is done where it is open, has this answer, and was sent there
pub asked_does : (part : ℕ) (request : Request) (answer : Answer) (e : LogEntry) → IsAsked part request answer e
    → Does (Send part request) e × (answer_of e ≡ answer) × ((seen : List ℕ) → walk seen (e ∷ []) ≡ see part seen)
asked_does part request answer (Asked p s q l a) h =
    ((h.0, h.1, subst (λ (x : Request). IsSent x.ask l a) h.1 h.3), h.2, λ seen. ap (λ x. see x seen) h.0)
asked_does part request answer (Drew n f a) h = absurd h

-- and what is done is asked
pub does_asked : (part : ℕ) (request : Request) (e : LogEntry) → Does (Send part request) e
    → IsAsked part request (answer_of e) e × ((seen : List ℕ) → walk seen (e ∷ []) ≡ see part seen)
does_asked part request (Asked p s q l a) h = ((h.0, h.1, refl, subst (λ (x : Request). IsSent x.ask l a) (sym h.1) h.2), λ seen. ap (λ x. see x seen) h.0)
does_asked part request (Drew n f a) h = absurd h
