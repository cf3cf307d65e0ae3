-- How the last answer of a partition fails: of rows, lists and what was asked of others.
use Rattle.std.proofs.Common.{◌≡◌, ℕ, zero, suc, List, [], ◌∷◌, ◌++◌, Option, None, Bool, true, false, ◌&&◌, not, cond, filter, refl, ap, sym, ◌∙◌, subst}
use Rattle.std.specs.Prelude.{◌==◌}
use Rattle.std.specs.List.{AllByRecursion}
use Rattle.std.proofs.lemmas.Bool.{eq-eqb, ne_eqb}
use Rattle.sql_base.specs.declared.outcomes.Abort.{Abort}
use Rattle.dp_messages.specs.declared.replies.Reply.TheVariants as reply
use Rattle.dp_messages.specs.declared.requests.Ask.{Ask}
use Rattle.dp_messages.specs.declared.requests.Ask.TheVariants.{Continue}
use Rattle.dp_messages.specs.declared.requests.Request.{Request}
use Rattle.session_grammar.specs.declared.logs.Answer.{Answer}
use Rattle.session_grammar.specs.declared.logs.Answer.TheVariants.{Reply}
use Rattle.session_grammar.specs.declared.logs.LogEntry.{LogEntry}
use Rattle.session_grammar.specs.declared.logs.LogEntry.TheVariants.{Asked, Drew}
use Rattle.session_grammar.specs.Follows.{AfterRow, AreExchanges, IsList, IsSingle, joined}
use Rattle.session_grammar.specs.Plans.{Asker}
use Rattle.session_grammar.specs.declared.plans.Sent.{Sent}
use Rattle.session_grammar.specs.Rows.{IsAsked, IsExchange, failure, is_end, is_for}
use Rattle.record_text.specs.Scaffold.Reading.{failure_behind, last_failure}
use Rattle.session_laws.proofs.Loose.{after_work, asked_work}
use Rattle.sql_base.proofs.ListFacts.{all_joined}

-- what was asked of one partition, and no End
abbrev pub IsWork : ℕ → LogEntry → Type 0
IsWork part (Asked p sync request losses answer) = (p ≡ part) × (is_end request.ask ≡ false)
IsWork part (Drew name floor answer) = ⊥

module _ (part : ℕ) where
  pub last-append : (found : Option Abort) (xs ys : List LogEntry) → last_failure part found (xs ++ ys) ≡ last_failure part (last_failure part found xs) ys
  last-append found [] ys = refl
  last-append found (x ∷ xs) ys = last-append (failure_behind part found x) xs ys

  -- what was asked of others counts for nothing
  pub other-behind : (found : Option Abort) (e : LogEntry) → is_for part e ≡ false → failure_behind part found e ≡ found
  other-behind found (Asked p sync request losses answer) h = ap (λ b. cond (b && not (is_end request.ask)) (failure answer) found) h
  other-behind found (Drew name floor answer) h = refl

  pub last-others : (found : Option Abort) (es : List LogEntry) → AllByRecursion (λ e. is_for part e ≡ false) es → last_failure part found es ≡ found
  last-others found [] h = refl
  last-others found (e ∷ es) h = ap (λ x. last_failure part x es) (other-behind found e h.0) ∙ last-others found es h.1

  pub last-projected : (found : Option Abort) (es : List LogEntry) → last_failure part found (filter (is_for part) es) ≡ last_failure part found es
  last-projected found [] = refl
  last-projected found (e ∷ es) = at (is_for part e) refl (λ x. last-projected x es)
    where
      at : (b : Bool) → is_for part e ≡ b → ((x : Option Abort) → last_failure part x (filter (is_for part) es) ≡ last_failure part x es)
          → last_failure part found (cond b (e ∷ filter (is_for part) es) (filter (is_for part) es)) ≡ last_failure part (failure_behind part found e) es
      at true is rest = rest (failure_behind part found e)
      at false is rest = rest found ∙ ap (λ x. last_failure part x es) (sym (other-behind found e is))

  -- a request's answer counts
  pub asked-behind : (found : Option Abort) (request : Request) (answer : Answer) (e : LogEntry) → is_end request.ask ≡ false → IsAsked part request answer e → failure_behind part found e ≡ failure answer
  asked-behind found request answer (Asked p s q l a) none h =
      ap (λ b. cond (b && not (is_end q.ask)) (failure a) found) (eq-eqb p part h.0) ∙ ap (λ b. cond (not b) (failure a) found) (ap (λ (x : Request). is_end x.ask) h.1 ∙ none) ∙ ap failure h.2
  asked-behind found request answer (Drew n f a) none h = absurd h

  -- an End's doesn't
  pub end-behind : (found : Option Abort) (request : Request) (answer : Answer) (other : ℕ) (e : LogEntry) → is_end request.ask ≡ true → IsAsked other request answer e → failure_behind part found e ≡ found
  end-behind found request answer other (Asked p s q l a) is h =
      ap (λ b. cond ((p == part) && not b) (failure a) found) (ap (λ (x : Request). is_end x.ask) h.1 ∙ is) ∙ never (p == part)
    where
      never : (b : Bool) → cond (b && false) (failure a) found ≡ found
      never true = refl
      never false = refl
  end-behind found request answer other (Drew n f a) is h = absurd h

  pub row-last : (n : ℕ) (found : Option Abort) (request : Request) (row : List LogEntry) (answer : Answer) → is_end request.ask ≡ false → IsExchange n part request row answer → last_failure part found row ≡ failure answer
  row-last n found request [] answer none h = absurd h
  row-last n found request (e ∷ []) answer none h = asked-behind found request answer e none h.0
  row-last zero found request (e ∷ f ∷ es) answer none h = absurd h
  row-last (suc n) found request (e ∷ f ∷ es) answer none h = row-last n (failure_behind part found e) request (f ∷ es) answer none h.1

pub row_work : (n part : ℕ) (request : Request) (row : List LogEntry) (answer : Answer) → is_end request.ask ≡ false → IsExchange n part request row answer → AllByRecursion (IsWork part) row
row_work n part request [] answer none h = absurd h
row_work n part request (e ∷ []) answer none h = (asked_work part request answer e none h.0, tt)
row_work zero part request (e ∷ f ∷ es) answer none h = absurd h
row_work (suc n) part request (e ∷ f ∷ es) answer none h = (asked_work part request (Reply (reply.Locked h.0.0)) e none h.0.1, row_work n part request (f ∷ es) answer none h.1)

-- what is asked of another partition isn't asked of this one
pub work-other : (part j : ℕ) (e : LogEntry) → (part ≡ j → ⊥) → IsWork part e → is_for j e ≡ false
work-other part j (Asked p s q l a) differ h = ne_eqb p j (λ same. differ (sym h.0 ∙ same))
work-other part j (Drew n f a) differ h = refl

pub work-own : (part : ℕ) (e : LogEntry) → IsWork part e → is_for part e ≡ true
work-own part (Asked p s q l a) h = eq-eqb p part h.0
work-own part (Drew n f a) h = absurd h

pub works-other : (part j : ℕ) (es : List LogEntry) → (part ≡ j → ⊥) → AllByRecursion (IsWork part) es → AllByRecursion (λ e. is_for j e ≡ false) es
works-other part j [] differ h = tt
works-other part j (e ∷ es) differ h = (work-other part j e differ h.0, works-other part j es differ h.1)

module _ (r : Asker) (ordinal part : ℕ) where
  rows_work : (ask : Ask) (rows : List (List LogEntry)) (end : Option Abort) → is_end ask ≡ false → AreExchanges r ordinal part ask rows end → AllByRecursion (IsWork part) (joined rows)
  rows_work ask [] end none h = absurd h
  rows_work ask (row ∷ rows) end none h =
      all_joined (IsWork part) row (joined rows) (row_work r.limits.patience part (record { ordinal = ordinal; ask = ask }) row h.0 none h.1)
      (after_work r ordinal part h.0 rows end h.2 (λ subset last more. rows_work (Continue subset last) rows end refl more))

  none_last : (found end : Option Abort) (rows : List (List LogEntry)) → rows ≡ [] → end ≡ found → last_failure part found (joined rows) ≡ end
  none_last found end rows is e = ap (λ (x : List (List LogEntry)). last_failure part found (joined x)) is ∙ sym e

  after_last : (answer : Answer) (rows : List (List LogEntry)) (end : Option Abort) → AfterRow answer (λ subset last. AreExchanges r ordinal part (Continue subset last) rows end) rows end
      → ((subset : ℕ) (last : List ℕ) → AreExchanges r ordinal part (Continue subset last) rows end → last_failure part (failure answer) (joined rows) ≡ end) → last_failure part (failure answer) (joined rows) ≡ end
  after_last (Reply (reply.Redrive subset last cause out changed)) rows end h more = more subset last h
  after_last (Reply (reply.Ended out changed)) rows end h more = none_last None end rows h.0 h.1
  after_last answer rows end h more = none_last (failure answer) end rows h.0 h.2

  rows_last : (ask : Ask) (found : Option Abort) (rows : List (List LogEntry)) (end : Option Abort) → is_end ask ≡ false → AreExchanges r ordinal part ask rows end → last_failure part found (joined rows) ≡ end
  rows_last ask found [] end none h = absurd h
  rows_last ask found (row ∷ rows) end none h =
      last-append part found row (joined rows)
      ∙ ap (λ x. last_failure part x (joined rows)) (row-last part r.limits.patience found (record { ordinal = ordinal; ask = ask }) row h.0 none h.1)
      ∙ after_last h.0 rows end h.2 (λ subset last more. rows_last (Continue subset last) (failure h.0) rows end refl more)

-- lists of subsets and of single requests
abbrev pub IsPartOf : Sent → Type 0
IsPartOf sent = is_end sent.ask ≡ false

-- each list asks its partition alone, and its last answer tells how it ended
pub record Tells (R : Sent → List LogEntry → Option Abort → Type 0) : Type 0 where
  pub work : (sent : Sent) (list : List LogEntry) (end : Option Abort) → IsPartOf sent → R sent list end → AllByRecursion (IsWork sent.part) list
  pub last : (sent : Sent) (list : List LogEntry) (end found : Option Abort) → IsPartOf sent → R sent list end → last_failure sent.part found list ≡ end

pub list-tells : (r : Asker) (ordinal : ℕ) → Tells (IsList r ordinal)
list-tells r ordinal = record {
  work = λ sent list end none h. subst (AllByRecursion (IsWork sent.part)) (sym h.1) (rows_work r ordinal sent.part sent.ask h.0 end none h.2);
  last = λ sent list end found none h. ap (last_failure sent.part found) h.1 ∙ rows_last r ordinal sent.part sent.ask found h.0 end none h.2;
}

pub single-tells : (r : Asker) (ordinal : ℕ) → Tells (IsSingle r ordinal)
single-tells r ordinal = record {
  work = λ sent list end none h. row_work r.limits.patience sent.part (record { ordinal = ordinal; ask = sent.ask }) list h.0 none h.1;
  last = λ sent list end found none h. row-last sent.part r.limits.patience found (record { ordinal = ordinal; ask = sent.ask }) list h.0 none h.1 ∙ sym h.2;
}
