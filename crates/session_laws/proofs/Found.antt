-- A log that leads to the end has a front that reads as what is open, and leads on behind it.
use Rattle.std.proofs.Common.{◌≡◌, ℕ, List, [], ◌∷◌, ◌++◌, Option, Some, None, refl, ap, sym, ◌∙◌, subst, inl, inr, append_assoc}
use Rattle.std.proofs.lemmas.List.{append-nil}
use Rattle.std.specs.List.{AllByRecursion}
use Rattle.sql_base.specs.declared.outcomes.Abort.{Abort}
use Rattle.session_grammar.specs.declared.logs.LogEntry.{LogEntry}
use Rattle.session_grammar.specs.Follows.{InTurn, joined}
use Rattle.session_grammar.specs.Plans.{Asker}
use Rattle.session_laws.specs.Scaffold.Machine.{Over, Place}
use Rattle.session_laws.specs.Scaffold.Leading.{Leads}
use Rattle.session_laws.proofs.Leading.{walk, walk-append}

-- the front, its end, and the rest, which leads on from where the end leads
pub record Cut (r : Asker) (G : List LogEntry → Option Abort → Type 0) (out : List ℕ → Option Abort → Place) (seen : List ℕ) (es : List LogEntry) : Type 0 where
  pub front : List LogEntry
  pub rest : List LogEntry
  pub end : Option Abort
  pub entries : es ≡ front ++ rest
  pub is : G front end
  pub leads : Leads r (out (walk seen front) end) rest Over

-- lists in turn
abbrev pub Turns : {A : Type 0} → (A → List LogEntry → Option Abort → Type 0) → List A → List LogEntry → Option Abort → Type 0
Turns R things front end = (lists : List (List LogEntry)) × (front ≡ joined lists) × InTurn R things lists end

-- behind one thing come the others, or it failed
abbrev pub turning : {A : Type 0} → (List ℕ → List A → Place) → (List ℕ → Option Abort → Place) → List A → List ℕ → Option Abort → Place
turning entry out things seen None = entry seen things
turning entry out things seen (Some abort) = out seen (Some abort)

module _ (r : Asker) {A : Type 0} (R : A → List LogEntry → Option Abort → Type 0) (P : A → Type 0) (entry : List ℕ → List A → Place) (out : List ℕ → Option Abort → Place) (none : (seen : List ℕ) → entry seen [] ≡ out seen None) where
  module _ (one : (thing : A) (things : List A) (seen : List ℕ) (es : List LogEntry) → P thing → Leads r (entry seen (thing ∷ things)) es Over → Cut r (R thing) (turning entry out things) seen es) where
    -- where one thing can be read off a log, all in turn can
    pub turns_found : (things : List A) (seen : List ℕ) (es : List LogEntry) → AllByRecursion P things → Leads r (entry seen things) es Over → Cut r (Turns R things) out seen es
    turns_found [] seen es all h =
        record { front = []; rest = es; end = None; entries = refl; is = ([], refl, refl); leads = subst (λ (p : Place). Leads r p es Over) (none seen) h }
    turns_found (thing ∷ things) seen es all h =
        let first = one thing things seen es all.0 h in
        behind first.front first.rest first.end first.entries first.is first.leads (λ s xs leads. turns_found things s xs all.1 leads)
      where
        behind : (front rest : List LogEntry) (end : Option Abort) → es ≡ front ++ rest → R thing front end → Leads r (turning entry out things (walk seen front) end) rest Over
            → ((s : List ℕ) (xs : List LogEntry) → Leads r (entry s things) xs Over → Cut r (Turns R things) out s xs) → Cut r (Turns R (thing ∷ things)) out seen es
        behind front rest None entries is leads turns =
            let more = turns (walk seen front) rest leads in
            record {
              front = front ++ more.front;
              rest = more.rest;
              end = more.end;
              entries = entries ∙ ap (λ x. front ++ x) more.entries ∙ sym (append_assoc front more.front more.rest);
              is = (front ∷ more.is.0, ap (λ x. front ++ x) more.is.1, inl (is, more.is.2));
              leads = subst (λ s. Leads r (out s more.end) more.rest Over) (sym (walk-append seen front more.front)) more.leads;
            }
        behind front rest (Some abort) entries is leads turns =
            record { front = front; rest = rest; end = Some abort; entries = entries; is = (front ∷ [], sym (append-nil front), inr (is, search, refl)); leads = leads }
