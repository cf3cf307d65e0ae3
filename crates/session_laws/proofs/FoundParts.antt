-- The parts of statements can be read off a log that leads on from them to the end.
use Rattle.std.proofs.Common.{◌≡◌, ℕ, List, [], ◌∷◌, Option, Some, None, Bool, refl, sym, subst}
use Rattle.std.specs.List.{AllByRecursion}
use Rattle.sql_base.specs.declared.outcomes.Abort.{Abort}
use Rattle.sql_base.specs.declared.statements.Statement.{Statement}
use Rattle.session_grammar.specs.declared.logs.LogEntry.{LogEntry}
use Rattle.session_grammar.specs.Follows.{IsInLine}
use Rattle.session_grammar.specs.Plans.{Asker, plan_of, sents_of}
use Rattle.session_grammar.specs.declared.plans.Sent.{Sent}
use Rattle.session_laws.specs.Scaffold.Machine.{Over, Place, Trying, are_subsets, next, statements_at, went_on}
use Rattle.session_laws.specs.Scaffold.Leading.{Leads}
use Rattle.session_laws.proofs.Asking.{ListBy, list_out}
use Rattle.session_laws.proofs.Found.{Cut, Turns, turning, turns_found}
use Rattle.session_laws.proofs.FoundLists.{list_found}
use Rattle.session_laws.proofs.Leading.{walk}
use Rattle.session_laws.proofs.Parts.{in_turn_to, part_out, parts_out}
use Rattle.session_laws.proofs.Plans.{Suits, plans_suit}

-- the same front, said otherwise
recut : (r : Asker) (G H : List LogEntry → Option Abort → Type 0) (out onto : List ℕ → Option Abort → Place) (seen : List ℕ) (es : List LogEntry)
    → ((front : List LogEntry) (end : Option Abort) → G front end → H front end) → ((s : List ℕ) (end : Option Abort) → out s end ≡ onto s end) → Cut r G out seen es → Cut r H onto seen es
recut r G H out onto seen es to same c = record {
  front = c.front;
  rest = c.rest;
  end = c.end;
  entries = c.entries;
  is = to c.front c.end c.is;
  leads = subst (λ (p : Place). Leads r p c.rest Over) (same (walk seen c.front) c.end) c.leads;
}

module _ (r : Asker) (t : Trying) where
  lists_found : (statements : List Statement) (subset : Bool) (sents : List Sent) (seen : List ℕ) (es : List LogEntry) → AllByRecursion (Suits subset) sents
      → Leads r (went_on r t seen subset sents statements) es Over → Cut r (Turns (ListBy r t.ordinal subset) sents) (part_out r t statements) seen es
  lists_found statements subset sents seen es suits h =
      turns_found r (ListBy r t.ordinal subset) (Suits subset) entry (part_out r t statements) (λ s. refl) one sents seen es suits h
    where
      entry : List ℕ → List Sent → Place
      entry s list = went_on r t s subset list statements

      one : (sent : Sent) (list : List Sent) (s : List ℕ) (xs : List LogEntry) → Suits subset sent → Leads r (entry s (sent ∷ list)) xs Over
          → Cut r (ListBy r t.ordinal subset sent) (turning entry (part_out r t statements) list) s xs
      one sent list s xs is g =
          recut r (ListBy r t.ordinal subset sent) (ListBy r t.ordinal subset sent) (λ x. list_out r t list statements x subset)
          (turning entry (part_out r t statements) list) s xs (λ front end p. p) same (list_found r t list statements subset sent s xs is g)
        where
          same : (x : List ℕ) (end : Option Abort) → list_out r t list statements x subset end ≡ turning entry (part_out r t statements) list x end
          same x None = refl
          same x (Some abort) = refl

  -- the parts of statements
  pub parts_found : (statements : List Statement) (seen : List ℕ) (es : List LogEntry) → Leads r (statements_at r t seen statements (next r t)) es Over
      → Cut r (Turns (IsInLine r t.ordinal) statements) (parts_out r t) seen es
  parts_found statements seen es h =
      turns_found r (IsInLine r t.ordinal) (λ s. Unit {0}) entry (parts_out r t) (λ s. refl) one statements seen es (all_unit statements) h
    where
      entry : List ℕ → List Statement → Place
      entry s list = statements_at r t s list (next r t)

      all_unit : (list : List Statement) → AllByRecursion (λ s. Unit {0}) list
      all_unit [] = tt
      all_unit (s ∷ list) = (tt, all_unit list)

      one : (statement : Statement) (list : List Statement) (s : List ℕ) (xs : List LogEntry) → Unit {0} → Leads r (entry s (statement ∷ list)) xs Over
          → Cut r (IsInLine r t.ordinal statement) (turning entry (parts_out r t) list) s xs
      one statement list s xs is g =
          let plan = plan_of r statement in
          recut r (Turns (ListBy r t.ordinal (are_subsets plan)) (sents_of plan)) (IsInLine r t.ordinal statement) (part_out r t list) (turning entry (parts_out r t) list) s xs
          part same (lists_found list (are_subsets plan) (sents_of plan) s xs (plans_suit r statement) g)
        where
          part : (front : List LogEntry) (end : Option Abort) → Turns (ListBy r t.ordinal (are_subsets (plan_of r statement))) (sents_of (plan_of r statement)) front end → IsInLine r t.ordinal statement front end
          part front end p = subst (λ (x : List LogEntry). IsInLine r t.ordinal statement x end) (sym p.1) (in_turn_to r t.ordinal (plan_of r statement) p.0 end p.2)

          same : (x : List ℕ) (end : Option Abort) → part_out r t list x end ≡ turning entry (parts_out r t) list x end
          same x None = refl
          same x (Some abort) = refl
