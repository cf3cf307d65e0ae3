-- The parts of statements lead on to where their ends lead.
use Rattle.std.proofs.Common.{◌≡◌, ℕ, List, [], ◌∷◌, ◌++◌, Option, Some, None, Bool, refl, ap, sym, subst, inl, inr}
use Rattle.std.proofs.lemmas.List.{append-nil}
use Rattle.std.specs.Prelude.{IsSome}
use Rattle.sql_base.specs.declared.outcomes.Abort.{Abort}
use Rattle.sql_base.specs.declared.statements.Statement.{Statement}
use Rattle.session_grammar.specs.declared.logs.LogEntry.{LogEntry}
use Rattle.session_grammar.specs.Follows.{InLineBy, InTurn, IsInLine, joined}
use Rattle.session_grammar.specs.Plans.{Asker, plan_of, sents_of}
use Rattle.session_grammar.specs.declared.plans.Plan.{Plan}
use Rattle.session_grammar.specs.declared.plans.Plan.TheVariants.{Singles, Subsets}
use Rattle.session_grammar.specs.declared.plans.Sent.{Sent}
use Rattle.session_laws.specs.Scaffold.Machine.{Place, Trying, are_subsets, next, statements_at, undone, went_on}
use Rattle.session_laws.specs.Scaffold.Leading.{Leads}
use Rattle.session_laws.proofs.Asking.{ListBy, is_lock, list_leads, list_out}
use Rattle.session_laws.proofs.Leading.{Leads-append, walk, walk-append}

-- the part of a statement in line is one list for each request of its plan, in turn
pub in_turn_of : (r : Asker) (ordinal : ℕ) (plan : Plan) (entries : List LogEntry) (end : Option Abort) → InLineBy r ordinal plan entries end
    → (lists : List (List LogEntry)) × (entries ≡ joined lists) × InTurn (ListBy r ordinal (are_subsets plan)) (sents_of plan) lists end
in_turn_of r ordinal (Subsets sents) entries end h = h
in_turn_of r ordinal (Singles sents) entries end h = h

pub in_turn_to : (r : Asker) (ordinal : ℕ) (plan : Plan) (lists : List (List LogEntry)) (end : Option Abort)
    → InTurn (ListBy r ordinal (are_subsets plan)) (sents_of plan) lists end → InLineBy r ordinal plan (joined lists) end
in_turn_to r ordinal (Subsets sents) lists end h = (lists, refl, h)
in_turn_to r ordinal (Singles sents) lists end h = (lists, refl, h)

module _ (r : Asker) (t : Trying) where
  -- where the end of a statement's part leads
  abbrev pub part_out : List Statement → List ℕ → Option Abort → Place
  part_out statements seen None = statements_at r t seen statements (next r t)
  part_out statements seen (Some abort) = undone r t seen (is_lock abort)

  -- where the end of all parts leads
  abbrev pub parts_out : List ℕ → Option Abort → Place
  parts_out seen end = part_out [] seen end

  -- a list that fails leads where the part leads
  pub failed_list : (sents : List Sent) (statements : List Statement) (seen : List ℕ) (subset : Bool) (end : Option Abort) → IsSome end
      → list_out r t sents statements seen subset end ≡ part_out statements seen end
  failed_list sents statements seen subset None some = absurd (cc some)
  failed_list sents statements seen subset (Some abort) some = refl

  failed_part : (statements : List Statement) (seen : List ℕ) (end : Option Abort) → IsSome end → part_out statements seen end ≡ parts_out seen end
  failed_part statements seen None some = absurd (cc some)
  failed_part statements seen (Some abort) some = refl

  -- behind a front that leads to a place come those that lead on
  on : (xs ys : List LogEntry) (p q : Place) (out : List ℕ → Place) (seen : List ℕ) → Leads r p xs q → Leads r q ys (out (walk (walk seen xs) ys)) → Leads r p (xs ++ ys) (out (walk seen (xs ++ ys)))
  on xs ys p q out seen a b = subst (λ s. Leads r p (xs ++ ys) (out s)) (sym (walk-append seen xs ys)) (Leads-append r xs ys p q (out (walk (walk seen xs) ys)) a b)

  -- and where none come it has led there already
  none_on : (xs : List LogEntry) (lists : List (List LogEntry)) (p q : Place) (out : List ℕ → Place) (seen : List ℕ) → lists ≡ [] → Leads r p xs q → q ≡ out (walk seen xs)
      → Leads r p (xs ++ joined lists) (out (walk seen (xs ++ joined lists)))
  none_on xs lists p q out seen none a is =
      subst (λ (ls : List (List LogEntry)). Leads r p (xs ++ joined ls) (out (walk seen (xs ++ joined ls)))) (sym none)
      (subst (λ (es : List LogEntry). Leads r p es (out (walk seen es))) (sym (append-nil xs)) (subst (Leads r p xs) is a))

  -- the lists of a statement lead where its part leads
  pub lists_lead : (statements : List Statement) (seen : List ℕ) (subset : Bool) (sents : List Sent) (lists : List (List LogEntry)) (end : Option Abort)
      → InTurn (ListBy r t.ordinal subset) sents lists end → Leads r (went_on r t seen subset sents statements) (joined lists) (part_out statements (walk seen (joined lists)) end)
  lists_lead statements seen subset [] [] end h = ap (part_out statements seen) (sym h)
  lists_lead statements seen subset [] (list ∷ lists) end h = absurd h
  lists_lead statements seen subset (sent ∷ sents) [] end h = absurd h
  lists_lead statements seen subset (sent ∷ sents) (list ∷ lists) end (inl h) =
      let first = list_leads r t sents statements seen subset sent list None h.0 in
      let rest = lists_lead statements (walk seen list) subset sents lists end h.1 in
      on list (joined lists) (went_on r t seen subset (sent ∷ sents) statements) (went_on r t (walk seen list) subset sents statements) (λ s. part_out statements s end) seen first rest
  lists_lead statements seen subset (sent ∷ sents) (list ∷ lists) end (inr h) =
      let first = list_leads r t sents statements seen subset sent list end h.0 in
      none_on list lists (went_on r t seen subset (sent ∷ sents) statements) (list_out r t sents statements (walk seen list) subset end) (λ s. part_out statements s end) seen h.2 first
      (failed_list sents statements (walk seen list) subset end h.1)

  part_leads : (statement : Statement) (statements : List Statement) (seen : List ℕ) (part : List LogEntry) (end : Option Abort) → IsInLine r t.ordinal statement part end
      → Leads r (statements_at r t seen (statement ∷ statements) (next r t)) part (part_out statements (walk seen part) end)
  part_leads statement statements seen part end h =
      let plan = plan_of r statement in
      let lists = in_turn_of r t.ordinal plan part end h in
      subst (λ (es : List LogEntry). Leads r (statements_at r t seen (statement ∷ statements) (next r t)) es (part_out statements (walk seen es) end)) (sym lists.1)
      (lists_lead statements seen (are_subsets plan) (sents_of plan) lists.0 end lists.2)

  -- the parts of statements lead where their end leads
  pub parts_lead : (statements : List Statement) (seen : List ℕ) (parts : List (List LogEntry)) (end : Option Abort)
      → InTurn (IsInLine r t.ordinal) statements parts end → Leads r (statements_at r t seen statements (next r t)) (joined parts) (parts_out (walk seen (joined parts)) end)
  parts_lead [] seen [] end h = ap (parts_out seen) (sym h)
  parts_lead [] seen (part ∷ parts) end h = absurd h
  parts_lead (s ∷ statements) seen [] end h = absurd h
  parts_lead (s ∷ statements) seen (part ∷ parts) end (inl h) =
      on part (joined parts) (statements_at r t seen (s ∷ statements) (next r t)) (statements_at r t (walk seen part) statements (next r t)) (λ x. parts_out x end) seen
      (part_leads s statements seen part None h.0) (parts_lead statements (walk seen part) parts end h.1)
  parts_lead (s ∷ statements) seen (part ∷ parts) end (inr h) =
      none_on part parts (statements_at r t seen (s ∷ statements) (next r t)) (part_out statements (walk seen part) end) (λ x. parts_out x end) seen h.2
      (part_leads s statements seen part end h.0) (failed_part statements (walk seen part) end h.1)
