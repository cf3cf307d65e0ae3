-- An attempt that failed has touched a partition, so an End stands behind its parts.
use Rattle.std.proofs.Common.{◌≡◌, ◌≤◌, ◌<◌, ◌≢◌, ℕ, zero, suc, ◌+◌, List, [], ◌∷◌, ◌++◌, cond, Option, Some, None, Bool, true, false, refl, ap, sym, ◌∙◌, subst, inl, inr, arith, map}
use Rattle.std.specs.Prelude.{◌||◌, IsSome, filter}
use Rattle.std.specs.List.{list_any, range_with_len}
use Rattle.std.proofs.lemmas.Bool.{false≢true, or_left}
use Rattle.std.proofs.lemmas.List.{append-nil}
use Rattle.sql_base.specs.Scripts.{parts_of}
use Rattle.sql_base.specs.declared.outcomes.Abort.{Abort}
use Rattle.sql_base.specs.declared.scripts.Work.{Work}
use Rattle.sql_base.specs.declared.statements.Statement.{Statement}
use Rattle.dp_messages.specs.declared.replies.Reply.TheVariants as reply
use Rattle.dp_messages.specs.declared.requests.Ask.TheVariants.{EndUndo}
use Rattle.dp_messages.specs.declared.requests.Request.{Request}
use Rattle.session_grammar.specs.declared.logs.Answer.{Answer}
use Rattle.session_grammar.specs.declared.logs.Answer.TheVariants.{Reply}
use Rattle.session_grammar.specs.declared.logs.LogEntry.{LogEntry}
use Rattle.session_grammar.specs.declared.logs.LogEntry.TheVariants.{Asked, Drew}
use Rattle.session_grammar.specs.Follows.{AreEnds, AreExchanges, Attempt, InLineBy, InTurn, IsAttempt, IsEnding, IsList, IsPart, IsSingle, Together, WideBy, joined, projection, touched}
use Rattle.session_grammar.specs.Plans.{Asker, plan_of, sents_of}
use Rattle.session_grammar.specs.declared.plans.Plan.{Plan}
use Rattle.session_grammar.specs.declared.plans.Plan.TheVariants.{Singles, Subsets}
use Rattle.session_grammar.specs.declared.plans.Sent.{Sent}
use Rattle.session_grammar.specs.Rows.{IsExchange, is_end, is_for}
use Rattle.session_laws.proofs.LooseSame.{EndsNext, Then}
use Rattle.session_laws.proofs.Within.{Rise, plans_rise}
use Rattle.session_grammar.proofs.LogLists.{asked_for}
use Rattle.sql_base.proofs.ListFacts.{any-push_left, any-push_right}

-- something was asked of a partition that is there
abbrev Touches : Asker → List LogEntry → Type 0
Touches r entries = (part : ℕ) × (part < parts_of r.tables) × (list_any (is_for part) entries ≡ true)

any_filter : (f : LogEntry → Bool) (xs : List LogEntry) → filter f xs ≢ [] → list_any f xs ≡ true
any_filter f [] h = absurd (h refl)
any_filter f (x ∷ xs) h = by_test (f x) h (any_filter f xs)
  where
    by_test : (b : Bool) → cond b (x ∷ filter f xs) (filter f xs) ≢ [] → (filter f xs ≢ [] → list_any f xs ≡ true) → (b || list_any f xs) ≡ true
    by_test true g more = refl
    by_test false g more = more g

row_for : (n part : ℕ) (request : Request) (row rest : List LogEntry) (answer : Answer) → IsExchange n part request row answer → list_any (is_for part) (row ++ rest) ≡ true
row_for n part request [] rest answer h = absurd h
row_for n part request (e ∷ []) rest answer h = or_left (is_for part e) (list_any (is_for part) rest) (asked_for part request answer e h.0)
row_for zero part request (e ∷ f ∷ es) rest answer h = absurd h
row_for (suc n) part request (e ∷ f ∷ es) rest answer h = or_left (is_for part e) (list_any (is_for part) (f ∷ es ++ rest)) (asked_for part request (Reply (reply.Locked h.0.0)) e h.0.1)

module _ (r : Asker) (ordinal : ℕ) where
  list_for : (sent : Sent) (list : List LogEntry) (end : Option Abort) → IsList r ordinal sent list end → list_any (is_for sent.part) list ≡ true
  list_for sent list end h = by h.0 h.1 h.2
    where
      by : (rows : List (List LogEntry)) → list ≡ joined rows → AreExchanges r ordinal sent.part sent.ask rows end → list_any (is_for sent.part) list ≡ true
      by [] is rows = absurd rows
      by (row ∷ rows) is k = subst (λ (x : List LogEntry). list_any (is_for sent.part) x ≡ true) (sym is) (row_for r.limits.patience sent.part (record { ordinal = ordinal; ask = sent.ask }) row (joined rows) k.0 k.1)

  single_for : (sent : Sent) (list : List LogEntry) (end : Option Abort) → IsSingle r ordinal sent list end → list_any (is_for sent.part) list ≡ true
  single_for sent list end h =
      subst (λ (x : List LogEntry). list_any (is_for sent.part) x ≡ true) (append-nil list) (row_for r.limits.patience sent.part (record { ordinal = ordinal; ask = sent.ask }) list [] h.0 h.1)

  lists_touch : (R : Sent → List LogEntry → Option Abort → Type 0) → ((sent : Sent) (list : List LogEntry) (end : Option Abort) → R sent list end → list_any (is_for sent.part) list ≡ true)
      → (sents : List Sent) (lists : List (List LogEntry)) (end : Option Abort) → IsSome end → Rise 0 (parts_of r.tables) sents → InTurn R sents lists end → Touches r (joined lists)
  lists_touch R to [] [] None some rise h = absurd (cc some)
  lists_touch R to [] [] (Some abort) some rise h = absurd (cc h)
  lists_touch R to [] (list ∷ lists) end some rise h = absurd h
  lists_touch R to (sent ∷ sents) [] end some rise h = absurd h
  lists_touch R to (sent ∷ sents) (list ∷ lists) end some rise (inl h) = (sent.part, rise.1, any-push_left (is_for sent.part) list (joined lists) (to sent list None h.0))
  lists_touch R to (sent ∷ sents) (list ∷ lists) end some rise (inr h) = (sent.part, rise.1, any-push_left (is_for sent.part) list (joined lists) (to sent list end h.0))

  plan_touches : (plan : Plan) (entries : List LogEntry) (end : Option Abort) → IsSome end → Rise 0 (parts_of r.tables) (sents_of plan) → InLineBy r ordinal plan entries end → Touches r entries
  plan_touches (Subsets sents) entries end some rise h = subst (Touches r) (sym h.1) (lists_touch (IsList r ordinal) list_for sents h.0 end some rise h.2)
  plan_touches (Singles sents) entries end some rise h = subst (Touches r) (sym h.1) (lists_touch (IsSingle r ordinal) single_for sents h.0 end some rise h.2)

  list_not_empty : (sent : Sent) (list : List LogEntry) (end : Option Abort) → IsList r ordinal sent list end → list ≢ []
  list_not_empty sent list end h none = false≢true (sym (ap (list_any (is_for sent.part)) none) ∙ list_for sent list end h)

  together_touches : (sents : List Sent) (entries : List LogEntry) (end : Option Abort) → IsSome end → Rise 0 (parts_of r.tables) sents → Together (IsList r ordinal) sents (map (projection entries) sents) end → Touches r entries
  together_touches [] entries None some rise h = absurd (cc some)
  together_touches [] entries (Some abort) some rise h = absurd (cc h)
  together_touches (sent ∷ sents) entries end some rise (inl h) = (sent.part, rise.1, any_filter (is_for sent.part) entries (list_not_empty sent (projection entries sent) None h.0))
  together_touches (sent ∷ sents) entries end some rise (inr h) = (sent.part, rise.1, any_filter (is_for sent.part) entries (list_not_empty sent (projection entries sent) end h.0))

  wide_touches : (plan : Plan) (entries : List LogEntry) (end : Option Abort) → IsSome end → Rise 0 (parts_of r.tables) (sents_of plan) → WideBy r ordinal plan entries end → Touches r entries
  wide_touches (Subsets sents) entries end some rise h = together_touches sents entries end some rise h.lists
  wide_touches (Singles sents) entries end some rise h = absurd h

  part_touches : (s : Statement) (entries : List LogEntry) (end : Option Abort) → IsSome end → IsPart r ordinal s entries end → Touches r entries
  part_touches s entries end some (inl h) = plan_touches (plan_of r s) entries end some (plans_rise r s) h
  part_touches s entries end some (inr h) = wide_touches (plan_of r s) entries end some (plans_rise r s) h

  parts_touch : (statements : List Statement) (parts : List (List LogEntry)) (end : Option Abort) → IsSome end → InTurn (IsPart r ordinal) statements parts end → Touches r (joined parts)
  parts_touch [] [] None some h = absurd (cc some)
  parts_touch [] [] (Some abort) some h = absurd (cc h)
  parts_touch [] (part ∷ parts) end some h = absurd h
  parts_touch (s ∷ statements) [] end some h = absurd h
  parts_touch (s ∷ statements) (part ∷ parts) end some (inl h) =
      let rest = parts_touch statements parts end some h.1 in
      (rest.0, rest.1, any-push_right (is_for rest.0) part (joined parts) rest.2)
  parts_touch (s ∷ statements) (part ∷ parts) end some (inr h) =
      let here = part_touches s part end some h.0 in
      (here.0, here.1, any-push_left (is_for here.0) part (joined parts) here.2)

in_range : (f : ℕ → Bool) (part n a : ℕ) → a ≤ part → part < a + n → f part ≡ true → filter f (range_with_len a n) ≢ []
in_range f part zero a le lt h none = absurd (omega (arith, le, lt))
in_range f part (suc n) a le lt h none = by_test (f a) refl none (λ above rest. in_range f part n (a + 1) above (omega (arith, lt)) h rest)
  where
    by_test : (b : Bool) → f a ≡ b → cond b (a ∷ filter f (range_with_len (a + 1) n)) (filter f (range_with_len (a + 1) n)) ≡ [] → (a + 1 ≤ part → filter f (range_with_len (a + 1) n) ≡ [] → ⊥) → ⊥
    by_test true is all more = absurd (cc all)
    by_test false is all more =
        let differs : a ≡ part → ⊥ = λ same. false≢true (sym is ∙ ap f same ∙ h) in
        more (omega (arith, le, differs)) all

ends_next : (ordinal : ℕ) (parts : List ℕ) (ends us : List LogEntry) → parts ≢ [] → AreEnds ordinal EndUndo parts ends → EndsNext (ends ++ us)
ends_next ordinal [] ends us some h = absurd (some refl)
ends_next ordinal (part ∷ parts) [] us some h = absurd h
ends_next ordinal (part ∷ parts) (Asked p s q l a ∷ es) us some h = ap (λ (x : Request). is_end x.ask) h.0.1
ends_next ordinal (part ∷ parts) (Drew n f a ∷ es) us some h = absurd h.0

some_is : (abort : Abort) → IsSome (Some abort)
some_is abort = refl

-- behind the parts of an attempt comes what may
pub then_ending : (r : Asker) (work : Work) (ordinal : ℕ) (a : Attempt) (end : Option Abort) → IsAttempt IsPart r work ordinal a → InTurn (IsPart r ordinal) work.statements a.parts end → IsEnding r a end work.commit
    → (us : List LogEntry) → Then end (a.ending ++ us)
then_ending r work ordinal a None is turns ending us = tt
then_ending r work ordinal a (Some abort) is turns ending us =
    let touches = parts_touch r ordinal work.statements a.parts (Some abort) (some_is abort) turns in
    ends_next a.ordinal (touched r a) a.ending us (in_range (λ part. list_any (is_for part) (joined a.parts)) touches.0 (parts_of r.tables) 0 (omega arith) (omega (arith, touches.1)) touches.2) ending.0
