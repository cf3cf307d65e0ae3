-- The part of a statement that asks subsets, in line or wide, read in the one form that both have: by partitions.
use Rattle.std.proofs.Common.{◌≡◌, ◌≤◌, ◌<◌, ◌≢◌, ℕ, zero, suc, ◌+◌, List, [], ◌∷◌, ◌++◌, map, cond, Option, None, true, false, refl, ap, sym, ◌∙◌, subst, inl, inr, arith}
use Rattle.std.specs.Prelude.{◌⊎◌, ◌==◌, IsSome, filter}
use Rattle.std.specs.List.{AllByRecursion, list_any}
use Rattle.std.proofs.lemmas.Bool.{eq-eqb, eqb-true, false_from_ne_true, or_left}
use Rattle.std.proofs.lemmas.List.{append-nil}
use Rattle.std.proofs.lemmas.List.Elements.{filter-append}
use Rattle.sql_base.specs.declared.outcomes.Abort.{Abort}
use Rattle.dp_messages.specs.declared.replies.Reply.TheVariants as reply
use Rattle.dp_messages.specs.declared.requests.Ask.{Ask}
use Rattle.dp_messages.specs.declared.requests.Ask.TheVariants.{Continue, EndCommit, EndUndo}
use Rattle.dp_messages.specs.declared.requests.Request.{Request}
use Rattle.session_grammar.specs.declared.logs.Answer.{Answer}
use Rattle.session_grammar.specs.declared.logs.Answer.TheVariants.{Reply}
use Rattle.session_grammar.specs.declared.logs.LogEntry.{LogEntry}
use Rattle.session_grammar.specs.declared.logs.LogEntry.TheVariants.{Asked, Drew}
use Rattle.session_grammar.specs.Follows.{AfterRow, AreBegun, AreExchanges, AreTheirs, AreWide, InTurn, IsList, Together, joined, projection}
use Rattle.session_grammar.specs.Plans.{Asker}
use Rattle.session_grammar.specs.declared.plans.Sent.{Sent}
use Rattle.session_grammar.specs.Rows.{IsAsked, IsExchange, is_end, is_for}
use Rattle.session_laws.proofs.Plans.{Suits}
use Rattle.session_laws.proofs.Within.{Rise}
use Rattle.sql_base.proofs.ListFacts.{all_joined}
use Rattle.session_grammar.proofs.LogLists.{theirs_more}

-- the entry was asked of this partition, and is no End
abbrev pub IsWork : ℕ → LogEntry → Type 0
IsWork part (Asked p sync request losses answer) = (p ≡ part) × (is_end request.ask ≡ false)
IsWork part (Drew name floor answer) = ⊥

pub asked_work : (part : ℕ) (request : Request) (answer : Answer) (e : LogEntry) → is_end request.ask ≡ false → IsAsked part request answer e → IsWork part e
asked_work part request answer (Asked p s q l a) none h = (h.0, ap (λ (x : Request). is_end x.ask) h.1 ∙ none)
asked_work part request answer (Drew n f a) none h = absurd h

row_work : (n part : ℕ) (request : Request) (row : List LogEntry) (answer : Answer) → is_end request.ask ≡ false → IsExchange n part request row answer → AllByRecursion (IsWork part) row × (row ≢ [])
row_work n part request [] answer none h = absurd h
row_work n part request (e ∷ []) answer none h = ((asked_work part request answer e none h.0, tt), λ is. absurd (cc is))
row_work zero part request (e ∷ f ∷ es) answer none h = absurd h
row_work (suc n) part request (e ∷ f ∷ es) answer none h =
    ((asked_work part request (Reply (reply.Locked h.0.0)) e none h.0.1, (row_work n part request (f ∷ es) answer none h.1).0), λ is. absurd (cc is))

-- the ask of a subset is no End
suits_work : (sent : Sent) → Suits true sent → is_end sent.ask ≡ false
suits_work sent suits = by sent.ask suits
  where
    by : (a : Ask) → Suits true (record { part = sent.part; ask = a }) → is_end a ≡ false
    by (EndCommit stamp) h = let never = h (reply.Ended [] 0) in absurd (cc never)
    by EndUndo h = let never = h (reply.Ended [] 0) in absurd (cc never)
    by other h = refl

module _ (r : Asker) (ordinal : ℕ) where
  none_work : (part : ℕ) (rows : List (List LogEntry)) → rows ≡ [] → AllByRecursion (IsWork part) (joined rows)
  none_work part rows is = subst (λ (x : List (List LogEntry)). AllByRecursion (IsWork part) (joined x)) (sym is) tt

  pub after_work : (part : ℕ) (answer : Answer) (rows : List (List LogEntry)) (end : Option Abort) → AfterRow answer (λ subset last. AreExchanges r ordinal part (Continue subset last) rows end) rows end
      → ((subset : ℕ) (last : List ℕ) → AreExchanges r ordinal part (Continue subset last) rows end → AllByRecursion (IsWork part) (joined rows)) → AllByRecursion (IsWork part) (joined rows)
  after_work part (Reply (reply.Redrive subset last cause out changed)) rows end h more = more subset last h
  after_work part (Reply (reply.Ended out changed)) rows end h more = none_work part rows h.0
  after_work part answer rows end h more = none_work part rows h.0

  rows_work : (part : ℕ) (ask : Ask) (rows : List (List LogEntry)) (end : Option Abort) → is_end ask ≡ false → AreExchanges r ordinal part ask rows end → AllByRecursion (IsWork part) (joined rows) × (joined rows ≢ [])
  rows_work part ask [] end none h = absurd h
  rows_work part ask (row ∷ rows) end none h =
      let first = row_work r.limits.patience part (record { ordinal = ordinal; ask = ask }) row h.0 none h.1 in
      let rest = after_work part h.0 rows end h.2 (λ subset last more. (rows_work part (Continue subset last) rows end refl more).0) in
      (all_joined (IsWork part) row (joined rows) first.0 rest, not_empty row (joined rows) first.1)
    where
      not_empty : (xs ys : List LogEntry) → xs ≢ [] → xs ++ ys ≢ []
      not_empty [] ys some is = some refl
      not_empty (x ∷ xs) ys some is = absurd (cc is)

  -- a subset's list asks its partition, and something
  pub list_work : (sent : Sent) (list : List LogEntry) (end : Option Abort) → Suits true sent → IsList r ordinal sent list end → AllByRecursion (IsWork sent.part) list × (list ≢ [])
  list_work sent list end suits h =
      let rows = rows_work sent.part sent.ask h.0 end (suits_work sent suits) h.2 in
      (subst (AllByRecursion (IsWork sent.part)) (sym h.1) rows.0, λ is. rows.1 (sym h.1 ∙ is))

  -- all lists are whole; or those below the lowest that fails are, and those above it are fronts of lists
  abbrev pub IsFront : Sent → List LogEntry → Type 0
  IsFront sent list = (list ≡ []) ⊎ ((more : List LogEntry) × (end : Option Abort) × IsList r ordinal sent (list ++ more) end)

  abbrev pub AreFronts : List Sent → List LogEntry → Type 0
  AreFronts sents entries = AllByRecursion (λ sent. IsFront sent (projection entries sent)) sents

  abbrev pub Loosely : List Sent → List LogEntry → Option Abort → Type 0
  Loosely [] entries end = end ≡ None
  Loosely (sent ∷ sents) entries end =
      (IsList r ordinal sent (projection entries sent) None × Loosely sents entries end) ⊎ (IsList r ordinal sent (projection entries sent) end × IsSome end × AreFronts sents entries)

  pub record IsLoose (sents : List Sent) (entries : List LogEntry) (end : Option Abort) : Type 0 where
    pub theirs : AreTheirs sents entries
    pub loosely : Loosely sents entries end

  begun_fronts : (sents : List Sent) (entries : List LogEntry) → AreBegun (IsList r ordinal) sents (map (projection entries) sents) → AreFronts sents entries
  begun_fronts [] entries h = tt
  begun_fronts (sent ∷ sents) entries h = (inr h.1, begun_fronts sents entries h.2)

  together_loosely : (sents : List Sent) (entries : List LogEntry) (end : Option Abort) → Together (IsList r ordinal) sents (map (projection entries) sents) end → Loosely sents entries end
  together_loosely [] entries end h = h
  together_loosely (sent ∷ sents) entries end (inl h) = inl (h.0, together_loosely sents entries end h.1)
  together_loosely (sent ∷ sents) entries end (inr h) = inr (h.0, h.1, begun_fronts sents entries h.2)

  pub wide_loose : (sents : List Sent) (entries : List LogEntry) (end : Option Abort) → AreWide r ordinal sents entries end → IsLoose sents entries end
  wide_loose sents entries end h = record { theirs = h.theirs; loosely = together_loosely sents entries end h.lists }

  -- in line

  -- what was asked of one partition alone
  own : (part : ℕ) (list : List LogEntry) → AllByRecursion (IsWork part) list → filter (is_for part) list ≡ list
  own part [] h = refl
  own part (Asked p s q l a ∷ es) h =
      ap (λ b. cond b (Asked p s q l a ∷ filter (is_for part) es) (filter (is_for part) es)) (eq-eqb p part h.0.0) ∙ ap (λ x. Asked p s q l a ∷ x) (own part es h.1)
  own part (Drew n f a ∷ es) h = absurd h.0

  other : (part q : ℕ) (list : List LogEntry) → part < q → AllByRecursion (IsWork part) list → filter (is_for q) list ≡ []
  other part q [] lt h = refl
  other part q (Asked p s x l a ∷ es) lt h =
      let differs : (p == q) ≡ true → ⊥ = λ same. let is = eqb-true p q same in let own_is = h.0.0 in omega (arith, lt, is, own_is) in
      ap (λ b. cond b (Asked p s x l a ∷ filter (is_for q) es) (filter (is_for q) es)) (false_from_ne_true (p == q) differs) ∙ other part q es lt h.1
  other part q (Drew n f a ∷ es) lt h = absurd h.0

  abbrev IsFrom : ℕ → LogEntry → Type 0
  IsFrom low (Asked p sync request losses answer) = low ≤ p
  IsFrom low (Drew name floor answer) = ⊥

  later : (part low : ℕ) (list : List LogEntry) → part < low → AllByRecursion (IsFrom low) list → filter (is_for part) list ≡ []
  later part low [] lt h = refl
  later part low (Asked p s x l a ∷ es) lt h =
      let differs : (p == part) ≡ true → ⊥ = λ same. let is = eqb-true p part same in let from = h.0 in omega (arith, lt, is, from) in
      ap (λ b. cond b (Asked p s x l a ∷ filter (is_for part) es) (filter (is_for part) es)) (false_from_ne_true (p == part) differs) ∙ later part low es lt h.1
  later part low (Drew n f a ∷ es) lt h = absurd h.0

  work_from : (part low : ℕ) (list : List LogEntry) → low ≤ part → AllByRecursion (IsWork part) list → AllByRecursion (IsFrom low) list
  work_from part low [] le h = tt
  work_from part low (Asked p s x l a ∷ es) le h = let is = h.0.0 in (omega (arith, le, is), work_from part low es le h.1)
  work_from part low (Drew n f a ∷ es) le h = absurd h.0

  from_lower : (high low : ℕ) (list : List LogEntry) → low ≤ high → AllByRecursion (IsFrom high) list → AllByRecursion (IsFrom low) list
  from_lower high low [] le h = tt
  from_lower high low (Asked p s x l a ∷ es) le h = let is = h.0 in (omega (arith, le, is), from_lower high low es le h.1)
  from_lower high low (Drew n f a ∷ es) le h = absurd h.0

  -- a list for an earlier partition, put before, changes nothing for later ones
  before : (part q : ℕ) (list rest : List LogEntry) → part < q → AllByRecursion (IsWork part) list → filter (is_for q) (list ++ rest) ≡ filter (is_for q) rest
  before part q list rest lt h = filter-append (is_for q) list rest ∙ ap (λ x. x ++ filter (is_for q) rest) (other part q list lt h)

  fronts_before : (part low high : ℕ) (sents : List Sent) (list rest : List LogEntry) → part < low → Rise low high sents → AllByRecursion (IsWork part) list → AreFronts sents rest → AreFronts sents (list ++ rest)
  fronts_before part low high [] list rest lt rise h k = tt
  fronts_before part low high (sent ∷ sents) list rest lt rise h k =
      let le = rise.0 in
      (subst (IsFront sent) (sym (before part sent.part list rest (omega (arith, lt, le)) h)) k.0, fronts_before part (sent.part + 1) high sents list rest (omega (arith, lt, le)) rise.2 h k.1)

  loosely_before : (part low high : ℕ) (sents : List Sent) (list rest : List LogEntry) (end : Option Abort) → part < low → Rise low high sents → AllByRecursion (IsWork part) list → Loosely sents rest end
      → Loosely sents (list ++ rest) end
  loosely_before part low high [] list rest end lt rise h k = k
  loosely_before part low high (sent ∷ sents) list rest end lt rise h (inl k) =
      let le = rise.0 in
      inl (
        subst (λ (x : List LogEntry). IsList r ordinal sent x None) (sym (before part sent.part list rest (omega (arith, lt, le)) h)) k.0,
        loosely_before part (sent.part + 1) high sents list rest end (omega (arith, lt, le)) rise.2 h k.1,
      )
  loosely_before part low high (sent ∷ sents) list rest end lt rise h (inr k) =
      let le = rise.0 in
      inr (
        subst (λ (x : List LogEntry). IsList r ordinal sent x end) (sym (before part sent.part list rest (omega (arith, lt, le)) h)) k.0,
        k.1,
        fronts_before part (sent.part + 1) high sents list rest (omega (arith, lt, le)) rise.2 h k.2,
      )

  no_fronts : (sents : List Sent) → AreFronts sents []
  no_fronts [] = tt
  no_fronts (sent ∷ sents) = (inl refl, no_fronts sents)

  work_theirs : (sent : Sent) (sents : List Sent) (entries : List LogEntry) → AllByRecursion (IsWork sent.part) entries → AreTheirs (sent ∷ sents) entries
  work_theirs sent sents [] h = tt
  work_theirs sent sents (Asked p s x l a ∷ es) h = (or_left (p == sent.part) (list_any (λ y. is_for y.part (Asked p s x l a)) sents) (eq-eqb p sent.part h.0.0), work_theirs sent sents es h.1)
  work_theirs sent sents (Drew n f a ∷ es) h = absurd h.0

  record LooseFrom (low : ℕ) (sents : List Sent) (entries : List LogEntry) (end : Option Abort) : Type 0 where
    theirs : AreTheirs sents entries
    loosely : Loosely sents entries end
    from : AllByRecursion (IsFrom low) entries

  lists_loose : (low high : ℕ) (sents : List Sent) (lists : List (List LogEntry)) (end : Option Abort) → Rise low high sents → AllByRecursion (Suits true) sents → InTurn (IsList r ordinal) sents lists end
      → LooseFrom low sents (joined lists) end
  lists_loose low high [] [] end rise suits h = record { theirs = tt; loosely = h; from = tt }
  lists_loose low high [] (list ∷ lists) end rise suits h = absurd h
  lists_loose low high (sent ∷ sents) [] end rise suits h = absurd h
  lists_loose low high (sent ∷ sents) (list ∷ lists) end rise suits (inl h) =
      let work = (list_work sent list None suits.0 h.0).0 in
      let rest = lists_loose (sent.part + 1) high sents lists end rise.2 suits.1 h.1 in
      let le = rise.0 in
      let here : projection (list ++ joined lists) sent ≡ list =
      filter-append (is_for sent.part) list (joined lists) ∙ ap (λ x. x ++ filter (is_for sent.part) (joined lists)) (own sent.part list work) ∙ ap (λ x. list ++ x) (later sent.part (sent.part + 1) (joined lists) (omega arith) rest.from) ∙ append-nil list in
      record {
        theirs = all_joined (λ e. list_any (λ x. is_for x.part e) (sent ∷ sents) ≡ true) list (joined lists) (work_theirs sent sents list work) (theirs_more sent sents (joined lists) rest.theirs);
        loosely = inl (subst (λ (x : List LogEntry). IsList r ordinal sent x None) (sym here) h.0, loosely_before sent.part (sent.part + 1) high sents list (joined lists) end (omega arith) rise.2 work rest.loosely);
        from = all_joined (IsFrom low) list (joined lists) (work_from sent.part low list le work) (from_lower (sent.part + 1) low (joined lists) (omega (arith, le)) rest.from);
      }
  lists_loose low high (sent ∷ sents) (list ∷ lists) end rise suits (inr h) =
      let work = (list_work sent list end suits.0 h.0).0 in
      let le = rise.0 in
      let here : projection (list ++ []) sent ≡ list = ap (filter (is_for sent.part)) (append-nil list) ∙ own sent.part list work in
      let loose : LooseFrom low (sent ∷ sents) (list ++ []) end = record {
        theirs = all_joined (λ e. list_any (λ x. is_for x.part e) (sent ∷ sents) ≡ true) list [] (work_theirs sent sents list work) tt;
        loosely = inr (subst (λ (x : List LogEntry). IsList r ordinal sent x end) (sym here) h.0, h.1, fronts_before sent.part (sent.part + 1) high sents list [] (omega arith) rise.2 work (no_fronts sents));
        from = all_joined (IsFrom low) list [] (work_from sent.part low list le work) tt;
      } in
      subst (λ (x : List (List LogEntry)). LooseFrom low (sent ∷ sents) (list ++ joined x) end) (sym h.2) loose

  pub in_line_loose : (high : ℕ) (sents : List Sent) (lists : List (List LogEntry)) (end : Option Abort) → Rise 0 high sents → AllByRecursion (Suits true) sents → InTurn (IsList r ordinal) sents lists end
      → IsLoose sents (joined lists) end
  in_line_loose high sents lists end rise suits h = let loose = lists_loose 0 high sents lists end rise suits h in record { theirs = loose.theirs; loosely = loose.loosely }
