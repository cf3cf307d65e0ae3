-- What the readings of a log have in common: those in line are readings, and the parts of statements draw nothing.
use Rattle.std.proofs.Common.{◌≡◌, ℕ, zero, suc, ◌+◌, List, [], ◌∷◌, ◌++◌, Option, None, true, false, refl, ap, sym, ◌∙◌, subst, inl, inr, length}
use Rattle.std.proofs.lemmas.List.{append_cancel_left}
use Rattle.std.specs.List.{AllByRecursion, list_any}
use Rattle.sql_base.specs.declared.outcomes.Abort.{Abort}
use Rattle.sql_base.specs.declared.lock_names.TxnName.{TxnName}
use Rattle.sql_base.specs.declared.scripts.Work.{Work}
use Rattle.sql_base.specs.declared.statements.Statement.{Statement}
use Rattle.dp_messages.specs.declared.replies.Reply.TheVariants as reply
use Rattle.dp_messages.specs.declared.requests.Ask.{Ask}
use Rattle.dp_messages.specs.declared.requests.Ask.TheVariants.{Continue, Prepare}
use Rattle.dp_messages.specs.declared.requests.Request.{Request}
use Rattle.session_grammar.specs.declared.logs.Answer.{Answer}
use Rattle.session_grammar.specs.declared.logs.Answer.TheVariants.{Reply}
use Rattle.session_grammar.specs.declared.logs.LogEntry.{LogEntry}
use Rattle.session_grammar.specs.declared.logs.LogEntry.TheVariants.{Asked, Drew}
use Rattle.session_grammar.specs.Follows.{AfterRow, AreAttempts, AreEnds, ArePrepares, AreExchanges, AreTries, Attempt, Follows, FollowsInLine, InLineBy, InTurn, IsAttempt}
use Rattle.session_grammar.specs.Follows.{IsInLine, IsList, IsPart, IsSingle, Reads, WideBy, joined}
use Rattle.session_grammar.specs.Plans.{Asker, plan_of}
use Rattle.session_grammar.specs.declared.plans.Plan.{Plan}
use Rattle.session_grammar.specs.declared.plans.Plan.TheVariants.{Singles, Subsets}
use Rattle.session_grammar.specs.declared.plans.Sent.{Sent}
use Rattle.session_grammar.specs.Rows.{IsAsked, IsExchange, is_for}

-- what is in turn by one relation is so by each that it implies
in_turn_by : {A : Type 0} (R S : A → List LogEntry → Option Abort → Type 0) → ((x : A) (list : List LogEntry) (end : Option Abort) → R x list end → S x list end)
    → (things : List A) (lists : List (List LogEntry)) (end : Option Abort) → InTurn R things lists end → InTurn S things lists end
in_turn_by R S to [] [] end h = h
in_turn_by R S to [] (list ∷ lists) end h = absurd h
in_turn_by R S to (x ∷ things) [] end h = absurd h
in_turn_by R S to (x ∷ things) (list ∷ lists) end (inl h) = inl (to x list None h.0, in_turn_by R S to things lists end h.1)
in_turn_by R S to (x ∷ things) (list ∷ lists) end (inr h) = inr (to x list end h.0, h.1, h.2)

module _ (r : Asker) where
  -- an attempt whose parts are in line is an attempt
  attempt-in_line : (work : Work) (ordinal : ℕ) (a : Attempt) → IsAttempt IsInLine r work ordinal a → IsAttempt IsPart r work ordinal a
  attempt-in_line work ordinal a h =
      let turns = in_turn_by (IsInLine r ordinal) (IsPart r ordinal) (λ x list end part. inl part) work.statements a.parts h.parts_and_ending.0 h.parts_and_ending.1 in
      record { of_work = h.of_work; numbered = h.numbered; parts_and_ending = (h.parts_and_ending.0, turns, h.parts_and_ending.2) }

  -- attempts of one transaction in line are attempts of it
  tries-in_line : (work : Work) (ordinal more : ℕ) (tries : List Attempt) → AreTries IsInLine r work ordinal more tries → AreTries IsPart r work ordinal more tries
  tries-in_line work ordinal more [] h = absurd h
  tries-in_line work ordinal more (a ∷ []) h = (attempt-in_line work ordinal a h.0, h.1)
  tries-in_line work ordinal zero (a ∷ b ∷ rest) h = absurd h
  tries-in_line work ordinal (suc more) (a ∷ b ∷ rest) h = (attempt-in_line work ordinal a h.0, h.1, tries-in_line work (ordinal + 1) more (b ∷ rest) h.2)

  -- and so over all transactions
  attempts-in_line : (ordinal : ℕ) (works : List Work) (attempts : List Attempt) → AreAttempts IsInLine r ordinal works attempts → AreAttempts IsPart r ordinal works attempts
  attempts-in_line ordinal [] attempts h = h
  attempts-in_line ordinal (work ∷ works) attempts h =
      (h.0, h.1, h.2, tries-in_line work ordinal r.limits.restart h.0 h.3, attempts-in_line (ordinal + length h.0) works h.1 h.4)

  -- a reading in line is a reading
  pub reads-in_line : (works : List Work) (log : List LogEntry) (attempts : List Attempt) → Reads IsInLine r works log attempts → Reads IsPart r works log attempts
  reads-in_line works log attempts h = record { syncs = h.syncs; entries = h.entries; attempts_are = attempts-in_line 1 works attempts h.attempts_are }

  -- and a log with a reading in line has a reading
  pub follows-in_line : (works : List Work) (log : List LogEntry) → FollowsInLine r works log → Follows r works log
  follows-in_line works log h = (h.0, reads-in_line works log h.0 h.1)

-- the entry is no draw
abbrev pub IsAskedEntry : LogEntry → Type 0
IsAskedEntry (Asked part sync request losses answer) = Unit {0}
IsAskedEntry (Drew name floor answer) = ⊥

-- no entry is a draw
abbrev pub AreAsked : List LogEntry → Type 0
AreAsked entries = AllByRecursion IsAskedEntry entries

-- two lists without a draw, joined, have none
pub asked-append : (xs ys : List LogEntry) → AreAsked xs → AreAsked ys → AreAsked (xs ++ ys)
asked-append [] ys a b = b
asked-append (x ∷ xs) ys a b = (a.0, asked-append xs ys a.1 b)

-- what was asked is no draw
pub asked-entry : (part : ℕ) (request : Request) (answer : Answer) (e : LogEntry) → IsAsked part request answer e → IsAskedEntry e
asked-entry part request answer (Asked p s q l a) h = tt
asked-entry part request answer (Drew n f a) h = absurd h

-- a row draws nothing
row-asked : (n part : ℕ) (request : Request) (row : List LogEntry) (answer : Answer) → IsExchange n part request row answer → AreAsked row
row-asked n part request [] answer h = absurd h
row-asked n part request (e ∷ []) answer h = (asked-entry part request answer e h.0, tt)
row-asked zero part request (e ∷ f ∷ es) answer h = absurd h
row-asked (suc n) part request (e ∷ f ∷ es) answer h = (asked-entry part request (Reply (reply.Locked h.0.0)) e h.0.1, row-asked n part request (f ∷ es) answer h.1)

-- where none come, nothing is drawn
none-asked : (lists : List (List LogEntry)) → lists ≡ [] → AreAsked (joined lists)
none-asked lists h = subst (λ ls. AreAsked (joined ls)) (sym h) tt

-- what follows a row draws nothing, where the rows of a Continue don't
behind-asked : (answer : Answer) (goes_on : ℕ → List ℕ → Type 0) (rows : List (List LogEntry)) (end : Option Abort) → AfterRow answer goes_on rows end
    → ((subset : ℕ) (last : List ℕ) → goes_on subset last → AreAsked (joined rows)) → AreAsked (joined rows)
behind-asked (Reply (reply.Redrive subset last cause out changed)) goes_on rows end h to = to subset last h
behind-asked (Reply (reply.Ended out changed)) goes_on rows end h to = none-asked rows h.0
behind-asked answer goes_on rows end h to = none-asked rows h.0

-- a draw is asked of no partition
for_none : (sents : List Sent) (name : TxnName) (floor : ℕ) (answer : Answer) → list_any (λ sent. is_for sent.part (Drew name floor answer)) sents ≡ false
for_none [] name floor answer = refl
for_none (sent ∷ sents) name floor answer = for_none sents name floor answer

-- what was asked of one of some partitions is no draw
for-asked : (sents : List Sent) (e : LogEntry) → list_any (λ sent. is_for sent.part e) sents ≡ true → IsAskedEntry e
for-asked sents (Asked p s q l a) h = tt
for-asked sents (Drew n f a) h = let none = for_none sents n f a in absurd (cc)

-- and so for each entry of a list
all-for-asked : (sents : List Sent) (es : List LogEntry) → AllByRecursion (λ e. list_any (λ sent. is_for sent.part e) sents ≡ true) es → AreAsked es
all-for-asked sents [] h = tt
all-for-asked sents (e ∷ es) h = (for-asked sents e h.0, all-for-asked sents es h.1)

module _ (r : Asker) (ordinal : ℕ) where
  -- the rows of a subset draw nothing
  rows-asked : (part : ℕ) (ask : Ask) (rows : List (List LogEntry)) (end : Option Abort) → AreExchanges r ordinal part ask rows end → AreAsked (joined rows)
  rows-asked part ask [] end h = absurd h
  rows-asked part ask (row ∷ rows) end h =
      let row_is = row-asked r.limits.patience part (record { ordinal = ordinal; ask = ask }) row h.0 h.1 in
      let goes_on = λ (subset : ℕ) (last : List ℕ). AreExchanges r ordinal part (Continue subset last) rows end in
      asked-append row (joined rows) row_is (behind-asked h.0 goes_on rows end h.2 (λ subset last more. rows-asked part (Continue subset last) rows end more))

  -- lists in turn draw nothing, where each of them doesn't
  turns-asked : {A : Type 0} (R : A → List LogEntry → Option Abort → Type 0) → ((x : A) (list : List LogEntry) (end : Option Abort) → R x list end → AreAsked list)
      → (things : List A) (lists : List (List LogEntry)) (end : Option Abort) → InTurn R things lists end → AreAsked (joined lists)
  turns-asked R to [] [] end h = tt
  turns-asked R to [] (list ∷ lists) end h = absurd h
  turns-asked R to (x ∷ things) [] end h = absurd h
  turns-asked R to (x ∷ things) (list ∷ lists) end (inl h) = asked-append list (joined lists) (to x list None h.0) (turns-asked R to things lists end h.1)
  turns-asked R to (x ∷ things) (list ∷ lists) end (inr h) =
      asked-append list (joined lists) (to x list end h.0) (none-asked lists h.2)

  -- the list of a subset draws nothing
  list-asked : (sent : Sent) (list : List LogEntry) (end : Option Abort) → IsList r ordinal sent list end → AreAsked list
  list-asked sent list end h = subst AreAsked (sym h.1) (rows-asked sent.part sent.ask h.0 end h.2)

  -- the row of a single request draws nothing
  single-asked : (sent : Sent) (list : List LogEntry) (end : Option Abort) → IsSingle r ordinal sent list end → AreAsked list
  single-asked sent list end h = row-asked r.limits.patience sent.part (record { ordinal = ordinal; ask = sent.ask }) list h.0 h.1

  -- a part in line draws nothing
  in_line-asked : (plan : Plan) (entries : List LogEntry) (end : Option Abort) → InLineBy r ordinal plan entries end → AreAsked entries
  in_line-asked (Subsets sents) entries end h = subst AreAsked (sym h.1) (turns-asked (IsList r ordinal) list-asked sents h.0 end h.2)
  in_line-asked (Singles sents) entries end h = subst AreAsked (sym h.1) (turns-asked (IsSingle r ordinal) single-asked sents h.0 end h.2)

  -- a part in all its partitions at once draws nothing
  wide-asked : (plan : Plan) (entries : List LogEntry) (end : Option Abort) → WideBy r ordinal plan entries end → AreAsked entries
  wide-asked (Subsets sents) entries end h = all-for-asked sents entries h.theirs
  wide-asked (Singles sents) entries end h = absurd h

  -- the part of a statement draws nothing
  pub part-asked : (statement : Statement) (entries : List LogEntry) (end : Option Abort) → IsPart r ordinal statement entries end → AreAsked entries
  part-asked statement entries end (inl h) = in_line-asked (plan_of r statement) entries end h
  part-asked statement entries end (inr h) = wide-asked (plan_of r statement) entries end h

-- a list without a draw has none within
pub no_draw : (xs ys zs : List LogEntry) (name : TxnName) (floor : ℕ) (answer : Answer) → AreAsked xs → xs ≡ ys ++ Drew name floor answer ∷ zs → ⊥
no_draw xs [] zs name floor answer asked is = (subst AreAsked is asked).0
no_draw xs (y ∷ ys) zs name floor answer asked is = no_draw (ys ++ Drew name floor answer ∷ zs) ys zs name floor answer (subst AreAsked is asked).1 refl

-- two lists that are each cut at a draw, with the same before it, of it and behind it
pub record SameDraw (xs ys zs ws : List LogEntry) (n m : TxnName) (f g : ℕ) (a b : Answer) : Type 0 where
  pub before : xs ≡ ys
  pub name : n ≡ m
  pub floor : f ≡ g
  pub answer : a ≡ b
  pub behind : zs ≡ ws

-- a list whose first draw is found in two ways was cut there both times
pub same_draw : (xs ys zs ws : List LogEntry) (n m : TxnName) (f g : ℕ) (a b : Answer) → AreAsked xs → AreAsked ys → xs ++ Drew n f a ∷ zs ≡ ys ++ Drew m g b ∷ ws
    → SameDraw xs ys zs ws n m f g a b
same_draw [] [] zs ws n m f g a b left right is = record { before = refl; name = cc; floor = cc; answer = cc; behind = cc }
same_draw [] (y ∷ ys) zs ws n m f g a b left right is =
    let first : y ≡ Drew n f a = cc in
    absurd (subst IsAskedEntry first right.0)
same_draw (x ∷ xs) [] zs ws n m f g a b left right is =
    let first : x ≡ Drew m g b = cc in
    absurd (subst IsAskedEntry first left.0)
same_draw (x ∷ xs) (y ∷ ys) zs ws n m f g a b left right is =
    let first : x ≡ y = cc in
    let rest : xs ++ Drew n f a ∷ zs ≡ ys ++ Drew m g b ∷ ws = cc in
    let same = same_draw xs ys zs ws n m f g a b left.1 right.1 rest in
    record { before = cc (first, same.before); name = same.name; floor = same.floor; answer = same.answer; behind = same.behind }

-- lists with one entry behind each are the same where their joins are
before_one : (xs ys : List LogEntry) (x y : LogEntry) → xs ++ x ∷ [] ≡ ys ++ y ∷ [] → xs ≡ ys
before_one [] [] x y is = refl
before_one [] (z ∷ []) x y is = absurd (cc)
before_one [] (z ∷ w ∷ ys) x y is = absurd (cc)
before_one (z ∷ []) [] x y is = absurd (cc)
before_one (z ∷ w ∷ xs) [] x y is = absurd (cc)
before_one (z ∷ xs) (w ∷ ys) x y is =
    let rest : xs ++ x ∷ [] ≡ ys ++ y ∷ [] = cc in
    let same = before_one xs ys x y rest in
    let first : z ≡ w = cc in
    cc

-- also where the one behind is said by an equation
pub before_last : (xs ys zs : List LogEntry) (x y : LogEntry) → zs ≡ x ∷ [] → xs ++ zs ≡ ys ++ y ∷ [] → xs ≡ ys
before_last xs ys zs x y one is = before_one xs ys x y (ap (λ es. xs ++ es) (sym one) ∙ is)

-- and what is behind the same is the same
pub behind_same : (xs ys es fs : List LogEntry) → xs ≡ ys → xs ++ es ≡ ys ++ fs → es ≡ fs
behind_same xs ys es fs same is = append_cancel_left ys es fs (ap (λ list. list ++ es) (sym same) ∙ is)

-- Ends are no draws
pub ends-asked : (ordinal : ℕ) (ask : Ask) (parts : List ℕ) (ends : List LogEntry) → AreEnds ordinal ask parts ends → AreAsked ends
ends-asked ordinal ask [] [] h = tt
ends-asked ordinal ask [] (e ∷ es) h = absurd h
ends-asked ordinal ask (part ∷ parts) [] h = absurd h
ends-asked ordinal ask (part ∷ parts) (e ∷ es) h = (asked-entry part (record { ordinal = ordinal; ask = ask }) (Reply reply.Done) e h.0, ends-asked ordinal ask parts es h.1)

-- nor are Prepares
pub prepares-asked : (ordinal : ℕ) (parts : List ℕ) (prepares : List LogEntry) (floors : List ℕ) → ArePrepares ordinal parts prepares floors → AreAsked prepares
prepares-asked ordinal parts [] floors h = tt
prepares-asked ordinal [] (e ∷ es) floors h = absurd h
prepares-asked ordinal (part ∷ parts) (e ∷ es) [] h = absurd h
prepares-asked ordinal (part ∷ parts) (e ∷ es) (floor ∷ floors) h =
    (asked-entry part (record { ordinal = ordinal; ask = Prepare }) (Reply (reply.Floor floor)) e h.0, prepares-asked ordinal parts es floors h.1)
