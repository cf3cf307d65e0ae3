-- The part of a finished statement ends at the last entry that closes one of its subsets or requests.
use Rattle.std.proofs.Common.{◌≡◌, ◌≤◌, ℕ, zero, suc, ◌+◌, List, [], ◌∷◌, ◌++◌, length, Option, None, Bool, true, false, ◌||◌, cond, filter, refl, ap, sym, ◌∙◌, subst, inl, inr, arith}
use Rattle.std.specs.Prelude.{IsSome}
use Rattle.std.specs.List.{AllByRecursion, list_any}
use Rattle.std.proofs.lemmas.Bool.{false≢true}
use Rattle.std.proofs.lemmas.List.{append-nil}
use Rattle.std.proofs.lemmas.List.Elements.{filter-append}
use Rattle.sql_base.specs.declared.outcomes.Abort.{Abort}
use Rattle.dp_messages.specs.declared.replies.Reply.TheVariants as reply
use Rattle.dp_messages.specs.declared.requests.Ask.{Ask}
use Rattle.dp_messages.specs.declared.requests.Ask.TheVariants as ask
use Rattle.dp_messages.specs.declared.requests.Request.{Request}
use Rattle.session_grammar.specs.declared.logs.Answer.{Answer}
use Rattle.session_grammar.specs.declared.logs.Answer.TheVariants.{PathFailed, Reply, Stamp}
use Rattle.session_grammar.specs.declared.logs.LogEntry.{LogEntry}
use Rattle.session_grammar.specs.declared.logs.LogEntry.TheVariants.{Asked, Drew}
use Rattle.session_grammar.specs.Follows.{AfterRow, AreExchanges, AreTheirs, InTurn, IsList, IsSingle, joined, projection}
use Rattle.session_grammar.specs.Plans.{Asker}
use Rattle.session_grammar.specs.declared.plans.Sent.{Sent}
use Rattle.session_grammar.specs.Rows.{IsAsked, IsExchange, IsSent, failure, fits, is_for}
use Rattle.session_laws.proofs.Within.{Rise}
use Rattle.record_laws.specs.Scaffold.Lanes.{is_single}
use Rattle.record_laws.proofs.Plans.{IsAlone}
use Rattle.sql_base.specs.declared.faults.Cause.{Cause}
use Rattle.record_text.specs.Scaffold.Reading.{closes, closes_reply, part_length}
use Rattle.session_grammar.proofs.LogLists.{other_for, row_sent}

-- how many entries close, and whether the last one does
abbrev pub how_often : List LogEntry → ℕ
how_often [] = 0
how_often (e ∷ es) = cond (closes e) (suc (how_often es)) (how_often es)

abbrev pub ends_closed : List LogEntry → Bool
ends_closed [] = true
ends_closed (e ∷ []) = closes e
ends_closed (e ∷ f ∷ es) = ends_closed (f ∷ es)

one_more : (b : Bool) (n m : ℕ) → n ≡ m → cond b (suc n) n ≡ cond b (suc m) m
one_more b n m e = ap (λ k. cond b (suc k) k) e

pub often-append : (xs ys : List LogEntry) → how_often (xs ++ ys) ≡ how_often xs + how_often ys
often-append [] ys = omega arith
often-append (x ∷ xs) ys = one_more (closes x) (how_often (xs ++ ys)) (how_often xs + how_often ys) (often-append xs ys) ∙ apart (closes x)
  where
    apart : (b : Bool) → cond b (suc (how_often xs + how_often ys)) (how_often xs + how_often ys) ≡ cond b (suc (how_often xs)) (how_often xs) + how_often ys
    apart true = omega arith
    apart false = refl

pub closed-append : (xs ys : List LogEntry) → ends_closed xs ≡ true → ends_closed ys ≡ true → ends_closed (xs ++ ys) ≡ true
closed-append [] ys h k = k
closed-append (x ∷ []) [] h k = h
closed-append (x ∷ []) (y ∷ ys) h k = k
closed-append (x ∷ z ∷ xs) ys h k = closed-append (z ∷ xs) ys h k

-- the last entry decides
pub closed-last : (xs : List LogEntry) (e : LogEntry) → ends_closed (xs ++ e ∷ []) ≡ closes e
closed-last [] e = refl
closed-last (x ∷ []) e = refl
closed-last (x ∷ z ∷ xs) e = closed-last (z ∷ xs) e

-- some that end closed close once at least
some_closes : (e : LogEntry) (es : List LogEntry) → ends_closed (e ∷ es) ≡ true → 1 ≤ how_often (e ∷ es)
some_closes e [] h = at (closes e) h
  where
    at : (b : Bool) → b ≡ true → 1 ≤ cond b 1 0
    at true is = omega arith
    at false is = absurd (false≢true is)
some_closes e (f ∷ es) h = let rest = some_closes f es h in at (closes e) rest
  where
    at : (b : Bool) → 1 ≤ how_often (f ∷ es) → 1 ≤ cond b (suc (how_often (f ∷ es))) (how_often (f ∷ es))
    at true le = omega arith
    at false le = le

-- entries that end closed, and close just so often, are the part at the front
pub part-front : (k : ℕ) (es rest : List LogEntry) → how_often es ≡ k → ends_closed es ≡ true → part_length k (es ++ rest) ≡ length es
part-front zero [] rest often closed = refl
part-front (suc k) [] rest often closed = absurd (omega (arith, often))
part-front zero (e ∷ es) rest often closed = absurd (omega (arith, often, some_closes e es closed))
part-front (suc k) (e ∷ es) rest often closed = at (closes e) refl often (λ m many. part-front m es rest many (tail_closed es refl))
  where
    tail_closed : (fs : List LogEntry) → es ≡ fs → ends_closed es ≡ true
    tail_closed [] is = ap ends_closed is
    tail_closed (f ∷ fs) is = ap ends_closed is ∙ sym (ap (λ (x : List LogEntry). ends_closed (e ∷ x)) is) ∙ closed

    at : (b : Bool) → closes e ≡ b → cond b (suc (how_often es)) (how_often es) ≡ suc k → ((m : ℕ) → how_often es ≡ m → part_length m (es ++ rest) ≡ length es)
        → suc (part_length (cond b k (suc k)) (es ++ rest)) ≡ suc (length es)
    at true is many front = ap suc (front k (omega (arith, many)))
    at false is many front = ap suc (front (suc k) many)

-- one entry closes, and it is the last
pub record ClosesOnce (es : List LogEntry) : Type 0 where
  pub once : how_often es ≡ 1
  pub closed : ends_closed es ≡ true

-- entries none of which closes, before such
open-before : (xs ys : List LogEntry) → AllByRecursion (λ e. closes e ≡ false) xs → ClosesOnce ys → ClosesOnce (xs ++ ys)
open-before [] ys h once = once
open-before (x ∷ xs) ys h once =
    let rest = open-before xs ys h.1 once in
    record { once = ap (λ b. cond b (suc (how_often (xs ++ ys))) (how_often (xs ++ ys))) h.0 ∙ rest.once; closed = behind (xs ++ ys) rest.once rest.closed }
  where
    behind : (zs : List LogEntry) → how_often zs ≡ 1 → ends_closed zs ≡ true → ends_closed (x ∷ zs) ≡ true
    behind [] often closed = absurd (omega (arith, often))
    behind (z ∷ zs) often closed = closed

abbrev pub closes_answer : Answer → Bool
closes_answer (Reply r) = closes_reply r
closes_answer PathFailed = false
closes_answer (Stamp stamp) = false

asked-closes : (part : ℕ) (request : Request) (answer : Answer) (e : LogEntry) → IsAsked part request answer e → closes e ≡ closes_answer answer
asked-closes part request answer (Asked p s q l (Reply r)) h = ap closes_answer h.2
asked-closes part request answer (Asked p s q l PathFailed) h = ap closes_answer h.2
asked-closes part request answer (Asked p s q l (Stamp stamp)) h = ap closes_answer h.2
asked-closes part request answer (Drew n f a) h = absurd h

-- of a row all but the last are open
record RowCloses (answer : Answer) (row : List LogEntry) : Type 0 where
  front : List LogEntry
  last : LogEntry
  row_is : row ≡ front ++ last ∷ []
  open_front : AllByRecursion (λ e. closes e ≡ false) front
  last_closes : closes last ≡ closes_answer answer

row-closes : (n part : ℕ) (request : Request) (row : List LogEntry) (answer : Answer) → IsExchange n part request row answer → RowCloses answer row
row-closes n part request [] answer h = absurd h
row-closes n part request (e ∷ []) answer h = record { front = []; last = e; row_is = refl; open_front = tt; last_closes = asked-closes part request answer e h.0 }
row-closes zero part request (e ∷ f ∷ es) answer h = absurd h
row-closes (suc n) part request (e ∷ f ∷ es) answer h =
    let rest = row-closes n part request (f ∷ es) answer h.1 in
    record {
      front = e ∷ rest.front;
      last = rest.last;
      row_is = ap (λ (x : List LogEntry). e ∷ x) rest.row_is;
      open_front = (asked-closes part request (Reply (reply.Locked h.0.0)) e h.0.1, rest.open_front);
      last_closes = rest.last_closes;
    }

single_last : (e : LogEntry) → closes e ≡ true → ClosesOnce (e ∷ [])
single_last e h = record { once = ap (λ b. cond b 1 0) h; closed = h }

row-once : (answer : Answer) (row : List LogEntry) → closes_answer answer ≡ true → RowCloses answer row → ClosesOnce row
row-once answer row is c = subst ClosesOnce (sym c.row_is) (open-before c.front (c.last ∷ []) c.open_front (single_last c.last (c.last_closes ∙ is)))

all_open : (answer : Answer) (row : List LogEntry) → closes_answer answer ≡ false → RowCloses answer row → AllByRecursion (λ e. closes e ≡ false) row
all_open answer row is c = subst (AllByRecursion (λ e. closes e ≡ false)) (sym c.row_is) (push c.front c.open_front)
  where
    push : (xs : List LogEntry) → AllByRecursion (λ e. closes e ≡ false) xs → AllByRecursion (λ e. closes e ≡ false) (xs ++ c.last ∷ [])
    push [] h = (c.last_closes ∙ is, tt)
    push (x ∷ xs) h = (h.0, push xs h.1)

-- the list of a finished subset
module _ (r : Asker) (ordinal part : ℕ) where
  not_none : (answer : Answer) (end : Option Abort) → end ≡ None → failure answer ≡ end → failure answer ≡ None
  not_none answer end none is = is ∙ none

  rows-once : (a : Ask) (rows : List (List LogEntry)) → AreExchanges r ordinal part a rows None → ClosesOnce (joined rows)
  rows-once a [] h = absurd h
  rows-once a (row ∷ rows) h =
      behind h.0 (row-closes r.limits.patience part (record { ordinal = ordinal; ask = a }) row h.0 h.1) h.2 (λ subset last more. rows-once (ask.Continue subset last) rows more)
    where
      ended : (list : List LogEntry) → ClosesOnce list → (ls : List (List LogEntry)) → ls ≡ [] → ClosesOnce (list ++ joined ls)
      ended list once ls is = subst (λ (x : List (List LogEntry)). ClosesOnce (list ++ joined x)) (sym is) (subst ClosesOnce (sym (append-nil list)) once)

      behind : (answer : Answer) → RowCloses answer row → AfterRow answer (λ subset last. AreExchanges r ordinal part (ask.Continue subset last) rows None) rows None
          → ((subset : ℕ) (last : List ℕ) → AreExchanges r ordinal part (ask.Continue subset last) rows None → ClosesOnce (joined rows)) → ClosesOnce (row ++ joined rows)
      behind (Reply (reply.Redrive subset last cause out changed)) c g more = open-before row (joined rows) (all_open (Reply (reply.Redrive subset last cause out changed)) row refl c) (more subset last g)
      behind (Reply (reply.Ended out changed)) c g more = ended row (row-once (Reply (reply.Ended out changed)) row refl c) rows g.0
      behind answer c g more = absurd (false≢true (subst IsSome (sym g.2) g.1))

-- a single request isn't redriven
no_redrive : (a : Ask) (subset : ℕ) (last : List ℕ) (cause : Cause) (rows : List (List ℕ)) (changed : ℕ) → is_single a ≡ true → fits a (reply.Redrive subset last cause rows changed) ≡ true → ⊥
no_redrive (ask.ReadKey access key predicate columns) subset last cause rows changed alone f = false≢true f
no_redrive (ask.Insert row) subset last cause rows changed alone f = false≢true f
no_redrive (ask.LockGranule prefix mode) subset last cause rows changed alone f = false≢true f
no_redrive other subset last cause rows changed alone f = false≢true alone

single-closes : (a : Ask) (answer : Answer) (losses : ℕ) → is_single a ≡ true → IsSent a losses answer → failure answer ≡ None → closes_answer answer ≡ true
single-closes a (Reply (reply.Redrive subset last cause rows changed)) losses alone sent none = absurd (no_redrive a subset last cause rows changed alone sent.1)
single-closes a (Reply (reply.Locked lock)) losses alone sent none = absurd (cc)
single-closes a (Reply other) losses alone sent none = refl
single-closes a PathFailed losses alone sent none = absurd (cc)
single-closes a (Stamp stamp) losses alone sent none = absurd sent

-- each list closes once
pub record Closes (R : Sent → List LogEntry → Option Abort → Type 0) (S : Sent → Type 0) : Type 0 where
  pub once : (sent : Sent) (list : List LogEntry) → S sent → R sent list None → ClosesOnce list

abbrev pub AnySent : Sent → Type 0
AnySent sent = Unit {0}

pub list-closes : (r : Asker) (ordinal : ℕ) → Closes (IsList r ordinal) AnySent
list-closes r ordinal = record { once = λ sent list s h. subst ClosesOnce (sym h.1) (rows-once r ordinal sent.part sent.ask h.0 h.2) }

pub single-closes_once : (r : Asker) (ordinal : ℕ) → Closes (IsSingle r ordinal) IsAlone
single-closes_once r ordinal = record {
  once = λ sent list alone h.
      let request : Request = record { ordinal = ordinal; ask = sent.ask } in
      let went = row_sent r.limits.patience sent.part request list h.0 h.1 in
      row-once h.0 list (single-closes sent.ask h.0 went.0 alone went.1 (sym h.2)) (row-closes r.limits.patience sent.part request list h.0 h.1);
}

-- a part closes as often as it has lists, and ends closed
pub record ClosesEach (sents : List Sent) (es : List LogEntry) : Type 0 where
  pub often : how_often es ≡ length sents
  pub closed : ends_closed es ≡ true

module _ (R : Sent → List LogEntry → Option Abort → Type 0) (S : Sent → Type 0) (c : Closes R S) where
  pub lists-close : (sents : List Sent) (lists : List (List LogEntry)) → AllByRecursion S sents → InTurn R sents lists None → ClosesEach sents (joined lists)
  lists-close [] [] s h = record { often = refl; closed = refl }
  lists-close [] (list ∷ lists) s h = absurd h
  lists-close (sent ∷ sents) [] s h = absurd h
  lists-close (sent ∷ sents) (list ∷ lists) s (inl h) =
      let one = c.once sent list s.0 h.0 in
      let rest = lists-close sents lists s.1 h.1 in
      record { often = often-append list (joined lists) ∙ (λ i. one.once i + rest.often i) ∙ omega arith; closed = closed-append list (joined lists) one.closed rest.closed }
  lists-close (sent ∷ sents) (list ∷ lists) s (inr h) = absurd (false≢true h.1)

-- side by side: each entry is of just one list
abbrev often-at : List Sent → List LogEntry → ℕ
often-at [] es = 0
often-at (sent ∷ sents) es = how_often (projection es sent) + often-at sents es

often-none : (sents : List Sent) → often-at sents [] ≡ 0
often-none [] = refl
often-none (sent ∷ sents) = let rest = often-none sents in omega (arith, rest)

abbrev count : LogEntry → ℕ
count e = cond (closes e) 1 0

project-in : (sent : Sent) (e : LogEntry) (es : List LogEntry) → is_for sent.part e ≡ true → how_often (projection (e ∷ es) sent) ≡ count e + how_often (projection es sent)
project-in sent e es is = ap (λ b. how_often (cond b (e ∷ filter (is_for sent.part) es) (filter (is_for sent.part) es))) is ∙ one (closes e)
  where
    one : (b : Bool) → cond b (suc (how_often (filter (is_for sent.part) es))) (how_often (filter (is_for sent.part) es)) ≡ cond b 1 0 + how_often (filter (is_for sent.part) es)
    one true = omega arith
    one false = omega arith

project-out : (sent : Sent) (e : LogEntry) (es : List LogEntry) → is_for sent.part e ≡ false → how_often (projection (e ∷ es) sent) ≡ how_often (projection es sent)
project-out sent e es is = ap (λ b. how_often (cond b (e ∷ filter (is_for sent.part) es) (filter (is_for sent.part) es))) is

-- an entry of a lower partition counts for none of these
often-later : (low high : ℕ) (sents : List Sent) (e : LogEntry) (es : List LogEntry) → ((j : ℕ) → low ≤ j → is_for j e ≡ false) → Rise low high sents → often-at sents (e ∷ es) ≡ often-at sents es
often-later low high [] e es none rise = refl
often-later low high (sent ∷ sents) e es none rise =
    let le = rise.0 in
    (λ i. project-out sent e es (none sent.part le) i + often-later (sent.part + 1) high sents e es (λ j more. none j (omega (arith, le, more))) rise.2 i)

often-once : (low high : ℕ) (sents : List Sent) (e : LogEntry) (es : List LogEntry) → list_any (λ (sent : Sent). is_for sent.part e) sents ≡ true → Rise low high sents → often-at sents (e ∷ es) ≡ count e + often-at sents es
often-once low high [] e es any rise = absurd (false≢true any)
often-once low high (sent ∷ sents) e es any rise = at (is_for sent.part e) refl any (λ more. often-once (sent.part + 1) high sents e es more rise.2)
  where
    at : (b : Bool) → is_for sent.part e ≡ b → (b || list_any (λ (s : Sent). is_for s.part e) sents) ≡ true → (list_any (λ (s : Sent). is_for s.part e) sents ≡ true → often-at sents (e ∷ es) ≡ count e + often-at sents es)
        → how_often (projection (e ∷ es) sent) + often-at sents (e ∷ es) ≡ count e + (how_often (projection es sent) + often-at sents es)
    at true is h rest =
        (λ i. project-in sent e es is i + often-later (sent.part + 1) high sents e es (λ j more. other_for sent.part j e (λ same. omega (arith, same, more)) is) rise.2 i) ∙ omega arith
    at false is h rest = (λ i. project-out sent e es is i + rest h i) ∙ omega arith

all-often : (low high : ℕ) (sents : List Sent) (es : List LogEntry) → AreTheirs sents es → Rise low high sents → how_often es ≡ often-at sents es
all-often low high sents [] theirs rise = sym (often-none sents)
all-often low high sents (e ∷ es) theirs rise = one (closes e) ∙ ap (λ n. count e + n) (all-often low high sents es theirs.1 rise) ∙ sym (often-once low high sents e es theirs.0 rise)
  where
    one : (b : Bool) → cond b (suc (how_often es)) (how_often es) ≡ cond b 1 0 + how_often es
    one true = omega arith
    one false = omega arith

-- the last entry of all is the last of its list
snoc : (e : LogEntry) (es : List LogEntry) → (front : List LogEntry) × (last : LogEntry) × (e ∷ es ≡ front ++ last ∷ [])
snoc e [] = ([], e, refl)
snoc e (f ∷ es) = let rest = snoc f es in (e ∷ rest.0, rest.1, ap (λ (x : List LogEntry). e ∷ x) rest.2)

last_theirs : (sents : List Sent) (front : List LogEntry) (last : LogEntry) → AreTheirs sents (front ++ last ∷ []) → list_any (λ (sent : Sent). is_for sent.part last) sents ≡ true
last_theirs sents [] last h = h.0
last_theirs sents (x ∷ front) last h = last_theirs sents front last h.1

project-last : (sent : Sent) (front : List LogEntry) (last : LogEntry) → is_for sent.part last ≡ true → projection (front ++ last ∷ []) sent ≡ projection front sent ++ last ∷ []
project-last sent front last is =
    filter-append (is_for sent.part) front (last ∷ []) ∙ ap (λ b. filter (is_for sent.part) front ++ cond b (last ∷ []) []) is

last_closes : (sents : List Sent) (front : List LogEntry) (last : LogEntry) → list_any (λ (sent : Sent). is_for sent.part last) sents ≡ true
    → AllByRecursion (λ (sent : Sent). ClosesOnce (projection (front ++ last ∷ []) sent)) sents → closes last ≡ true
last_closes [] front last any once = absurd (false≢true any)
last_closes (sent ∷ sents) front last any once = at (is_for sent.part last) refl any (λ more. last_closes sents front last more once.1)
  where
    at : (b : Bool) → is_for sent.part last ≡ b → (b || list_any (λ (s : Sent). is_for s.part last) sents) ≡ true → (list_any (λ (s : Sent). is_for s.part last) sents ≡ true → closes last ≡ true) → closes last ≡ true
    at true is h rest = sym (closed-last (projection front sent) last) ∙ ap ends_closed (sym (project-last sent front last is)) ∙ once.0.closed
    at false is h rest = rest h

often-each : (sents : List Sent) (es : List LogEntry) → AllByRecursion (λ (sent : Sent). ClosesOnce (projection es sent)) sents → often-at sents es ≡ length sents
often-each [] es once = refl
often-each (sent ∷ sents) es once = (λ i. once.0.once i + often-each sents es once.1 i) ∙ omega arith

pub wide-close : (low high : ℕ) (sents : List Sent) (es : List LogEntry) → Rise low high sents → AreTheirs sents es → AllByRecursion (λ (sent : Sent). ClosesOnce (projection es sent)) sents → ClosesEach sents es
wide-close low high sents es rise theirs once = record { often = all-often low high sents es theirs rise ∙ often-each sents es once; closed = at es theirs once }
  where
    at : (xs : List LogEntry) → AreTheirs sents xs → AllByRecursion (λ (sent : Sent). ClosesOnce (projection xs sent)) sents → ends_closed xs ≡ true
    at [] t o = refl
    at (e ∷ xs) t o =
        let split = snoc e xs in
        ap ends_closed split.2 ∙ closed-last split.0 split.1
        ∙ last_closes sents split.0 split.1 (last_theirs sents split.0 split.1 (subst (AreTheirs sents) split.2 t)) (subst (λ (x : List LogEntry). AllByRecursion (λ (sent : Sent). ClosesOnce (projection x sent)) sents) split.2 o)
