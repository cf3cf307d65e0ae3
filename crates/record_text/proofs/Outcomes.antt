-- How an attempt ended is what is read from its entries.
use Rattle.std.proofs.Common.{◌≡◌, ◌≤◌, ◌<◌, ℕ, zero, suc, ◌+◌, List, [], ◌∷◌, ◌++◌, Option, Some, None, Bool, true, false, ◌&&◌, not, cond, filter, refl, ap, sym, ◌∙◌, inl, inr, arith}
use Rattle.std.specs.Prelude.{◌==◌}
use Rattle.std.specs.List.{AllByRecursion, range_with_len}
use Rattle.std.proofs.lemmas.Bool.{eqb-true, eqb-false, false≢true}
use Rattle.std.proofs.lemmas.List.{append-nil}
use Rattle.sql_base.specs.Scripts.{parts_of}
use Rattle.sql_base.specs.declared.outcomes.Abort.{Abort}
use Rattle.sql_base.specs.declared.outcomes.Abort.TheVariants.{PathLost}
use Rattle.sql_base.specs.declared.outcomes.Outcome.{Outcome}
use Rattle.sql_base.specs.declared.statements.Statement.{Statement}
use Rattle.dp_messages.specs.declared.replies.Reply.TheVariants as reply
use Rattle.dp_messages.specs.declared.requests.Ask.{Ask}
use Rattle.dp_messages.specs.declared.requests.Ask.TheVariants as ask
use Rattle.dp_messages.specs.declared.requests.Request.{Request}
use Rattle.session_grammar.specs.declared.logs.Answer.{Answer}
use Rattle.session_grammar.specs.declared.logs.Answer.TheVariants.{PathFailed, Reply}
use Rattle.session_grammar.specs.declared.logs.LogEntry.{LogEntry}
use Rattle.session_grammar.specs.declared.logs.LogEntry.TheVariants.{Asked, Drew}
use Rattle.session_grammar.specs.Follows.{AreEnds, ArePrepares, Attempt, InTurn, IsEnding, IsPart, entries_of, joined, touched}
use Rattle.session_grammar.specs.Plans.{Asker, plan_of, sents_of}
use Rattle.session_grammar.specs.Rows.{IsAsked, failure, is_end}
use Rattle.session_grammar.specs.declared.plans.Sent.{Sent}
use Rattle.partition_state.specs.Step.{is_closing}
use Rattle.record_laws.proofs.Attempts.{IsOwn, IsWork as IsWorkOf, parts-work}
use Rattle.record_laws.proofs.Plans.{plan-work}
use Rattle.record_text.specs.Scaffold.Reading.{drawn, first_failure, last_failure, most_parts, or_else, outcome_by, outcome_of}
use Rattle.record_text.proofs.Failures.{IsPartOf, end-behind, last-append}
use Rattle.record_text.proofs.FirstFailures.{part-told}
use Rattle.run_record.proofs.Closings.{open_is_no_end}

open_sents : (sents : List Sent) → AllByRecursion (λ (sent : Sent). is_closing sent.ask ≡ false) sents → AllByRecursion IsPartOf sents
open_sents [] h = tt
open_sents (sent ∷ sents) h = (open_is_no_end sent.ask h.0, open_sents sents h.1)

pub plan-parts : (r : Asker) (s : Statement) → AllByRecursion IsPartOf (sents_of (plan_of r s))
plan-parts r s = open_sents (sents_of (plan_of r s)) (plan-work r s)

-- partitions that didn't fail
first-none : (es : List LogEntry) (n low j : ℕ) → first_failure es (range_with_len low n) ≡ None → low ≤ j → j < low + n → last_failure j None es ≡ None
first-none es zero low j h le lt = absurd (omega (arith, le, lt))
first-none es (suc n) low j h le lt = by (last_failure low None es) refl h (λ g above. first-none es n (low + 1) j g above (omega (arith, lt)))
  where
    at : (b : Bool) → (j == low) ≡ b → last_failure low None es ≡ None → (low + 1 ≤ j → last_failure j None es ≡ None) → last_failure j None es ≡ None
    at true is e rest = ap (λ m. last_failure m None es) (eqb-true j low is) ∙ e
    at false is e rest = let differs = eqb-false j low is in rest (omega (arith, le, differs))

    by : (o : Option Abort) → last_failure low None es ≡ o → or_else o (first_failure es (range_with_len (low + 1) n)) ≡ None
        → (first_failure es (range_with_len (low + 1) n) ≡ None → low + 1 ≤ j → last_failure j None es ≡ None) → last_failure j None es ≡ None
    by (Some x) e g rest = absurd (cc)
    by None e g rest = at (j == low) refl e (rest g)

-- where no partition failed, what comes behind decides
first-append : (xs ys : List LogEntry) (n low : ℕ) → ((j : ℕ) → low ≤ j → j < low + n → last_failure j None xs ≡ None) → first_failure (xs ++ ys) (range_with_len low n) ≡ first_failure ys (range_with_len low n)
first-append xs ys zero low none = refl
first-append xs ys (suc n) low none =
    ap (λ x. or_else x (first_failure (xs ++ ys) (range_with_len (low + 1) n))) (last-append low None xs ys ∙ ap (λ x. last_failure low x ys) (none low (omega arith) (omega arith)))
    ∙ ap (or_else (last_failure low None ys)) (first-append xs ys n (low + 1) (λ j le lt. none j (omega (arith, le)) (omega (arith, lt))))

whole-append : (xs ys : List LogEntry) → first_failure xs (range_with_len 0 most_parts) ≡ None → first_failure (xs ++ ys) (range_with_len 0 most_parts) ≡ first_failure ys (range_with_len 0 most_parts)
whole-append xs ys h = first-append xs ys most_parts 0 (λ j le lt. first-none xs most_parts 0 j h le lt)

-- what changes no partition's last failure changes not which is first
first-same : (xs ys : List LogEntry) (parts : List ℕ) → ((j : ℕ) (found : Option Abort) → last_failure j found ys ≡ found) → first_failure (xs ++ ys) parts ≡ first_failure xs parts
first-same xs ys [] same = refl
first-same xs ys (part ∷ parts) same =
    ap (λ x. or_else x (first_failure (xs ++ ys) parts)) (last-append part None xs ys ∙ same part (last_failure part None xs)) ∙ ap (or_else (last_failure part None xs)) (first-same xs ys parts same)

empty-first : (parts : List ℕ) → first_failure [] parts ≡ None
empty-first [] = refl
empty-first (part ∷ parts) = empty-first parts

module _ (r : Asker) (few : parts_of r.tables ≤ most_parts) (ordinal : ℕ) where
  -- the parts of an attempt
  pub parts-told : (statements : List Statement) (parts : List (List LogEntry)) (end : Option Abort) → InTurn (IsPart r ordinal) statements parts end → first_failure (joined parts) (range_with_len 0 most_parts) ≡ end
  parts-told [] [] end h = empty-first (range_with_len 0 most_parts) ∙ sym h
  parts-told [] (part ∷ parts) end h = absurd h
  parts-told (s ∷ statements) [] end h = absurd h
  parts-told (s ∷ statements) (part ∷ parts) end (inl h) = whole-append part (joined parts) (part-told r few ordinal s part None (plan-parts r s) h.0) ∙ parts-told statements parts end h.1
  parts-told (s ∷ statements) (part ∷ parts) end (inr h) =
      ap (λ (ls : List (List LogEntry)). first_failure (part ++ joined ls) (range_with_len 0 most_parts)) h.2 ∙ ap (λ (x : List LogEntry). first_failure x (range_with_len 0 most_parts)) (append-nil part)
      ∙ part-told r few ordinal s part end (plan-parts r s) h.0

-- no stamp is drawn
abbrev DrawsNone : LogEntry → Type 0
DrawsNone (Asked part sync request losses answer) = Unit {0}
DrawsNone (Drew name floor answer) = ⊥

drawn-append : (xs ys : List LogEntry) → AllByRecursion DrawsNone xs → drawn (xs ++ ys) ≡ drawn ys
drawn-append [] ys h = refl
drawn-append (Asked p s q l a ∷ xs) ys h = drawn-append xs ys h.1
drawn-append (Drew n f a ∷ xs) ys h = absurd h.0

drawn-none : (xs : List LogEntry) → AllByRecursion DrawsNone xs → drawn xs ≡ None
drawn-none xs h = ap drawn (sym (append-nil xs)) ∙ drawn-append xs [] h

work-draws : (ordinal : ℕ) (es : List LogEntry) → AllByRecursion (IsWorkOf ordinal) es → AllByRecursion DrawsNone es
work-draws ordinal [] h = tt
work-draws ordinal (Asked p s q l a ∷ es) h = (tt, work-draws ordinal es h.1)
work-draws ordinal (Drew n f a ∷ es) h = absurd h.0

asked-draws : (part : ℕ) (request : Request) (answer : Answer) (e : LogEntry) → IsAsked part request answer e → DrawsNone e
asked-draws part request answer (Asked p s q l a) h = tt
asked-draws part request answer (Drew n f a) h = absurd h

ends-draw : (ordinal : ℕ) (a : Ask) (parts : List ℕ) (ends : List LogEntry) → AreEnds ordinal a parts ends → AllByRecursion DrawsNone ends
ends-draw ordinal a [] [] h = tt
ends-draw ordinal a [] (e ∷ es) h = absurd h
ends-draw ordinal a (part ∷ parts) [] h = absurd h
ends-draw ordinal a (part ∷ parts) (e ∷ es) h = (asked-draws part (record { ordinal = ordinal; ask = a }) (Reply reply.Done) e h.0, ends-draw ordinal a parts es h.1)

prepares-draw : (ordinal : ℕ) (parts : List ℕ) (prepares : List LogEntry) (floors : List ℕ) → ArePrepares ordinal parts prepares floors → AllByRecursion DrawsNone prepares
prepares-draw ordinal parts [] floors h = tt
prepares-draw ordinal [] (e ∷ es) floors h = absurd h
prepares-draw ordinal (part ∷ parts) (e ∷ es) [] h = absurd h
prepares-draw ordinal (part ∷ parts) (e ∷ es) (floor ∷ floors) h = (asked-draws part (record { ordinal = ordinal; ask = ask.Prepare }) (Reply (reply.Floor floor)) e h.0, prepares-draw ordinal parts es floors h.1)

-- Ends and answered Prepares fail nothing
ends-last : (ordinal : ℕ) (a : Ask) (parts : List ℕ) (ends : List LogEntry) (j : ℕ) (found : Option Abort) → is_end a ≡ true → AreEnds ordinal a parts ends → last_failure j found ends ≡ found
ends-last ordinal a [] [] j found is h = refl
ends-last ordinal a [] (e ∷ es) j found is h = absurd h
ends-last ordinal a (part ∷ parts) [] j found is h = absurd h
ends-last ordinal a (part ∷ parts) (e ∷ es) j found is h =
    ap (λ x. last_failure j x es) (end-behind j found (record { ordinal = ordinal; ask = a }) (Reply reply.Done) part e is h.0) ∙ ends-last ordinal a parts es j found is h.1

-- an answer to a request of one partition, for any
asked-any : (j : ℕ) (found : Option Abort) (part : ℕ) (request : Request) (answer : Answer) (e : LogEntry) → is_end request.ask ≡ false → IsAsked part request answer e
    → last_failure j found (e ∷ []) ≡ cond (part == j) (failure answer) found
asked-any j found part request answer (Asked p s q l a) none h =
    ap (λ b. cond ((p == j) && not b) (failure a) found) (ap (λ (x : Request). is_end x.ask) h.1 ∙ none) ∙ (λ i. cond (both (h.0 i == j) i) (failure (h.2 i)) found)
  where
    both : (b : Bool) → (b && true) ≡ b
    both true = refl
    both false = refl
asked-any j found part request answer (Drew n f a) none h = absurd h

prepares-last : (ordinal : ℕ) (parts : List ℕ) (prepares : List LogEntry) (floors : List ℕ) (j : ℕ) → ArePrepares ordinal parts prepares floors → last_failure j None prepares ≡ None
prepares-last ordinal parts [] floors j h = refl
prepares-last ordinal [] (e ∷ es) floors j h = absurd h
prepares-last ordinal (part ∷ parts) (e ∷ es) [] j h = absurd h
prepares-last ordinal (part ∷ parts) (e ∷ es) (floor ∷ floors) j h =
    ap (λ x. last_failure j x es) (asked-any j None part (record { ordinal = ordinal; ask = ask.Prepare }) (Reply (reply.Floor floor)) e refl h.0 ∙ same (part == j)) ∙ prepares-last ordinal parts es floors j h.1
  where
    same : (b : Bool) → cond b (failure (Reply (reply.Floor floor))) None ≡ None
    same true = refl
    same false = refl

-- one partition alone that failed
one-failed : (es : List LogEntry) (abort : Abort) (part n low : ℕ) → ((j : ℕ) → last_failure j None es ≡ cond (part == j) (Some abort) None) → low ≤ part → part < low + n → first_failure es (range_with_len low n) ≡ Some abort
one-failed es abort part zero low is le lt = absurd (omega (arith, le, lt))
one-failed es abort part (suc n) low is le lt = at (part == low) refl (λ above. one-failed es abort part n (low + 1) is above (omega (arith, lt)))
  where
    at : (b : Bool) → (part == low) ≡ b → (low + 1 ≤ part → first_failure es (range_with_len (low + 1) n) ≡ Some abort) → or_else (last_failure low None es) (first_failure es (range_with_len (low + 1) n)) ≡ Some abort
    at true e rest = ap (λ x. or_else x (first_failure es (range_with_len (low + 1) n))) (is low ∙ ap (λ b. cond b (Some abort) None) e)
    at false e rest =
        let differs = eqb-false part low e in
        ap (λ x. or_else x (first_failure es (range_with_len (low + 1) n))) (is low ∙ ap (λ b. cond b (Some abort) None) e)
        ∙ rest (omega (arith, le, differs))

-- a partition that a range has
range-has : (f : ℕ → Bool) (n low part : ℕ) (front back : List ℕ) → filter f (range_with_len low n) ≡ front ++ part ∷ back → part < low + n
range-has f zero low part [] back h = absurd (cc)
range-has f zero low part (x ∷ front) back h = absurd (cc)
range-has f (suc n) low part front back h = at (f low) front h (λ xs g. range-has f n (low + 1) part xs back g)
  where
    at : (b : Bool) (front : List ℕ) → cond b (low ∷ filter f (range_with_len (low + 1) n)) (filter f (range_with_len (low + 1) n)) ≡ front ++ part ∷ back → ((xs : List ℕ) → filter f (range_with_len (low + 1) n) ≡ xs ++ part ∷ back → part < low + 1 + n) → part < low + suc n
    at false front g rest = omega (arith, rest front g)
    at true [] g rest = let same : low ≡ part = cc in omega (arith, same)
    at true (x ∷ front) g rest = let more : filter f (range_with_len (low + 1) n) ≡ front ++ part ∷ back = cc in omega (arith, rest front more)

by_parts : (xs : List LogEntry) (end : Option Abort) (outcome : Outcome) → drawn xs ≡ None → first_failure xs (range_with_len 0 most_parts) ≡ end → outcome_by None end ≡ outcome → outcome_of xs ≡ outcome
by_parts xs end outcome none failed is = ap (λ o. outcome_by o (first_failure xs (range_with_len 0 most_parts))) none ∙ ap (outcome_by None) failed ∙ is

module _ (r : Asker) (few : parts_of r.tables ≤ most_parts) (a : Attempt) (work : AllByRecursion (IsWorkOf a.ordinal) (joined a.parts)) where
  -- undone: the parts decide
  undone : (end : Option Abort) → first_failure (joined a.parts) (range_with_len 0 most_parts) ≡ end → AreEnds a.ordinal ask.EndUndo (touched r a) a.ending → (outcome : Outcome) → outcome_by None end ≡ outcome → outcome_of (entries_of a) ≡ outcome
  undone end told ends outcome is =
      by_parts (joined a.parts ++ a.ending) end outcome
      (drawn-append (joined a.parts) a.ending (work-draws a.ordinal (joined a.parts) work) ∙ drawn-none a.ending (ends-draw a.ordinal ask.EndUndo (touched r a) a.ending ends))
      (first-same (joined a.parts) a.ending (range_with_len 0 most_parts) (λ j found. ends-last a.ordinal ask.EndUndo (touched r a) a.ending j found refl ends) ∙ told) is

  by_ending : (end : Option Abort) (commit : Bool) → first_failure (joined a.parts) (range_with_len 0 most_parts) ≡ end → IsEnding r a end commit → outcome_of (entries_of a) ≡ a.outcome
  by_ending (Some abort) commit told h = undone (Some abort) told h.0 a.outcome (sym h.1)
  by_ending None false told h = undone None told h.0 a.outcome (sym h.1)
  by_ending None true told (inl c) =
      let draws : drawn (joined a.parts ++ a.ending) ≡ Some c.stamp =
      drawn-append (joined a.parts) a.ending (work-draws a.ordinal (joined a.parts) work) ∙ ap drawn c.ending_is ∙ drawn-append c.prepares _ (prepares-draw a.ordinal (touched r a) c.prepares c.floors c.prepared) in
      ap (λ o. outcome_by o (first_failure (joined a.parts ++ a.ending) (range_with_len 0 most_parts))) draws ∙ sym c.outcome_is
  by_ending None true told (inr l) =
      let nothing : AllByRecursion DrawsNone (l.prepares ++ l.lost ∷ l.ends) = draws_all l.prepares (l.lost ∷ l.ends) (prepares-draw a.ordinal l.front l.prepares l.floors l.prepared)
      (asked-draws l.part (record { ordinal = a.ordinal; ask = ask.Prepare }) PathFailed l.lost l.lost_is, ends-draw a.ordinal ask.EndUndo (touched r a) l.ends l.undone) in
      by_parts (joined a.parts ++ a.ending) (Some PathLost) a.outcome
      (drawn-append (joined a.parts) a.ending (work-draws a.ordinal (joined a.parts) work) ∙ ap drawn l.ending_is ∙ drawn-none (l.prepares ++ l.lost ∷ l.ends) nothing)
      (whole-append (joined a.parts) a.ending told ∙ ap (λ (x : List LogEntry). first_failure x (range_with_len 0 most_parts)) l.ending_is
      ∙ one-failed (l.prepares ++ l.lost ∷ l.ends) PathLost l.part most_parts 0 each (omega arith) (omega (arith, range-has _ (parts_of r.tables) 0 l.part l.front l.back l.touched_is, few)))
      (sym l.outcome_is)
    where
      draws_all : (xs ys : List LogEntry) → AllByRecursion DrawsNone xs → AllByRecursion DrawsNone ys → AllByRecursion DrawsNone (xs ++ ys)
      draws_all [] ys h k = k
      draws_all (x ∷ xs) ys h k = (h.0, draws_all xs ys h.1 k)

      each : (j : ℕ) → last_failure j None (l.prepares ++ l.lost ∷ l.ends) ≡ cond (l.part == j) (Some PathLost) None
      each j =
          last-append j None l.prepares (l.lost ∷ l.ends) ∙ ap (λ x. last_failure j x (l.lost ∷ l.ends)) (prepares-last a.ordinal l.front l.prepares l.floors j l.prepared)
          ∙ ap (λ x. last_failure j x l.ends) (asked-any j None l.part (record { ordinal = a.ordinal; ask = ask.Prepare }) PathFailed l.lost refl l.lost_is)
          ∙ ends-last a.ordinal ask.EndUndo (touched r a) l.ends j (cond (l.part == j) (Some PathLost) None) refl l.undone

-- the outcome of an attempt
pub outcome-read : (r : Asker) (a : Attempt) → parts_of r.tables ≤ most_parts → IsOwn r a → outcome_of (entries_of a) ≡ a.outcome
outcome-read r a few own =
    let p = own.parts_and_ending in
    by_ending r few a (parts-work r a.ordinal a.work.statements a.parts p.0 p.1) p.0 a.work.commit (parts-told r few a.ordinal a.work.statements a.parts p.0 p.1) p.2
