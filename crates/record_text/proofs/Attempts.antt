-- The attempts that are read from a log show what those of its reading do.
use Rattle.std.proofs.Common.{◌≡◌, ◌≤◌, ℕ, zero, suc, ◌+◌, List, [], ◌∷◌, ◌++◌, length, take, drop, map, Some, None, Option, Bool, true, false, cond, refl, ap, sym, ◌∙◌, subst, inl, inr, arith, append_assoc}
use Rattle.std.specs.Prelude.{flat_map}
use Rattle.std.specs.List.{AllByRecursion}
use Rattle.std.proofs.lemmas.Bool.{eq-eqb, ne_eqb, false≢true}
use Rattle.std.proofs.lemmas.Grind.{flat_map-append}
use Rattle.std.proofs.lemmas.List.{append-nil, map-append, take_at, drop_at}
use Rattle.sql_base.specs.Scripts.{parts_of}
use Rattle.sql_base.specs.declared.outcomes.Abort.{Abort}
use Rattle.sql_base.specs.declared.outcomes.Abort.TheVariants.{Duplicate, Faulted, LockedOut, PathLost}
use Rattle.sql_base.specs.declared.outcomes.Given.{Given}
use Rattle.sql_base.specs.declared.outcomes.Outcome.{Outcome}
use Rattle.sql_base.specs.declared.outcomes.Outcome.TheVariants.{Committed, RolledBack, Aborted}
use Rattle.sql_base.specs.declared.scripts.Work.{Work}
use Rattle.one_thread.specs.declared.shown.Shown.{Shown}
use Rattle.dp_messages.specs.declared.replies.Reply.TheVariants as reply
use Rattle.dp_messages.specs.declared.requests.Ask.{Ask}
use Rattle.dp_messages.specs.declared.requests.Ask.TheVariants as ask
use Rattle.dp_messages.specs.declared.requests.Request.{Request}
use Rattle.session_grammar.specs.declared.logs.Answer.{Answer}
use Rattle.session_grammar.specs.declared.logs.Answer.TheVariants.{PathFailed, Reply}
use Rattle.session_grammar.specs.declared.logs.LogEntry.{LogEntry}
use Rattle.session_grammar.specs.declared.logs.LogEntry.TheVariants.{Asked, Drew}
use Rattle.session_grammar.specs.Follows.{AreAttempts, AreEnds, ArePrepares, AreTries, Attempt, InTurn, IsAttempt, IsEnding, IsPart, entries_of, joined, touched}
use Rattle.session_grammar.specs.Plans.{Asker}
use Rattle.session_grammar.specs.Rows.{IsAsked}
use Rattle.run_record.specs.Serial.{givens_of}
use Rattle.run_record.specs.Text.{shown_of}
use Rattle.record_laws.proofs.Attempts.{IsOwn, IsWork as IsWorkOf, is_own, parts-work}
use Rattle.record_text.specs.Scaffold.Reading.{behind, behind_all, given_by, givens_read, is_locked_out, most_parts, ordinal_of, outcome_of, own, own_length, shown_read, tries_read, works_read}
use Rattle.record_text.proofs.Outcomes.{outcome-read}
use Rattle.record_text.proofs.PartsRead.{givens-read}
use Rattle.sql_base.proofs.ListFacts.{all_joined}

-- what counts of an attempt: of an aborted one not what its statements gave
abbrev pub plain : Shown → Shown
plain shown = record shown { given = given_by shown.outcome shown.given }

abbrev pub plains : List Shown → List Shown
plains shown = map plain shown

-- an attempt that was not aborted
abbrev IsDone : Outcome → Type 0
IsDone (Aborted abort) = ⊥
IsDone outcome = Unit {0}

abbrev shown_as : ℕ → ℕ → Outcome → List Given → Shown
shown_as session ordinal outcome given = record { session = session; ordinal = ordinal; outcome = outcome; given = given }

plain-same : (session ordinal : ℕ) (outcome : Outcome) (read given : List Given) → (IsDone outcome → read ≡ given) → plain (shown_as session ordinal outcome (given_by outcome read)) ≡ plain (shown_as session ordinal outcome given)
plain-same session ordinal (Committed stamp) read given same = ap (λ (g : List Given). plain (shown_as session ordinal (Committed stamp) g)) (same tt)
plain-same session ordinal RolledBack read given same = ap (λ (g : List Given). plain (shown_as session ordinal RolledBack g)) (same tt)
plain-same session ordinal (Aborted abort) read given same = refl

-- where it was not, all its parts are whole
done-whole : (r : Asker) (a : Attempt) (end : Option Abort) (commit : Bool) → IsEnding r a end commit → IsDone a.outcome → end ≡ None
done-whole r a (Some abort) commit h done = absurd (subst IsDone h.1 done)
done-whole r a None commit h done = refl

pub attempt-plain : (r : Asker) (a : Attempt) → parts_of r.tables ≤ most_parts → IsOwn r a → plain (shown_read r a.ordinal a.work (entries_of a)) ≡ plain (shown_of r a)
attempt-plain r a few is =
    let p = is.parts_and_ending in
    let outcome = outcome-read r a few is in
    let read = givens_read r a.work.statements (entries_of a) in
    ap (λ (o : Outcome). plain (shown_as r.number a.ordinal o (given_by o read))) outcome
    ∙ plain-same r.number a.ordinal a.outcome read (givens_of r a.work.statements a.parts)
    (λ done. givens-read r a.ordinal a.work.statements a.parts a.ending (subst (InTurn (IsPart r a.ordinal) a.work.statements a.parts) (done-whole r a p.0 a.work.commit p.2 done) p.1))

-- each entry of an attempt has its ordinal
abbrev IsNumbered : ℕ → LogEntry → Type 0
IsNumbered ordinal e = ordinal_of e ≡ ordinal

asked-numbered : (part ordinal : ℕ) (a : Ask) (answer : Answer) (e : LogEntry) → IsAsked part (record { ordinal = ordinal; ask = a }) answer e → IsNumbered ordinal e
asked-numbered part ordinal a answer (Asked p s q l w) h = ap (λ (x : Request). x.ordinal) h.1
asked-numbered part ordinal a answer (Drew n f w) h = absurd h

work-numbered : (ordinal : ℕ) (es : List LogEntry) → AllByRecursion (IsWorkOf ordinal) es → AllByRecursion (IsNumbered ordinal) es
work-numbered ordinal [] h = tt
work-numbered ordinal (Asked p s q l a ∷ es) h = (h.0.0, work-numbered ordinal es h.1)
work-numbered ordinal (Drew n f a ∷ es) h = absurd h.0

ends-numbered : (ordinal : ℕ) (a : Ask) (parts : List ℕ) (ends : List LogEntry) → AreEnds ordinal a parts ends → AllByRecursion (IsNumbered ordinal) ends
ends-numbered ordinal a [] [] h = tt
ends-numbered ordinal a [] (e ∷ es) h = absurd h
ends-numbered ordinal a (part ∷ parts) [] h = absurd h
ends-numbered ordinal a (part ∷ parts) (e ∷ es) h = (asked-numbered part ordinal a (Reply reply.Done) e h.0, ends-numbered ordinal a parts es h.1)

prepares-numbered : (ordinal : ℕ) (parts : List ℕ) (prepares : List LogEntry) (floors : List ℕ) → ArePrepares ordinal parts prepares floors → AllByRecursion (IsNumbered ordinal) prepares
prepares-numbered ordinal parts [] floors h = tt
prepares-numbered ordinal [] (e ∷ es) floors h = absurd h
prepares-numbered ordinal (part ∷ parts) (e ∷ es) [] h = absurd h
prepares-numbered ordinal (part ∷ parts) (e ∷ es) (floor ∷ floors) h = (asked-numbered part ordinal ask.Prepare (Reply (reply.Floor floor)) e h.0, prepares-numbered ordinal parts es floors h.1)

ending-numbered : (r : Asker) (a : Attempt) (end : Option Abort) (commit : Bool) → IsEnding r a end commit → AllByRecursion (IsNumbered a.ordinal) a.ending
ending-numbered r a (Some abort) commit h = ends-numbered a.ordinal ask.EndUndo (touched r a) a.ending h.0
ending-numbered r a None false h = ends-numbered a.ordinal ask.EndUndo (touched r a) a.ending h.0
ending-numbered r a None true (inl c) =
    subst (AllByRecursion (IsNumbered a.ordinal)) (sym c.ending_is)
    (all_joined (IsNumbered a.ordinal) c.prepares _ (prepares-numbered a.ordinal (touched r a) c.prepares c.floors c.prepared) (refl, ends-numbered a.ordinal (ask.EndCommit c.stamp) (touched r a) c.ends c.ended))
ending-numbered r a None true (inr l) =
    subst (AllByRecursion (IsNumbered a.ordinal)) (sym l.ending_is)
    (all_joined (IsNumbered a.ordinal) l.prepares (l.lost ∷ l.ends) (prepares-numbered a.ordinal l.front l.prepares l.floors l.prepared)
    (asked-numbered l.part a.ordinal ask.Prepare PathFailed l.lost l.lost_is, ends-numbered a.ordinal ask.EndUndo (touched r a) l.ends l.undone))

attempt-numbered : (r : Asker) (a : Attempt) → IsOwn r a → AllByRecursion (IsNumbered a.ordinal) (entries_of a)
attempt-numbered r a is =
    let p = is.parts_and_ending in
    all_joined (IsNumbered a.ordinal) (joined a.parts) a.ending (work-numbered a.ordinal (joined a.parts) (parts-work r a.ordinal a.work.statements a.parts p.0 p.1)) (ending-numbered r a p.0 a.work.commit p.2)

-- the entries of later attempts
abbrev IsFrom : ℕ → LogEntry → Type 0
IsFrom ordinal e = ordinal ≤ ordinal_of e

numbered-from : (n m : ℕ) (es : List LogEntry) → m ≤ n → AllByRecursion (IsNumbered n) es → AllByRecursion (IsFrom m) es
numbered-from n m [] le h = tt
numbered-from n m (e ∷ es) le h = (omega (arith, le, h.0), numbered-from n m es le h.1)

from-lower : (n m : ℕ) (es : List LogEntry) → m ≤ n → AllByRecursion (IsFrom n) es → AllByRecursion (IsFrom m) es
from-lower n m [] le h = tt
from-lower n m (e ∷ es) le h = (omega (arith, le, h.0), from-lower n m es le h.1)

-- at the front of a log stand the entries of its first attempt
own-front : (n : ℕ) (es rest : List LogEntry) → AllByRecursion (IsNumbered n) es → AllByRecursion (IsFrom (n + 1)) rest → own_length n (es ++ rest) ≡ length es
own-front n [] [] h later = refl
own-front n [] (e ∷ rest) h later = ap (λ b. cond b (suc (own_length n rest)) 0) (ne_eqb (ordinal_of e) n (λ same. let le = later.0 in omega (arith, same, le)))
own-front n (e ∷ es) rest h later = ap (λ b. cond b (suc (own_length n (es ++ rest))) 0) (eq-eqb (ordinal_of e) n h.0) ∙ ap suc (own-front n es rest h.1 later)

own-is : (n : ℕ) (es rest : List LogEntry) → AllByRecursion (IsNumbered n) es → AllByRecursion (IsFrom (n + 1)) rest → own n (es ++ rest) ≡ es
own-is n es rest h later = ap (λ k. take k (es ++ rest)) (own-front n es rest h later) ∙ take_at es rest (length es) refl

behind-is : (n : ℕ) (es rest : List LogEntry) → AllByRecursion (IsNumbered n) es → AllByRecursion (IsFrom (n + 1)) rest → behind n (es ++ rest) ≡ rest
behind-is n es rest h later = ap (λ k. drop k (es ++ rest)) (own-front n es rest h later) ∙ drop_at es rest (length es) refl

locked-out : (o : Outcome) → is_locked_out o ≡ true → o ≡ Aborted LockedOut
locked-out (Aborted LockedOut) h = refl
locked-out (Aborted PathLost) h = absurd (false≢true h)
locked-out (Aborted (Faulted key fault)) h = absurd (false≢true h)
locked-out (Aborted (Duplicate key)) h = absurd (false≢true h)
locked-out (Committed stamp) h = absurd (false≢true h)
locked-out RolledBack h = absurd (false≢true h)

module _ (r : Asker) (few : parts_of r.tables ≤ most_parts) where
  numbered-as : (work : Work) (n : ℕ) (a : Attempt) → IsAttempt IsPart r work n a → AllByRecursion (IsNumbered n) (entries_of a)
  numbered-as work n a h = subst (λ (m : ℕ). AllByRecursion (IsNumbered m) (entries_of a)) h.numbered (attempt-numbered r a (is_own r work n a h))

  plain-as : (work : Work) (n : ℕ) (a : Attempt) → IsAttempt IsPart r work n a → plain (shown_read r n work (entries_of a)) ≡ plain (shown_of r a)
  plain-as work n a h = (λ i. plain (shown_read r (sym h.numbered i) (sym h.of_work i) (entries_of a))) ∙ attempt-plain r a few (is_own r work n a h)

  outcome-as : (work : Work) (n : ℕ) (a : Attempt) → IsAttempt IsPart r work n a → outcome_of (entries_of a) ≡ a.outcome
  outcome-as work n a h = outcome-read r a few (is_own r work n a h)

  tries-from : (work : Work) (n more : ℕ) (tries : List Attempt) → AreTries IsPart r work n more tries → AllByRecursion (IsFrom n) (flat_map entries_of tries)
  tries-from work n more [] h = absurd h
  tries-from work n more (a ∷ []) h = all_joined (IsFrom n) (entries_of a) [] (numbered-from n n (entries_of a) (omega arith) (numbered-as work n a h.0)) tt
  tries-from work n zero (a ∷ b ∷ rest) h = absurd h
  tries-from work n (suc more) (a ∷ b ∷ rest) h =
      all_joined (IsFrom n) (entries_of a) (flat_map entries_of (b ∷ rest)) (numbered-from n n (entries_of a) (omega arith) (numbered-as work n a h.0))
      (from-lower (n + 1) n (flat_map entries_of (b ∷ rest)) (omega arith) (tries-from work (n + 1) more (b ∷ rest) h.2))

  -- what is read of a transaction's attempts
  record TriesRead (work : Work) (n more : ℕ) (tries : List Attempt) (log rest : List LogEntry) : Type 0 where
    shows : plains (tries_read r work n more log) ≡ plains (map (shown_of r) tries)
    many : length (tries_read r work n more log) ≡ length tries
    left : behind_all n (length tries) log ≡ rest

  last-read : (work : Work) (n more : ℕ) (a : Attempt) (log rest : List LogEntry) → log ≡ entries_of a ++ rest → IsAttempt IsPart r work n a → (a.outcome ≡ Aborted LockedOut → more ≡ 0) → AllByRecursion (IsFrom (n + 1)) rest
      → TriesRead work n more (a ∷ []) log rest
  last-read work n more a log rest is h may later = by more may
    where
      numbered : AllByRecursion (IsNumbered n) (entries_of a)
      numbered = numbered-as work n a h

      mine : own n log ≡ entries_of a
      mine = ap (own n) is ∙ own-is n (entries_of a) rest numbered later

      left_is : behind n log ≡ rest
      left_is = ap (behind n) is ∙ behind-is n (entries_of a) rest numbered later

      mine_is : plains (shown_read r n work (own n log) ∷ []) ≡ plains (shown_of r a ∷ [])
      mine_is = ap (λ (es : List LogEntry). plains (shown_read r n work es ∷ [])) mine ∙ ap (λ (s : Shown). s ∷ []) (plain-as work n a h)

      by : (k : ℕ) → (a.outcome ≡ Aborted LockedOut → k ≡ 0) → TriesRead work n k (a ∷ []) log rest
      by zero none = record { shows = mine_is; many = refl; left = left_is }
      by (suc k) none =
          let stops : is_locked_out (outcome_of (own n log)) ≡ false =
          ap (λ (es : List LogEntry). is_locked_out (outcome_of es)) mine ∙ ap is_locked_out (outcome-as work n a h) ∙ not_locked (is_locked_out a.outcome) refl in
          record {
            shows = ap (λ b. plains (shown_read r n work (own n log) ∷ cond b (tries_read r work (n + 1) k (behind n log)) [])) stops ∙ mine_is;
            many = ap (λ b. length (shown_read r n work (own n log) ∷ cond b (tries_read r work (n + 1) k (behind n log)) [])) stops;
            left = left_is;
          }
        where
          not_locked : (b : Bool) → is_locked_out a.outcome ≡ b → b ≡ false
          not_locked false e = refl
          not_locked true e = let never : suc k ≡ 0 = none (locked-out a.outcome e) in absurd (omega (arith, never))

  tries-read : (work : Work) (n more : ℕ) (tries : List Attempt) (log rest : List LogEntry) → log ≡ flat_map entries_of tries ++ rest → AreTries IsPart r work n more tries → AllByRecursion (IsFrom (n + length tries)) rest
      → TriesRead work n more tries log rest
  tries-read work n more [] log rest is h later = absurd h
  tries-read work n more (a ∷ []) log rest is h later = last-read work n more a log rest (is ∙ ap (λ (es : List LogEntry). es ++ rest) (append-nil (entries_of a))) h.0 h.1 later
  tries-read work n zero (a ∷ b ∷ tries) log rest is h later = absurd h
  tries-read work n (suc more) (a ∷ b ∷ tries) log rest is h later =
      let numbered = numbered-as work n a h.0 in
      let more_log = flat_map entries_of (b ∷ tries) ++ rest in
      let split : log ≡ entries_of a ++ more_log = is ∙ append_assoc (entries_of a) (flat_map entries_of (b ∷ tries)) rest in
      let above : AllByRecursion (IsFrom (n + 1)) more_log = all_joined (IsFrom (n + 1)) (flat_map entries_of (b ∷ tries)) rest (tries-from work (n + 1) more (b ∷ tries) h.2)
      (from-lower (n + length (a ∷ b ∷ tries)) (n + 1) rest (omega arith) later) in
      let mine : own n log ≡ entries_of a = ap (own n) split ∙ own-is n (entries_of a) more_log numbered above in
      let left_is : behind n log ≡ more_log = ap (behind n) split ∙ behind-is n (entries_of a) more_log numbered above in
      let count : n + length (a ∷ b ∷ tries) ≡ n + 1 + length (b ∷ tries) = omega arith in
      let next : TriesRead work (n + 1) more (b ∷ tries) (behind n log) rest =
      tries-read work (n + 1) more (b ∷ tries) (behind n log) rest left_is h.2 (subst (λ m. AllByRecursion (IsFrom m) rest) count later) in
      let goes_on : is_locked_out (outcome_of (own n log)) ≡ true =
      ap (λ (es : List LogEntry). is_locked_out (outcome_of es)) mine ∙ ap is_locked_out (outcome-as work n a h.0) ∙ ap is_locked_out h.1 in
      let all : tries_read r work n (suc more) log ≡ shown_read r n work (own n log) ∷ tries_read r work (n + 1) more (behind n log) =
      ap (λ c. shown_read r n work (own n log) ∷ cond c (tries_read r work (n + 1) more (behind n log)) []) goes_on in
      record {
        shows = ap plains all ∙ ap (λ (es : List LogEntry). plain (shown_read r n work es) ∷ plains (tries_read r work (n + 1) more (behind n log))) mine
            ∙ (λ i. plain-as work n a h.0 i ∷ next.shows i);
        many = ap length all ∙ ap suc next.many;
        left = next.left;
      }

  attempts-from : (n : ℕ) (works : List Work) (attempts : List Attempt) → AreAttempts IsPart r n works attempts → AllByRecursion (IsFrom n) (flat_map entries_of attempts)
  attempts-from n [] attempts h = subst (λ (xs : List Attempt). AllByRecursion (IsFrom n) (flat_map entries_of xs)) (sym h) tt
  attempts-from n (work ∷ works) attempts (tries, rest, is, are, more) =
      subst (AllByRecursion (IsFrom n)) (sym (ap (flat_map entries_of) is ∙ flat_map-append entries_of tries rest))
      (all_joined (IsFrom n) (flat_map entries_of tries) (flat_map entries_of rest) (tries-from work n r.limits.restart tries are)
      (from-lower (n + length tries) n (flat_map entries_of rest) (omega arith) (attempts-from (n + length tries) works rest more)))

  -- what is read of all transactions of a session
  pub works-read : (n : ℕ) (works : List Work) (attempts : List Attempt) → AreAttempts IsPart r n works attempts → plains (works_read r n works (flat_map entries_of attempts)) ≡ plains (map (shown_of r) attempts)
  works-read n [] attempts h = sym (ap (λ (xs : List Attempt). plains (map (shown_of r) xs)) h)
  works-read n (work ∷ works) attempts (tries, rest, is, are, more) =
      let log = flat_map entries_of attempts in
      let split : log ≡ flat_map entries_of tries ++ flat_map entries_of rest = ap (flat_map entries_of) is ∙ flat_map-append entries_of tries rest in
      let read = tries-read work n r.limits.restart tries log (flat_map entries_of rest) split are (attempts-from (n + length tries) works rest more) in
      let shown = tries_read r work n r.limits.restart log in
      let left : behind_all n (length shown) log ≡ flat_map entries_of rest = ap (λ k. behind_all n k log) read.many ∙ read.left in
      map-append plain shown (works_read r (n + length shown) works (behind_all n (length shown) log))
      ∙ (λ i. read.shows i ++ plains (works_read r (n + read.many i) works (left i)))
      ∙ ap (λ (t : List Shown). plains (map (shown_of r) tries) ++ t) (works-read (n + length tries) works rest more)
      ∙ sym (map-append plain (map (shown_of r) tries) (map (shown_of r) rest))
      ∙ ap plains (sym (map-append (shown_of r) tries rest)) ∙ ap (λ (xs : List Attempt). plains (map (shown_of r) xs)) (sym is)
