-- Which draws of a log are those of which attempt.
use Rattle.std.proofs.Common.{◌≡◌, ◌<◌, ℕ, zero, suc, ◌-◌, List, [], ◌∷◌, ◌++◌, length, get_or, Option, Some, None, Bool, true, false, refl, ap, sym, subst, inl, inr, arith}
use Rattle.std.proofs.lemmas.Bool.{cases_lt}
use Rattle.std.proofs.lemmas.Option.{slice_get_past}
use Rattle.std.specs.Prelude.{flat_map, slice_get, unwrap_or, Contains}
use Rattle.std.specs.List.{AllByRecursion}
use Rattle.sql_base.specs.Scripts.{Lies}
use Rattle.sql_base.specs.declared.outcomes.Abort.{Abort}
use Rattle.sql_base.specs.declared.outcomes.Outcome.TheVariants.{Committed}
use Rattle.sql_base.specs.declared.scripts.Script.{Script}
use Rattle.sql_base.specs.declared.scripts.Work.{Work}
use Rattle.commit_journal.specs.declared.Drawn.{Drawn}
use Rattle.dp_messages.specs.declared.replies.Reply.TheVariants as reply
use Rattle.dp_messages.specs.declared.requests.Ask.{Ask}
use Rattle.dp_messages.specs.declared.requests.Ask.TheVariants as ask
use Rattle.dp_messages.specs.declared.requests.Request.{Request}
use Rattle.session_grammar.specs.declared.logs.Answer.{Answer}
use Rattle.session_grammar.specs.declared.logs.Answer.TheVariants.{Reply, PathFailed, Stamp}
use Rattle.session_grammar.specs.declared.logs.LogEntry.{LogEntry}
use Rattle.session_grammar.specs.declared.logs.LogEntry.TheVariants.{Asked, Drew}
use Rattle.session_grammar.specs.Follows.{AreEnds, ArePrepares, Attempt, Commits, InTurn, IsEnding, IsPart, Reads, entries_of, greatest_of, joined, touched}
use Rattle.session_grammar.specs.Plans.{Asker}
use Rattle.session_grammar.specs.Rows.{IsAsked}
use Rattle.run_record.specs.Legal.{drawn_in}
use Rattle.run_record.specs.Openings.{log_of}
use Rattle.run_record.specs.declared.records.RunRecord.{RunRecord}
use Rattle.record_laws.proofs.Attempts.{IsOwn, IsWork, attempts_counted, parts-work}
use Rattle.record_laws.specs.SoFar.{LegalSoFar}
use Rattle.session_grammar.specs.UnderWay.{UnderWay}
use Rattle.sql_base.proofs.ListFacts.{all-weaker, all_joined}

-- what an attempt draws: its own name, with the stamp that it committed with
abbrev DrawsAs : Asker → Attempt → LogEntry → Type 0
DrawsAs r a (Drew name floor (Stamp stamp)) = (name ≡ record { session = r.number; ordinal = a.ordinal }) × (a.outcome ≡ Committed stamp)
DrawsAs r a entry = Unit {0}

asked_draws : (r : Asker) (a : Attempt) (part : ℕ) (request : Request) (answer : Answer) (e : LogEntry) → IsAsked part request answer e → DrawsAs r a e
asked_draws r a part request answer (Asked p s q l w) h = tt
asked_draws r a part request answer (Drew n f w) h = absurd h

work_draws : (r : Asker) (a : Attempt) (e : LogEntry) → IsWork a.ordinal e → DrawsAs r a e
work_draws r a (Asked p s q l w) h = tt
work_draws r a (Drew n f w) h = absurd h

ends_draw : (r : Asker) (a : Attempt) (ordinal : ℕ) (x : Ask) (parts : List ℕ) (ends : List LogEntry) → AreEnds ordinal x parts ends → AllByRecursion (DrawsAs r a) ends
ends_draw r a ordinal x [] [] h = tt
ends_draw r a ordinal x [] (e ∷ es) h = absurd h
ends_draw r a ordinal x (part ∷ parts) [] h = absurd h
ends_draw r a ordinal x (part ∷ parts) (e ∷ es) h = (asked_draws r a part (record { ordinal = ordinal; ask = x }) (Reply reply.Done) e h.0, ends_draw r a ordinal x parts es h.1)

prepares_draw : (r : Asker) (a : Attempt) (ordinal : ℕ) (parts : List ℕ) (prepares : List LogEntry) (floors : List ℕ) → ArePrepares ordinal parts prepares floors → AllByRecursion (DrawsAs r a) prepares
prepares_draw r a ordinal parts [] floors h = tt
prepares_draw r a ordinal [] (e ∷ es) floors h = absurd h
prepares_draw r a ordinal (part ∷ parts) (e ∷ es) [] h = absurd h
prepares_draw r a ordinal (part ∷ parts) (e ∷ es) (floor ∷ floors) h =
    (asked_draws r a part (record { ordinal = ordinal; ask = ask.Prepare }) (Reply (reply.Floor floor)) e h.0, prepares_draw r a ordinal parts es floors h.1)

ending_draws : (r : Asker) (a : Attempt) (end : Option Abort) (commit : Bool) → IsEnding r a end commit → AllByRecursion (DrawsAs r a) a.ending
ending_draws r a (Some abort) commit h = ends_draw r a a.ordinal ask.EndUndo (touched r a) a.ending h.0
ending_draws r a None false h = ends_draw r a a.ordinal ask.EndUndo (touched r a) a.ending h.0
ending_draws r a None true (inl h) =
    let front = prepares_draw r a a.ordinal (touched r a) h.prepares h.floors h.prepared in
    let back = ends_draw r a a.ordinal (ask.EndCommit h.stamp) (touched r a) h.ends h.ended in
    subst (AllByRecursion (DrawsAs r a)) (sym h.ending_is) (all_joined (DrawsAs r a) h.prepares _ front ((refl, h.outcome_is), back))
ending_draws r a None true (inr h) =
    let front = prepares_draw r a a.ordinal h.front h.prepares h.floors h.prepared in
    let lost = asked_draws r a h.part (record { ordinal = a.ordinal; ask = ask.Prepare }) PathFailed h.lost h.lost_is in
    let back = ends_draw r a a.ordinal ask.EndUndo (touched r a) h.ends h.undone in
    subst (AllByRecursion (DrawsAs r a)) (sym h.ending_is) (all_joined (DrawsAs r a) h.prepares _ front (lost, back))

attempt_draws : (r : Asker) (a : Attempt) → IsOwn r a → AllByRecursion (DrawsAs r a) (entries_of a)
attempt_draws r a h =
    let p = h.parts_and_ending in
    all_joined (DrawsAs r a) (joined a.parts) a.ending (all-weaker (IsWork a.ordinal) (DrawsAs r a) (work_draws r a) (joined a.parts) (parts-work r a.ordinal a.work.statements a.parts p.0 p.1))
    (ending_draws r a p.0 a.work.commit p.2)

-- each stamp of a log is that of one of its attempts
abbrev pub IsDrawnBy : Asker → List Attempt → Drawn → Type 0
IsDrawnBy r attempts d = (a : Attempt) × Contains attempts a × (d.name ≡ record { session = r.number; ordinal = a.ordinal }) × (a.outcome ≡ Committed d.stamp)

abbrev DrawsOf : Asker → List Attempt → LogEntry → Type 0
DrawsOf r attempts (Drew name floor (Stamp stamp)) = IsDrawnBy r attempts (record { name = name; floor = floor; stamp = stamp })
DrawsOf r attempts entry = Unit {0}

draws_of : (r : Asker) (attempts : List Attempt) (a : Attempt) → Contains attempts a → (e : LogEntry) → DrawsAs r a e → DrawsOf r attempts e
draws_of r attempts a within (Asked p s q l w) h = tt
draws_of r attempts a within (Drew n f (Reply x)) h = tt
draws_of r attempts a within (Drew n f PathFailed) h = tt
draws_of r attempts a within (Drew n f (Stamp stamp)) h = (a, within, h.0, h.1)

all_draw : (r : Asker) (all attempts : List Attempt) → ((a : Attempt) → Contains attempts a → Contains all a) → AllByRecursion (IsOwn r) attempts → AllByRecursion (DrawsOf r all) (flat_map entries_of attempts)
all_draw r all [] to own = tt
all_draw r all (a ∷ attempts) to own =
    all_joined (DrawsOf r all) (entries_of a) (flat_map entries_of attempts)
    (all-weaker (DrawsAs r a) (DrawsOf r all) (draws_of r all a (to a (zero, omega arith, refl))) (entries_of a) (attempt_draws r a own.0))
    (all_draw r all attempts (λ b h. to b (suc h.0, omega (arith, h.1), h.2)) own.1)

drawn_all : (r : Asker) (attempts : List Attempt) (log : List LogEntry) → AllByRecursion (DrawsOf r attempts) log → AllByRecursion (IsDrawnBy r attempts) (drawn_in log)
drawn_all r attempts [] h = tt
drawn_all r attempts (Asked p s q l w ∷ log) h = drawn_all r attempts log h.1
drawn_all r attempts (Drew n f (Reply x) ∷ log) h = drawn_all r attempts log h.1
drawn_all r attempts (Drew n f PathFailed ∷ log) h = drawn_all r attempts log h.1
drawn_all r attempts (Drew n f (Stamp stamp) ∷ log) h = (h.0, drawn_all r attempts log h.1)

pub drawn_by : (r : Asker) (works : List Work) (log : List LogEntry) (attempts : List Attempt) → Reads IsPart r works log attempts → AllByRecursion (IsDrawnBy r attempts) (drawn_in log)
drawn_by r works log attempts reads =
    let own = (attempts_counted r 1 works attempts reads.attempts_are).1 in
    drawn_all r attempts log (subst (AllByRecursion (DrawsOf r attempts)) (sym reads.entries) (all_draw r attempts attempts (λ a h. h) own))

-- what a part of a log draws, the log draws
drawn_back : (xs ys : List LogEntry) (d : Drawn) → Contains (drawn_in ys) d → Contains (drawn_in (xs ++ ys)) d
drawn_back [] ys d h = h
drawn_back (Asked p s q l v ∷ xs) ys d h = drawn_back xs ys d h
drawn_back (Drew n f (Reply x) ∷ xs) ys d h = drawn_back xs ys d h
drawn_back (Drew n f PathFailed ∷ xs) ys d h = drawn_back xs ys d h
drawn_back (Drew n f (Stamp stamp) ∷ xs) ys d h = let rest = drawn_back xs ys d h in (suc rest.0, omega (arith, rest.1), rest.2)

drawn_front : (xs ys : List LogEntry) (d : Drawn) (k : ℕ) → k < length (drawn_in xs) → get_or (drawn_in xs) k d ≡ d → Contains (drawn_in (xs ++ ys)) d
drawn_front [] ys d k lt is = absurd (omega (arith, lt))
drawn_front (Asked p s q l v ∷ xs) ys d k lt is = drawn_front xs ys d k lt is
drawn_front (Drew n f (Reply x) ∷ xs) ys d k lt is = drawn_front xs ys d k lt is
drawn_front (Drew n f PathFailed ∷ xs) ys d k lt is = drawn_front xs ys d k lt is
drawn_front (Drew n f (Stamp stamp) ∷ xs) ys d zero lt is = (zero, omega arith, is)
drawn_front (Drew n f (Stamp stamp) ∷ xs) ys d (suc k) lt is = let rest = drawn_front xs ys d k (omega (arith, lt)) is in (suc rest.0, omega (arith, rest.1), rest.2)

-- the commit of an attempt is drawn in the log
abbrev pub its_draw : (r : Asker) (a : Attempt) → Commits r a → Drawn
its_draw r a c = record { name = record { session = r.number; ordinal = a.ordinal }; floor = greatest_of c.floors; stamp = c.stamp }

attempt_draw : (r : Asker) (a : Attempt) (c : Commits r a) → Contains (drawn_in (entries_of a)) (its_draw r a c)
attempt_draw r a c =
    let first : Contains (its_draw r a c ∷ drawn_in c.ends) (its_draw r a c) = (zero, omega arith, refl) in
    let ending = drawn_back c.prepares (Drew (record { session = r.number; ordinal = a.ordinal }) (greatest_of c.floors) (Stamp c.stamp) ∷ c.ends) (its_draw r a c) first in
    drawn_back (joined a.parts) a.ending (its_draw r a c) (subst (λ (es : List LogEntry). Contains (drawn_in es) (its_draw r a c)) (sym c.ending_is) ending)

pub reads_draw : (r : Asker) (a : Attempt) (attempts : List Attempt) (w : InTurn (IsPart r a.ordinal) a.work.statements a.parts None × Commits r a) (k : ℕ) → k < length attempts → get_or attempts k a ≡ a
    → Contains (drawn_in (flat_map entries_of attempts)) (its_draw r a w.1)
reads_draw r a [] w k lt is = absurd (omega (arith, lt))
reads_draw r a (b ∷ attempts) w zero lt is =
    let own = subst (λ (x : Attempt). Contains (drawn_in (entries_of x)) (its_draw r a w.1)) (sym is) (attempt_draw r a w.1) in
    drawn_front (entries_of b) (flat_map entries_of attempts) (its_draw r a w.1) own.0 own.1 own.2
reads_draw r a (b ∷ attempts) w (suc k) lt is = drawn_back (entries_of b) (flat_map entries_of attempts) (its_draw r a w.1) (reads_draw r a attempts w k (omega (arith, lt)) is)

pub all_parts : {X : Type 0} (P : List X → Type 0) (xs : List (List X)) → ((k : ℕ) → k < length xs → P (unwrap_or (slice_get xs k) [])) → AllByRecursion P xs
all_parts P [] to = tt
all_parts P (x ∷ xs) to = (to zero (omega arith), all_parts P xs (λ k lt. to (suc k) (omega (arith, lt))))

-- what some log draws is drawn by that of a session
pub drawn_where : (script : Script) (kept : RunRecord) (ways : List UnderWay) → LegalSoFar script kept ways → (d : Drawn) (session : ℕ) → Contains (drawn_in (log_of kept session)) d
    → (s : ℕ) × Lies 1 (length script.sessions) s × Contains (drawn_in (log_of kept s)) d
drawn_where script kept ways legal d zero h = (1, (omega arith, legal.script_runs.some_sessions.0), h)
drawn_where script kept ways legal d (suc n) h = elim (cases_lt (length script.sessions) (suc n)) [ inl above ↦ past above | inr below ↦ (suc n, (omega arith, below), h) ]
  where
    past : length script.sessions < suc n → (s : ℕ) × Lies 1 (length script.sessions) s × Contains (drawn_in (log_of kept s)) d
    past above =
        let none : slice_get kept.logs (suc n - 1) ≡ None = slice_get_past kept.logs (suc n - 1) (omega (arith, above, legal.logs_begin.logs)) in
        let empty : log_of kept (suc n) ≡ [] = ap (λ (log : Option (List LogEntry)). unwrap_or log []) none in
        let in_none = subst (λ (log : List LogEntry). Contains (drawn_in log) d) empty h in
        absurd (omega (arith, in_none.1))
