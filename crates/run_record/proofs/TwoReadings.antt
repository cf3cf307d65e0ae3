-- Each log of the two sessions has just one reading.
use Rattle.std.proofs.Common.{◌≡◌, ℕ, zero, suc, List, [], ◌∷◌, ◌++◌, Option, Some, None, true, refl, ap, sym, ◌∙◌, subst, inl, inr}
use Rattle.std.specs.Prelude.{flat_map}
use Rattle.std.proofs.lemmas.List.{append-nil}
use Rattle.sql_base.specs.declared.outcomes.Abort.{Abort}
use Rattle.sql_base.specs.declared.outcomes.Outcome.{Outcome}
use Rattle.sql_base.specs.declared.outcomes.Outcome.TheVariants.{Committed}
use Rattle.sql_base.specs.declared.scripts.Work.{Work}
use Rattle.sql_base.specs.declared.statements.Statement.TheVariants.{Insert}
use Rattle.dp_messages.specs.declared.replies.Reply.TheVariants as reply
use Rattle.dp_messages.specs.declared.requests.Ask.TheVariants.{Prepare, EndCommit, EndUndo}
use Rattle.dp_messages.specs.declared.requests.Ask.TheVariants as ask
use Rattle.dp_messages.specs.declared.requests.Request.{Request}
use Rattle.session_grammar.proofs.LogLists.{one_of}
use Rattle.session_grammar.proofs.ScanReadings.{only_reading}
use Rattle.session_grammar.specs.Follows.{ArePrepares, AreTries, Attempt, IsAttempt, IsEnding, IsPart, IsSingle, Reads, entries_of, greatest_of, joined, asker, works_of}
use Rattle.session_grammar.specs.Plans.{Asker}
use Rattle.session_grammar.specs.Rows.{IsAsked, IsExchange}
use Rattle.session_grammar.specs.declared.logs.Answer.{Answer}
use Rattle.session_grammar.specs.declared.logs.Answer.TheVariants.{Reply, PathFailed, Stamp}
use Rattle.session_grammar.specs.declared.logs.LogEntry.{LogEntry}
use Rattle.session_grammar.specs.declared.logs.LogEntry.TheVariants.{Drew}
use Rattle.run_record.specs.Openings.{log_of}
use Rattle.run_record.proofs.TwoSessions.{all_four, asked, both, inserting, kept, name, reader, row, scan, script, writer}

-- the one reading of the reader's log
pub reader_read : (attempts : List Attempt) → Reads IsPart (asker script 1) (works_of script 1) (log_of kept 1) attempts → attempts ≡ reader ∷ []
reader_read attempts reads =
    only_reading (asker script 1) refl (asked 1 scan all_four ∷ []) (asked 2 ask.Prepare (reply.Floor 1)) (asked 3 (ask.EndCommit 2) reply.Done) (name 1) 1 2 (tt, tt) tt attempts reads

-- the writer's first entry, and what ended it
abbrev inserted : LogEntry
inserted = asked 1 (ask.Insert (both 9)) reply.Done

abbrev its_ending : List LogEntry
its_ending = asked 2 ask.Prepare (reply.Floor 0) ∷ Drew (name 2) 0 (Stamp 1) ∷ asked 3 (ask.EndCommit 1) reply.Done ∷ []

-- the row of a request that was done is one entry
row_is : (patience part : ℕ) (request : Request) (answer : Answer) (row rest : List LogEntry) → row ++ rest ≡ inserted ∷ its_ending → IsExchange patience part request row answer → row ≡ inserted ∷ []
row_is patience part request answer [] rest is h = absurd h
row_is patience part request answer (e ∷ []) rest is h = let first : e ≡ inserted = cc in cc
row_is zero part request answer (e ∷ f ∷ es) rest is h = absurd h
row_is (suc patience) part request answer (e ∷ f ∷ es) rest is h =
    let first : e ≡ inserted = cc in
    let locked = subst (IsAsked part request (Reply (reply.Locked h.0.0))) first h.0.1 in
    absurd (cc (locked.2))

-- the part of the INSERT is that row
part_is : (part rest : List LogEntry) (end : Option Abort) → part ++ rest ≡ inserted ∷ its_ending → IsPart (asker script 2) 1 (Insert 0 (row 9)) part end → part ≡ inserted ∷ []
part_is part rest end is (inl h) =
    let one = one_of (IsSingle (asker script 2) 1) _ h.0 end h.2 in
    let same : part ≡ one.0 = h.1 ∙ ap joined one.1 ∙ append-nil one.0 in
    same ∙ row_is _ _ _ one.2.0 one.0 rest (ap (λ es. es ++ rest) (sym same) ∙ is) one.2.1
part_is part rest end is (inr h) = absurd h

-- a draw behind its Prepare drew the stamp 1
commits_with : (floor stamp : ℕ) (floors : List ℕ) (prepares ends : List LogEntry) → its_ending ≡ prepares ++ Drew (name 2) floor (Stamp stamp) ∷ ends
    → ArePrepares 1 (0 ∷ []) prepares floors → stamp ≡ 1
commits_with floor stamp floors [] ends is h = absurd (cc)
commits_with floor stamp floors (p ∷ []) ends is h = cc
commits_with floor stamp [] (p ∷ q ∷ ps) ends is h = absurd h
commits_with floor stamp (f ∷ fs) (p ∷ q ∷ ps) ends is h = absurd h.1

-- no Prepare lost its path
loses_none : (front back floors : List ℕ) (part : ℕ) (prepares ends : List LogEntry) (lost : LogEntry) → 0 ∷ [] ≡ front ++ part ∷ back → its_ending ≡ prepares ++ lost ∷ ends
    → ArePrepares 1 front prepares floors → IsAsked part (record { ordinal = 1; ask = ask.Prepare }) PathFailed lost → ⊥
loses_none (x ∷ []) back floors part prepares ends lost touched is h failed = cc
loses_none (x ∷ y ∷ xs) back floors part prepares ends lost touched is h failed = cc
loses_none [] back floors part (p ∷ ps) ends lost touched is h failed = h
loses_none [] back floors part [] ends lost touched is h failed =
    let first : lost ≡ asked 2 ask.Prepare (reply.Floor 0) = cc in
    let answered = subst (IsAsked part (record { ordinal = 1; ask = ask.Prepare }) PathFailed) first failed in
    cc (answered.2)

-- an attempt with the writer's entries
abbrev tried : Outcome → Attempt
tried outcome = record { work = inserting; ordinal = 1; parts = (inserted ∷ []) ∷ []; ending = its_ending; outcome = outcome }

-- it committed
outcome_is : (outcome : Outcome) (end : Option Abort) → IsEnding (asker script 2) (tried outcome) end true → outcome ≡ Committed 1
outcome_is outcome (Some abort) h = absurd h.0.1
outcome_is outcome None (inl h) = h.outcome_is ∙ ap Committed (commits_with (greatest_of h.floors) h.stamp h.floors h.prepares h.ends h.ending_is h.prepared)
outcome_is outcome None (inr h) = absurd (loses_none h.front h.back h.floors h.part h.prepares h.ends h.lost h.touched_is h.ending_is h.prepared h.lost_is)

-- where none may follow there is one attempt
one_try : (r : Asker) (work : Work) (ordinal : ℕ) (tries : List Attempt) → AreTries IsPart r work ordinal 0 tries → (a : Attempt) × (tries ≡ a ∷ []) × IsAttempt IsPart r work ordinal a
one_try r work ordinal [] h = absurd h
one_try r work ordinal (a ∷ []) h = (a, refl, h.0)
one_try r work ordinal (a ∷ b ∷ rest) h = absurd h

-- an attempt with its fields is that attempt
as_tried : (a : Attempt) → a.work ≡ inserting → a.ordinal ≡ 1 → a.parts ≡ (inserted ∷ []) ∷ [] → a.ending ≡ its_ending → a ≡ tried a.outcome
as_tried a work ordinal parts ending = λ i. record { work = work i; ordinal = ordinal i; parts = parts i; ending = ending i; outcome = a.outcome }

-- the one reading of the writer's log
pub writer_read : (attempts : List Attempt) → Reads IsPart (asker script 2) (works_of script 2) (log_of kept 2) attempts → attempts ≡ writer ∷ []
writer_read attempts reads =
    let r = asker script 2 in
    let are = reads.attempts_are in
    let one = one_try r inserting 1 are.0 are.3 in
    let a = one.0 in
    let only : attempts ≡ a ∷ [] = are.2 ∙ ap (λ rest. are.0 ++ rest) are.4 ∙ append-nil are.0 ∙ one.1 in
    let parts = one.2.parts_and_ending in
    let part = one_of (IsPart r 1) (Insert 0 (row 9)) a.parts parts.0 parts.1 in
    let first : joined a.parts ≡ part.0 = ap joined part.1 ∙ append-nil part.0 in
    let all : inserted ∷ its_ending ≡ entries_of a = reads.entries ∙ ap (flat_map entries_of) only ∙ append-nil (entries_of a) in
    let whole : part.0 ++ a.ending ≡ inserted ∷ its_ending = ap (λ es. es ++ a.ending) (sym first) ∙ sym all in
    let part_one = part_is part.0 a.ending parts.0 whole part.2 in
    let parts_are : a.parts ≡ (inserted ∷ []) ∷ [] = part.1 ∙ ap (λ (es : List LogEntry). es ∷ []) part_one in
    let rest : inserted ∷ a.ending ≡ inserted ∷ its_ending = ap (λ es. es ++ a.ending) (sym part_one) ∙ whole in
    let ending_is : a.ending ≡ its_ending = cc in
    let same : a ≡ tried a.outcome = as_tried a one.2.of_work one.2.numbered parts_are ending_is in
    let out : a.outcome ≡ Committed 1 = outcome_is a.outcome parts.0 (subst (λ x. IsEnding r x parts.0 true) same parts.2) in
    only ∙ ap (λ (x : Attempt). x ∷ []) (same ∙ ap tried out)
