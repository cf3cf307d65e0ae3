-- What holds of all that plans ask, and of what ends attempts, holds of all that a log asks.
use Rattle.std.proofs.Common.{ℕ, zero, suc, ◌++◌, List, [], ◌∷◌, Option, Some, None, Bool, true, false, sym, subst, inl, inr}
use Rattle.std.specs.Prelude.{flat_map}
use Rattle.std.specs.List.{AllByRecursion, AllZip}
use Rattle.sql_base.specs.declared.outcomes.Abort.{Abort}
use Rattle.sql_base.specs.declared.scripts.Work.{Work}
use Rattle.sql_base.specs.declared.statements.Statement.{Statement}
use Rattle.dp_messages.specs.declared.replies.Reply.TheVariants as reply
use Rattle.dp_messages.specs.declared.requests.Ask.{Ask}
use Rattle.dp_messages.specs.declared.requests.Ask.TheVariants.{Continue, Prepare, EndCommit, EndUndo}
use Rattle.dp_messages.specs.declared.requests.Request.{Request}
use Rattle.session_grammar.specs.declared.logs.Answer.{Answer}
use Rattle.session_grammar.specs.declared.logs.Answer.TheVariants.{Reply, PathFailed, Stamp}
use Rattle.session_grammar.specs.declared.logs.LogEntry.{LogEntry}
use Rattle.session_grammar.specs.declared.logs.LogEntry.TheVariants.{Asked, Drew}
use Rattle.session_grammar.specs.Follows.{AreEnds, ArePrepares, Attempt, InTurn, IsEnding, IsPart, Reads, entries_of, joined, touched}
use Rattle.session_grammar.specs.Plans.{Asker, plan_of, sents_of}
use Rattle.session_grammar.specs.Rows.{IsAsked, IsExchange}
use Rattle.session_grammar.specs.UnderWay.{Awaiting, Drawing, IsAnswered, IsWith, Sending, UnderWay, unanswered}
use Rattle.session_grammar.specs.declared.plans.Sent.{Sent}
use Rattle.record_laws.proofs.Attempts.{IsOwn, attempts_counted}
use Rattle.record_laws.proofs.Completing.{merged_first}
use Rattle.record_laws.proofs.Parts.{part-all, turns-all}
use Rattle.record_laws.proofs.Suiting.{attempts_of}
use Rattle.record_laws.proofs.Counting.{merged_second}
use Rattle.sql_base.proofs.ListFacts.{all_joined, all_left, all_right}

module _ (S : ℕ → Ask → Type 0) where
  abbrev pub IsSo : LogEntry → Type 0
  IsSo (Asked part sync request losses answer) = S part request.ask
  IsSo (Drew name floor answer) = Unit {0}

  abbrev pub PlanIsSo : Asker → Statement → Type 0
  PlanIsSo r statement = AllByRecursion (λ (sent : Sent). S sent.part sent.ask) (sents_of (plan_of r statement))

  -- what is under way is asked too
  sends-so : (sends : List Sending) (answered : List LogEntry) → AllZip IsAnswered sends answered → AllByRecursion IsSo answered → AllByRecursion IsSo (unanswered (Awaiting sends))
  sends-so [] [] h all = tt
  sends-so [] (e ∷ answered) h all = absurd h
  sends-so (s ∷ sends) [] h all = absurd h
  sends-so (s ∷ sends) (e ∷ answered) h all = (subst IsSo h.0.2 all.0, sends-so sends answered h.1 all.1)

  pub asked-so : (way : UnderWay) (log whole : List LogEntry) → IsWith way log whole → AllByRecursion IsSo whole → AllByRecursion IsSo (log ++ unanswered way)
  asked-so (Awaiting sends) log whole filled all =
      let parts = subst (AllByRecursion IsSo) filled.whole_is all in
      let front = all_left IsSo filled.front filled.back parts in
      let back = all_right IsSo filled.front filled.back parts in
      let tail = merged_first IsSo filled.tail filled.answered filled.back filled.merged back in
      let answered = merged_second IsSo filled.tail filled.answered filled.back filled.merged back in
      all_joined IsSo log (unanswered (Awaiting sends)) (subst (AllByRecursion IsSo) (sym filled.log_is) (all_joined IsSo filled.front filled.tail front tail)) (sends-so sends filled.answered filled.answers answered)
  asked-so (Drawing name floor) log whole drawn all =
      all_joined IsSo log [] (all_left IsSo log (Drew name floor (Stamp drawn.0) ∷ []) (subst (AllByRecursion IsSo) drawn.1 all)) tt

  module _ (goes_on : (part subset : ℕ) (last : List ℕ) → S part (Continue subset last)) (prepares : (part : ℕ) → S part Prepare) (commits : (part stamp : ℕ) → S part (EndCommit stamp)) (undoes : (part : ℕ) → S part EndUndo) where
    asked-one : (part : ℕ) (request : Request) (answer : Answer) (e : LogEntry) → S part request.ask → IsAsked part request answer e → IsSo e
    asked-one part request answer (Asked q sync other losses w) s h = subst (λ n. S n other.ask) (sym h.0) (subst (λ (y : Request). S part y.ask) (sym h.1) s)
    asked-one part request answer (Drew n f w) s h = tt

    row-so : (ordinal patience part : ℕ) (ask : Ask) (row : List LogEntry) (answer : Answer) → S part ask → IsExchange patience part (record { ordinal = ordinal; ask = ask }) row answer → AllByRecursion IsSo row
    row-so ordinal patience part ask [] answer s h = absurd h
    row-so ordinal patience part ask (e ∷ []) answer s h = (asked-one part (record { ordinal = ordinal; ask = ask }) answer e s h.0, tt)
    row-so ordinal zero part ask (e ∷ f ∷ es) answer s h = absurd h
    row-so ordinal (suc patience) part ask (e ∷ f ∷ es) answer s h =
        (asked-one part (record { ordinal = ordinal; ask = ask }) (Reply (reply.Locked h.0.0)) e s h.0.1, row-so ordinal patience part ask (f ∷ es) answer s h.1)

    parts-so : (r : Asker) (ordinal : ℕ) (statements : List Statement) (parts : List (List LogEntry)) (end : Option Abort) → AllByRecursion (PlanIsSo r) statements → InTurn (IsPart r ordinal) statements parts end
        → AllByRecursion IsSo (joined parts)
    parts-so r ordinal statements parts end plans h =
        turns-all (IsPart r ordinal) (PlanIsSo r) IsSo (λ e. Unit {0}) tt
        (λ statement list end' plan g x.
        part-all r ordinal S IsSo (λ e. Unit {0}) (λ part ask row answer s g' y. row-so ordinal r.limits.patience part ask row answer s y)
        (λ part subset ask last s. goes_on part subset last) tt (λ e some g' other. tt) statement list end' plan tt x)
        statements parts end plans tt h

    ends-so : (ordinal : ℕ) (ask : Ask) (parts : List ℕ) (ends : List LogEntry) → ((part : ℕ) → S part ask) → AreEnds ordinal ask parts ends → AllByRecursion IsSo ends
    ends-so ordinal ask [] [] s h = tt
    ends-so ordinal ask [] (e ∷ es) s h = absurd h
    ends-so ordinal ask (part ∷ parts) [] s h = absurd h
    ends-so ordinal ask (part ∷ parts) (e ∷ es) s h = (asked-one part (record { ordinal = ordinal; ask = ask }) (Reply reply.Done) e (s part) h.0, ends-so ordinal ask parts es s h.1)

    prepares-so : (ordinal : ℕ) (parts : List ℕ) (entries : List LogEntry) (floors : List ℕ) → ArePrepares ordinal parts entries floors → AllByRecursion IsSo entries
    prepares-so ordinal parts [] floors h = tt
    prepares-so ordinal [] (e ∷ es) floors h = absurd h
    prepares-so ordinal (part ∷ parts) (e ∷ es) [] h = absurd h
    prepares-so ordinal (part ∷ parts) (e ∷ es) (floor ∷ floors) h =
        (asked-one part (record { ordinal = ordinal; ask = Prepare }) (Reply (reply.Floor floor)) e (prepares part) h.0, prepares-so ordinal parts es floors h.1)

    ending-so : (r : Asker) (a : Attempt) (end : Option Abort) (commit : Bool) → IsEnding r a end commit → AllByRecursion IsSo a.ending
    ending-so r a (Some abort) commit h = ends-so a.ordinal EndUndo (touched r a) a.ending undoes h.0
    ending-so r a None false h = ends-so a.ordinal EndUndo (touched r a) a.ending undoes h.0
    ending-so r a None true (inl h) =
        let front = prepares-so a.ordinal (touched r a) h.prepares h.floors h.prepared in
        let back = ends-so a.ordinal (EndCommit h.stamp) (touched r a) h.ends (λ part. commits part h.stamp) h.ended in
        subst (AllByRecursion IsSo) (sym h.ending_is) (all_joined IsSo h.prepares _ front (tt, back))
    ending-so r a None true (inr h) =
        let front = prepares-so a.ordinal h.front h.prepares h.floors h.prepared in
        let lost = asked-one h.part (record { ordinal = a.ordinal; ask = Prepare }) PathFailed h.lost (prepares h.part) h.lost_is in
        let back = ends-so a.ordinal EndUndo (touched r a) h.ends undoes h.undone in
        subst (AllByRecursion IsSo) (sym h.ending_is) (all_joined IsSo h.prepares _ front (lost, back))

    attempts-so : (r : Asker) (attempts : List Attempt) → AllByRecursion (λ a. AllByRecursion (PlanIsSo r) a.work.statements) attempts → AllByRecursion (IsOwn r) attempts
        → AllByRecursion IsSo (flat_map entries_of attempts)
    attempts-so r [] plans own = tt
    attempts-so r (a ∷ attempts) plans own =
        let x = own.0.parts_and_ending in
        let this = all_joined IsSo (joined a.parts) a.ending (parts-so r a.ordinal a.work.statements a.parts x.0 plans.0 x.1) (ending-so r a x.0 a.work.commit x.2) in
        all_joined IsSo (entries_of a) (flat_map entries_of attempts) this (attempts-so r attempts plans.1 own.1)

    pub log-so : (r : Asker) (works : List Work) (log : List LogEntry) (attempts : List Attempt) → AllByRecursion (λ (w : Work). AllByRecursion (PlanIsSo r) w.statements) works → Reads IsPart r works log attempts
        → AllByRecursion IsSo log
    log-so r works log attempts plans reads =
        let own = attempts_counted r 1 works attempts reads.attempts_are in
        let of = attempts_of (λ (w : Work). AllByRecursion (PlanIsSo r) w.statements) r 1 works attempts plans reads.attempts_are in
        subst (AllByRecursion IsSo) (sym reads.entries) (attempts-so r attempts of own.1)
