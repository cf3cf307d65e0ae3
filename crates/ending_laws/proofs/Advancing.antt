-- The answer to a request under way, where it is a redrive, comes with a key that has fewer of the script's above it.
use Rattle.std.proofs.Common.{◌≡◌, ◌<◌, ℕ, List, [], ◌++◌, length, true, refl, sym, ◌∙◌, subst, arith}
use Rattle.std.specs.Prelude.{filter, Contains}
use Rattle.std.specs.List.{AllByRecursion}
use Rattle.std.proofs.lemmas.Bool.{eq-eqb, eqb-true}
use Rattle.std.proofs.lemmas.List.Elements.{filter-append}
use Rattle.sql_base.specs.Scripts.{Lies}
use Rattle.sql_base.specs.declared.scripts.Script.{Script}
use Rattle.dp_messages.specs.declared.replies.Reply.{Reply as PartitionReply}
use Rattle.dp_messages.specs.declared.replies.Reply.TheVariants as reply
use Rattle.dp_messages.specs.declared.requests.Ask.{Ask}
use Rattle.dp_messages.specs.declared.requests.Ask.TheVariants.{Continue}
use Rattle.dp_messages.specs.declared.requests.Request.{Request}
use Rattle.partition_state.specs.declared.entries.Entry.{Entry}
use Rattle.session_grammar.specs.Rows.{is_for}
use Rattle.session_grammar.specs.Sessions.{Sends}
use Rattle.session_grammar.specs.UnderWay.{AreAbove, Awaiting, IsAbove, Sending, UnderWay, unanswered}
use Rattle.session_grammar.specs.declared.logs.Answer.{Answer}
use Rattle.session_grammar.specs.declared.logs.Answer.TheVariants.{PathFailed, Reply, Stamp}
use Rattle.session_grammar.specs.declared.logs.LogEntry.{LogEntry}
use Rattle.session_grammar.specs.declared.logs.LogEntry.TheVariants.{Asked, Drew}
use Rattle.requester_fs.specs.Asking.{Advances, spare_of}
use Rattle.run_record.specs.Legal.{AreServed}
use Rattle.run_record.specs.Openings.{history_of, log_of, openings}
use Rattle.run_record.specs.declared.records.RunRecord.{RunRecord}
use Rattle.record_laws.specs.SoFar.{LegalSoFar, way_of}
use Rattle.record_laws.proofs.FitsSoFar.{zip_at}
use Rattle.record_laws.proofs.Served.{served_all}
use Rattle.record_laws.proofs.Sessions.{by_opener}
use Rattle.driver_laws.specs.Moves.{MayAnswer}
use Rattle.driver_laws.proofs.Openings.{open_for, the_open}
use Rattle.partition_state.specs.History.{IsLegal}
use Rattle.ending_laws.specs.Keys.{above_in, keys_count, keys_of_script}
use Rattle.ending_laws.specs.Laws.{FewAbove, KeysHeld, RedrivesAdvance}
use Rattle.ending_laws.proofs.Counts.{few-above, fewer-above, not-all-above}
use Rattle.ending_laws.proofs.Histories.{GoesOnward, kept-keys}
use Rattle.ending_laws.proofs.Members.{all_contained}
use Rattle.ending_laws.proofs.Redrives.{IsOnward}
use Rattle.sql_base.proofs.ListFacts.{all-weaker, all_in, all_joined, all_passed, all_through}

-- the request of this sync
abbrev IsOfSync : Sending → LogEntry → Type 0
IsOfSync s (Asked part sync request losses answer) = sync ≡ s.sync → request ≡ s.request
IsOfSync s (Drew name floor answer) = Unit {0}

abbrev AsksSo : Sending → Entry → Type 0
AsksSo s e = e.sync ≡ s.sync → e.request ≡ s.request

-- what was asked of the partition before has another sync
before-it : (s : Sending) (e : LogEntry) → IsAbove e s → is_for s.part e ≡ true → IsOfSync s e
before-it s (Asked part sync request losses answer) below here = λ same. let lt = below (eqb-true part s.part here) in absurd (omega (arith, lt, same))
before-it s (Drew name floor answer) below here = tt

module _ (script : Script) (kept : RunRecord) (ways : List UnderWay) (legal : LegalSoFar script kept ways) where
  module _ (session : ℕ) (lies : Lies 1 (length script.sessions) session) (sends : List Sending) (s : Sending) (is : way_of ways session ≡ Awaiting sends) (is_in : Contains sends s) (within : s.part < length kept.histories) where
    log-of_sync : AllByRecursion (IsOfSync s) (filter (is_for s.part) (log_of kept session ++ unanswered (Awaiting sends)))
    log-of_sync =
        let log = log_of kept session in
        let are : AreAbove log (Awaiting sends) = subst (AreAbove log) is (legal.logs_begin.each session lies).0 in
        let below = all_in (λ (x : Sending). AllByRecursion (λ e. IsAbove e x) log) s sends is_in are.0 in
        let front = all_through (is_for s.part) (IsOfSync s) log (all-weaker (λ e. IsAbove e s) (λ e. is_for s.part e ≡ true → IsOfSync s e) (before-it s) log below) in
        let alone = the_open log (Awaiting sends) s are is_in in
        subst (AllByRecursion (IsOfSync s)) (sym (filter-append (is_for s.part) log (unanswered (Awaiting sends))))
        (all_joined (IsOfSync s) (filter (is_for s.part) log) (open_for s.part (Awaiting sends)) front (subst (AllByRecursion (IsOfSync s)) (sym alone) ((λ same. refl), tt)))

    -- the entry of its sync is of the request itself
    same-request : (e : Entry) → Contains (history_of kept s.part) e → e.opener ≡ session → e.sync ≡ s.sync → e.request ≡ s.request
    same-request e in_history opened sync =
        let served = subst (λ (w : UnderWay). AreServed (filter (is_for s.part) (log_of kept session ++ unanswered w)) (filter (by_opener session) (history_of kept s.part))) is (legal.entries_asked.served s.part session within lies) in
        let each = served_all (IsOfSync s) (AsksSo s) (λ p x q l w f of y same. y.1 ∙ of (sym y.0 ∙ same)) (filter (is_for s.part) (log_of kept session ++ unanswered (Awaiting sends))) (filter (by_opener session) (history_of kept s.part)) log-of_sync served in
        all_in (λ (f : Entry). by_opener session f ≡ true → AsksSo s f) e (history_of kept s.part) in_history (all_passed (by_opener session) (AsksSo s) (history_of kept s.part) each) (eq-eqb e.opener session opened) sync

    advances : (losses : ℕ) (answer : Answer) → MayAnswer kept session s losses answer → Advances (above_in script) (keys_count script) (Sends s.part s.sync s.request) answer
    advances losses PathFailed may = tt
    advances losses (Stamp stamp) may = tt
    advances losses (Reply r) may = of_reply r may.4
      where
        onward : GoesOnward (Contains (keys_of_script script)) may.0
        onward =
            let found = zip_at IsLegal (openings script) kept.histories [] s.part legal.histories_replay within in
            all_in (GoesOnward (Contains (keys_of_script script))) may.0 (history_of kept s.part) may.1
            (kept-keys (Contains (keys_of_script script)) script (all_contained (keys_of_script script)) kept ways legal s.part within found.0 found.1).1

        by_ask : (ask : Ask) (last : List ℕ) → Contains (keys_of_script script) last → IsOnward ask last → above_in script last < spare_of (above_in script) (keys_count script) ask
        by_ask (Continue subset key) last has behind = fewer-above (keys_of_script script) key last behind has
        by_ask other last has behind = not-all-above (keys_of_script script) last has

        of_reply : (r : PartitionReply) → may.0.reply ≡ r → Advances (above_in script) (keys_count script) (Sends s.part s.sync s.request) (Reply r)
        of_reply (reply.Redrive n last cause rows changed) told =
            let on = onward n last cause rows changed told in
            let asks : IsOnward s.request.ask last = subst (λ (q : Request). IsOnward q.ask last) (same-request may.0 may.1 may.2 may.3) on.1 in
            by_ask s.request.ask last on.0 asks
        of_reply other told = tt

pub few_above : FewAbove
few_above script key = few-above (keys_of_script script) key

pub keys_held : KeysHeld
keys_held script kept ways legal part p within opens = (kept-keys (Contains (keys_of_script script)) script (all_contained (keys_of_script script)) kept ways legal part within p opens).0

pub redrives_advance : RedrivesAdvance
redrives_advance script kept ways legal session lies sends s losses answer is is_in within may = advances script kept ways legal session lies sends s is is_in within losses answer may
