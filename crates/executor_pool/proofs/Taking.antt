-- A session takes what came of its request or commit, or stops.
use Rattle.std.proofs.Common.{◌≡◌, ◌≤◌, ◌<◌, ◌+◌, ◌++◌, ◌∷◌, ℕ, List, [], map, replicate, Some, None, Bool, true, false, refl, ap, sym, ◌∙◌, subst, arith}
use Rattle.std.specs.Prelude.{◌||◌, nat_lt, if◌then◌else◌}
use Rattle.std.specs.List.{AllByRecursion}
use Rattle.std.proofs.lemmas.Bool.{ltb-true}
use Rattle.sql_base.specs.declared.lock_names.TxnName.{TxnName}
use Rattle.sql_base.specs.declared.scripts.Script.{Script}
use Rattle.dp_messages.specs.declared.replies.Reply.{Reply as PartitionReply}
use Rattle.dp_messages.specs.declared.requests.Request.{Request}
use Rattle.session_grammar.specs.Rows.{fits, is_end}
use Rattle.session_grammar.specs.Sessions.{Draws, MayCome, Next, Sends, entries_kept, fits_next}
use Rattle.session_grammar.specs.declared.logs.Answer.{Answer}
use Rattle.session_grammar.specs.declared.logs.Answer.TheVariants.{PathFailed, Reply, Stamp}
use Rattle.session_grammar.specs.declared.logs.LogEntry.{LogEntry}
use Rattle.session_grammar.specs.declared.logs.LogEntry.TheVariants.{Asked, Drew}
use Rattle.driver_laws.specs.Carrying.{Telling}
use Rattle.turn_lock.specs.Pass.{LockId}
use Rattle.executor_pool.specs.Jobs.{HasHeard, JournalPass, KeepsJournal, Refuses}
use Rattle.executor_pool.specs.Sessions.{HasDrawn, HearsAt, IsAnswered, IsAwaited, IsHeard, IsLost, IsSameSession, IsSession, IsTold, MayBeLost, Session, StillCommits, TellsOn, carried_now, lost_by, next_of}
use Rattle.executor_pool.specs.declared.processes.DiskProcess.{DiskProcess}
use Rattle.executor_pool.specs.declared.sessions.Stop.TheVariants.{Misfit, Passed, Refused}
use Rattle.executor_pool.specs.declared.tokens.Heard.TheVariants as heard
use Rattle.executor_pool.proofs.Answered.{answered_goes, drawing_is, draws_nothing, draws_one}
use Rattle.executor_pool.proofs.Sends.{stopped_goes, under_way}
use Rattle.executor_pool.proofs.Stepping.{commits_still, tokens_still}
use Rattle.executor_pool.proofs.Told.{one_more, told_drawn, told_failed, told_replied}

-- a request is under way
module _ (s : Session) (part sync : ℕ) (request : Request) (next : next_of s ≡ Sends part sync request) where
  -- what its answer adds to the log
  log_sent : (answer : Answer) (losses : ℕ) (b : Session) → b.asking.log ≡ s.asking.log ++ entries_kept (next_of s) answer losses → b.asking.log ≡ s.asking.log ++ Asked part sync request losses answer ∷ []
  log_sent answer losses b is = subst (λ (n : Next). b.asking.log ≡ s.asking.log ++ entries_kept n answer losses) next is

-- what a session heard at a partition is the reply to its request
pub is_heard : (s : Session) (part sync : ℕ) (r : PartitionReply) → IsAwaited s part sync → HearsAt s.tokens part s.number sync (heard.Reply r) → IsHeard s r
is_heard s part sync r awaits h =
    record { part = part; sync = sync; awaits = awaits; spelled = h.2.0; e = h.2.1; has_seen = (h.0, h.1, h.2.2, h.2.3); same_sync = h.2.4; reply_is = h.2.5 }

-- what the wire told, once nothing is left of what was under way
answered_told : (told now : Telling) (b : Session) (log : List LogEntry) → b.losses ≡ 0 → b.asking.log ≡ log → IsTold told now [] log → IsTold told now (replicate b.losses true) b.asking.log
answered_told told now b log none same h =
    subst (λ (n : ℕ). IsTold told now (replicate n true) b.asking.log) (sym none) (subst (λ (es : List LogEntry). IsTold told now [] es) (sym same) h)

pub reply_told : (s : Session) (r : PartitionReply) (b : Session) → IsHeard s r → IsAnswered (Reply r) s b → TellsOn (replicate s.losses true ++ carried_now s.losses) s b
reply_told s r b h answered told now is_told still =
    let request = h.awaits.0 in
    let log = log_sent s h.part h.sync request h.awaits.1 (Reply r) s.losses b answered.in_order in
    answered_told told now b (s.asking.log ++ Asked h.part h.sync request s.losses (Reply r) ∷ []) (ap (λ (c : Session). c.losses) answered.rest) log (told_replied told now s.asking.log h.part h.sync request s.losses r is_told)

pub lost_told : (s : Session) (part sync : ℕ) (request : Request) (ends : Bool) (b : Session) → next_of s ≡ Sends part sync request → IsLost ends s b → TellsOn (replicate s.losses true ++ true ∷ []) s b
lost_told s part sync request ends b next lost told now is_told still = by_test (nat_lt (s.losses + 1) 4 || ends) lost
  where
    once_more : IsTold told now (replicate (s.losses + 1) true) s.asking.log
    once_more = subst (λ (bs : List Bool). IsTold told now bs s.asking.log) (one_more s.losses) is_told

    by_test : (test : Bool) → lost_by test s b → IsTold told now (replicate b.losses true) b.asking.log
    by_test true h = subst (λ (c : Session). IsTold told now (replicate c.losses true) c.asking.log) (sym h) once_more
    by_test false h =
        let log = log_sent s part sync request next PathFailed (s.losses + 1) b h.in_order in
        answered_told told now b (s.asking.log ++ Asked part sync request (s.losses + 1) PathFailed ∷ []) (ap (λ (c : Session). c.losses) h.rest) log (told_failed told now s.asking.log part sync request (s.losses + 1) once_more)

module _ (script : Script) (processes : List DiskProcess) (journal : LockId) (s : Session) (is : IsSession script processes journal s) where
  -- a later request of its own was served
  pub passed_goes : (part sync : ℕ) → IsAwaited s part sync → HearsAt s.tokens part s.number sync heard.Passed → IsSession script processes journal (record s { stop = Some Passed }) × IsSameSession s (record s { stop = Some Passed })
  passed_goes part sync awaits h =
      let open_is = (under_way s.asking part sync awaits.0 is.work.asking awaits.1).is_open in
      let seen = subst (λ (n : ℕ). h.2.0.opener ≡ n) (sym is.work.number_is) h.2.2 in
      stopped_goes script processes journal s is Passed (record { part = part; sync = sync; request = awaits.0 }, h.2.0, open_is, (h.0, h.1, h.2.1, seen), h.2.3)

  -- the reply to its request doesn't fit
  pub misfit_goes : (r : PartitionReply) → IsHeard s r → fits_next (next_of s) r ≡ false → IsSession script processes journal (record s { stop = Some Misfit }) × IsSameSession s (record s { stop = Some Misfit })
  misfit_goes r h misfit =
      let request = h.awaits.0 in
      let open_is = (under_way s.asking h.part h.sync request is.work.asking h.awaits.1).is_open in
      let seen = subst (λ (n : ℕ). h.e.opener ≡ n) (sym is.work.number_is) h.has_seen.3 in
      let not_fit : fits request.ask r ≡ false = subst (λ (n : Next). fits_next n r ≡ false) h.awaits.1 misfit in
      stopped_goes script processes journal s is Misfit (record { part = h.part; sync = h.sync; request = request }, h.e, open_is, (h.has_seen.0, h.has_seen.1, h.has_seen.2, seen), h.same_sync, ap (fits request.ask) h.reply_is ∙ not_fit)

  -- the journal refuses its commit
  pub refused_goes : (name : TxnName) (floor : ℕ) (commits : JournalPass) → next_of s ≡ Draws name floor → StillCommits s.commits commits → commits.mine ≡ s.commits.mine → Refuses commits.seen name floor → s.stop ≡ None
      → IsSession script processes journal (record s { commits = commits; stop = Some Refused }) × IsSameSession s (record s { commits = commits; stop = Some Refused })
  refused_goes name floor commits next on mine refuses going =
      let with_commits : IsSession script processes journal (record s { commits = commits }) = record {
        work = record {
          script_is = is.work.script_is;
          number_is = is.work.number_is;
          asking = is.work.asking;
          heard = is.work.heard;
          parts = is.work.parts;
          draws = ap (map (λ placed. placed.1)) mine ∙ is.work.draws;
        };
        one = is.one;
        of_parts = is.of_parts;
        parts = is.parts;
        journal_is = (on.lock ∙ is.journal_is.0, on.idle);
        losses = is.losses;
        stops = λ stop has. absurd (let both : None ≡ Some stop = sym going ∙ has in cc both);
      } in
      let stopped = stopped_goes script processes journal (record s { commits = commits }) with_commits Refused (name, floor, drawing_is s.asking.way name floor next, refuses) in
      (stopped.0, record { number = refl; tokens = stopped.1.tokens; commits = on })

  module _ (going : s.stop ≡ None) where
    -- a request under way is lost four times only where it is an End
    few : (part sync : ℕ) (request : Request) → next_of s ≡ Sends part sync request → (s.losses ≤ 4) × (is_end request.ask ≡ false → s.losses ≤ 3)
    few part sync request next = subst (MayBeLost s.losses) next (is.losses going)

    taken_goes : (answer : Answer) (losses : ℕ) (commits : JournalPass) (b : Session) → StillCommits s.commits commits → IsAnswered answer (record s { losses = losses; commits = commits }) b
        → AllByRecursion (HasHeard s.number s.tokens) (entries_kept (next_of s) answer losses) → KeepsJournal b.asking.log commits → IsSession script processes journal b × IsSameSession s b
    taken_goes answer losses commits b on h heard drawn =
        subst (λ (c : Session). IsSession script processes journal c × IsSameSession s c) (sym h.rest) (answered_goes script processes journal s is going losses b.asking answer h.same h.taken h.asking h.one h.in_order heard commits on drawn)

    -- the reply may come
    pub reply_comes : (r : PartitionReply) → IsHeard s r → fits_next (next_of s) r ≡ true → MayCome (next_of s) (Reply r) s.losses
    reply_comes r h fit =
        let request = h.awaits.0 in
        let may = few h.part h.sync request h.awaits.1 in
        let fit_it : fits request.ask r ≡ true = subst (λ (n : Next). fits_next n r ≡ true) h.awaits.1 fit in
        subst (λ (n : Next). MayCome n (Reply r) s.losses) (sym h.awaits.1) (at_most (is_end request.ask) may.0 may.1, fit_it)
      where
        at_most : (ends : Bool) → s.losses ≤ 4 → (ends ≡ false → s.losses ≤ 3) → s.losses ≤ (if ends then 4 else 3)
        at_most true all some = all
        at_most false all some = some refl

    pub reply_goes : (r : PartitionReply) (b : Session) → IsHeard s r → IsAnswered (Reply r) s b → IsSession script processes journal b × IsSameSession s b
    reply_goes r b h answered =
        let request = h.awaits.0 in
        let next = h.awaits.1 in
        let log = log_sent s h.part h.sync request next (Reply r) s.losses b answered.in_order in
        let heard = subst (λ (n : Next). AllByRecursion (HasHeard s.number s.tokens) (entries_kept n (Reply r) s.losses)) (sym next) ((h.e, h.has_seen, h.same_sync, h.reply_is), tt) in
        let draws = subst (λ (es : List LogEntry). KeepsJournal es s.commits) (sym log) (draws_nothing s.asking.log h.part h.sync request s.losses (Reply r) s.commits is.work.draws) in
        taken_goes (Reply r) s.losses s.commits b (commits_still s.commits is.journal_is.1) answered heard draws

    -- its path failed
    failed_goes : (part sync : ℕ) (request : Request) (losses : ℕ) (b : Session) → next_of s ≡ Sends part sync request → IsAnswered PathFailed (record s { losses = losses }) b → IsSession script processes journal b × IsSameSession s b
    failed_goes part sync request losses b next answered =
        let log = log_sent s part sync request next PathFailed losses b answered.in_order in
        let heard = subst (λ (n : Next). AllByRecursion (HasHeard s.number s.tokens) (entries_kept n PathFailed losses)) (sym next) (tt, tt) in
        let draws = subst (λ (es : List LogEntry). KeepsJournal es s.commits) (sym log) (draws_nothing s.asking.log part sync request losses PathFailed s.commits is.work.draws) in
        taken_goes PathFailed losses s.commits b (commits_still s.commits is.journal_is.1) answered heard draws

    -- its request was lost once more
    pub lost_goes : (part sync : ℕ) (request : Request) (b : Session) → next_of s ≡ Sends part sync request → s.losses < 4 → IsLost (is_end request.ask) s b → IsSession script processes journal b × IsSameSession s b
    lost_goes part sync request b next below lost = by_test (nat_lt (s.losses + 1) 4 || is_end request.ask) refl lost
      where
        count : (ends : Bool) → (nat_lt (s.losses + 1) 4 || ends) ≡ true → (s.losses + 1 ≤ 4) × (ends ≡ false → s.losses + 1 ≤ 3)
        count true test = (omega (arith, below), λ same. absurd (cc same))
        count false test = (omega (arith, below), λ same. lt_of (nat_lt (s.losses + 1) 4) refl test)
          where
            lt_of : (b : Bool) → nat_lt (s.losses + 1) 4 ≡ b → (b || false) ≡ true → s.losses + 1 ≤ 3
            lt_of true is_lt t = omega (arith, ltb-true (s.losses + 1) 4 is_lt)
            lt_of false is_lt t = absurd (cc t)

        counted : (nat_lt (s.losses + 1) 4 || is_end request.ask) ≡ true → IsSession script processes journal (record s { losses = s.losses + 1 }) × IsSameSession s (record s { losses = s.losses + 1 })
        counted test = (
          record {
            work = is.work;
            one = is.one;
            of_parts = is.of_parts;
            parts = is.parts;
            journal_is = is.journal_is;
            losses = λ still. subst (MayBeLost (s.losses + 1)) (sym next) (count (is_end request.ask) test);
            stops = is.stops;
          },
          record { number = refl; tokens = tokens_still processes s.tokens is.of_parts; commits = commits_still s.commits is.journal_is.1 },
        )

        by_test : (test : Bool) → (nat_lt (s.losses + 1) 4 || is_end request.ask) ≡ test → lost_by test s b → IsSession script processes journal b × IsSameSession s b
        by_test true test h = subst (λ (c : Session). IsSession script processes journal c × IsSameSession s c) (sym h) (counted test)
        by_test false test h = failed_goes part sync request (s.losses + 1) b next h

    -- its commit is drawn
    pub drawn_goes : (name : TxnName) (floor stamp : ℕ) (commits : JournalPass) (b : Session) → next_of s ≡ Draws name floor → StillCommits s.commits commits → HasDrawn name floor stamp s.commits commits
        → IsAnswered (Stamp stamp) (record s { commits = commits }) b → IsSession script processes journal b × IsSameSession s b
    drawn_goes name floor stamp commits b next on drew answered =
        let log : b.asking.log ≡ s.asking.log ++ Drew name floor (Stamp stamp) ∷ [] = subst (λ (n : Next). b.asking.log ≡ s.asking.log ++ entries_kept n (Stamp stamp) s.losses) next answered.in_order in
        let heard = subst (λ (n : Next). AllByRecursion (HasHeard s.number s.tokens) (entries_kept n (Stamp stamp) s.losses)) (sym next) (tt, tt) in
        let draws = subst (λ (es : List LogEntry). KeepsJournal es commits) (sym log) (draws_one s.asking.log name floor stamp s.commits commits is.work.draws drew) in
        taken_goes (Stamp stamp) s.losses commits b on answered heard draws

    -- of a commit the wire tells nothing
    pub drawn_told : (name : TxnName) (floor stamp : ℕ) (commits : JournalPass) (b : Session) → next_of s ≡ Draws name floor → IsAnswered (Stamp stamp) (record s { commits = commits }) b → TellsOn (replicate s.losses true) s b
    drawn_told name floor stamp commits b next answered told now is_told still =
        let log : b.asking.log ≡ s.asking.log ++ Drew name floor (Stamp stamp) ∷ [] = subst (λ (n : Next). b.asking.log ≡ s.asking.log ++ entries_kept n (Stamp stamp) s.losses) next answered.in_order in
        let none : s.losses ≡ 0 = subst (MayBeLost s.losses) next (is.losses going) in
        let behind = told_drawn told now (replicate s.losses true) s.asking.log name floor (Stamp stamp) is_told in
        answered_told told now b (s.asking.log ++ Drew name floor (Stamp stamp) ∷ []) (ap (λ (c : Session). c.losses) answered.rest) log (subst (λ (n : ℕ). IsTold told now (replicate n true) (s.asking.log ++ Drew name floor (Stamp stamp) ∷ [])) none behind)
