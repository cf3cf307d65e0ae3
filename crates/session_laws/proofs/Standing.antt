-- Where its log has led a session: the log is the front of one that follows in line, and follows where the session is at its end.
use Rattle.std.proofs.Common.{◌≡◌, ℕ, ◌+◌, List, [], ◌∷◌, ◌++◌, refl, sym, subst}
use Rattle.std.specs.Prelude.{◌↔◌}
use Rattle.sql_base.specs.declared.scripts.Work.{Work}
use Rattle.session_grammar.specs.declared.logs.Answer.{Answer}
use Rattle.session_grammar.specs.declared.logs.Answer.TheVariants.{Stamp}
use Rattle.session_grammar.specs.declared.logs.LogEntry.{LogEntry}
use Rattle.session_grammar.specs.declared.logs.LogEntry.TheVariants.{Asked, Drew}
use Rattle.session_grammar.specs.Follows.{CountSyncs, FollowsInLine}
use Rattle.session_grammar.specs.Sessions.{sync_behind}
use Rattle.session_grammar.specs.Plans.{Asker}
use Rattle.session_grammar.specs.Sessions.{MayCome, entries_kept}
use Rattle.session_grammar.proofs.LogLists.{CountSyncs-append, CountSyncs-rest, syncs_front}
use Rattle.session_laws.specs.Scaffold.Machine.{Draw, Nothing, Over, Place, Send, Task, after, task_at, works_at}
use Rattle.session_laws.specs.Scaffold.Leading.{BeginsInLine, Does, Leads, Rest, StandsAt, next_behind, next_of}
use Rattle.session_laws.proofs.Attempts.{attempts_lead}
use Rattle.session_laws.proofs.Ending.{can_end}
use Rattle.session_laws.proofs.FoundAttempts.{attempts_found}
use Rattle.session_laws.proofs.Leading.{Leads-append, Leads-split, one_end}

module _ (r : Asker) (works : List Work) where
  -- a log follows in line just where it leads from the first place to the end
  pub follows-leads : (log : List LogEntry) → FollowsInLine r works log → StandsAt r works log Over
  follows-leads log h = record {
    syncs = h.1.syncs;
    led = subst (λ (es : List LogEntry). Leads r (works_at r 1 works) es Over) (sym h.1.entries) (attempts_lead r 1 works h.0 h.1.attempts_are);
  }

  pub leads-follows : (log : List LogEntry) → StandsAt r works log Over → FollowsInLine r works log
  leads-follows log h =
      let found = attempts_found r works 1 log h.led in
      (found.0, record { syncs = h.syncs; entries = found.1; attempts_are = found.2 })

  -- it is whole where the place is the end
  pub whole_where_over : (log : List LogEntry) (place : Place) → StandsAt r works log place → FollowsInLine r works log ↔ (place ≡ Over)
  whole_where_over log place h = (
    λ follows. one_end r log (works_at r 1 works) place Over h.led (follows-leads log follows).led,
    λ is. leads-follows log (subst (StandsAt r works log) is h),
  )

  -- it is a front of one that follows
  pub begins_where_led : (log : List LogEntry) (place : Place) → StandsAt r works log place → BeginsInLine r works log
  begins_where_led log place h =
      let more = can_end r place (sync_behind 1 log) in (
        more.rest,
        leads-follows (log ++ more.rest)
            (record { syncs = CountSyncs-append 1 log more.rest h.syncs more.syncs; led = Leads-append r log more.rest (works_at r 1 works) place Over h.led more.leads }),
      )

  -- and each front of one that follows leads to a place
  pub led_where_begins : (log : List LogEntry) → BeginsInLine r works log → (place : Place) × StandsAt r works log place
  led_where_begins log h =
      let whole = follows-leads (log ++ h.0) h.1 in
      let split = Leads-split r log h.0 (works_at r 1 works) Over whole.led in
      (split.0, record { syncs = syncs_front 1 log h.0 whole.syncs; led = split.1 })

  -- each answer that may come leads on
  goes : (sync : ℕ) (place : Place) (task : Task) (answer : Answer) (losses : ℕ) → task_at r place ≡ task → MayCome (next_of sync task) answer losses
      → CountSyncs sync (entries_kept (next_of sync task) answer losses) × Leads r place (entries_kept (next_of sync task) answer losses) (after r place answer)
  goes sync place (Send part request) answer losses opened may =
      ((refl, tt), (subst (λ task. Does task (Asked part sync request losses answer)) (sym opened) (refl, refl, may), refl))
  goes sync place (Draw name floor) (Stamp stamp) losses opened may = (tt, (subst (λ task. Does task (Drew name floor (Stamp stamp))) (sym opened) (refl, refl), refl))
  goes sync place (Draw name floor) answer losses opened may = absurd may
  goes sync place Nothing answer losses opened may = absurd may

  pub goes_on : (log : List LogEntry) (place : Place) (answer : Answer) (losses : ℕ) → StandsAt r works log place → MayCome (next_behind r log place) answer losses
      → StandsAt r works (log ++ entries_kept (next_behind r log place) answer losses) (after r place answer)
  goes_on log place answer losses h may =
      let kept = entries_kept (next_behind r log place) answer losses in
      let step = goes (sync_behind 1 log) place (task_at r place) answer losses refl may in
      record {
        syncs = CountSyncs-append 1 log kept h.syncs step.0;
        led = Leads-append r log kept (works_at r 1 works) place (after r place answer) h.led step.1;
      }

  -- no entry may stand next but one of what is open
  next_is : (sync : ℕ) (place : Place) (task : Task) (e : LogEntry) → Does task e → CountSyncs sync (e ∷ [])
      → (answer : Answer) × (losses : ℕ) × MayCome (next_of sync task) answer losses × (e ∷ [] ≡ entries_kept (next_of sync task) answer losses)
  next_is sync place (Send part request) (Asked p s q l a) does counts =
      let part_is : p ≡ part = does.0 in
      let same : q ≡ request = does.1 in
      let count : s ≡ sync = counts.0 in
      (a, l, does.2, cc)
  next_is sync place (Draw name floor) (Drew n f (Stamp stamp)) does counts =
      let name_is : n ≡ name = does.0 in
      let floor_is : f ≡ floor = does.1 in
      (Stamp stamp, 0, tt, cc)
  next_is sync place task e does counts = absurd does

  pub one_next : (log : List LogEntry) (place : Place) (e : LogEntry) → StandsAt r works log place → BeginsInLine r works (log ++ e ∷ [])
      → (answer : Answer) × (losses : ℕ) × MayCome (next_behind r log place) answer losses × (e ∷ [] ≡ entries_kept (next_behind r log place) answer losses)
  one_next log place e h begins =
      let next = led_where_begins (log ++ e ∷ []) begins in
      let split = Leads-split r log (e ∷ []) (works_at r 1 works) next.0 next.1.led in
      let same = one_end r log (works_at r 1 works) split.0 place split.1 h.led in
      let step = subst (λ (p : Place). Leads r p (e ∷ []) next.0) same split.2 in
      next_is (sync_behind 1 log) place (task_at r place) e step.0 (CountSyncs-rest 1 log (e ∷ []) next.1.syncs)

  -- what may still come behind a log is what leads on from its place to the end
  pub rest_where_led : (log rest : List LogEntry) (place : Place) → StandsAt r works log place → FollowsInLine r works (log ++ rest) ↔ Rest r (sync_behind 1 log) place rest
  rest_where_led log rest place h = (to, from)
    where
      to : FollowsInLine r works (log ++ rest) → Rest r (sync_behind 1 log) place rest
      to follows =
          let whole = follows-leads (log ++ rest) follows in
          let split = Leads-split r log rest (works_at r 1 works) Over whole.led in
          let same = one_end r log (works_at r 1 works) split.0 place split.1 h.led in
          (CountSyncs-rest 1 log rest whole.syncs, subst (λ (p : Place). Leads r p rest Over) same split.2)

      from : Rest r (sync_behind 1 log) place rest → FollowsInLine r works (log ++ rest)
      from more =
          leads-follows (log ++ rest) (record { syncs = CountSyncs-append 1 log rest h.syncs more.0; led = Leads-append r log rest (works_at r 1 works) place Over h.led more.1 })
