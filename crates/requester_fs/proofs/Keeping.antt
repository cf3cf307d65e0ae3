-- What a session keeps from answer to answer.
use Rattle.std.proofs.Common.{◌≡◌, ◌≤◌, ◌<◌, ◌^◌, ℕ, List, [], ◌∷◌, ◌++◌, length, Option, Some, None, refl, ap, sym, ◌∙◌, subst, arith}
use Rattle.sql_base.specs.Scripts.{IsScript, Lies, parts_of}
use Rattle.sql_base.specs.declared.scripts.Script.{Script}
use Rattle.sql_base.specs.declared.scripts.Work.{Work}
use Rattle.sql_base.specs.declared.statements.Statement.{Statement}
use Rattle.dp_messages.specs.declared.requests.Request.{Request}
use Rattle.session_grammar.specs.Follows.{asker, works_of}
use Rattle.session_grammar.specs.Plans.{Asker}
use Rattle.session_grammar.specs.Sessions.{IsSessionOf, MayCome, Next, Sends, entries_kept, sync_behind}
use Rattle.session_grammar.specs.UnderWay.{UnderWay}
use Rattle.session_grammar.specs.declared.logs.Answer.{Answer}
use Rattle.session_grammar.specs.declared.logs.LogEntry.{LogEntry}
use Rattle.session_grammar.proofs.LogLists.{sync_behind-append}
use Rattle.session_laws.specs.Scaffold.Leading.{StandsAt, next_behind, next_of}
use Rattle.session_laws.specs.Scaffold.Machine.{At, Place, Trying, after, asking, task_at, works_at}
use Rattle.session_laws.proofs.Sessions.{session_of}
use Rattle.session_laws.proofs.Standing.{goes_on}
use Rattle.requester_fs.specs.Asking.{Advances, Asking, next_at, places_of}
use Rattle.requester_fs.specs.Lasting.{answers_left, left_at}
use Rattle.requester_fs.specs.Scaffold.Stages.{IsStage, IsStand, Stands, doing_of, place_of, statements_of, trying_of, way_in, way_of}
use Rattle.requester_fs.specs.Scaffold.Working.{IsWorking}
use Rattle.requester_fs.specs.Asking.{working}
use Rattle.requester_fs.specs.declared.stages.Stage.{Stage}
use Rattle.requester_fs.specs.declared.stages.Stage.TheVariants as stage
use Rattle.requester_fs.specs.declared.stages.Stand.{Stand}
use Rattle.requester_fs.proofs.Lasting.{fewer_left, led_there}
use Rattle.requester_fs.proofs.Logs.{IsOne, one_place}

named : (q : Request) (ordinal : ℕ) → q.ordinal ≡ ordinal → q ≡ asking ordinal q.ask
named q ordinal is = ap (λ o. asking o q.ask) is

module _ (script : Script) (number : ℕ) where
  abbrev r : Asker
  r = asker script number

  abbrev works : List Work
  works = works_of script number

  abbrev place : Option Stand → Place
  place stand = place_of r works stand

  -- what is done next, of what the code keeps
  next_in : (sync : ℕ) (t : Trying) (seen : List ℕ) (statements : List Statement) (stage : Stage) → IsStage t.ordinal statements stage
      → next_at (way_in number sync t.ordinal stage) 0 ≡ next_of sync (task_at r (At t seen (doing_of r statements stage)))
  next_in sync t seen statements (stage.Asks u) h = ap (λ q. Sends u.part sync q) (named u.request t.ordinal h.0)
  next_in sync t seen statements (stage.Prepares part request parts floor) h = ap (λ q. Sends part sync q) h
  next_in sync t seen statements (stage.Stamps floor) h = refl
  next_in sync t seen statements (stage.Closes part request parts locked) h = ap (λ q. Sends part sync q) (named request t.ordinal h.0)

  next_is : (stand : Option Stand) (sync : ℕ) → IsStand works stand → next_at (way_of number sync stand) 0 ≡ next_of sync (task_at r (place stand))
  next_is None sync h = refl
  next_is (Some s) sync h = next_in sync (trying_of works s) s.seen (statements_of works s) s.stage h.2

  one_in : (sync ordinal : ℕ) (stage : Stage) → IsOne (way_in number sync ordinal stage)
  one_in sync ordinal (stage.Asks u) = tt
  one_in sync ordinal (stage.Prepares part request parts floor) = tt
  one_in sync ordinal (stage.Stamps floor) = tt
  one_in sync ordinal (stage.Closes part request parts locked) = tt

  pub one_way : (sync : ℕ) (stand : Option Stand) → IsOne (way_of number sync stand)
  one_way sync None = tt
  one_way sync (Some s) = one_in sync s.ordinal s.stage

  -- it begins at its first place
  pub first_working : (parts : ℕ) (stand : Option Stand) (log : List LogEntry) → IsScript script → Lies 1 (length script.sessions) number → parts ≡ parts_of script.tables
      → Stands script works (λ r. works_at r 1 works) stand → log ≡ [] → IsWorking script number parts stand 1 log
  first_working parts stand log is lies counted led none =
      subst (IsWorking script number parts stand 1) (sym none)
      (record { is_script = is; session = lies; counted = counted; stands = record { syncs = tt; led = sym (led.1 number) }; kept = led.0; sync_is = refl; few = omega arith })

  module _ (parts sync : ℕ) (stand : Option Stand) (log : List LogEntry) (h : IsWorking script number parts stand sync log) where
    abbrev way : UnderWay
    way = way_of number sync stand

    abbrev asks : Asking
    asks = record { script = script; number = number; log = log; way = way }

    next_here : next_at way 0 ≡ next_behind r log (place stand)
    next_here = next_is stand sync h.kept ∙ ap (λ n. next_of n (task_at r (place stand))) h.sync_is

    -- the contract of a session
    pub exact : IsSessionOf script number (working asks)
    exact = subst (λ (next : Next). IsSessionOf script number (record { limits = script.limits; number = number; log = log; next = next })) (sym next_here) (session_of script number log (place stand) h.stands)

    pub one : places_of way ≡ 1
    one = one_place way (one_way sync stand)

    -- where an answer leads
    pub taken : (answer : Answer) (losses : ℕ) → MayCome (next_at way 0) answer losses → (to : Option Stand) → IsStand works to → place to ≡ after r (place stand) answer
        → (e : LogEntry) → e ∷ [] ≡ entries_kept (next_at way 0) answer losses → (sync' : ℕ) → sync' ≡ sync_behind sync (e ∷ []) → sync' < 2 ^ 64 → IsWorking script number parts to sync' (log ++ e ∷ [])
    taken answer losses may to stand_is led e kept sync' sync_is few =
        let may_come = subst (λ (next : Next). MayCome next answer losses) next_here may in
        let here = goes_on r works log (place stand) answer losses h.stands may_come in
        let entries : entries_kept (next_behind r log (place stand)) answer losses ≡ e ∷ [] = ap (λ (next : Next). entries_kept next answer losses) (sym next_here) ∙ sym kept in
        record {
          is_script = h.is_script;
          session = h.session;
          counted = h.counted;
          stands = subst (λ es. StandsAt r works (log ++ es) (place to)) entries (subst (StandsAt r works (log ++ entries_kept (next_behind r log (place stand)) answer losses)) (sym led) here);
          kept = stand_is;
          sync_is = sync_is ∙ ap (λ n. sync_behind n (e ∷ [])) h.sync_is ∙ sym (sync_behind-append 1 log (e ∷ []));
          few = few;
        }

    -- and leaves fewer answers, where each redrive goes on
    pub lasts : (answer : Answer) (losses : ℕ) → MayCome (next_at way 0) answer losses → (b : Asking) → b.script ≡ script → b.number ≡ number → (to : Option Stand)
        → StandsAt r works b.log (place to) → place to ≡ after r (place stand) answer → (above : List ℕ → ℕ) (n : ℕ) → ((key : List ℕ) → above key ≤ n) → Advances above n (next_at way 0) answer
        → answers_left above n b < answers_left above n asks
    lasts answer losses may b same numbered to stands led_to above n most advances =
        let may_come = subst (λ (next : Next). MayCome next answer losses) next_here may in
        let goes = subst (λ (next : Next). Advances above n next answer) next_here advances in
        let less = fewer_left r n above most (sync_behind 1 log) losses (place stand) answer may_come goes in
        let here : answers_left above n asks ≡ left_at above n r (place stand) = ap (left_at above n r) (led_there r log (works_at r 1 works) (place stand) h.stands.led) in
        let there : answers_left above n (record { script = script; number = number; log = b.log; way = b.way }) ≡ left_at above n r (after r (place stand) answer) =
        ap (left_at above n r) (led_there r b.log (works_at r 1 works) (place to) stands.led ∙ led_to) in
        let moved : answers_left above n b ≡ answers_left above n (record { script = script; number = number; log = b.log; way = b.way }) =
        ap (λ (s : Script). answers_left above n (record { script = s; number = b.number; log = b.log; way = b.way })) same ∙ ap (λ k. answers_left above n (record { script = script; number = k; log = b.log; way = b.way })) numbered in
        omega (arith, less, here, there, moved)
