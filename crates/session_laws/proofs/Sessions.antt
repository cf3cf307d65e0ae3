-- A session that stands where its log has led it is that of its script, as its contract says.
use Rattle.std.proofs.Common.{◌≡◌, ℕ, List, ◌++◌, refl, ap}
use Rattle.sql_base.specs.Scripts.{parts_of}
use Rattle.sql_base.specs.declared.scripts.Script.{Script}
use Rattle.session_grammar.specs.declared.logs.LogEntry.{LogEntry}
use Rattle.session_grammar.specs.Follows.{asker, works_of}
use Rattle.session_grammar.specs.Plans.{Asker}
use Rattle.session_grammar.specs.Sessions.{sync_behind}
use Rattle.session_grammar.specs.Sessions.{Ends, IsSessionOf, IsWithin, entries_kept}
use Rattle.session_laws.specs.Scaffold.Machine.{Asks, At, Closes, Over, Place, Prepares, Stamps, after, task_at, works_at}
use Rattle.session_laws.specs.Scaffold.Leading.{StandsAt, next_behind, next_of}
use Rattle.session_laws.proofs.Places.{Within, leads_there, works_there}
use Rattle.session_laws.proofs.Standing.{begins_where_led, goes_on, whole_where_over}

within_next : (r : Asker) (sync : ℕ) (p : Place) → Within r p → IsWithin (parts_of r.tables) (next_of sync (task_at r p))
within_next r sync (At t seen (Asks subset part ask repeats sents statements)) h = h.0
within_next r sync (At t seen (Prepares part parts floor)) h = h.0
within_next r sync (At t seen (Stamps floor)) h = tt
within_next r sync (At t seen (Closes ask part parts locked)) h = h.0
within_next r sync Over h = tt

ends_over : (r : Asker) (sync : ℕ) (p : Place) → next_of sync (task_at r p) ≡ Ends → p ≡ Over
ends_over r sync (At t seen (Asks subset part ask repeats sents statements)) h = absurd (cc h)
ends_over r sync (At t seen (Prepares part parts floor)) h = absurd (cc h)
ends_over r sync (At t seen (Stamps floor)) h = absurd (cc h)
ends_over r sync (At t seen (Closes ask part parts locked)) h = absurd (cc h)
ends_over r sync Over h = refl

pub session_of : (script : Script) (number : ℕ) (log : List LogEntry) (place : Place) → StandsAt (asker script number) (works_of script number) log place
    → IsSessionOf script number (record { limits = script.limits; number = number; log = log; next = next_behind (asker script number) log place })
session_of script number log place h =
    let r = asker script number in
    let works = works_of script number in
    let whole = whole_where_over r works log place h in
    record {
      limits = refl;
      number_is = refl;
      part = within_next r (sync_behind 1 log) place (leads_there r log (works_at r 1 works) place (works_there r works 1) h.led);
      begins = begins_where_led r works log place h;
      goes_on = λ answer losses may. let more = goes_on r works log place answer losses h may in
          begins_where_led r works (log ++ entries_kept (next_behind r log place) answer losses) (after r place answer) more;
      ends_where_whole = (λ ends. whole.1 (ends_over r (sync_behind 1 log) place ends), λ follows. ap (λ p. next_of (sync_behind 1 log) (task_at r p)) (whole.0 follows));
    }
