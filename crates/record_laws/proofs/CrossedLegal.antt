-- The record of the crossed sessions is one of a run of their script.
use Rattle.std.proofs.Common.{◌≡◌, ◌<◌, ℕ, zero, suc, [], ◌∷◌, ◌++◌, Some, None, refl, subst, sym, inl, inr, lit≤, arith}
use Rattle.std.specs.Prelude.{◌==◌, Contains, filter, slice_get, unwrap_or}
use Rattle.sql_base.specs.Scripts.{IsScript, Lies}
use Rattle.sql_base.specs.Tables.{IsTable}
use Rattle.sql_base.specs.declared.key_ranges.KeyRange.{KeyRange}
use Rattle.sql_base.specs.declared.lock_names.Access.TheVariants.{Repeatable}
use Rattle.sql_base.specs.declared.outcomes.Abort.TheVariants.{LockedOut}
use Rattle.sql_base.specs.Codes.{code_of, sets_code}
use Rattle.commit_journal.specs.declared.Drawn.{Drawn}
use Rattle.dp_messages.specs.declared.replies.Reply.{Reply as PartitionReply}
use Rattle.dp_messages.specs.declared.replies.Reply.TheVariants as reply
use Rattle.dp_messages.specs.declared.requests.Ask.{Ask}
use Rattle.dp_messages.specs.declared.requests.Ask.TheVariants as ask
use Rattle.range_finder.specs.Range.{Shape, shape_step, range}
use Rattle.session_grammar.specs.Follows.{Commits, InLineBy, IsAttempt, IsPart, Reads, asker, follows, works_of}
use Rattle.session_grammar.specs.Plans.{begins_in, plan_of}
use Rattle.session_grammar.specs.Rows.{IsAsked, IsSent, is_for}
use Rattle.session_grammar.specs.UnderWay.{AreAbove, Awaiting, BeginsWith, unanswered}
use Rattle.session_grammar.specs.declared.logs.Answer.TheVariants.{Reply}
use Rattle.session_grammar.specs.declared.plans.Plan.{Plan}
use Rattle.session_grammar.specs.declared.plans.Plan.TheVariants.{Subsets}
use Rattle.run_record.specs.Legal.{AreServed, Legal, StampsDrawn, drawn_in}
use Rattle.run_record.specs.Openings.{history_of, log_of}
use Rattle.run_record.proofs.CrossedReplays.{fold-named, histories_replay, predicate_is, rows_kept, sets_are}
use Rattle.run_record.proofs.CrossedSessions.{asked, begin, changed, committed, downward, first_log, kept, key, lock, locked_out, named, script, second_log, sets, table, update, upward}
use Rattle.record_laws.specs.SoFar.{LegalSoFar, way_of}
use Rattle.record_laws.proofs.Finishing.{finished-legal}
use Rattle.run_record.proofs.DrawnLogs.{of_logs}
use Rattle.session_grammar.proofs.LogLists.{none_filled}

-- the table may be declared
is_table : IsTable table
is_table = record {
  name = record { name = record { letter = refl; bytes = refl; free = refl }; short = lit≤ tt };
  columns = lit≤ tt;
  column_names = (
    record { name = record { letter = refl; bytes = refl; free = refl }; short = lit≤ tt },
    (record { name = record { letter = refl; bytes = refl; free = refl }; short = lit≤ tt }, tt),
  );
  names_differ = refl;
  widths = (tt, (tt, tt));
  row = lit≤ tt;
  key = record { some = lit≤ tt; within = (lit≤ tt, tt); differ = refl };
  key_bytes = lit≤ tt;
  few_checks = lit≤ tt;
  checks = tt;
  firsts = record { some = (lit≤ tt, tt); leading = (refl, tt); rise = (refl, tt) };
}

-- the script may run
is_script : IsScript script
is_script = record {
  limits = record { quantum = (lit≤ tt, lit≤ tt); buffer = (lit≤ tt, lit≤ tt); patience = lit≤ tt; servers = (lit≤ tt, lit≤ tt); restart = lit≤ tt };
  some_tables = (lit≤ tt, lit≤ tt);
  tables = (is_table, tt);
  names_differ = refl;
  parts = lit≤ tt;
  loads = ((table, refl, lit≤ tt, ((refl, (refl, tt)), (refl, tt)), (refl, (refl, tt))), tt);
  loads_differ = refl;
  some_sessions = (lit≤ tt, lit≤ tt);
  some_works = (lit≤ tt, (lit≤ tt, tt));
  works = lit≤ tt;
  statements = (
    (((table, refl, (sets_are, predicate_is 1 refl, tt)), ((table, refl, (sets_are, predicate_is 1000 refl, tt)), tt)), tt),
    ((((table, refl, (sets_are, predicate_is 1000 refl, tt)), ((table, refl, (sets_are, predicate_is 1 refl, tt)), tt)), tt), tt),
  );
}

-- the one stamp was drawn by the first session
drawn_of : (place : ℕ) (d : Drawn) → Contains (drawn_in (unwrap_or (slice_get kept.logs place) [])) d → Contains kept.journal d
drawn_of zero d h = h
drawn_of (suc zero) d (k, lt, is) = absurd (omega (arith, lt))
drawn_of (suc (suc place)) d (k, lt, is) = absurd (omega (arith, lt))

stamps : StampsDrawn kept
stamps = record { rise = (refl, tt); once = refl; drawn = of_logs kept (λ d. (λ h. (1, h), λ h. drawn_of _ d h.1)); in_order = (tt, (tt, tt)) }

-- the histories have what each session asked, with its replies
served : (part session : ℕ) → part < 2 → Lies 1 2 session → AreServed (filter (is_for part) (log_of kept session)) (filter (λ e. e.opener == session) (history_of kept part))
served zero zero within lies = absurd (omega (arith, lies.0))
served zero (suc zero) within lies = ((refl, refl), refl, ((refl, refl), refl, ((refl, refl), refl, refl)))
served zero (suc (suc zero)) within lies = ((refl, refl), refl, ((refl, refl), refl, ((refl, refl), refl, refl)))
served (suc zero) zero within lies = absurd (omega (arith, lies.0))
served (suc zero) (suc zero) within lies = ((refl, refl), refl, ((refl, refl), refl, ((refl, refl), refl, ((refl, refl), refl, refl))))
served (suc zero) (suc (suc zero)) within lies = ((refl, refl), refl, ((refl, refl), refl, refl))
served part (suc (suc (suc session))) within lies = absurd (omega (arith, lies.1))
served (suc (suc part)) session within lies = absurd (omega (arith, within))

-- ---- the logs

-- what an update of one key asks
abbrev plan_in : ℕ → ℕ → KeyRange → Plan
plan_in session n r = Subsets (begins_in (asker script session) table 0 (Some r) (λ granule piece. ask.BeginUpdate Repeatable granule piece (Some (code_of (named n))) (sets_code sets)))

range-1 : range table (Some (named 1)) ≡ Some (record { low = key 1; high = key 1 })
range-1 = rw (fold-named Shape shape_step 1) refl

range-1000 : range table (Some (named 1000)) ≡ Some (record { low = key 1000; high = key 1000 })
range-1000 = rw (fold-named Shape shape_step 1000) refl

plan-1 : (session : ℕ) → plan_of (asker script session) (update 1) ≡ Subsets (record { part = 0; ask = begin 1 } ∷ [])
plan-1 session = rw range-1 refl

plan-1000 : (session : ℕ) → plan_of (asker script session) (update 1000) ≡ Subsets (record { part = 1; ask = begin 1000 } ∷ [])
plan-1000 session = rw range-1000 refl

-- an entry with a reply that fits what it asks
fitting : (part sync : ℕ) (a : Ask) (r : PartitionReply) → IsSent a 0 (Reply r) → IsAsked part (record { ordinal = 1; ask = a }) (Reply r) (asked part sync a r)
fitting part sync a r h = (refl, refl, refl, h)

-- an update that is done at once, one that is done after it was locked, and one that is locked out
abbrev Plans : ℕ → ℕ → ℕ → Type 0
Plans session n part = plan_of (asker script session) (update n) ≡ Subsets (record { part = part; ask = begin n } ∷ [])

done_at_once : (session n part sync : ℕ) → Plans session n part → IsPart (asker script session) 1 (update n) (asked part sync (begin n) changed ∷ []) None
done_at_once session n part sync plan =
    inl (subst (λ p. InLineBy (asker script session) 1 p (asked part sync (begin n) changed ∷ []) None) (sym plan) (
      (asked part sync (begin n) changed ∷ []) ∷ [],
      refl,
      inl (((asked part sync (begin n) changed ∷ []) ∷ [], refl, (Reply changed, (fitting part sync (begin n) changed (lit≤ tt, refl), λ h. absurd (cc h)), (refl, refl))), refl),
    ))

done_later : IsPart (asker script 1) 1 (update 1000) (asked 1 2 (begin 1000) (reply.Locked (lock 2 1000)) ∷ asked 1 3 (begin 1000) changed ∷ []) None
done_later =
    inl (subst (λ p. InLineBy (asker script 1) 1 p (asked 1 2 (begin 1000) (reply.Locked (lock 2 1000)) ∷ asked 1 3 (begin 1000) changed ∷ []) None) (sym (plan-1000 1)) (
      (asked 1 2 (begin 1000) (reply.Locked (lock 2 1000)) ∷ asked 1 3 (begin 1000) changed ∷ []) ∷ [],
      refl,
      inl (
        (
          (asked 1 2 (begin 1000) (reply.Locked (lock 2 1000)) ∷ asked 1 3 (begin 1000) changed ∷ []) ∷ [],
          refl,
          (
            Reply changed,
            ((lock 2 1000, fitting 1 2 (begin 1000) (reply.Locked (lock 2 1000)) (lit≤ tt, refl)), (fitting 1 3 (begin 1000) changed (lit≤ tt, refl), λ h. absurd (cc h))),
            (refl, refl),
          ),
        ),
        refl,
      ),
    ))

locked_part : IsPart (asker script 2) 1 (update 1) (asked 0 2 (begin 1) (reply.Locked (lock 1 1)) ∷ asked 0 3 (begin 1) (reply.Locked (lock 1 1)) ∷ []) (Some LockedOut)
locked_part =
    inl (subst (λ p. InLineBy (asker script 2) 1 p (asked 0 2 (begin 1) (reply.Locked (lock 1 1)) ∷ asked 0 3 (begin 1) (reply.Locked (lock 1 1)) ∷ []) (Some LockedOut)) (sym (plan-1 2)) (
      (asked 0 2 (begin 1) (reply.Locked (lock 1 1)) ∷ asked 0 3 (begin 1) (reply.Locked (lock 1 1)) ∷ []) ∷ [],
      refl,
      inr (
        (
          (asked 0 2 (begin 1) (reply.Locked (lock 1 1)) ∷ asked 0 3 (begin 1) (reply.Locked (lock 1 1)) ∷ []) ∷ [],
          refl,
          (
            Reply (reply.Locked (lock 1 1)),
            ((lock 1 1, fitting 0 2 (begin 1) (reply.Locked (lock 1 1)) (lit≤ tt, refl)), (fitting 0 3 (begin 1) (reply.Locked (lock 1 1)) (lit≤ tt, refl), λ h. refl)),
            (refl, refl, refl),
          ),
        ),
        refl,
        refl,
      ),
    ))

-- the first session commits
first_commits : Commits (asker script 1) committed
first_commits = record {
  floors = 0 ∷ 0 ∷ [];
  stamp = 1;
  prepares = asked 0 4 ask.Prepare (reply.Floor 0) ∷ asked 1 5 ask.Prepare (reply.Floor 0) ∷ [];
  ends = asked 0 6 (ask.EndCommit 1) reply.Done ∷ asked 1 7 (ask.EndCommit 1) reply.Done ∷ [];
  ending_is = refl;
  prepared = (fitting 0 4 ask.Prepare (reply.Floor 0) (lit≤ tt, refl), (fitting 1 5 ask.Prepare (reply.Floor 0) (lit≤ tt, refl), tt));
  ended = (fitting 0 6 (ask.EndCommit 1) reply.Done (lit≤ tt, refl), (fitting 1 7 (ask.EndCommit 1) reply.Done (lit≤ tt, refl), tt));
  outcome_is = refl;
}

first_attempt : IsAttempt IsPart (asker script 1) upward 1 committed
first_attempt = record { of_work = refl; numbered = refl; parts_and_ending = (None, inl (done_at_once 1 1 0 1 (plan-1 1), inl (done_later, refl)), inl first_commits) }

second_attempt : IsAttempt IsPart (asker script 2) downward 1 locked_out
second_attempt = record {
  of_work = refl;
  numbered = refl;
  parts_and_ending = (
    Some LockedOut,
    inl (done_at_once 2 1000 1 1 (plan-1000 2), inr (locked_part, refl, refl)),
    ((fitting 0 4 ask.EndUndo reply.Done (lit≤ tt, refl), (fitting 1 5 ask.EndUndo reply.Done (lit≤ tt, refl), tt)), refl),
  );
}

pub first_reads : Reads IsPart (asker script 1) (works_of script 1) first_log (committed ∷ [])
first_reads = record {
  syncs = (refl, (refl, (refl, (refl, (refl, (refl, (refl, tt)))))));
  entries = refl;
  attempts_are = (committed ∷ [], [], refl, (first_attempt, λ h. absurd (cc h)), refl);
}

pub second_reads : Reads IsPart (asker script 2) (works_of script 2) second_log (locked_out ∷ [])
second_reads = record {
  syncs = (refl, (refl, (refl, (refl, (refl, tt)))));
  entries = refl;
  attempts_are = (locked_out ∷ [], [], refl, (second_attempt, λ h. refl), refl);
}

first_follows : follows script 1 first_log
first_follows = (committed ∷ [], first_reads)

second_follows : follows script 2 second_log
second_follows = (locked_out ∷ [], second_reads)

-- ---- all clauses: the histories replay, the stamp was drawn, what was asked was served, and the logs are whole; the rest follows from that

nothing_under_way : (session : ℕ) → Lies 1 2 session → AreAbove (log_of kept session) (way_of [] session) × BeginsWith script session (way_of [] session) (log_of kept session)
nothing_under_way zero lies = absurd (omega (arith, lies.0))
nothing_under_way (suc zero) lies = ((tt, refl), (first_log, [], none_filled first_log, first_follows))
nothing_under_way (suc (suc zero)) lies = ((tt, refl), (second_log, [], none_filled second_log, second_follows))
nothing_under_way (suc (suc (suc session))) lies = absurd (omega (arith, lies.1))

served_so_far : (part session : ℕ) → part < 2 → Lies 1 2 session → AreServed (filter (is_for part) (log_of kept session ++ unanswered (way_of [] session))) (filter (λ e. e.opener == session) (history_of kept part))
served_so_far part zero within lies = absurd (omega (arith, lies.0))
served_so_far part (suc zero) within lies = served part 1 within lies
served_so_far part (suc (suc zero)) within lies = served part 2 within lies
served_so_far part (suc (suc (suc session))) within lies = absurd (omega (arith, lies.1))

so_far : LegalSoFar script kept []
so_far = record {
  script_runs = is_script;
  histories_replay = histories_replay;
  stamps_drawn = stamps;
  entries_asked = record {
    openers = (
      ((lit≤ tt, lit≤ tt), ((lit≤ tt, lit≤ tt), ((lit≤ tt, lit≤ tt), ((lit≤ tt, lit≤ tt), ((lit≤ tt, lit≤ tt), ((lit≤ tt, lit≤ tt), tt)))))),
      (((lit≤ tt, lit≤ tt), ((lit≤ tt, lit≤ tt), ((lit≤ tt, lit≤ tt), ((lit≤ tt, lit≤ tt), ((lit≤ tt, lit≤ tt), ((lit≤ tt, lit≤ tt), tt)))))), tt),
    );
    served = served_so_far;
  };
  logs_begin = record { logs = refl; each = nothing_under_way };
}

all_finished : (session : ℕ) → Lies 1 2 session → (way_of [] session ≡ Awaiting []) × follows script session (log_of kept session)
all_finished zero lies = absurd (omega (arith, lies.0))
all_finished (suc zero) lies = (refl, first_follows)
all_finished (suc (suc zero)) lies = (refl, second_follows)
all_finished (suc (suc (suc session))) lies = absurd (omega (arith, lies.1))

pub crossed_legal : Legal script kept
crossed_legal = finished-legal script kept [] so_far (λ session lies. (all_finished session lies).0) (λ session lies. (all_finished session lies).1) rows_kept
