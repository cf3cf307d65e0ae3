-- The record of two sessions is one of a run of its script.
use Rattle.std.proofs.Common.{◌≡◌, ◌<◌, ◌≤◌, ℕ, zero, suc, List, [], ◌∷◌, Some, None, Bool, true, false, cond, refl, ap, subst, inl, inr, lit≤, arith}
use Rattle.std.specs.Prelude.{◌⊎◌, ◌==◌, ◌&&◌, Contains, filter, slice_get, unwrap_or}
use Rattle.std.proofs.lemmas.Bool.{eqb-true, and_parts}
use Rattle.sql_base.specs.Scripts.{IsScript, Lies}
use Rattle.sql_base.specs.Tables.{IsTable}
use Rattle.sql_base.specs.declared.lock_names.Access.TheVariants.{Repeatable}
use Rattle.sql_base.specs.declared.outcomes.Outcome.TheVariants.{Committed}
use Rattle.sql_base.specs.declared.scripts.Work.{Work}
use Rattle.sql_base.specs.declared.statements.Statement.TheVariants.{Select, Insert}
use Rattle.commit_journal.specs.declared.Drawn.{Drawn}
use Rattle.dp_messages.specs.declared.replies.Reply.{Reply as PartitionReply}
use Rattle.dp_messages.specs.declared.replies.Reply.TheVariants as reply
use Rattle.dp_messages.specs.declared.requests.Ask.{Ask}
use Rattle.dp_messages.specs.declared.requests.Ask.TheVariants as ask
use Rattle.session_grammar.specs.Follows.{Attempt, Commits, InTurn, IsAttempt, IsEnding, Reads, IsPart, follows, asker, works_of}
use Rattle.session_grammar.specs.Rows.{IsAsked, IsSent, is_for}
use Rattle.session_grammar.specs.declared.logs.Answer.TheVariants.{Reply}
use Rattle.run_record.specs.Legal.{AreServed, AttemptsEnded, EntriesAsked, FloorsCovered, Legal, StampsDrawn, drawn_in}
use Rattle.run_record.specs.Openings.{history_of, log_of}
use Rattle.run_record.proofs.TwoReadings.{reader_read, writer_read}
use Rattle.run_record.proofs.TwoSessions.{all_four, asked, both, first_draw, inserting, kept, reader, reading, row, scan, script, second_draw, table, writer}
use Rattle.run_record.proofs.WorkedRows.{history_replays}
use Rattle.run_record.proofs.DrawnLogs.{of_logs}
use Rattle.sql_base.proofs.ListFacts.{only-one}

-- the table may be declared
is_table : IsTable table
is_table = record {
  name = record { name = record { letter = refl; bytes = refl; free = refl }; short = lit≤ tt };
  columns = lit≤ tt;
  column_names = (
    record { name = record { letter = refl; bytes = refl; free = refl }; short = lit≤ tt },
    (record { name = record { letter = refl; bytes = refl; free = refl }; short = lit≤ tt }, tt),
  );
  names_differ = refl;
  widths = (tt, (tt, tt));
  row = lit≤ tt;
  key = record { some = lit≤ tt; within = (lit≤ tt, tt); differ = refl };
  key_bytes = lit≤ tt;
  few_checks = lit≤ tt;
  checks = tt;
  firsts = record { some = tt; leading = tt; rise = tt };
}

-- the script may run
is_script : IsScript script
is_script = record {
  limits = record { quantum = (lit≤ tt, lit≤ tt); buffer = (lit≤ tt, lit≤ tt); patience = lit≤ tt; servers = (lit≤ tt, lit≤ tt); restart = lit≤ tt };
  some_tables = (lit≤ tt, lit≤ tt);
  tables = (is_table, tt);
  names_differ = refl;
  parts = lit≤ tt;
  loads = ((table, refl, lit≤ tt, ((refl, (refl, (refl, tt))), (refl, (refl, tt))), (refl, (refl, (refl, tt)))), tt);
  loads_differ = refl;
  some_sessions = (lit≤ tt, lit≤ tt);
  some_works = (lit≤ tt, (lit≤ tt, tt));
  works = lit≤ tt;
  statements = (
    (((table, refl, (record { some = lit≤ tt; within = (lit≤ tt, (lit≤ tt, tt)); differ = refl }, tt)), tt), tt),
    ((((table, refl, refl), tt), tt), tt),
  );
}

-- what a log drew stands in the journal
drawn_of_two : (place : ℕ) (d : Drawn) → Contains (drawn_in (unwrap_or (slice_get kept.logs place) [])) d → Contains kept.journal d
drawn_of_two zero d (zero, lt, is) = (1, lit≤ tt, is)
drawn_of_two zero d (suc k, lt, is) = absurd (omega (arith, lt))
drawn_of_two (suc zero) d (zero, lt, is) = (0, lit≤ tt, is)
drawn_of_two (suc zero) d (suc k, lt, is) = absurd (omega (arith, lt))
drawn_of_two (suc (suc place)) d (k, lt, is) = absurd (omega (arith, lt))

-- and what stands in the journal was drawn by a log
drawn_by_one : (d : Drawn) → Contains kept.journal d → (session : ℕ) × Contains (drawn_in (log_of kept session)) d
drawn_by_one d (zero, lt, is) = (2, (0, lit≤ tt, is))
drawn_by_one d (suc zero, lt, is) = (1, (0, lit≤ tt, is))
drawn_by_one d (suc (suc k), lt, is) = absurd (omega (arith, lt))

stamps : StampsDrawn kept
stamps = record { rise = (refl, (refl, tt)); once = refl; drawn = of_logs kept (λ d. (drawn_by_one d, λ h. drawn_of_two _ d h.1)); in_order = (tt, (tt, tt)) }

-- the history has what each session asked, with its replies
served : (part session : ℕ) → part < 1 → Lies 1 2 session → AreServed (filter (is_for part) (log_of kept session)) (filter (λ e. e.opener == session) (history_of kept part))
served zero zero within lies = absurd (omega (arith, lies.0))
served zero (suc zero) within lies = ((refl, refl), refl, ((refl, refl), refl, ((refl, refl), refl, refl)))
served zero (suc (suc zero)) within lies = ((refl, refl), refl, ((refl, refl), refl, ((refl, refl), refl, refl)))
served zero (suc (suc (suc session))) within lies = absurd (omega (arith, lies.1))
served (suc part) session within lies = absurd (omega (arith, within))

entries : EntriesAsked script kept
entries = record {
  openers = (((lit≤ tt, lit≤ tt), ((lit≤ tt, lit≤ tt), ((lit≤ tt, lit≤ tt), ((lit≤ tt, lit≤ tt), ((lit≤ tt, lit≤ tt), ((lit≤ tt, lit≤ tt), tt)))))), tt);
  served = served;
}

-- a floor that was replied is no higher than itself
replied : (n floor : ℕ) → reply.Floor n ≡ reply.Floor floor → floor ≤ n
replied n floor is =
    let same : n ≡ floor = cc is in
    omega (arith, same)

-- the floors that were replied are 0 to the writer and 1 to the reader
floors : FloorsCovered kept
floors = (
  (
    (
      λ f o is. absurd (cc is),
      (λ f o is. replied 0 f is, (λ f o is. absurd (cc is), (λ f o is. absurd (cc is), (λ f o is. absurd (cc o), (λ f o is. absurd (cc is), tt))))),
    ),
    tt,
  ),
  (
    (
      (
        λ f o is. absurd (cc is),
        (λ f o is. absurd (cc o), (λ f o is. absurd (cc is), (λ f o is. absurd (cc is), (λ f o is. replied 1 f is, (λ f o is. absurd (cc is), tt))))),
      ),
      tt,
    ),
    tt,
  ),
)

-- an entry with a reply that fits what it asks
fitting : (sync : ℕ) (a : Ask) (r : PartitionReply) → IsSent a 0 (Reply r) → IsAsked 0 (record { ordinal = 1; ask = a }) (Reply r) (asked sync a r)
fitting sync a r h = (refl, refl, refl, h)

-- an attempt by its part and its ending
attempt_of : (session : ℕ) (work : Work) (a : Attempt) → a.work ≡ work → a.ordinal ≡ 1 → InTurn (IsPart (asker script session) 1) work.statements a.parts None
    → IsEnding (asker script session) a None work.commit → IsAttempt IsPart (asker script session) work 1 a
attempt_of session work a of numbered parts ending = record { of_work = of; numbered = numbered; parts_and_ending = (None, parts, ending) }

-- each log is one that its session may have
reader_part : IsPart (asker script 1) 1 (Select 0 (0 ∷ 1 ∷ []) None Repeatable) (asked 1 scan all_four ∷ []) None
reader_part =
    inl (
      (asked 1 scan all_four ∷ []) ∷ [],
      refl,
      inl (((asked 1 scan all_four ∷ []) ∷ [], refl, (Reply all_four, (fitting 1 scan all_four (lit≤ tt, refl), λ h. absurd (cc h)), (refl, refl))), refl),
    )

reader_commits : Commits (asker script 1) reader
reader_commits = record {
  floors = 1 ∷ [];
  stamp = 2;
  prepares = asked 2 ask.Prepare (reply.Floor 1) ∷ [];
  ends = asked 3 (ask.EndCommit 2) reply.Done ∷ [];
  ending_is = refl;
  prepared = (fitting 2 ask.Prepare (reply.Floor 1) (lit≤ tt, refl), tt);
  ended = (fitting 3 (ask.EndCommit 2) reply.Done (lit≤ tt, refl), tt);
  outcome_is = refl;
}

pub reader_reads : Reads IsPart (asker script 1) (works_of script 1) (log_of kept 1) (reader ∷ [])
reader_reads = record {
  syncs = (refl, (refl, (refl, tt)));
  entries = refl;
  attempts_are = (reader ∷ [], [], refl, (attempt_of 1 reading reader refl refl (inl (reader_part, refl)) (inl reader_commits), λ h. refl), refl);
}

reader_follows : follows script 1 (log_of kept 1)
reader_follows = (reader ∷ [], reader_reads)

writer_part : IsPart (asker script 2) 1 (Insert 0 (row 9)) (asked 1 (ask.Insert (both 9)) reply.Done ∷ []) None
writer_part =
    inl (
      (asked 1 (ask.Insert (both 9)) reply.Done ∷ []) ∷ [],
      refl,
      inl ((Reply reply.Done, (fitting 1 (ask.Insert (both 9)) reply.Done (lit≤ tt, refl), λ h. absurd (cc h)), refl), refl),
    )

writer_commits : Commits (asker script 2) writer
writer_commits = record {
  floors = 0 ∷ [];
  stamp = 1;
  prepares = asked 2 ask.Prepare (reply.Floor 0) ∷ [];
  ends = asked 3 (ask.EndCommit 1) reply.Done ∷ [];
  ending_is = refl;
  prepared = (fitting 2 ask.Prepare (reply.Floor 0) (lit≤ tt, refl), tt);
  ended = (fitting 3 (ask.EndCommit 1) reply.Done (lit≤ tt, refl), tt);
  outcome_is = refl;
}

pub writer_reads : Reads IsPart (asker script 2) (works_of script 2) (log_of kept 2) (writer ∷ [])
writer_reads = record {
  syncs = (refl, (refl, (refl, tt)));
  entries = refl;
  attempts_are = (writer ∷ [], [], refl, (attempt_of 2 inserting writer refl refl (inl (writer_part, refl)) (inl writer_commits), λ h. refl), refl);
}

writer_follows : follows script 2 (log_of kept 2)
writer_follows = (writer ∷ [], writer_reads)

each_follows : (session : ℕ) → Lies 1 2 session → follows script session (log_of kept session)
each_follows zero lies = absurd (omega (arith, lies.0))
each_follows (suc zero) lies = reader_follows
each_follows (suc (suc zero)) lies = writer_follows
each_follows (suc (suc (suc session))) lies = absurd (omega (arith, lies.1))

-- a name is found in the journal as that of one of the two commits
found_two : (second first : Bool) (d : Drawn) → cond second (Some first_draw) (cond first (Some second_draw) None) ≡ Some d
    → ((second ≡ true) × (first_draw ≡ d)) ⊎ ((first ≡ true) × (second_draw ≡ d))
found_two true first d h = inl (refl, cc h)
found_two false true d h = inr (refl, cc h)
found_two false false d h = absurd (cc h)

-- where a session's attempt is in the journal, it committed with that stamp
abbrev CommittedWith : Attempt → List Attempt → ℕ → Drawn → Type 0
CommittedWith a attempts session d = Reads IsPart (asker script session) (works_of script session) (log_of kept session) attempts → Contains attempts a → a.outcome ≡ Committed d.stamp

reader_committed : (attempts : List Attempt) (a : Attempt) → CommittedWith a attempts 1 second_draw
reader_committed attempts a reads has = ap (λ (x : Attempt). x.outcome) (only-one reader a (subst (λ list. Contains list a) (reader_read attempts reads) has))

writer_committed : (attempts : List Attempt) (a : Attempt) → CommittedWith a attempts 2 first_draw
writer_committed attempts a reads has = ap (λ (x : Attempt). x.outcome) (only-one writer a (subst (λ list. Contains list a) (writer_read attempts reads) has))

either_committed : (session : ℕ) (attempts : List Attempt) (a : Attempt) (d : Drawn)
    → ((((2 == session) && (1 == a.ordinal)) ≡ true) × (first_draw ≡ d)) ⊎ ((((1 == session) && (1 == a.ordinal)) ≡ true) × (second_draw ≡ d)) → CommittedWith a attempts session d
either_committed session attempts a d (inl h) =
    let which = eqb-true 2 session (and_parts (2 == session) (1 == a.ordinal) h.0).0 in
    subst (CommittedWith a attempts session) h.1 (subst (λ s. CommittedWith a attempts s first_draw) which (writer_committed attempts a))
either_committed session attempts a d (inr h) =
    let which = eqb-true 1 session (and_parts (1 == session) (1 == a.ordinal) h.0).0 in
    subst (CommittedWith a attempts session) h.1 (subst (λ s. CommittedWith a attempts s second_draw) which (reader_committed attempts a))

-- all entries are of attempts that committed
ended : AttemptsEnded script kept
ended = record {
  ends = ((refl, (refl, (refl, (refl, (refl, (refl, tt)))))), tt);
  committed = λ session attempts a d lies reads has drawn. either_committed session attempts a d (found_two ((2 == session) && (1 == a.ordinal)) ((1 == session) && (1 == a.ordinal)) d drawn) reads has;
}

-- all clauses together
pub two_legal : Legal script kept
two_legal = record {
  script_runs = is_script;
  histories_replay = history_replays;
  stamps_drawn = stamps;
  entries_asked = entries;
  attempts_ended = ended;
  floors_covered = floors;
  logs_follow = record { logs = refl; each = each_follows };
  rows_kept = refl;
}
