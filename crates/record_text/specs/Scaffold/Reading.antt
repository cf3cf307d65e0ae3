-- How the attempts of a session are read from its log.
use Rattle.std.specs.Prelude.{ℕ, zero, suc, ◌+◌, ◌==◌, List, [], ◌∷◌, ◌++◌, length, take, drop, Option, Some, None, Bool, true, false, not, ◌&&◌, if◌then◌else◌}
use Rattle.std.specs.List.{range_with_len}
use Rattle.sql_base.specs.declared.outcomes.Abort.{Abort}
use Rattle.sql_base.specs.declared.outcomes.Abort.TheVariants.{LockedOut}
use Rattle.sql_base.specs.declared.outcomes.Given.{Given}
use Rattle.sql_base.specs.declared.outcomes.Outcome.{Outcome}
use Rattle.sql_base.specs.declared.outcomes.Outcome.TheVariants.{Committed, RolledBack, Aborted}
use Rattle.sql_base.specs.declared.scripts.Script.{Script}
use Rattle.sql_base.specs.declared.scripts.Work.{Work}
use Rattle.sql_base.specs.declared.statements.Statement.{Statement}
use Rattle.sql_base.specs.declared.tables.TableDef.{TableDef}
use Rattle.sql_base.specs.declared.values.Value.{Value}
use Rattle.one_thread.specs.declared.shown.Shown.{Shown}
use Rattle.dp_messages.specs.declared.replies.Reply.{Reply as PartitionReply}
use Rattle.dp_messages.specs.declared.replies.Reply.TheVariants as reply
use Rattle.session_grammar.specs.Follows.{asker}
use Rattle.session_grammar.specs.Plans.{Asker, plan_of, sents_of}
use Rattle.session_grammar.specs.Rows.{failure, is_end}
use Rattle.session_grammar.specs.declared.logs.Answer.TheVariants.{Reply, Stamp}
use Rattle.session_grammar.specs.declared.logs.LogEntry.{LogEntry}
use Rattle.session_grammar.specs.declared.logs.LogEntry.TheVariants.{Asked, Drew}
use Rattle.run_record.specs.Serial.{part_gives}

-- the attempt of an entry, and how many entries at the front of a log are of one attempt
abbrev pub ordinal_of : LogEntry → ℕ
ordinal_of (Asked part sync request losses answer) = request.ordinal
ordinal_of (Drew name floor answer) = name.ordinal

abbrev pub own_length : ℕ → List LogEntry → ℕ
own_length ordinal [] = 0
own_length ordinal (e ∷ es) = if ordinal_of e == ordinal then suc (own_length ordinal es) else 0

-- the entries at the front, and those behind them
abbrev pub own : ℕ → List LogEntry → List LogEntry
own ordinal log = take (own_length ordinal log) log

abbrev pub behind : ℕ → List LogEntry → List LogEntry
behind ordinal log = drop (own_length ordinal log) log

abbrev pub or_else : {A : Type 0} → Option A → Option A → Option A
or_else (Some x) other = Some x
or_else None other = other

-- the stamp that was drawn
abbrev pub stamp_of : LogEntry → Option ℕ
stamp_of (Drew name floor (Stamp stamp)) = Some stamp
stamp_of entry = None

abbrev pub drawn : List LogEntry → Option ℕ
drawn [] = None
drawn (e ∷ es) = or_else (stamp_of e) (drawn es)

-- how the last answer of a partition before an End fails the attempt, if it does
abbrev pub failure_behind : ℕ → Option Abort → LogEntry → Option Abort
failure_behind part found (Asked p sync request losses answer) = if (p == part) && not (is_end request.ask) then failure answer else found
failure_behind part found (Drew name floor answer) = found

abbrev pub last_failure : ℕ → Option Abort → List LogEntry → Option Abort
last_failure part found [] = found
last_failure part found (e ∷ es) = last_failure part (failure_behind part found e) es

-- the failure of the lowest of the partitions that failed
abbrev pub first_failure : List LogEntry → List ℕ → Option Abort
first_failure es [] = None
first_failure es (part ∷ parts) = or_else (last_failure part None es) (first_failure es parts)

-- the tables of a script have no more partitions together
abbrev pub most_parts : ℕ
most_parts = 16

abbrev pub outcome_by : Option ℕ → Option Abort → Outcome
outcome_by (Some stamp) failed = Committed stamp
outcome_by None (Some abort) = Aborted abort
outcome_by None None = RolledBack

-- how an attempt with these entries ended
abbrev pub outcome_of : List LogEntry → Outcome
outcome_of es = outcome_by (drawn es) (first_failure es (range_with_len 0 most_parts))

-- the entry is the last of a subset or request that was done
abbrev pub closes_reply : PartitionReply → Bool
closes_reply (reply.Locked lock) = false
closes_reply (reply.Redrive subset last cause rows changed) = false
closes_reply other = true

abbrev pub closes : LogEntry → Bool
closes (Asked part sync request losses (Reply r)) = closes_reply r
closes entry = false

-- how many entries at the front are the part of a finished statement with so many subsets or requests
abbrev pub part_length : ℕ → List LogEntry → ℕ
part_length zero es = 0
part_length (suc more) [] = 0
part_length (suc more) (e ∷ es) = suc (part_length (if closes e then more else suc more) es)

abbrev pub how_many : Asker → Statement → ℕ
how_many r statement = length (sents_of (plan_of r statement))

-- what finished statements gave
abbrev pub givens_read : Asker → List Statement → List LogEntry → List Given
givens_read r [] es = []
givens_read r (statement ∷ statements) es =
    part_gives r statement (take (part_length (how_many r statement) es) es) ∷ givens_read r statements (drop (part_length (how_many r statement) es) es)

-- an aborted attempt shows nothing
abbrev pub given_by : Outcome → List Given → List Given
given_by (Aborted abort) given = []
given_by outcome given = given

abbrev pub shown_read : Asker → ℕ → Work → List LogEntry → Shown
shown_read r ordinal work es = record { session = r.number; ordinal = ordinal; outcome = outcome_of es; given = given_by (outcome_of es) (givens_read r work.statements es) }

-- another attempt may follow
abbrev pub is_locked_out : Outcome → Bool
is_locked_out (Aborted LockedOut) = true
is_locked_out outcome = false

-- the attempts of a transaction, at most so many more behind the first
abbrev pub tries_read : Asker → Work → ℕ → ℕ → List LogEntry → List Shown
tries_read r work ordinal zero log = shown_read r ordinal work (own ordinal log) ∷ []
tries_read r work ordinal (suc more) log =
    shown_read r ordinal work (own ordinal log) ∷ (if is_locked_out (outcome_of (own ordinal log)) then tries_read r work (ordinal + 1) more (behind ordinal log) else [])

-- the log behind so many attempts
abbrev pub behind_all : ℕ → ℕ → List LogEntry → List LogEntry
behind_all ordinal zero log = log
behind_all ordinal (suc n) log = behind_all (ordinal + 1) n (behind ordinal log)

-- the attempts of a session's transactions
abbrev pub works_read : Asker → ℕ → List Work → List LogEntry → List Shown
works_read r ordinal [] log = []
works_read r ordinal (work ∷ works) log =
    let tries = tries_read r work ordinal r.limits.restart log in tries ++ works_read r (ordinal + length tries) works (behind_all ordinal (length tries) log)

-- the attempts of the sessions from this number on
abbrev pub sessions_read : Script → ℕ → List (List Work) → List (List LogEntry) → List Shown
sessions_read script session (works ∷ rest) (log ∷ logs) = works_read (asker script session) 1 works log ++ sessions_read script (session + 1) rest logs
sessions_read script session (works ∷ rest) [] = []
sessions_read script session [] logs = []

-- the rows of each table: those of its partitions, one after the other
abbrev pub rows_joined : List (List (List Value)) → List (List Value)
rows_joined [] = []
rows_joined (rows ∷ parts) = rows ++ rows_joined parts

abbrev pub tables_read : List TableDef → List (List (List Value)) → List (List (List Value))
tables_read [] parts = []
tables_read (table ∷ tables) parts = rows_joined (take (length table.firsts + 1) parts) ∷ tables_read tables (drop (length table.firsts + 1) parts)
