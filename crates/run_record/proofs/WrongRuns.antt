-- Wrong runs, and which definition refuses each: a table with the records 1 to 3, which the first session reads by quanta of two.
use Rattle.std.proofs.Common.{◌≡◌, ◌≤◌, ℕ, pos, List, [], ◌∷◌, ◌++◌, None, Some, refl, subst, lit≤, arith}
use Rattle.std.specs.List.{AllZip}
use Rattle.sql_base.specs.Rows.{key_value}
use Rattle.sql_base.specs.declared.faults.Cause.TheVariants as cause
use Rattle.sql_base.specs.declared.key_ranges.KeyRange.{KeyRange}
use Rattle.sql_base.specs.declared.key_ranges.Start.TheVariants.{At, After}
use Rattle.sql_base.specs.declared.lock_names.Access.TheVariants.{Repeatable, Stable}
use Rattle.sql_base.specs.declared.scripts.Script.{Script}
use Rattle.sql_base.specs.declared.statements.Statement.{Statement}
use Rattle.sql_base.specs.declared.statements.Statement.TheVariants.{Select}
use Rattle.sql_base.specs.declared.tables.ColumnKind.TheVariants.{Int}
use Rattle.sql_base.specs.declared.values.Value.TheVariants as value
use Rattle.commit_journal.specs.declared.Drawn.{Drawn}
use Rattle.dp_messages.specs.declared.replies.Reply.{Reply as PartitionReply}
use Rattle.dp_messages.specs.declared.replies.Reply.TheVariants as reply
use Rattle.dp_messages.specs.declared.requests.Ask.{Ask}
use Rattle.dp_messages.specs.declared.requests.Ask.TheVariants as ask
use Rattle.partition_state.specs.History.{IsLegal}
use Rattle.session_grammar.specs.Plans.{plan_of}
use Rattle.session_grammar.specs.declared.plans.Sent.{Sent}
use Rattle.session_grammar.specs.Follows.{projection, asker}
use Rattle.session_grammar.specs.declared.logs.Answer.TheVariants.{Stamp}
use Rattle.session_grammar.specs.declared.logs.LogEntry.{LogEntry}
use Rattle.session_grammar.specs.declared.logs.LogEntry.TheVariants.{Drew}
use Rattle.commit_journal.specs.Journal.{StampsRise}
use Rattle.run_record.specs.Legal.{AttemptsEnded, EntriesAsked, FloorsCovered}
use Rattle.run_record.specs.Openings.{openings}
use Rattle.run_record.specs.Serial.{RanAlone}
use Rattle.run_record.specs.Tiles.{Interval, MatchesAround, PieceTiles, Tiles, TilesOn, around}
use Rattle.run_record.specs.declared.records.RunRecord.{RunRecord}
use Rattle.run_record.proofs.TwoSessions.{all_four, asked, both, entry, first_draw, kept, name, reader, reading, scan, script, second_draw, table}

-- the key of a record
abbrev key : ℕ → List ℕ
key k = key_value Int (value.Int (pos k))

-- the first session alone, by quanta of two
abbrev by_two : Script
by_two = record script { limits = record { quantum = 2; buffer = 4096; patience = 8; servers = 2; restart = 0 }; sessions = (reading ∷ []) ∷ [] }

-- it draws the first stamp
abbrev drawn : Drawn
drawn = record { name = name 1; floor = 0; stamp = 1 }

-- the first quantum gives some rows and stops at the key 2
abbrev first_reply : List (List ℕ) → PartitionReply
first_reply rows = reply.Redrive 1 (key 2) cause.Visits rows 0

-- the SELECT's part of the log, where those are the rows, and the next request was this and gave these
abbrev part : List (List ℕ) → Ask → List (List ℕ) → List LogEntry
part rows next more = asked 1 scan (first_reply rows) ∷ asked 2 next (reply.Ended more 0) ∷ []

-- the record with that part
abbrev run : List (List ℕ) → Ask → List (List ℕ) → RunRecord
run rows next more = record {
  histories = (entry 1 1 scan (first_reply rows) ∷ entry 1 2 next (reply.Ended more 0) ∷ entry 1 3 ask.Prepare (reply.Floor 0) ∷ entry 1 4 (ask.EndCommit 1) reply.Done ∷ []) ∷ [];
  rows = [];
  journal = drawn ∷ [];
  logs = (part rows next more ++ asked 3 ask.Prepare (reply.Floor 0) ∷ Drew (name 1) 0 (Stamp 1) ∷ asked 4 (ask.EndCommit 1) reply.Done ∷ []) ∷ [];
  acts = [];
}

-- what is asked next
abbrev next_two : Ask
next_two = ask.Continue 1 (key 2)

-- the statement, the range of its one piece, and the request of it
abbrev select : Statement
select = Select 0 (0 ∷ 1 ∷ []) None Repeatable

abbrev all_keys : KeyRange
all_keys = record { low = 0 ∷ 0 ∷ 0 ∷ 0 ∷ 0 ∷ 0 ∷ 0 ∷ 0 ∷ []; high = 0xFF ∷ 0xFF ∷ 0xFF ∷ 0xFF ∷ 0xFF ∷ 0xFF ∷ 0xFF ∷ 0xFF ∷ [] }

abbrev sent : Sent
sent = record { part = 0; ask = scan }

-- the right run
abbrev right : RunRecord
right = run (both 1 ∷ both 2 ∷ []) next_two (both 3 ∷ [])

-- it replays
right_replays : AllZip IsLegal (openings by_two) right.histories
right_replays = (((lit≤ tt, lit≤ tt), refl, ((lit≤ tt, lit≤ tt), refl, ((lit≤ tt, lit≤ tt), refl, ((lit≤ tt, lit≤ tt), refl, tt)))), tt)

-- its first quantum shows the two records up to the key 2, and the second the one behind it
first_exact : MatchesAround table select (record { start = At all_keys.low; end = key 2 }) (first_reply (both 1 ∷ both 2 ∷ [])) (around by_two right 1 0 1)
first_exact = ((refl, (refl, tt)), (refl, refl))

second_exact : MatchesAround table select (record { start = After (key 2); end = all_keys.high }) (reply.Ended (both 3 ∷ []) 0) (around by_two right 1 0 2)
second_exact = ((refl, tt), (refl, refl))

-- what an entry shows in an interval, it shows in each that is the same
same_interval : (sync : ℕ) (r : PartitionReply) (one i : Interval) → Some one ≡ Some i → MatchesAround table select one r (around by_two right 1 0 sync)
    → MatchesAround table select i r (around by_two right 1 0 sync)
same_interval sync r one i is h =
    let same : one ≡ i = cc in
    subst (λ x. MatchesAround table select x r (around by_two right 1 0 sync)) same h

-- so its part tiles the range
right_tiles : Tiles by_two right 1 select (part (both 1 ∷ both 2 ∷ []) next_two (both 3 ∷ []))
right_tiles = (
  table,
  refl,
  (
    (refl, (refl, tt)),
    (
      (
        all_keys,
        refl,
        record {
          cover = (refl, refl, refl, (refl, refl));
          exact = (λ i is. same_interval 1 (first_reply (both 1 ∷ both 2 ∷ [])) _ i is first_exact, (λ i is. same_interval 2 (reply.Ended (both 3 ∷ []) 0) _ i is second_exact, tt));
        },
      ),
      tt,
    ),
  ),
)

-- what tiles the range of the SELECT tiles its one piece
on_table : (wrong : RunRecord) (entries : List LogEntry) → TilesOn by_two wrong 1 table select (plan_of (asker by_two 1) select) entries
    → PieceTiles by_two wrong 1 table select all_keys (projection entries sent)
on_table wrong entries (theirs, ((range, is, tiles), none)) =
    let same : range ≡ all_keys = cc is in
    subst (λ r. PieceTiles by_two wrong 1 table select r (projection entries sent)) same tiles

piece : (wrong : RunRecord) (entries : List LogEntry) → Tiles by_two wrong 1 select entries → PieceTiles by_two wrong 1 table select all_keys (projection entries sent)
piece wrong entries (of, is, tiles) =
    let same : of ≡ table = cc is in
    on_table wrong entries (subst (λ t. TilesOn by_two wrong 1 t select (plan_of (asker by_two 1) select) entries) same tiles)

-- the first quantum passes over the record 2: the step gives no such reply
abbrev skipping : RunRecord
skipping = run (both 1 ∷ []) next_two (both 3 ∷ [])

skips_a_record : AllZip IsLegal (openings by_two) skipping.histories → ⊥
skips_a_record h = cc h.0.1

-- nor does its part tile the range, for the redrive names a key behind the rows
skip_tiles_not : Tiles by_two skipping 1 select (part (both 1 ∷ []) next_two (both 3 ∷ [])) → ⊥
skip_tiles_not h =
    let exact = (piece skipping (part (both 1 ∷ []) next_two (both 3 ∷ [])) h).exact in
    cc ((exact.0 (record { start = At all_keys.low; end = key 2 }) refl).1.0)

-- the second request begins at the record 2 again, where the first one ended: its interval doesn't start just after that
abbrev again : Ask
again = ask.BeginRead Repeatable [] (record { low = key 2; high = all_keys.high }) None (0 ∷ 1 ∷ [])

abbrev twice : RunRecord
twice = run (both 1 ∷ both 2 ∷ []) again (both 2 ∷ both 3 ∷ [])

reads_a_record_twice : Tiles by_two twice 1 select (part (both 1 ∷ both 2 ∷ []) again (both 2 ∷ both 3 ∷ [])) → ⊥
reads_a_record_twice h =
    let cover = (piece twice (part (both 1 ∷ both 2 ∷ []) again (both 2 ∷ both 3 ∷ [])) h).cover in
    cc cover.3.0

-- a Continue that names the record before the one that the redrive named gets no rows
goes_back : AllZip IsLegal (openings by_two) (run (both 1 ∷ both 2 ∷ []) (ask.Continue 1 (key 1)) (both 2 ∷ both 3 ∷ [])).histories → ⊥
goes_back h = cc h.0.2.1

-- a quantum that stops before the end, and nothing behind it
stops_early : Tiles by_two right 1 select (asked 1 scan (first_reply (both 1 ∷ both 2 ∷ [])) ∷ []) → ⊥
stops_early h =
    let cover = (piece right (asked 1 scan (first_reply (both 1 ∷ both 2 ∷ [])) ∷ []) h).cover in
    cc cover.1

-- the record of two sessions with other stamps
abbrev stamped : List Drawn → RunRecord
stamped journal = record kept { journal = journal }

-- the reader draws above no floor, though the partition replied 1; its stamp is still the next one
abbrev low_draw : Drawn
low_draw = record { name = name 1; floor = 0; stamp = 2 }

low_floor_rises : StampsRise 0 (first_draw ∷ low_draw ∷ [])
low_floor_rises = (refl, (refl, tt))

floor_too_low : FloorsCovered (stamped (first_draw ∷ low_draw ∷ [])) → ⊥
floor_too_low h = let covered : 1 ≤ 0 = h.1.0.0.1.1.1.1.0 1 refl refl in omega arith

-- the commits in the other order, a stamp that was drawn twice, and one that was left out
out_of_order : StampsRise 0 (second_draw ∷ first_draw ∷ []) → ⊥
out_of_order h = cc h.1.0

drawn_twice : StampsRise 0 (first_draw ∷ record { name = name 1; floor = 0; stamp = 1 } ∷ []) → ⊥
drawn_twice h = cc h.1.0

left_out : StampsRise 0 (first_draw ∷ record { name = name 1; floor = 1; stamp = 3 } ∷ []) → ⊥
left_out h = cc h.1.0

-- a STABLE reader is shown the record that another has inserted and not committed
abbrev stable_scan : Ask
stable_scan = ask.BeginRead Stable [] all_keys None (0 ∷ 1 ∷ [])

shows_anothers : AllZip IsLegal (openings script) ((entry 2 1 (ask.Insert (both 9)) reply.Done ∷ entry 1 1 stable_scan all_four ∷ []) ∷ []) → ⊥
shows_anothers h = cc h.0.2.1

-- it is shown the three before it, and stops at the lock
stops_at_anothers : AllZip IsLegal (openings script)
    ((entry 2 1 (ask.Insert (both 9)) reply.Done ∷ entry 1 1 stable_scan (reply.Redrive 1 (key 3) cause.Lock (both 1 ∷ both 2 ∷ both 3 ∷ []) 0) ∷ []) ∷ [])
stops_at_anothers = (((lit≤ tt, lit≤ tt), refl, ((lit≤ tt, lit≤ tt), refl, tt)), tt)

-- an attempt in two partitions whose commit comes to the first alone
abbrev half_committed : RunRecord
half_committed = record {
  histories = (entry 1 1 scan (reply.Ended [] 0) ∷ entry 1 3 ask.Prepare (reply.Floor 0) ∷ entry 1 5 (ask.EndCommit 1) reply.Done ∷ [])
      ∷ (entry 1 2 scan (reply.Ended [] 0) ∷ entry 1 4 ask.Prepare (reply.Floor 0) ∷ []) ∷ [];
  rows = [];
  journal = drawn ∷ [];
  logs = [];
  acts = [];
}

commits_in_one : AttemptsEnded by_two half_committed → ⊥
commits_in_one h = cc h.ends.1.0.0

-- and one that isn't in the journal, and committed in a partition
commits_unstamped : AttemptsEnded by_two (record half_committed { journal = [] }) → ⊥
commits_unstamped h = cc h.ends.0.0.0

-- the reader's stamp is above the writer's, but it is shown the three records from before
abbrev three : PartitionReply
three = reply.Ended (both 1 ∷ both 2 ∷ both 3 ∷ []) 0

shows_too_few : RanAlone script kept 1 (record reader { parts = (asked 1 scan three ∷ []) ∷ [] }) second_draw → ⊥
shows_too_few h = cc h.results

-- the log has another reply than the history
replies_differ : EntriesAsked by_two (record right { logs = part (both 1 ∷ []) next_two (both 3 ∷ []) ∷ [] }) → ⊥
replies_differ h = cc ((h.served 0 1 (lit≤ tt) (lit≤ tt, lit≤ tt)).1)

-- the history has an entry that the log didn't ask
asked_by_none : EntriesAsked by_two (record right { logs = (asked 1 scan (first_reply (both 1 ∷ both 2 ∷ [])) ∷ []) ∷ [] }) → ⊥
asked_by_none h = cc ((h.served 0 1 (lit≤ tt) (lit≤ tt, lit≤ tt)).2)
