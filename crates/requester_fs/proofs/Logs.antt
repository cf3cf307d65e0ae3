-- Logs with what is under way, and the syncs of both.
use Rattle.std.proofs.Common.{◌≡◌, ◌≤◌, ℕ, ◌+◌, List, [], ◌∷◌, ◌++◌, length, refl, ap, sym, subst, inr, arith}
use Rattle.std.specs.Prelude.{◌↔◌, Err, Ok, OnOk, Result}
use Rattle.std.specs.List.{AllByRecursion}
use Rattle.std.proofs.lemmas.List.{append-nil}
use Rattle.sql_base.specs.declared.faults.NoMemory.{NoMemory}
use Rattle.sql_base.specs.declared.scripts.Script.{Script}
use Rattle.dp_messages.specs.declared.replies.Reply.TheVariants as reply
use Rattle.dp_messages.specs.declared.requests.Ask.{Ask}
use Rattle.dp_messages.specs.declared.requests.Ask.TheVariants as ask
use Rattle.session_grammar.specs.Follows.{CountSyncs, asker, in_line, works_of}
use Rattle.session_grammar.specs.Rows.{IsSent}
use Rattle.session_grammar.specs.Sessions.{IsSessionOf, MayCome, Working, entries_kept, sync_behind}
use Rattle.session_grammar.specs.UnderWay.{Asks, Awaiting, BeginsWith, Drawing, IsAbove, IsFilled, Sending, UnderWay}
use Rattle.session_grammar.specs.declared.logs.Answer.{Answer}
use Rattle.session_grammar.specs.declared.logs.Answer.TheVariants.{PathFailed, Reply, Stamp}
use Rattle.session_grammar.specs.declared.logs.LogEntry.{LogEntry}
use Rattle.session_grammar.specs.declared.logs.LogEntry.TheVariants.{Asked, Drew}
use Rattle.session_grammar.proofs.Readings.{follows-in_line}
use Rattle.requester_fs.specs.Asking.{Asking, HasTaken, IsSame, next_at, places_of}
use Rattle.requester_fs.specs.Asking.{working}
use Rattle.session_grammar.proofs.LogLists.{none_filled}
use Rattle.sql_base.proofs.ListFacts.{only-one}

-- syncs count up
pub behind_least : (n : ℕ) (log : List LogEntry) → n ≤ sync_behind n log
behind_least n [] = omega arith
behind_least n (Asked part sync request losses answer ∷ log) = omega (arith, behind_least (n + 1) log)
behind_least n (Drew name floor answer ∷ log) = behind_least n log

pub behind_most : (n : ℕ) (log : List LogEntry) → sync_behind n log ≤ n + length log
behind_most n [] = omega arith
behind_most n (Asked part sync request losses answer ∷ log) = omega (arith, behind_most (n + 1) log)
behind_most n (Drew name floor answer ∷ log) = omega (arith, behind_most n log)

pub all_above : (n : ℕ) (log : List LogEntry) (s : Sending) → CountSyncs n log → sync_behind n log ≤ s.sync → AllByRecursion (λ e. IsAbove e s) log
all_above n [] s count le = tt
all_above n (Asked part sync request losses answer ∷ log) s count le = (λ same. omega (arith, count.0, behind_least (n + 1) log, le), all_above (n + 1) log s count.1 le)
all_above n (Drew name floor answer ∷ log) s count le = (tt, all_above n log s count le)

-- something may come to whatever was asked
some_answer : (a : Ask) → (answer : Answer) × (losses : ℕ) × IsSent a losses answer
some_answer (ask.BeginRead access granule range filter columns) = (PathFailed, 4, (refl, refl))
some_answer (ask.BeginUpdate access granule range filter sets) = (PathFailed, 4, (refl, refl))
some_answer (ask.BeginDelete access granule range filter) = (PathFailed, 4, (refl, refl))
some_answer (ask.Continue subset last) = (PathFailed, 4, (refl, refl))
some_answer (ask.ReadKey access key filter columns) = (PathFailed, 4, (refl, refl))
some_answer (ask.Insert row) = (PathFailed, 4, (refl, refl))
some_answer (ask.LockGranule prefix mode) = (PathFailed, 4, (refl, refl))
some_answer ask.Prepare = (PathFailed, 4, (refl, refl))
some_answer (ask.EndCommit stamp) = (Reply reply.Done, 0, (omega arith, refl))
some_answer ask.EndUndo = (Reply reply.Done, 0, (omega arith, refl))

-- it has no more than one request under way
abbrev pub IsOne : UnderWay → Type 0
IsOne (Awaiting []) = Unit {0}
IsOne (Awaiting (s ∷ [])) = Unit {0}
IsOne (Awaiting (s ∷ t ∷ sends)) = ⊥
IsOne (Drawing name floor) = Unit {0}

pub one_place : (way : UnderWay) → IsOne way → places_of way ≡ 1
one_place (Awaiting []) one = refl
one_place (Awaiting (s ∷ [])) one = refl
one_place (Awaiting (s ∷ t ∷ sends)) one = absurd one
one_place (Drawing name floor) one = refl

-- an open request is put in at the end
filled : (s : Sending) (log : List LogEntry) (losses : ℕ) (answer : Answer) → IsFilled (s ∷ []) log (log ++ Asked s.part s.sync s.request losses answer ∷ [])
filled s log losses answer =
    let e = Asked s.part s.sync s.request losses answer in
    record {
      front = log;
      tail = [];
      back = e ∷ [];
      answered = e ∷ [];
      log_is = sym (append-nil log);
      whole_is = refl;
      draws_nothing = tt;
      answers = ((losses, answer, refl), tt);
      merged = inr ([], refl, (refl, refl));
    }

module _ (script : Script) (number : ℕ) (log : List LogEntry) where
  abbrev at_way : UnderWay → Working
  at_way way = working (record { script = script; number = number; log = log; way = way })

  pub begins_with : (way : UnderWay) → IsOne way → IsSessionOf script number (at_way way) → BeginsWith script number way log
  begins_with (Awaiting []) one exact =
      let whole = exact.ends_where_whole.0 refl in
      (log, [], none_filled log, follows-in_line (asker script number) (works_of script number) (log ++ []) (subst (in_line script number) (sym (append-nil log)) whole))
  begins_with (Awaiting (s ∷ [])) one exact =
      let came = some_answer s.request.ask in
      let more = exact.goes_on came.0 came.1 came.2 in
      let whole = log ++ Asked s.part s.sync s.request came.1 came.0 ∷ [] in
      (whole, more.0, filled s log came.1 came.0, follows-in_line (asker script number) (works_of script number) (whole ++ more.0) more.1)
  begins_with (Awaiting (s ∷ t ∷ sends)) one exact = absurd one
  begins_with (Drawing name floor) one exact =
      let more = exact.goes_on (Stamp 0) 0 tt in
      let whole = log ++ Drew name floor (Stamp 0) ∷ [] in
      (whole, more.0, (0, refl), follows-in_line (asker script number) (works_of script number) (whole ++ more.0) more.1)

-- what was answered stands at the end of the log
pub has_taken : (a b : Asking) (answer : Answer) (losses : ℕ) → IsOne a.way → MayCome (next_at a.way 0) answer losses → b.log ≡ a.log ++ entries_kept (next_at a.way 0) answer losses
    → Asks a.script a.number b.log b.way → HasTaken a (next_at a.way 0) answer losses b
has_taken a b answer losses one may kept asks = by a.way refl one may kept
  where
    by : (way : UnderWay) → a.way ≡ way → IsOne way → MayCome (next_at way 0) answer losses → b.log ≡ a.log ++ entries_kept (next_at way 0) answer losses → HasTaken a (next_at way 0) answer losses b
    by (Awaiting []) is one may kept = absurd may
    by (Awaiting (s ∷ [])) is one may kept = (
      s ∷ [],
      is,
      record { put_in = (a.log, [], sym (append-nil a.log), kept, refl); stay = λ other among differ. absurd (differ (ap (λ (x : Sending). x.part) (only-one s other among))); asks = asks },
    )
    by (Awaiting (s ∷ t ∷ sends)) is one may kept = absurd one
    by (Drawing name floor) is one may kept = by_answer answer may kept
      where
        by_answer : (w : Answer) → MayCome (next_at (Drawing name floor) 0) w losses → b.log ≡ a.log ++ entries_kept (next_at (Drawing name floor) 0) w losses → HasTaken a (next_at (Drawing name floor) 0) w losses b
        by_answer (Stamp stamp) may kept = record { put_in = kept; asks = asks }
        by_answer (Reply x) may kept = absurd may
        by_answer PathFailed may kept = absurd may

-- it works for the same session as before
pub same_allows : (x : Result (Unit {0}) NoMemory) (a b : Asking) → OnOk x (IsSame a b) → OnOk x ((log : List LogEntry) → in_line b.script b.number log ↔ in_line a.script a.number log)
same_allows (Err e) a b h = tt
same_allows (Ok done) a b h = λ log. (
  λ line. subst (λ n. in_line a.script n log) h.number (subst (λ s. in_line s b.number log) h.script line),
  λ line. subst (λ s. in_line s b.number log) (sym h.script) (subst (λ n. in_line a.script n log) (sym h.number) line),
)

-- it still has one place
pub one_place_still : (x : Result (Unit {0}) NoMemory) (b : Asking) → OnOk x (places_of b.way ≡ 1) → OnOk x (Unit {0} → places_of b.way ≡ 1)
one_place_still (Err e) b h = tt
one_place_still (Ok done) b h = λ single. h
