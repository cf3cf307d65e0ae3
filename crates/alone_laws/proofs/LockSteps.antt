-- A LOCK TABLE of the one session comes to what it comes to in one thread.
use Rattle.std.proofs.Common.{◌≡◌, ◌<◌, ◌≤◌, ◌+◌, ℕ, zero, suc, List, [], ◌∷◌, length, filter, map, take, Bool, true, false, cond, Option, Some, None, Ok, inl, inr, refl, ap, sym, subst, arith}
use Rattle.std.specs.Prelude.{◌⊎◌, ◌==◌, find, slice_get, ◌||◌}
use Rattle.std.specs.List.{AllByRecursion, list_any, range_with_len}
use Rattle.std.proofs.lemmas.Bool.Decides.{nat_tests}
use Rattle.std.proofs.lemmas.List.Elements.{All-contains, All-from_recursion}
use Rattle.sql_base.specs.Scripts.{IsScript, parts_of}
use Rattle.sql_base.specs.declared.lock_names.Mode.{Mode}
use Rattle.sql_base.specs.declared.lock_names.TxnName.{TxnName}
use Rattle.sql_base.specs.declared.outcomes.Abort.{Abort}
use Rattle.sql_base.specs.declared.outcomes.Given.TheVariants.{Silent}
use Rattle.sql_base.specs.declared.scripts.Script.{Script}
use Rattle.sql_base.specs.declared.statements.Statement.TheVariants.{LockTable}
use Rattle.sql_base.specs.declared.tables.TableDef.{TableDef}
use Rattle.dp_messages.specs.declared.requests.Ask.TheVariants as ask
use Rattle.key_sequenced.specs.Cells.{Keyed, records}
use Rattle.one_thread.specs.One.{one, one_on}
use Rattle.partition_state.specs.State.{State}
use Rattle.serial_laws.proofs.InLine.{PartsRise, in_turn-each, in_turn-theirs, single-own}
use Rattle.serial_passes.proofs.Givings.{none_for}
use Rattle.serial_passes.proofs.Tables.{AllFrom, all_same, moved-from, moved-map, rows_of, step_of}
use Rattle.session_grammar.specs.Follows.{AreTheirs, IsPart, IsSingle, asker, projection, InLineBy, WideBy}
use Rattle.session_grammar.specs.Plans.{plan_on}
use Rattle.session_grammar.specs.Rows.{is_for, IsExchange}
use Rattle.session_grammar.specs.declared.logs.LogEntry.{LogEntry}
use Rattle.session_grammar.specs.declared.plans.Sent.{Sent}
use Rattle.alone_laws.specs.Scaffold.Served.{Replies, served_by}
use Rattle.alone_laws.specs.Scaffold.States.{AllLively, AllReply, AreOpen, ComesTo, behind, views, world_of}
use Rattle.alone_laws.proofs.SingleRequests.{lock_came}
use Rattle.alone_laws.proofs.FailingLists.{Breaks, singles_own, turn_breaks}
use Rattle.alone_laws.proofs.ScanSteps.{open_here, part_below, state_at, views_length, views_related}
use Rattle.serial_passes.proofs.Splits.{find-contains}
use Rattle.alone_laws.proofs.ScanPlans.{plan_is}
use Rattle.sql_base.proofs.ListFacts.{all_right, found_passes}

-- a LOCK TABLE
module _ (script : Script) (is : IsScript script) (n : ℕ) (mode : Mode) (table : TableDef) (at : slice_get script.tables n ≡ Some table)
    (qs : List State) (open_qs : AreOpen script qs) (ordinal : ℕ) (t : TxnName) (own : t ≡ record { session = 1; ordinal = ordinal }) (bases : ℕ → List Keyed) (top : ℕ) (lively : AllLively t bases top qs) (es : List LogEntry) (replies : AllReply qs es) where
  abbrev lock_sent : ℕ → Sent
  lock_sent part = record { part = parts_of (take n script.tables) + part; ask = ask.LockGranule [] mode }

  -- a lock of one of the table's partitions
  record LockSent (s : Sent) : Type 0 where
    number : ℕ
    within_table : number < length table.firsts + 1
    part_is : s.part ≡ parts_of (take n script.tables) + number
    ask_is : s.ask ≡ ask.LockGranule [] mode

  lock_sents : (c low : ℕ) → low + c ≤ length table.firsts + 1 → AllByRecursion LockSent (map lock_sent (range_with_len low c)) × PartsRise (parts_of (take n script.tables) + low) (map lock_sent (range_with_len low c))
  lock_sents zero low h = (tt, tt)
  lock_sents (suc c) low h =
      let rest = lock_sents c (low + 1) (omega arith) in (
        (record { number = low; within_table = omega arith; part_is = refl; ask_is = refl }, rest.0),
        (omega arith, subst (λ x. PartsRise x (map lock_sent (range_with_len (low + 1) c))) (let same : parts_of (take n script.tables) + (low + 1) ≡ parts_of (take n script.tables) + low + 1 = omega arith in same) rest.1),
      )

  abbrev ss : List Sent
  ss = map (λ part. record { part = parts_of (take n script.tables) + part; ask = ask.LockGranule [] mode }) (range_with_len 0 (length table.firsts + 1))

  locked_at : (s : Sent) (k : ℕ) (q : State) (list : List LogEntry) (end : Option Abort) → LockSent s → slice_get qs s.part ≡ Some q → Replies q list → IsSingle (asker script 1) ordinal s list end → (records (served_by q list).cells ≡ records q.cells) × (end ≡ None)
  locked_at s k q list end l there told single =
      let here = open_here script table l.number q (open_qs.here n l.number table q at l.within_table (subst (λ x. slice_get qs x ≡ Some q) l.part_is there)) in
      lock_came (asker script 1) ordinal s.part t own (bases s.part) top table script.limits q here (lively s.part q there) list end told [] mode
      (single.0, subst (λ a. IsExchange script.limits.patience s.part (record { ordinal = ordinal; ask = a }) list single.0) l.ask_is single.1, single.2)

  there_at : (s : Sent) → LockSent s → (q : State) × (slice_get qs s.part ≡ Some q)
  there_at s l =
      let below = part_below script.tables n l.number table at l.within_table in
      let enough = open_qs.enough in
      let same = l.part_is in
      state_at qs s.part (omega arith)

  -- no lock fails
  lock_whole : (abort : Abort) (low : ℕ) → AllByRecursion LockSent ss → Breaks (IsSingle (asker script 1) ordinal) low ss es abort → ⊥
  lock_whole abort low locks b =
      let at_sent = all_right LockSent b.front (b.sent ∷ b.back) (subst (AllByRecursion LockSent) b.split locks) in
      let q = there_at b.sent at_sent.0 in
      let h = locked_at b.sent b.sent.part q.0 (projection es b.sent) (Some abort) at_sent.0 q.1 (replies b.sent.part q.0 q.1) b.fails in
      none_some abort h.1
    where
      none_some : (abort : Abort) → Some abort ≡ None → ⊥
      none_some abort e = cc

  still : AreTheirs ss es → AllByRecursion LockSent ss → AllByRecursion (λ s. IsSingle (asker script 1) ordinal s (projection es s) None) ss → (k : ℕ) (q : State) → slice_get qs k ≡ Some q → records q.cells ≡ records (served_by q (filter (is_for k) es)).cells
  still theirs locks all k q there = by_found (find (λ s. s.part == k) ss) refl
    where
      none_any : (xs : List Sent) → find (λ s. s.part == k) xs ≡ None → list_any (λ s. s.part == k) xs ≡ false
      none_any [] h = refl
      none_any (s ∷ xs) h = by_test (s.part == k) h (none_any xs)
        where
          by_test : (b : Bool) → cond b (Some s) (find (λ s. s.part == k) xs) ≡ None → (find (λ s. s.part == k) xs ≡ None → list_any (λ s. s.part == k) xs ≡ false) → (b || (list_any (λ s. s.part == k) xs)) ≡ false
          by_test true h rest = absurd (cc)
          by_test false h rest = rest h

      by_found : (o : Option Sent) → find (λ s. s.part == k) ss ≡ o → records q.cells ≡ records (served_by q (filter (is_for k) es)).cells
      by_found None found = ap (λ list. records (served_by q list).cells) (sym (none_for ss es k theirs (none_any ss found)))
      by_found (Some s) found =
          let there_is = find-contains (λ s. s.part == k) ss s found in
          let passes = found_passes (λ (s : Sent). s.part == k) ss s found in
          let same : s.part ≡ k = grind (arith, nat_tests) in
          let l = All-contains LockSent ss s (All-from_recursion LockSent ss locks) there_is in
          let single = All-contains (λ s. IsSingle (asker script 1) ordinal s (projection es s) None) ss s (All-from_recursion (λ s. IsSingle (asker script 1) ordinal s (projection es s) None) ss all) there_is in
          let there_s : slice_get qs s.part ≡ Some q = subst (λ x. slice_get qs x ≡ Some q) (sym same) there in
          subst (λ x. records q.cells ≡ records (served_by q (filter (is_for x) es)).cells) same (sym (locked_at s k q (projection es s) None l there_s (replies s.part q there_s) single).0)

  locked : ((k : ℕ) (q : State) → slice_get qs k ≡ Some q → records q.cells ≡ records (served_by q (filter (is_for k) es)).cells) → one (world_of script.tables qs) (LockTable n mode) ≡ (Ok Silent, world_of script.tables (behind 0 qs es))
  locked each =
      step_of script.tables (views qs) (views (behind 0 qs es)) (LockTable n mode) table Silent at
      (moved-map
      {B = λ bx by. AllFrom (λ j v w. v ≡ w) 0 bx by × (length bx ≡ length table.firsts + 1)}
      {C = λ bx by. one_on table (LockTable n mode) (rows_of bx) ≡ record { given = Ok Silent; records = rows_of by }}
      script.tables n (views qs) (views (behind 0 qs es))
      (λ bx by h. λ i. record { given = Ok Silent; records = rows_of (all_same (λ j v w. v ≡ w) 0 bx by h.0 (λ k v w low same. same) i) })
      (moved-from {R = λ k v w. v ≡ w} {P = λ j v w. v ≡ w} script.tables n 0 table (views qs) (views (behind 0 qs es)) at
      (let long = views_length qs in let enough = open_qs.enough in omega arith)
      (views_related (λ k v w. v ≡ w) es qs 0 (λ k q there. let zero_k : k ≡ 0 + k = omega arith in subst (λ x. records q.cells ≡ records (served_by q (filter (is_for x) es)).cells) zero_k (each k q there)))
      (λ j v w less same. same) (λ k v w where_is same. same)))

  pub lock_comes : (end : Option Abort) → IsPart (asker script 1) ordinal (LockTable n mode) es end → ComesTo script qs (LockTable n mode) es end
  lock_comes end part =
      by_part end (subst (λ p. InLineBy (asker script 1) ordinal p es end ⊎ WideBy (asker script 1) ordinal p es end)
      (plan_is script (LockTable n mode) table at) part)
    where
      sents : AllByRecursion LockSent ss × PartsRise (parts_of (take n script.tables) + 0) ss
      sents = lock_sents (length table.firsts + 1) 0 (omega arith)

      by_part : (end : Option Abort) → InLineBy (asker script 1) ordinal (plan_on (asker script 1) table (LockTable n mode)) es end ⊎ WideBy (asker script 1) ordinal (plan_on (asker script 1) table (LockTable n mode)) es end
          → ComesTo script qs (LockTable n mode) es end
      by_part None (inl (lists, es_is, turns)) =
          locked (still (subst (AreTheirs ss) (sym es_is) (in_turn-theirs (IsSingle (asker script 1) ordinal) (single-own (asker script 1) ordinal) ss lists turns)) sents.0
          (subst (λ l. AllByRecursion (λ s. IsSingle (asker script 1) ordinal s (projection l s) None) ss) (sym es_is) (in_turn-each (IsSingle (asker script 1) ordinal) (single-own (asker script 1) ordinal) (parts_of (take n script.tables) + 0) ss lists sents.1 turns)))
      by_part (Some abort) (inl (lists, es_is, turns)) =
          absurd (lock_whole abort (parts_of (take n script.tables) + 0) sents.0
          (subst (λ l. Breaks (IsSingle (asker script 1) ordinal) (parts_of (take n script.tables) + 0) ss l abort) (sym es_is)
          (turn_breaks (IsSingle (asker script 1) ordinal) (singles_own (asker script 1) ordinal) (parts_of (take n script.tables) + 0) ss lists abort sents.1 turns)))
      by_part end (inr wide) = absurd wide
