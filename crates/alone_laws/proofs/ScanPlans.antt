-- A SELECT, UPDATE or DELETE of the one session comes to what it comes to in one thread.
use Rattle.std.proofs.Common.{◌≡◌, ◌<◌, ◌≤◌, ◌+◌, ℕ, List, [], ◌∷◌, length, map, take, Bool, true, false, cond, Option, Some, None, inl, inr, refl, ap, sym, ◌∙◌, subst, arith}
use Rattle.std.specs.Prelude.{◌⊎◌, slice_get, unwrap_or, option_map}
use Rattle.std.specs.List.{AllByRecursion}
use Rattle.sql_base.specs.Keys.{key_eq}
use Rattle.sql_base.specs.Scripts.{IsScript, parts_of}
use Rattle.sql_base.specs.Tables.{IsTable, SuitsTable, table_of}
use Rattle.sql_base.specs.declared.expressions.Expr.{Expr}
use Rattle.sql_base.specs.declared.key_ranges.KeyRange.{KeyRange}
use Rattle.sql_base.specs.declared.lock_names.Access.{Access}
use Rattle.sql_base.specs.declared.lock_names.TxnName.{TxnName}
use Rattle.sql_base.specs.declared.outcomes.Abort.{Abort}
use Rattle.sql_base.specs.declared.scripts.Script.{Script}
use Rattle.sql_base.specs.declared.statements.Statement.{Statement}
use Rattle.sql_base.specs.declared.statements.Statement.TheVariants.{Select}
use Rattle.sql_base.specs.declared.tables.TableDef.{TableDef}
use Rattle.dp_messages.specs.declared.requests.Ask.{Ask}
use Rattle.dp_messages.specs.declared.requests.Ask.TheVariants as ask
use Rattle.key_sequenced.specs.Cells.{Keyed, records}
use Rattle.partition_map.specs.Map.{part_of}
use Rattle.partition_state.specs.State.{State}
use Rattle.range_finder.specs.Range.{range}
use Rattle.run_record.specs.Tiles.{range_of}
use Rattle.serial_laws.specs.Scaffold.Exact.{IsSet}
use Rattle.serial_laws.specs.Scaffold.Stages.{Fresh, RoomFor, begin_of}
use Rattle.serial_laws.proofs.Finished.{PieceSent, range_is, sents-are, sents_from}
use Rattle.serial_laws.proofs.InLine.{IsOwn, PartsRise, in_turn-each, in_turn-theirs, list-own, single-own, together-each}
use Rattle.serial_laws.proofs.Rooms.{room-for}
use Rattle.serial_passes.specs.Scaffold.Did.{first_of}
use Rattle.serial_passes.proofs.Givings.{part_within}
use Rattle.serial_passes.proofs.PieceLaws.{pieces_law}
use Rattle.serial_passes.proofs.Sweeping.{Sweeps as Scans}
use Rattle.session_grammar.specs.Follows.{AreTheirs, IsList, IsPart, IsSingle, OneAfterOther, Together, asker, projection, InLineBy, AreExchanges, WideBy}
use Rattle.session_grammar.specs.Plans.{Asker, begin_pieces, begins_in, filter_code, plan_of, plan_on, select_plan, sents_of}
use Rattle.session_grammar.specs.declared.logs.LogEntry.{LogEntry}
use Rattle.session_grammar.specs.declared.plans.Plan.TheVariants.{Singles, Subsets}
use Rattle.session_grammar.specs.declared.plans.Sent.{Sent}
use Rattle.alone_laws.specs.Scaffold.Served.{Replies, served_by}
use Rattle.alone_laws.specs.Scaffold.States.{AllLively, AllReply, AreOpen, ComesTo, IsOpen}
use Rattle.alone_laws.proofs.SingleRequests.{read_came}
use Rattle.alone_laws.proofs.FailingLists.{AreOwn, Breaks, lists_own, singles_own, together_breaks, turn_breaks}
use Rattle.alone_laws.proofs.SubsetLists.{Came, list_came}
use Rattle.alone_laws.proofs.ScanSteps.{SentCame, open_here, scan_done, scan_fails}
use Rattle.sql_base.specs.declared.key_ranges.Start.TheVariants.{At}
use Rattle.sql_base.proofs.ListFacts.{all_at, all_left, all_right}

-- the plan of a statement of this table
pub plan_is : (script : Script) (statement : Statement) (table : TableDef) → slice_get script.tables (table_of statement) ≡ Some table → plan_of (asker script 1) statement ≡ plan_on (asker script 1) table statement
plan_is script statement table at = ap (λ o. unwrap_or (option_map (λ (x : TableDef). plan_on (asker script 1) x statement) o) (Subsets [])) at

module _ (script : Script) (is : IsScript script) (statement : Statement) (table : TableDef) (at : slice_get script.tables (table_of statement) ≡ Some table) (suits : SuitsTable table statement) (qs : List State) (open_qs : AreOpen script qs)
    (ordinal : ℕ) (t : TxnName) (own : t ≡ record { session = 1; ordinal = ordinal }) (bases : ℕ → List Keyed) (top : ℕ) (lively : AllLively t bases top qs) (es : List LogEntry) (replies : AllReply qs es) where
  abbrev r : Asker
  r = asker script 1

  abbrev Comes : Sent → List LogEntry → Option Abort → Type 0
  Comes = SentCame script is statement table at qs open_qs

  room : RoomFor script.limits table statement
  room = room-for script table statement is (all_at IsTable script.tables (table_of statement) table is.tables at) suits

  here_at : (j : ℕ) (part : ℕ) (q : State) → j < length table.firsts + 1 → part ≡ first_of script statement + j → slice_get qs part ≡ Some q → IsOpen script table j q
  here_at j part q less same there = open_qs.here (table_of statement) j table q at less (subst (λ n. slice_get qs n ≡ Some q) same there)

  -- the list of a piece
  piece_comes : IsSet statement → (sent : Sent) → PieceSent script.tables table (table_of statement) statement sent → (list : List LogEntry) (end : Option Abort) → IsList r ordinal sent list end
      → Comes sent list end
  piece_comes set sent p list end (rows, list_is, rows_are) = record {
    number = p.number;
    within_table = p.within;
    part_is = p.part_is;
    range = p.piece;
    range_is = ap range_of p.ask_is ∙ range_is statement p.granule p.piece set;
    came = λ q there told. subst (λ l. Came table statement (At p.piece.low) p.piece.high (records q.cells) l (records (served_by q l).cells) end) (sym list_is)
        (list_came r ordinal sent.part t own (bases sent.part) top table script.limits statement p.granule p.piece set room rows q Fresh end
        (subst (λ a. AreExchanges r ordinal sent.part a rows end) p.ask_is rows_are) (subst (Replies q) list_is told)
        (open_here script table p.number q (here_at p.number sent.part q p.within p.part_is there)) (lively sent.part q there) tt);
  }

  -- lists that are whole, or break, are what they came to
  module _ (R : Sent → List LogEntry → Option Abort → Type 0) where
    abbrev Converts : Sent → Type 0
    Converts sent = (list : List LogEntry) (end : Option Abort) → R sent list end → Comes sent list end

    all_come : (ss : List Sent) → AllByRecursion Converts ss → AllByRecursion (λ s. R s (projection es s) None) ss → AllByRecursion (λ s. Comes s (projection es s) None) ss
    all_come [] to all = tt
    all_come (s ∷ ss) to all = (to.0 (projection es s) None all.0, all_come ss to.1 all.1)

    front_come : (low : ℕ) (ss : List Sent) → AllByRecursion Converts ss → AllByRecursion (λ s. (low ≤ s.part) × R s (projection es s) None) ss
        → AllByRecursion (λ s. (low ≤ s.part) × Comes s (projection es s) None) ss
    front_come low [] to all = tt
    front_come low (s ∷ ss) to all = ((all.0.0, to.0 (projection es s) None all.0.1), front_come low ss to.1 all.1)

    break_comes : (low : ℕ) (ss : List Sent) (abort : Abort) → AllByRecursion Converts ss → Breaks R low ss es abort → Breaks Comes low ss es abort
    break_comes low ss abort to b =
        let split = subst (AllByRecursion Converts) b.split to in
        let at_sent = all_right Converts b.front (b.sent ∷ b.back) split in
        record {
          front = b.front;
          sent = b.sent;
          back = b.back;
          split = b.split;
          above = b.above;
          whole = front_come low b.front (all_left Converts b.front (b.sent ∷ b.back) split) b.whole;
          fails = at_sent.0 (projection es b.sent) (Some abort) b.fails;
        }

    -- so the statement comes to what it comes to in one thread
    module _ (scans : Scans statement) (low : ℕ) (ss : List Sent) (sents_are : ss ≡ sents_of (plan_of r statement)) (rise : PartsRise low ss) (to : AllByRecursion Converts ss) where
      come_whole : AreTheirs ss es → AllByRecursion (λ s. R s (projection es s) None) ss → ComesTo script qs statement es None
      come_whole theirs all =
          scan_done script is statement table at qs open_qs scans es replies (subst (λ x. AreTheirs x es) sents_are theirs)
          (subst (AllByRecursion (λ s. Comes s (projection es s) None)) sents_are (all_come ss to all))
          (λ j less. pieces_law script is 1 statement table scans at j less)

      come_broken : (abort : Abort) → Breaks R low ss es abort → ComesTo script qs statement es (Some abort)
      come_broken abort b =
          scan_fails script is statement table at qs open_qs scans es replies abort low (subst (PartsRise low) sents_are rise)
          (subst (λ x. Breaks Comes low x es abort) sents_are (break_comes low ss abort to b))
          (λ j less. pieces_law script is 1 statement table scans at j less)

      come_turns : IsOwn R → AreOwn R → (end : Option Abort) → OneAfterOther R ss es end → ComesTo script qs statement es end
      come_turns whole_own all_own None (lists, es_is, turns) =
          come_whole (subst (AreTheirs ss) (sym es_is) (in_turn-theirs R whole_own ss lists turns))
          (subst (λ l. AllByRecursion (λ s. R s (projection l s) None) ss) (sym es_is) (in_turn-each R whole_own low ss lists rise turns))
      come_turns whole_own all_own (Some abort) (lists, es_is, turns) =
          come_broken abort (subst (λ l. Breaks R low ss l abort) (sym es_is) (turn_breaks R all_own low ss lists abort rise turns))

      come_together : (end : Option Abort) → AreTheirs ss es → IsOwn R → Together R ss (map (projection es) ss) end → ComesTo script qs statement es end
      come_together None theirs whole_own h = come_whole theirs (together-each R whole_own ss es h)
      come_together (Some abort) theirs whole_own h = come_broken abort (together_breaks R low ss es abort rise h)

  -- pieces in line or wide
  pieces_come : (scans : Scans statement) → IsSet statement → (low : ℕ) (ss : List Sent) → plan_of r statement ≡ Subsets ss → AllByRecursion (PieceSent script.tables table (table_of statement) statement) ss → PartsRise low ss
      → (end : Option Abort) → IsPart r ordinal statement es end → ComesTo script qs statement es end
  pieces_come scans set low ss plan pieces rise end part = by_part (subst (λ p. InLineBy r ordinal p es end ⊎ WideBy r ordinal p es end) plan part)
    where
      to : (ss : List Sent) → AllByRecursion (PieceSent script.tables table (table_of statement) statement) ss → AllByRecursion (λ sent. (list : List LogEntry) (end : Option Abort) → IsList r ordinal sent list end → Comes sent list end) ss
      to [] h = tt
      to (s ∷ ss) h = ((λ list end l. piece_comes set s h.0 list end l), to ss h.1)

      by_part : InLineBy r ordinal (Subsets ss) es end ⊎ WideBy r ordinal (Subsets ss) es end → ComesTo script qs statement es end
      by_part (inl turns) =
          come_turns (IsList r ordinal) scans low ss (ap sents_of (sym plan)) rise (to ss pieces) (list-own r ordinal) (lists_own r ordinal) end turns
      by_part (inr wide) =
          come_together (IsList r ordinal) scans low ss (ap sents_of (sym plan)) rise (to ss pieces) end wide.theirs (list-own r ordinal) wide.lists

  -- one request alone
  single_comes : (scans : Scans statement) (sent : Sent) → plan_of r statement ≡ Singles (sent ∷ []) → ((list : List LogEntry) (end : Option Abort) → IsSingle r ordinal sent list end → Comes sent list end)
      → (end : Option Abort) → IsPart r ordinal statement es end → ComesTo script qs statement es end
  single_comes scans sent plan to end part = by_part (subst (λ p. InLineBy r ordinal p es end ⊎ WideBy r ordinal p es end) plan part)
    where
      by_part : InLineBy r ordinal (Singles (sent ∷ [])) es end ⊎ WideBy r ordinal (Singles (sent ∷ [])) es end → ComesTo script qs statement es end
      by_part (inl turns) =
          come_turns (IsSingle r ordinal) scans sent.part (sent ∷ []) (ap sents_of (sym plan)) (omega arith, tt) (to, tt) (single-own r ordinal) (singles_own r ordinal) end turns
      by_part (inr wide) = absurd wide

  -- the pieces of a range, or none
  pub range_comes : (scans : Scans statement) → IsSet statement → (o : Option KeyRange) (begin : List ℕ → KeyRange → Ask) → ((granule : List ℕ) (piece : KeyRange) → begin granule piece ≡ begin_of statement granule piece)
      → plan_of r statement ≡ Subsets (begins_in r table (table_of statement) o begin) → (end : Option Abort) → IsPart r ordinal statement es end → ComesTo script qs statement es end
  range_comes scans set None begin same plan end part = pieces_come scans set 0 [] plan tt tt end part
  range_comes scans set (Some found) begin same plan end part =
      let begun : begins_in r table (table_of statement) (Some found) begin ≡ sents_from r table (table_of statement) statement found 0 (length table.firsts + 1) =
      ap (λ (f : List ℕ → KeyRange → Ask). begins_in r table (table_of statement) (Some found) f) (λ i granule piece. same granule piece i) in
      let are = sents-are r table (table_of statement) statement found in
      pieces_come scans set (parts_of (take (table_of statement) script.tables)) (sents_from r table (table_of statement) statement found 0 (length table.firsts + 1)) (plan ∙ ap Subsets begun) are.pieces are.rise end part

-- a SELECT
pub select_comes : (script : Script) (is : IsScript script) (n : ℕ) (columns : List ℕ) (predicate : Option Expr) (access : Access) (table : TableDef) (at : slice_get script.tables n ≡ Some table) (suits : SuitsTable table (Select n columns predicate access))
    (qs : List State) (open_qs : AreOpen script qs) (ordinal : ℕ) (t : TxnName) (own : t ≡ record { session = 1; ordinal = ordinal }) (bases : ℕ → List Keyed) (top : ℕ) (lively : AllLively t bases top qs) (es : List LogEntry) (replies : AllReply qs es)
    (end : Option Abort) → IsPart (asker script 1) ordinal (Select n columns predicate access) es end → ComesTo script qs (Select n columns predicate access) es end
select_comes script is n columns predicate access table at suits qs open_qs ordinal t own bases top lively es replies end part = by_range (range table predicate) refl
  where
    s : Statement
    s = Select n columns predicate access

    plan_at : (o : Option KeyRange) → range table predicate ≡ o → plan_of (asker script 1) (Select n columns predicate access) ≡ select_plan (asker script 1) table n access predicate columns o
    plan_at o e =
        plan_is script (Select n columns predicate access) table at ∙ ap (select_plan (asker script 1) table n access predicate columns) e

    begin : List ℕ → KeyRange → Ask
    begin granule piece = ask.BeginRead access granule piece (filter_code predicate) columns

    by_key : (whole : KeyRange) (b : Bool)
        → plan_of (asker script 1) (Select n columns predicate access)
        ≡ cond b (Singles (record { part = parts_of (take n script.tables) + part_of table whole.low; ask = ask.ReadKey access whole.low (filter_code predicate) columns } ∷ []))
        (Subsets (begin_pieces (asker script 1) table n whole (λ granule piece. ask.BeginRead access granule piece (filter_code predicate) columns))) → ComesTo script qs (Select n columns predicate access) es end
    by_key whole true plan =
        let sent : Sent = record { part = parts_of (take n script.tables) + part_of table whole.low; ask = ask.ReadKey access whole.low (filter_code predicate) columns } in
        let room_is = room script is (Select n columns predicate access) table at suits qs open_qs ordinal t own bases top lively es replies in
        single_comes script is (Select n columns predicate access) table at suits qs open_qs ordinal t own bases top lively es replies tt sent plan
        (λ list end' single. record {
          number = part_of table whole.low;
          within_table = part_within table whole.low;
          part_is = refl;
          range = record { low = whole.low; high = whole.low };
          range_is = refl;
          came = λ q there told. read_came (asker script 1) ordinal sent.part t own (bases sent.part) top table script.limits q
              (open_here script table (part_of table whole.low) q (open_qs.here n (part_of table whole.low) table q at (part_within table whole.low) there)) (lively sent.part q there) list end' told n columns predicate access whole.low room_is single;
        }) end part
    by_key whole false plan =
        range_comes script is (Select n columns predicate access) table at suits qs open_qs ordinal t own bases top lively es replies tt tt (Some whole) (λ granule piece. ask.BeginRead access granule piece (filter_code predicate) columns) (λ granule piece. refl) plan end part

    by_range : (o : Option KeyRange) → range table predicate ≡ o → ComesTo script qs (Select n columns predicate access) es end
    by_range None e = pieces_come script is (Select n columns predicate access) table at suits qs open_qs ordinal t own bases top lively es replies tt tt 0 [] (plan_at None e) tt tt end part
    by_range (Some whole) e = by_key whole (key_eq whole.low whole.high) (plan_at (Some whole) e)
