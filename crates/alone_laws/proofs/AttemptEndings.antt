-- How an attempt ends in each partition.
use Rattle.std.proofs.Common.{◌≡◌, ◌<◌, ◌≤◌, ◌+◌, ℕ, zero, suc, max, List, [], ◌∷◌, ◌++◌, filter, Bool, true, false, cond, ◌||◌, Some, refl, ap, sym, ◌∙◌, subst, arith}
use Rattle.std.specs.Prelude.{fold, slice_get}
use Rattle.std.specs.List.{AllByRecursion, list_any, range_with_len}
use Rattle.std.proofs.lemmas.Bool.{false≢true, eq-eqb}
use Rattle.std.proofs.lemmas.List.Elements.{filter-append}
use Rattle.sql_base.specs.Scripts.{parts_of}
use Rattle.sql_base.specs.declared.lock_names.TxnName.{TxnName}
use Rattle.sql_base.specs.declared.scripts.Script.{Script}
use Rattle.dp_messages.specs.declared.replies.Reply.{Reply as PartitionReply}
use Rattle.dp_messages.specs.declared.replies.Reply.TheVariants as reply
use Rattle.dp_messages.specs.declared.requests.Ask.{Ask}
use Rattle.dp_messages.specs.declared.requests.Ask.TheVariants.{Prepare, EndCommit, EndUndo}
use Rattle.key_sequenced.specs.Cells.{records}
use Rattle.partition_state.specs.State.{State}
use Rattle.partition_state.specs.Step.{step}
use Rattle.session_grammar.specs.Follows.{AreEnds, ArePrepares, Attempt, asker, entries_of, greatest_of, joined, touched}
use Rattle.session_grammar.specs.Plans.{Asker}
use Rattle.session_grammar.specs.Rows.{IsAsked, is_for}
use Rattle.session_grammar.specs.declared.logs.Answer.TheVariants.{Reply, PathFailed, Stamp}
use Rattle.session_grammar.specs.declared.logs.LogEntry.{LogEntry}
use Rattle.session_grammar.specs.declared.logs.LogEntry.TheVariants.{Asked, Drew}
use Rattle.record_laws.proofs.Attempts.{IsWork}
use Rattle.record_laws.proofs.Endings.{end_for, no_end_for, no_prepare_for, prepare_for}
use Rattle.alone_laws.specs.Scaffold.Served.{Calm, Lively, Replies, served_by}
use Rattle.alone_laws.specs.Scaffold.States.{AllCalm, AllReply, AreOpen}
use Rattle.alone_laws.proofs.HistoriesFollow.{replies-back, served-append}
use Rattle.alone_laws.proofs.OneLive.{calm-higher, calm-lively, commit-calm, lively-step, prepare-cells, prepare-floor, undo-calm}
use Rattle.alone_laws.proofs.StatesBehind.{lively_served}
use Rattle.alone_laws.proofs.ScanSteps.{state_at}
use Rattle.std.proofs.lemmas.Option.{slice_get_within}
use Rattle.sql_base.proofs.ListFacts.{all-filter, all_passed}

-- one entry that was answered so
pub record OneAsked (q : State) (ordinal : ℕ) (ask : Ask) (x : PartitionReply) (e : LogEntry) : Type 0 where
  pub sync : ℕ
  pub behind : served_by q (e ∷ []) ≡ (step q 1 sync (record { ordinal = ordinal; ask = ask })).state
  pub told : (step q 1 sync (record { ordinal = ordinal; ask = ask })).reply ≡ Some x

one_asked : (q : State) (ordinal part : ℕ) (ask : Ask) (x : PartitionReply) (e : LogEntry) (more : List LogEntry) → IsAsked part (record { ordinal = ordinal; ask = ask }) (Reply x) e → Replies q (e ∷ more) → OneAsked q ordinal ask x e
one_asked q ordinal part ask x (Asked p sync request losses (Reply r)) more h replies =
    let same : r ≡ x = (let both = h.2 in cc) in
    record {
      sync = sync;
      behind = ap (λ y. (step q 1 sync y).state) h.1;
      told = subst (λ y. (step q 1 sync y).reply ≡ Some r) h.1 replies.0 ∙ ap Some same;
    }
one_asked q ordinal part ask x (Asked p sync request losses PathFailed) more h replies = absurd replies
one_asked q ordinal part ask x (Asked p sync request losses (Stamp stamp)) more h replies = absurd replies
one_asked q ordinal part ask x (Drew name floor answer) more h replies = absurd h

none_touched : (k : ℕ) (es : List LogEntry) → list_any (is_for k) es ≡ false → filter (is_for k) es ≡ []
none_touched k [] h = refl
none_touched k (e ∷ es) h = by_test (is_for k e) h (none_touched k es)
  where
    by_test : (b : Bool) → (b || list_any (is_for k) es) ≡ false → (list_any (is_for k) es ≡ false → filter (is_for k) es ≡ []) → cond b (e ∷ filter (is_for k) es) (filter (is_for k) es) ≡ []
    by_test true h rest = absurd (false≢true (sym h))
    by_test false h rest = rest h

module _ (script : Script) (a : Attempt) (qs : List State) (open_qs : AreOpen script qs) (top : ℕ) (calm : AllCalm top qs) (replies : AllReply qs (entries_of a)) (work : AllByRecursion (IsWork a.ordinal) (joined a.parts)) where
  abbrev r : Asker
  r = asker script 1

  abbrev t : TxnName
  t = record { session = 1; ordinal = a.ordinal }

  abbrev mine : ℕ → List LogEntry
  mine k = filter (is_for k) (joined a.parts)

  -- a partition behind the statements
  abbrev worked : ℕ → State → State
  worked k q = served_by q (filter (is_for k) (joined a.parts))

  -- it was asked something
  abbrev is_touched : ℕ → Bool
  is_touched k = list_any (is_for k) (joined a.parts)

  pub lively_at : (k : ℕ) (q : State) → slice_get qs k ≡ Some q → Lively t (records q.cells) top (worked k q)
  lively_at k q there =
      lively_served t a.ordinal refl (records q.cells) top (mine k) q (all-filter (IsWork a.ordinal) (is_for k) (joined a.parts) work)
      (calm-lively t top q (calm k q there))

  told_at : (k : ℕ) (q : State) → slice_get qs k ≡ Some q → Replies (worked k q) (filter (is_for k) a.ending)
  told_at k q there = replies-back q (mine k) (filter (is_for k) a.ending) (subst (Replies q) (filter-append (is_for k) (joined a.parts) a.ending) (replies k q there))

  whole_at : (k : ℕ) (q : State) → served_by q (filter (is_for k) (entries_of a)) ≡ served_by (worked k q) (filter (is_for k) a.ending)
  whole_at k q = ap (served_by q) (filter-append (is_for k) (joined a.parts) a.ending) ∙ served-append q (mine k) (filter (is_for k) a.ending)

  few_at : (k : ℕ) (q : State) → slice_get qs k ≡ Some q → k < parts_of script.tables
  few_at k q there = let within = slice_get_within qs k q there in let few = open_qs.few in omega arith

  -- undone
  pub undone_at : AreEnds a.ordinal EndUndo (touched r a) a.ending → (k : ℕ) (q : State) → slice_get qs k ≡ Some q
      → Calm top (served_by q (filter (is_for k) (entries_of a))) × (records (served_by q (filter (is_for k) (entries_of a))).cells ≡ records q.cells)
  undone_at ends k q there =
      subst (λ s. Calm top s × (records s.cells ≡ records q.cells)) (sym (whole_at k q)) (by_touch (is_touched k) refl)
    where
      by_touch : (b : Bool) → is_touched k ≡ b
          → Calm top (served_by (worked k q) (filter (is_for k) a.ending)) × (records (served_by (worked k q) (filter (is_for k) a.ending)).cells ≡ records q.cells)
      by_touch true h =
          let s = worked k q in
          let e = end_for a.ordinal k (parts_of script.tables) EndUndo is_touched a.ending (few_at k q there) h ends in
          let o = one_asked s a.ordinal k EndUndo reply.Done e.0 [] e.2 (subst (Replies s) e.1 (told_at k q there)) in
          let u = undo-calm t (records q.cells) top s o.sync (record { ordinal = a.ordinal; ask = EndUndo }) refl refl (lively_at k q there) o.told in
          subst (λ s. Calm top s × (records s.cells ≡ records q.cells)) (sym (ap (served_by s) e.1 ∙ o.behind)) u
      by_touch false h =
          let none : mine k ≡ [] = none_touched k (joined a.parts) h in
          let no_end = no_end_for a.ordinal k (parts_of script.tables) EndUndo is_touched a.ending h ends in
          let same : served_by (worked k q) (filter (is_for k) a.ending) ≡ q = ap (λ list. served_by (served_by q list) (filter (is_for k) a.ending)) none ∙ ap (served_by q) no_end in
          subst (λ s. Calm top s × (records s.cells ≡ records q.cells)) (sym same) (calm k q there, refl)

  -- committed
  module _ (floors : List ℕ) (stamp : ℕ) (prepares ends : List LogEntry)
      (ending_is : a.ending ≡ prepares ++ Drew t (greatest_of floors) (Stamp stamp) ∷ ends)
      (are_prepares : ArePrepares a.ordinal (touched r a) prepares floors) (are_ends : AreEnds a.ordinal (EndCommit stamp) (touched r a) ends) where
    closing_at : (k : ℕ) → filter (is_for k) a.ending ≡ filter (is_for k) prepares ++ filter (is_for k) ends
    closing_at k = ap (filter (is_for k)) ending_is ∙ filter-append (is_for k) prepares (Drew t (greatest_of floors) (Stamp stamp) ∷ ends)

    -- a partition that was touched, and its Prepare
    record Prepares (k : ℕ) (q : State) : Type 0 where
      e : LogEntry
      e_is : filter (is_for k) prepares ≡ e ∷ []
      floor : ℕ
      asked : IsAsked k (record { ordinal = a.ordinal; ask = Prepare }) (Reply (reply.Floor floor)) e
      one : OneAsked (worked k q) a.ordinal Prepare (reply.Floor floor) e

    prepares_at : (k : ℕ) (q : State) → slice_get qs k ≡ Some q → is_touched k ≡ true → Prepares k q
    prepares_at k q there h =
        let s = worked k q in
        let e = prepare_for a.ordinal k (parts_of script.tables) is_touched prepares floors (few_at k q there) h are_prepares in
        let told = subst (Replies s) (closing_at k ∙ ap (λ l. l ++ filter (is_for k) ends) e.1) (told_at k q there) in
        record { e = e.0; e_is = e.1; floor = e.2.0; asked = e.2.2; one = one_asked s a.ordinal k Prepare (reply.Floor e.2.0) e.0 (filter (is_for k) ends) e.2.2 told }

    pub committed_at : top ≤ stamp → (k : ℕ) (q : State) → slice_get qs k ≡ Some q
        → Calm stamp (served_by q (filter (is_for k) (entries_of a))) × (records (served_by q (filter (is_for k) (entries_of a))).cells ≡ records (worked k q).cells)
    committed_at above k q there =
        subst (λ s. Calm stamp s × (records s.cells ≡ records (worked k q).cells)) (sym (whole_at k q)) (by_touch (is_touched k) refl)
      where
        by_touch : (b : Bool) → is_touched k ≡ b
            → Calm stamp (served_by (worked k q) (filter (is_for k) a.ending))
            × (records (served_by (worked k q) (filter (is_for k) a.ending)).cells ≡ records (worked k q).cells)
        by_touch true h =
            let s = worked k q in
            let p = prepares_at k q there h in
            let s2 = (step s 1 p.one.sync (record { ordinal = a.ordinal; ask = Prepare })).state in
            let e = end_for a.ordinal k (parts_of script.tables) (EndCommit stamp) is_touched ends (few_at k q there) h are_ends in
            let list_is : filter (is_for k) a.ending ≡ (p.e ∷ []) ++ (e.0 ∷ []) = closing_at k ∙ (λ i. p.e_is i ++ e.1 i) in
            let told = replies-back s (p.e ∷ []) (e.0 ∷ []) (subst (Replies s) list_is (told_at k q there)) in
            let told2 : Replies s2 (e.0 ∷ []) = subst (λ x. Replies x (e.0 ∷ [])) p.one.behind told in
            let o = one_asked s2 a.ordinal k (EndCommit stamp) reply.Done e.0 [] e.2 told2 in
            let l2 = lively-step t (records q.cells) top s p.one.sync (record { ordinal = a.ordinal; ask = Prepare }) refl refl (lively_at k q there) in
            let c = commit-calm t (records q.cells) top s2 o.sync a.ordinal stamp refl above l2 o.told in
            let same : served_by s (filter (is_for k) a.ending) ≡ (step s2 1 o.sync (record { ordinal = a.ordinal; ask = EndCommit stamp })).state =
            ap (served_by s) list_is ∙ served-append s (p.e ∷ []) (e.0 ∷ []) ∙ ap (λ x. served_by x (e.0 ∷ [])) p.one.behind ∙ o.behind in
            let rows : records s2.cells ≡ records s.cells = ap records (prepare-cells s p.one.sync a.ordinal) in
            subst (λ x. Calm stamp x × (records x.cells ≡ records s.cells)) (sym same) (c.0, c.1 ∙ rows)
        by_touch false h =
            let none : mine k ≡ [] = none_touched k (joined a.parts) h in
            let no_prepare = no_prepare_for a.ordinal k (parts_of script.tables) is_touched prepares floors h are_prepares in
            let no_end = no_end_for a.ordinal k (parts_of script.tables) (EndCommit stamp) is_touched ends h are_ends in
            let s = worked k q in
            let list_is : filter (is_for k) a.ending ≡ [] = closing_at k ∙ (λ i. no_prepare i ++ no_end i) in
            let same : served_by s (filter (is_for k) a.ending) ≡ s = ap (served_by s) list_is in
            let still : s ≡ q = ap (served_by q) none in
            subst (λ x. Calm stamp x × (records x.cells ≡ records s.cells)) (sym same) (subst (λ x. Calm stamp x) (sym still) (calm-higher top stamp q above (calm k q there)), refl)

    -- each floor is one that a partition told
    abbrev IsLow : LogEntry → Type 0
    IsLow (Asked part sync request losses (Reply (reply.Floor floor))) = floor ≤ top
    IsLow e = Unit {0}

    low_entry : (part : ℕ) (floor : ℕ) (e : LogEntry) → IsAsked part (record { ordinal = a.ordinal; ask = Prepare }) (Reply (reply.Floor floor)) e → floor ≤ top → IsLow e
    low_entry part floor (Asked p sync request losses (Reply r)) h low = subst (λ x. IsLow (Asked p sync request losses x)) (sym h.2) low
    low_entry part floor (Asked p sync request losses PathFailed) h low = tt
    low_entry part floor (Asked p sync request losses (Stamp stamp)) h low = tt
    low_entry part floor (Drew name f answer) h low = tt

    entry_low : (part : ℕ) (floor : ℕ) (e : LogEntry) → IsAsked part (record { ordinal = a.ordinal; ask = Prepare }) (Reply (reply.Floor floor)) e → IsLow e → (is_for part e ≡ true) × (floor ≤ top)
    entry_low part floor (Asked p sync request losses (Reply r)) h low =
        (eq-eqb p part h.0, subst (λ x. IsLow (Asked p sync request losses x)) h.2 low)
    entry_low part floor (Asked p sync request losses PathFailed) h low = absurd (cc (h.2))
    entry_low part floor (Asked p sync request losses (Stamp stamp)) h low = absurd (cc (h.2))
    entry_low part floor (Drew name f answer) h low = absurd h

    is_its : (part : ℕ) (floor : ℕ) (e : LogEntry) → IsAsked part (record { ordinal = a.ordinal; ask = Prepare }) (Reply (reply.Floor floor)) e → is_for part e ≡ true
    is_its part floor (Asked p sync request losses answer) h = eq-eqb p part h.0
    is_its part floor (Drew name f answer) h = absurd h

    -- in each partition
    low_at : (k : ℕ) → k < parts_of script.tables → AllByRecursion IsLow (filter (is_for k) prepares)
    low_at k within = by_touch (is_touched k) refl
      where
        found : (q : State) × (slice_get qs k ≡ Some q)
        found = let enough = open_qs.enough in state_at qs k (omega arith)

        by_touch : (b : Bool) → is_touched k ≡ b → AllByRecursion IsLow (filter (is_for k) prepares)
        by_touch true h =
            let p = prepares_at k found.0 found.1 h in
            let s = served_by found.0 (mine k) in
            let l = lively_at k found.0 found.1 in
            let below : p.floor ≤ s.high = prepare-floor s p.one.sync a.ordinal p.floor l.keeps p.one.told in
            let high : s.high ≤ top = l.top_is in
            subst (AllByRecursion IsLow) (sym p.e_is) (low_entry k p.floor p.e p.asked (omega arith), tt)
        by_touch false h =
            subst (AllByRecursion IsLow) (sym (no_prepare_for a.ordinal k (parts_of script.tables) is_touched prepares floors h are_prepares)) tt

    all_low : (parts : List ℕ) (es : List LogEntry) (fs : List ℕ) → AllByRecursion (λ k. k < parts_of script.tables) parts → ArePrepares a.ordinal parts es fs
        → ((k : ℕ) → k < parts_of script.tables → AllByRecursion (λ e. is_for k e ≡ true → IsLow e) es) → AllByRecursion (λ floor. floor ≤ top) fs
    all_low [] [] [] within h low = tt
    all_low [] [] (f ∷ fs) within h low = absurd h
    all_low [] (e ∷ es) fs within h low = absurd h
    all_low (part ∷ parts) [] fs within h low = absurd h
    all_low (part ∷ parts) (e ∷ es) [] within h low = absurd h
    all_low (part ∷ parts) (e ∷ es) (f ∷ fs) within h low =
        ((entry_low part f e h.0 ((low part within.0).0 (is_its part f e h.0))).1, all_low parts es fs within.1 h.1 (λ k w. (low k w).1))

    in_range : (low n : ℕ) → low + n ≤ parts_of script.tables → AllByRecursion (λ k. k < parts_of script.tables) (range_with_len low n)
    in_range low zero h = tt
    in_range low (suc n) h = (omega arith, in_range (low + 1) n (omega arith))

    fold_low : (m : ℕ) (fs : List ℕ) → m ≤ top → AllByRecursion (λ floor. floor ≤ top) fs → fold max m fs ≤ top
    fold_low m [] h all = h
    fold_low m (f ∷ fs) h all = let here : f ≤ top = all.0 in fold_low (max m f) fs (omega arith) all.1

    -- so the greatest is no higher
    pub floor_low : greatest_of floors ≤ top
    floor_low =
        fold_low 0 floors (omega arith)
        (all_low (touched r a) prepares floors (all-filter (λ k. k < parts_of script.tables) is_touched (range_with_len 0 (parts_of script.tables)) (in_range 0 (parts_of script.tables) (omega arith)))
        are_prepares (λ k within. all_passed (is_for k) IsLow prepares (low_at k within)))
