-- What a partition keeps for an opener: the sync and the reply of its last entry.
use Rattle.std.proofs.Common.{◌≡◌, ◌≢◌, ◌≤◌, ◌<◌, ◌-◌, ℕ, zero, suc, List, [], ◌∷◌, ◌++◌, length, Some, None, true, false, refl, ap, sym, ◌∙◌, subst, inl, inr, arith, Bool, get_or, map}
use Rattle.std.proofs.lemmas.Bool.{eq-eqb, eqb-true, false≢true}
use Rattle.std.proofs.lemmas.List.Elements.{filter-append}
use Rattle.std.specs.Prelude.{◌⊎◌, filter, slice_get, unwrap_or, Contains, nat_le, ◌||◌}
use Rattle.std.specs.List.{AllByRecursion, list_any}
use Rattle.std.proofs.lemmas.Bool.Decides.{nat_tests}
use Rattle.sql_base.specs.Scripts.{Lies}
use Rattle.sql_base.specs.declared.scripts.Script.{Script}
use Rattle.one_thread.specs.One.{loaded}
use Rattle.dp_messages.specs.declared.replies.Reply.{Reply as PartitionReply}
use Rattle.partition_state.specs.History.{IsLegal, replay}
use Rattle.partition_state.specs.State.{Opener, State, new_opener, opener_of}
use Rattle.partition_state.specs.declared.entries.Entry.{Entry}
use Rattle.session_grammar.specs.Rows.{fits, is_for}
use Rattle.session_grammar.specs.declared.logs.Answer.TheVariants.{Reply}
use Rattle.session_grammar.specs.declared.logs.LogEntry.{LogEntry}
use Rattle.session_grammar.specs.declared.logs.LogEntry.TheVariants.{Asked, Drew}
use Rattle.run_record.specs.Legal.{AreServed}
use Rattle.run_record.specs.Openings.{history_of, log_of, openings}
use Rattle.run_record.specs.declared.records.RunRecord.{RunRecord}
use Rattle.state_facts.proofs.Openings.{opened-fresh}
use Rattle.record_laws.specs.SoFar.{LegalSoFar, way_of}
use Rattle.record_laws.proofs.FitsSoFar.{IsFresh, fresh_from, zip_at}
use Rattle.record_laws.specs.Suiting.{PlansSuit}
use Rattle.record_laws.proofs.Joined.{sends_fit-so_far}
use Rattle.record_laws.proofs.Served.{served_all}
use Rattle.record_laws.proofs.Sessions.{by_opener}
use Rattle.driver_laws.specs.Scheduling.{is_old, posted_of}
use Rattle.driver_laws.specs.Moves.{MayAnswer, asked_so_far}
use Rattle.session_grammar.specs.UnderWay.{AreAbove, IsAbove, Sending, Awaiting, Drawing, UnderWay, unanswered, IsOpen}
use Rattle.driver_laws.proofs.Openings.{open_for, the_open}
use Rattle.driver_laws.proofs.Seats.{contains_filter}
use Rattle.sql_base.proofs.ListFacts.{all-weaker, all_at as found_of, all_in, all_joined, all_through}
use Rattle.partition_laws.proofs.LastEntries.{of_last, fresh_at}

-- it is that of an entry of the history, or what was kept before
abbrev IsOfLast : ℕ → List Entry → Opener → Opener → Type 0
IsOfLast n history before now = ((now.last ≡ before.last) × (now.kept ≡ before.kept)) ⊎ ((e : Entry) × Contains history e × (e.opener ≡ n) × (now.last ≡ e.sync) × (now.kept ≡ Some e.reply))

module _ (script : Script) (kept : RunRecord) (ways : List UnderWay) (legal : LegalSoFar script kept ways) (session : ℕ) (lies : Lies 1 (length script.sessions) session)
    (part : ℕ) (within : part < length kept.histories) (p : State) (opens : slice_get (openings script) part ≡ Some p) where
  abbrev now : Opener
  now = opener_of (replay p (history_of kept part)) session

  fresh : opener_of p session ≡ new_opener
  fresh =
      let is = found_of IsFresh (openings script) part p (fresh_from script.limits script.tables (loaded script).records) opens in
      ap (λ (os : List Opener). unwrap_or (slice_get os (session - 1)) new_opener) is.2 ∙ fresh_at 8 (session - 1)

  pub is_legal : IsLegal p (history_of kept part)
  is_legal =
      let found = zip_at IsLegal (openings script) kept.histories [] part legal.histories_replay within in
      let both : Some found.0 ≡ Some p = sym found.1 ∙ opens in
      let same : found.0 ≡ p = cc both in
      subst (λ (q : State). IsLegal q (history_of kept part)) same found.2

  its_last : IsOfLast session (history_of kept part) new_opener now
  its_last =
      let few = legal.script_runs.some_sessions.1 in
      subst (λ (o : Opener). IsOfLast session (history_of kept part) o now) fresh
      (of_last p (history_of kept part) session (opened-fresh script part p legal.script_runs opens).keeps is_legal (lies.0, omega (arith, lies.1, few)))

  -- a reply that is kept for a request under way is that of its entry
  pub picked : (s : Sending) (losses : ℕ) (r : PartitionReply) → s.part ≡ part → now.last ≡ s.sync → now.kept ≡ Some r → MayAnswer kept session s losses (Reply r)
  picked s losses r here last told = of its_last
    where
      of : IsOfLast session (history_of kept part) new_opener now → MayAnswer kept session s losses (Reply r)
      of (inl none) = let both : None ≡ Some r = sym none.1 ∙ told in absurd (cc both)
      of (inr one) =
          let both : Some one.0.reply ≡ Some r = sym one.4 ∙ told in
          let same : one.0.reply ≡ r = cc both in
          (one.0, subst (λ n. Contains (history_of kept n) one.0) (sym here) one.1, one.2, sym one.3 ∙ last, same)

  abbrev IsUpTo : ℕ → LogEntry → Type 0
  IsUpTo sync (Asked a x q l w) = x ≤ sync
  IsUpTo sync (Drew n f w) = Unit {0}

  -- no entry of the session is later than its request under way
  pub none_later : (s : Sending) → s.part ≡ part → IsOpen (way_of ways session) s → AllByRecursion (λ (e : Entry). e.sync ≤ s.sync) (filter (by_opener session) (history_of kept part))
  none_later s here is_open =
      served_all (IsUpTo s.sync) (λ (e : Entry). e.sync ≤ s.sync) (λ a x q l w f u is. omega (arith, u, is.0)) (filter (is_for s.part) (asked_so_far kept ways session)) (filter (by_opener session) (history_of kept part))
      (up_to (way_of ways session) (legal.logs_begin.each session lies).0 is_open)
      (subst (λ n. AreServed (filter (is_for n) (asked_so_far kept ways session)) (filter (by_opener session) (history_of kept part))) (sym here) (legal.entries_asked.served part session within lies))
    where
      up_to : (way : UnderWay) → AreAbove (log_of kept session) way → IsOpen way s → AllByRecursion (IsUpTo s.sync) (filter (is_for s.part) (log_of kept session ++ unanswered way))
      up_to (Drawing name floor) above none = absurd none
      up_to (Awaiting sends) above is_in =
          let log = log_of kept session in
          let below = all_in (λ (x : Sending). AllByRecursion (λ e. IsAbove e x) log) s sends is_in above.0 in
          let front = all_through (is_for s.part) (IsUpTo s.sync) log (all-weaker (λ e. IsAbove e s) (λ e. is_for s.part e ≡ true → IsUpTo s.sync e) of_one log below) in
          let alone = the_open log (Awaiting sends) s above is_in in
          subst (AllByRecursion (IsUpTo s.sync)) (sym (filter-append (is_for s.part) log (unanswered (Awaiting sends))))
          (all_joined (IsUpTo s.sync) (filter (is_for s.part) log) (open_for s.part (Awaiting sends)) front (subst (AllByRecursion (IsUpTo s.sync)) (sym alone) (omega arith, tt)))
        where
          of_one : (e : LogEntry) → IsAbove e s → is_for s.part e ≡ true → IsUpTo s.sync e
          of_one (Asked a x q l w) above for_it = let lt = above (eqb-true a s.part for_it) in omega (arith, lt)
          of_one (Drew n f w) above for_it = tt

  -- and so the last one isn't
  pub never_passed : (s : Sending) → s.part ≡ part → IsOpen (way_of ways session) s → now.last ≤ s.sync
  never_passed s here is_open = of its_last
    where
      of : IsOfLast session (history_of kept part) new_opener now → now.last ≤ s.sync
      of (inl none) = omega (arith, none.0)
      of (inr one) =
          let mine = contains_filter (by_opener session) (history_of kept part) one.0 (eq-eqb one.0.opener session one.2) one.1 in
          let low = all_in (λ (e : Entry). e.sync ≤ s.sync) one.0 (filter (by_opener session) (history_of kept part)) mine (none_later s here is_open) in
          omega (arith, low, one.3)

  -- a message with a sync up to the last one was served before
  pub served_before : (sync : ℕ) → 0 < sync → sync ≤ now.last → list_any (is_old (record { opener = session; sync = sync })) (map posted_of (history_of kept part)) ≡ true
  served_before sync some old = of its_last
    where
      found : (es : List Entry) (e : Entry) (k : ℕ) → k < length es → get_or es k e ≡ e → is_old (record { opener = session; sync = sync }) (posted_of e) ≡ true
          → list_any (is_old (record { opener = session; sync = sync })) (map posted_of es) ≡ true
      found [] e k lt is t = absurd (omega (arith, lt))
      found (f ∷ es) e zero lt is t = or_first (is_old (record { opener = session; sync = sync }) (posted_of f)) (list_any (is_old (record { opener = session; sync = sync })) (map posted_of es)) (ap (λ (x : Entry). is_old (record { opener = session; sync = sync }) (posted_of x)) is ∙ t)
        where
          or_first : (a b : Bool) → a ≡ true → (a || b) ≡ true
          or_first true b h = refl
          or_first false b h = absurd (false≢true h)
      found (f ∷ es) e (suc k) lt is t = or_second (is_old (record { opener = session; sync = sync }) (posted_of f)) (list_any (is_old (record { opener = session; sync = sync })) (map posted_of es)) (found es e k (omega (arith, lt)) is t)
        where
          or_second : (a b : Bool) → b ≡ true → (a || b) ≡ true
          or_second true b h = refl
          or_second false b h = h

      le_true : (a b : ℕ) → a ≤ b → nat_le a b ≡ true
      le_true a b h = grind (arith, nat_tests)

      of : IsOfLast session (history_of kept part) new_opener now → list_any (is_old (record { opener = session; sync = sync })) (map posted_of (history_of kept part)) ≡ true
      of (inl none) = absurd (omega (arith, none.0, some, old))
      of (inr one) =
          let here = eq-eqb one.0.opener session one.2 in
          let up_to = le_true sync one.0.sync (omega (arith, old, one.3)) in
          found (history_of kept part) one.0 one.1.0 one.1.1 one.1.2 (rw (here, up_to) refl)

-- the reply of the entry of a request under way fits it
pub answer_fits : (script : Script) (kept : RunRecord) (ways : List UnderWay) → PlansSuit script → LegalSoFar script kept ways → (session : ℕ) → Lies 1 (length script.sessions) session → (sends : List Sending) (s : Sending) (r : PartitionReply)
    → way_of ways session ≡ Awaiting sends → Contains sends s → s.part < length kept.histories → (losses : ℕ) → MayAnswer kept session s losses (Reply r) → fits s.request.ask r ≡ true
answer_fits script kept ways plans legal session lies sends s r is is_in within losses may =
    subst (λ reply. fits s.request.ask reply ≡ true) may.4 (sends_fit-so_far script kept ways plans legal session sends s may.0 lies is is_in within may.1 may.2 may.3)
