-- Attempts lead on to what is behind them: every log that follows in line leads a session from its first place to its end.
use Rattle.std.proofs.Common.{◌≡◌, ℕ, zero, suc, ◌+◌, List, [], ◌∷◌, ◌++◌, Option, Some, None, Bool, true, false, refl, ap, sym, ◌∙◌, subst, inl, inr, length, arith}
use Rattle.std.proofs.lemmas.List.{append-nil}
use Rattle.std.proofs.lemmas.Grind.{flat_map-append}
use Rattle.std.specs.Prelude.{flat_map, fold, max}
use Rattle.sql_base.specs.declared.outcomes.Abort.{Abort}
use Rattle.sql_base.specs.declared.outcomes.Abort.TheVariants.{LockedOut, PathLost}
use Rattle.sql_base.specs.declared.outcomes.Outcome.{Outcome}
use Rattle.sql_base.specs.declared.outcomes.Outcome.TheVariants.{Committed, RolledBack, Aborted}
use Rattle.sql_base.specs.declared.scripts.Work.{Work}
use Rattle.dp_messages.specs.declared.replies.Reply.TheVariants as reply
use Rattle.dp_messages.specs.declared.requests.Ask.{Ask}
use Rattle.dp_messages.specs.declared.requests.Ask.TheVariants.{EndCommit, EndUndo, Prepare}
use Rattle.session_grammar.specs.declared.logs.Answer.TheVariants.{Reply, PathFailed, Stamp}
use Rattle.session_grammar.specs.declared.logs.LogEntry.{LogEntry}
use Rattle.session_grammar.specs.declared.logs.LogEntry.TheVariants.{Drew}
use Rattle.session_grammar.specs.Follows.{AreAttempts, AreEnds, ArePrepares, AreTries, Attempt, IsAttempt, IsEnding, IsInLine, entries_of, greatest_of, joined, touched}
use Rattle.session_grammar.specs.Plans.{Asker}
use Rattle.session_laws.specs.Scaffold.Machine.{At, Over, Place, Prepares, Stamps, Trying, after_prepare, asking, behind, closes_at, closing, in_order, next, prepares_at, Send, statements_at, trying, undone, works_at}
use Rattle.session_laws.specs.Scaffold.Leading.{Does, Leads}
use Rattle.session_laws.proofs.Asking.{is_lock}
use Rattle.session_laws.proofs.Leading.{Leads-append, asked_does, walk}
use Rattle.session_laws.proofs.Parts.{parts_lead, parts_out}
use Rattle.session_laws.proofs.Seen.{touched_seen}

-- the attempt failed by a lock
abbrev pub is_lock_end : Outcome → Bool
is_lock_end (Aborted abort) = is_lock abort
is_lock_end outcome = false

module _ (r : Asker) (t : Trying) (seen : List ℕ) where
  ends_lead : (ask : Ask) (parts : List ℕ) (locked : Bool) (ends : List LogEntry) → AreEnds t.ordinal ask parts ends
      → Leads r (closes_at t seen ask parts locked (behind r t locked)) ends (behind r t locked)
  ends_lead ask [] locked [] h = refl
  ends_lead ask [] locked (e ∷ es) h = absurd h
  ends_lead ask (part ∷ parts) locked [] h = absurd h
  ends_lead ask (part ∷ parts) locked (e ∷ es) h = ((asked_does part (asking t.ordinal ask) (Reply reply.Done) e h.0).0, ends_lead ask parts locked es h.1)

  prepares_lead : (parts : List ℕ) (more : List ℕ) (floor : ℕ) (prepares : List LogEntry) (floors : List ℕ) → ArePrepares t.ordinal parts prepares floors
      → Leads r (prepares_at t seen (parts ++ more) floor) prepares (prepares_at t seen more (fold max floor floors))
  prepares_lead [] more floor [] [] h = refl
  prepares_lead [] more floor (e ∷ es) floors h = absurd h
  prepares_lead [] more floor [] (f ∷ floors) h = absurd h
  prepares_lead (part ∷ parts) more floor [] floors h = absurd h
  prepares_lead (part ∷ parts) more floor (e ∷ es) [] h = absurd h
  prepares_lead (part ∷ parts) more floor (e ∷ es) (f ∷ floors) h =
      let d = asked_does part (asking t.ordinal Prepare) (Reply (reply.Floor f)) e h.0 in (
        d.0,
        subst (λ a. Leads r (after_prepare r t seen (parts ++ more) floor a) es (prepares_at t seen more (fold max (max floor f) floors))) (sym d.1)
            (prepares_lead parts more (max floor f) es floors h.1),
      )

  -- what ends an attempt leads to what is behind it
  module _ (a : Attempt) (numbered : a.ordinal ≡ t.ordinal) (ordered : in_order r seen ≡ touched r a) where
    ends_here : (ask : Ask) (ends : List LogEntry) → AreEnds a.ordinal ask (touched r a) ends → AreEnds t.ordinal ask (in_order r seen) ends
    ends_here ask ends h = subst (λ o. AreEnds o ask (in_order r seen) ends) numbered (subst (λ parts. AreEnds a.ordinal ask parts ends) (sym ordered) h)

    abbrev from : Option Abort → Bool → Place
    from None commit = closing r t seen commit (next r t)
    from (Some abort) commit = undone r t seen (is_lock abort)

    -- behind the outcome
    out : (p : Place) (es : List LogEntry) (locked : Bool) (outcome : Outcome) → a.ending ≡ es → a.outcome ≡ outcome → is_lock_end outcome ≡ locked
        → Leads r p es (behind r t locked) → Leads r p a.ending (behind r t (is_lock_end a.outcome))
    out p es locked outcome is is_outcome is_locked h =
        subst (λ b. Leads r p a.ending (behind r t b)) (sym (ap is_lock_end is_outcome ∙ is_locked)) (subst (λ (x : List LogEntry). Leads r p x (behind r t locked)) (sym is) h)

    ending_leads : (end : Option Abort) (commit : Bool) → IsEnding r a end commit → Leads r (from end commit) a.ending (behind r t (is_lock_end a.outcome))
    ending_leads (Some abort) commit h =
        out (from (Some abort) commit) a.ending (is_lock abort) (Aborted abort) refl h.1 refl (ends_lead EndUndo (in_order r seen) (is_lock abort) a.ending (ends_here EndUndo a.ending h.0))
    ending_leads None false h =
        out (from None false) a.ending false RolledBack refl h.1 refl (ends_lead EndUndo (in_order r seen) false a.ending (ends_here EndUndo a.ending h.0))
    ending_leads None true (inl h) =
        let floors = h.floors in
        let stamp = h.stamp in
        let prepares = h.prepares in
        let ends = h.ends in
        let asked = subst (λ o. ArePrepares o (in_order r seen) prepares floors) numbered (subst (λ parts. ArePrepares a.ordinal parts prepares floors) (sym ordered) h.prepared) in
        let first : Leads r (prepares_at t seen (in_order r seen) 0) prepares (At t seen (Stamps (greatest_of floors))) =
        subst (λ parts. Leads r (prepares_at t seen parts 0) prepares (At t seen (Stamps (greatest_of floors)))) (append-nil (in_order r seen)) (prepares_lead (in_order r seen) [] 0 prepares floors asked) in
        let named : record { session = r.number; ordinal = a.ordinal } ≡ record { session = r.number; ordinal = t.ordinal } = ap (λ o. record { session = r.number; ordinal = o }) numbered in
        let drew = Drew (record { session = r.number; ordinal = a.ordinal }) (greatest_of floors) (Stamp stamp) in
        let rest : Leads r (At t seen (Stamps (greatest_of floors))) (drew ∷ ends) (behind r t false) =
        ((named, refl), ends_lead (EndCommit stamp) (in_order r seen) false ends (ends_here (EndCommit stamp) ends h.ended)) in
        out (from None true) (prepares ++ drew ∷ ends) false (Committed stamp) h.ending_is h.outcome_is refl
        (Leads-append r prepares (drew ∷ ends) (prepares_at t seen (in_order r seen) 0) (At t seen (Stamps (greatest_of floors))) (behind r t false) first rest)
    ending_leads None true (inr h) =
        let front = h.front in
        let part = h.part in
        let back = h.back in
        let floors = h.floors in
        let prepares = h.prepares in
        let lost = h.lost in
        let ends = h.ends in
        let floor = fold max 0 floors in
        let asked = subst (λ o. ArePrepares o front prepares floors) numbered h.prepared in
        let first : Leads r (prepares_at t seen (in_order r seen) 0) prepares (At t seen (Prepares part back floor)) =
        subst (λ parts. Leads r (prepares_at t seen parts 0) prepares (At t seen (Prepares part back floor))) (sym (ordered ∙ h.touched_is)) (prepares_lead front (part ∷ back) 0 prepares floors asked) in
        let d = asked_does part (asking a.ordinal Prepare) PathFailed lost h.lost_is in
        let does = subst (λ o. Does (Send part (asking o Prepare)) lost) numbered d.0 in
        let undoes : Leads r (undone r t seen false) ends (behind r t false) = ends_lead EndUndo (in_order r seen) false ends (ends_here EndUndo ends h.undone) in
        let rest : Leads r (At t seen (Prepares part back floor)) (lost ∷ ends) (behind r t false) =
        (does, subst (λ x. Leads r (after_prepare r t seen back floor x) ends (behind r t false)) (sym d.1) undoes) in
        out (from None true) (prepares ++ lost ∷ ends) false (Aborted PathLost) h.ending_is h.outcome_is refl
        (Leads-append r prepares (lost ∷ ends) (prepares_at t seen (in_order r seen) 0) (At t seen (Prepares part back floor)) (behind r t false) first rest)

    pub ending_on : (end : Option Abort) → IsEnding r a end t.work.commit → Leads r (parts_out r t seen end) a.ending (behind r t (is_lock_end a.outcome))
    ending_on None h = ending_leads None t.work.commit h
    ending_on (Some abort) h = ending_leads (Some abort) t.work.commit h

module _ (r : Asker) where
  -- where a try begins
  abbrev pub try_at : ℕ → ℕ → Work → List Work → Place
  try_at ordinal more work works = statements_at r (trying ordinal more work works) [] work.statements (works_at r (ordinal + 1) works)

  attempt_leads : (ordinal more : ℕ) (work : Work) (works : List Work) (a : Attempt) → IsAttempt IsInLine r work ordinal a
      → Leads r (try_at ordinal more work works) (entries_of a) (behind r (trying ordinal more work works) (is_lock_end a.outcome))
  attempt_leads ordinal more work works a h =
      let t = trying ordinal more work works in
      let end = h.parts_and_ending.0 in
      let seen = walk [] (joined a.parts) in
      Leads-append r (joined a.parts) a.ending (try_at ordinal more work works) (parts_out r t seen end) (behind r t (is_lock_end a.outcome))
      (parts_lead r t work.statements [] a.parts end h.parts_and_ending.1)
      (ending_on r t seen a h.numbered (touched_seen r a) end h.parts_and_ending.2)

  last_behind : (ordinal more : ℕ) (work : Work) (works : List Work) (outcome : Outcome) → (outcome ≡ Aborted LockedOut → more ≡ 0)
      → behind r (trying ordinal more work works) (is_lock_end outcome) ≡ works_at r (ordinal + 1) works
  last_behind ordinal zero work works (Aborted LockedOut) h = refl
  last_behind ordinal (suc more) work works (Aborted LockedOut) h = let none = h refl in absurd (cc none)
  last_behind ordinal more work works outcome h = refl

  tries_lead : (work : Work) (works : List Work) (ordinal more : ℕ) (tries : List Attempt) → AreTries IsInLine r work ordinal more tries
      → Leads r (try_at ordinal more work works) (flat_map entries_of tries) (works_at r (ordinal + length tries) works)
  tries_lead work works ordinal more [] h = absurd h
  tries_lead work works ordinal more (a ∷ []) h =
      let t = trying ordinal more work works in
      Leads-append r (entries_of a) [] (try_at ordinal more work works) (behind r t (is_lock_end a.outcome)) (works_at r (ordinal + 1) works)
      (attempt_leads ordinal more work works a h.0) (last_behind ordinal more work works a.outcome h.1)
  tries_lead work works ordinal zero (a ∷ b ∷ rest) h = absurd h
  tries_lead work works ordinal (suc more) (a ∷ b ∷ rest) h =
      let t = trying ordinal (suc more) work works in
      let first = subst (λ o. Leads r (try_at ordinal (suc more) work works) (entries_of a) (behind r t (is_lock_end o))) h.1 (attempt_leads ordinal (suc more) work works a h.0) in
      let last : ordinal + 1 + length (b ∷ rest) ≡ ordinal + length (a ∷ b ∷ rest) = omega arith in
      let behind_it = tries_lead work works (ordinal + 1) more (b ∷ rest) h.2 in
      subst (λ o. Leads r (try_at ordinal (suc more) work works) (flat_map entries_of (a ∷ b ∷ rest)) (works_at r o works)) last
      (Leads-append r (entries_of a) (flat_map entries_of (b ∷ rest)) (try_at ordinal (suc more) work works) (try_at (ordinal + 1) more work works) (works_at r (ordinal + 1 + length (b ∷ rest)) works) first behind_it)

  -- the attempts of the transactions lead to the end
  pub attempts_lead : (ordinal : ℕ) (works : List Work) (attempts : List Attempt) → AreAttempts IsInLine r ordinal works attempts
      → Leads r (works_at r ordinal works) (flat_map entries_of attempts) Over
  attempts_lead ordinal [] attempts h = subst (λ (list : List Attempt). Leads r Over (flat_map entries_of list) Over) (sym h) refl
  attempts_lead ordinal (work ∷ works) attempts h =
      subst (λ es. Leads r (works_at r ordinal (work ∷ works)) es Over) (sym (ap (flat_map entries_of) h.2 ∙ flat_map-append entries_of h.0 h.1))
      (Leads-append r (flat_map entries_of h.0) (flat_map entries_of h.1) (works_at r ordinal (work ∷ works)) (works_at r (ordinal + length h.0) works) Over
      (tries_lead work works ordinal r.limits.restart h.0 h.3) (attempts_lead (ordinal + length h.0) works h.1 h.4))
