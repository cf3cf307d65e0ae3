-- The attempts of transactions can be read off a log that leads to the end: it follows in line.
use Rattle.std.proofs.Common.{◌≡◌, ℕ, zero, suc, ◌+◌, List, [], ◌∷◌, ◌++◌, Option, Some, None, refl, ap, sym, ◌∙◌, subst, length, arith, append_assoc}
use Rattle.std.proofs.lemmas.List.{append-nil}
use Rattle.std.proofs.lemmas.Grind.{flat_map-append}
use Rattle.std.specs.Prelude.{flat_map}
use Rattle.sql_base.specs.declared.outcomes.Abort.{Abort}
use Rattle.sql_base.specs.declared.outcomes.Abort.TheVariants.{LockedOut}
use Rattle.sql_base.specs.declared.outcomes.Outcome.{Outcome}
use Rattle.sql_base.specs.declared.outcomes.Outcome.TheVariants.{RolledBack, Aborted}
use Rattle.sql_base.specs.declared.scripts.Work.{Work}
use Rattle.session_grammar.specs.declared.logs.LogEntry.{LogEntry}
use Rattle.session_grammar.specs.Follows.{AreAttempts, AreTries, Attempt, IsAttempt, IsInLine, entries_of, joined, touched}
use Rattle.session_grammar.specs.Plans.{Asker}
use Rattle.session_laws.specs.Scaffold.Machine.{Over, Place, Trying, behind, in_order, trying, works_at}
use Rattle.session_laws.specs.Scaffold.Leading.{Leads}
use Rattle.session_laws.proofs.Attempts.{is_lock_end, try_at}
use Rattle.session_laws.proofs.Found.{Cut, Turns}
use Rattle.session_laws.proofs.FoundEndings.{Ending, attempt, ending_found, from}
use Rattle.session_laws.proofs.FoundParts.{parts_found}
use Rattle.session_laws.proofs.Leading.{over_none, walk}
use Rattle.session_laws.proofs.Parts.{parts_out}
use Rattle.session_laws.proofs.Seen.{touched_seen}

module _ (r : Asker) where
  record Tried (ordinal more : ℕ) (work : Work) (works : List Work) (es : List LogEntry) : Type 0 where
    a : Attempt
    rest : List LogEntry
    entries : es ≡ entries_of a ++ rest
    is : IsAttempt IsInLine r work ordinal a
    leads : Leads r (behind r (trying ordinal more work works) (is_lock_end a.outcome)) rest Over

  out_from : (t : Trying) (seen : List ℕ) (end : Option Abort) → parts_out r t seen end ≡ from r t seen end t.work.commit
  out_from t seen None = refl
  out_from t seen (Some abort) = refl

  attempt_found : (ordinal more : ℕ) (work : Work) (works : List Work) (es : List LogEntry) → Leads r (try_at r ordinal more work works) es Over → Tried ordinal more work works es
  attempt_found ordinal more work works es h =
      let t = trying ordinal more work works in
      let c : Cut r (Turns (IsInLine r ordinal) work.statements) (parts_out r t) [] es = parts_found r t work.statements [] es h in
      let parts = c.is.0 in
      let seen = walk [] c.front in
      let ordered : in_order r seen ≡ touched r (attempt r t seen parts [] RolledBack) =
      ap (λ x. in_order r (walk [] x)) c.is.1 ∙ touched_seen r (attempt r t seen parts [] RolledBack) in
      let e : Ending r t seen parts c.end work.commit c.rest =
      ending_found r t seen parts ordered c.end work.commit c.rest (subst (λ (p : Place). Leads r p c.rest Over) (out_from t seen c.end) c.leads) in
      record {
        a = attempt r t seen parts e.ending e.outcome;
        rest = e.rest;
        entries = c.entries ∙ ap (λ x. c.front ++ x) e.entries ∙ ap (λ x. x ++ (e.ending ++ e.rest)) c.is.1 ∙ sym (append_assoc (joined parts) e.ending e.rest);
        is = record { of_work = refl; numbered = refl; parts_and_ending = (c.end, c.is.2, e.is) };
        leads = e.leads;
      }

  record Tries (ordinal more : ℕ) (work : Work) (works : List Work) (es : List LogEntry) : Type 0 where
    tries : List Attempt
    rest : List LogEntry
    entries : es ≡ flat_map entries_of tries ++ rest
    are : AreTries IsInLine r work ordinal more tries
    leads : Leads r (works_at r (ordinal + length tries) works) rest Over

  -- the attempt was the last of its transaction
  last : (ordinal more : ℕ) (work : Work) (works : List Work) (a : Attempt) (rest : List LogEntry) → IsAttempt IsInLine r work ordinal a → (a.outcome ≡ Aborted LockedOut → more ≡ 0)
      → Leads r (works_at r (ordinal + 1) works) rest Over → Tries ordinal more work works (entries_of a ++ rest)
  last ordinal more work works a rest is none leads =
      record { tries = a ∷ []; rest = rest; entries = ap (λ x. x ++ rest) (sym (append-nil (entries_of a))); are = (is, none); leads = leads }

  -- another one follows it
  again : (ordinal more : ℕ) (work : Work) (works : List Work) (a : Attempt) (rest : List LogEntry) → IsAttempt IsInLine r work ordinal a → a.outcome ≡ Aborted LockedOut
      → Tries (ordinal + 1) more work works rest → Tries ordinal (suc more) work works (entries_of a ++ rest)
  again ordinal more work works a rest is locked t = by t.tries t.are t.entries t.leads
    where
      by : (tries : List Attempt) → AreTries IsInLine r work (ordinal + 1) more tries → rest ≡ flat_map entries_of tries ++ t.rest → Leads r (works_at r (ordinal + 1 + length tries) works) t.rest Over
          → Tries ordinal (suc more) work works (entries_of a ++ rest)
      by [] are entries leads = absurd are
      by (b ∷ bs) are entries leads =
          let count : ordinal + 1 + length (b ∷ bs) ≡ ordinal + length (a ∷ b ∷ bs) = omega arith in
          record {
            tries = a ∷ b ∷ bs;
            rest = t.rest;
            entries = ap (λ x. entries_of a ++ x) entries ∙ sym (append_assoc (entries_of a) (flat_map entries_of (b ∷ bs)) t.rest);
            are = (is, locked, are);
            leads = subst (λ n. Leads r (works_at r n works) t.rest Over) count leads;
          }

  behind_found : (ordinal more : ℕ) (work : Work) (works : List Work) (a : Attempt) (outcome : Outcome) (rest : List LogEntry) → IsAttempt IsInLine r work ordinal a → a.outcome ≡ outcome
      → Leads r (behind r (trying ordinal more work works) (is_lock_end outcome)) rest Over
      → ((m : ℕ) → more ≡ suc m → Leads r (try_at r (ordinal + 1) m work works) rest Over → Tries (ordinal + 1) m work works rest) → Tries ordinal more work works (entries_of a ++ rest)
  behind_found ordinal zero work works a (Aborted LockedOut) rest is out leads more_of = last ordinal zero work works a rest is (λ _. refl) leads
  behind_found ordinal (suc m) work works a (Aborted LockedOut) rest is out leads more_of = again ordinal m work works a rest is out (more_of m refl leads)
  behind_found ordinal more work works a outcome rest is out leads more_of = last ordinal more work works a rest is (λ locked. absurd (cc (out, locked))) leads

  tries_found : (more ordinal : ℕ) (work : Work) (works : List Work) (es : List LogEntry) → Leads r (try_at r ordinal more work works) es Over → Tries ordinal more work works es
  tries_found zero ordinal work works es h =
      let f = attempt_found ordinal zero work works es h in
      subst (Tries ordinal zero work works) (sym f.entries) (behind_found ordinal zero work works f.a f.a.outcome f.rest f.is refl f.leads (λ m none g. absurd (cc none)))
  tries_found (suc more) ordinal work works es h =
      let f = attempt_found ordinal (suc more) work works es h in
      let again_found : (m : ℕ) → suc more ≡ suc m → Leads r (try_at r (ordinal + 1) m work works) f.rest Over → Tries (ordinal + 1) m work works f.rest =
      λ m same g. let is : more ≡ m = cc same in
      subst (λ n. Tries (ordinal + 1) n work works f.rest) is (tries_found more (ordinal + 1) work works f.rest (subst (λ n. Leads r (try_at r (ordinal + 1) n work works) f.rest Over) (sym is) g)) in
      subst (Tries ordinal (suc more) work works) (sym f.entries) (behind_found ordinal (suc more) work works f.a f.a.outcome f.rest f.is refl f.leads again_found)

  -- the attempts of the transactions
  pub attempts_found : (works : List Work) (ordinal : ℕ) (es : List LogEntry) → Leads r (works_at r ordinal works) es Over → (attempts : List Attempt) × (es ≡ flat_map entries_of attempts) × AreAttempts IsInLine r ordinal works attempts
  attempts_found [] ordinal es h = ([], over_none r es Over h, refl)
  attempts_found (work ∷ works) ordinal es h =
      let first = tries_found r.limits.restart ordinal work works es h in
      let more = attempts_found works (ordinal + length first.tries) first.rest first.leads in (
        first.tries ++ more.0,
        first.entries ∙ ap (λ x. flat_map entries_of first.tries ++ x) more.1 ∙ sym (flat_map-append entries_of first.tries more.0),
        (first.tries, more.0, refl, first.are, more.2),
      )
