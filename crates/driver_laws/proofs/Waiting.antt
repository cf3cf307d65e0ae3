-- A session whose message was served finds its reply.
use Rattle.std.proofs.Common.{◌≡◌, ◌≤◌, ◌<◌, ℕ, zero, suc, List, [], ◌∷◌, ◌++◌, length, map, Some, Bool, true, false, cond, refl, sym, subst, arith}
use Rattle.std.proofs.lemmas.Bool.{and_parts, eq-eqb, eqb-true, false≢true}
use Rattle.std.proofs.lemmas.Bool.Decides.{nat_tests}
use Rattle.std.specs.Prelude.{fold, nat_le, slice_get, ◌&&◌, ◌||◌, ◌==◌, Contains}
use Rattle.std.specs.List.{list_any}
use Rattle.sql_base.specs.Scripts.{Lies}
use Rattle.sql_base.specs.declared.scripts.Script.{Script}
use Rattle.partition_state.specs.History.{replay}
use Rattle.partition_state.specs.State.{State, opener_of}
use Rattle.partition_state.specs.declared.entries.Entry.{Entry}
use Rattle.run_record.specs.Openings.{history_of, openings}
use Rattle.run_record.specs.declared.records.Act.{Act}
use Rattle.run_record.specs.declared.records.Act.TheVariants.{Send, Take, ByHand, Draw, Serve}
use Rattle.run_record.specs.declared.records.RunRecord.{RunRecord}
use Rattle.state_facts.proofs.Openings.{opened-fresh}
use Rattle.record_laws.specs.SoFar.{LegalSoFar, way_of}
use Rattle.session_grammar.specs.UnderWay.{Sending, UnderWay, IsOpen}
use Rattle.driver_laws.specs.Scheduling.{Awaited, Posted, ScheduledSoFar, Step, is_old, is_serve_of, newly, posted_of, seen_more}
use Rattle.driver_laws.proofs.Picking.{is_legal, never_passed}
use Rattle.sql_base.proofs.ListFacts.{all_in}
use Rattle.partition_laws.proofs.LastEntries.{take_whole, up_to_last}

-- what a partition has served as new, it has still
module _ (part : ℕ) (m : Posted) where
  any_more : (xs : List Posted) (x : Posted) → list_any (is_old m) xs ≡ true → list_any (is_old m) (xs ++ x ∷ []) ≡ true
  any_more [] x h = absurd (false≢true h)
  any_more (y ∷ xs) x h = by_first (is_old m y) h (λ g. any_more xs x g)
    where
      by_first : (b : Bool) → (b || list_any (is_old m) xs) ≡ true → (list_any (is_old m) xs ≡ true → list_any (is_old m) (xs ++ x ∷ []) ≡ true) → (b || list_any (is_old m) (xs ++ x ∷ [])) ≡ true
      by_first true g to = refl
      by_first false g to = to g

  any_last : (xs : List Posted) → list_any (is_old m) (xs ++ m ∷ []) ≡ true
  any_last [] = let own = eq-eqb m.opener m.opener refl in let same : nat_le m.sync m.sync ≡ true = grind (arith, nat_tests) in rw (own, same) refl
  any_last (y ∷ xs) = by_first (is_old m y) (any_last xs)
    where
      by_first : (b : Bool) → list_any (is_old m) (xs ++ m ∷ []) ≡ true → (b || list_any (is_old m) (xs ++ m ∷ [])) ≡ true
      by_first true g = refl
      by_first false g = g

  seen_keeps : (seen : List Posted) (x : Posted) → list_any (is_old m) seen ≡ true → list_any (is_old m) (seen_more seen x) ≡ true
  seen_keeps seen x h = by_test (list_any (is_old x) seen)
    where
      by_test : (b : Bool) → list_any (is_old m) (cond b seen (seen ++ x ∷ [])) ≡ true
      by_test true = h
      by_test false = any_more seen x h

  seen_its : (seen : List Posted) → list_any (is_old m) (seen_more seen m) ≡ true
  seen_its seen = by_test (list_any (is_old m) seen) refl
    where
      by_test : (b : Bool) → list_any (is_old m) seen ≡ b → list_any (is_old m) (cond b seen (seen ++ m ∷ [])) ≡ true
      by_test true e = e
      by_test false e = any_last seen

  one_keeps : (b : Bool) (seen : List Posted) (x : Posted) → list_any (is_old m) seen ≡ true → list_any (is_old m) (cond b (seen_more seen x) seen) ≡ true
  one_keeps true seen x h = seen_keeps seen x h
  one_keeps false seen x h = h

  newly_keeps : (seen : List Posted) (act : Act) → list_any (is_old m) seen ≡ true → list_any (is_old m) (newly part seen act) ≡ true
  newly_keeps seen (Send session p sync passage) h = h
  newly_keeps seen (Take session) h = h
  newly_keeps seen (ByHand session p sync) h = one_keeps (p == part) seen (record { opener = session; sync = sync }) h
  newly_keeps seen (Draw session) h = h
  newly_keeps seen (Serve p opener sync) h = one_keeps (p == part) seen (record { opener = opener; sync = sync }) h

  news_keep : (acts : List Act) (seen : List Posted) → list_any (is_old m) seen ≡ true → list_any (is_old m) (fold (newly part) seen acts) ≡ true
  news_keep [] seen h = h
  news_keep (act ∷ acts) seen h = news_keep acts (newly part seen act) (newly_keeps seen act h)

  abbrev its : Awaited
  its = record { part = part; sync = m.sync }

  newly_its : (seen : List Posted) (act : Act) → is_serve_of m.opener its act ≡ true → list_any (is_old m) (newly part seen act) ≡ true
  newly_its seen (Send session p sync passage) h = absurd (false≢true h)
  newly_its seen (Take session) h = absurd (false≢true h)
  newly_its seen (ByHand session p sync) h = absurd (false≢true h)
  newly_its seen (Draw session) h = absurd (false≢true h)
  newly_its seen (Serve p opener sync) h =
      let two = and_parts (p == part && opener == m.opener) (sync == m.sync) h in
      let more = and_parts (p == part) (opener == m.opener) two.0 in
      let same : record { opener = opener; sync = sync } ≡ m = both (eqb-true opener m.opener more.1) (eqb-true sync m.sync two.1) in
      rw more.0 (subst (λ x. list_any (is_old m) (seen_more seen x) ≡ true) (sym same) (seen_its seen))
    where
      both : opener ≡ m.opener → sync ≡ m.sync → record { opener = opener; sync = sync } ≡ m
      both e f = λ i. record { opener = e i; sync = f i }

  served_seen : (acts : List Act) (seen : List Posted) → list_any (is_serve_of m.opener its) acts ≡ true → list_any (is_old m) (fold (newly part) seen acts) ≡ true
  served_seen [] seen h = absurd (false≢true h)
  served_seen (act ∷ acts) seen h = by_first (is_serve_of m.opener its act) refl h (λ g. served_seen acts (newly part seen act) g)
    where
      by_first : (b : Bool) → is_serve_of m.opener its act ≡ b → (b || list_any (is_serve_of m.opener its) acts) ≡ true
          → (list_any (is_serve_of m.opener its) acts ≡ true → list_any (is_old m) (fold (newly part) (newly part seen act) acts) ≡ true) → list_any (is_old m) (fold (newly part) (newly part seen act) acts) ≡ true
      by_first true e g to = news_keep acts (newly part seen act) (newly_its seen act e)
      by_first false e g to = to g

  found : (es : List Entry) → list_any (is_old m) (map posted_of es) ≡ true → (e : Entry) × Contains es e × (e.opener ≡ m.opener) × (m.sync ≤ e.sync)
  found [] h = absurd (false≢true h)
  found (e ∷ es) h = by_first (is_old m (posted_of e)) refl h (λ g. found es g)
    where
      le_from : nat_le m.sync e.sync ≡ true → m.sync ≤ e.sync
      le_from t = grind (arith, nat_tests)

      by_first : (b : Bool) → is_old m (posted_of e) ≡ b → (b || list_any (is_old m) (map posted_of es)) ≡ true → (list_any (is_old m) (map posted_of es) ≡ true → (f : Entry) × Contains es f × (f.opener ≡ m.opener) × (m.sync ≤ f.sync))
          → (f : Entry) × Contains (e ∷ es) f × (f.opener ≡ m.opener) × (m.sync ≤ f.sync)
      by_first true t g to = let two = and_parts _ _ t in (e, (zero, omega arith, refl), eqb-true e.opener m.opener two.0, le_from two.1)
      by_first false t g to = let r = to g in (r.0, (suc r.1.0, omega (arith, r.1.1), r.1.2), r.2, r.3)

-- where a Serve named its request under way, the partition keeps its reply
pub reply_is_kept : (script : Script) (kept : RunRecord) (ways : List UnderWay) → LegalSoFar script kept ways → (live : ℕ → Bool) (tails : ℕ → List Step) (choices : List ℕ) → ScheduledSoFar live tails choices kept
    → (session : ℕ) → Lies 1 (length script.sessions) session → (s : Sending) → IsOpen (way_of ways session) s → s.part < length kept.histories → (p : State) → slice_get (openings script) s.part ≡ Some p
    → list_any (is_serve_of session (record { part = s.part; sync = s.sync })) kept.acts ≡ true → (opener_of (replay p (history_of kept s.part)) session).last ≡ s.sync
reply_is_kept script kept ways legal live tails choices scheduled session lies s is_open within p opens served =
    let m : Posted = record { opener = session; sync = s.sync } in
    let seen = served_seen s.part m kept.acts [] served in
    let in_history = subst (λ (ms : List Posted). list_any (is_old m) ms ≡ true) (scheduled.new_serves s.part within) seen in
    let e = found s.part m (history_of kept s.part) in_history in
    let few = legal.script_runs.some_sessions.1 in
    let legal_here = is_legal script kept ways legal session lies s.part within p opens in
    let up = up_to_last p (history_of kept s.part) session (opened-fresh script s.part p legal.script_runs opens).keeps legal_here (lies.0, omega (arith, lies.1, few)) in
    let low = all_in (λ (f : Entry). f.opener ≡ session → f.sync ≤ (opener_of (replay p (history_of kept s.part)) session).last) e.0 (history_of kept s.part) e.1 up e.2 in
    let high = never_passed script kept ways legal session lies s.part within p opens s refl is_open in
    omega (arith, low, high, e.3)
