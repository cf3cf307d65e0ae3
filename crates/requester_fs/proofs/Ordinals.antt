-- The ordinals of a session's attempts are few.
use Rattle.std.proofs.Common.{◌≡◌, ◌≤◌, ◌<◌, ◌^◌, ◌*◌, ℕ, zero, suc, ◌+◌, ◌-◌, List, [], ◌∷◌, length, drop, Some, ap, sym, ◌∙◌, subst, arith}
use Rattle.std.specs.Prelude.{slice_get, sum_by, unwrap_or, IfSome}
use Rattle.std.proofs.Math.Nat.{suc-mul}
use Rattle.std.proofs.lemmas.List.Sums.{sum_by-cons}
use Rattle.sql_base.specs.Scripts.{IsScript, Lies, parts_of}
use Rattle.sql_base.specs.declared.scripts.Script.{Script}
use Rattle.sql_base.specs.declared.scripts.Work.{Work}
use Rattle.session_grammar.specs.Follows.{asker, works_of}
use Rattle.session_grammar.specs.declared.logs.LogEntry.{LogEntry}
use Rattle.session_laws.specs.Scaffold.Left.{times}
use Rattle.session_laws.proofs.Ordinals.{few_attempts}
use Rattle.requester_fs.specs.Scaffold.Stages.{AreWorks, IsIn, doing_of, statements_of, trying_of}
use Rattle.requester_fs.specs.Scaffold.Working.{IsWorking}
use Rattle.requester_fs.specs.declared.stages.Stand.{Stand}
use Rattle.requester_fs.specs.declared.walking.Planner.{Planner}
use Rattle.requester_fs.proofs.Lists.{all_at}
use Rattle.sql_base.proofs.ListFacts.{some-at}

times_least : (n each : ℕ) → n ≤ times n (each + 1)
times_least zero each = omega arith
times_least (suc n) each = omega (arith, times_least n each)

times_within : (n m k : ℕ) → n ≤ m → times n k ≤ m * k
times_within zero m k le = omega arith
times_within (suc n) zero k le = absurd (omega (arith, le))
times_within (suc n) (suc m) k le = omega (arith, times_within n m k (omega (arith, le)), suc-mul m k)

drop_length : {A : Type 0} (xs : List A) (n : ℕ) → n < length xs → length xs ≡ n + 1 + length (drop (n + 1) xs)
drop_length [] n lt = absurd (omega (arith, lt))
drop_length (x ∷ xs) zero lt = omega arith
drop_length (x ∷ xs) (suc n) lt =
    let next : suc n + 1 ≡ suc (n + 1) = omega arith in
    omega (arith, drop_length xs n (omega (arith, lt)), ap (λ k. length (drop k (x ∷ xs))) next)

one_of_sum : {A : Type 0} (f : A → ℕ) (xs : List A) (n : ℕ) (x : A) → slice_get xs n ≡ Some x → f x ≤ sum_by f xs
one_of_sum f [] n x is = absurd (cc is)
one_of_sum f (y ∷ ys) zero x is =
    let same : y ≡ x = cc is in
    omega (arith, ap f same, sum_by-cons f y ys)
one_of_sum f (y ∷ ys) (suc n) x is = omega (arith, one_of_sum f ys n x is, sum_by-cons f y ys)

module _ (script : Script) (number : ℕ) (is : IsScript script) (lies : Lies 1 (length script.sessions) number) where
  here : (works : List Work) × (slice_get script.sessions (number - 1) ≡ Some works)
  here = some-at script.sessions (number - 1) (omega (arith, lies))

  works_are : works_of script number ≡ here.0
  works_are = ap (λ o. unwrap_or o []) here.1

  -- its transactions may be run
  pub works_suit : AreWorks script (works_of script number)
  works_suit =
      let all = all_at (λ works. AreWorks script works) script.sessions (number - 1) is.statements in
      subst (AreWorks script) (sym works_are) (subst (λ o. IfSome o (AreWorks script)) here.1 all)

  pub few_works : times (length (works_of script number)) (script.limits.restart + 1) ≤ 1000
  few_works =
      let one : length (works_of script number) ≤ sum_by (λ works. length works) script.sessions =
      omega (arith, one_of_sum (λ works. length works) script.sessions (number - 1) here.0 here.1, ap length works_are) in
      omega (arith, times_within (length (works_of script number)) (sum_by (λ works. length works) script.sessions) (script.limits.restart + 1) one, is.works)

  pub works_few : length (works_of script number) ≤ 1000
  works_few = omega (arith, few_works, times_least (length (works_of script number)) script.limits.restart)

  module _ (parts sync : ℕ) (s : Stand) (log : List LogEntry) (h : IsWorking script number parts (Some s) sync log) where
    pub few_ordinals : s.ordinal + s.restarts + length (works_of script number) < 2 ^ 32 + s.work
    few_ordinals =
        let works = works_of script number in
        let r = asker script number in
        let few = few_attempts r works log (trying_of works s) s.seen (doing_of r (statements_of works s) s.stage) h.stands in
        omega (arith, few, few_works, times_least (length (drop (s.work + 1) works)) script.limits.restart, drop_length works s.work h.kept.0)

    pub is_in : (p : Planner) (works : List Work) → p.script.now ≡ script → p.parts ≡ parts → works ≡ works_of script number → IsIn p works s
    is_in p works of counted are =
        record {
          planner = record { is_script = subst IsScript (sym of) is; counted = counted ∙ h.counted ∙ ap (λ (t : Script). parts_of t.tables) (sym of) };
          suit = subst (λ t. AreWorks t works) (sym of) (subst (AreWorks script) (sym are) works_suit);
          work = omega (arith, h.kept.0, ap length are);
          first = h.kept.1;
          ordinals = omega (arith, few_ordinals, ap length are);
        }
