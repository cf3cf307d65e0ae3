-- How many candidates a quantum handles, by what the code sees where it stops.
use Rattle.std.proofs.Common.{◌≡◌, ℕ, ◌+◌, ◌-◌, ◌<◌, ◌≤◌, List, [], ◌∷◌, ◌++◌, length, take, drop, Bool, true, false, cond, ◌&&◌, ◌⊎◌, inl, inr, min, zero, suc, refl, ap, sym, ◌∙◌, arith, append_assoc, length-append}
use Rattle.std.proofs.Math.Nat.{eq-or-lt_of_le}
use Rattle.std.proofs.Math.Seq.{take-append_seam, take-append-add, drop-append_seam}
use Rattle.std.proofs.lemmas.List.Folds.{list_all-append}
use Rattle.std.proofs.lemmas.List.Elements.{filter_map-append}
use Rattle.std.proofs.lemmas.List.Sums.{sum_by-append}
use Rattle.std.proofs.lemmas.Bool.{false≢true}
use Rattle.std.proofs.lemmas.Bool.Decides.{nat_tests}
use Rattle.std.proofs.lemmas.Grind.{common_steps}
use Rattle.quantum_core.specs.Quantum.{greatest, may_handle, visits, reply_to, answer}
use Rattle.quantum_core.specs.Verdicts.{Judged}
use Rattle.sql_base.specs.declared.scripts.Limits.{Limits}

greatest_step : (p : ℕ → Bool) (n m : ℕ) → (m ≡ suc n) ⊎ (m < suc n) → p m ≡ true → ((k : ℕ) → m < k → k ≤ suc n → p k ≡ false) → (m ≤ n → greatest p n ≡ m) → greatest p (suc n) ≡ m
greatest_step p n m (inl e) passes above rest = ap (λ b. cond b (suc n) (greatest p n)) (ap p (sym e) ∙ passes) ∙ sym e
greatest_step p n m (inr lt) passes above rest = ap (λ b. cond b (suc n) (greatest p n)) (above (suc n) (omega arith) (omega arith)) ∙ rest (omega arith)

-- the greatest number that passes is m, where m passes and nothing above it does
pub greatest_is : (p : ℕ → Bool) (n m : ℕ) → m ≤ n → p m ≡ true → ((k : ℕ) → m < k → k ≤ n → p k ≡ false) → greatest p n ≡ m
greatest_is p zero m le passes above = omega arith
greatest_is p (suc n) m le passes above =
    greatest_step p n m (eq-or-lt_of_le le) passes above (λ le'. greatest_is p n m le' passes (λ k lt lek. above k lt (omega arith)))

-- one more number to try
at_least_step : (p : ℕ → Bool) (n k : ℕ) (b : Bool) → p (suc n) ≡ b → p k ≡ true → (k ≡ suc n) ⊎ (k < suc n) → (k ≤ n → k ≤ greatest p n) → k ≤ cond b (suc n) (greatest p n)
at_least_step p n k true e passes (inl same) rest = omega arith
at_least_step p n k true e passes (inr lt) rest = omega arith
at_least_step p n k false e passes (inl same) rest = absurd (false≢true (sym e ∙ ap p (sym same) ∙ passes))
at_least_step p n k false e passes (inr lt) rest = rest (omega arith)

-- the greatest number that passes is no less than any that passes
pub greatest-at_least : (p : ℕ → Bool) (n k : ℕ) → k ≤ n → p k ≡ true → k ≤ greatest p n
greatest-at_least p zero k le passes = omega arith
greatest-at_least p (suc n) k le passes = at_least_step p n k (p (suc n)) refl passes (eq-or-lt_of_le le) (λ le'. greatest-at_least p n k le' passes)

-- what doesn't fit doesn't with more behind it
pub may_handle-append_false : (limits : Limits) (xs ys : List Judged) → may_handle limits xs ≡ false → may_handle limits (xs ++ ys) ≡ false
may_handle-append_false limits xs ys misfit = grind (arith, nat_tests, list_all-append, filter_map-append, sum_by-append)

-- beyond the place where the code stops nothing passes
beyond : (limits : Limits) (done rest : List Judged) (next : Judged) → may_handle limits (done ++ next ∷ []) ≡ false → (k : ℕ) → length done < k → may_handle limits (take k (done ++ next ∷ rest)) ≡ false
beyond limits done rest next misfit k lt =
    let j : ℕ = k - length done - 1 in
    let at : k ≡ length done + suc j = omega arith in
    let e : take k (done ++ next ∷ rest) ≡ (done ++ next ∷ []) ++ take j rest =
    ap (λ n. take n (done ++ next ∷ rest)) at ∙ take-append-add done (next ∷ rest) (suc j) ∙ sym (append_assoc done (next ∷ []) (take j rest)) in
    ap (may_handle limits) e ∙ may_handle-append_false limits (done ++ next ∷ []) (take j rest) misfit

beyond_each : (limits : Limits) (done rest : List Judged) (next : Judged) → (length done ≡ limits.quantum) ⊎ (may_handle limits (done ++ next ∷ []) ≡ false) → (k : ℕ) → length done < k → k ≤ limits.quantum → may_handle limits (take k (done ++ next ∷ rest)) ≡ false
beyond_each limits done rest next (inl e) k lt le = absurd (omega arith)
beyond_each limits done rest next (inr misfit) k lt le = beyond limits done rest next misfit k lt

pub visits_stop : (limits : Limits) (done rest : List Judged) (next : Judged) → may_handle limits done ≡ true → length done ≤ limits.quantum → (length done ≡ limits.quantum) ⊎ (may_handle limits (done ++ next ∷ []) ≡ false) → visits limits (done ++ next ∷ rest) ≡ length done
visits_stop limits done rest next good le why =
    let js : List Judged = done ++ next ∷ rest in
    let within : length done ≤ min limits.quantum (length js) = omega (arith, length-append done (next ∷ rest)) in
    greatest_is (λ m. may_handle limits (take m js)) (min limits.quantum (length js)) (length done) within (ap (may_handle limits) (take-append_seam done (next ∷ rest)) ∙ good) (λ k lt lek. beyond_each limits done rest next why k lt (omega arith))

pub visits_end : (limits : Limits) (done : List Judged) → may_handle limits done ≡ true → length done ≤ limits.quantum → visits limits done ≡ length done
visits_end limits done good le =
    let front : take (length done) done ≡ done = grind (arith, common_steps) in
    greatest_is (λ m. may_handle limits (take m done)) (min limits.quantum (length done)) (length done) (omega arith) (ap (may_handle limits) front ∙ good) (λ k lt lek. absurd (omega arith))

-- the code stopped at a candidate, at the last visit or since it doesn't fit with it
pub stops : (limits : Limits) (done rest : List Judged) (next : Judged) → may_handle limits done ≡ true → length done ≤ limits.quantum → (length done ≡ limits.quantum) ⊎ (may_handle limits (done ++ next ∷ []) ≡ false) → reply_to limits (done ++ next ∷ rest) ≡ answer limits done (next ∷ rest)
stops limits done rest next good le why =
    let js : List Judged = done ++ next ∷ rest in
    let front : take (length done) js ≡ done = take-append_seam done (next ∷ rest) in
    let back : drop (length done) js ≡ next ∷ rest = drop-append_seam done (next ∷ rest) in
    let within : length done ≤ min limits.quantum (length js) = omega (arith, length-append done (next ∷ rest)) in
    let m : visits limits js ≡ length done =
    greatest_is (λ m. may_handle limits (take m js)) (min limits.quantum (length js)) (length done) within (ap (may_handle limits) front ∙ good)
    (λ k lt lek. beyond_each limits done rest next why k lt (omega arith)) in
    ap (λ m. answer limits (take m js) (drop m js)) m ∙ ap (λ xs. answer limits xs (drop (length done) js)) front ∙ ap (answer limits done) back

-- the code came to the end
pub ends : (limits : Limits) (done : List Judged) → may_handle limits done ≡ true → length done ≤ limits.quantum → reply_to limits done ≡ answer limits done []
ends limits done good le =
    let front : take (length done) done ≡ done = grind (arith, common_steps) in
    let back : drop (length done) done ≡ [] = grind (arith, common_steps) in
    let m : visits limits done ≡ length done =
    greatest_is (λ m. may_handle limits (take m done)) (min limits.quantum (length done)) (length done) (omega arith) (ap (may_handle limits) front ∙ good)
    (λ k lt lek. absurd (omega arith)) in
    ap (λ m. answer limits (take m done) (drop m done)) m ∙ ap (λ xs. answer limits xs (drop (length done) done)) front ∙ ap (answer limits done) back
