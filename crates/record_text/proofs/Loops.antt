-- Steps of the loops that read a log.
use Rattle.std.proofs.Common.{◌≡◌, ◌≤◌, ◌<◌, ℕ, zero, suc, ◌+◌, ◌-◌, ◌*◌, List, [], ◌∷◌, ◌++◌, length, drop, get_or, Some, None, true, false, cond, refl, ap, sym, ◌∙◌, subst, arith, append_assoc}
use Rattle.std.specs.Prelude.{sum_by}
use Rattle.std.specs.List.{AllByRecursion, range_with_len}
use Rattle.std.proofs.Math.Nat.{mul-le-mul_right, suc-mul}
use Rattle.std.proofs.lemmas.List.{append-nil, drop_all}
use Rattle.std.proofs.lemmas.List.Sums.{sum_by-cons}
use Rattle.sql_base.specs.declared.outcomes.Abort.{Abort}
use Rattle.sql_base.specs.declared.scripts.Script.{Script}
use Rattle.sql_base.specs.declared.scripts.Work.{Work}
use Rattle.one_thread.specs.declared.shown.Shown.{Shown}
use Rattle.sql_base.proofs.ListFacts.{drop-within}
use Rattle.session_grammar.specs.declared.logs.LogEntry.{LogEntry}
use Rattle.session_grammar.specs.Follows.{asker}
use Rattle.session_grammar.specs.Plans.{Asker}
use Rattle.record_text.specs.Scaffold.Reading.{behind, behind_all, closes, first_failure, is_locked_out, last_failure, or_else, outcome_of, own, part_length, sessions_read, shown_read, tries_read, works_read}

-- the first partition that failed
module _ (es : List LogEntry) (n part : ℕ) (within : part < n) where
  range-here : first_failure es (range_with_len part (n - part)) ≡ or_else (last_failure part None es) (first_failure es (range_with_len (part + 1) (n - (part + 1))))
  range-here = let one : n - part ≡ suc (n - (part + 1)) = omega (arith, within) in ap (λ m. first_failure es (range_with_len part m)) one

  pub failed-here : (abort : Abort) → last_failure part None es ≡ Some abort → first_failure es (range_with_len part (n - part)) ≡ Some abort
  failed-here abort told = range-here ∙ ap (λ x. or_else x (first_failure es (range_with_len (part + 1) (n - (part + 1))))) told

  pub failed-later : last_failure part None es ≡ None → first_failure es (range_with_len part (n - part)) ≡ first_failure es (range_with_len (part + 1) (n - (part + 1)))
  failed-later told = range-here ∙ ap (λ x. or_else x (first_failure es (range_with_len (part + 1) (n - (part + 1))))) told

-- how long a part is
module _ (many left : ℕ) (es : List LogEntry) (i : ℕ) (so_far : part_length many es ≡ i + part_length left (drop i es)) where
  module _ (e : LogEntry) (within : i < length es) (is : e ≡ get_or es i e) where
    pub part-more : (k after : ℕ) → left ≡ suc k → after ≡ cond (closes e) k (suc k) → part_length many es ≡ i + 1 + part_length after (drop (i + 1) es)
    part-more k after some told =
        let rest : part_length left (drop i es) ≡ suc (part_length after (drop (i + 1) es)) = (λ j. part_length (some j) (drop-within es i e within is j)) ∙ ap (λ m. suc (part_length m (drop (i + 1) es))) (sym told) in
        omega (arith, so_far, rest)

-- the attempts of a transaction: the last, and one with others behind it
module _ (r : Asker) (work : Work) (ordinal : ℕ) (log : List LogEntry) (attempt : Shown) (is : attempt ≡ shown_read r ordinal work (own ordinal log)) where
  ended_so : outcome_of (own ordinal log) ≡ attempt.outcome
  ended_so = ap (λ (s : Shown). s.outcome) (sym is)

  pub tries-last : (more : ℕ) → is_locked_out attempt.outcome ≡ false → tries_read r work ordinal more log ≡ attempt ∷ []
  tries-last zero stops = ap (λ (s : Shown). s ∷ []) (sym is)
  tries-last (suc more) stops =
      ap (λ b. shown_read r ordinal work (own ordinal log) ∷ cond b (tries_read r work (ordinal + 1) more (behind ordinal log)) []) (ap is_locked_out ended_so ∙ stops) ∙ ap (λ (s : Shown). s ∷ []) (sym is)

  pub tries-only : (more : ℕ) → more ≡ 0 → tries_read r work ordinal more log ≡ attempt ∷ []
  tries-only zero none = ap (λ (s : Shown). s ∷ []) (sym is)
  tries-only (suc more) none = absurd (omega (arith, none))

  pub tries-more : (more : ℕ) → (more ≡ 0 → ⊥) → is_locked_out attempt.outcome ≡ true → tries_read r work ordinal more log ≡ attempt ∷ tries_read r work (ordinal + 1) (more - 1) (behind ordinal log)
  tries-more zero some goes_on = absurd (some refl)
  tries-more (suc more) some goes_on =
      let one : more ≡ suc more - 1 = omega arith in
      ap (λ b. shown_read r ordinal work (own ordinal log) ∷ cond b (tries_read r work (ordinal + 1) more (behind ordinal log)) []) (ap is_locked_out ended_so ∙ goes_on)
      ∙ ap (λ (s : Shown). s ∷ tries_read r work (ordinal + 1) more (behind ordinal log)) (sym is) ∙ ap (λ m. attempt ∷ tries_read r work (ordinal + 1) m (behind ordinal log)) one

-- one attempt more behind which the log is
pub behind-more : (ordinal many place : ℕ) (rest : List LogEntry) → place < many → behind_all (ordinal + place) (many - place) rest ≡ behind_all (ordinal + (place + 1)) (many - (place + 1)) (behind (ordinal + place) rest)
behind-more ordinal many place rest lt =
    let one : many - place ≡ suc (many - (place + 1)) = omega (arith, lt) in
    let next : ordinal + place + 1 ≡ ordinal + (place + 1) = omega arith in
    ap (λ m. behind_all (ordinal + place) m rest) one ∙ ap (λ m. behind_all m (many - (place + 1)) (behind (ordinal + place) rest)) next

-- the transactions that are left show the rest, and few attempts stand before them
pub record InSession (script : Script) (session : ℕ) (works : List Work) (log : List LogEntry) (before shown : List Shown) (ordinal : ℕ) (rest : List LogEntry) (i : ℕ) : Type 0 where
  pub same : before ++ works_read (asker script session) 1 works log ≡ shown ++ works_read (asker script session) ordinal (drop i works) rest
  pub few : ordinal ≤ 1 + i * (script.limits.restart + 1)

-- attempts are few: each transaction has at most k
pub few-now : (k i n ordinal : ℕ) → i < n → n * k ≤ 1000 → ordinal ≤ 1 + i * k → ordinal + k ≤ 1001
few-now k i n ordinal within most few = let below : suc i * k ≤ n * k = mul-le-mul_right k (omega (arith, within)) in omega (arith, below, suc-mul i k, most, few)

few-more : (k i ordinal many : ℕ) → ordinal ≤ 1 + i * k → many ≤ k → ordinal + many ≤ 1 + (i + 1) * k
few-more k i ordinal many few le =
    let one : i + 1 ≡ suc i = omega arith in
    let next : (i + 1) * k ≡ i * k + k = ap (λ m. m * k) one ∙ suc-mul i k in
    omega (arith, few, le, next)

pub session-begins : (script : Script) (session : ℕ) (works : List Work) (log : List LogEntry) (shown : List Shown) → InSession script session works log shown shown 1 log 0
session-begins script session works log shown = record { same = refl; few = omega arith }

pub session-more : (script : Script) (session : ℕ) (works : List Work) (log : List LogEntry) (before shown after : List Shown) (ordinal : ℕ) (rest left : List LogEntry) (i many : ℕ) (work : Work)
    → InSession script session works log before shown ordinal rest i → i < length works → work ≡ get_or works i work
    → after ≡ shown ++ tries_read (asker script session) work ordinal script.limits.restart rest → many ≡ length (tries_read (asker script session) work ordinal script.limits.restart rest)
    → many ≤ script.limits.restart + 1 → left ≡ behind_all ordinal many rest → InSession script session works log before after (ordinal + many) left (i + 1)
session-more script session works log before shown after ordinal rest left i many work so_far within is told count few there =
    let r = asker script session in
    let tries = tries_read r work ordinal script.limits.restart rest in
    let later : List Shown = works_read r (ordinal + many) (drop (i + 1) works) left in
    let read : works_read r ordinal (drop i works) rest ≡ tries ++ later =
    ap (λ ws. works_read r ordinal ws rest) (drop-within works i work within is) ∙ (λ j. tries ++ works_read r (ordinal + sym count j) (drop (i + 1) works) (behind_all ordinal (sym count j) rest))
    ∙ ap (λ (l : List LogEntry). tries ++ works_read r (ordinal + many) (drop (i + 1) works) l) (sym there) in
    record {
      same = so_far.same ∙ ap (λ (xs : List Shown). shown ++ xs) read ∙ sym (append_assoc shown tries later) ∙ ap (λ (xs : List Shown). xs ++ later) (sym told);
      few = few-more (script.limits.restart + 1) i ordinal many so_far.few few;
    }

pub session-ends : (script : Script) (session : ℕ) (works : List Work) (log : List LogEntry) (before shown : List Shown) (ordinal : ℕ) (rest : List LogEntry) (i : ℕ)
    → InSession script session works log before shown ordinal rest i → length works ≤ i → shown ≡ before ++ works_read (asker script session) 1 works log
session-ends script session works log before shown ordinal rest i so_far past =
    let none : works_read (asker script session) ordinal (drop i works) rest ≡ [] = ap (λ ws. works_read (asker script session) ordinal ws rest) (drop_all i works past) in
    sym (so_far.same ∙ ap (λ (xs : List Shown). shown ++ xs) none ∙ append-nil shown)

-- one session more
pub sessions-more : (script : Script) (number : ℕ) (sessions : List (List Work)) (logs : List (List LogEntry)) (i : ℕ) (works : List Work) (log : List LogEntry) → i < length sessions → works ≡ get_or sessions i works → i < length logs → log ≡ get_or logs i log
    → sessions_read script number (drop i sessions) (drop i logs) ≡ works_read (asker script number) 1 works log ++ sessions_read script (number + 1) (drop (i + 1) sessions) (drop (i + 1) logs)
sessions-more script number sessions logs i works log within is within_logs is_log =
    (λ j. sessions_read script number (drop-within sessions i works within is j) (drop-within logs i log within_logs is_log j))

-- what holds of all holds of one
pub all-get : {A : Type 0} (P : A → Type 0) (xs : List A) (i : ℕ) (x : A) → AllByRecursion P xs → i < length xs → x ≡ get_or xs i x → P x
all-get P [] i x h lt is = absurd (omega (arith, lt))
all-get P (y ∷ xs) zero x h lt is = subst P (sym is) h.0
all-get P (y ∷ xs) (suc i) x h lt is = all-get P xs i x h.1 (omega (arith, lt)) is

-- one of some lists is no longer than all together
pub within-sum : {A : Type 0} (xs : List (List A)) (i : ℕ) (x : List A) → i < length xs → x ≡ get_or xs i x → length x ≤ sum_by (λ (y : List A). length y) xs
within-sum [] i x lt is = absurd (omega (arith, lt))
within-sum {A = A} (y ∷ xs) zero x lt is = omega (arith, ap length is, sum_by-cons (λ (z : List A). length z) y xs)
within-sum {A = A} (y ∷ xs) (suc i) x lt is = omega (arith, within-sum xs i x (omega (arith, lt)) is, sum_by-cons (λ (z : List A). length z) y xs)
