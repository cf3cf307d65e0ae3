-- Where all statements of a script are firm, all that commits is.
use Rattle.std.proofs.Common.{◌-◌, ℕ, zero, suc, ◌+◌, List, [], ◌∷◌, length, inl, inr, sym, subst, arith}
use Rattle.std.specs.Prelude.{Contains, ◌⊎◌}
use Rattle.std.specs.List.{AllByRecursion}
use Rattle.std.proofs.lemmas.List.Elements.{Contains-append_cases}
use Rattle.sql_base.specs.declared.scripts.Script.{Script}
use Rattle.sql_base.specs.declared.scripts.Work.{Work}
use Rattle.session_grammar.specs.Follows.{AreAttempts, AreTries, Attempt, IsPart, asker}
use Rattle.session_grammar.specs.Plans.{Asker}
use Rattle.run_record.specs.Serial.{AllFirm, IsFirm}
use Rattle.run_record.specs.declared.records.RunRecord.{RunRecord}
use Rattle.sql_base.proofs.ListFacts.{all_slice}

module _ (Q : Work → Type 0) (r : Asker) where
  -- the tries of a transaction are of its work
  of_tries : (work : Work) (ordinal more : ℕ) (tries : List Attempt) (a : Attempt) → Q work → AreTries IsPart r work ordinal more tries → Contains tries a → Q a.work
  of_tries work ordinal more [] a holds are c = absurd are
  of_tries work ordinal more (b ∷ []) a holds are (zero, lt, is) = subst (λ (x : Attempt). Q x.work) is (subst Q (sym are.0.of_work) holds)
  of_tries work ordinal more (b ∷ []) a holds are (suc k, lt, is) = absurd (omega (arith, lt))
  of_tries work ordinal zero (b ∷ d ∷ rest) a holds are c = absurd are
  of_tries work ordinal (suc more) (b ∷ d ∷ rest) a holds are (zero, lt, is) = subst (λ (x : Attempt). Q x.work) is (subst Q (sym are.0.of_work) holds)
  of_tries work ordinal (suc more) (b ∷ d ∷ rest) a holds are (suc k, lt, is) = of_tries work (ordinal + 1) more (d ∷ rest) a holds are.2 (k, omega (arith, lt), is)

  -- so what holds of all works of a session holds of those of its attempts
  pub of_attempts : (ordinal : ℕ) (works : List Work) (attempts : List Attempt) (a : Attempt) → AllByRecursion Q works → AreAttempts IsPart r ordinal works attempts → Contains attempts a → Q a.work
  of_attempts ordinal [] attempts a all are c = absurd (let none = subst (λ xs. Contains xs a) are c in omega (arith, none.1))
  of_attempts ordinal (work ∷ works) attempts a all (tries, rest, is, are, later) c =
      by_place (Contains-append_cases tries rest a (subst (λ xs. Contains xs a) is c)) (λ there. of_attempts (ordinal + length tries) works rest a all.1 later there)
    where
      by_place : Contains tries a ⊎ Contains rest a → (Contains rest a → Q a.work) → Q a.work
      by_place (inl here) more = of_tries work ordinal r.limits.restart tries a all.0 are here
      by_place (inr there) more = more there

-- a script whose statements see the same at any time
abbrev pub AreFirm : Script → Type 0
AreFirm script = AllByRecursion (λ works. AllByRecursion (λ (work : Work). AllByRecursion IsFirm work.statements) works) script.sessions

pub all_firm : (script : Script) (kept : RunRecord) → AreFirm script → AllFirm script kept
all_firm script kept firm c there is =
    of_attempts (λ (work : Work). AllByRecursion IsFirm work.statements) (asker script c.drawn.name.session) 1 _ is.attempts c.attempt
    (all_slice (λ works. AllByRecursion (λ (work : Work). AllByRecursion IsFirm work.statements) works) [] tt script.sessions (c.drawn.name.session - 1) firm) is.reads.attempts_are is.holds
