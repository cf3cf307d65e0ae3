-- Readings of any logs, with parts in line or wide.
use Rattle.std.proofs.Common.{◌≡◌, ℕ, List, [], ◌++◌, Option, true, sym, subst, inl, inr}
use Rattle.std.specs.Prelude.{◌⊎◌}
use Rattle.std.specs.List.{AllByRecursion}
use Rattle.sql_base.specs.Scripts.{parts_of}
use Rattle.sql_base.specs.declared.outcomes.Abort.{Abort}
use Rattle.sql_base.specs.declared.scripts.Work.{Work}
use Rattle.sql_base.specs.declared.statements.Statement.{Statement}
use Rattle.session_grammar.specs.declared.logs.LogEntry.{LogEntry}
use Rattle.session_grammar.specs.Follows.{Attempt, Follows, InLineBy, IsPart, Reads, WideBy}
use Rattle.session_grammar.specs.Plans.{Asker, plan_of, sents_of}
use Rattle.session_grammar.specs.declared.plans.Plan.{Plan}
use Rattle.session_grammar.specs.declared.plans.Plan.TheVariants.{Singles, Subsets}
use Rattle.session_grammar.specs.declared.plans.Sent.{Sent}
use Rattle.session_laws.specs.Scaffold.Machine.{are_subsets}
use Rattle.session_laws.proofs.Loose.{IsLoose, in_line_loose, wide_loose}
use Rattle.session_laws.proofs.LooseSame.{Then, loose_same}
use Rattle.session_laws.proofs.Plans.{Suits, plans_suit}
use Rattle.session_laws.proofs.Readings.{no_front, one_reading}
use Rattle.session_laws.proofs.Rows.{Same, in_line_by}
use Rattle.session_laws.proofs.Touching.{then_ending}
use Rattle.session_laws.proofs.Within.{Rise, plans_rise}

module _ (r : Asker) where
  abbrev PartBy : ℕ → Plan → List LogEntry → Option Abort → Type 0
  PartBy ordinal plan entries end = InLineBy r ordinal plan entries end ⊎ WideBy r ordinal plan entries end

  part_loose : (ordinal : ℕ) (sents : List Sent) (entries : List LogEntry) (end : Option Abort) → Rise 0 (parts_of r.tables) sents → AllByRecursion (Suits true) sents → PartBy ordinal (Subsets sents) entries end
      → IsLoose r ordinal sents entries end
  part_loose ordinal sents entries end rise suits (inl h) =
      subst (λ (x : List LogEntry). IsLoose r ordinal sents x end) (sym h.1) (in_line_loose r ordinal (parts_of r.tables) sents h.0 end rise suits h.2)
  part_loose ordinal sents entries end rise suits (inr h) = wide_loose r ordinal sents entries end h

  part_same_by : (ordinal : ℕ) (plan : Plan) (xs ys us vs : List LogEntry) (e f : Option Abort) → Rise 0 (parts_of r.tables) (sents_of plan) → AllByRecursion (Suits (are_subsets plan)) (sents_of plan)
      → PartBy ordinal plan xs e → PartBy ordinal plan ys f → Then e us → Then f vs → xs ++ us ≡ ys ++ vs → Same xs ys e f
  part_same_by ordinal (Subsets sents) xs ys us vs e f rise suits h k t u is =
      loose_same r ordinal sents xs ys us vs e f suits (part_loose ordinal sents xs e rise suits h) (part_loose ordinal sents ys f rise suits k) t u is
  part_same_by ordinal (Singles sents) xs ys us vs e f rise suits (inl h) (inl k) t u is = in_line_by r ordinal (Singles sents) xs ys us vs e f h k is
  part_same_by ordinal (Singles sents) xs ys us vs e f rise suits (inl h) (inr k) t u is = absurd k
  part_same_by ordinal (Singles sents) xs ys us vs e f rise suits (inr h) k t u is = absurd h

  part_same : (ordinal : ℕ) (s : Statement) (xs ys us vs : List LogEntry) (e f : Option Abort) → IsPart r ordinal s xs e → IsPart r ordinal s ys f → Then e us → Then f vs → xs ++ us ≡ ys ++ vs → Same xs ys e f
  part_same ordinal s xs ys us vs e f h k t u is = part_same_by ordinal (plan_of r s) xs ys us vs e f (plans_rise r s) (plans_suit r s) h k t u is

  -- a log has one reading
  pub reading_same : (works : List Work) (log : List LogEntry) (xs ys : List Attempt) → Reads IsPart r works log xs → Reads IsPart r works log ys → xs ≡ ys
  reading_same = one_reading IsPart r Then (λ us. tt) (then_ending r) part_same

  -- and one that follows isn't the front of another
  pub front_none : (works : List Work) (log rest : List LogEntry) → Follows r works log → Follows r works (log ++ rest) → rest ≡ []
  front_none works log rest h k = no_front IsPart r Then (λ us. tt) (then_ending r) part_same works log rest h.0 k.0 h.1 k.1
