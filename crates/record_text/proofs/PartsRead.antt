-- What is read of finished statements is what they gave.
use Rattle.std.proofs.Common.{◌≡◌, ℕ, List, [], ◌∷◌, ◌++◌, length, take, drop, map, None, refl, ap, sym, ◌∙◌, subst, inl, inr, append_assoc}
use Rattle.std.specs.List.{AllByRecursion}
use Rattle.std.proofs.lemmas.Bool.{false≢true}
use Rattle.std.proofs.lemmas.List.{take_at, drop_at}
use Rattle.sql_base.specs.Scripts.{parts_of}
use Rattle.sql_base.specs.declared.outcomes.Given.{Given}
use Rattle.sql_base.specs.declared.statements.Statement.{Statement}
use Rattle.session_grammar.specs.declared.logs.LogEntry.{LogEntry}
use Rattle.session_grammar.specs.Follows.{InLineBy, InTurn, IsList, IsPart, IsSingle, Together, WideBy, joined, projection}
use Rattle.session_grammar.specs.Plans.{Asker, plan_of, sents_of}
use Rattle.session_grammar.specs.declared.plans.Plan.{Plan}
use Rattle.session_grammar.specs.declared.plans.Plan.TheVariants.{Singles, Subsets}
use Rattle.session_grammar.specs.declared.plans.Sent.{Sent}
use Rattle.session_laws.proofs.Within.{Rise, plans_rise}
use Rattle.run_record.specs.Serial.{part_gives, givens_of}
use Rattle.record_laws.proofs.Plans.{ArePlanned, IsAlone, planned}
use Rattle.record_text.specs.Scaffold.Reading.{givens_read, how_many, part_length}
use Rattle.record_text.proofs.Closings.{AnySent, ClosesEach, ClosesOnce, list-closes, lists-close, part-front, single-closes_once, wide-close}

any_sents : (sents : List Sent) → AllByRecursion AnySent sents
any_sents [] = tt
any_sents (sent ∷ sents) = (tt, any_sents sents)

module _ (r : Asker) (ordinal : ℕ) where
  together-once : (sents : List Sent) (es : List LogEntry) → Together (IsList r ordinal) sents (map (projection es) sents) None → AllByRecursion (λ (sent : Sent). ClosesOnce (projection es sent)) sents
  together-once [] es h = tt
  together-once (sent ∷ sents) es (inl h) = ((list-closes r ordinal).once sent (projection es sent) tt h.0, together-once sents es h.1)
  together-once (sent ∷ sents) es (inr h) = absurd (false≢true h.1)

  in_line-closes : (plan : Plan) (es : List LogEntry) → ArePlanned plan → InLineBy r ordinal plan es None → ClosesEach (sents_of plan) es
  in_line-closes (Subsets sents) es is h = subst (ClosesEach sents) (sym h.1) (lists-close (IsList r ordinal) AnySent (list-closes r ordinal) sents h.0 (any_sents sents) h.2)
  in_line-closes (Singles sents) es is h = subst (ClosesEach sents) (sym h.1) (lists-close (IsSingle r ordinal) IsAlone (single-closes_once r ordinal) sents h.0 is h.2)

  wide-closes : (plan : Plan) (es : List LogEntry) → Rise 0 (parts_of r.tables) (sents_of plan) → WideBy r ordinal plan es None → ClosesEach (sents_of plan) es
  wide-closes (Subsets sents) es rise h = wide-close 0 (parts_of r.tables) sents es rise h.theirs (together-once sents es h.lists)
  wide-closes (Singles sents) es rise h = absurd h

  part-closes : (s : Statement) (es : List LogEntry) → IsPart r ordinal s es None → ClosesEach (sents_of (plan_of r s)) es
  part-closes s es (inl h) = in_line-closes (plan_of r s) es (planned r s) h
  part-closes s es (inr h) = wide-closes (plan_of r s) es (plans_rise r s) h

  pub givens-read : (statements : List Statement) (parts : List (List LogEntry)) (rest : List LogEntry) → InTurn (IsPart r ordinal) statements parts None
      → givens_read r statements (joined parts ++ rest) ≡ givens_of r statements parts
  givens-read [] [] rest h = refl
  givens-read [] (part ∷ parts) rest h = absurd h
  givens-read (s ∷ statements) [] rest h = absurd h
  givens-read (s ∷ statements) (part ∷ parts) rest (inl h) =
      let closes = part-closes s part h.0 in
      let whole : (part ++ joined parts) ++ rest ≡ part ++ (joined parts ++ rest) = append_assoc part (joined parts) rest in
      let long : part_length (how_many r s) ((part ++ joined parts) ++ rest) ≡ length part =
      ap (part_length (how_many r s)) whole ∙ part-front (how_many r s) part (joined parts ++ rest) closes.often closes.closed in
      let front : take (part_length (how_many r s) ((part ++ joined parts) ++ rest)) ((part ++ joined parts) ++ rest) ≡ part =
      (λ i. take (long i) (whole i)) ∙ take_at part (joined parts ++ rest) (length part) refl in
      let back : drop (part_length (how_many r s) ((part ++ joined parts) ++ rest)) ((part ++ joined parts) ++ rest) ≡ joined parts ++ rest =
      (λ i. drop (long i) (whole i)) ∙ drop_at part (joined parts ++ rest) (length part) refl in
      (λ i. part_gives r s (front i) ∷ givens_read r statements (back i)) ∙ ap (λ (gs : List Given). part_gives r s part ∷ gs) (givens-read statements parts rest h.1)
  givens-read (s ∷ statements) (part ∷ parts) rest (inr h) = absurd (false≢true h.1)
