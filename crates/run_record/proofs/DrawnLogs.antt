-- What the logs drew together, session by session.
use Rattle.std.proofs.Common.{◌≡◌, ◌<◌, ◌≤◌, ℕ, zero, suc, ◌-◌, List, [], ◌∷◌, ◌++◌, length, Some, None, Option, ap, refl, subst, sym, ◌∙◌, arith, inl, inr}
use Rattle.std.specs.Prelude.{◌↔◌, ◌⊎◌, Contains, flat_map, slice_get, unwrap_or}
use Rattle.std.proofs.lemmas.List.Elements.{Contains-append_cases, Contains-append_left, Contains-append_right}
use Rattle.commit_journal.specs.declared.Drawn.{Drawn}
use Rattle.session_grammar.specs.declared.logs.LogEntry.{LogEntry}
use Rattle.run_record.specs.Legal.{StampsDrawn, drawn_in}
use Rattle.run_record.specs.Openings.{log_of}
use Rattle.run_record.specs.declared.records.RunRecord.{RunRecord}

-- an element of joined lists stands in one of them
pub in_one : {X A : Type 0} (f : X → List A) (xs : List X) (a : A) → Contains (flat_map f xs) a → (i : ℕ) × (x : X) × (slice_get xs i ≡ Some x) × Contains (f x) a
in_one f [] a h = absurd (omega (arith, h.1))
in_one f (x ∷ xs) a h = elim (Contains-append_cases (f x) (flat_map f xs) a h) [
  | inl here ↦ (zero, x, refl, here)
  | inr later ↦ let at = in_one f xs a later in (suc at.0, at.1, at.2, at.3)
]

pub of_one : {X A : Type 0} (f : X → List A) (xs : List X) (i : ℕ) (x : X) (a : A) → slice_get xs i ≡ Some x → Contains (f x) a → Contains (flat_map f xs) a
of_one f [] i x a at h = absurd (cc)
of_one f (y ∷ xs) zero x a at h = let same : y ≡ x = cc in Contains-append_left (f y) (flat_map f xs) a (subst (λ z. Contains (f z) a) (sym same) h)
of_one f (y ∷ xs) (suc i) x a at h = Contains-append_right (f y) (flat_map f xs) a (of_one f xs i x a at h)

-- what a log drew stands among what all drew
to_all : (kept : RunRecord) (session : ℕ) (d : Drawn) → Contains (drawn_in (log_of kept session)) d → Contains (flat_map drawn_in kept.logs) d
to_all kept session d h = at (slice_get kept.logs (session - 1)) refl
  where
    at : (found : Option (List LogEntry)) → slice_get kept.logs (session - 1) ≡ found → Contains (flat_map drawn_in kept.logs) d
    at (Some log) e = of_one drawn_in kept.logs (session - 1) log d e (subst (λ (o : Option (List LogEntry)). Contains (drawn_in (unwrap_or o [])) d) e h)
    at None e = let none : Contains [] d = subst (λ (o : Option (List LogEntry)). Contains (drawn_in (unwrap_or o [])) d) e h in absurd (omega (arith, none.1))

to_session : (kept : RunRecord) (d : Drawn) → Contains (flat_map drawn_in kept.logs) d → (session : ℕ) × Contains (drawn_in (log_of kept session)) d
to_session kept d h =
    let at = in_one drawn_in kept.logs d h in
    let same : slice_get kept.logs (suc at.0 - 1) ≡ Some at.1 = ap (slice_get kept.logs) (let n : suc at.0 - 1 ≡ at.0 = omega arith in n) ∙ at.2 in
    (suc at.0, subst (λ (o : Option (List LogEntry)). Contains (drawn_in (unwrap_or o [])) d) (sym same) at.3)

-- the journal holds what some session's log drew
pub drawn_by_logs : (kept : RunRecord) → StampsDrawn kept → (d : Drawn) → Contains kept.journal d ↔ ((session : ℕ) × Contains (drawn_in (log_of kept session)) d)
drawn_by_logs kept h d = (λ there. to_session kept d ((h.drawn d).0 there), λ at. (h.drawn d).1 (to_all kept at.0 d at.1))

pub of_logs : (kept : RunRecord) → ((d : Drawn) → Contains kept.journal d ↔ ((session : ℕ) × Contains (drawn_in (log_of kept session)) d)) → (d : Drawn) → Contains kept.journal d ↔ Contains (flat_map drawn_in kept.logs) d
of_logs kept both d = (λ there. let at = (both d).0 there in to_all kept at.0 d at.1, λ h. (both d).1 (to_session kept d h))
