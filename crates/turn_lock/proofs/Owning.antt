-- The entries of a pass stand in what it has seen, also once it has seen more or added one.
use Rattle.std.proofs.Common.{◌≡◌, ◌≤◌, ◌<◌, ℕ, zero, suc, ◌+◌, List, [], ◌∷◌, ◌++◌, Some, length, refl, ap, sym, ◌∙◌, subst, arith}
use Rattle.std.proofs.lemmas.Option.{slice_get_within}
use Rattle.std.specs.Prelude.{slice_get}
use Rattle.std.specs.List.{AllByRecursion}
use mathlib.Core.List.{IsPrefix}
use Rattle.turn_lock.specs.Pass.{RisesFrom, StandIn}
use Rattle.turn_lock.proofs.Seats.{AllByRecursion-append, AllByRecursion-weaker}

module _ {E : Type 0} where
  at_front : (xs ys : List E) (i : ℕ) (x : E) → slice_get xs i ≡ Some x → slice_get (xs ++ ys) i ≡ Some x
  at_front [] ys i x e = cc
  at_front (y ∷ xs) ys zero x e = e
  at_front (y ∷ xs) ys (suc i) x e = at_front xs ys i x e

  at_end : (xs : List E) (x : E) → slice_get (xs ++ x ∷ []) (length xs) ≡ Some x
  at_end [] x = refl
  at_end (y ∷ xs) x = at_end xs x

  -- an entry behind them all
  rise_more : (least : ℕ) (mine : List (ℕ × E)) (place : ℕ) (e : E) → least ≤ place → AllByRecursion (λ own. own.0 < place) mine → RisesFrom least mine → RisesFrom least (mine ++ (place, e) ∷ [])
  rise_more least [] place e low below h = (low, tt)
  rise_more least (own ∷ mine) place e low below h = let lt = below.0 in (h.0, rise_more (own.0 + 1) mine place e (omega (arith, lt)) below.1 h.1)

  pub own_none : (history : List E) → StandIn [] history
  own_none history = record { rise = tt; stand = tt }

  pub own_longer : (mine : List (ℕ × E)) (seen history : List E) → IsPrefix seen history → StandIn mine seen → StandIn mine history
  own_longer mine seen history longer h = record {
    rise = h.rise;
    stand = subst (λ (es : List E). AllByRecursion (λ own. slice_get es own.0 ≡ Some own.1) mine) longer.1
        (AllByRecursion-weaker (λ own. slice_get seen own.0 ≡ Some own.1) (λ own. slice_get (seen ++ longer.0) own.0 ≡ Some own.1) (λ own at. at_front seen longer.0 own.0 own.1 at) mine h.stand);
  }

  pub own_more : (mine : List (ℕ × E)) (seen : List E) (e : E) → StandIn mine seen → StandIn (mine ++ (length seen, e) ∷ []) (seen ++ e ∷ [])
  own_more mine seen e h =
      let low : 0 ≤ length seen = omega arith in
      record {
        rise = rise_more 0 mine (length seen) e low (AllByRecursion-weaker (λ own. slice_get seen own.0 ≡ Some own.1) (λ own. own.0 < length seen) (λ own at. slice_get_within seen own.0 own.1 at) mine h.stand) h.rise;
        stand = AllByRecursion-append (λ own. slice_get (seen ++ e ∷ []) own.0 ≡ Some own.1) mine ((length seen, e) ∷ [])
            (AllByRecursion-weaker (λ own. slice_get seen own.0 ≡ Some own.1) (λ own. slice_get (seen ++ e ∷ []) own.0 ≡ Some own.1) (λ own at. at_front seen (e ∷ []) own.0 own.1 at) mine h.stand)
            (at_end seen e, tt);
      }
