-- What the one seat knows that has taken in those of all passes.
use Rattle.std.specs.Prelude.{◌≡◌, List, map, false}
use Rattle.std.specs.List.{AllByRecursion, flat_map}
use Rattle.std.specs.List.Sorted.{IsPermutation}
use mathlib.Core.List.{IsPrefix}
use Rattle.turn_lock.specs.declared.view.Start.{Start}
use Rattle.turn_lock.specs.declared.view.View.{View}
use Rattle.turn_lock.specs.Pass.{PassState, HasRoot, StandIn}

-- the view v has what these passes had
pub record Gathers {E R : Type 0} (v : View E R) (passes : List (PassState E R)) : Type 0 where
  pub idle : v.holds ≡ false
  pub numbers : IsPermutation v.numbers (map (λ p. p.number) passes)
  pub mine : IsPermutation v.mine (flat_map (λ p. p.mine) passes)
  -- what it knows of the root, and of the history, is told of all of them
  pub roots : (start : Start R) → AllByRecursion (λ x. x ≡ start) v.starts → AllByRecursion (λ p. HasRoot p start.root) passes
  pub seen : (log : List E) → AllByRecursion (λ xs. IsPrefix xs log) v.merged → IsPrefix v.seen log → AllByRecursion (λ p. IsPrefix p.seen log) passes
  pub own : AllByRecursion (λ p. StandIn p.mine p.seen) passes
