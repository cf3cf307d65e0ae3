-- What the last state tells the seat that has taken in all passes.
use Rattle.std.proofs.Common.{◌≡◌, ◌≢◌, ℕ, ◌<◌, ◌≤◌, List, [], ◌∷◌, length, map, Option, Some, sym, ◌∙◌, subst, arith, All, Contains}
use Rattle.std.specs.List.{AllByRecursion, enumerate_from}
use Rattle.std.specs.List.Sorted.{IsPermutation}
use Rattle.std.proofs.lemmas.List.Elements.{All-nil, All-cons}
use Rattle.std.proofs.lemmas.List.Sorted.{IsPermutation-sym, IsPermutation-trans, Contains-permutation}
use mathlib.Core.Logic.{dite}
use mathlib.Core.List.{IsPrefix}
use mathlib.Core.Option.{some, some-injective}
use native.Mathlib.Decide.{ℕ_discrete}
use lib.ListN.{get_elem?}
use Rattle.atomic_table.specs.Table.{Final, Seen}
use Rattle.turn_lock.specs.declared.view.Start.{Start}
use Rattle.turn_lock.specs.declared.view.View.{View}
use Rattle.turn_lock.specs.Pass.{PassState, HasRoot, IsMadeOf, StandIn}
use Rattle.turn_lock.specs.Gather.{Gathers}
use Rattle.turn_lock.specs.View.{own}
use Rattle.turn_lock.proofs.Counts.{times, times-Contains, nowhere}
use Rattle.turn_lock.proofs.Shares.{flat_map-alone}
use Rattle.turn_lock.proofs.Seats.{Rule, apart, is_drawn, holder_has, not_holder}

pub All-by_recursion : {A : Type 0} (P : A → Type 0) (xs : List A) → AllByRecursion P xs → All P xs
All-by_recursion P [] h = All-nil P
All-by_recursion P (x ∷ xs) h = All-cons P x xs h.0 (All-by_recursion P xs h.1)

-- a list is not empty whose image has an element
pub some_there : {A : Type 0} (f : A → ℕ) (xs : List A) (n : ℕ) → Contains (map f xs) n → 0 < length xs
some_there f [] n h = absurd (omega (arith, h.1))
some_there f (x ∷ xs) n h = omega arith

module _ {V E R : Type 0} (history : V → List E) (root_of : V → R) where
  -- the value of the slots xs has the root and the histories of these passes, and is made of their entries
  pub record IsEnd (xs : List (Option V)) (passes : List (PassState E R)) (value : V) : Type 0 where
    pub at_home : get_elem? xs 0 ≡ some (Some value)
    pub roots : All (λ p. HasRoot p (root_of value)) passes
    pub begins : All (λ p. IsPrefix p.seen (history value)) passes
    pub made : IsMadeOf (history value) passes
    pub own : All (λ p. StandIn p.mine p.seen) passes

  pub the_end_at : (xs : List (Option V)) (passes : List (PassState E R)) (o : Option V) (value : V) → (end : V) × IsEnd xs passes end → get_elem? xs 0 ≡ some o → o ≡ Some value → IsEnd xs passes value
  the_end_at xs passes o value end taken is =
      let same : Some end.0 ≡ Some value = some-injective _ _ (sym end.1.at_home ∙ taken) ∙ is in
      let same' : end.0 ≡ value = cc in
      subst (IsEnd xs passes) same' end.1

module _ {V E R : Type 0} (history : V → List E) (root_of : V → R) (start : Start R) where
  -- nobody else has a number, so the turn is free, and no other seat has entries
  pub the_end : (id : ℕ) (v : View E R) (passes : List (PassState E R)) (ws : List ℕ) (xs : List (Option V))
      → Gathers v passes → ((n : ℕ) → n < start.passes → Contains (map (λ (p : PassState E R). p.number) passes) n)
      → Final (Seen (Rule history root_of start) id v) ws xs → (value : V) × IsEnd history root_of xs passes value
  the_end id v passes ws xs g all final =
      let s = final.0 in
      let k = final.1.0 in
      let at = final.1.1 in
      let f = k.fits id v at in
      let here : (x : ℕ) → x < k.drawn → 1 ≤ times x v.numbers = λ x low. times-Contains x v.numbers (Contains-permutation _ _ x (IsPermutation-sym _ _ g.numbers) (all x (omega (arith, k.few.0)))) in
      let only_here : (j : ℕ) (u : View E R) (x : ℕ) → get_elem? s.views j ≡ some u → 1 ≤ times x u.numbers → j ≡ id =
      λ j u x e has. apart history root_of start s k j id u v x e at has (here x (is_drawn history root_of start s k j u x e has)) in
      let free : k.turn ≡ 0 = dite (ℕ_discrete k.turn 0) (λ e. e) (λ busy.
      let t = k.taken busy in
      absurd (not_holder history root_of start s id t.0 v t.1 at t.2 g.idle t.3 (only_here t.0 t.1 (own t.1.numbers) t.2 (holder_has history root_of start s k t.0 t.1 t.2 t.3)))) in
      let home = k.free free in
      let no_entry : (i : ℕ) (u : View E R) → i ≢ id → get_elem? s.views i ≡ some u → u.mine ≡ [] =
      λ i u ne e. ((k.fits i u e).no_number (nowhere u.numbers (λ x. dite (ℕ_discrete (times x u.numbers) 0) (λ z. z) (λ some-here. absurd (ne (only_here i u x e (omega arith))))))).0 in
      let entries : IsPermutation v.mine (enumerate_from 0 k.log) = subst (λ l. IsPermutation l (enumerate_from 0 k.log)) (flat_map-alone (λ (u : View E R). u.mine) s.views id v at no_entry) k.entries in (
        home.value,
        record {
          at_home = final.4 0 (Some home.value) home.at_home;
          roots = All-by_recursion (λ p. HasRoot p (root_of home.value)) passes (subst (λ (r : R). AllByRecursion (λ (p : PassState E R). HasRoot p r) passes) (sym home.root_is) (g.roots start f.starts));
          begins = All-by_recursion (λ p. IsPrefix p.seen (history home.value)) passes (subst (λ l. AllByRecursion (λ (p : PassState E R). IsPrefix p.seen l) passes) (sym home.history_is) (g.seen k.log f.merged f.seen));
          made = subst (λ l. IsMadeOf l passes) (sym home.history_is) (IsPermutation-trans _ _ _ (IsPermutation-sym _ _ g.mine) entries);
          own = All-by_recursion (λ p. StandIn p.mine p.seen) passes g.own;
        },
      )
