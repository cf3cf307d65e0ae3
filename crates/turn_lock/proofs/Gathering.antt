-- One seat takes in the seats of all passes.
use Rattle.std.proofs.Common.{◌≡◌, ℕ, List, [], ◌∷◌, ◌++◌, map, Option, Some, false, sym, ap, ◌∙◌, subst, All}
use Rattle.std.specs.List.{AllByRecursion}
use Rattle.std.specs.List.Sorted.{IsPermutation}
use Rattle.std.proofs.lemmas.List.{append-nil}
use Rattle.std.proofs.lemmas.List.Elements.{All-pop}
use Rattle.std.proofs.lemmas.List.Sorted.{IsPermutation-refl}
use mathlib.Core.List.{IsPrefix}
use Rattle.atomic_table.specs.Seated.{TableId}
use Rattle.atomic_table.specs.Table.{Me}
use Rattle.turn_lock.specs.declared.view.Start.{Start}
use Rattle.turn_lock.specs.declared.view.View.{View}
use Rattle.turn_lock.specs.Pass.{LockId, PassState}
use Rattle.turn_lock.specs.View.{first_root, rejoined, shown, IsSeatOf}
use Rattle.turn_lock.specs.Gather.{Gathers}
use Rattle.turn_lock.proofs.Seats.{AllByRecursion-parts}
use Rattle.turn_lock.proofs.Shares.{IsPermutation-turned}

root_told : {R : Type 0} (s : Start R) (starts : List (Start R)) (start : Start R) → starts ≡ start ∷ [] → AllByRecursion (λ x. x ≡ s) starts → first_root starts ≡ Some s.root
root_told s starts start is all = ap first_root is ∙ ap (λ (x : Start _). Some x.root) (subst (AllByRecursion (λ x. x ≡ s)) is all).0

module _ {V E R : Type 0} (lock : LockId) (number passes_of : ℕ) (me : Me (Option V) (View E R)) where
  -- the pass whose seat this is
  abbrev pub its_pass : PassState E R
  its_pass = shown lock number me.0

  pub gathers_one : IsSeatOf number passes_of me → me.0.holds ≡ false → Gathers me.0 (its_pass ∷ [])
  gathers_one its idle = record {
    idle = idle;
    numbers = subst (λ l. IsPermutation l (number ∷ [])) (sym its.numbered) (IsPermutation-refl (number ∷ []));
    mine = subst (IsPermutation me.0.mine) (sym (append-nil me.0.mine)) (IsPermutation-refl me.0.mine);
    roots = λ s all. (root_told s me.0.starts its.start its.started all, tt);
    seen = λ log merged seen. (seen, tt);
    own = (its.own, tt);
  }

  pub gathers_more : (v : View E R) (passes : List (PassState E R)) → Gathers v passes → IsSeatOf number passes_of me → Gathers (rejoined v me.0) (its_pass ∷ passes)
  gathers_more v passes g its = record {
    idle = g.idle;
    numbers = subst (λ l. IsPermutation (v.numbers ++ l) (number ∷ map (λ (p : PassState E R). p.number) passes)) (sym its.numbered) (IsPermutation-turned v.numbers (number ∷ []) _ g.numbers);
    mine = IsPermutation-turned v.mine me.0.mine _ g.mine;
    roots = λ s all. let parts = AllByRecursion-parts (λ x. x ≡ s) v.starts me.0.starts all in
        (root_told s me.0.starts its.start its.started parts.1, g.roots s parts.0);
    seen = λ log merged seen.
        let parts = AllByRecursion-parts (λ x. IsPrefix x log) (v.merged ++ me.0.merged) (v.seen ∷ me.0.seen ∷ []) merged in
        let before = AllByRecursion-parts (λ x. IsPrefix x log) v.merged me.0.merged parts.0 in
        (parts.1.1.0, g.seen log before.0 parts.1.0);
    own = (its.own, g.own);
  }

-- the last of the passes is one of the lock and does not hold the turn, and so are those before it
pub record IsLast {E R : Type 0} (lock : LockId) (left : List (PassState E R)) (last : PassState E R) : Type 0 where
  pub of_lock : last.lock ≡ lock
  pub idle : last.holds ≡ false
  pub left_of_lock : All (λ p. p.lock ≡ lock) left
  pub left_idle : All (λ p. p.holds ≡ false) left

pub popped : {E R : Type 0} (lock : LockId) (passes left : List (PassState E R)) (last : PassState E R) → passes ≡ left ++ last ∷ [] → All (λ p. p.lock ≡ lock) passes → All (λ p. p.holds ≡ false) passes → IsLast lock left last
popped lock passes left last parts of_lock idle =
    let a = All-pop (λ p. p.lock ≡ lock) passes left (Some last) parts of_lock in
    let b = All-pop (λ p. p.holds ≡ false) passes left (Some last) parts idle in
    record { of_lock = a.1; idle = b.1; left_of_lock = a.0; left_idle = b.0 }

-- what holds while a seat takes in the seats of the passes, the last one first
pub record IsGathering {V E R : Type 0} (table : TableId) (lock : LockId) (all left : List (PassState E R)) (its_table : TableId) (me : Me (Option V) (View E R)) : Type 0 where
  pub at_table : its_table ≡ table
  pub nothing_out : me.1 ≡ []
  pub of_lock : All (λ p. p.lock ≡ lock) left
  pub idle : All (λ p. p.holds ≡ false) left
  pub taken_in : List (PassState E R)
  pub parts : all ≡ left ++ taken_in
  pub gathers : Gathers me.0 taken_in
