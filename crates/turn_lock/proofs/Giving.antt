-- What a holder gives back: the history that it took, or that and one more entry.
use Rattle.std.proofs.Common.{◌≡◌, ◌≢◌, List, [], ◌∷◌, ◌++◌, Option, Some, true, length, refl, ap, sym, subst, ◌∙◌, inl, inr, arith, length-append}
use Rattle.atomic_table.specs.Table.{Me}
use Rattle.turn_lock.specs.declared.view.View.{View}
use Rattle.turn_lock.specs.declared.view.Start.{Start}
use Rattle.turn_lock.specs.Pass.{AddsAtMostOne, StandIn}
use Rattle.turn_lock.specs.View.{first_root, entered}
use Rattle.turn_lock.proofs.Owning.{own_more}

module _ {E : Type 0} where
  -- the same of equal lists
  pub AddsAtMostOne-same : (seen seen' log log' : List E) → seen' ≡ seen → log' ≡ log → AddsAtMostOne seen log → AddsAtMostOne seen' log'
  AddsAtMostOne-same seen seen' log log' e e' (inl same) = inl (e' ∙ same ∙ sym e)
  AddsAtMostOne-same seen seen' log log' e e' (inr more) = inr (more.0, e' ∙ more.1 ∙ ap (λ l. l ++ more.0 ∷ []) (sym e))

  pub none_added : (seen log : List E) → AddsAtMostOne seen log → length log ≡ length seen → log ≡ seen
  none_added seen log (inl same) e = same
  none_added seen log (inr more) e = absurd (omega (arith, ap length more.1, length-append seen (more.0 ∷ [])))

  pub one_added : (seen log : List E) → AddsAtMostOne seen log → length log ≢ length seen → (entry : E) × (log ≡ seen ++ entry ∷ [])
  one_added seen log (inl same) n = absurd (n (ap length same))
  one_added seen log (inr more) n = more

-- a value has the root that the pass was told
pub root_kept : {R : Type 0} (starts : List (Start R)) (start : Start R) (root : R) → starts ≡ start ∷ [] → first_root starts ≡ Some root → root ≡ start.root
root_kept starts start root is e = let same : Some root ≡ Some start.root = sym e ∙ ap first_root is in cc

-- the holder's seat before, and after the value x was laid into its slot
pub record IsBack {V E R : Type 0} (history : V → List E) (before after : Me (Option V) (View E R)) (x : V) : Type 0 where
  pub now : after ≡ (after.0, (0, Some x) ∷ [])
  pub holds : after.0.holds ≡ true
  pub seen : history x ≡ after.0.seen
  pub numbers : after.0.numbers ≡ before.0.numbers
  pub starts : after.0.starts ≡ before.0.starts
  pub own : StandIn before.0.mine before.0.seen → StandIn after.0.mine after.0.seen

pub is_back : {V E R : Type 0} (history : V → List E) (m n : Me (Option V) (View E R)) (x : V) → m.0.holds ≡ true → AddsAtMostOne m.0.seen (history x)
    → (history x ≡ m.0.seen → n ≡ (m.0, (0, Some x) ∷ []))
    → ((entry : E) → history x ≡ m.0.seen ++ entry ∷ [] → n ≡ (entered m.0 entry, (0, Some x) ∷ []))
    → IsBack history m n x
is_back history m n x holds (inl same) as_it_was added = subst (λ k. IsBack history m k x) (sym (as_it_was same)) record { now = refl; holds = holds; seen = same; numbers = refl; starts = refl; own = λ h. h }
is_back history m n x holds (inr more) as_it_was added = subst (λ k. IsBack history m k x) (sym (added more.0 more.1)) record { now = refl; holds = holds; seen = more.1; numbers = refl; starts = refl; own = λ h. own_more m.0.mine m.0.seen more.0 h }
