use Rattle.std.proofs.Common.{◌≡◌, ℕ, zero, suc, ◌+◌, ◌<◌, [], ◌∷◌, ◌++◌, List, map, Contains, sym, ap, ◌∙◌, subst, arith}
use Rattle.turn_lock.specs.Pass.{PassState}
use Rattle.worked_rows.proofs.turns.close_both.Goals as goal

-- of these two, each number below 2
each_of_two : (items : List ℕ) (n : ℕ) → items ≡ 1 ∷ 0 ∷ [] → n < 2 → Contains items n
each_of_two items n is low = subst (λ l. Contains l n) (sym is) (by_number n low)
  where
    by_number : (n : ℕ) → n < 2 → Contains (1 ∷ 0 ∷ []) n
    by_number zero low = (1, omega arith, Rattle.std.proofs.Common.refl)
    by_number (suc n) low = let e : 1 ≡ suc n = omega arith in (0, omega arith, e)

pub close_with-requires-clause-all : goal.close_with-requires-clause-all
close_with-requires-clause-all g c =
    let number = λ (p : PassState _ _). p.number in
    let items = c.in_ok-push-2.ensures.items ∙ ap (λ l. l ++ c.args.zero ∷ []) (c.in_ok-push.ensures.items ∙ ap (λ l. l ++ c.args.one ∷ []) c.requires.lock.1) in
    let numbers = ap (map number) items ∙ ap (λ (n : ℕ). n ∷ c.args.zero.number ∷ []) c.requires.one.1 ∙ ap (λ (n : ℕ). 1 ∷ n ∷ []) c.requires.zero.1 in
    λ n low. each_of_two _ n numbers (subst (λ (k : ℕ). n < k) c.requires.lock.0 low)
