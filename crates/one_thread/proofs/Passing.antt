-- One cell more, in a walk up to the first record that fails.
use Rattle.std.proofs.Common.{◌≡◌, ◌<◌, ◌≤◌, ◌+◌, ℕ, zero, suc, List, [], ◌∷◌, ◌++◌, length, get_or, take, drop, Some, None, Option, Bool, true, false, cond, refl, ap, sym, ◌∙◌, arith}
use Rattle.std.specs.Prelude.{count_by}
use Rattle.std.specs.List.{cons_option, filter_map}
use Rattle.std.proofs.lemmas.List.{drop_more}
use Rattle.std.proofs.lemmas.List.Sums.{count_by_more_no, count_by_more_yes}
use Rattle.sql_base.specs.declared.outcomes.Abort.{Abort}
use Rattle.one_thread.specs.Scaffold.Scans.{first_abort}
use Rattle.one_thread.specs.declared.cells.Cell.{Cell}
use Rattle.sql_base.specs.OnRows.{or_later}

pub abort_more : (abort_at : Cell → Option Abort) (cells : List Cell) (i : ℕ) (d : Cell) → i < length cells → abort_at (get_or cells i d) ≡ None
    → first_abort abort_at cells ≡ first_abort abort_at (drop i cells) → first_abort abort_at cells ≡ first_abort abort_at (drop (i + 1) cells)
abort_more abort_at cells i d lt none so_far =
    so_far ∙ ap (first_abort abort_at) (drop_more cells i d lt) ∙ ap (λ o. or_later o (first_abort abort_at (drop (i + 1) cells))) none

pub abort_here : (abort_at : Cell → Option Abort) (cells : List Cell) (i : ℕ) (d : Cell) (abort : Abort) → i < length cells → abort_at (get_or cells i d) ≡ Some abort
    → first_abort abort_at cells ≡ first_abort abort_at (drop i cells) → first_abort abort_at cells ≡ Some abort
abort_here abort_at cells i d abort lt here so_far =
    so_far ∙ ap (first_abort abort_at) (drop_more cells i d lt) ∙ ap (λ o. or_later o (first_abort abort_at (drop (i + 1) cells))) here

cons_both : {B : Type 0} (o : Option B) (xs ys zs : List B) → xs ≡ ys ++ zs → cons_option o xs ≡ cons_option o ys ++ zs
cons_both (Some y) xs ys zs e = ap (λ more. y ∷ more) e
cons_both None xs ys zs e = e

only_one : {B : Type 0} (o : Option B) → cons_option o [] ≡ [] ++ cons_option o []
only_one o = refl

more : {A B : Type 0} (g : A → Option B) (xs : List A) (i : ℕ) (d : A) → i < length xs → filter_map g (take (suc i) xs) ≡ filter_map g (take i xs) ++ cons_option (g (get_or xs i d)) []
more g [] i d lt = absurd (omega arith)
more g (x ∷ xs) zero d lt = only_one (g x)
more g (x ∷ xs) (suc i) d lt = cons_both (g x) (filter_map g (take (suc i) xs)) (filter_map g (take i xs)) (cons_option (g (get_or xs i d)) []) (more g xs i d (omega arith))

pub filter_map_more : {A B : Type 0} (g : A → Option B) (xs : List A) (i : ℕ) (d : A) → i < length xs → filter_map g (take (i + 1) xs) ≡ filter_map g (take i xs) ++ cons_option (g (get_or xs i d)) []
filter_map_more g xs i d lt =
    let next : i + 1 ≡ suc i = omega arith in
    ap (λ n. filter_map g (take n xs)) next ∙ more g xs i d lt

pub counted_more : {A : Type 0} (p : A → Bool) (xs : List A) (i : ℕ) (d : A) (b : Bool) → i < length xs → b ≡ p (get_or xs i d) → count_by p (take (i + 1) xs) ≡ count_by p (take i xs) + cond b 1 0
counted_more p xs i d true lt is = count_by_more_yes p xs i d lt (sym is)
counted_more p xs i d false lt is = count_by_more_no p xs i d lt (sym is) ∙ omega arith

pub at_most_one : (b : Bool) → cond b 1 0 ≤ 1
at_most_one true = omega arith
at_most_one false = omega arith
