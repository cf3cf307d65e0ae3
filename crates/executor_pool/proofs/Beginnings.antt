-- Lists that begin others.
use Rattle.std.proofs.Common.{List, ◌++◌, ap, sym, ◌∙◌, subst, Contains}
use Rattle.std.proofs.lemmas.List.{append_assoc}
use Rattle.std.proofs.lemmas.List.Elements.{Contains-append_left}
use mathlib.Core.List.{IsPrefix}

pub prefix_after : {X : Type 0} (xs ys zs : List X) → IsPrefix xs ys → IsPrefix ys zs → IsPrefix xs zs
prefix_after xs ys zs a b = (a.0 ++ b.0, sym (append_assoc xs a.0 b.0) ∙ ap (λ l. l ++ b.0) a.1 ∙ b.1)

-- what a list begins with stands in it
pub in_prefix : {X : Type 0} (xs log : List X) (x : X) → IsPrefix xs log → Contains xs x → Contains log x
in_prefix xs log x h c = subst (λ l. Contains l x) h.1 (Contains-append_left xs h.0 x c)
