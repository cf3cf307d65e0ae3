use Rattle.std.proofs.Common.{rules, ◌≡◌, ◌<◌, true, false, length, get_or, ap, sym, ◌∙◌, arith}
use Rattle.std.specs.Option.{is_some}
use Rattle.std.proofs.lemmas.List.{get_or_default}
use Rattle.sql_base.specs.Keys.{key_eq}
use Rattle.one_thread.proofs.Spots.{above_new, above_same, below_front}
use Rattle.one_thread.proofs.inserting.spot_of.Goals as goal
use Rattle.sql_base.proofs.Orderings.{key_eq-same}

pub returns-then-not-is_eq : goal.returns-then-not-is_eq
returns-then-not-is_eq c =
    let cells = c.args.cells.now in
    let key = c.args.key.now in
    let at = c.count_below-at.result in
    let found = c.index-cells-at.result in
    let lt : at < length cells = omega (arith, c.count_below-at.ensures.within, c.if-at-cells.false) in
    let differ : key_eq found.key key ≡ false = search rules in (
      c.count_below-at.ensures.within,
      (
        below_front key cells at c.count_below-at.ensures.within c.count_below-at.ensures.below,
        above_new key cells at found lt c.requires c.count_below-at.ensures.below (ap (λ x. key_eq x.key key) (sym c.index-cells-at.is) ∙ differ),
      ),
    )

pub returns-in-Some : goal.returns-in-Some
returns-in-Some c =
    let cells = c.args.cells.now in
    let key = c.args.key.now in
    let at = c.count_below-at.result in
    let found = c.index-cells-at.result in
    let lt : at < length cells = omega (arith, c.count_below-at.ensures.within, c.if-at-cells.false) in
    let equal : key_eq found.key key ≡ true = search rules in
    let full : is_some found.row ≡ true = ap is_some c.in-Some.is in (
      at,
      lt,
      λ d. let here : found ≡ get_or cells at d = c.index-cells-at.is ∙ get_or_default cells at found d lt in
          (ap (λ x. x.key) (sym here) ∙ key_eq-same found.key key equal, ap (λ x. is_some x.row) (sym here) ∙ full),
    )

pub returns-in-None : goal.returns-in-None
returns-in-None c =
    let cells = c.args.cells.now in
    let key = c.args.key.now in
    let at = c.count_below-at.result in
    let found = c.index-cells-at.result in
    let lt : at < length cells = omega (arith, c.count_below-at.ensures.within, c.if-at-cells.false) in
    let equal : key_eq found.key key ≡ true = search rules in
    let empty : is_some found.row ≡ false = ap is_some c.in-None.is in
    let same : found.key ≡ key = key_eq-same found.key key equal in (
      lt,
      λ d. let here : found ≡ get_or cells at d = c.index-cells-at.is ∙ get_or_default cells at found d lt in
          (ap (λ x. x.key) (sym here) ∙ same, ap (λ x. is_some x.row) (sym here) ∙ empty),
      (below_front key cells at c.count_below-at.ensures.within c.count_below-at.ensures.below, above_same key cells at found lt c.requires (ap (λ x. x.key) (sym c.index-cells-at.is) ∙ same)),
    )
