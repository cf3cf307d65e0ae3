use Rattle.std.proofs.Common.{◌≡◌, drop, map}
use Rattle.range_finder.specs.Range.{best}
use Rattle.key_ranges.specs.Bounds.{bound_of}
use Rattle.key_ranges.specs.Texts.{best_from, better, texts_of}
use Rattle.key_ranges.proofs.texts.text_left.Given as goal

-- the best of the text so far and those that are left is the best of all
abbrev pub invariant-loop-bound : goal.invariant-loop-bound
invariant-loop-bound l =
    best_from l.side l.kept (texts_of l.side l.column l.width (map bound_of (drop l.bound-index l.bounds))) ≡ best (better l.side) (texts_of l.side l.column l.width (map bound_of l.bounds))
