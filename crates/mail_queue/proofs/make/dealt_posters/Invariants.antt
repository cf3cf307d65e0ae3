use Rattle.std.proofs.Common.{◌≡◌, ◌-◌, map}
use Rattle.crossbeam_queue.specs.Passes.{IsSamePass, view}
use Rattle.std.specs.List.{range_with_len}
use Rattle.mail_queue.specs.Tokens.{new_poster}
use Rattle.mail_queue.specs.Insides.{mail_of}
use Rattle.mail_queue.proofs.make.dealt_posters.Given as goal

abbrev pub invariant-loop-number : goal.invariant-loop-number
invariant-loop-number g l =
    IsSamePass l.fn.keeper l.keeper × (view l.keeper ≡ record (view l.fn.keeper) { posters = range_with_len l.number (l.count - l.number) })
    × (l.made.items ≡ map (new_poster (mail_of l.fn.keeper)) (range_with_len 0 l.number))
