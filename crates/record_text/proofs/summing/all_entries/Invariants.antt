use Rattle.std.proofs.Common.{◌≡◌, ◌≤◌, ◌*◌, ◌^◌, length, take}
use Rattle.std.specs.Prelude.{sum_by}
use Rattle.record_text.proofs.summing.all_entries.Given as goal

-- those of the histories so far, which are fewer than 2^64 of one history
abbrev pub invariant-loop-history : goal.invariant-loop-history
invariant-loop-history l = (l.count ≡ sum_by (λ history. length history) (take l.history-index l.histories)) × (l.count ≤ l.history-index * 2 ^ 64)
