use Rattle.std.proofs.Common.{◌≡◌, ◌-◌}
use Rattle.std.specs.List.{range_with_len}
use Rattle.record_text.specs.Scaffold.Reading.{first_failure, most_parts}
use Rattle.record_text.proofs.endings.first_failure.Given as goal

-- none below failed
abbrev pub invariant-loop-part : goal.invariant-loop-part
invariant-loop-part l = first_failure l.entries (range_with_len 0 most_parts) ≡ first_failure l.entries (range_with_len l.part (most_parts - l.part))
