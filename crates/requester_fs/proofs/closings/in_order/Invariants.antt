use Rattle.std.proofs.Common.{◌≡◌, filter, ◌++◌, ◌-◌}
use Rattle.std.specs.List.{range_with_len}
use Rattle.session_laws.specs.Scaffold.Machine.{has_seen}
use Rattle.requester_fs.proofs.closings.in_order.Given as goal

abbrev pub invariant-loop-part : goal.invariant-loop-part
invariant-loop-part l = l.list ++ filter (has_seen l.seen) (range_with_len l.part (l.parts - l.part)) ≡ filter (has_seen l.seen) (range_with_len 0 l.parts)
