use Rattle.std.proofs.Common.{◌≡◌, ◌+◌, [], map}
use Rattle.std.specs.List.{range_with_len}
use Rattle.dp_messages.specs.declared.requests.Ask.TheVariants as ask
use Rattle.session_grammar.specs.declared.plans.Sent.{Sent}
use Rattle.statement_plans.proofs.plans.lock_table.Given as goal

-- the requests to the partitions so far
abbrev pub invariant-loop-part : goal.invariant-loop-part
invariant-loop-part l = l.sents ≡ map {B = Sent} (λ part. record { part = l.first + part; ask = ask.LockGranule [] l.mode }) (range_with_len 0 l.part)
