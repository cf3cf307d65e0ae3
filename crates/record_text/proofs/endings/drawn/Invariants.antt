use Rattle.std.proofs.Common.{◌≡◌, drop}
use Rattle.record_text.specs.Scaffold.Reading.{drawn}
use Rattle.record_text.proofs.endings.drawn.Given as goal

-- what is left decides
abbrev pub invariant-loop-entry : goal.invariant-loop-entry
invariant-loop-entry l = drawn l.entries ≡ drawn (drop l.entry-index l.entries)
