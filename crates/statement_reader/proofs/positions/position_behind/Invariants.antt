use Rattle.std.proofs.Common.{◌≡◌, ◌+◌, ◌≤◌, take, not, ◌==◌}
use Rattle.std.specs.List.{count_by, suffix_len}
use Rattle.statement_reader.proofs.positions.position_behind.Given as goal

abbrev pub invariant-loop-byte : goal.invariant-loop-byte
invariant-loop-byte l = record {
  line : l.position.line ≡ 1 + count_by (λ b. b == 10) (take l.byte-index l.before);
  column : l.position.column ≡ 1 + suffix_len (λ b. not (b == 10)) (take l.byte-index l.before);
  few_lines : l.position.line ≤ 1 + l.byte-index;
  few_columns : l.position.column ≤ 1 + l.byte-index;
}
