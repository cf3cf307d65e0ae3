use Rattle.std.proofs.Common.{◌≡◌, ◌+◌, drop, false, []}
use Rattle.statement_words.specs.Words.{text_from}
use Rattle.statement_words.proofs.texts.text_from.Given as goal

abbrev pub invariant-loop-byte : goal.invariant-loop-byte
invariant-loop-byte l = record {
  counted : l.len ≡ 1 + l.byte-index;
  same : text_from l.at l.len (record { text = l.text; quoted = l.quoted }) (drop l.byte-index l.bytes) ≡ text_from l.at 1 (record { text = []; quoted = false }) l.bytes;
}
