use Rattle.std.proofs.Common.{◌≡◌, ◌++◌, ◌∷◌, take}
use Rattle.std.specs.Prelude.{flat_map}
use Rattle.one_thread.specs.Text.{quoted}
use Rattle.one_thread.proofs.printing.words.put_text.Given as goal

-- the first quote and the bytes so far
abbrev pub invariant-loop-byte : goal.invariant-loop-byte
invariant-loop-byte l = l.out.items ≡ l.fn.out.items ++ 0x27 ∷ flat_map quoted (take l.byte-index l.text)
