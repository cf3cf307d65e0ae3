use Rattle.std.proofs.Common.{◌≡◌, ◌++◌, ◌∷◌, take}
use Rattle.one_thread.specs.Text.{key_text}
use Rattle.one_thread.proofs.printing.words.put_key.Given as goal

-- the digits of the bytes so far
abbrev pub invariant-loop-byte : goal.invariant-loop-byte
invariant-loop-byte l = l.out.items ≡ l.fn.out.items ++ 0x20 ∷ key_text (take l.byte-index l.byte-items)
