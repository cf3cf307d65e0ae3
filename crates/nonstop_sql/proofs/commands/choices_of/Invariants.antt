-- The choices so far are those of the words so far.
use Rattle.std.proofs.Common.{map, string_bytes, take}
use Rattle.std.specs.List.{AllZip}
use Rattle.nonstop_sql.specs.Commands.{IsChoice, other_words}
use Rattle.nonstop_sql.proofs.commands.choices_of.Given as goal

abbrev pub invariant-loop-word : goal.invariant-loop-word
invariant-loop-word l = AllZip IsChoice (other_words (map string_bytes (take l.word-index l.fn.words))) l.choices
